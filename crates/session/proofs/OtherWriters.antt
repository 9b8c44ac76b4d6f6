-- What a call of a writer leaves of the other blobs on its cache.
use Rattle.std.proofs.Common.{◌≡◌, refl, sym, ◌∙◌, subst}
use Rattle.std.specs.Prelude.{Option, Some, None}
use Rattle.writer_state.specs.WriterState.{WriterState}
use Rattle.cache.specs.CacheState.{CacheState, SameSettings}
use Rattle.paged_read.specs.Snapshots.{LeavesOthers}
use Rattle.session.specs.Others.{WriterLeavesOthers}

-- ---- the cache's settings

pub settings_same : (cache : CacheState) → SameSettings cache cache
settings_same cache = record { page_size = refl; capacity = refl; ids_given = refl }

pub settings_then : (cache between after : CacheState) → SameSettings cache between → SameSettings between after → SameSettings cache after
settings_then cache between after first second = record { page_size = second.page_size ∙ first.page_size; capacity = second.capacity ∙ first.capacity; ids_given = second.ids_given ∙ first.ids_given }

-- ---- what is left

-- by a call of the writer's blob, with a writer that goes on
pub others_on : (o : Option WriterState) (w v : WriterState) (cache after : CacheState) → o ≡ Some w → v.id ≡ w.id → LeavesOthers w.id cache after → SameSettings cache after → WriterLeavesOthers o (Some v) cache after
others_on o w v cache after at same others settings =
    subst (λ (x : Option WriterState). WriterLeavesOthers x (Some v) cache after) (sym at) (record { reads = λ t d other can. others t d other can; apart = λ id other is. other (is ∙ same); settings = settings })

-- by a call of the writer's blob that leaves no writer
pub others_gone : (o now : Option WriterState) (w : WriterState) (cache after : CacheState) → o ≡ Some w → now ≡ None → LeavesOthers w.id cache after → SameSettings cache after → WriterLeavesOthers o now cache after
others_gone o now w cache after at none others settings =
    subst (λ (x : Option WriterState). WriterLeavesOthers x now cache after) (sym at) (subst (λ (x : Option WriterState). WriterLeavesOthers (Some w) x cache after) (sym none) (record { reads = λ t d other can. others t d other can; apart = λ id other. tt; settings = settings }))

-- by a call of the writer's blob, with a writer that stays as it is
pub others_stay : (o : Option WriterState) (w : WriterState) (cache after : CacheState) → o ≡ Some w → LeavesOthers w.id cache after → SameSettings cache after → WriterLeavesOthers o o cache after
others_stay o w cache after at others settings = subst (λ (x : Option WriterState). WriterLeavesOthers x x cache after) (sym at) (record { reads = λ t d other can. others t d other can; apart = λ id other. other; settings = settings })

-- by a step that leaves the cache and the writer
pub others_here : (o : Option WriterState) (cache : CacheState) → WriterLeavesOthers o o cache cache
others_here o cache = record { reads = λ t d other can. can; apart = λ id other. other; settings = settings_same cache }
