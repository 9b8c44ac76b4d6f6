-- The pages below the tip are in the blob, whatever call ended well.
use Rattle.std.proofs.Common.{ℕ, List, Ok, Err, Result}
use Rattle.std.specs.Prelude.{IfOk}
use Rattle.disk.specs.Disk.{Life}
use Rattle.disk.specs.declared.error.Error.{Error}
use Rattle.cache.specs.CacheState.{CacheState}
use Rattle.writer_state.specs.WriterState.{WriterState}
use Rattle.writer_state.specs.Sound.{IsConsistent, IsSound}
use Rattle.crash.specs.Looks.{Looked}
use Rattle.writer_state.proofs.FlushLaws.{tip_reach}
use Rattle.writer_state.proofs.Soundness.{looked_sound}
use Rattle.paged.specs.Reads.{HasWriterPages}
use Rattle.paged.specs.Recovers.{Recovers}

pub consistent_has_pages : (sum : List ℕ → ℕ) (w : WriterState) (life : Life) → IsConsistent sum w life.present → HasWriterPages w life
unfolding IsConsistent
consistent_has_pages sum w life holds = (tip_reach sum w.page_size w.full_pages w.tip life.present.readable w.flushed holds.stands.tip_page).0

-- the pages are there after a recovery
pub recovered_sound : (sum : List ℕ → ℕ) (cache : CacheState) (capacity : ℕ) (old new : Life) (result : Result WriterState Error) → Recovers sum cache capacity old new result → IfOk result (λ w. IsSound sum w new.present)
recovered_sound sum cache capacity old new (Ok w) is = is.sound
recovered_sound sum cache capacity old new (Err e) refused = tt

-- a read keeps soundness
pub reads_keep_sound : (sum : List ℕ → ℕ) (w : WriterState) (old new : Life) → Looked old new → IsSound sum w old.present → IsSound sum w new.present
unfolding IsSound
reads_keep_sound sum w old new looked sound = looked_sound sum w old new sound looked
