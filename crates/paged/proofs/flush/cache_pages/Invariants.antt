use Rattle.std.proofs.Common.{◌≡◌}
use Rattle.std.specs.List.{concat}
use Rattle.cache.specs.CacheState.{PutsAll}
use Rattle.paged.proofs.flush.cache_pages.Given as goal

abbrev pub invariant-loop-index : goal.invariant-loop-index
invariant-loop-index l =
    PutsAll l.id l.first l.index (concat l.pages) l.initial.cache l.cache
    × (l.cache.page_size ≡ l.initial.cache.page_size)
