use Rattle.std.proofs.Common.{◌≡◌}
use Rattle.cache.specs.CacheState.{PutsAll}
use Rattle.cache.proofs.cache.CacheRef.cache.Given as goal

abbrev pub invariant-loop-index : goal.invariant-loop-index
invariant-loop-index l =
    PutsAll l.id l.first l.index l.buf l.initial.self l.self
    × (l.self.page_size ≡ l.initial.self.page_size)
