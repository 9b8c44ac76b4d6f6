use Rattle.std.proofs.Common.{length}
use Rattle.cache.proofs.Chains.{Walked}
use Rattle.cache.proofs.walk.walk.Given as goal

abbrev pub invariant-loop : goal.invariant-loop
invariant-loop l = Walked l.keys l.nexts (length l.keys) l.first l.key l.before l.slot l.counter
