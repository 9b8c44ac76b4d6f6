use Rattle.cache.specs.Pages.{IsFresh}
use Rattle.workloads.proofs.reopen.play_reopens.Given as goal

abbrev pub invariant-loop : goal.invariant-loop
invariant-loop g l = IsFresh l.stage.cache

abbrev pub invariant-loop-number : goal.invariant-loop-number
invariant-loop-number g l = IsFresh l.stage.cache
