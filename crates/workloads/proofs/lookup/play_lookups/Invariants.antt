use Rattle.cache.specs.Pages.{IsFresh}
use Rattle.workloads.proofs.lookup.play_lookups.Given as goal

abbrev pub invariant-loop : goal.invariant-loop
invariant-loop g l = IsFresh l.stage.cache
