use Rattle.cache.specs.Pages.{IsFresh}
use Rattle.bench.proofs.play.play_recoveries.Given as goal

abbrev pub invariant-loop : goal.invariant-loop
invariant-loop g l = IsFresh l.stage.value.cache
