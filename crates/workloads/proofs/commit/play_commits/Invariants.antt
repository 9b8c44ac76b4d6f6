use Rattle.cache.specs.Pages.{IsFresh}
use Rattle.workloads.proofs.commit.play_commits.Given as goal

abbrev pub invariant-loop : goal.invariant-loop
invariant-loop g l = IsFresh l.stage.cache

abbrev pub invariant-loop-each : goal.invariant-loop-each
invariant-loop-each g l = IsFresh l.stage.cache
