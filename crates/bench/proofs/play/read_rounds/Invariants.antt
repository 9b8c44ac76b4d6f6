use Rattle.disk.specs.History.{life_of}
use Rattle.paged.specs.Ready.{IsReady}
use Rattle.bench.proofs.play.read_rounds.Given as goal

abbrev pub invariant-loop : goal.invariant-loop
invariant-loop g l = IsReady g.H.Sum.sum_of l.writer l.stage.cache (life_of l.stage.blob.inner.history)
