use Rattle.paged.specs.Ready.{IsReady}
use Rattle.bench.proofs.work.append_synced.Given as goal

abbrev pub invariant-loop : goal.invariant-loop
invariant-loop g l = IsReady g.H.Sum.sum_of l.writer l.cache (g.B.Blob.life l.blob)
