use Rattle.paged.specs.Ready.{IsReady}
use Rattle.bench.proofs.work.read_all.Given as goal

abbrev pub invariant-loop-offset : goal.invariant-loop-offset
invariant-loop-offset g l = IsReady g.H.Sum.sum_of l.writer l.cache (g.B.Blob.life l.blob)
