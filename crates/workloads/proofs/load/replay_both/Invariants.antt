use Rattle.paged.specs.Ready.{IsReady}
use Rattle.workloads.proofs.load.replay_both.Given as goal

abbrev pub invariant-loop-buffer : goal.invariant-loop-buffer
invariant-loop-buffer g l = IsReady g.H.Sum.sum_of l.writer l.cache (g.B.Blob.life l.blob)
