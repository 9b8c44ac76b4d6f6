use Rattle.crash.specs.Looks.{Looked}
use Rattle.paged_read.specs.Replay.{CanReplay}
use Rattle.workloads.proofs.load.pass_all.Given as goal

abbrev pub invariant-loop : goal.invariant-loop
invariant-loop g l =
    CanReplay l.replay (g.B.Blob.life l.blob).present
    × Looked (g.B.Blob.life l.initial.blob) (g.B.Blob.life l.blob)
