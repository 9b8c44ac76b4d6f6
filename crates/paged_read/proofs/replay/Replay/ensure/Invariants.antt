use Rattle.std.proofs.Common.{◌-◌}
use Rattle.paged_read.specs.Replay.{end_of}
use Rattle.paged_read.specs.Tail.{tail_size}
use Rattle.paged_read.proofs.Replays.{Reached}
use Rattle.paged_read.proofs.replay.Replay.ensure.Given as goal

abbrev pub invariant-loop-self : goal.invariant-loop-self
invariant-loop-self g l =
    Reached g.H.Sum.sum_of l.initial.self l.count l.self (g.B.Blob.life l.initial.blob)
    (g.B.Blob.life l.blob)

abbrev pub decreases-loop-self : goal.decreases-loop-self
decreases-loop-self g l = tail_size l.self.tail - end_of l.self
