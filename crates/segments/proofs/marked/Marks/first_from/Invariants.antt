use Rattle.std.proofs.Common.{◌-◌}
use Rattle.segments.proofs.MarksRead.{IsSeeking}
use Rattle.segments.proofs.marked.Marks.first_from.Given as goal

abbrev pub decreases-loop-mark : goal.decreases-loop-mark
decreases-loop-mark g l = l.count - l.i

abbrev pub invariant-loop-mark : goal.invariant-loop-mark
invariant-loop-mark g l = IsSeeking g.D.Digest.digest_of l.page l.fn.self l.self l.i l.mark
