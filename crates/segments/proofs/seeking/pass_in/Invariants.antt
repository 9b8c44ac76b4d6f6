use Rattle.std.proofs.Common.{◌-◌}
use Rattle.segments.proofs.Behind.{IsPassingTo}
use Rattle.segments.proofs.seeking.pass_in.Given as goal

abbrev pub decreases-loop-at : goal.decreases-loop-at
decreases-loop-at l = l.offset - l.at

abbrev pub invariant-loop-at : goal.invariant-loop-at
invariant-loop-at l = IsPassingTo l.bytes l.first l.offset l.frames l.at
