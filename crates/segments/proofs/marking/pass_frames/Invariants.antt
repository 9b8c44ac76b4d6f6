use Rattle.std.proofs.Common.{◌-◌, length}
use Rattle.segments.proofs.Pushes.{IsPassing}
use Rattle.segments.proofs.marking.pass_frames.Given as goal

abbrev pub decreases-loop-at : goal.decreases-loop-at
decreases-loop-at l = length l.page - l.at

abbrev pub invariant-loop-at : goal.invariant-loop-at
invariant-loop-at l = IsPassing l.page l.first l.frames l.at
