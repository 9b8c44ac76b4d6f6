use Rattle.std.proofs.Common.{◌-◌}
use Rattle.segments.proofs.NthBegins.{IsCounting}
use Rattle.segments.proofs.seeking.count_to.Given as goal

abbrev pub decreases-loop-at : goal.decreases-loop-at
decreases-loop-at g l = l.last - l.at

abbrev pub invariant-loop-at : goal.invariant-loop-at
invariant-loop-at g l = IsCounting g.D.Digest.digest_of l.first l.count l.fn.content l.content l.left l.at
