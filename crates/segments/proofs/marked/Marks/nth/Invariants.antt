use Rattle.std.proofs.Common.{◌-◌}
use Rattle.segments.proofs.Halving.{IsHalving}
use Rattle.segments.proofs.marked.Marks.nth.Given as goal

abbrev pub decreases-loop-low : goal.decreases-loop-low
decreases-loop-low g l = l.high - l.low

abbrev pub invariant-loop-low : goal.invariant-loop-low
invariant-loop-low g l = IsHalving g.D.Digest.digest_of l.n l.fn.self l.self l.low l.high
