use Rattle.std.proofs.Common.{arith}
use Rattle.segments.proofs.Stepping.{comes_first}
use Rattle.segments.proofs.log.SegmentedLog.start.Goals as goal

pub returns : goal.returns
returns g c = grind (arith, comes_first)
