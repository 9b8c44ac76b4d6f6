use Rattle.std.proofs.Common.{arith}
use Rattle.segments.proofs.Surviving.{survives}
use Rattle.segments.proofs.log.SegmentedLog.append_here.Goals as goal

pub returns-clause-lasts : goal.returns-clause-lasts
returns-clause-lasts g c = grind (arith, survives)
