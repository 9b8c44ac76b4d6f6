use Rattle.std.proofs.Common.{arith}
use Rattle.segments.proofs.Surviving.{survives_same}
use Rattle.segments.proofs.log.SegmentedLog.wait_for_commit.Goals as goal

pub returns-clause-lasts : goal.returns-clause-lasts
returns-clause-lasts g c = grind (arith, survives_same)
