use Rattle.std.proofs.Common.{arith}
use Rattle.segments.proofs.Readings.{reads_current}
use Rattle.segments.proofs.Joining.{leaves_current}
use Rattle.segments.proofs.log.SegmentedLog.read.Goals as goal

pub returns-then-place-open-clause-goes : goal.returns-then-place-open-clause-goes
returns-then-place-open-clause-goes g c = grind (arith, reads_current, leaves_current)
