use Rattle.std.proofs.Common.{take}
use Rattle.page.specs.Geometry.{EndWithin}
use Rattle.page.proofs.geometry.validate_read_ranges.Given as goal

abbrev pub invariant-loop-offset : goal.invariant-loop-offset
invariant-loop-offset l = EndWithin l.size (take l.offset-index l.ranges)
