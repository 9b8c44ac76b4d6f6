use Rattle.std.proofs.Common.{take}
use Rattle.page.specs.Geometry.{EndWithin}
use Rattle.paged_read.specs.Batch.{ranges_of}
use Rattle.paged_read.proofs.ranges.validate_offsets.Given as goal

abbrev pub invariant-loop-offset : goal.invariant-loop-offset
invariant-loop-offset l = EndWithin l.size (ranges_of l.len (take l.offset-index l.offsets))
