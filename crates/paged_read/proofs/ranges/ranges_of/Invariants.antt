use Rattle.std.proofs.Common.{◌≡◌, take}
use Rattle.paged_read.specs.Batch.{ranges_of}
use Rattle.paged_read.proofs.ranges.ranges_of.Given as goal

abbrev pub invariant-loop-offset : goal.invariant-loop-offset
invariant-loop-offset l = l.ranges.items ≡ ranges_of l.len (take l.offset-index l.offsets)
