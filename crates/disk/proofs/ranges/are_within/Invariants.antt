use Rattle.std.proofs.Common.{take}
use Rattle.disk.specs.Disk.{IsWithin}
use Rattle.disk.proofs.ranges.are_within.Given as goal

-- the ranges so far lie within
abbrev pub invariant-loop-offset : goal.invariant-loop-offset
invariant-loop-offset l = IsWithin (take l.offset-index l.ranges) l.bytes
