use Rattle.std.proofs.Common.{◌≡◌, take}
use Rattle.disk.specs.Disk.{bytes_of}
use Rattle.disk.proofs.ranges.copy_in_order.Given as goal

-- the list holds the bytes of the ranges so far
abbrev pub invariant-loop-offset : goal.invariant-loop-offset
invariant-loop-offset l = l.bufs.items ≡ bytes_of (take l.offset-index l.ranges) l.bytes
