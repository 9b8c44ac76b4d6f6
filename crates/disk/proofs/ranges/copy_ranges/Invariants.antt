use Rattle.std.proofs.Common.{◌≡◌, take}
use Rattle.disk.proofs.Deliveries.{rising}
use Rattle.disk.proofs.ranges.copy_ranges.Given as goal

-- the list holds the bytes of the ranges so far
abbrev pub invariant-loop-index : goal.invariant-loop-index
invariant-loop-index l = l.out.items ≡ rising (take l.index l.ranges) l.bytes
