use Rattle.std.proofs.Common.{◌≡◌, take}
use Rattle.disk.proofs.ranges.Listed.of.Given as goal

-- the ranges so far are listed
abbrev pub invariant-loop-offset : goal.invariant-loop-offset
invariant-loop-offset l = l.listed.value ≡ take l.offset-index l.ranges
