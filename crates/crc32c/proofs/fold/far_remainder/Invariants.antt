use Rattle.std.proofs.Common.{◌-◌, ◌≡◌, ◌%◌, ◌≤◌, length, take}
use Rattle.crc32c.specs.Division.{remaining, far}
use Rattle.crc32c.proofs.fold.far_remainder.Given as goal

abbrev pub invariant-loop-i : goal.invariant-loop-i
invariant-loop-i l = record {
  whole : l.i % 32 ≡ 0;
  within : l.i ≤ 320;
  long : length l.remainder ≡ 352;
  so_far : take l.i l.remainder ≡ take l.i (remaining far (take 290 l.window) l.bytes);
}

abbrev pub decreases-loop-i : goal.decreases-loop-i
decreases-loop-i l = 320 - l.i
