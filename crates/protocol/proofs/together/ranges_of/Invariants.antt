use Rattle.std.proofs.Common.{◌≡◌, ◌≤◌, ◌+◌, ◌*◌, ◌++◌, length}
use Rattle.std.specs.List.{sum_by}
use Rattle.protocol.specs.Together.{ranges_in}
use Rattle.protocol.proofs.together.ranges_of.Given as goal

-- those that were read, and those that are left, and how many bytes may be left to them
abbrev pub invariant-loop-offset : goal.invariant-loop-offset
invariant-loop-offset l = record {
  told : l.ranges.items ++ ranges_in l.rest ≡ ranges_in l.fields;
  size : l.left + sum_by (λ r. r.1) l.ranges.items ≡ 4294967286;
  count : 16 * length l.ranges.items + length l.rest ≡ length l.fields;
  room : length l.fields ≤ 16 * l.ranges.cap;
}

abbrev pub decreases-loop-offset : goal.decreases-loop-offset
decreases-loop-offset l = length l.rest
