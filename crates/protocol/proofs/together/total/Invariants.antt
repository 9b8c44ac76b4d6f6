use Rattle.std.proofs.Common.{◌≡◌, ◌≤◌, ◌+◌, ◌*◌, ◌^◌, length}
use Rattle.std.specs.List.{sum}
use Rattle.protocol.specs.Together.{lengths_in}
use Rattle.protocol.proofs.together.total.Given as goal

-- what is left makes up the whole, which is small
abbrev pub invariant-loop-length : goal.invariant-loop-length
invariant-loop-length l = record {
  sums : l.total + sum (lengths_in l.rest) ≡ sum (lengths_in l.lengths);
  small : l.total + 2 ^ 32 * length l.rest ≤ 2 ^ 32 * length l.lengths;
}

abbrev pub decreases-loop-length : goal.decreases-loop-length
decreases-loop-length l = length l.rest
