use Rattle.std.proofs.Common.{◌≡◌, ◌<◌, ◌*◌, ◌^◌, ℕ, length}
use Rattle.digest.specs.Poly.{poly_value}
use Rattle.digest.specs.Powers.{powers}
use Rattle.digest.proofs.poly.value_at.Given as goal

abbrev pub invariant-loop-k : goal.invariant-loop-k
invariant-loop-k l = record {
  value : (x : ℕ) → l.table ≡ powers x 33 → l.h ≡ poly_value x (length l.bytes) (32 * l.k) l.bytes;
  small : l.h < 2 ^ 63;
}
