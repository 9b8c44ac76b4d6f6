-- Sizes of a blob: which of them its offsets fit.
use Rattle.std.proofs.Common.{ℕ, ◌+◌, ◌*◌, ◌/◌, ◌<◌, ◌≤◌, ◌^◌, ◌↔◌, arith, inl, inr}
use Rattle.std.specs.Int.{div_ceil}
use Rattle.std.proofs.Math.Nat.{mul-le-mul_right, le-mul_of_pos_right, add-mul, mul-add, le-div_iff_mul-le}
use Rattle.std.proofs.lemmas.Grind.{div_ceil_times}
use Rattle.std.proofs.lemmas.Bool.{cases_lt}
use Rattle.paged.specs.Writer.{FitsBlob}

-- full pages, and pages for bytes after them, are no more than so many where the bytes of all are
-- within theirs
pages_within : (P full n c most : ℕ) → n ≤ c * P → c * P < n + P → (full + c ≤ most) ↔ (full * P + n ≤ most * P)
pages_within P full n c most up near = (
  λ le. let more : (full + c) * P ≤ most * P = mul-le-mul_right P le in omega (arith, more, add-mul full c P, up),
  λ le. elim (cases_lt most (full + c)) [
    | inl less ↦ let more : (most + 1) * P ≤ (full + c) * P = mul-le-mul_right P (omega arith) in absurd (omega (arith, more, add-mul full c P, add-mul most 1 P, near, le))
    | inr enough ↦ enough
  ],
)

-- the sizes that fit are those up to the greatest
pub fits_by_size : (P full n : ℕ) → 0 < P → FitsBlob P full n ↔ (full * P + n ≤ 18446744073709551615 / (P + 12) * P)
fits_by_size P full n some =
    let c = div_ceil n P in
    let bounds = div_ceil_times n P some in
    let within = pages_within P full n c (18446744073709551615 / (P + 12)) bounds.0 bounds.1 in
    let offsets : (full + c ≤ 18446744073709551615 / (P + 12)) ↔ ((full + c) * (P + 12) ≤ 18446744073709551615) = le-div_iff_mul-le (omega arith) in
    (λ fits. within.0 (offsets.1 (omega (arith, fits))), λ le. omega (arith, offsets.0 (within.1 le)))

-- a size that fits is a number of 64 bits
pub size_fits : (P full n : ℕ) → 0 < P → FitsBlob P full n → full * P + n < 2 ^ 64
size_fits P full n some fits =
    let c = div_ceil n P in
    let bounds = div_ceil_times n P some in
    omega (arith, add-mul full c P, bounds.0, fits)

-- up to 2^60 bytes fit, whatever the size of a page
pub small_fits : (P full n : ℕ) → 0 < P → P < 2 ^ 16 → full * P + n < 2 ^ 60 → FitsBlob P full n
small_fits P full n some small less =
    let c = div_ceil n P in
    let bounds = div_ceil_times n P some in
    omega (arith, less, bounds.1, add-mul full c P, mul-add (full + c) P 12, le-mul_of_pos_right (full + c) some)
