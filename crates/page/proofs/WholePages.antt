-- Whole pages.
use Rattle.std.proofs.Common.{◌≡◌, ◌∙◌, ap, ℕ, ◌+◌, ◌-◌, ◌*◌, ◌/◌, ◌%◌, ◌<◌, ◌≤◌, arith, inl, inr, false, nat_le, nat_lt, ◌&&◌}
use Rattle.std.specs.Int.{next_multiple_of}
use Rattle.std.proofs.Math.Nat.{sub-zero, mod_self, mod-eq_of_lt, mod-lt, mul-le-mul_left, lt_of_mul-lt-mul_left}
use Rattle.std.proofs.lemmas.Bool.{cases_lt}
use Rattle.std.proofs.lemmas.Bool.Decides.{nat_tests}
use Rattle.page.specs.Geometry.{is_too_big}

-- whole pages that hold len bytes hold what is rounded up
pub next_multiple_of-least : (len capacity page_size : ℕ) → 0 < page_size → capacity % page_size ≡ 0 → len ≤ capacity → next_multiple_of len page_size ≤ capacity
next_multiple_of-least len capacity page_size some whole fits = elim (cases_lt 0 (len % page_size)) [
  | inl part ↦
      let rest : len % page_size < page_size = mod-lt len some in
      let more : (page_size - len % page_size) % page_size ≡ page_size - len % page_size = mod-eq_of_lt (omega arith) in
      let fewer : page_size * (len / page_size) < page_size * (capacity / page_size) = omega arith in
      let pages : len / page_size < capacity / page_size = lt_of_mul-lt-mul_left page_size fewer in
      let up : page_size * (len / page_size + 1) ≤ page_size * (capacity / page_size) = mul-le-mul_left page_size (omega arith) in
      omega arith
  | inr none ↦
      let zero_rest : len % page_size ≡ 0 = omega arith in
      let nothing : (page_size - len % page_size) % page_size ≡ 0 = ap (λ r. (page_size - r) % page_size) zero_rest ∙ ap (λ r. r % page_size) (sub-zero page_size) ∙ mod_self page_size in
      omega arith
]

-- a buffer of whole pages takes less than a page beyond its capacity
pub not_too_big-room : (len capacity n page_size : ℕ) → 0 < page_size → is_too_big len capacity n page_size ≡ false → capacity % page_size ≡ 0 → len ≤ capacity
    → len + n < capacity + page_size
not_too_big-room len capacity n page_size some small whole fits =
    let least = next_multiple_of-least len capacity page_size some whole fits in
    small_sum len capacity n page_size (next_multiple_of len page_size) some small least fits
  where
    small_sum : (len capacity n page_size rounded : ℕ) → 0 < page_size → (nat_lt capacity (len + n) && nat_le (rounded - len + page_size) n) ≡ false → rounded ≤ capacity → len ≤ capacity → len + n < capacity + page_size
    small_sum len capacity n page_size rounded some small least fits = grind (arith, nat_tests)
