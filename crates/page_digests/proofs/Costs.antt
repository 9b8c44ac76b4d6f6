-- How many reads there are.
use Rattle.std.proofs.Common.{◌≡◌, ◌<◌, ◌≤◌, ◌*◌, ◌+◌, ◌-◌, ◌/◌, ◌%◌, ◌∙◌, ℕ, zero, suc, ap, sym, inl, inr, arith}
use Rattle.std.specs.Prelude.{Option, Some}
use Rattle.std.proofs.Math.Nat.{div-eq_of_lt-le, div-mul-le_self, lt-div-mul-add, lt_of_mul-lt-mul_right, suc-mul}
use Rattle.std.proofs.lemmas.Bool.{cases_lt}
use Rattle.std.proofs.lemmas.Nat.{div-add-mod'}
use Rattle.page_digests.specs.Reads.{IsReadOn, pages_touched}

-- a later byte is in no earlier page
pub div-le-div : (P x y : ℕ) → 0 < P → x ≤ y → x / P ≤ y / P
div-le-div P x y positive less =
    let low : x / P * P ≤ x = div-mul-le_self x P in
    let high : y < y / P * P + P = lt-div-mul-add positive in
    let step : suc (y / P) * P ≡ y / P * P + P = suc-mul (y / P) P in
    let under : x / P * P < suc (y / P) * P = omega arith in
    let below : x / P < suc (y / P) = lt_of_mul-lt-mul_right P under in
    omega arith

-- the next byte is in the same page or in the next one
pub div-suc : (P x : ℕ) → 0 < P → (x + 1) / P ≤ x / P + 1
div-suc P x positive =
    let low : (x + 1) / P * P ≤ x + 1 = div-mul-le_self (x + 1) P in
    let high : x < x / P * P + P = lt-div-mul-add positive in
    let one : suc (x / P) * P ≡ x / P * P + P = suc-mul (x / P) P in
    let two : suc (suc (x / P)) * P ≡ suc (x / P) * P + P = suc-mul (suc (x / P)) P in
    let under : (x + 1) / P * P < suc (suc (x / P)) * P = omega arith in
    let below : (x + 1) / P < suc (suc (x / P)) = lt_of_mul-lt-mul_right P under in
    omega arith

-- the last byte of a piece is in the page of its first
pub last-in : (P x n : ℕ) → 0 < P → 0 < n → x % P + n ≤ P → (x + n - 1) / P ≡ x / P
last-in P x n positive some fits =
    let split : x / P * P + x % P ≡ x = div-add-mod' x P in
    let step : (x / P + 1) * P ≡ x / P * P + P = ap (λ (k : ℕ). k * P) (omega arith) ∙ suc-mul (x / P) P in
    let low : x / P * P ≤ x + n - 1 = omega arith in
    let high : x + n - 1 < (x / P + 1) * P = omega arith in
    div-eq_of_lt-le P low high

pub touched_some : (P a m : ℕ) → 0 < m → pages_touched P a m ≡ (a + m - 1) / P - a / P + 1
touched_some P a zero some = absurd (omega arith)
touched_some P a (suc m) some =
    let e : a + m ≡ a + suc m - 1 = omega arith in ap (λ (k : ℕ). k / P - a / P + 1) e

-- more bytes touch no fewer pages
pub touched_more : (P a m n : ℕ) → 0 < P → m ≤ n → pages_touched P a m ≤ pages_touched P a n
touched_more P a zero n positive less = omega arith
touched_more P a (suc m) zero positive less = absurd (omega arith)
touched_more P a (suc m) (suc n) positive less =
    let fewer : m ≤ n = omega arith in
    let sums : a + m ≤ a + n = omega arith in
    let mono : (a + m) / P ≤ (a + n) / P = div-le-div P (a + m) (a + n) positive sums in
    omega arith

-- the pages up to a piece's end are those up to its page
pub touched_piece : (P a m n : ℕ) → 0 < P → 0 < n → (a + m) % P + n ≤ P → pages_touched P a (m + n) ≡ (a + m) / P - a / P + 1
touched_piece P a m n positive some fits =
    let more : 0 < m + n = omega arith in
    let e : a + (m + n) - 1 ≡ a + m + n - 1 = omega arith in
    touched_some P a (m + n) more ∙ ap (λ (k : ℕ). k / P - a / P + 1) e ∙ ap (λ (q : ℕ). q - a / P + 1) (last-in P (a + m) n positive some fits)

-- how many reads there are up to a page, by those before
read_count : (P a m base count next : ℕ) (before : Option ℕ) → 0 < P → IsReadOn P a m base count before → next ≤ count + 1 → (before ≡ Some ((a + m) / P) → next ≤ count)
    → next ≤ base + ((a + m) / P - a / P + 1)
read_count P a zero base count next before positive is one none = omega (arith, is.calls)
read_count P a (suc m) base count next before positive is one none =
    elim (cases_lt base count) [
      | inr fresh ↦ omega (arith, fresh)
      | inl more ↦
          elim (cases_lt ((a + m) / P) ((a + suc m) / P)) [
            | inl later ↦ omega (arith, later, is.calls, low)
            | inr same ↦
                let equal : (a + suc m - 1) / P ≡ (a + suc m) / P = ap (λ (k : ℕ). k / P) e ∙ omega (arith, same, high) in
                let few : next ≤ count = none (is.last more ∙ ap Some equal) in
                omega (arith, few, is.calls, low, high)
          ]
    ]
  where
    e : a + suc m - 1 ≡ a + m
    e = omega arith

    low : a / P ≤ (a + m) / P
    low = div-le-div P a (a + m) positive (omega arith)

    high : (a + m) / P ≤ (a + suc m) / P
    high = div-le-div P (a + m) (a + suc m) positive (omega arith)

-- a piece is read on
pub read_on : (P a m n base count next : ℕ) (before after : Option ℕ) → 0 < P → IsReadOn P a m base count before → 0 < n → (a + m) % P + n ≤ P → after ≡ Some ((a + m) / P)
    → next ≤ count + 1 → (before ≡ Some ((a + m) / P) → next ≤ count) → IsReadOn P a (m + n) base next after
read_on P a m n base count next before after positive is some fits held one none = record {
  calls = rw (touched_piece P a m n positive some fits) (read_count P a m base count next before positive is one none);
  last = λ more.
      let e : a + (m + n) - 1 ≡ a + m + n - 1 = omega arith in
      held ∙ ap Some (sym (ap (λ (k : ℕ). k / P) e ∙ last-in P (a + m) n positive some fits));
}
