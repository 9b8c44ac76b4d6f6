-- The pages that a range has bytes of.
use Rattle.std.proofs.Common.{◌≡◌, inl, inr, ℕ, zero, suc, refl, ◌+◌, ◌*◌, ◌/◌, ◌%◌, ◌<◌, ◌≤◌, arith}
use Rattle.std.proofs.Math.Nat.{div-add-mod', mod-lt, suc-mul, mul-le-mul_right, add-mul}
use Rattle.std.proofs.lemmas.Bool.{cases_lt}
use Rattle.std.proofs.lemmas.Bool.Decides.{nat_tests}
use Rattle.std.proofs.lemmas.Grind.{div_ceil_times}
use Rattle.std.specs.Int.{div_ceil}
use Rattle.paged_read.specs.Pieces.{page_count}

-- the first page of some offsets, and how many pages they lie in
pub record Spans (P offset len first count : ℕ) : Type 0 where
  pub begins : first * P ≤ offset
  pub next : offset < (first + 1) * P
  pub ends : offset + len ≤ (first + count) * P
  pub last : (first + count) * P < offset + len + P

-- the pages in which a range lies
pub spans_of : (P offset len : ℕ) → 0 < P → Spans P offset len (offset / P) (div_ceil (offset % P + len) P)
spans_of P offset len some =
    let whole : offset / P * P + offset % P ≡ offset = div-add-mod' offset P in
    let short : offset % P < P = mod-lt offset some in
    let n = div_ceil (offset % P + len) P in
    let reach = div_ceil_times (offset % P + len) P some in
    let joined : (offset / P + n) * P ≡ offset / P * P + n * P = add-mul (offset / P) n P in
    record {
      begins = omega (arith, whole);
      next = omega (arith, whole, short, suc-mul (offset / P) P);
      ends = omega (arith, whole, joined, reach.0);
      last = omega (arith, whole, joined, reach.1);
    }

-- a range that ends in the page in which it begins lies in one
pub one_span : (x P : ℕ) → 0 < x → x ≤ P → div_ceil x P ≡ 1
one_span x P more fits = let reach = div_ceil_times x P (omega (arith, more, fits)) in by_count (div_ceil x P) reach.0 reach.1
  where
    by_count : (n : ℕ) → x ≤ n * P → n * P < x + P → n ≡ 1
    by_count zero above below = absurd (omega (arith, more, above))
    by_count (suc zero) above below = refl
    by_count (suc (suc n)) above below = absurd (let h : 2 * P ≤ suc (suc n) * P = mul-le-mul_right P (omega arith) in omega (arith, h, below, fits))

-- a page among them begins before the end of the range, and ends after its beginning
pub spans_begin : (P offset len first count page : ℕ) → Spans P offset len first count → page < first + count → page * P < offset + len
spans_begin P offset len first count page spans below =
    let h : (page + 1) * P ≤ (first + count) * P = mul-le-mul_right P (omega arith) in
    omega (arith, h, suc-mul page P, spans.last)

pub spans_end : (P offset len first count page : ℕ) → Spans P offset len first count → first ≤ page → offset < (page + 1) * P
spans_end P offset len first count page spans above =
    let h : (first + 1) * P ≤ (page + 1) * P = mul-le-mul_right P (omega arith) in
    omega (arith, h, spans.next)

-- a page that begins before the end of the range, and ends after its beginning, is among them
pub spans_from : (P offset len first count page : ℕ) → Spans P offset len first count → offset < (page + 1) * P → first ≤ page
spans_from P offset len first count page spans after = elim (cases_lt page first) [
  | inl less ↦ absurd (let h : (page + 1) * P ≤ first * P = mul-le-mul_right P (omega arith) in omega (arith, h, after, spans.begins))
  | inr above ↦ above
]

pub spans_to : (P offset len first count page : ℕ) → Spans P offset len first count → page * P < offset + len → page < first + count
spans_to P offset len first count page spans before = elim (cases_lt page (first + count)) [
  | inl below ↦ below
  | inr above ↦ absurd (let h : (first + count) * P ≤ page * P = mul-le-mul_right P above in omega (arith, h, before, spans.ends))
]

-- how many pages a range has bytes of, where it has some
pub page_count_is : (P offset len : ℕ) → 0 < len → page_count P (offset, len) ≡ div_ceil (offset % P + len) P
page_count_is P offset len some = grind (arith, nat_tests)

pub page_count_none : (P offset len : ℕ) → len ≡ 0 → page_count P (offset, len) ≡ 0
page_count_none P offset len none = grind (arith, nat_tests)

-- a range below some pages has bytes of none after them
pub spans_within : (P offset len first n full : ℕ) → Spans P offset len first n → offset + len ≤ full * P → first + n ≤ full
spans_within P offset len first n full spans below = elim (cases_lt full (first + n)) [
  | inl above ↦ absurd (let h : (full + 1) * P ≤ (first + n) * P = mul-le-mul_right P (omega (arith, above)) in omega (arith, h, suc-mul full P, spans.last, below))
  | inr within ↦ within
]
