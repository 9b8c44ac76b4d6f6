-- How many reads a range of a content takes.
use Rattle.std.proofs.Common.{◌≡◌, ◌⊎◌, ◌<◌, ◌≤◌, ◌*◌, ◌+◌, ◌-◌, ◌/◌, ◌%◌, ◌∙◌, ℕ, zero, suc, length, ap, sym, subst, refl, inl, inr, arith}
use Rattle.std.specs.Prelude.{Option, Some, Result, Ok, Err, OnOk}
use Rattle.std.proofs.lemmas.Bool.{cases_lt}
use Rattle.std.proofs.lemmas.Option.{same_Some}
use Rattle.page_digests.specs.declared.error.Error.{Error}
use Rattle.page_digests.specs.Contents.{PagedState}
use Rattle.page_digests.specs.Steps.{AsksForPage}
use Rattle.page_digests.specs.Reads.{IsReadOn, ReadsDigestOn, pages_touched}
use Rattle.page_digests.proofs.Costs.{div-le-div, div-suc, read_on, touched_piece}

-- answers, with their types
abbrev pub gives : (T : Type 0) → T → Result T Error
gives T x = Ok x

abbrev pub fails : (T : Type 0) → Error → Result T Error
fails T e = Err e

-- a fact holds whatever the answer is
pub on_any : {T E : Type 0} (result : Result T E) (F : Type 0) → F → OnOk result F
on_any (Ok x) F is = is
on_any (Err e) F is = tt

-- what a call asks for that is done, whatever is answered in the end
pub asks_still : {T U : Type 0} (i : ℕ) (s t : PagedState) (x : T) (result : Result U Error) → AsksForPage {T = T} {E = Error} i s t (Ok x) → AsksForPage i s t result
asks_still i s t x result (inl held) = inl held
asks_still i s t x result (inr (fresh, calls, on)) = inr (
  fresh,
  calls,
  λ from count base begin first.
      let both = on from count base begin first in (both.0, on_any result _ both.1),
)

-- the page of a piece is a new one, or the one that was read last
page_of_piece : (P offset done n : ℕ) (cached : Option ℕ) → 0 < P → 0 < n → (offset + done) % P + n ≤ P → (0 < done → cached ≡ Some ((offset + done - 1) / P))
    → ((offset / P + pages_touched P offset done ≡ (offset + done) / P) × (pages_touched P offset (done + n) ≡ pages_touched P offset done + 1)
    × (cached ≡ Some ((offset + done) / P) → pages_touched P offset done ≡ 0))
    ⊎ ((cached ≡ Some ((offset + done) / P)) × (pages_touched P offset (done + n) ≡ pages_touched P offset done))
page_of_piece P offset zero n cached positive some fits last =
    let e : offset + 0 ≡ offset = omega arith in
    let here : (offset + 0) / P ≡ offset / P = ap (λ (k : ℕ). k / P) e in
    inl (omega (arith, here), touched_piece P offset 0 n positive some fits ∙ omega (arith, here), λ held. refl)
page_of_piece P offset (suc m) n cached positive some fits last =
    elim (cases_lt ((offset + m) / P) ((offset + suc m) / P)) [
      | inl later ↦ inl (
        omega (arith, later, high, low),
        touched_piece P offset (suc m) n positive some fits ∙ omega (arith, later, high, low),
        λ held. absurd (other held later),
      )
      | inr same ↦
          let equal : (offset + suc m) / P ≡ (offset + m) / P = omega (arith, same, mono) in
          inr (before ∙ ap Some (sym equal), touched_piece P offset (suc m) n positive some fits ∙ ap (λ (q : ℕ). q - offset / P + 1) equal)
    ]
  where
    e : offset + suc m - 1 ≡ offset + m
    e = omega arith

    before : cached ≡ Some ((offset + m) / P)
    before = last (omega arith) ∙ ap (λ (k : ℕ). Some (k / P)) e

    low : offset / P ≤ (offset + m) / P
    low = div-le-div P offset (offset + m) positive (omega arith)

    mono : (offset + m) / P ≤ (offset + suc m) / P
    mono = div-le-div P (offset + m) (offset + suc m) positive (omega arith)

    high : (offset + suc m) / P ≤ (offset + m) / P + 1
    high = let step : offset + m + 1 ≡ offset + suc m = omega arith in subst (λ (k : ℕ). k / P ≤ (offset + m) / P + 1) step (div-suc P (offset + m) positive)

    other : cached ≡ Some ((offset + suc m) / P) → (offset + m) / P < (offset + suc m) / P → ⊥
    other held later =
        let same : (offset + m) / P ≡ (offset + suc m) / P = same_Some ((offset + m) / P) ((offset + suc m) / P) (sym before ∙ held) in
        omega (arith, same, later)

-- the digest of one page more is read on, after those of k pages from page f on
list_step : {T : Type 0} (P f k q base : ℕ) (t u : PagedState) (result : Result T Error) → t.page_size ≡ P → f + k ≡ q → (t.cached ≡ Some q → k ≡ 0)
    → IsReadOn P (f * 32) (k * 32) base (length t.list_reads) t.cached_list → AsksForPage q t u result
    → (length u.list_reads ≤ base + pages_touched P (f * 32) ((k + 1) * 32)) × OnOk result (IsReadOn P (f * 32) ((k + 1) * 32) base (length u.list_reads) u.cached_list)
list_step P f k q base t u result size next first is (inl (held, same)) =
    let zero_k : k ≡ 0 = first held in
    let none : length t.list_reads ≤ base + pages_touched P (f * 32) 0 = subst (λ (n : ℕ). length t.list_reads ≤ base + pages_touched P (f * 32) (n * 32)) zero_k is.calls in
    let as_many : length u.list_reads ≡ length t.list_reads = ap (λ (v : PagedState). length v.list_reads) same in
    let calls : length u.list_reads ≤ base + pages_touched P (f * 32) ((k + 1) * 32) = omega (arith, none) in
    (calls, on_any result _ (record { calls = calls; last = λ more. absurd (omega (arith, more, none)) }))
list_step P f k q base t u result size next first is (inr (fresh, calls, on)) =
    let place : f * 32 + k * 32 ≡ q * 32 = omega arith in
    let all : k * 32 + 32 ≡ (k + 1) * 32 = omega arith in
    subst (λ (n : ℕ). (length u.list_reads ≤ base + pages_touched P (f * 32) n) × OnOk result (IsReadOn P (f * 32) n base (length u.list_reads) u.cached_list)) all
    ((subst (λ (z : ℕ). ReadsDigestOn z q t.list_reads u.list_reads t.cached_list u.cached_list result) size on) (f * 32) (k * 32) base place is)

-- a page of the list that has bytes of a page's digest is read once at most
pub list_on : {T : Type 0} (P offset done n base : ℕ) (t u : PagedState) (result : Result T Error) → 0 < P → 0 < n → (offset + done) % P + n ≤ P → t.page_size ≡ P
    → IsReadOn P (offset / P * 32) (pages_touched P offset done * 32) base (length t.list_reads) t.cached_list
    → (0 < done → t.cached ≡ Some ((offset + done - 1) / P)) → AsksForPage ((offset + done) / P) t u result
    → (length u.list_reads ≤ base + pages_touched P (offset / P * 32) (pages_touched P offset (done + n) * 32))
    × OnOk result (IsReadOn P (offset / P * 32) (pages_touched P offset (done + n) * 32) base (length u.list_reads) u.cached_list)
list_on {T = T} P offset done n base t u result positive some fits size is last asks =
    elim (page_of_piece P offset done n t.cached positive some fits last) [
      | inl (next, one, first) ↦
          subst goal (sym one) (list_step P (offset / P) (pages_touched P offset done) ((offset + done) / P) base t u result size next first is asks)
      | inr (held, as_many) ↦ subst goal (sym as_many) (by_asks held asks)
    ]
  where
    goal : ℕ → Type 0
    goal k = (length u.list_reads ≤ base + pages_touched P (offset / P * 32) (k * 32)) × OnOk result (IsReadOn P (offset / P * 32) (k * 32) base (length u.list_reads) u.cached_list)

    by_asks : t.cached ≡ Some ((offset + done) / P) → AsksForPage ((offset + done) / P) t u result
        → (length u.list_reads ≤ base + pages_touched P (offset / P * 32) (pages_touched P offset done * 32))
        × OnOk result (IsReadOn P (offset / P * 32) (pages_touched P offset done * 32) base (length u.list_reads) u.cached_list)
    by_asks held (inl (_, same)) =
        let still = subst (λ (v : PagedState). IsReadOn P (offset / P * 32) (pages_touched P offset done * 32) base (length v.list_reads) v.cached_list) (sym same) is in
        (still.calls, on_any result _ still)
    by_asks held (inr (fresh, calls, on)) = absurd (fresh held)

-- how many reads of the content there are, with those of the page of a piece
pub content_on : {T : Type 0} (P offset done n base : ℕ) (t u : PagedState) (result : Result T Error) (after : Option ℕ) → 0 < P → 0 < n → (offset + done) % P + n ≤ P
    → IsReadOn P offset done base (length t.reads) t.cached → after ≡ Some ((offset + done) / P) → AsksForPage ((offset + done) / P) t u result
    → IsReadOn P offset (done + n) base (length u.reads) after
content_on {T = T} P offset done n base t u result after positive some fits is held asks =
    read_on P offset done n base (length t.reads) (length u.reads) t.cached after positive is some fits held (one asks) (λ there. none there asks)
  where
    one : AsksForPage ((offset + done) / P) t u result → length u.reads ≤ length t.reads + 1
    one (inl (there, same)) = let e : length u.reads ≡ length t.reads = ap (λ (v : PagedState). length v.reads) same in omega arith
    one (inr (fresh, calls, on)) = calls

    none : t.cached ≡ Some ((offset + done) / P) → AsksForPage ((offset + done) / P) t u result → length u.reads ≤ length t.reads
    none there (inl (held, same)) = let e : length u.reads ≡ length t.reads = ap (λ (v : PagedState). length v.reads) same in omega arith
    none there (inr (fresh, calls, on)) = absurd (fresh there)
