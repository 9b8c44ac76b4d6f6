-- Bytes that a cache had: which they are, and that no page of them is missing.
use Rattle.std.proofs.Common.{◌≡◌, ◌⊎◌, inl, inr, ℕ, zero, suc, ◌+◌, ◌*◌, ◌-◌, ◌/◌, ◌%◌, ◌<◌, ◌≤◌, ◌^◌, ◌&&◌, List, [], ◌∷◌, length, take, drop, max, sym, ap, ◌∙◌, subst, arith, Bool, true, false, cond, length-drop}
use Rattle.std.specs.Prelude.{slice_get, None, Option, is_some, not, ◌||◌}
use Rattle.std.specs.List.{filter, range_with_len}
use Rattle.std.proofs.Math.Nat.{div-add-mod', mod-lt, suc-mul}
use Rattle.std.proofs.lemmas.Bool.{cases_lt}
use Rattle.std.proofs.lemmas.List.{length-take-le}
use Rattle.std.proofs.lemmas.Nat.{div_below, le-div}
use Rattle.std.proofs.lemmas.Option.{slice_get_within}
use Rattle.crash.proofs.Lists.{slice_get-take, element_within, same_elements}
use Rattle.disk.specs.Disk.{Disk}
use Rattle.disk.proofs.Lists.{slice_get-drop}
use Rattle.cache.specs.CacheState.{CacheState, cached_page, ReadsCached, HoldsByte, IsMissing}
use Rattle.cache.specs.Pages.{page_of_content}
use Rattle.paged_read.specs.Tail.{Tail, logical_bytes, CanRead}
use Rattle.paged_read.specs.Ranges.{touches, missing, slice}
use Rattle.paged_read.proofs.Windows.{needs, missing_same, missing_none, touches_yes, touches_none, touches_after, touches_before}
use Rattle.paged_read.proofs.Leaving.{length-told}

-- the page in which an offset lies
page_is : (P offset page : ℕ) → 0 < P → page * P ≤ offset → offset < (page + 1) * P → offset / P ≡ page
page_is P offset page some above below = omega (arith, div_below offset P (page + 1) some below, le-div page offset P some above)

-- how many bytes were copied
count_within : (old : List ℕ) (count : ℕ) (More : Type 0) → (count ≡ length old) ⊎ ((count < length old) × More) → count ≤ length old
count_within old count More (inl all) = omega (arith, all)
count_within old count More (inr some) = omega (arith, some.0)

-- the page of an offset is held
abbrev HoldsPage : CacheState → (id offset : ℕ) → Type 0
HoldsPage cache id offset = is_some (cached_page cache (id, offset / cache.page_size)) ≡ true

holds_page : (cache : CacheState) (id offset byte : ℕ) → HoldsByte cache id offset byte → HoldsPage cache id offset
holds_page cache id offset byte holds = ap is_some holds.1

-- a test that a number passes
filter_some : (f : ℕ → Bool) (first n p : ℕ) → first ≤ p → p < first + n → f p ≡ true → 0 < length (filter f (range_with_len first n))
filter_some f first zero p above below is = absurd (omega (arith, above, below))
filter_some f first (suc n) p above below is = elim (cases_lt first p) [
  | inl more ↦ by_test (f first) (filter_some f (first + 1) n p (omega (arith, more)) (omega (arith, below)) is)
  | inr least ↦ let here : p ≡ first = omega (arith, above, least) in let passes : f first ≡ true = ap f (sym here) ∙ is in
      subst (λ b. 0 < length (cond b (first ∷ filter f (range_with_len (first + 1) n)) (filter f (range_with_len (first + 1) n)))) (sym passes) (omega arith)
]
  where
    by_test : (b : Bool) → 0 < length (filter f (range_with_len (first + 1) n)) → 0 < length (cond b (first ∷ filter f (range_with_len (first + 1) n)) (filter f (range_with_len (first + 1) n)))
    by_test true some = omega arith
    by_test false some = some

module _ (cache : CacheState) (id offset : ℕ) (old new : List ℕ) (count : ℕ) (reads : ReadsCached cache id offset old new count) where
  pub cached_within : count ≤ length old
  cached_within = count_within old count (IsMissing cache id (offset + count)) reads.ends

  -- the page of a byte that was copied is held
  byte_held : (i : ℕ) → i < count → HoldsPage cache id (offset + i)
  byte_held i below =
      let byte = element_within new i (omega (arith, below, cached_within, reads.size)) in
      holds_page cache id (offset + i) byte.0 (reads.copied i byte.0 below byte.1)

  module _ (t : Tail) (mine : t.id ≡ id) (size : cache.page_size ≡ t.page_size) (some : 0 < t.page_size) where
    -- a page with a byte that was copied is held
    page_held : (page i : ℕ) → i < count → page * t.page_size ≤ offset + i → offset + i < (page + 1) * t.page_size → is_some (cached_page cache (t.id, page)) ≡ true
    page_held page i below above under =
        let here : (offset + i) / cache.page_size ≡ page = ap (λ P. (offset + i) / P) size ∙ page_is t.page_size (offset + i) page some above under in
        ap (λ n. is_some (cached_page cache (n, page))) mine ∙ ap (λ n. is_some (cached_page cache (id, n))) (sym here) ∙ byte_held i below

    -- the range after the bytes that were copied finds missing what the whole range does
    pub missing_rest : missing cache t ((offset, length old) ∷ []) ≡ missing cache t ((offset + count, length old - count) ∷ [])
    missing_rest = missing_same cache t (offset, length old) (offset + count, length old - count) (λ page below. by_offset page)
      where
        P : ℕ
        P = t.page_size

        by_offset : (page : ℕ) → (is_some (cached_page cache (t.id, page)) ≡ true) ⊎ (touches P (offset, length old) page ≡ touches P (offset + count, length old - count) page)
        by_offset page = elim (cases_lt 0 (length old)) [
          | inr none ↦ inr (touches_none P offset (length old) page (omega (arith, none)) ∙ sym (touches_none P (offset + count) (length old - count) page (omega (arith, none))))
          | inl more ↦ elim (cases_lt (page * P) (offset + length old)) [
            | inr after ↦ inr (touches_after P offset (length old) page after ∙ sym (touches_after P (offset + count) (length old - count) page (omega (arith, after, cached_within))))
            | inl begins ↦ elim (cases_lt offset ((page + 1) * P)) [
              | inr before ↦ inr (touches_before P offset (length old) page before ∙ sym (touches_before P (offset + count) (length old - count) page (omega (arith, before))))
              | inl ends ↦ elim (cases_lt (max offset (page * P)) (offset + count)) [
                | inl copied ↦ inl (page_held page (max offset (page * P) - offset) (omega (arith, copied)) (omega arith) (omega (arith, ends, suc-mul page P, some)))
                | inr left ↦ elim (cases_lt 0 count) [
                  | inl passed ↦ inr (touches_yes P offset (length old) page more begins ends ∙ sym (touches_yes P (offset + count) (length old - count) page (omega (arith, left, passed, begins)) (omega (arith, begins, cached_within)) (omega (arith, left, passed, ends, suc-mul page P, some))))
                  | inr nothing ↦ inr (let zero_count : count ≡ 0 = omega (arith, nothing) in let from : offset ≡ offset + count = omega (arith, zero_count) in let many : length old ≡ length old - count = omega (arith, zero_count) in ap (λ n. touches P (offset, n) page) many ∙ ap (λ n. touches P (n, length old - count) page) from)
                ]
              ]
            ]
          ]
        ]

    -- where all were copied, no page is missing
    pub cached_all : count ≡ length old → missing cache t ((offset, length old) ∷ []) ≡ []
    cached_all all = missing_rest ∙ missing_none cache t (offset + count) (length old - count) (omega (arith, all))

    -- where not all were copied, a page is missing
    pub cached_some : offset + length old ≤ t.full_pages * t.page_size → offset + length old < 2 ^ 64 → count < length old → 0 < length (missing cache t ((offset, length old) ∷ []))
    cached_some below fits short = elim reads.ends [
      | inl all ↦ absurd (omega (arith, all, short))
      | inr (less, inl past) ↦ absurd (omega (arith, past, fits, less))
      | inr (less, inr none) ↦
          let P = t.page_size in
          let here = offset + count in
          let page = here / P in
          let whole : page * P + here % P ≡ here = div-add-mod' here P in
          let rest : here % P < P = mod-lt here some in
          let touched : touches P (offset, length old) page ≡ true = touches_yes P offset (length old) page (omega (arith, short)) (omega (arith, whole, short)) (omega (arith, whole, rest, suc-mul page P)) in
          let lacks : cached_page cache (t.id, page) ≡ None = ap (λ n. cached_page cache (n, page)) mine ∙ ap (λ s. cached_page cache (id, here / s)) (sym size) ∙ none in
          let wanted : needs cache t (offset, length old) page ≡ true = ap (λ b. not (is_some (cached_page cache (t.id, page))) && (b || false)) touched ∙ ap (λ (o : Option (List ℕ)). not (is_some o) && (true || false)) lacks in
          filter_some (needs cache t (offset, length old)) 0 t.full_pages page (omega arith) (omega (arith, div_below here P t.full_pages some (omega (arith, below, short)))) wanted
    ]

    -- the bytes that were copied are the content's
    pub cached_bytes : (d : Disk) → CanRead t cache d → offset + length old ≤ t.full_pages * t.page_size → take count new ≡ slice (logical_bytes t d.readable) (offset, count)
    cached_bytes d can below =
        let content = logical_bytes t d.readable in
        let all = length-told t d.readable can.there in
        let front : length (take count new) ≡ count = length-take-le count new (omega (arith, cached_within, reads.size)) in
        let wanted : length (slice content (offset, count)) ≡ count = length-take-le count (drop offset content) (omega (arith, length-drop offset content, all, below, cached_within)) in
        same_elements (take count new) (slice content (offset, count)) (front ∙ sym wanted) (λ i x is.
        let under : i < count = omega (arith, slice_get_within (take count new) i x is, front) in
        let holds = reads.copied i x under (sym (slice_get-take count new i under) ∙ is) in
        let page = (offset + i) / cache.page_size in
        let P_some : 0 < cache.page_size = omega (arith, size, some) in
        let below_page : page < t.full_pages = omega (arith, div_below (offset + i) cache.page_size t.full_pages P_some (omega (arith, ap (λ P. t.full_pages * P) size, below, under, cached_within))) in
        let told_page : holds.0 ≡ page_of_content cache.page_size content page = can.cached page holds.0 below_page (ap (λ n. cached_page cache (n, page)) mine ∙ holds.1) in
        let r = (offset + i) % cache.page_size in
        let in_page : r < cache.page_size = mod-lt (offset + i) P_some in
        slice_get-take count (drop offset content) i under ∙ slice_get-drop offset content i
        ∙ ap (λ k. slice_get content k) (sym (div-add-mod' (offset + i) cache.page_size))
        ∙ sym (slice_get-drop (page * cache.page_size) content r)
        ∙ sym (slice_get-take cache.page_size (drop (page * cache.page_size) content) r in_page)
        ∙ ap (λ (l : List ℕ). slice_get l r) (sym told_page)
        ∙ holds.2)
