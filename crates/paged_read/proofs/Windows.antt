-- The pages that a read of a range finds missing.
use Rattle.std.proofs.Common.{◌≡◌, ◌⊎◌, inl, inr, ℕ, zero, suc, ◌+◌, ◌*◌, ◌-◌, ◌/◌, ◌%◌, ◌<◌, ◌≤◌, ◌&&◌, List, [], ◌∷◌, ◌++◌, map, min, refl, sym, ap, ◌∙◌, arith, Bool, true, false, cond, append-nil}
use Rattle.std.specs.Prelude.{not, is_some, ◌||◌}
use Rattle.std.specs.Int.{div_ceil}
use Rattle.std.specs.List.{filter, range_with_len}
use Rattle.std.proofs.lemmas.Bool.{cases_lt}
use Rattle.std.proofs.Math.Nat.{suc-mul, mul-le-mul_right, mul-le-mul_left}
use Rattle.std.proofs.lemmas.Bool.Decides.{nat_tests}
use Rattle.std.proofs.lemmas.List.Elements.{filter-append}
use Rattle.cache.specs.CacheState.{cached_page, CacheState, pieces_left}
use Rattle.paged_read.specs.Tail.{Tail}
use Rattle.paged_read.specs.Ranges.{touches, missing}
use Rattle.paged_read.specs.Pieces.{piece_of, pieces_of}
use Rattle.paged_read.specs.Parts.{piece_pages}
use Rattle.paged_read.proofs.Spans.{spans_of, spans_begin, spans_end, page_count_is, page_count_none, spans_within}

-- ---- tests over numbers in a row

-- no number passes the test
pub filter_none : (f : ℕ → Bool) (first n : ℕ) → ((p : ℕ) → first ≤ p → p < first + n → f p ≡ false) → filter f (range_with_len first n) ≡ []
filter_none f first zero none = refl
filter_none f first (suc n) none =
    ap (λ b. cond b (first ∷ filter f (range_with_len (first + 1) n)) (filter f (range_with_len (first + 1) n))) (none first (omega arith) (omega arith))
    ∙ filter_none f (first + 1) n (λ p above below. none p (omega (arith, above)) (omega (arith, below)))

-- two tests that agree on these numbers
pub filter_same : (f g : ℕ → Bool) (first n : ℕ) → ((p : ℕ) → first ≤ p → p < first + n → f p ≡ g p) → filter f (range_with_len first n) ≡ filter g (range_with_len first n)
filter_same f g first zero same = refl
filter_same f g first (suc n) same =
    let rest = filter_same f g (first + 1) n (λ p above below. same p (omega (arith, above)) (omega (arith, below))) in
    ap (λ b. cond b (first ∷ filter f (range_with_len (first + 1) n)) (filter f (range_with_len (first + 1) n))) (same first (omega arith) (omega arith))
    ∙ ap (λ (l : List ℕ). cond (g first) (first ∷ l) l) rest

-- numbers in a row in two parts
range_split : (first m n : ℕ) → range_with_len first (m + n) ≡ range_with_len first m ++ range_with_len (first + m) n
range_split first zero n = let e : zero + n ≡ n = omega arith in let f : first + zero ≡ first = omega arith in rw (e, f)
range_split first (suc m) n =
    let e : suc m + n ≡ suc (m + n) = omega arith in
    let f : first + 1 + m ≡ first + suc m = omega arith in
    ap (λ k. range_with_len first k) e ∙ ap (λ (l : List ℕ). first ∷ l) (range_split (first + 1) m n)
    ∙ ap (λ k. (first ∷ range_with_len (first + 1) m) ++ range_with_len k n) f

-- a test that passes nothing but some of those in a window
pub filter_window : (f g : ℕ → Bool) (first n all : ℕ) → first + n ≤ all → ((p : ℕ) → first ≤ p → p < first + n → f p ≡ g p)
    → ((p : ℕ) → p < first → f p ≡ false) → ((p : ℕ) → first + n ≤ p → f p ≡ false) → filter f (range_with_len 0 all) ≡ filter g (range_with_len first n)
filter_window f g first n all fits same before after =
    let whole : all ≡ first + (n + (all - (first + n))) = omega (arith, fits) in
    let front = range_with_len 0 first in
    let window = range_with_len first n in
    let rest = range_with_len (first + n) (all - (first + n)) in
    let start : 0 + first ≡ first = omega arith in
    let split : range_with_len 0 all ≡ front ++ (window ++ rest) =
    ap (λ k. range_with_len 0 k) whole ∙ range_split 0 first (n + (all - (first + n)))
    ∙ ap (λ k. front ++ range_with_len k (n + (all - (first + n)))) start
    ∙ ap (λ (l : List ℕ). front ++ l) (range_split first n (all - (first + n))) in
    let none : filter f front ≡ [] = filter_none f 0 first (λ p above below. before p (omega (arith, below))) in
    let last : filter f rest ≡ [] = filter_none f (first + n) (all - (first + n)) (λ p above below. after p above) in
    ap (λ (l : List ℕ). filter f l) split
    ∙ filter-append f front (window ++ rest)
    ∙ ap (λ (l : List ℕ). l ++ filter f (window ++ rest)) none
    ∙ filter-append f window rest
    ∙ ap (λ (l : List ℕ). filter f window ++ l) last
    ∙ append-nil (filter f window)
    ∙ filter_same f g first n same

-- ---- pages that are touched

-- a range has bytes of a page
pub touches_yes : (P offset len page : ℕ) → 0 < len → page * P < offset + len → offset < (page + 1) * P → touches P (offset, len) page ≡ true
touches_yes P offset len page some before after = grind (arith, nat_tests)

-- an empty range has bytes of no page
pub touches_none : (P offset len page : ℕ) → len ≡ 0 → touches P (offset, len) page ≡ false
touches_none P offset len page none = grind (arith, nat_tests)

pub touches_after : (P offset len page : ℕ) → offset + len ≤ page * P → touches P (offset, len) page ≡ false
touches_after P offset len page after = grind (arith, nat_tests)

pub touches_before : (P offset len page : ℕ) → (page + 1) * P ≤ offset → touches P (offset, len) page ≡ false
touches_before P offset len page before = grind (arith, nat_tests)

-- ---- missing pages

-- a read finds a page missing that it has bytes of and the cache lacks
abbrev pub needs : CacheState → Tail → ℕ × ℕ → ℕ → Bool
needs cache t range page = not (is_some (cached_page cache (t.id, page))) && (touches t.page_size range page || false)

needs_as : (cache : CacheState) (t : Tail) (range : ℕ × ℕ) (page : ℕ) (b : Bool) → touches t.page_size range page ≡ b → needs cache t range page ≡ (not (is_some (cached_page cache (t.id, page))) && (b || false))
needs_as cache t range page b is = ap (λ (c : Bool). not (is_some (cached_page cache (t.id, page))) && (c || false)) is

and_false : (b : Bool) → (b && false) ≡ false
and_false true = refl
and_false false = refl

and_true : (b : Bool) → (b && true) ≡ b
and_true true = refl
and_true false = refl

-- two ranges that have bytes of the same pages that aren't held
pub missing_same : (cache : CacheState) (t : Tail) (one other : ℕ × ℕ) → ((page : ℕ) → page < t.full_pages → (is_some (cached_page cache (t.id, page)) ≡ true) ⊎ (touches t.page_size one page ≡ touches t.page_size other page))
    → missing cache t (one ∷ []) ≡ missing cache t (other ∷ [])
missing_same cache t one other same = filter_same (needs cache t one) (needs cache t other) 0 t.full_pages (λ page above below. elim (same page (omega (arith, below))) [
  | inl there ↦
      ap (λ b. not b && (touches t.page_size one page || false)) there ∙ sym (ap (λ b. not b && (touches t.page_size other page || false)) there)
  | inr alike ↦ needs_as cache t one page (touches t.page_size other page) alike
])

-- the pieces of a range whose pages aren't held have just these pages
left_pages : (cache : CacheState) (id P : ℕ) (range : ℕ × ℕ) (buf_offset first n : ℕ)
    → piece_pages (pieces_left cache id (map (piece_of P range buf_offset) (range_with_len first n))) ≡ filter (λ page. not (is_some (cached_page cache (id, page)))) (range_with_len first n)
left_pages cache id P range buf_offset first zero = refl
left_pages cache id P range buf_offset first (suc n) = by_test (not (is_some (cached_page cache (id, first)))) (left_pages cache id P range buf_offset (first + 1) n)
  where
    by_test : (b : Bool) → piece_pages (pieces_left cache id (map (piece_of P range buf_offset) (range_with_len (first + 1) n))) ≡ filter (λ page. not (is_some (cached_page cache (id, page)))) (range_with_len (first + 1) n)
        → piece_pages (cond b (piece_of P range buf_offset first ∷ pieces_left cache id (map (piece_of P range buf_offset) (range_with_len (first + 1) n))) (pieces_left cache id (map (piece_of P range buf_offset) (range_with_len (first + 1) n))))
        ≡ cond b (first ∷ filter (λ page. not (is_some (cached_page cache (id, page)))) (range_with_len (first + 1) n)) (filter (λ page. not (is_some (cached_page cache (id, page)))) (range_with_len (first + 1) n))
    by_test true rest = ap (λ (l : List ℕ). first ∷ l) rest
    by_test false rest = rest

-- an empty range needs no page
pub missing_none : (cache : CacheState) (t : Tail) (offset len : ℕ) → len ≡ 0 → missing cache t ((offset, len) ∷ []) ≡ []
missing_none cache t offset len none =
    filter_none (needs cache t (offset, len)) 0 t.full_pages (λ page above below. needs_as cache t (offset, len) page false (touches_none t.page_size offset len page none) ∙ and_false (not (is_some (cached_page cache (t.id, page)))))

-- the pages that a range below the tail finds missing are those of the pieces that the cache leaves
pub missing_pages : (cache : CacheState) (t : Tail) (offset len buf_offset : ℕ) → 0 < t.page_size → offset + len ≤ t.full_pages * t.page_size
    → missing cache t ((offset, len) ∷ []) ≡ piece_pages (pieces_left cache t.id (pieces_of t.page_size (offset, len) buf_offset))
missing_pages cache t offset len buf_offset some below = elim (cases_lt 0 len) [
  | inl more ↦
      let P = t.page_size in
      let first = offset / P in
      let n = div_ceil (offset % P + len) P in
      let spans = spans_of P offset len some in
      let within : first + n ≤ t.full_pages = spans_within P offset len first n t.full_pages spans below in
      filter_window (needs cache t (offset, len)) (λ page. not (is_some (cached_page cache (t.id, page)))) first n t.full_pages within
      (λ page above under. needs_as cache t (offset, len) page true (touches_yes P offset len page more (spans_begin P offset len first n page spans under) (spans_end P offset len first n page spans above)) ∙ and_true (not (is_some (cached_page cache (t.id, page)))))
      (λ page less. needs_as cache t (offset, len) page false (touches_before P offset len page (before P page first offset spans.begins less)) ∙ and_false (not (is_some (cached_page cache (t.id, page)))))
      (λ page over. needs_as cache t (offset, len) page false (touches_after P offset len page (after P page (first + n) (offset + len) spans.ends over)) ∙ and_false (not (is_some (cached_page cache (t.id, page)))))
      ∙ sym (left_pages cache t.id P (offset, len) buf_offset first n)
      ∙ ap (λ k. piece_pages (pieces_left cache t.id (map (piece_of P (offset, len) buf_offset) (range_with_len first k)))) (sym (page_count_is P offset len more))
  | inr none ↦
      let zero_len : len ≡ 0 = omega (arith, none) in
      missing_none cache t offset len zero_len
      ∙ ap (λ k. piece_pages (pieces_left cache t.id (map (piece_of t.page_size (offset, len) buf_offset) (range_with_len (offset / t.page_size) k)))) (sym (page_count_none t.page_size offset len zero_len))
]
  where
    before : (P page first buf_offset : ℕ) → first * P ≤ buf_offset → page < first → (page + 1) * P ≤ buf_offset
    before P page first buf_offset begins less = let h : (page + 1) * P ≤ first * P = mul-le-mul_right P (omega (arith, less)) in omega (arith, h, begins)

    after : (P page end buf_offset : ℕ) → buf_offset ≤ end * P → end ≤ page → buf_offset ≤ page * P
    after P page end buf_offset ends over = let h : end * P ≤ page * P = mul-le-mul_right P over in omega (arith, h, ends)

-- what a range has below the tail finds missing what the range does
pub missing_below : (cache : CacheState) (t : Tail) (offset len : ℕ) → missing cache t ((offset, len) ∷ []) ≡ missing cache t ((offset, min len (t.full_pages * t.page_size - offset)) ∷ [])
missing_below cache t offset len = missing_same cache t (offset, len) (offset, min len (t.full_pages * t.page_size - offset)) (λ page below. inr (same page below))
  where
    same : (page : ℕ) → page < t.full_pages → touches t.page_size (offset, len) page ≡ touches t.page_size (offset, min len (t.full_pages * t.page_size - offset)) page
    same page below =
        let h : (page + 1) * t.page_size ≤ t.full_pages * t.page_size = mul-le-mul_right t.page_size (omega (arith, below)) in
        elim (cases_lt len (t.full_pages * t.page_size - offset)) [
          | inl short ↦ ap (λ n. touches t.page_size (offset, n) page) (omega (arith, short))
          | inr long ↦ elim (cases_lt offset ((page + 1) * t.page_size)) [
            | inl reach ↦ elim (cases_lt 0 t.page_size) [
              | inl some ↦ touches_yes t.page_size offset len page (omega (arith, reach, h, long)) (omega (arith, reach, h, long, suc-mul page t.page_size, some)) reach ∙ sym (touches_yes t.page_size offset (min len (t.full_pages * t.page_size - offset)) page (omega (arith, reach, h, long)) (omega (arith, reach, h, long, suc-mul page t.page_size, some)) reach)
              | inr none ↦ absurd (let z : (page + 1) * t.page_size ≤ (page + 1) * 0 = mul-le-mul_left (page + 1) none in omega (arith, z, reach))
            ]
            | inr over ↦ touches_before t.page_size offset len page over ∙ sym (touches_before t.page_size offset (min len (t.full_pages * t.page_size - offset)) page over)
          ]
        ]
