-- The pieces of a range: they are within their pages, and together they are the range.
use Rattle.std.proofs.Common.{◌≡◌, inl, inr, ℕ, zero, suc, ◌+◌, ◌*◌, ◌-◌, ◌/◌, ◌%◌, ◌<◌, ◌≤◌, List, [], length, take, drop, map, min, max, refl, sym, ap, ◌∙◌, subst, arith, length-drop}
use Rattle.std.specs.Prelude.{Some, All}
use Rattle.std.specs.Int.{div_ceil}
use Rattle.std.specs.List.{range_with_len}
use Rattle.std.proofs.Math.Nat.{div-add-mod', mod-lt, suc-mul}
use Rattle.std.proofs.lemmas.Bool.{cases_lt}
use Rattle.std.proofs.lemmas.List.{drop-drop, length-take-le}
use Rattle.std.proofs.lemmas.List.Elements.{All-filter}
use Rattle.std.proofs.lemmas.List.FromFn.{get_or-map-range_with_len, length-map-range_with_len}
use Rattle.crash.proofs.Lists.{within_take}
use Rattle.cache.specs.CacheState.{cached_page, CacheState, pieces_left}
use Rattle.cache.specs.Pages.{page_of_content, IsTrueFor}
use Rattle.cache.specs.declared.piece.Piece.{Piece}
use Rattle.paged_read.specs.Tail.{Tail}
use Rattle.paged_read.specs.Ranges.{slice}
use Rattle.paged_read.specs.Pieces.{piece_of, pieces_of}
use Rattle.paged_read.specs.Parts.{IsPieceOf}
use Rattle.paged_read.proofs.Spans.{Spans, spans_of, spans_begin, spans_end, spans_from, spans_to, spans_within, page_count_is, page_count_none}
use Rattle.paged_read.proofs.Copies.{Covers, SomeCovers, Fits, AllFit, AreTrue}

-- ---- pieces for numbers in a row

fit_each : (P : ℕ) (content wanted : List ℕ) (f : ℕ → Piece) (first n : ℕ) → ((p : ℕ) → first ≤ p → p < first + n → Fits P content wanted (f p)) → AllFit P content wanted (map f (range_with_len first n))
fit_each P content wanted f first zero each = tt
fit_each P content wanted f first (suc n) each = (each first (omega arith) (omega arith), fit_each P content wanted f (first + 1) n (λ p above below. each p (omega (arith, above)) (omega (arith, below))))

true_each : (cache : CacheState) (id P : ℕ) (content : List ℕ) (f : ℕ → Piece) (first n : ℕ)
    → ((p : ℕ) → first ≤ p → p < first + n → (bytes : List ℕ) → cached_page cache (id, (f p).page) ≡ Some bytes → bytes ≡ page_of_content P content (f p).page) → AreTrue cache id P content (map f (range_with_len first n))
true_each cache id P content f first zero each = tt
true_each cache id P content f first (suc n) each = (each first (omega arith) (omega arith), true_each cache id P content f (first + 1) n (λ p above below. each p (omega (arith, above)) (omega (arith, below))))

covers_one : (f : ℕ → Piece) (first n q i : ℕ) → first ≤ q → q < first + n → Covers (f q) i → SomeCovers (map f (range_with_len first n)) i
covers_one f first zero q i above below covers = absurd (omega (arith, above, below))
covers_one f first (suc n) q i above below covers = elim (cases_lt first q) [
  | inl more ↦ inr (covers_one f (first + 1) n q i (omega (arith, more)) (omega (arith, below)) covers)
  | inr least ↦ inl (subst (λ p. Covers (f p) i) (omega (arith, above, least)) covers)
]

all_each : (Q : Piece → Type 0) (f : ℕ → Piece) (first n : ℕ) → ((p : ℕ) → first ≤ p → p < first + n → Q (f p)) → All Q (map f (range_with_len first n))
all_each Q f first n each = λ k d below.
    let within : k < n = omega (arith, below, length-map-range_with_len f first n) in
    subst Q (sym (get_or-map-range_with_len f first n k (first + k) d within refl)) (each (first + k) (omega arith) (omega (arith, within)))

-- ---- one piece

-- where it begins and ends
record Part (P offset len page from end : ℕ) : Type 0 where
  from_range : offset ≤ from
  from_page : page * P ≤ from
  order : from ≤ end
  end_range : end ≤ offset + len
  end_page : end ≤ page * P + P

part_of : (P offset len page : ℕ) → page * P < offset + len → offset < (page + 1) * P → Part P offset len page (max offset (page * P)) (min (offset + len) ((page + 1) * P))
part_of P offset len page before after = record {
  from_range = omega arith;
  from_page = omega arith;
  order = omega (arith, before, after, suc-mul page P);
  end_range = omega arith;
  end_page = omega (arith, suc-mul page P);
}

part_bytes : (P offset len page from end : ℕ) (content : List ℕ) → Part P offset len page from end
    → take (end - from) (drop (from - page * P) (page_of_content P content page)) ≡ take (end - from) (drop (0 + (from - offset)) (slice content (offset, len)))
part_bytes P offset len page from end content part =
    let in_page : page * P + (from - page * P) ≡ from = omega (arith, part.from_page) in
    let in_range : offset + (0 + (from - offset)) ≡ from = omega (arith, part.from_range) in
    within_take (end - from) (from - page * P) P (drop (page * P) content) (omega (arith, part))
    ∙ ap (λ (l : List ℕ). take (end - from) l) (drop-drop (from - page * P) (page * P) content)
    ∙ ap (λ n. take (end - from) (drop n content)) (in_page ∙ sym in_range)
    ∙ sym (ap (λ (l : List ℕ). take (end - from) l) (drop-drop (0 + (from - offset)) offset content))
    ∙ sym (within_take (end - from) (0 + (from - offset)) len (drop offset content) (omega (arith, part)))

length-slice : (content : List ℕ) (offset len : ℕ) → offset + len ≤ length content → length (slice content (offset, len)) ≡ len
length-slice content offset len within = length-take-le len (drop offset content) (omega (arith, length-drop offset content, within))

part_fits : (P offset len page : ℕ) (content : List ℕ) → page * P < offset + len → offset < (page + 1) * P → offset + len ≤ length content → Fits P content (slice content (offset, len)) (piece_of P (offset, len) 0 page)
part_fits P offset len page content before after there =
    let part = part_of P offset len page before after in
    record {
      within = omega (arith, part, length-slice content offset len there);
      bytes = part_bytes P offset len page (max offset (page * P)) (min (offset + len) ((page + 1) * P)) content part;
    }

-- ---- the pieces of a range

module _ (P offset len : ℕ) (some : 0 < P) where
  -- what holds of the piece of each page that the range has bytes of holds of them all
  spans_each : (Q : List Piece → Type 0) → Q [] → ((first n : ℕ) → Spans P offset len first n → 0 < len → Q (map (piece_of P (offset, len) 0) (range_with_len first n))) → Q (pieces_of P (offset, len) 0)
  spans_each Q none each = elim (cases_lt 0 len) [
    | inl more ↦
        subst (λ n. Q (map (piece_of P (offset, len) 0) (range_with_len (offset / P) n))) (sym (page_count_is P offset len more))
        (each (offset / P) (div_ceil (offset % P + len) P) (spans_of P offset len some) more)
    | inr nothing ↦ subst (λ n. Q (map (piece_of P (offset, len) 0) (range_with_len (offset / P) n))) (sym (page_count_none P offset len (omega (arith, nothing)))) none
  ]

  -- the pieces fit their places
  pub pieces_fit : (content : List ℕ) → offset + len ≤ length content → AllFit P content (slice content (offset, len)) (pieces_of P (offset, len) 0)
  pieces_fit content there = spans_each (AllFit P content (slice content (offset, len))) tt (λ first n spans more.
      fit_each P content (slice content (offset, len)) (piece_of P (offset, len) 0) first n (λ p above below. part_fits P offset len p content (spans_begin P offset len first n p spans below) (spans_end P offset len first n p spans above) there))

  -- each byte of the range is in a piece
  pub pieces_cover : (i : ℕ) → i < len → SomeCovers (pieces_of P (offset, len) 0) i
  pieces_cover i within =
      let first = offset / P in
      let n = div_ceil (offset % P + len) P in
      let spans = spans_of P offset len some in
      let q = (offset + i) / P in
      let whole : q * P + (offset + i) % P ≡ offset + i = div-add-mod' (offset + i) P in
      let short : (offset + i) % P < P = mod-lt (offset + i) some in
      subst (λ n. SomeCovers (map (piece_of P (offset, len) 0) (range_with_len first n)) i) (sym (page_count_is P offset len (omega (arith, within))))
      (covers_one (piece_of P (offset, len) 0) first n q i (spans_from P offset len first n q spans (omega (arith, whole, short, suc-mul q P))) (spans_to P offset len first n q spans (omega (arith, whole, within)))
      (omega (arith, whole), omega (arith, whole, short, suc-mul q P, within)))

  -- the pieces of cached pages have the content's bytes
  pub pieces_true : (cache : CacheState) (id full : ℕ) (content : List ℕ) → cache.page_size ≡ P → offset + len ≤ full * P → IsTrueFor id content full cache → AreTrue cache id P content (pieces_of P (offset, len) 0)
  pieces_true cache id full content size below true_pages = spans_each (AreTrue cache id P content) tt (λ first n spans more.
      true_each cache id P content (piece_of P (offset, len) 0) first n (λ p above under bytes there.
      true_pages p bytes (omega (arith, under, spans_within P offset len first n full spans below)) there ∙ ap (λ s. page_of_content s content p) size))

  -- each piece is of a page below the tail, and within it
  pub pieces_below : (t : Tail) (room : ℕ) → t.page_size ≡ P → offset + len ≤ t.full_pages * P → len ≤ room → All (IsPieceOf t room) (pieces_of P (offset, len) 0)
  pieces_below t room size below fits = spans_each (All (IsPieceOf t room)) (λ k d none. absurd (omega (arith, none))) (λ first n spans more.
      all_each (IsPieceOf t room) (piece_of P (offset, len) 0) first n (λ p above under.
      let part = part_of P offset len p (spans_begin P offset len first n p spans under) (spans_end P offset len first n p spans above) in
      record {
        below = omega (arith, under, spans_within P offset len first n t.full_pages spans below);
        part = record { within = omega (arith, part, size); fits = omega (arith, part, fits) };
      }))

-- each piece that a cache leaves is of a page below the tail, and within it
pub left_below : (t : Tail) (room : ℕ) (cache : CacheState) (id : ℕ) (pieces : List Piece) → All (IsPieceOf t room) pieces → All (IsPieceOf t room) (pieces_left cache id pieces)
left_below t room cache id pieces all = All-filter _ (IsPieceOf t room) pieces all
