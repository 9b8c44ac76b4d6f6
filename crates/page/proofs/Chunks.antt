-- Chunks of whole pages.
use Rattle.std.proofs.Common.{◌≡◌, ◌+◌, ◌-◌, ◌*◌, ◌/◌, ◌%◌, ◌<◌, ◌≤◌, ◌++◌, ◌∷◌, [], ℕ, zero, suc, List, length, take, drop, slice_range, arith, refl, sym, ap, ◌∙◌, append-nil, append_assoc, slice_index_or, length-append, min, inl, inr}
use Rattle.std.specs.List.{concat, All}
use Rattle.std.specs.Int.{next_multiple_of}
use Rattle.std.proofs.Math.Seq.{take-add, take-nil, drop-nil}
use Rattle.std.proofs.lemmas.Bool.{cases_lt}
use Rattle.std.proofs.lemmas.List.{length-take-le, length-drop, take_more, take_min, drop_min, nil_from_length}
use Rattle.std.proofs.lemmas.List.Folds.{concat-append}
use Rattle.std.proofs.lemmas.List.Elements.{All-append}
use Rattle.std.proofs.Math.Nat.{zero-mod, mod-eq_of_lt, add-mul-mod_self_right, add-mul-div_left, mod_self, mul-mod_left, mod-lt}
use Rattle.std.proofs.lemmas.Nat.{div-add-mod'}
use Rattle.disk.specs.Bufs.{with_buf}
use Rattle.page.specs.Tip.{ArePages, AreWholePages, page_limit}

-- what holds of one element holds of the list of it alone
pub All-single : {X : Type 0} (P : X → Type 0) (x : X) → P x → All P (x ∷ [])
All-single P x holds zero d below = holds
All-single P x holds (suc k) d below = absurd (omega arith)

-- the first pages of a chunk with one page more
pub page_taken : (P i : ℕ) (chunk : List ℕ) → take ((i + 1) * P) chunk ≡ take (i * P) chunk ++ slice_range chunk (i * P) (i * P + P)
page_taken P i chunk =
    let next : (i + 1) * P ≡ i * P + P = grind arith in
    let size : i * P + P - i * P ≡ P = omega arith in
    rw (next, size) (take-add (i * P) P chunk)

-- a page of a chunk has the page's size
pub page_length : (P i : ℕ) (chunk : List ℕ) → i < length chunk / P → length (slice_range chunk (i * P) (i * P + P)) ≡ P
page_length P i chunk below =
    let size : i * P + P - i * P ≡ P = omega arith in
    let enough : P ≤ length (drop (i * P) chunk) = rw (length-drop (i * P) chunk) (grind arith) in
    rw size (length-take-le P (drop (i * P) chunk) enough)

-- the pages of some chunks with one page more
pub pages_pushed : (P i : ℕ) (old pages : List (List ℕ)) (chunk : List ℕ) → concat pages ≡ concat old ++ take (i * P) chunk
    → concat (pages ++ slice_range chunk (i * P) (i * P + P) ∷ []) ≡ concat old ++ take ((i + 1) * P) chunk
pages_pushed P i old pages chunk is = rw (concat-append, is, page_taken P i chunk, append-nil) (append_assoc (concat old) (take (i * P) chunk) (slice_range chunk (i * P) (i * P + P)))

pub are_pages_pushed : (P i : ℕ) (pages : List (List ℕ)) (chunk : List ℕ) → ArePages P pages → i < length chunk / P
    → ArePages P (pages ++ slice_range chunk (i * P) (i * P + P) ∷ [])
are_pages_pushed P i pages chunk are below =
    All-append (λ page. length page ≡ P) pages (slice_range chunk (i * P) (i * P + P) ∷ []) are (All-single (λ page. length page ≡ P) (slice_range chunk (i * P) (i * P + P)) (page_length P i chunk below))

-- the first chunks, joined, with one chunk more
pub concat_more : (chunks : List (List ℕ)) (i : ℕ) (d : List ℕ) → i < length chunks → concat (take (i + 1) chunks) ≡ concat (take i chunks) ++ slice_index_or chunks i d
concat_more chunks i d below =
    ap concat (take_more chunks i d below) ∙ concat-append (take i chunks) (slice_index_or chunks i d ∷ []) ∙ ap (λ v. concat (take i chunks) ++ v) (append-nil (slice_index_or chunks i d))

-- a length that is a multiple of the page size is its number of pages times that size
pub pages_in : (P n : ℕ) → n % P ≡ 0 → n / P * P ≡ n
pages_in P n whole = omega (arith, div-add-mod' n P, whole)

-- the sum of two lengths of whole pages is one
pub whole_sum : (P m n : ℕ) → m % P ≡ 0 → n % P ≡ 0 → (m + n) % P ≡ 0
whole_sum P m n first others =
    let back : m + n ≡ n + m / P * P = omega (arith, pages_in P m first) in
    rw back (add-mul-mod_self_right n (m / P) P ∙ others)

-- chunks of whole pages are whole pages together
pub whole_concat : (P : ℕ) (chunks : List (List ℕ)) → AreWholePages P chunks → length (concat chunks) % P ≡ 0
whole_concat P [] are = zero-mod P
whole_concat P (chunk ∷ chunks) are =
    let first : length chunk % P ≡ 0 = are 0 [] (omega arith) in
    let others : length (concat chunks) % P ≡ 0 = whole_concat P chunks (λ k d below. are (suc k) d (omega (arith, below))) in
    rw (length-append chunk (concat chunks)) (whole_sum P (length chunk) (length (concat chunks)) first others)

-- chunks with one more, joined, are the chunks joined and that one
pub concat_with : (chunks : List (List ℕ)) (buf : List ℕ) → concat (with_buf chunks buf) ≡ concat chunks ++ buf
concat_with chunks [] = sym (append-nil (concat chunks))
concat_with chunks (byte ∷ bytes) = concat-append chunks ((byte ∷ bytes) ∷ []) ∙ ap (λ v. concat chunks ++ v) (append-nil (byte ∷ bytes))

pub whole_with : (P : ℕ) (chunks : List (List ℕ)) (buf : List ℕ) → AreWholePages P chunks → length buf % P ≡ 0 → AreWholePages P (with_buf chunks buf)
whole_with P chunks [] are whole = are
whole_with P chunks (byte ∷ bytes) are whole = All-append (λ chunk. length chunk % P ≡ 0) chunks ((byte ∷ bytes) ∷ []) are (All-single (λ chunk. length chunk % P ≡ 0) (byte ∷ bytes) whole)

-- chunks of whole pages that have less than a page together have no byte
pub no_chunk : (P : ℕ) (chunks : List (List ℕ)) (tail : List ℕ) → AreWholePages P chunks → length (concat chunks ++ tail) < P → concat chunks ≡ []
no_chunk P chunks tail are short =
    let whole = whole_concat P chunks are in
    let below : length (concat chunks) < P = omega (arith, length-append (concat chunks) tail, short) in
    nil_from_length (concat chunks) (sym (mod-eq_of_lt below) ∙ whole)

-- a beginning of two joined lists, and a rest of them
pub take_join : (xs ys : List ℕ) (n : ℕ) → take n (xs ++ ys) ≡ take n xs ++ take (n - length xs) ys
take_join [] ys n = let e : n - 0 ≡ n = omega arith in rw (take-nil n, e) refl
take_join (x ∷ xs) ys zero = let e : 0 - length (x ∷ xs) ≡ 0 = omega arith in rw e refl
take_join (x ∷ xs) ys (suc n) = let e : suc n - length (x ∷ xs) ≡ n - length xs = omega arith in rw e (ap (λ l. x ∷ l) (take_join xs ys n))

pub drop_join : (xs ys : List ℕ) (n : ℕ) → drop n (xs ++ ys) ≡ drop n xs ++ drop (n - length xs) ys
drop_join [] ys n = let e : n - 0 ≡ n = omega arith in rw (drop-nil n, e) refl
drop_join (x ∷ xs) ys zero = let e : 0 - length (x ∷ xs) ≡ 0 = omega arith in rw e refl
drop_join (x ∷ xs) ys (suc n) = let e : suc n - length (x ∷ xs) ≡ n - length xs = omega arith in rw e (drop_join xs ys n)

-- a range of two joined lists: that of the first, and that of the second
pub range_join : (xs ys : List ℕ) (start end : ℕ) → start ≤ end → slice_range (xs ++ ys) start end ≡ slice_range xs start end ++ slice_range ys (start - length xs) (end - length xs)
range_join xs ys start end order =
    let left : end - start - length (drop start xs) ≡ end - length xs - (start - length xs) = rw (length-drop start xs) (omega (arith, order)) in
    rw (drop_join xs ys start, take_join (drop start xs) (drop (start - length xs) ys) (end - start), left) refl

-- a range past the end ends there
pub range_min : (xs : List ℕ) (start end : ℕ) → start ≤ end → slice_range xs (min start (length xs)) (min end (length xs)) ≡ slice_range xs start end
range_min xs start end order =
    let width : min end (length xs) - min start (length xs) ≡ min (end - start) (length (drop start xs)) = rw (length-drop start xs) (grind (arith, order)) in
    rw (drop_min start xs, width) (take_min (end - start) (drop start xs))

-- the whole pages of chunks and a tail: the chunks, and the whole pages of the tail
pub full_join : (P c t : ℕ) → 0 < P → c % P ≡ 0 → (c + t) / P * P ≡ c + t / P * P
full_join P c t some whole =
    let back : c + t ≡ t + P * (c / P) = grind (arith, pages_in P c whole) in
    rw (back, add-mul-div_left t (c / P) some) (grind (arith, pages_in P c whole))

-- a length rounded up to whole pages is no shorter
pub multiple_enough : (n P : ℕ) → n ≤ next_multiple_of n P
multiple_enough n P = omega arith

pub multiple_whole : (n P : ℕ) → 0 < P → next_multiple_of n P % P ≡ 0
multiple_whole n P some = elim (cases_lt 0 (n % P)) [
  | inl part ↦
      let below : P - n % P < P = omega (arith, part, mod-lt n some) in
      let sum : n + (P - n % P) ≡ (n / P + 1) * P = grind (arith, div-add-mod' n P, mod-lt n some) in
      rw (mod-eq_of_lt below, sum) (mul-mod_left (n / P + 1) P)
  | inr none ↦
      let zero : n % P ≡ 0 = omega (arith, none) in
      let same : n + 0 ≡ n = omega arith in
      let all : P - n % P ≡ P = omega (arith, zero) in
      rw (all, mod_self P, same) zero
]

pub partial_room : (bytes : List ℕ) (P : ℕ) → length bytes < P → length bytes ≤ page_limit bytes P
partial_room [] P short = omega arith
partial_room (byte ∷ bytes) P short = omega (arith, short)

pub partial_whole : (bytes : List ℕ) (P : ℕ) → page_limit bytes P % P ≡ 0
partial_whole [] P = zero-mod P
partial_whole (byte ∷ bytes) P = mod_self P
