-- Where the frames of a content begin.
use Rattle.std.proofs.Common.{◌≡◌, ◌<◌, ◌≤◌, ◌==◌, ◌*◌, ◌+◌, ◌-◌, ◌∙◌, ℕ, zero, suc, List, length, take, drop, get_or, Bool, true, false, ap, sym, refl, subst, inl, inr, arith, min, length-take}
use Rattle.std.specs.Prelude.{if◌then◌else◌}
use Rattle.std.proofs.lemmas.Bool.{cases_lt, eqb-true, eqb-false}
use Rattle.std.proofs.lemmas.List.{drop-drop, drop-take, get_or-drop, get_or-take}
use Rattle.journal.specs.Frame.{frame_len, record_len}
use Rattle.journal.proofs.Frames.{record_len-take}
use Rattle.segments.specs.Marks.{begins_before, frame_begin}

-- frames begin one behind another
pub begins_in_order : (content : List ℕ) (m n : ℕ) → m ≤ n → frame_begin content m ≤ frame_begin content n
begins_in_order content m zero le =
    let none : m ≡ 0 = omega arith in
    subst (λ (k : ℕ). frame_begin content k ≤ 0) (sym none) (omega arith)
begins_in_order content m (suc n) le = elim (cases_lt n m) [
  | inl lt ↦
      let same : m ≡ suc n = omega arith in
      subst (λ (k : ℕ). frame_begin content k ≤ frame_begin content (suc n)) (sym same) (omega arith)
  | inr less ↦
      let before : frame_begin content m ≤ frame_begin content n = begins_in_order content m n less in
      let step : frame_begin content (suc n) ≡ frame_begin content n + frame_len (drop (frame_begin content n) content) = refl in
      omega arith
]

-- so each begins before those behind it
pub begins_apart : (content : List ℕ) (m n : ℕ) → m < n → frame_begin content m < frame_begin content n
begins_apart content m n lt =
    let next : frame_begin content (suc m) ≤ frame_begin content n = begins_in_order content (suc m) n (omega arith) in
    let step : frame_begin content (suc m) ≡ frame_begin content m + frame_len (drop (frame_begin content m) content) = refl in
    omega arith

-- one byte more: the frame that would be next begins there, or not
reaches_one : (content : List ℕ) (offset n : ℕ) (b : Bool) → (frame_begin content n == offset) ≡ b → offset ≤ frame_begin content n → suc offset ≤ frame_begin content (if b then suc n else n)
reaches_one content offset n true is least =
    let at : frame_begin content n ≡ offset = eqb-true (frame_begin content n) offset is in
    let step : frame_begin content (suc n) ≡ frame_begin content n + frame_len (drop (frame_begin content n) content) = refl in
    omega arith
reaches_one content offset n false is least = elim (cases_lt offset (frame_begin content n)) [
  | inl lt ↦ omega arith
  | inr le ↦ absurd (eqb-false (frame_begin content n) offset is (omega arith))
]

-- the frame behind those that begin before an offset begins at it or behind it
pub next_begin : (content : List ℕ) (offset : ℕ) → offset ≤ frame_begin content (begins_before content offset)
next_begin content zero = omega arith
next_begin content (suc offset) =
    reaches_one content offset (begins_before content offset) (frame_begin content (begins_before content offset) == offset) refl (next_begin content offset)

begun_one : (content : List ℕ) (offset n m : ℕ) (b : Bool) → (frame_begin content n == offset) ≡ b → ((k : ℕ) → k < n → frame_begin content k < offset) → m < (if b then suc n else n) → frame_begin content m < suc offset
begun_one content offset n m true is all lt = elim (cases_lt m n) [
  | inl less ↦ let before = all m less in omega arith
  | inr more ↦
      let same : m ≡ n = omega arith in
      let at : frame_begin content n ≡ offset = eqb-true (frame_begin content n) offset is in
      let here : frame_begin content m ≡ offset = ap (frame_begin content) same ∙ at in
      omega arith
]
begun_one content offset n m false is all lt = let before = all m lt in omega arith

-- and each before it begins before the offset
pub begun_before : (content : List ℕ) (offset m : ℕ) → m < begins_before content offset → frame_begin content m < offset
begun_before content zero m lt = absurd (omega arith)
begun_before content (suc offset) m lt =
    begun_one content offset (begins_before content offset) m (frame_begin content (begins_before content offset) == offset) refl (begun_before content offset) lt

-- there is one such count
pub count_is : (content : List ℕ) (offset n : ℕ) → offset ≤ frame_begin content n → ((m : ℕ) → m < n → frame_begin content m < offset) → n ≡ begins_before content offset
count_is content offset n least all =
    let k = begins_before content offset in
    elim (cases_lt n k) [
      | inl less ↦ let before = begun_before content offset n less in absurd (omega arith)
      | inr more ↦
          elim (cases_lt k n) [
            | inl less ↦ let before = all k less in let here = next_begin content offset in absurd (omega arith)
            | inr same ↦ omega arith
          ]
    ]

-- a length has two bytes, the higher one first
pub length_bytes : (bytes : List ℕ) → record_len bytes ≡ get_or bytes 0 0 * 256 + get_or bytes 1 0
unfolding record_len
length_bytes bytes = omega arith

-- the length of a frame that begins in a page, which has both bytes of it
pub length_in_page : (content page : List ℕ) (offset k at : ℕ) → page ≡ take k (drop offset content) → at + 1 < length page → record_len (drop at page) ≡ record_len (drop (offset + at) content)
length_in_page content page offset k at is within =
    let len : length page ≡ min k (length (drop offset content)) = ap length is ∙ length-take k (drop offset content) in
    let enough : 2 ≤ k - at = omega arith in
    let parts : k ≡ at + (k - at) = omega arith in
    ap (λ (l : List ℕ). record_len (drop at l)) is ∙ ap (λ (j : ℕ). record_len (drop at (take j (drop offset content)))) parts
    ∙ ap record_len (drop-take at (k - at) (drop offset content)) ∙ record_len-take (k - at) (drop at (drop offset content)) enough
    ∙ ap record_len (drop-drop at offset content)

-- a byte of a page
pub byte_in_page : (content page : List ℕ) (offset k at : ℕ) → page ≡ take k (drop offset content) → at < length page → get_or page at 0 ≡ get_or content (offset + at) 0
byte_in_page content page offset k at is within =
    let len : length page ≡ min k (length (drop offset content)) = ap length is ∙ length-take k (drop offset content) in
    let below : at < k = omega arith in
    ap (λ (l : List ℕ). get_or l at 0) is ∙ get_or-take k (drop offset content) at 0 below ∙ get_or-drop offset content at 0

-- the length of the frame at an offset, by its bytes
pub length_at : (content : List ℕ) (offset : ℕ) → record_len (drop offset content) ≡ get_or content offset 0 * 256 + get_or content (offset + 1) 0
length_at content offset =
    let place : offset + 0 ≡ offset = omega arith in
    let high : get_or (drop offset content) 0 0 ≡ get_or content offset 0 = get_or-drop offset content 0 0 ∙ ap (λ (i : ℕ). get_or content i 0) place in
    let low : get_or (drop offset content) 1 0 ≡ get_or content (offset + 1) 0 = get_or-drop offset content 1 0 in
    let both = length_bytes (drop offset content) in
    omega arith
