-- Ranges as words.
use Rattle.std.proofs.Common.{Vec, Global, Bor, ◌≡◌, ◌≢◌, inl, inr, ℕ, ◌+◌, ◌-◌, ◌<◌, ◌^◌, List, [], ◌∷◌, ◌++◌, length, map, take, drop, get_or, Result, Ok, Err, refl, sym, ap, ◌∙◌, arith}
use Rattle.std.specs.Prelude.{IsErrAnd}
use Rattle.std.specs.Fmt.{decimal}
use Rattle.std.proofs.Math.Seq.{get_or-append_seam, take-append_seam, drop-append-add}
use Rattle.std.proofs.lemmas.Bool.{cases_lt}
use Rattle.std.proofs.lemmas.Fmt.{digits_decimal}
use Rattle.std.proofs.lemmas.List.{get_or_append_left, get_or-map, length-append, length-drop, length-map, map-append, take_all, take_more}
use Rattle.std.proofs.lemmas.Str.Parse.{digit_at}
use Rattle.scripts.specs.declared.word.ReadError.{ReadError}
use Rattle.scripts.specs.declared.word.ReadError.TheVariants.{Unreadable, OutOfMemory}
use Rattle.scripts.specs.Script.{IsReadAs, IsU64, IsRangeOfU64, AreRangesOfU64, range_word, ranges_words}
use Rattle.scripts.proofs.Numbers.{numerals}

-- ---- one range

-- a printed number has no colon
decimal-no_colon : (n i : ℕ) → n < 2 ^ 64 → i < length (decimal n) → get_or (decimal n) i 0 ≢ 58
decimal-no_colon n i small below same =
    let digit = digit_at (decimal n) i (digits_decimal numerals n small) below in absurd (omega (arith, digit.0, digit.1))

-- the bytes before this offset have no colon, and it has one
abbrev pub IsFirstColon : List ℕ → ℕ → Type 0
IsFirstColon word at = (at < length word) × (get_or word at 0 ≡ 58) × ((k : ℕ) → k < at → get_or word k 0 ≢ 58)

-- the first colon of a range stands after its offset
colon-at : (word : List ℕ) (at : ℕ) (range : ℕ × ℕ) → IsFirstColon word at → IsRangeOfU64 range → word ≡ range_word range → at ≡ length (decimal range.0)
colon-at word at range first is same =
    elim (cases_lt at (length (decimal range.0))) [
      | inl before ↦
          let here = get_or_append_left (decimal range.0) (58 ∷ decimal range.1) 0 at before in
          let there = ap (λ (w : List ℕ). get_or w at 0) same in
          absurd (decimal-no_colon range.0 at is.0 before (sym here ∙ sym there ∙ first.1))
      | inr after ↦
          elim (cases_lt (length (decimal range.0)) at) [
            | inl later ↦
                let seam = get_or-append_seam (decimal range.0) 58 (decimal range.1) 0 in
                let there = ap (λ (w : List ℕ). get_or w (length (decimal range.0)) 0) same in
                absurd (first.2 (length (decimal range.0)) later (there ∙ seam))
            | inr within ↦ omega arith
          ]
    ]

-- what stands before the first colon is the offset, and what stands after it the length
offset-of : (word : List ℕ) (at : ℕ) (range : ℕ × ℕ) → IsFirstColon word at → IsRangeOfU64 range → word ≡ range_word range → take at word ≡ decimal range.0
offset-of word at range first is same =
    let e = colon-at word at range first is same in
    rw (e, same) (take-append_seam (decimal range.0) (58 ∷ decimal range.1))

length-of : (word : List ℕ) (at : ℕ) (range : ℕ × ℕ) → IsFirstColon word at → IsRangeOfU64 range → word ≡ range_word range → drop (at + 1) word ≡ decimal range.1
length-of word at range first is same =
    let e = colon-at word at range first is same in
    rw (e, same) (drop-append-add (decimal range.0) (58 ∷ decimal range.1) 1)

-- a word is no range where what stands before its first colon is no number
pub offset-unread : (word : List ℕ) (at : ℕ) (e : ReadError) → IsFirstColon word at → IsReadAs decimal IsU64 (take at word) (Err e) → IsReadAs range_word IsRangeOfU64 word (Err e)
offset-unread word at Unreadable first unread = λ range is same. unread range.0 is.0 (offset-of word at range first is same)
offset-unread word at OutOfMemory first unread = tt

-- a word is no range where what stands after its first colon is no number
pub length-unread : (word : List ℕ) (at : ℕ) (e : ReadError) → IsFirstColon word at → IsReadAs decimal IsU64 (take (length word - (at + 1)) (drop (at + 1) word)) (Err e) → IsReadAs range_word IsRangeOfU64 word (Err e)
length-unread word at Unreadable first unread = λ range is same.
    let all = take_all (length word - (at + 1)) (drop (at + 1) word) (omega (arith, length-drop (at + 1) word)) in
    unread range.1 is.1 (all ∙ length-of word at range first is same)
length-unread word at OutOfMemory first unread = tt

-- a word without a colon is no range
pub no_colon-unread : (word : List ℕ) → ((k : ℕ) → k < length word → get_or word k 0 ≢ 58) → (range : ℕ × ℕ) → IsRangeOfU64 range → word ≢ range_word range
no_colon-unread word none range is same =
    let long : length word ≡ length (range_word range) = ap (λ (w : List ℕ). length w) same in
    let there = ap (λ (w : List ℕ). get_or w (length (decimal range.0)) 0) same in
    none (length (decimal range.0)) (omega (arith, long, length-append (decimal range.0) (58 ∷ decimal range.1)))
    (there ∙ get_or-append_seam (decimal range.0) 58 (decimal range.1) 0)

-- ---- what a `?` passes on

-- an error is passed on as it is
pub passed-on : {V T : Type 0} (text : V → T) (IsOne : V → Type 0) (word : T) (r : Result V ReadError) (e : ReadError) → IsErrAnd r (λ x. x ≡ e) → IsReadAs text IsOne word (Err e) → IsReadAs text IsOne word r
passed-on text IsOne word (Ok v) e gives unread = absurd gives
passed-on text IsOne word (Err x) e gives unread = rw gives unread

-- ---- ranges

-- one range more was read
pub one_range_more : (read : List (ℕ × ℕ)) (words : List (Bor (List ℕ))) (i : ℕ) (range : ℕ × ℕ) (d : Bor (List ℕ)) → i < length words
    → map range_word read ≡ take i (map (λ (w : Bor (List ℕ)). w.now) words) → (get_or words i d).now ≡ range_word range
    → map range_word (read ++ range ∷ []) ≡ take (i + 1) (map (λ (w : Bor (List ℕ)). w.now) words)
one_range_more read words i range d below so_far this =
    let nows = map (λ (w : Bor (List ℕ)). w.now) words in
    let there : i < length nows = omega (arith, length-map words (λ (w : Bor (List ℕ)). w.now)) in
    let item : get_or nows i [] ≡ (get_or words i d).now = get_or-map (λ (w : Bor (List ℕ)). w.now) words i d [] below in
    map-append range_word read (range ∷ []) ∙ rw (so_far, take_more nows i [] there, item, this) refl

-- words of which one is no range are no ranges
pub ranges-unread : (words : List (Bor (List ℕ))) (i : ℕ) (e : ReadError) (d : Bor (List ℕ)) → i < length words → IsReadAs range_word IsRangeOfU64 (get_or words i d).now (Err e)
    → IsReadAs (λ (ranges : Vec (ℕ × ℕ) Global). ranges_words ranges.items) (λ ranges. AreRangesOfU64 ranges.items) (map (λ (w : Bor (List ℕ)). w.now) words) (Err e)
ranges-unread words i Unreadable d below unread = λ v are same.
    let nows = map (λ (w : Bor (List ℕ)). w.now) words in
    let item : get_or nows i [] ≡ (get_or words i d).now = get_or-map (λ (w : Bor (List ℕ)). w.now) words i d [] below in
    let counted : length nows ≡ length (map range_word v.items) = ap (λ (l : List (List ℕ)). length l) same in
    let there : i < length v.items = omega (arith, counted, length-map words (λ (w : Bor (List ℕ)). w.now), length-map v.items range_word) in
    let range : get_or (map range_word v.items) i [] ≡ range_word (get_or v.items i (0, 0)) = get_or-map range_word v.items i (0, 0) [] there in
    unread (get_or v.items i (0, 0)) (are.1 i (0, 0) there) (sym item ∙ ap (λ (l : List (List ℕ)). get_or l i []) same ∙ range)
ranges-unread words i OutOfMemory d below unread = tt
