-- Contents with the same digests.
use Rattle.std.specs.Prelude.{IfOk, Result, Ok, Err, bytes_eq}
use Rattle.std.proofs.Common.{◌≡◌, ◌⊎◌, ◌<◌, ◌≤◌, ◌*◌, ◌+◌, ◌∙◌, ℕ, zero, suc, List, ◌++◌, Bool, true, false}
use Rattle.std.proofs.Common.{length, take, drop, ap, sym, refl, inl, inr, arith, true≢false}
use Rattle.std.specs.Int.{div_ceil}
use Rattle.std.proofs.lemmas.Grind.{div_ceil_times}
use Rattle.std.proofs.lemmas.List.{drop_at, take_all, take_at}
use Rattle.std.proofs.lemmas.Slice.Eq.{bytes_eq-Decides}
use Rattle.std.proofs.Math.Nat.{suc-mul}
use Rattle.std.proofs.Math.Seq.{take-add}
use Rattle.page_digests.specs.declared.levels.Levels.{Levels}
use Rattle.page_digests.specs.Pages.{digests, list_len, list_of, content_page, pages_of_len, page_len, root_of, top_len, top_of}
use Rattle.page_digests.specs.Seals.{AreLevelsOf, AreLevelsOver, EachIsByte, HasPagePreimage, HasSecondPreimage, IsSecondPreimage, TellsApart}
use Rattle.page_digests.proofs.Bytes.{page_bytes}
use Rattle.page_digests.proofs.Paging.{length-digests, length-page_at, page_within}

judge : (d : List ℕ → List ℕ) (one other : List ℕ) → EachIsByte one → length one ≡ length other → d one ≡ d other → (b : Bool) → bytes_eq one other ≡ b
    → (one ≡ other) ⊎ IsSecondPreimage d one other
judge d one other small len same true e = inl ((bytes_eq-Decides one other).0 e)
judge d one other small len same false e = inr (
    record { small = small; differ = λ is. true≢false (sym ((bytes_eq-Decides one other).1 is) ∙ e); len = len; digest = same })

-- strings of one length and one digest are the same, or the first is a second preimage
pub judged : (d : List ℕ → List ℕ) (one other : List ℕ) → EachIsByte one → length one ≡ length other → d one ≡ d other → (one ≡ other) ⊎ IsSecondPreimage d one other
judged d one other small len same = judge d one other small len same (bytes_eq one other) refl

pub length-list_of : (d : List ℕ → List ℕ) → ((b : List ℕ) → length (d b) ≡ 32) → (P : ℕ) (bytes : List ℕ) → length (list_of d P bytes) ≡ list_len P (length bytes)
length-list_of d sized P bytes = length-digests d sized P bytes (pages_of_len P (length bytes))

pub length-top_of : (d : List ℕ → List ℕ) → ((b : List ℕ) → length (d b) ≡ 32) → (P : ℕ) (content : List ℕ) → length (top_of d P content) ≡ top_len P (length content)
length-top_of d sized P content = length-list_of d sized P (list_of d P content) ∙ ap (list_len P) (length-list_of d sized P content)

front_same : (k : ℕ) (X Y a b : List ℕ) → length X ≡ k → length Y ≡ k → X ++ a ≡ Y ++ b → X ≡ Y
front_same k X Y a b one other same = sym (take_at X a k one) ∙ ap (take k) same ∙ take_at Y b k other

back_same : (k : ℕ) (X Y a b : List ℕ) → length X ≡ k → length Y ≡ k → X ++ a ≡ Y ++ b → a ≡ b
back_same k X Y a b one other same = sym (drop_at X a k one) ∙ ap (drop k) same ∙ drop_at Y b k other

more_pages : (P n : ℕ) (one other : List ℕ) → take (n * P) one ≡ take (n * P) other → content_page P n one ≡ content_page P n other → take (suc n * P) one ≡ take (suc n * P) other
more_pages P n one other front back =
    let step : suc n * P ≡ n * P + P = suc-mul n P in
    ap (λ (k : ℕ). take k one) step ∙ take-add (n * P) P one
    ∙ ap (λ (l : List ℕ). l ++ take P (drop (n * P) one)) front
    ∙ ap (λ (l : List ℕ). take (n * P) other ++ l) back
    ∙ sym (take-add (n * P) P other) ∙ ap (λ (k : ℕ). take k other) (sym step)

pages_same : (d : List ℕ → List ℕ) → ((b : List ℕ) → length (d b) ≡ 32) → (P : ℕ) (one other : List ℕ) (n : ℕ) → EachIsByte one → 0 < P → n ≤ pages_of_len P (length other)
    → length one ≡ length other → digests d P one n ≡ digests d P other n
    → (take (n * P) one ≡ take (n * P) other) ⊎ HasPagePreimage d P other
pages_same d sized P one other zero small positive most len same =
    let none : 0 * P ≡ 0 = omega arith in inl (ap (λ (k : ℕ). take k one) none ∙ sym (ap (λ (k : ℕ). take k other) none))
pages_same d sized P one other (suc n) small positive most len same =
    let a : length (digests d P one n) ≡ n * 32 = length-digests d sized P one n in
    let b : length (digests d P other n) ≡ n * 32 = length-digests d sized P other n in
    let front : digests d P one n ≡ digests d P other n =
    front_same (n * 32) (digests d P one n) (digests d P other n) (d (content_page P n one)) (d (content_page P n other)) a b same in
    let last : d (content_page P n one) ≡ d (content_page P n other) =
    back_same (n * 32) (digests d P one n) (digests d P other n) (d (content_page P n one)) (d (content_page P n other)) a b same in
    let below : n < pages_of_len P (length other) = omega arith in
    let fewer : n ≤ pages_of_len P (length other) = omega arith in
    let lens : length (content_page P n one) ≡ length (content_page P n other) =
    length-page_at P n one ∙ ap (λ (k : ℕ). page_len P k n) len ∙ sym (length-page_at P n other) in
    elim (pages_same d sized P one other n small positive fewer len front) [
      | inr twin ↦ inr twin
      | inl before ↦
          elim (judged d (content_page P n one) (content_page P n other) (page_bytes P n one small) lens last) [
            | inr twin ↦ inr (n, content_page P n one, page_within P (length other) n positive below, twin)
            | inl page ↦ inl (more_pages P n one other before page)
          ]
    ]

whole : (P : ℕ) (bytes : List ℕ) → 0 < P → take (pages_of_len P (length bytes) * P) bytes ≡ bytes
whole P bytes positive =
    let all : length bytes ≤ div_ceil (length bytes) P * P = (div_ceil_times (length bytes) P positive).0 in
    take_all (div_ceil (length bytes) P * P) bytes all

-- bytes of one length and one list are the same, or a second preimage of a page is at hand
pub lists_same : (d : List ℕ → List ℕ) → ((b : List ℕ) → length (d b) ≡ 32) → (P : ℕ) (one other : List ℕ) → EachIsByte one → 0 < P → length one ≡ length other → list_of d P one ≡ list_of d P other
    → (one ≡ other) ⊎ HasPagePreimage d P other
lists_same d sized P one other small positive len same =
    let count : pages_of_len P (length one) ≡ pages_of_len P (length other) = ap (pages_of_len P) len in
    let lists : digests d P one (pages_of_len P (length other)) ≡ digests d P other (pages_of_len P (length other)) = ap (digests d P one) (sym count) ∙ same in
    let all : pages_of_len P (length other) ≤ pages_of_len P (length other) = omega arith in
    elim (pages_same d sized P one other (pages_of_len P (length other)) small positive all len lists) [
      | inr twin ↦ inr twin
      | inl pages ↦ inl (
          sym (whole P one positive) ∙ ap (λ (n : ℕ). take (n * P) one) count ∙ pages ∙ whole P other positive)
    ]

-- a list of the content's length whose own list is the content's top is its list, or there is a
-- second preimage
pub list_told : (d : List ℕ → List ℕ) → ((b : List ℕ) → length (d b) ≡ 32) → (P : ℕ) (list content : List ℕ) → EachIsByte list → EachIsByte (list_of d P list) → 0 < P → length list ≡ list_len P (length content)
    → root_of d P content ≡ d (list_of d P list) → (list ≡ list_of d P content) ⊎ HasSecondPreimage d P content
list_told d sized P list content small tops_small positive len root =
    let len_of : length list ≡ length (list_of d P content) = len ∙ sym (length-list_of d sized P content) in
    let tops : length (list_of d P list) ≡ length (top_of d P content) =
    length-list_of d sized P list ∙ ap (list_len P) len_of ∙ sym (length-list_of d sized P (list_of d P content)) in
    elim (judged d (list_of d P list) (top_of d P content) tops_small tops (sym root)) [
      | inr twin ↦ inr (inl (list_of d P list, twin))
      | inl same ↦
          elim (lists_same d sized P list (list_of d P content) small positive len_of same) [
            | inr twin ↦ inr (inr (inl twin))
            | inl is ↦ inl is
          ]
    ]

-- a content's length and its root tell it from any other
pub told_apart : (d : List ℕ → List ℕ) → ((b : List ℕ) → length (d b) ≡ 32) → (P : ℕ) (content root : List ℕ) → EachIsByte content → EachIsByte (list_of d P content) → EachIsByte (top_of d P content)
    → 0 < P → root ≡ root_of d P content → TellsApart d P content root
told_apart d sized P content root small lists_small tops_small positive is other len same =
    elim (list_told d sized P (list_of d P content) other lists_small tops_small positive (length-list_of d sized P content ∙ ap (list_len P) (sym len)) (same ∙ is)) [
      | inr twin ↦ inr twin
      | inl lists ↦
          elim (lists_same d sized P content other small positive (sym len) lists) [
            | inr twin ↦ inr (inr (inr twin))
            | inl e ↦ inl (sym e)
          ]
    ]

-- the levels over the list of a content are the content's
pub levels_whole : {E : Type 0} (d : List ℕ → List ℕ) (P : ℕ) (content list : List ℕ) (result : Result Levels E) → list ≡ list_of d P content
    → IfOk result (λ l. AreLevelsOver d P list l) → IfOk result (λ l. AreLevelsOf d P content l)
levels_whole d P content list (Ok l) is over =
    let top : l.top.items ≡ top_of d P content = over.top ∙ ap (list_of d P) is in
    record { bytes = over.bytes; list = over.list ∙ is; top = top; root = over.root ∙ ap d top }
levels_whole d P content list (Err e) is over = tt

-- and their root tells the content from any other
pub levels_tell : {E : Type 0} (d : List ℕ → List ℕ) (P : ℕ) (content list : List ℕ) (result : Result Levels E) → EachIsByte content → list ≡ list_of d P content
    → IfOk result (λ l. (whole : List ℕ) → EachIsByte whole → list ≡ list_of d P whole → TellsApart d P whole l.root) → IfOk result (λ l. TellsApart d P content l.root)
levels_tell d P content list (Ok l) small is tells = tells content small is
levels_tell d P content list (Err e) small is tells = tt
