-- What the laws of the promise need of pages: where a page stands in the blob's bytes, when a slot
-- verifies, and how the text begins.
use Rattle.std.proofs.Common.{◌≡◌, ◌⊎◌, inl, inr, ℕ, zero, suc, ◌+◌, ◌-◌, ◌*◌, ◌<◌, ◌≤◌, min, ◌==◌, if◌then◌else◌, cond, ◌&&◌, leb, eqb, List, [], ◌∷◌, ◌++◌, length, take, drop, slice_get, Some, refl, sym, ap, ap₂, ◌∙◌, arith, length-append, length-take, length-take-le, length-drop}
use Rattle.std.proofs.lemmas.Bool.{cases_lt, cases_eq, cond-true, cond-false, eq-eqb, ne_eqb}
use Rattle.std.proofs.lemmas.Bool.Decides.{nat_tests}
use Rattle.std.proofs.lemmas.Option.{same_Some}
use Rattle.std.proofs.lemmas.List.{drop-drop, take-take, take_min, drop_min, take_at, take-append-le, append-nil}
use Rattle.std.proofs.Math.Seq.{take-add, take-append-add, drop-append-add}
use Rattle.page.specs.Slot.{slot_offset}
use Rattle.page.specs.Page.{slot_of, slot_len, slot_crc, verified_len, value_len, value, pages, text_of_pages}
use Rattle.page.specs.declared.slot.Slot.{Slot}
use Rattle.page.specs.declared.slot.Slot.TheVariants.{First, Second}
use Rattle.crash.specs.Guard.{IsSlotFor}
use Rattle.crash.proofs.Lists.{within_take}
use Rattle.crash.proofs.Pages.{page_is}
use Rattle.crash.proofs.Texts.{verified_len_le, value_len_le}

-- a test of a slot gives 0, or its length, which is then from 1 to P and has the right checksum
tested : (len P found said : ℕ) → (cond (leb 1 len && leb len P && eqb found said) len 0 ≡ 0) ⊎ ((cond (leb 1 len && leb len P && eqb found said) len 0 ≡ len) × (0 < len) × (len ≤ P) × (found ≡ said))
tested len P found said = grind (arith, nat_tests)

-- a slot verifies over nothing, or over its own length, which is from 1 to P, and its checksum is
-- right
pub verified_cases : (sum : List ℕ → ℕ) (P : ℕ) (s : Slot) (page : List ℕ) → (verified_len sum P s page ≡ 0)
    ⊎ ((verified_len sum P s page ≡ slot_len (slot_of P s page)) × (0 < slot_len (slot_of P s page)) × (slot_len (slot_of P s page) ≤ P) × (sum (take (slot_len (slot_of P s page)) page) ≡ slot_crc (slot_of P s page)))
verified_cases sum P s page = tested (slot_len (slot_of P s page)) P (sum (take (slot_len (slot_of P s page)) page)) (slot_crc (slot_of P s page))

-- where a slot has the length and the checksum of the page's first bytes, it verifies over those
pub verified_len_held : (sum : List ℕ → ℕ) (P : ℕ) (s : Slot) (page bytes : List ℕ) → IsSlotFor sum bytes (slot_of P s page) → 0 < length bytes → length bytes ≤ P → take (length bytes) page ≡ bytes → verified_len sum P s page ≡ length bytes
verified_len_held sum P s page bytes is_slot some fits begins =
    let right : sum (take (slot_len (slot_of P s page)) page) ≡ slot_crc (slot_of P s page) =
    ap (λ (n : ℕ). sum (take n page)) is_slot.len ∙ ap sum begins ∙ sym is_slot.crc in
    passed (slot_len (slot_of P s page)) P (sum (take (slot_len (slot_of P s page)) page)) (slot_crc (slot_of P s page)) (length bytes) is_slot.len some fits right
  where
    passed : (len P found said n : ℕ) → len ≡ n → 0 < n → n ≤ P → found ≡ said → cond (leb 1 len && leb len P && eqb found said) len 0 ≡ n
    passed len P found said n is some fits right = grind (arith, nat_tests)

-- a slot that verifies has the length and the checksum of the page's first bytes
pub slot_from_verified : (sum : List ℕ → ℕ) (P : ℕ) (s : Slot) (page : List ℕ) → P + 12 ≤ length page → 0 < verified_len sum P s page → IsSlotFor sum (take (verified_len sum P s page) page) (slot_of P s page)
slot_from_verified sum P s page whole some = elim (verified_cases sum P s page) [
  | inl none ↦ absurd (omega arith)
  | inr is ↦ record {
    size = length-slot s;
    len = sym is.0 ∙ sym (length-take-le (verified_len sum P s page) page (omega (arith, verified_len_le sum P s page)));
    crc = sym is.3 ∙ ap (λ (n : ℕ). sum (take n page)) (sym is.0);
  }
]
  where
    length-slot : (s : Slot) → length (slot_of P s page) ≡ 6
    length-slot First = simp (length-take, length-drop) (omega arith)
    length-slot Second = simp (length-take, length-drop) (omega arith)

-- the value's length is the length over which one of the slots verifies
pub value_len_slot : (sum : List ℕ → ℕ) (P : ℕ) (page : List ℕ) → (s : Slot) × (value_len sum P page ≡ verified_len sum P s page)
value_len_slot sum P page = elim (cases_lt (verified_len sum P First page) (verified_len sum P Second page)) [
  | inl second ↦ (Second, omega arith)
  | inr first ↦ (First, omega arith)
]

-- a slot stands at one of two places of the footer
pub slot_offset_le : (s : Slot) → slot_offset s ≤ 6
slot_offset_le First = omega arith
slot_offset_le Second = omega arith

-- a slot of page p is six bytes of the blob
pub slot_at : (P p : ℕ) (s : Slot) (bytes page : List ℕ) → slice_get (pages P bytes) p ≡ Some page → slot_of P s page ≡ take 6 (drop (p * (P + 12) + P + slot_offset s) bytes)
slot_at P p s bytes page is =
    let same : p * (P + 12) + (P + slot_offset s) ≡ p * (P + 12) + P + slot_offset s = omega arith in
    ap (slot_of P s) (page_is P p bytes page is)
    ∙ within_take 6 (P + slot_offset s) (P + 12) (drop (p * (P + 12)) bytes) (omega (arith, slot_offset_le s))
    ∙ ap (λ (l : List ℕ). take 6 l) (drop-drop (P + slot_offset s) (p * (P + 12)) bytes)
    ∙ ap (λ (k : ℕ). take 6 (drop k bytes)) same

-- a page's beginning stands at its offset in the blob
pub page_begins : (P p n : ℕ) (bytes page : List ℕ) → slice_get (pages P bytes) p ≡ Some page → n ≤ P + 12 → take n page ≡ take n (drop (p * (P + 12)) bytes)
page_begins P p n bytes page is inside = ap (λ (l : List ℕ). take n l) (page_is P p bytes page is) ∙ take-take n (P + 12) (drop (p * (P + 12)) bytes) inside

-- the value of page p is the content's part at its offset, as far as the floor goes
pub record Says (sum : List ℕ → ℕ) (P : ℕ) (content : List ℕ) (floor : ℕ) (ps : List (List ℕ)) (p : ℕ) : Type 0 where
  pub page : List ℕ
  pub there : slice_get ps p ≡ Some page
  pub enough : min P (floor - p * P) ≤ value_len sum P page
  pub begins : take (min P (floor - p * P)) page ≡ take (min P (floor - p * P)) (drop (p * P) content)

-- the values of the pages after the first are parts of the content after the first page's
says_after : (sum : List ℕ → ℕ) (P : ℕ) (content : List ℕ) (floor : ℕ) (page : List ℕ) (ps : List (List ℕ)) (p : ℕ) → Says sum P content floor (page ∷ ps) (suc p) → Says sum P (drop P content) (floor - P) ps p
says_after sum P content floor page ps p says =
    let fewer : min P (floor - P - p * P) ≡ min P (floor - suc p * P) = omega arith in
    let further : P + p * P ≡ suc p * P = omega arith in
    record {
      page = says.page;
      there = says.there;
      enough = omega (arith, says.enough);
      begins = ap (λ (n : ℕ). take n says.page) fewer ∙ says.begins ∙ ap₂ (λ (n k : ℕ). take n (drop k content)) (sym fewer) (sym further) ∙ ap (λ (l : List ℕ). take (min P (floor - P - p * P)) l) (sym (drop-drop (p * P) P content));
    }

-- where the floor ends within the first page, the text begins with the content up to the floor
floor_here : (sum : List ℕ → ℕ) (P : ℕ) (content : List ℕ) (floor : ℕ) (page rest : List ℕ) → floor ≤ length content → floor ≤ value_len sum P page → take floor page ≡ take floor content
    → take floor (value sum P page ++ rest) ≡ take floor content
floor_here sum P content floor page rest enough there begins =
    let whole : floor ≤ length page = omega (arith, simp length-take at (ap length begins)) in
    take-append-le floor (value sum P page) rest (omega (arith, length-take (value_len sum P page) page)) ∙ take-take floor (value_len sum P page) page there ∙ begins

-- where the floor is past the first page, the text begins with the content if what follows does
floor_past : (sum : List ℕ → ℕ) (P : ℕ) (content : List ℕ) (floor : ℕ) (page rest : List ℕ) → floor ≤ length content → P ≤ floor → value_len sum P page ≡ P → take P page ≡ take P content → take (floor - P) rest ≡ take (floor - P) (drop P content)
    → take floor (value sum P page ++ rest) ≡ take floor content
floor_past sum P content floor page rest enough past full begins after =
    let same : floor ≡ P + (floor - P) = omega arith in
    let here : length (take P content) ≡ P = length-take-le P content (omega arith) in
    ap (λ (l : List ℕ). take floor (l ++ rest)) (ap (λ (n : ℕ). take n page) full ∙ begins)
    ∙ ap (λ (n : ℕ). take n (take P content ++ rest)) (same ∙ ap (λ (n : ℕ). n + (floor - P)) (sym here))
    ∙ take-append-add (take P content) rest (floor - P)
    ∙ ap (λ (l : List ℕ). take P content ++ l) after
    ∙ sym (take-add P (floor - P) content)
    ∙ ap (λ (n : ℕ). take n content) (sym same)

-- the value of the first page is the content's beginning, as far as the floor goes
says_first : (sum : List ℕ → ℕ) (P : ℕ) (content : List ℕ) (floor : ℕ) (page : List ℕ) (ps : List (List ℕ)) → Says sum P content floor (page ∷ ps) 0
    → (min P floor ≤ value_len sum P page) × (take (min P floor) page ≡ take (min P floor) content)
says_first sum P content floor page ps says =
    let same : page ≡ says.page = same_Some page says.page says.there in
    let far : min P (floor - 0 * P) ≡ min P floor = omega arith in
    let start : 0 * P ≡ 0 = omega arith in
    let enough : min P floor ≤ value_len sum P says.page = omega (arith, says.enough) in
    let begins : take (min P floor) says.page ≡ take (min P floor) content = ap (λ (n : ℕ). take n says.page) (sym far) ∙ says.begins ∙ ap₂ (λ (n k : ℕ). take n (drop k content)) far start in
    (rw same enough, rw same begins)

-- the text begins as the content, as far as the floor goes, if the value of each page that the
-- floor touches does
pub text_begins : (sum : List ℕ → ℕ) (P : ℕ) (ps : List (List ℕ)) (content : List ℕ) (floor : ℕ) → floor ≤ length content → ((p : ℕ) → p * P < floor → Says sum P content floor ps p)
    → take floor (text_of_pages sum P ps) ≡ take floor content
text_begins sum P ps content zero enough says = refl
text_begins sum P [] content (suc floor) enough says =
    absurd (cc ((says 0 (omega arith)).there))
text_begins sum P (page ∷ ps) content (suc floor) enough says =
    let first = says_first sum P content (suc floor) page ps (says 0 (omega arith)) in
    elim (cases_lt P (suc floor)) [
      | inl past ↦
          let far : min P (suc floor) ≡ P = omega arith in
          let full : value_len sum P page ≡ P = omega (arith, first.0, value_len_le sum P page) in
          let begins : take P page ≡ take P content = ap (λ (n : ℕ). take n page) (sym far) ∙ first.1 ∙ ap (λ (n : ℕ). take n content) far in
          let after = text_begins sum P ps (drop P content) (suc floor - P) (omega (arith, length-drop P content))
          (λ p below. says_after sum P content (suc floor) page ps p (says (suc p) (omega arith))) in
          let goes_on : (if value_len sum P page == P then text_of_pages sum P ps else []) ≡ text_of_pages sum P ps = cond-true (value_len sum P page == P) (text_of_pages sum P ps) [] (eq-eqb (value_len sum P page) P full) in
          floor_past sum P content (suc floor) page _ enough (omega arith) full begins (ap (λ (l : List ℕ). take (suc floor - P) l) goes_on ∙ after)
      | inr here ↦
          let far : min P (suc floor) ≡ suc floor = omega arith in
          floor_here sum P content (suc floor) page _ enough (omega (arith, first.0)) (ap (λ (n : ℕ). take n page) (sym far) ∙ first.1 ∙ ap (λ (n : ℕ). take n content) far)
    ]

-- two parts of a list, one after the other, are a beginning of it
pub joined_beginning : {X : Type 0} (xs ys zs : List X) → xs ≡ take (length xs) zs → ys ≡ take (length ys) (drop (length xs) zs) → xs ++ ys ≡ take (length (xs ++ ys)) zs
joined_beginning xs ys zs first second =
    ap₂ (λ (first_part second_part : List _). first_part ++ second_part) first second ∙ sym (take-add (length xs) (length ys) zs) ∙ ap (λ (n : ℕ). take n zs) (sym (length-append xs ys))

-- a list that is the first n elements of another is its first elements, as many as the list has
pub own_beginning : {X : Type 0} (n : ℕ) (xs zs : List X) → xs ≡ take n zs → xs ≡ take (length xs) zs
own_beginning n xs zs is = is ∙ sym (take_min n zs) ∙ ap (λ (k : ℕ). take k zs) (sym (ap length is ∙ length-take n zs))

-- what follows a page's value in the text
rest_cases : (sum : List ℕ → ℕ) (P : ℕ) (page : List ℕ) (ps : List (List ℕ))
    → ((value_len sum P page ≡ P) × (text_of_pages sum P (page ∷ ps) ≡ value sum P page ++ text_of_pages sum P ps)) ⊎ ((value_len sum P page < P) × (text_of_pages sum P (page ∷ ps) ≡ value sum P page))
rest_cases sum P page ps = elim (cases_eq (value_len sum P page) P) [
  | inl full ↦ inl (full, ap (λ (l : List ℕ). value sum P page ++ l) (cond-true (value_len sum P page == P) (text_of_pages sum P ps) [] (eq-eqb (value_len sum P page) P full)))
  | inr partial ↦ inr (
    omega (arith, value_len_le sum P page),
    ap (λ (l : List ℕ). value sum P page ++ l) (cond-false (value_len sum P page == P) (text_of_pages sum P ps) [] (ne_eqb (value_len sum P page) P partial)) ∙ append-nil (value sum P page),
  )
]

-- the text is a beginning of the content where each page's value is the content's at its offset
pub text_within : (sum : List ℕ → ℕ) (P : ℕ) (ps : List (List ℕ)) (content : List ℕ)
    → ((p : ℕ) (page : List ℕ) → slice_get ps p ≡ Some page → take (value_len sum P page) page ≡ take (value_len sum P page) (drop (p * P) content))
    → text_of_pages sum P ps ≡ take (length (text_of_pages sum P ps)) content
text_within sum P [] content each = refl
text_within sum P (page ∷ ps) content each =
    let start : 0 * P ≡ 0 = omega arith in
    let here : value sum P page ≡ take (value_len sum P page) content = each 0 page refl ∙ ap (λ (k : ℕ). take (value_len sum P page) (drop k content)) start in
    let first = own_beginning (value_len sum P page) (value sum P page) content here in
    let after = text_within sum P ps (drop P content) (λ p other is.
    let further : suc p * P ≡ P + p * P = omega arith in
    each (suc p) other is ∙ ap (λ (k : ℕ). take (value_len sum P other) (drop k content)) further ∙ ap (λ (l : List ℕ). take (value_len sum P other) l) (sym (drop-drop (p * P) P content))) in
    elim (rest_cases sum P page ps) [
      | inl full ↦
          let as_long : length (value sum P page) ≡ min P (length content) = ap length here ∙ length-take (value_len sum P page) content ∙ ap (λ (n : ℕ). min n (length content)) full.0 in
          let second : text_of_pages sum P ps ≡ take (length (text_of_pages sum P ps)) (drop (length (value sum P page)) content) =
          after ∙ ap (λ (l : List ℕ). take (length (text_of_pages sum P ps)) l) (sym (drop_min P content) ∙ ap (λ (k : ℕ). drop k content) (sym as_long)) in
          full.1 ∙ joined_beginning (value sum P page) (text_of_pages sum P ps) content first second ∙ ap (λ (l : List ℕ). take (length l) content) (sym full.1)
      | inr partial ↦ partial.1 ∙ first ∙ ap (λ (l : List ℕ). take (length l) content) (sym partial.1)
    ]

-- a page of which the text has a part
pub record HasPart (sum : List ℕ → ℕ) (P : ℕ) (whole : List ℕ) (ps : List (List ℕ)) (p : ℕ) : Type 0 where
  pub page : List ℕ
  pub there : slice_get ps p ≡ Some page
  pub some : 0 < value_len sum P page
  pub begins : take (value_len sum P page) page ≡ take (value_len sum P page) (drop (p * P) whole)
  pub inside : p * P + value_len sum P page ≤ length whole
  pub enough : min P (length whole - p * P) ≤ value_len sum P page

-- the first part of a list
first_part : {X : Type 0} (xs rest whole : List X) (n k : ℕ) → length xs ≡ n → whole ≡ xs ++ rest → k ≡ 0 → xs ≡ take n (drop k whole)
first_part xs rest whole n k size is start = sym (take_at xs rest n size) ∙ ap₂ (λ (l : List _) (j : ℕ). take n (drop j l)) (sym is) (sym start)

-- a page after the first of which the text has a part
part_after : (sum : List ℕ → ℕ) (P : ℕ) (first rest whole page : List ℕ) (ps : List (List ℕ)) (p : ℕ) → length first ≡ P → whole ≡ first ++ rest → HasPart sum P rest ps p → HasPart sum P whole (page ∷ ps) (suc p)
part_after sum P first rest whole page ps p size is part =
    let further : suc p * P ≡ length first + p * P = omega arith in
    let as_long : length whole ≡ P + length rest = ap length is ∙ length-append first rest ∙ ap (λ (n : ℕ). n + length rest) size in
    let skipped : drop (suc p * P) whole ≡ drop (p * P) rest = ap₂ (λ (k : ℕ) (l : List ℕ). drop k l) further is ∙ drop-append-add first rest (p * P) in
    record {
      page = part.page;
      there = part.there;
      some = part.some;
      begins = part.begins ∙ ap (λ (l : List ℕ). take (value_len sum P part.page) l) (sym skipped);
      inside = omega (arith, part.inside);
      enough = omega (arith, part.enough);
    }

-- each offset of the text lies in a page of which the text has a part
pub has_part : (sum : List ℕ → ℕ) (P : ℕ) (ps : List (List ℕ)) (p : ℕ) → 0 < P → ((q : ℕ) (page : List ℕ) → slice_get ps q ≡ Some page → P ≤ length page)
    → p * P < length (text_of_pages sum P ps) → HasPart sum P (text_of_pages sum P ps) ps p
has_part sum P [] p some long below = absurd (omega arith)
has_part sum P (page ∷ ps) zero some long below =
    let start : 0 * P ≡ 0 = omega arith in
    let n = value_len sum P page in
    let whole = text_of_pages sum P (page ∷ ps) in
    let as_long : length (value sum P page) ≡ n = length-take-le n page (omega (arith, value_len_le sum P page, long 0 page refl)) in
    elim (rest_cases sum P page ps) [
      | inl full ↦
          let size : length whole ≡ n + length (text_of_pages sum P ps) = ap length full.1 ∙ length-append (value sum P page) (text_of_pages sum P ps) ∙ ap (λ (k : ℕ). k + length (text_of_pages sum P ps)) as_long in
          record {
            page = page;
            there = refl;
            some = omega (arith, full.0);
            begins = first_part (value sum P page) (text_of_pages sum P ps) whole n (0 * P) as_long full.1 start;
            inside = omega arith;
            enough = omega (arith, full.0);
          }
      | inr partial ↦
          let size : length whole ≡ n = ap length partial.1 ∙ as_long in
          record {
            page = page;
            there = refl;
            some = omega arith;
            begins = first_part (value sum P page) [] whole n (0 * P) as_long (partial.1 ∙ sym (append-nil (value sum P page))) start;
            inside = omega arith;
            enough = omega arith;
          }
    ]
has_part sum P (page ∷ ps) (suc p) some long below =
    let as_long : length (value sum P page) ≡ value_len sum P page = length-take-le (value_len sum P page) page (omega (arith, value_len_le sum P page, long 0 page refl)) in
    elim (rest_cases sum P page ps) [
      | inl full ↦
          let size : length (text_of_pages sum P (page ∷ ps)) ≡ P + length (text_of_pages sum P ps) =
          ap length full.1 ∙ length-append (value sum P page) (text_of_pages sum P ps) ∙ ap (λ (n : ℕ). n + length (text_of_pages sum P ps)) (as_long ∙ full.0) in
          part_after sum P (value sum P page) (text_of_pages sum P ps) (text_of_pages sum P (page ∷ ps)) page ps p (as_long ∙ full.0) full.1
          (has_part sum P ps p some (λ q other is. long (suc q) other is) (omega arith))
      | inr partial ↦ absurd (omega (arith, ap length partial.1))
    ]
