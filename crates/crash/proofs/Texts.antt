-- The text of pages, of which the first are full.
use Rattle.std.proofs.Common.{◌≡◌, inl, inr, ℕ, zero, suc, ◌+◌, ◌*◌, ◌<◌, ◌≤◌, List, [], ◌∷◌, ◌++◌, length, take, drop, get_or, refl, sym, ◌∙◌, ap, subst, arith, append_assoc, length-drop, length-take}
use Rattle.std.specs.Prelude.{slice_get, Some, None, All, ◌==◌, Bool, true, false, nat_le, nat_lt, ◌&&◌, if◌then◌else◌}
use Rattle.std.specs.List.{flat_map}
use Rattle.std.proofs.lemmas.List.{take-take, append-nil, take_all, length-take-le, take-append-drop, get_or_past, get_or-take, get_or-drop}
use Rattle.std.proofs.lemmas.Option.{same_Some}
use Rattle.std.proofs.lemmas.Bool.{eq-eqb, ne_eqb, cases_Bool, eqb-true, cases_lt, cond-true, cond-false, ltb-true, ltb-false}
use Rattle.std.proofs.lemmas.Bool.Decides.{nat_tests}
use Rattle.std.specs.Int.{w16, w32, to_be_bytes}
use Rattle.std.proofs.lemmas.Nat.{be_bytes_2, be_bytes_4}
use Rattle.std.proofs.lemmas.List.Elements.{All-get_or}
use Rattle.page.specs.Slot.{slot_offset}
use Rattle.page.specs.Page.{pages, active, value_slot, slot_bytes, slot_of, slot_len, slot_crc, verified_len, value_len, value, text_of_pages, text}
use Rattle.page.specs.declared.slot.Slot.{Slot}
use Rattle.page.specs.declared.slot.Slot.TheVariants.{First, Second}
use Rattle.page.specs.declared.slot.ActiveChecksum.{ActiveChecksum}
use Rattle.crash.specs.Full.{AreFull}
use Rattle.crash.specs.Contents.{stored}
use Rattle.crash.proofs.Lists.{slice_get-take, within_take}
use Rattle.crash.proofs.Pages.{pages_at, fewer_fit, pages_split, pages_below, stored_same, take-pages_same}

-- a length that was tested against a bound, or 0
bounded : (v P : ℕ) (checks : Bool) → (if nat_le 1 v && nat_le v P && checks then v else 0) ≤ P
bounded v P checks = grind (arith, nat_tests)

module _ (sum : List ℕ → ℕ) (P : ℕ) where
  -- a slot verifies over at most a page's payload
  pub verified_len_le : (s : Slot) (page : List ℕ) → verified_len sum P s page ≤ P
  verified_len_le s page = bounded (slot_len (slot_of P s page)) P (sum (take (slot_len (slot_of P s page)) page) == slot_crc (slot_of P s page))

  -- each slot that verifies does so over at most the value
  pub verified_le_value : (s : Slot) (page : List ℕ) → verified_len sum P s page ≤ value_len sum P page
  verified_le_value First page = omega arith
  verified_le_value Second page = omega arith

  -- a page's value is at most its payload
  pub value_len_le : (page : List ℕ) → value_len sum P page ≤ P
  value_len_le page = omega (arith, verified_len_le First page, verified_len_le Second page)

  -- the text goes on after a full page
  pub text_full : (page : List ℕ) (rest : List (List ℕ)) → value_len sum P page ≡ P → text_of_pages sum P (page ∷ rest) ≡ take P page ++ text_of_pages sum P rest
  text_full page rest full = rw full (rw (eq-eqb P P refl))

  -- the text ends with a page that isn't full
  pub text_part : (page : List ℕ) (rest : List (List ℕ)) → value_len sum P page < P → text_of_pages sum P (page ∷ rest) ≡ value sum P page
  text_part page rest part = let e : (value_len sum P page == P) ≡ false = ne_eqb (value_len sum P page) P (λ is. omega arith) in
      rw e (append-nil (value sum P page))

  -- full pages join, and the text goes on after them
  pub text_of_full : (front back : List (List ℕ)) → AreFull sum P front → text_of_pages sum P (front ++ back) ≡ flat_map (take P) front ++ text_of_pages sum P back
  text_of_full [] back full = refl
  text_of_full (page ∷ front) back full =
      text_full page (front ++ back) full.0
      ∙ ap (λ (l : List ℕ). take P page ++ l) (text_of_full front back full.1)
      ∙ sym (append_assoc (take P page) (flat_map (take P) front) (text_of_pages sum P back))

  -- full pages and others joined
  pub AreFull-append : (front back : List (List ℕ)) → AreFull sum P front → AreFull sum P back → AreFull sum P (front ++ back)
  AreFull-append [] back full rest = rest
  AreFull-append (page ∷ front) back full rest = (full.0, AreFull-append front back full.1 rest)

  -- the first of full pages are full
  pub AreFull-take : (k : ℕ) (some : List (List ℕ)) → AreFull sum P some → AreFull sum P (take k some)
  AreFull-take zero some full = tt
  AreFull-take (suc k) [] full = tt
  AreFull-take (suc k) (page ∷ some) full = (full.0, AreFull-take k some full.1)

  -- fewer of the first pages are full too
  pub AreFull_fewer : (k n : ℕ) (some : List (List ℕ)) → k ≤ n → AreFull sum P (take n some) → AreFull sum P (take k some)
  AreFull_fewer k n some le full = rw (take-take k n some le) at (AreFull-take k (take n some) full)

  -- a page among full ones is full
  pub AreFull_at : (some : List (List ℕ)) (i : ℕ) (page : List ℕ) → AreFull sum P some → slice_get some i ≡ Some page → value_len sum P page ≡ P
  AreFull_at [] i page full is = absurd (cc)
  AreFull_at (head ∷ some) zero page full is = rw (← same_Some head page is) full.0
  AreFull_at (head ∷ some) (suc i) page full is = AreFull_at some i page full.1 is

  -- a page below so many full ones is full
  pub AreFull_page : (full p : ℕ) (bytes : List ℕ) → AreFull sum P (take full (pages P bytes)) → full * (P + 12) ≤ length bytes → p < full → value_len sum P (take (P + 12) (drop (p * (P + 12)) bytes)) ≡ P
  AreFull_page full p bytes are reach lt =
      let fits : (p + 1) * (P + 12) ≤ length bytes = fewer_fit P (p + 1) full bytes (omega arith) reach in
      AreFull_at (take full (pages P bytes)) p (take (P + 12) (drop (p * (P + 12)) bytes)) are (slice_get-take full (pages P bytes) p lt ∙ pages_at P p bytes fits)

  -- the first pages are full in a blob that begins with the same bytes
  pub AreFull_same : (k : ℕ) (xs ys : List ℕ) → k * (P + 12) ≤ length xs → take (k * (P + 12)) xs ≡ take (k * (P + 12)) ys → AreFull sum P (take k (pages P xs)) → AreFull sum P (take k (pages P ys))
  AreFull_same k xs ys reach same full = subst (λ (l : List (List ℕ)). AreFull sum P l) (take-pages_same P k xs ys reach same) full

  -- the text of a blob of full pages that ends before the next page does
  pub text_of_whole : (k : ℕ) (bytes : List ℕ) → AreFull sum P (take k (pages P bytes)) → k * (P + 12) ≤ length bytes → length bytes < (k + 1) * (P + 12) → text sum P bytes ≡ stored P k bytes
  text_of_whole k bytes full reach ends =
      let all : take k (pages P bytes) ≡ pages P bytes = take_all k (pages P bytes) (pages_below P k bytes ends) in
      ap (λ (l : List (List ℕ)). text_of_pages sum P l) (sym all ∙ sym (append-nil (take k (pages P bytes))))
      ∙ text_of_full (take k (pages P bytes)) [] full
      ∙ append-nil (stored P k bytes)

  -- the text of a blob of full pages alone
  pub text_exact : (k : ℕ) (bytes : List ℕ) → AreFull sum P (take k (pages P bytes)) → length bytes ≡ k * (P + 12) → text sum P bytes ≡ stored P k bytes
  text_exact k bytes full len = text_of_whole k bytes full (omega arith) (omega arith)

  -- the text of a blob whose first pages are full and whose next page isn't: it ends with the value
  -- of that next page
  pub text_of_part : (k : ℕ) (bytes : List ℕ) → AreFull sum P (take k (pages P bytes)) → (k + 1) * (P + 12) ≤ length bytes
      → value_len sum P (take (P + 12) (drop (k * (P + 12)) bytes)) < P
      → text sum P bytes ≡ stored P k bytes ++ value sum P (take (P + 12) (drop (k * (P + 12)) bytes))
  text_of_part k bytes full reach part =
      let page = take (P + 12) (drop (k * (P + 12)) bytes) in
      let rest = drop (k + 1) (pages P bytes) in
      let split : pages P bytes ≡ take k (pages P bytes) ++ page ∷ rest = pages_split P k bytes reach in
      ap (λ (l : List (List ℕ)). text_of_pages sum P l) split
      ∙ text_of_full (take k (pages P bytes)) (page ∷ rest) full
      ∙ ap (λ (l : List ℕ). stored P k bytes ++ l) (text_part page rest part)

  -- the value of the page at an offset is of the bytes at that offset
  pub value_at : (k : ℕ) (bytes : List ℕ) → value sum P (take (P + 12) (drop (k * (P + 12)) bytes)) ≡ take (value_len sum P (take (P + 12) (drop (k * (P + 12)) bytes))) (drop (k * (P + 12)) bytes)
  value_at k bytes =
      let page = take (P + 12) (drop (k * (P + 12)) bytes) in
      take-take (value_len sum P page) (P + 12) (drop (k * (P + 12)) bytes) (omega (arith, value_len_le page))

  -- the text of a beginning of whole pages, of which each is full
  pub text_of_take : (k : ℕ) (bytes : List ℕ) → AreFull sum P (take k (pages P bytes)) → k * (P + 12) ≤ length bytes → text sum P (take (k * (P + 12)) bytes) ≡ stored P k bytes
  text_of_take k bytes full reach =
      let front = take (k * (P + 12)) bytes in
      let size : length front ≡ k * (P + 12) = length-take-le (k * (P + 12)) bytes reach in
      let same : take (k * (P + 12)) front ≡ take (k * (P + 12)) bytes = take_all (k * (P + 12)) front (omega (arith, size)) in
      text_exact k front (AreFull_same k bytes front reach (sym same) full) size ∙ stored_same P k front bytes (omega (arith, size)) same

  -- the text of a blob is that of its full pages, where nothing after them has a value: what is
  -- after them may be cut
  pub text_cut : (k : ℕ) (bytes : List ℕ) → 0 < P → AreFull sum P (take k (pages P bytes)) → k * (P + 12) ≤ length bytes
      → ((k + 1) * (P + 12) ≤ length bytes → value_len sum P (take (P + 12) (drop (k * (P + 12)) bytes)) ≡ 0)
      → text sum P (take (k * (P + 12)) bytes) ≡ text sum P bytes
  text_cut k bytes some full reach none = text_of_take k bytes full reach ∙ sym (elim (cases_lt (length bytes) ((k + 1) * (P + 12))) [
    | inl ends ↦ text_of_whole k bytes full reach ends
    | inr more ↦
        let page = take (P + 12) (drop (k * (P + 12)) bytes) in
        let zero_len : value_len sum P page ≡ 0 = none more in
        text_of_part k bytes full more (omega (arith, zero_len))
        ∙ ap (λ (n : ℕ). stored P k bytes ++ take n page) zero_len
        ∙ append-nil (stored P k bytes)
  ])

  -- what is after a page that isn't full may be cut
  pub text_cut_part : (k : ℕ) (bytes : List ℕ) → AreFull sum P (take k (pages P bytes)) → (k + 1) * (P + 12) ≤ length bytes
      → value_len sum P (take (P + 12) (drop (k * (P + 12)) bytes)) < P
      → text sum P (take ((k + 1) * (P + 12)) bytes) ≡ text sum P bytes
  text_cut_part k bytes full reach part =
      let cut = take ((k + 1) * (P + 12)) bytes in
      let size : length cut ≡ (k + 1) * (P + 12) = length-take-le ((k + 1) * (P + 12)) bytes reach in
      let front : k * (P + 12) ≤ length bytes = omega arith in
      let front_cut : k * (P + 12) ≤ length cut = omega (arith, size) in
      let same : take (k * (P + 12)) bytes ≡ take (k * (P + 12)) cut = sym (take-take (k * (P + 12)) ((k + 1) * (P + 12)) bytes (omega arith)) in
      let page : take (P + 12) (drop (k * (P + 12)) cut) ≡ take (P + 12) (drop (k * (P + 12)) bytes) = within_take (P + 12) (k * (P + 12)) ((k + 1) * (P + 12)) bytes (omega arith) in
      text_of_part k cut (AreFull_same k bytes cut front same full) (omega (arith, size)) (let e : value_len sum P (take (P + 12) (drop (k * (P + 12)) cut)) ≡ value_len sum P (take (P + 12) (drop (k * (P + 12)) bytes)) = ap (λ (l : List ℕ). value_len sum P l) page in omega (arith, e))
      ∙ (λ i. stored_same P k cut bytes front_cut (sym same) i ++ value sum P (page i))
      ∙ sym (text_of_part k bytes full reach part)

-- ---- the slot that gives a page's value

passed_len : (v P a b n : ℕ) → (if nat_le 1 v && nat_le v P && (a == b) then v else 0) ≡ n → 0 < n → v ≡ n
passed_len v P a b n is some = grind (arith, nat_tests)

passed_sum : (v P a b n : ℕ) → (if nat_le 1 v && nat_le v P && (a == b) then v else 0) ≡ n → 0 < n → a ≡ b
passed_sum v P a b n is some = grind (arith, nat_tests)

some_from : {A : Type 0} (none : Bool) (x y : A) → (if none then None else Some x) ≡ Some y → (none ≡ false) × (x ≡ y)
some_from true x y is = absurd (cc)
some_from false x y is = (refl, same_Some x y is)

none_from : {A : Type 0} (none : Bool) (x : A) → (if none then None else Some x) ≡ None → none ≡ true
none_from true x is = refl
none_from false x is = absurd (cc)

-- each number of a list is a byte: it is below 256
abbrev pub AreBytes : List ℕ → Type 0
AreBytes bytes = (i : ℕ) → get_or bytes i 0 < 256

-- what a buffer holds are bytes
pub bytes_from_all : (bytes : List ℕ) → All (λ byte. byte < 256) bytes → AreBytes bytes
bytes_from_all bytes all i = elim (cases_lt i (length bytes)) [
  | inl within ↦ All-get_or (λ byte. byte < 256) bytes i 0 within all
  | inr past ↦ omega (arith, get_or_past bytes i 0 past)
]

-- a beginning of bytes is bytes
pub bytes_of_take : (n : ℕ) (bytes : List ℕ) → AreBytes bytes → AreBytes (take n bytes)
bytes_of_take n bytes are i = elim (cases_lt i n) [
  | inl within ↦ omega (arith, get_or-take n bytes i 0 within, are i)
  | inr past ↦ omega (arith, get_or_past (take n bytes) i 0 (omega (arith, length-take n bytes)))
]

-- a rest of bytes is bytes
pub bytes_of_drop : (n : ℕ) (bytes : List ℕ) → AreBytes bytes → AreBytes (drop n bytes)
bytes_of_drop n bytes are i = omega (arith, get_or-drop n bytes i 0, are (n + i))

-- six bytes are the slot of the length and the checksum that they hold
pub slot_said : (slot : List ℕ) → length slot ≡ 6 → AreBytes slot → slot_bytes (slot_len slot) (slot_crc slot) ≡ slot
slot_said slot six are =
    let len : to_be_bytes w16 (slot_len slot) ≡ take 2 slot = be_bytes_2 (take 2 slot) (slot_len slot) (omega (arith, length-take 2 slot)) (bytes_of_take 2 slot are) refl in
    let crc : to_be_bytes w32 (slot_crc slot) ≡ drop 2 slot = be_bytes_4 (drop 2 slot) (slot_crc slot) (omega (arith, length-drop 2 slot)) (bytes_of_drop 2 slot are) refl in
    (λ i. len i ++ crc i) ∙ take-append-drop 2 slot

-- a slot of a page has six bytes
pub length_slot : (P : ℕ) (s : Slot) (page : List ℕ) → length page ≡ P + 12 → length (slot_of P s page) ≡ 6
length_slot P First page size = omega (arith, length-take 6 (drop (P + 0) page), length-drop (P + 0) page)
length_slot P Second page size = omega (arith, length-take 6 (drop (P + 6) page), length-drop (P + 6) page)

-- a slot that gives a page's value: it verifies over the value's bytes
pub record IsActive (sum : List ℕ → ℕ) (P : ℕ) (page : List ℕ) (a : ActiveChecksum) : Type 0 where
  pub len : a.len ≡ value_len sum P page
  pub some : 0 < a.len
  pub fits : a.len ≤ P
  pub crc : a.crc ≡ sum (take a.len page)
  pub says : slot_len (slot_of P a.slot page) ≡ a.len
  pub holds : slot_crc (slot_of P a.slot page) ≡ a.crc

module _ (sum : List ℕ → ℕ) (P : ℕ) where
  -- the value's slot verifies over the value
  pub value_slot_verifies : (page : List ℕ) → verified_len sum P (value_slot sum P page) page ≡ value_len sum P page
  value_slot_verifies page =
      let first = verified_len sum P First page in
      let second = verified_len sum P Second page in
      elim (cases_Bool (nat_lt first second)) [
        | inl less ↦
            let is : value_slot sum P page ≡ Second = cond-true (nat_lt first second) Second First less in
            let lt : first < second = ltb-true first second less in
            ap (λ (s : Slot). verified_len sum P s page) is ∙ omega arith
        | inr not_less ↦
            let is : value_slot sum P page ≡ First = cond-false (nat_lt first second) Second First not_less in
            let le : second ≤ first = ltb-false first second not_less in
            ap (λ (s : Slot). verified_len sum P s page) is ∙ omega arith
      ]

  -- the slot that `active` finds gives the page's value
  pub active_is : (page : List ℕ) (a : ActiveChecksum) → active sum P page ≡ Some a → IsActive sum P page a
  active_is page a is =
      let v = value_len sum P page in
      let s = value_slot sum P page in
      let slot = slot_of P s page in
      let found = some_from (v == 0) (record { slot = s; len = v; crc = slot_crc slot }) a is in
      let some : 0 < v = grind (arith, nat_tests, found.0) in
      let len : slot_len slot ≡ v = passed_len (slot_len slot) P (sum (take (slot_len slot) page)) (slot_crc slot) v (value_slot_verifies page) some in
      let crc : sum (take (slot_len slot) page) ≡ slot_crc slot = passed_sum (slot_len slot) P (sum (take (slot_len slot) page)) (slot_crc slot) v (value_slot_verifies page) some in
      subst (IsActive sum P page) found.1 (record {
        len = refl;
        some = some;
        fits = value_len_le sum P page;
        crc = sym crc ∙ ap (λ (n : ℕ). sum (take n page)) len;
        says = len;
        holds = refl;
      })

  -- where `active` finds no slot, the page has no value
  pub active_none : (page : List ℕ) → active sum P page ≡ None → value_len sum P page ≡ 0
  active_none page is =
      let v = value_len sum P page in
      let s = value_slot sum P page in
      eqb-true v 0 (none_from (v == 0) (record { slot = s; len = v; crc = slot_crc (slot_of P s page) }) is)

  -- where a page has a value, `active` finds a slot
  pub active_some : (page : List ℕ) → 0 < value_len sum P page → (a : ActiveChecksum) × (active sum P page ≡ Some a)
  active_some page some =
      let v = value_len sum P page in
      let s = value_slot sum P page in
      let told : ActiveChecksum = record { slot = s; len = v; crc = slot_crc (slot_of P s page) } in
      (told, cond-false (v == 0) None (Some told) (ne_eqb v 0 (λ is. omega (arith, is))))

  -- the bytes of the value's slot
  pub active_slot : (page : List ℕ) (a : ActiveChecksum) → length page ≡ P + 12 → AreBytes page → active sum P page ≡ Some a → slot_of P a.slot page ≡ slot_bytes a.len a.crc
  active_slot page a size are is =
      let told = active_is page a is in
      let slot = slot_of P a.slot page in
      let six : length slot ≡ 6 = length_slot P a.slot page size in
      sym (slot_said slot six (bytes_of_take 6 (drop (P + slot_offset a.slot) page) (bytes_of_drop (P + slot_offset a.slot) page are)))
      ∙ (λ i. slot_bytes (told.says i) (told.holds i))
