-- A footer's twelve bytes, and what its slots hold.
use Rattle.std.proofs.Common.{◌≡◌, ◌∙◌, ap, sym, subst, ℕ, ◌+◌, ◌<◌, ◌≤◌, ◌^◌, ◌++◌, Bool, true, false, List, length, take, drop, get_or, arith, nat_lt, inl, inr}
use Rattle.std.specs.Prelude.{if◌then◌else◌, Some, not, ◌==◌, ◌&&◌}
use Rattle.page.specs.declared.slot.ActiveChecksum.{ActiveChecksum}
use Rattle.std.specs.Bool.{then_some}
use Rattle.std.proofs.lemmas.Nat.{from_be_bytes-to_be_bytes_2, from_be_bytes-to_be_bytes_4}
use Rattle.std.proofs.lemmas.Bool.{le-ltb, lt-ltb, cases_lt}
use Rattle.std.proofs.lemmas.List.{take-append-drop, length-take, length-drop, take_all, drop-drop, length-take-le}
use Rattle.page.specs.Slot.{other}
use Rattle.page.specs.Page.{bad_slot, bad_beside, slot_bytes, slot_len, slot_crc, slot_of, slot_verifies, verifies, verified_len, value_len, active}
use Rattle.page.specs.Footer.{footer_bytes, footer_of, active_of, longer_slot, is_checksum_of, is_bad}
use Rattle.page.specs.declared.checksum.Checksum.{Checksum}
use Rattle.page.specs.declared.slot.Slot.{Slot}
use Rattle.page.specs.declared.slot.Slot.TheVariants.{First, Second}
use Rattle.page.specs.declared.slot.ActiveChecksum.{ActiveChecksum}
use Rattle.page.proofs.Slots.{slot_bytes-said, take-below, drop-below}
use Rattle.page.proofs.Values.{slot_verifies-take, verified_cases, verified_len-le_said, verifies-says, active-first, active-second, active-none}

-- the bytes of the footer that twelve bytes are read as are these twelve
pub footer_bytes-footer_of : (bytes : List ℕ) → length bytes ≡ 12 → ((i : ℕ) → get_or bytes i 0 < 256) → footer_bytes (footer_of bytes) ≡ bytes
footer_bytes-footer_of bytes twelve below =
    let first = slot_bytes-said (take 6 bytes) (rw length-take (omega arith)) (take-below 6 256 bytes (omega arith) below) in
    let second = slot_bytes-said (drop 6 bytes) (rw length-drop (omega arith)) (drop-below 6 256 bytes below) in
    ap (λ b. b ++ slot_bytes (slot_len (drop 6 bytes)) (slot_crc (drop 6 bytes))) first ∙ ap (λ b. take 6 bytes ++ b) second ∙ take-append-drop 6 bytes

-- the footer that a footer's bytes are read as is that footer
pub footer_of-footer_bytes : (c : Checksum) → c.len1 < 2 ^ 16 → c.crc1 < 2 ^ 32 → c.len2 < 2 ^ 16 → c.crc2 < 2 ^ 32 → footer_of (footer_bytes c) ≡ c
footer_of-footer_bytes c len1 crc1 len2 crc2 =
    let a : slot_len (take 6 (footer_bytes c)) ≡ c.len1 = from_be_bytes-to_be_bytes_2 c.len1 len1 in
    let b : slot_crc (take 6 (footer_bytes c)) ≡ c.crc1 = from_be_bytes-to_be_bytes_4 c.crc1 crc1 in
    let d : slot_len (drop 6 (footer_bytes c)) ≡ c.len2 = from_be_bytes-to_be_bytes_2 c.len2 len2 in
    let e : slot_crc (drop 6 (footer_bytes c)) ≡ c.crc2 = from_be_bytes-to_be_bytes_4 c.crc2 crc2 in
    λ i. record { len1 = a i; crc1 = b i; len2 = d i; crc2 = e i }

-- what a page's slot holds, as its footer has it
abbrev pub says : ℕ → List ℕ → Slot → ActiveChecksum
says P page s = record { slot = s; len = slot_len (slot_of P s page); crc = slot_crc (slot_of P s page) }

-- a page's footer has what its slots hold
pub active_of-says : (P : ℕ) (s : Slot) (page : List ℕ) → length page ≡ P + 12 → active_of (footer_of (drop P page)) s ≡ says P page s
active_of-says P First page whole =
    let Q : List ℕ → ActiveChecksum = λ slot. record { slot = First; len = slot_len slot; crc = slot_crc slot } in
    let here : P ≡ P + 0 = omega arith in
    ap (λ at. Q (take 6 (drop at page))) here
active_of-says P Second page whole =
    let six : length (drop 6 (drop P page)) ≤ 6 = simp (length-drop) (omega arith) in
    let same : drop 6 (drop P page) ≡ take 6 (drop (P + 6) page) = sym (take_all 6 (drop 6 (drop P page)) six) ∙ ap (take 6) (drop-drop 6 P page) in
    let Q : List ℕ → ActiveChecksum = λ slot. record { slot = Second; len = slot_len slot; crc = slot_crc slot } in
    ap Q same

-- the payload has the checksum that a slot holds exactly where the slot verifies
pub is_checksum_of-verifies : (sum : List ℕ → ℕ) (P : ℕ) (s : Slot) (page : List ℕ) → length page ≡ P + 12 → is_checksum_of sum (says P page s) (take P page) ≡ verifies sum P s page
is_checksum_of-verifies sum P s page whole =
    let slot : List ℕ = slot_of P s page in
    let all : length (take P page) ≡ P = length-take-le P page (omega arith) in
    ap (λ n. slot_verifies sum n slot (take P page)) all ∙ slot_verifies-take sum P slot page P (omega arith)

-- the slot that holds the greater length, the first on equal ones
abbrev says_longer : ℕ → List ℕ → Slot
says_longer P page = if nat_lt (slot_len (slot_of P First page)) (slot_len (slot_of P Second page)) then Second else First

-- where the second slot verifies and holds the greater length, it gives the value
longer-second : (sum : List ℕ → ℕ) (P : ℕ) (page : List ℕ) → slot_len (slot_of P First page) < slot_len (slot_of P Second page) → verifies sum P Second page ≡ true
    → active sum P page ≡ Some (says P page Second)
longer-second sum P page less passes =
    let len : verified_len sum P Second page ≡ slot_len (slot_of P Second page) = ap (λ (b : Bool). if b then slot_len (slot_of P Second page) else 0) passes in
    let most : verified_len sum P First page < verified_len sum P Second page = omega (arith, verified_len-le_said sum P First page) in
    active-second sum P page most ∙ ap (λ n. Some (record (says P page Second) { len = n })) len

-- where the first slot verifies and holds no smaller length, it gives the value
longer-first : (sum : List ℕ → ℕ) (P : ℕ) (page : List ℕ) → slot_len (slot_of P Second page) ≤ slot_len (slot_of P First page) → verifies sum P First page ≡ true
    → active sum P page ≡ Some (says P page First)
longer-first sum P page most passes =
    let len : verified_len sum P First page ≡ slot_len (slot_of P First page) = ap (λ (b : Bool). if b then slot_len (slot_of P First page) else 0) passes in
    let greatest : verified_len sum P Second page ≤ verified_len sum P First page = omega (arith, verified_len-le_said sum P Second page) in
    let positive = verifies-says sum P First page passes in
    let some : 0 < verified_len sum P First page = omega arith in
    active-first sum P page greatest some ∙ ap (λ n. Some (record (says P page First) { len = n })) len

-- where a slot doesn't verify, the other slot gives the value if it verifies
alone-first : (sum : List ℕ → ℕ) (P : ℕ) (page : List ℕ) → verifies sum P Second page ≡ false → active sum P page ≡ then_some (verifies sum P First page) (says P page First)
alone-first sum P page fails =
    let nothing : verified_len sum P Second page ≡ 0 = ap (λ (b : Bool). if b then slot_len (slot_of P Second page) else 0) fails in
    elim (verified_cases sum P First page) [
      | inl h ↦
          let positive = verifies-says sum P First page h.0 in
          let len = h.1 in
          let greatest : verified_len sum P Second page ≤ verified_len sum P First page = omega arith in
          let some : 0 < verified_len sum P First page = omega arith in
          active-first sum P page greatest some ∙ ap (λ n. Some (record (says P page First) { len = n })) len ∙ sym (ap (λ b. then_some b (says P page First)) h.0)
      | inr h ↦
          let len = h.1 in
          let none : value_len sum P page ≡ 0 = omega arith in
          active-none sum P page none ∙ sym (ap (λ b. then_some b (says P page First)) h.0)
    ]

alone-second : (sum : List ℕ → ℕ) (P : ℕ) (page : List ℕ) → verifies sum P First page ≡ false → active sum P page ≡ then_some (verifies sum P Second page) (says P page Second)
alone-second sum P page fails =
    let nothing : verified_len sum P First page ≡ 0 = ap (λ (b : Bool). if b then slot_len (slot_of P First page) else 0) fails in
    elim (verified_cases sum P Second page) [
      | inl h ↦
          let positive = verifies-says sum P Second page h.0 in
          let len = h.1 in
          let most : verified_len sum P First page < verified_len sum P Second page = omega arith in
          active-second sum P page most ∙ ap (λ n. Some (record (says P page Second) { len = n })) len ∙ sym (ap (λ b. then_some b (says P page Second)) h.0)
      | inr h ↦
          let len = h.1 in
          let none : value_len sum P page ≡ 0 = omega arith in
          active-none sum P page none ∙ sym (ap (λ b. then_some b (says P page Second)) h.0)
    ]

-- the slot that holds the greater length gives the value, if it verifies
pub active-longer : (sum : List ℕ → ℕ) (P : ℕ) (page : List ℕ) → verifies sum P (says_longer P page) page ≡ true → active sum P page ≡ Some (says P page (says_longer P page))
active-longer sum P page =
    let Q : Slot → Type 0 = λ s. verifies sum P s page ≡ true → active sum P page ≡ Some (says P page s) in
    elim (cases_lt (slot_len (slot_of P First page)) (slot_len (slot_of P Second page))) [
      | inl less ↦ subst Q (ap (λ (b : Bool). if b then Second else First) (sym (lt-ltb _ _ less))) (longer-second sum P page less)
      | inr most ↦ subst Q (ap (λ (b : Bool). if b then Second else First) (sym (le-ltb _ _ most))) (longer-first sum P page most)
    ]

-- if the slot of the greater length doesn't verify, the other slot gives the value, if that
-- verifies
pub active-other : (sum : List ℕ → ℕ) (P : ℕ) (page : List ℕ) → verifies sum P (says_longer P page) page ≡ false
    → active sum P page ≡ then_some (verifies sum P (other (says_longer P page)) page) (says P page (other (says_longer P page)))
active-other sum P page =
    let Q : Slot → Type 0 = λ s. verifies sum P s page ≡ false → active sum P page ≡ then_some (verifies sum P (other s) page) (says P page (other s)) in
    elim (cases_lt (slot_len (slot_of P First page)) (slot_len (slot_of P Second page))) [
      | inl less ↦ subst Q (ap (λ (b : Bool). if b then Second else First) (sym (lt-ltb _ _ less))) (alone-first sum P page)
      | inr most ↦ subst Q (ap (λ (b : Bool). if b then Second else First) (sym (le-ltb _ _ most))) (alone-second sum P page)
    ]

-- the slot that is longer by the page's footer is the one that holds the greater length
longer_slot-says : (P : ℕ) (page : List ℕ) → length page ≡ P + 12 → longer_slot (footer_of (drop P page)) ≡ says_longer P page
longer_slot-says P page whole =
    let first = ap (λ a. a.len) (active_of-says P First page whole) in
    let second = ap (λ a. a.len) (active_of-says P Second page whole) in
    ap (λ n. if nat_lt n (slot_len (drop 6 (drop P page))) then Second else First) first
    ∙ ap (λ n. if nat_lt (slot_len (slot_of P First page)) n then Second else First) second

-- a page whose footer is c, over its payload
module _ (sum : List ℕ → ℕ) (P : ℕ) (page payload : List ℕ) (c : Checksum) (whole : length page ≡ P + 12) (front : payload ≡ take P page) (back : c ≡ footer_of (drop P page)) where
  c-says : (s : Slot) → active_of c s ≡ says P page s
  c-says s = ap (λ f. active_of f s) back ∙ active_of-says P s page whole

  c-tells : (s : Slot) → is_checksum_of sum (active_of c s) payload ≡ verifies sum P s page
  c-tells s = ap (λ a. is_checksum_of sum a payload) (c-says s) ∙ ap (is_checksum_of sum (says P page s)) front ∙ is_checksum_of-verifies sum P s page whole

  -- the slot beside the value's, where it is bad
  pub bad-beside : (a : ActiveChecksum) (said : ActiveChecksum) → active sum P page ≡ Some a → said ≡ active_of c (other a.slot) → then_some (is_bad sum said payload) said.slot ≡ bad_slot sum P page
  bad-beside a said is same =
      let s = other a.slot in
      ap (λ x. then_some (is_bad sum x payload) x.slot) same
      ∙ ap (λ b. then_some (not ((active_of c s).len == 0 && (active_of c s).crc == 0) && not b) s) (c-tells s)
      ∙ ap (λ x. then_some (not (x.len == 0 && x.crc == 0) && not (verifies sum P s page)) s) (c-says s)
      ∙ sym (ap (bad_beside sum P page) is)

  c-longer : longer_slot c ≡ says_longer P page
  c-longer = ap longer_slot back ∙ longer_slot-says P page whole

  -- if the longer slot's checksum is right, that slot gives the value
  pub active-authoritative : is_checksum_of sum (active_of c (longer_slot c)) payload ≡ true → active sum P page ≡ Some (active_of c (longer_slot c))
  active-authoritative right =
      let Q : Slot → Type 0 = λ s. is_checksum_of sum (active_of c s) payload ≡ true → active sum P page ≡ Some (active_of c s) in
      let here : Q (says_longer P page) = λ h.
      active-longer sum P page (sym (c-tells (says_longer P page)) ∙ h) ∙ sym (ap Some (c-says (says_longer P page))) in
      subst Q (sym c-longer) here right

  -- if it is wrong, the other slot gives the value, if its checksum is right
  pub active-fallback : is_checksum_of sum (active_of c (longer_slot c)) payload ≡ false
      → active sum P page ≡ then_some (is_checksum_of sum (active_of c (other (longer_slot c))) payload) (active_of c (other (longer_slot c)))
  active-fallback wrong =
      let Q : Slot → Type 0 = λ s. is_checksum_of sum (active_of c s) payload ≡ false → active sum P page ≡ then_some (is_checksum_of sum (active_of c (other s)) payload) (active_of c (other s)) in
      let here : Q (says_longer P page) = λ h.
      let s : Slot = other (says_longer P page) in
      active-other sum P page (sym (c-tells (says_longer P page)) ∙ h)
      ∙ sym (ap (λ b. then_some b (says P page s)) (c-tells s)) ∙ sym (ap (then_some (is_checksum_of sum (active_of c s) payload)) (c-says s)) in
      subst Q (sym c-longer) here wrong
