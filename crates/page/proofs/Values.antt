-- When a slot of a page verifies, and what the page's value then is.
use Rattle.std.proofs.Common.{◌≡◌, ap, refl, ℕ, ◌<◌, ◌≤◌, ◌&&◌, ◌==◌, Bool, true, false, List, take, arith, nat_le, nat_lt, inl, inr, ◌⊎◌}
use Rattle.std.specs.Prelude.{if◌then◌else◌, max, Option, Some, None}
use Rattle.std.proofs.lemmas.Bool.{le-ltb, lt-ltb, cases_lt}
use Rattle.std.proofs.Math.Bool.{and-false}
use Rattle.std.proofs.lemmas.List.{take-take}
use Rattle.std.proofs.lemmas.Bool.Decides.{nat_tests}
use Rattle.page.specs.Page.{slot_of, slot_len, slot_crc, slot_verifies, verifies, verified_len, value_len, active}
use Rattle.page.specs.declared.slot.Slot.{Slot}
use Rattle.page.specs.declared.slot.Slot.TheVariants.{First, Second}
use Rattle.page.specs.declared.slot.ActiveChecksum.{ActiveChecksum}

three_tests : (n P s c : ℕ) → (nat_le 1 n && nat_le n P && (s == c)) ≡ true → (0 < n) × (n ≤ P) × (s ≡ c)
three_tests n P s c h = (grind (arith, nat_tests), grind (arith, nat_tests), grind (arith, nat_tests))

tested : (b : Bool) (n : ℕ) → ((b ≡ true) × ((if b then n else 0) ≡ n)) ⊎ ((b ≡ false) × ((if b then n else 0) ≡ 0))
tested true n = inl (refl, refl)
tested false n = inr (refl, refl)

-- a slot verifies over the length that it holds, or its verified length is 0
pub verified_cases : (sum : List ℕ → ℕ) (P : ℕ) (s : Slot) (page : List ℕ)
    → ((verifies sum P s page ≡ true) × (verified_len sum P s page ≡ slot_len (slot_of P s page))) ⊎ ((verifies sum P s page ≡ false) × (verified_len sum P s page ≡ 0))
verified_cases sum P s page = tested (verifies sum P s page) (slot_len (slot_of P s page))

-- a slot that verifies holds a length from 1 to P, and the checksum of that many of the page's
-- first bytes
pub verifies-says : (sum : List ℕ → ℕ) (P : ℕ) (s : Slot) (page : List ℕ) → verifies sum P s page ≡ true
    → (0 < slot_len (slot_of P s page)) × (slot_len (slot_of P s page) ≤ P) × (sum (take (slot_len (slot_of P s page)) page) ≡ slot_crc (slot_of P s page))
verifies-says sum P s page passes = three_tests _ _ _ _ passes

-- a slot verifies over at most the length that it holds
pub verified_len-le_said : (sum : List ℕ → ℕ) (P : ℕ) (s : Slot) (page : List ℕ) → verified_len sum P s page ≤ slot_len (slot_of P s page)
verified_len-le_said sum P s page = elim (verified_cases sum P s page) [ inl h ↦ rw h.1 (omega arith) | inr h ↦ rw h.1 (omega arith) ]

-- the slot of the greater of two verified lengths, the first on equal ones
abbrev longer : ℕ → ℕ → Slot
longer m n = if nat_lt m n then Second else First

-- the slot, length and checksum that the two verified lengths choose
abbrev chosen : ℕ → List ℕ → ℕ → ℕ → Option ActiveChecksum
chosen P page m n = if max m n == 0 then None else Some (record { slot = longer m n; len = max m n; crc = slot_crc (slot_of P (longer m n) page) })

chosen-first : (P : ℕ) (page : List ℕ) (m n : ℕ) → n ≤ m → 0 < m → chosen P page m n ≡ Some (record { slot = First; len = m; crc = slot_crc (slot_of P First page) })
chosen-first P page m n most some =
    let less : nat_lt m n ≡ false = le-ltb m n most in
    let greatest : max m n ≡ m = omega arith in
    let nonzero : (m == 0) ≡ false = grind (arith, nat_tests) in
    rw (less, greatest, nonzero)

chosen-second : (P : ℕ) (page : List ℕ) (m n : ℕ) → m < n → chosen P page m n ≡ Some (record { slot = Second; len = n; crc = slot_crc (slot_of P Second page) })
chosen-second P page m n most =
    let less : nat_lt m n ≡ true = lt-ltb m n most in
    let greatest : max m n ≡ n = omega arith in
    let nonzero : (n == 0) ≡ false = grind (arith, nat_tests) in
    rw (less, greatest, nonzero)

-- no slot verifies: there is no value
pub active-none : (sum : List ℕ → ℕ) (P : ℕ) (page : List ℕ) → value_len sum P page ≡ 0 → active sum P page ≡ None
active-none sum P page none =
    let zero_len : (value_len sum P page == 0) ≡ true = grind (arith, nat_tests) in
    rw zero_len

-- the first slot verifies over the greatest length
pub active-first : (sum : List ℕ → ℕ) (P : ℕ) (page : List ℕ) → verified_len sum P Second page ≤ verified_len sum P First page → 0 < verified_len sum P First page
    → active sum P page ≡ Some (record { slot = First; len = verified_len sum P First page; crc = slot_crc (slot_of P First page) })
active-first sum P page most some = chosen-first P page _ _ most some

-- the second slot verifies over a length greater than the first's
pub active-second : (sum : List ℕ → ℕ) (P : ℕ) (page : List ℕ) → verified_len sum P First page < verified_len sum P Second page
    → active sum P page ≡ Some (record { slot = Second; len = verified_len sum P Second page; crc = slot_crc (slot_of P Second page) })
active-second sum P page most = chosen-second P page _ _ most

-- whether a slot's bytes verify depends on the page's first P bytes
pub slot_verifies-take : (sum : List ℕ → ℕ) (P : ℕ) (slot page : List ℕ) (n : ℕ) → P ≤ n → slot_verifies sum P slot (take n page) ≡ slot_verifies sum P slot page
slot_verifies-take sum P slot page n enough = elim (cases_lt P (slot_len slot)) [
  | inl long ↦ let no : nat_le (slot_len slot) P ≡ false = grind (arith, nat_tests) in rw (no, and-false)
  | inr short ↦ let fits : slot_len slot ≤ n = omega arith in ap (λ bytes. nat_le 1 (slot_len slot) && nat_le (slot_len slot) P && (sum bytes == slot_crc slot)) (take-take (slot_len slot) n page fits)
]
