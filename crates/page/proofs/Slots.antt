-- A slot's six bytes, and the length and the checksum that they hold.
use Rattle.std.proofs.Common.{◌≡◌, ◌∙◌, ap, refl, ℕ, zero, suc, [], ◌∷◌, ◌+◌, ◌<◌, ◌++◌, List, length, take, drop, get_or, arith}
use Rattle.std.proofs.lemmas.List.{take-append-drop, get_or-drop, length-take, length-drop}
use Rattle.std.proofs.lemmas.Nat.{be_bytes_2, be_bytes_4}
use Rattle.std.specs.Int.{w32, to_be_bytes}
use Rattle.page.specs.Page.{slot_bytes, slot_len, slot_crc}

-- the first bytes of bytes are bytes
pub take-below : (n bound : ℕ) (xs : List ℕ) → 0 < bound → ((i : ℕ) → get_or xs i 0 < bound) → (i : ℕ) → get_or (take n xs) i 0 < bound
take-below zero bound xs some below i = some
take-below (suc n) bound [] some below i = some
take-below (suc n) bound (x ∷ xs) some below zero = below 0
take-below (suc n) bound (x ∷ xs) some below (suc i) = take-below n bound xs some (λ k. below (suc k)) i

-- the bytes after the first ones are bytes too
pub drop-below : (n bound : ℕ) (xs : List ℕ) → ((i : ℕ) → get_or xs i 0 < bound) → (i : ℕ) → get_or (drop n xs) i 0 < bound
drop-below n bound xs below i = rw get_or-drop (below (n + i))

-- the six bytes of the slot with the length and the checksum that six bytes hold are these six
pub slot_bytes-said : (slot : List ℕ) → length slot ≡ 6 → ((i : ℕ) → get_or slot i 0 < 256) → slot_bytes (slot_len slot) (slot_crc slot) ≡ slot
slot_bytes-said slot six bytes =
    let len = be_bytes_2 (take 2 slot) (slot_len slot) (rw length-take (omega arith)) (take-below 2 256 slot (omega arith) bytes) refl in
    let crc = be_bytes_4 (drop 2 slot) (slot_crc slot) (rw length-drop (omega arith)) (drop-below 2 256 slot bytes) refl in
    ap (λ b. b ++ to_be_bytes w32 (slot_crc slot)) len ∙ ap (λ b. take 2 slot ++ b) crc ∙ take-append-drop 2 slot
