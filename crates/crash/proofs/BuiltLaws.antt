-- The pages of a flush: the slots that they hold, and their bytes joined.
use Rattle.std.proofs.Common.{◌≡◌, ℕ, zero, suc, ◌+◌, ◌-◌, ◌*◌, ◌^◌, ◌<◌, ◌≤◌, List, ◌∷◌, ◌++◌, length, take, drop, refl, sym, ◌∙◌, ap, arith, length-append, length-drop, length-take}
use Rattle.std.specs.Prelude.{slice_get, Option, Some, None, replicate, ◌==◌, nat_le, ◌&&◌, if◌then◌else◌}
use Rattle.std.specs.List.{flat_map}
use Rattle.std.proofs.lemmas.List.{take-take, take_at, drop_at, take_all, drop-drop, take-append-le, length-take-le, length-replicate}
use Rattle.std.proofs.lemmas.Nat.{from_be_bytes-to_be_bytes_2, from_be_bytes-to_be_bytes_4}
use Rattle.std.proofs.lemmas.Bool.Decides.{nat_tests}
use Rattle.page.specs.Slot.{slot_offset, other}
use Rattle.page.specs.Page.{pieces, slot_bytes, slot_of, slot_len, slot_crc, verified_len, value_len}
use Rattle.page.specs.declared.slot.Slot.{Slot}
use Rattle.page.specs.declared.slot.Slot.TheVariants.{First, Second}
use Rattle.page.specs.declared.slot.ActiveChecksum.{ActiveChecksum}
use Rattle.crash.specs.Full.{AreFull}
use Rattle.crash.specs.Built.{kept_slot, kept_len, kept_bytes, footer, page_of, built_pages, built, durable_after}
use Rattle.crash.proofs.Lists.{drop_past}
use Rattle.std.proofs.Math.Seq.{take-add}
use Rattle.page.proofs.Values.{verified_len-le_said}

-- the length that a written slot holds
pub slot_len_of : (len crc : ℕ) → len < 2 ^ 16 → slot_len (slot_bytes len crc) ≡ len
slot_len_of len crc lt = from_be_bytes-to_be_bytes_2 len lt

-- the checksum that a written slot holds
pub slot_crc_of : (len crc : ℕ) → crc < 2 ^ 32 → slot_crc (slot_bytes len crc) ≡ crc
slot_crc_of len crc lt = from_be_bytes-to_be_bytes_4 crc lt

-- the kept slot has six bytes
pub length-kept_bytes : (durable : Option ActiveChecksum) → length (kept_bytes durable) ≡ 6
length-kept_bytes None = refl
length-kept_bytes (Some w) = refl

-- the length that the kept slot holds
pub slot_len_kept : (durable : Option ActiveChecksum) → kept_len durable < 2 ^ 16 → slot_len (kept_bytes durable) ≡ kept_len durable
slot_len_kept None lt = slot_len_of 0 0 lt
slot_len_kept (Some w) lt = slot_len_of w.len w.crc lt

-- a footer has twelve bytes
pub length-footer : (s : Slot) (kept new : List ℕ) → length kept ≡ 6 → length new ≡ 6 → length (footer s kept new) ≡ 12
length-footer First kept new a b = omega (arith, length-append kept new)
length-footer Second kept new a b = omega (arith, length-append new kept)

-- the kept slot of a footer
pub footer_kept : (s : Slot) (kept new : List ℕ) → length kept ≡ 6 → length new ≡ 6 → take 6 (drop (slot_offset s) (footer s kept new)) ≡ kept
footer_kept First kept new a b = take_at kept new 6 a
footer_kept Second kept new a b = ap (λ (l : List ℕ). take 6 l) (drop_at new kept 6 b) ∙ take_all 6 kept (omega arith)

-- the new slot of a footer
pub footer_new : (s : Slot) (kept new : List ℕ) → length kept ≡ 6 → length new ≡ 6 → take 6 (drop (slot_offset (other s)) (footer s kept new)) ≡ new
footer_new First kept new a b = ap (λ (l : List ℕ). take 6 l) (drop_at kept new 6 a) ∙ take_all 6 new (omega arith)
footer_new Second kept new a b = take_at new kept 6 b

-- the value's length, from a slot over all of it and one over no more
greatest : (sum : List ℕ → ℕ) (P n : ℕ) (s : Slot) (page : List ℕ) → verified_len sum P (other s) page ≡ n → verified_len sum P s page ≤ n → value_len sum P page ≡ n
greatest sum P n First page a b = omega arith
greatest sum P n Second page a b = omega arith

-- a length from 1 to P with the right checksum passes the tests of a slot
passes : (v P a b : ℕ) → 0 < v → v ≤ P → a ≡ b → (if nat_le 1 v && nat_le v P && (a == b) then v else 0) ≡ v
passes v P a b some small same = grind (arith, nat_tests)

module _ (sum : List ℕ → ℕ) (P : ℕ) (durable : Option ActiveChecksum) (chunk : List ℕ) (small : length chunk ≤ P) where
  payload : List ℕ
  payload = chunk ++ replicate (P - length chunk) 0

  end : List ℕ
  end = footer (kept_slot durable) (kept_bytes durable) (slot_bytes (length chunk) (sum chunk))

  length-payload : length payload ≡ P
  unfolding payload
  length-payload = omega (arith, length-append chunk (replicate (P - length chunk) 0), length-replicate {A = ℕ} (P - length chunk) 0)

  length-end : length end ≡ 12
  unfolding end
  length-end = length-footer (kept_slot durable) (kept_bytes durable) (slot_bytes (length chunk) (sum chunk)) (length-kept_bytes durable) refl

  parts : page_of sum P durable chunk ≡ payload ++ end
  unfolding payload end
  parts = refl

  -- a page that is built has P + 12 bytes
  pub length-page_of : length (page_of sum P durable chunk) ≡ P + 12
  length-page_of = ap length parts ∙ (let e : length (payload ++ end) ≡ P + 12 = omega (arith, length-append payload end, length-payload, length-end) in e)

  -- it begins with its chunk
  pub page_begins : take (length chunk) (page_of sum P durable chunk) ≡ chunk
  unfolding payload
  page_begins = ap (λ (l : List ℕ). take (length chunk) l) parts ∙ take-append-le (length chunk) payload end (omega (arith, length-payload)) ∙ take_at chunk (replicate (P - length chunk) 0) (length chunk) refl

  -- a shorter beginning is the chunk's
  pub page_begins_less : (n : ℕ) → n ≤ length chunk → take n (page_of sum P durable chunk) ≡ take n chunk
  page_begins_less n le = sym (take-take n (length chunk) (page_of sum P durable chunk) le) ∙ ap (λ (l : List ℕ). take n l) page_begins

  slot_parts : (s : Slot) → slot_of P s (page_of sum P durable chunk) ≡ take 6 (drop (slot_offset s) end)
  slot_parts s =
      ap (λ (l : List ℕ). take 6 (drop (P + slot_offset s) l)) parts
      ∙ ap (λ (l : List ℕ). take 6 l) (drop_past (P + slot_offset s) payload end (omega (arith, length-payload)) ∙ ap (λ (n : ℕ). drop n end) (let e : P + slot_offset s - length payload ≡ slot_offset s = omega (arith, length-payload) in e))

  -- it repeats the kept slot
  pub slot_kept : slot_of P (kept_slot durable) (page_of sum P durable chunk) ≡ kept_bytes durable
  unfolding end
  slot_kept = slot_parts (kept_slot durable) ∙ footer_kept (kept_slot durable) (kept_bytes durable) (slot_bytes (length chunk) (sum chunk)) (length-kept_bytes durable) refl

  -- its other slot is the chunk's
  pub slot_new : slot_of P (other (kept_slot durable)) (page_of sum P durable chunk) ≡ slot_bytes (length chunk) (sum chunk)
  unfolding end
  slot_new = slot_parts (other (kept_slot durable)) ∙ footer_new (kept_slot durable) (kept_bytes durable) (slot_bytes (length chunk) (sum chunk)) (length-kept_bytes durable) refl

-- each checksum fits the 32 bits that a slot holds
abbrev pub IsSmall : (List ℕ → ℕ) → Type 0
IsSmall sum = (bytes : List ℕ) → sum bytes < 2 ^ 32

module _ (sum : List ℕ → ℕ) (P : ℕ) (durable : Option ActiveChecksum) (chunk : List ℕ) (small_sum : IsSmall sum) (small_page : P < 2 ^ 16) (some : 0 < length chunk) (fits : length chunk ≤ P) (carries : kept_len durable ≤ length chunk) where
  -- the chunk's slot verifies over the whole chunk
  pub verified_new : verified_len sum P (other (kept_slot durable)) (page_of sum P durable chunk) ≡ length chunk
  verified_new =
      let page = page_of sum P durable chunk in
      let slot = slot_of P (other (kept_slot durable)) page in
      let len : slot_len slot ≡ length chunk = ap slot_len (slot_new sum P durable chunk fits) ∙ slot_len_of (length chunk) (sum chunk) (omega arith) in
      let crc : slot_crc slot ≡ sum chunk = ap slot_crc (slot_new sum P durable chunk fits) ∙ slot_crc_of (length chunk) (sum chunk) (small_sum chunk) in
      let same : sum (take (slot_len slot) page) ≡ slot_crc slot =
      ap (λ (n : ℕ). sum (take n page)) len ∙ ap sum (page_begins sum P durable chunk fits) ∙ sym crc in
      passes (slot_len slot) P (sum (take (slot_len slot) page)) (slot_crc slot) (omega (arith, len)) (omega (arith, len)) same ∙ len

  -- the kept slot verifies over no more bytes than its length
  pub verified_kept : verified_len sum P (kept_slot durable) (page_of sum P durable chunk) ≤ kept_len durable
  verified_kept =
      let page = page_of sum P durable chunk in
      let len : slot_len (slot_of P (kept_slot durable) page) ≡ kept_len durable = ap slot_len (slot_kept sum P durable chunk fits) ∙ slot_len_kept durable (omega arith) in
      omega (arith, verified_len-le_said sum P (kept_slot durable) page, len)

  -- the page's value is as long as its chunk
  pub value_len_of : value_len sum P (page_of sum P durable chunk) ≡ length chunk
  value_len_of = greatest sum P (length chunk) (kept_slot durable) (page_of sum P durable chunk) verified_new (omega (arith, verified_kept))

-- ---- pages joined

-- a page's chunk is at most a page's payload
chunk_fits : (P : ℕ) (bytes : List ℕ) → length (take P bytes) ≤ P
chunk_fits P bytes = omega (arith, length-take P bytes)

-- m built pages have P + 12 bytes each
pub length-built : (sum : List ℕ → ℕ) (P : ℕ) (durable : Option ActiveChecksum) (m : ℕ) (bytes : List ℕ) → length (built sum P durable m bytes) ≡ m * (P + 12)
length-built sum P durable zero bytes = omega arith
length-built sum P durable (suc m) bytes =
    let page = page_of sum P durable (take P bytes) in
    let rest = built sum P None m (drop P bytes) in
    omega (arith, length-append page rest, length-page_of sum P durable (take P bytes) (chunk_fits P bytes), length-built sum P None m (drop P bytes))

-- the pieces of what is built are the pages
pub pieces-built : (sum : List ℕ → ℕ) (P : ℕ) (durable : Option ActiveChecksum) (m : ℕ) (bytes : List ℕ) → pieces m (P + 12) (built sum P durable m bytes) ≡ built_pages sum P durable m bytes
pieces-built sum P durable zero bytes = refl
pieces-built sum P durable (suc m) bytes =
    let page = page_of sum P durable (take P bytes) in
    let rest = built sum P None m (drop P bytes) in
    let size : length page ≡ P + 12 = length-page_of sum P durable (take P bytes) (chunk_fits P bytes) in
    let head : take (P + 12) (page ++ rest) ≡ page = take_at page rest (P + 12) size in
    let after : drop (P + 12) (page ++ rest) ≡ rest = drop_at page rest (P + 12) size in
    cc (head, ap (λ (l : List ℕ). pieces m (P + 12) l) after ∙ pieces-built sum P None m (drop P bytes))

-- no page but the first carries the durable slot
pub durable_later : (k : ℕ) → durable_after None k ≡ None
durable_later zero = refl
durable_later (suc k) = refl

-- each built page, by its number
pub built_pages_at : (sum : List ℕ → ℕ) (P : ℕ) (durable : Option ActiveChecksum) (m i : ℕ) (bytes : List ℕ) → i < m
    → slice_get (built_pages sum P durable m bytes) i ≡ Some (page_of sum P (durable_after durable i) (take P (drop (i * P) bytes)))
built_pages_at sum P durable zero i bytes lt = absurd (omega arith)
built_pages_at sum P durable (suc m) zero bytes lt = let e : 0 * P ≡ 0 = omega arith in rw e
built_pages_at sum P durable (suc m) (suc i) bytes lt =
    let e : P + i * P ≡ suc i * P = omega arith in
    built_pages_at sum P None m i (drop P bytes) (omega arith)
    ∙ ap (λ (d : Option ActiveChecksum). Some (page_of sum P d (take P (drop (i * P) (drop P bytes))))) (durable_later i)
    ∙ ap (λ (l : List ℕ). Some (page_of sum P None (take P l))) (drop-drop (i * P) P bytes ∙ ap (λ (n : ℕ). drop n bytes) e)

-- the first of the built pages are built of the same bytes
pub take-built_pages : (sum : List ℕ → ℕ) (P : ℕ) (durable : Option ActiveChecksum) (k m : ℕ) (bytes : List ℕ) → k ≤ m → take k (built_pages sum P durable m bytes) ≡ built_pages sum P durable k bytes
take-built_pages sum P durable zero m bytes le = refl
take-built_pages sum P durable (suc k) zero bytes le = absurd (omega arith)
take-built_pages sum P durable (suc k) (suc m) bytes le = ap (λ (l : List (List ℕ)). page_of sum P durable (take P bytes) ∷ l) (take-built_pages sum P None k m (drop P bytes) (omega arith))

-- the payloads of full pages are the bytes
pub built_payloads : (sum : List ℕ → ℕ) (P : ℕ) (durable : Option ActiveChecksum) (k : ℕ) (bytes : List ℕ) → k * P ≤ length bytes → flat_map (take P) (built_pages sum P durable k bytes) ≡ take (k * P) bytes
built_payloads sum P durable zero bytes le = let e : 0 * P ≡ 0 = omega arith in rw e
built_payloads sum P durable (suc k) bytes le =
    let e : suc k * P ≡ P + k * P = omega arith in
    let chunk = take P bytes in
    let len : length chunk ≡ P = length-take-le P bytes (omega arith) in
    let head : take P (page_of sum P durable chunk) ≡ chunk = ap (λ (n : ℕ). take n (page_of sum P durable chunk)) (sym len) ∙ page_begins sum P durable chunk (omega (arith, len)) in
    let rest : flat_map (take P) (built_pages sum P None k (drop P bytes)) ≡ take (k * P) (drop P bytes) = built_payloads sum P None k (drop P bytes) (omega (arith, length-drop P bytes)) in
    ap (λ (l : List ℕ). l ++ flat_map (take P) (built_pages sum P None k (drop P bytes))) head
    ∙ ap (λ (l : List ℕ). chunk ++ l) rest
    ∙ sym (ap (λ (n : ℕ). take n bytes) e ∙ take-add P (k * P) bytes)

-- pages of whole chunks are full
pub built_full : (sum : List ℕ → ℕ) (P : ℕ) (durable : Option ActiveChecksum) (k : ℕ) (bytes : List ℕ) → IsSmall sum → 0 < P → P < 2 ^ 16 → kept_len durable ≤ P → k * P ≤ length bytes → AreFull sum P (built_pages sum P durable k bytes)
built_full sum P durable zero bytes small some small_page carries le = tt
built_full sum P durable (suc k) bytes small some small_page carries le =
    let chunk = take P bytes in
    let len : length chunk ≡ P = length-take-le P bytes (omega arith) in (
      value_len_of sum P durable chunk small small_page (omega (arith, len)) (omega (arith, len)) (omega (arith, len)) ∙ len,
      built_full sum P None k (drop P bytes) small some small_page (omega arith) (omega (arith, length-drop P bytes)),
    )
