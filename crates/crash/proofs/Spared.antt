-- What one flush spares: the pages below the tip, and in the tip's page the durable slot and what
-- it covers.
use Rattle.std.proofs.Common.{◌≡◌, inl, inr, ℕ, zero, suc, ◌+◌, ◌*◌, ◌^◌, ◌<◌, ◌≤◌, min, List, [], ◌∷◌, ◌++◌, length, take, drop, slice_get, Option, Some, None, refl, sym, ap, ◌∙◌, subst, arith, length-take, length-take-le, length-drop, mul-le-mul_right, le_refl}
use Rattle.std.proofs.lemmas.Bool.{cases_order}
use Rattle.std.proofs.lemmas.List.{take-take, drop-drop, take-append-le}
use Rattle.disk.specs.Disk.{Disk, applied}
use Rattle.disk.specs.Disk.Operation.{Write}
use Rattle.disk.proofs.Lists.{taken_element, joined_element}
use Rattle.page.specs.Slot.{slot_offset}
use Rattle.page.specs.Page.{slot_of, slot_bytes, slot_len, verified_len, pages}
use Rattle.page.specs.declared.slot.Slot.{Slot}
use Rattle.page.specs.declared.slot.ActiveChecksum.{ActiveChecksum}
use Rattle.crash.specs.Built.{kept_slot, kept_len, page_of, built_pages, built}
use Rattle.crash.specs.Guard.{IsPinned, IsGuarded, Guards, IsTruthful}
use Rattle.crash.specs.Contents.{latest}
use Rattle.crash.proofs.Disks.{latest_is_whole, write_in_front_leaves, write_again_leaves}
use Rattle.crash.proofs.Promise.{LeavesPage, held_stays, guards_below, write_leaves_below, SaysOnly, truthful_stays}
use Rattle.crash.proofs.Lists.{within_append}
use Rattle.crash.proofs.BuiltLaws.{length-page_of, page_begins_less, slot_kept, slot_new, slot_len_of, slot_len_kept}
use Rattle.crash.proofs.PageFacts.{slot_offset_le}
use Rattle.std.proofs.lemmas.Option.{same_Some}
use Rattle.page.proofs.Values.{verified_len-le_said}
use Rattle.crash.proofs.DistinctLaws.{slot_cases}

-- a page that is built, before others, has the durable slot
pub built_keeps_slot : (sum : List ℕ → ℕ) (P : ℕ) (w : ActiveChecksum) (m : ℕ) (tip : List ℕ) → take 6 (drop (P + slot_offset w.slot) (built sum P (Some w) (suc m) tip)) ≡ slot_bytes w.len w.crc
built_keeps_slot sum P w m tip =
    let chunk = take P tip in
    let fits : length chunk ≤ P = omega (arith, length-take P tip) in
    within_append 6 (P + slot_offset w.slot) (page_of sum P (Some w) chunk) (built sum P None m (drop P tip)) (omega (arith, length-page_of sum P (Some w) chunk fits, slot_offset_le w.slot))
    ∙ slot_kept sum P (Some w) chunk fits

-- the first page that is built begins with the tip
pub built_begins : (sum : List ℕ → ℕ) (P : ℕ) (durable : Option ActiveChecksum) (m : ℕ) (tip : List ℕ) (n : ℕ) → n ≤ P → n ≤ length tip → take n (built sum P durable (suc m) tip) ≡ take n tip
built_begins sum P durable m tip n fits there =
    let chunk = take P tip in
    let small : length chunk ≤ P = omega (arith, length-take P tip) in
    take-append-le n (page_of sum P durable chunk) (built sum P None m (drop P tip)) (omega (arith, length-page_of sum P durable chunk small))
    ∙ page_begins_less sum P durable chunk small n (omega (arith, length-take P tip)) ∙ take-take n P tip fits

-- a flush of the tip leaves in its page the durable slot and a beginning of the tip
pub flush_leaves_tip : (sum : List ℕ → ℕ) (P full : ℕ) (w : ActiveChecksum) (m : ℕ) (tip bytes : List ℕ) → bytes ≡ take (length bytes) tip → length bytes ≤ P
    → LeavesPage (Write (full * (P + 12)) (built sum P (Some w) m tip)) P full w.slot (slot_bytes w.len w.crc) bytes
flush_leaves_tip sum P full w zero tip bytes begins fits = record {
  payload = write_in_front_leaves (full * (P + 12)) [] (full * (P + 12)) bytes (omega arith);
  fixed_slot = write_in_front_leaves (full * (P + 12)) [] (full * (P + 12) + P + slot_offset w.slot) (slot_bytes w.len w.crc) (omega arith);
  end = write_in_front_leaves (full * (P + 12)) [] ((full + 1) * (P + 12)) [] (omega arith);
}
flush_leaves_tip sum P full w (suc m) tip bytes begins fits = record {
  payload = write_again_leaves (full * (P + 12)) (built sum P (Some w) (suc m) tip) (full * (P + 12)) bytes 0 (omega arith)
      (built_begins sum P (Some w) m tip (length bytes) fits (omega (arith, ap length begins, length-take (length bytes) tip)) ∙ sym begins);
  fixed_slot = write_again_leaves (full * (P + 12)) (built sum P (Some w) (suc m) tip) (full * (P + 12) + P + slot_offset w.slot) (slot_bytes w.len w.crc) (P + slot_offset w.slot) (omega arith)
      (built_keeps_slot sum P w m tip);
  end = write_again_leaves (full * (P + 12)) (built sum P (Some w) (suc m) tip) ((full + 1) * (P + 12)) [] (P + 12) (omega arith) refl;
}

-- so what the durable slot holds stays held
pub held_through_flush : (sum : List ℕ → ℕ) (P full : ℕ) (d e : Disk) (w : ActiveChecksum) (m : ℕ) (tip bytes : List ℕ) → e.base ≡ d.base → e.since ≡ d.since ++ Write (full * (P + 12)) (built sum P (Some w) m tip) ∷ []
    → bytes ≡ take (length bytes) tip → IsPinned sum P d full w.slot (slot_bytes w.len w.crc) bytes → IsPinned sum P e full w.slot (slot_bytes w.len w.crc) bytes
held_through_flush sum P full d e w m tip bytes base since begins held =
    held_stays sum P d e (Write (full * (P + 12)) (built sum P (Some w) m tip)) full w.slot (slot_bytes w.len w.crc) bytes base since (flush_leaves_tip sum P full w m tip bytes begins held.fits) held

-- full pages that are guarded and a page after them that is held are guarded together
pub guards_with_tip : (sum : List ℕ → ℕ) (P full : ℕ) (content : List ℕ) (len : ℕ) (d : Disk) (s : Slot) (slot : List ℕ) → full * P + len ≤ length content → Guards sum P content (full * P) d
    → IsPinned sum P d full s slot (take len (drop (full * P) content)) → Guards sum P content (full * P + len) d
guards_with_tip sum P full content len d s slot there guards held =
    let as_long : length (take len (drop (full * P) content)) ≡ len = length-take-le len (drop (full * P) content) (omega (arith, length-drop (full * P) content)) in
    λ p below. elim (cases_order p full) [
      | inl same ↦ subst (λ (q : ℕ). IsGuarded sum P content (full * P + len) d q) (sym same)
          (record { slot = s; bytes = slot; len = len; enough = omega arith; there = there; held = held })
      | inr (inl in_front) ↦
          let more : suc p * P ≤ full * P = mul-le-mul_right P in_front in
          let some : 0 < P = omega (arith, held.some, held.fits) in
          let g = guards p (omega arith) in
          record { slot = g.slot; bytes = g.bytes; len = g.len; enough = omega (arith, g.enough); there = g.there; held = g.held }
      | inr (inr after) ↦
          let past : suc full * P ≤ p * P = mul-le-mul_right P after in
          absurd (omega (arith, held.fits))
    ]

-- a flush keeps the pages below the tip guarded
pub flush_keeps_full : (sum : List ℕ → ℕ) (P full : ℕ) (content : List ℕ) (floor : ℕ) (d e : Disk) (written : List ℕ) → e.base ≡ d.base → e.since ≡ d.since ++ Write (full * (P + 12)) written ∷ [] → floor ≤ full * P
    → Guards sum P content floor d → Guards sum P content floor e
flush_keeps_full sum P full content floor d e written base since few guards =
    guards_below sum P full content floor (full * (P + 12)) d e (Write (full * (P + 12)) written) base since (write_leaves_below (full * (P + 12)) written) (le_refl (full * (P + 12))) few guards

-- each slot of these pages that verifies does so over bytes of the content
abbrev pub PagesSayOnly : (List ℕ → ℕ) → ℕ → List ℕ → List (List ℕ) → Type 0
PagesSayOnly sum P content ps = (p : ℕ) (page : List ℕ) → slice_get ps p ≡ Some page → (s : Slot) → take (verified_len sum P s page) page ≡ take (verified_len sum P s page) (drop (p * P) content)

-- the slots of the first pages of a blob, and of pages joined, that verify do so over bytes of the
-- content
pub pages_say_taken : (sum : List ℕ → ℕ) (P : ℕ) (content : List ℕ) (ps : List (List ℕ)) (n : ℕ) → PagesSayOnly sum P content ps → PagesSayOnly sum P content (take n ps)
pages_say_taken sum P content ps n says = λ p page is s. says p page (taken_element n ps p page is) s

pub pages_say_joined : (sum : List ℕ → ℕ) (P : ℕ) (content : List ℕ) (ps qs : List (List ℕ)) → PagesSayOnly sum P content ps → PagesSayOnly sum P (drop (length ps * P) content) qs → PagesSayOnly sum P content (ps ++ qs)
pages_say_joined sum P content ps qs first second = λ p page is s. elim (joined_element ps qs p page is) [
  | inl in_first ↦ first p page in_first s
  | inr in_second ↦
      let further : length ps * P + in_second.0 * P ≡ p * P = omega (arith, ap (λ (n : ℕ). n * P) in_second.1) in
      second in_second.0 page in_second.2 s
      ∙ ap (λ (l : List ℕ). take (verified_len sum P s page) l) (drop-drop (in_second.0 * P) (length ps * P) content)
      ∙ ap (λ (k : ℕ). take (verified_len sum P s page) (drop k content)) further
]

-- no slot of a page that is built verifies over more than the page has
built_within : (sum : List ℕ → ℕ) (P : ℕ) (durable : Option ActiveChecksum) (chunk : List ℕ) (t : Slot) → P < 2 ^ 16 → length chunk ≤ P → kept_len durable ≤ length chunk → verified_len sum P t (page_of sum P durable chunk) ≤ length chunk
built_within sum P durable chunk t small fits carries =
    let page = page_of sum P durable chunk in
    let says : slot_len (slot_of P t page) ≤ length chunk = elim (slot_cases (kept_slot durable) t) [
      | inl kept ↦
          omega (arith, ap slot_len (ap (λ (s : Slot). slot_of P s page) kept ∙ slot_kept sum P durable chunk fits), slot_len_kept durable (omega arith))
      | inr new ↦
          omega (arith, ap slot_len (ap (λ (s : Slot). slot_of P s page) new ∙ slot_new sum P durable chunk fits), slot_len_of (length chunk) (sum chunk) (omega arith))
    ] in
    omega (arith, verified_len-le_said sum P t page, says)

-- each slot of the pages that are built verifies over the bytes that they were built of, if it
-- verifies
pub built_say_only : (sum : List ℕ → ℕ) (P : ℕ) (durable : Option ActiveChecksum) (m : ℕ) (tip : List ℕ) → P < 2 ^ 16 → kept_len durable ≤ P → kept_len durable ≤ length tip → PagesSayOnly sum P tip (built_pages sum P durable m tip)
built_say_only sum P durable zero tip small fits there p page is s = absurd (cc is)
built_say_only sum P durable (suc m) tip small fits there zero page is s =
    let start : 0 ≡ 0 * P = omega arith in
    let chunk = take P tip in
    let size : length chunk ≡ min P (length tip) = length-take P tip in
    let n = verified_len sum P s (page_of sum P durable chunk) in
    let within : n ≤ length chunk = built_within sum P durable chunk s small (omega arith) (omega arith) in
    let says : take n (page_of sum P durable chunk) ≡ take n (drop (0 * P) tip) =
    page_begins_less sum P durable chunk (omega arith) n within ∙ take-take n P tip (omega arith) ∙ ap (λ (k : ℕ). take n (drop k tip)) start in
    subst (λ (l : List ℕ). take (verified_len sum P s l) l ≡ take (verified_len sum P s l) (drop (0 * P) tip)) (same_Some (page_of sum P durable chunk) page is) says
built_say_only sum P durable (suc m) tip small fits there (suc p) page is s =
    let further : P + p * P ≡ suc p * P = omega arith in
    built_say_only sum P None m (drop P tip) small (omega arith) (omega arith) p page is s
    ∙ ap (λ (l : List ℕ). take (verified_len sum P s page) l) (drop-drop (p * P) P tip)
    ∙ ap (λ (k : ℕ). take (verified_len sum P s page) (drop k tip)) further

-- after a flush each slot that verifies does so over bytes of the content: the pages below the tip
-- are as they were, and the others are built of the tip
pub flush_says_only : (sum : List ℕ → ℕ) (P full : ℕ) (content old new : List ℕ) (durable : Option ActiveChecksum) (m : ℕ) (tip : List ℕ) → P < 2 ^ 16 → kept_len durable ≤ P → kept_len durable ≤ length tip
    → drop (full * P) content ≡ tip → full ≤ length (pages P old) → pages P new ≡ take full (pages P old) ++ built_pages sum P durable m tip → SaysOnly sum P content old → SaysOnly sum P content new
flush_says_only sum P full content old new durable m tip small fits there after enough new_pages says =
    let size : length (take full (pages P old)) ≡ full = length-take-le full (pages P old) enough in
    let rest : tip ≡ drop (length (take full (pages P old)) * P) content = sym after ∙ ap (λ (n : ℕ). drop (n * P) content) (sym size) in
    subst (λ (ps : List (List ℕ)). PagesSayOnly sum P content ps) (sym new_pages)
    (pages_say_joined sum P content (take full (pages P old)) (built_pages sum P durable m tip) (pages_say_taken sum P content (pages P old) full says)
    (subst (λ (l : List ℕ). PagesSayOnly sum P l (built_pages sum P durable m tip)) rest (built_say_only sum P durable m tip small fits there)))

-- so a truthful disk stays so through a flush
pub truthful_through_flush : (sum : List ℕ → ℕ) (P full : ℕ) (content : List ℕ) (d e : Disk) (durable : Option ActiveChecksum) (m : ℕ) (tip written : List ℕ) → P < 2 ^ 16 → kept_len durable ≤ P → kept_len durable ≤ length tip
    → e.base ≡ d.base → e.since ≡ d.since ++ Write (full * (P + 12)) written ∷ []
    → drop (full * P) content ≡ tip → full ≤ length (pages P (latest d.base d.since))
    → pages P (applied (Write (full * (P + 12)) written) (latest d.base d.since)) ≡ take full (pages P (latest d.base d.since)) ++ built_pages sum P durable m tip
    → IsTruthful sum P content d → IsTruthful sum P content e
truthful_through_flush sum P full content d e durable m tip written small fits there base since after enough new_pages truthful =
    truthful_stays sum P content d e (Write (full * (P + 12)) written) base since
    (flush_says_only sum P full content (latest d.base d.since) (applied (Write (full * (P + 12)) written) (latest d.base d.since)) durable m tip small fits there after enough new_pages (truthful (latest d.base d.since) (latest_is_whole d.base d.since)))
    truthful
