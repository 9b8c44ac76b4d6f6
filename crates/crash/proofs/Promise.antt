-- The laws of the promise: what is guarded is kept, and the images of a truthful disk have no other
-- text than a beginning of the content.
use Rattle.std.proofs.Common.{◌≡◌, inl, inr, ℕ, ◌+◌, ◌-◌, ◌*◌, ◌<◌, ◌≤◌, min, List, [], ◌∷◌, ◌++◌, length, take, drop, slice_get, Some, refl, sym, ap, ◌∙◌, subst, arith, length-take, length-take-le, length-drop, length-append, mul-le-mul_right, le_trans, Bool, true, false}
use Rattle.std.specs.Prelude.{if◌then◌else◌, ◌==◌}
use Rattle.std.proofs.lemmas.Bool.{cases_lt}
use Rattle.disk.specs.Disk.{Disk, Operation, IsImage, IsWhole, applied}
use Rattle.disk.specs.Disk.Operation.{Write, Resize}
use Rattle.page.specs.Slot.{slot_offset}
use Rattle.page.specs.Page.{slot_of, verified_len, value, value_len, pages, text, text_of_pages}
use Rattle.page.specs.declared.slot.Slot.{Slot}
use Rattle.crash.specs.Guard.{IsPinned, IsSlotFor, IsGuarded, Guards, IsTruthful, IsChanceFree}
use Rattle.crash.specs.Kept.{AllKeep, AreHeld}
use Rattle.crash.specs.Contents.{latest}
use Rattle.crash.proofs.Disks.{fixed_length, fixed_in_image, fixed_stays, fixed_settles, fixed_at_rest, fixed_alike, Leaves, resize_leaves, write_after_leaves, base_is_image, one_more_whole, fixed_covered}
use Rattle.crash.proofs.Lists.{take_same, within_take}
use Rattle.crash.proofs.Pages.{pages_at, page_fits, length-page}
use Rattle.crash.proofs.Texts.{verified_len_le, verified_le_value, value_len_le}
use Rattle.crash.proofs.PageFacts.{slot_offset_le, page_begins, slot_at, slot_from_verified, value_len_slot, verified_len_held, Says, text_begins, text_within, has_part}

-- where a page's end is fixed, each image has the page
held_page : (sum : List ℕ → ℕ) (P : ℕ) (d : Disk) (p : ℕ) (s : Slot) (slot bytes image : List ℕ) → IsPinned sum P d p s slot bytes → IsImage d image
    → slice_get (pages P image) p ≡ Some (take (P + 12) (drop (p * (P + 12)) image))
held_page sum P d p s slot bytes image held is_image = pages_at P p image (omega (arith, fixed_length d ((p + 1) * (P + 12)) [] image held.end is_image))

-- a page that is pinned begins with its bytes in each image
pub held_begins : (sum : List ℕ → ℕ) (P : ℕ) (d : Disk) (p : ℕ) (s : Slot) (slot bytes image page : List ℕ) → IsPinned sum P d p s slot bytes → IsImage d image → slice_get (pages P image) p ≡ Some page → take (length bytes) page ≡ bytes
held_begins sum P d p s slot bytes image page held is_image is =
    page_begins P p (length bytes) image page is (omega (arith, held.fits)) ∙ fixed_in_image d (p * (P + 12)) bytes image held.payload is_image

-- the slot of a page that is pinned verifies over its bytes in each image
pub held_verifies : (sum : List ℕ → ℕ) (P : ℕ) (d : Disk) (p : ℕ) (s : Slot) (slot bytes image page : List ℕ) → IsPinned sum P d p s slot bytes → IsImage d image → slice_get (pages P image) p ≡ Some page → verified_len sum P s page ≡ length bytes
held_verifies sum P d p s slot bytes image page held is_image is =
    let same : slot ≡ slot_of P s page =
    sym (fixed_in_image d (p * (P + 12) + P + slot_offset s) slot image held.fixed_slot is_image)
    ∙ ap (λ (n : ℕ). take n (drop (p * (P + 12) + P + slot_offset s) image)) held.is_slot.size ∙ sym (slot_at P p s image page is) in
    verified_len_held sum P s page bytes (subst (λ (l : List ℕ). IsSlotFor sum bytes l) same held.is_slot) held.some held.fits (held_begins sum P d p s slot bytes image page held is_image is)

-- the value of a page that is guarded is the content's part, as far as the floor goes
guarded_says : (sum : List ℕ → ℕ) (P : ℕ) (content : List ℕ) (floor : ℕ) (d : Disk) (p : ℕ) (image : List ℕ) → IsGuarded sum P content floor d p → IsImage d image → Says sum P content floor (pages P image) p
guarded_says sum P content floor d p image g is_image =
    let page = take (P + 12) (drop (p * (P + 12)) image) in
    let bytes = take g.len (drop (p * P) content) in
    let there = held_page sum P d p g.slot g.bytes bytes image g.held is_image in
    let as_long : length bytes ≡ g.len = length-take-le g.len (drop (p * P) content) (omega (arith, g.there, length-drop (p * P) content)) in
    let begins : take g.len page ≡ take g.len (drop (p * P) content) = ap (λ (n : ℕ). take n page) (sym as_long) ∙ held_begins sum P d p g.slot g.bytes bytes image page g.held is_image there in
    record {
      page = page;
      there = there;
      enough = omega (arith, g.enough, held_verifies sum P d p g.slot g.bytes bytes image page g.held is_image there, verified_le_value sum P g.slot page);
      begins = take_same (min P (floor - p * P)) g.len page (drop (p * P) content) g.enough begins;
    }

-- what slots guard, every image keeps
pub held_is_kept : (sum : List ℕ → ℕ) (P : ℕ) (content : List ℕ) (floor : ℕ) (d : Disk) → AreHeld sum P content floor d → AllKeep sum P content floor d
held_is_kept sum P content floor d held = record {
  kept = λ image is_image.
      text_begins sum P (pages P image) held.told floor held.within (λ p below. guarded_says sum P held.told floor d p image (held.guards p below) is_image) ∙ held.same;
  held = held;
}

-- what is guarded, every image keeps
pub guarded_is_kept : (sum : List ℕ → ℕ) (P : ℕ) (content : List ℕ) (floor : ℕ) (d : Disk) → Guards sum P content floor d → floor ≤ length content → AllKeep sum P content floor d
guarded_is_kept sum P content floor d guards enough = held_is_kept sum P content floor d (record { told = content; within = enough; same = refl; guards = guards })

-- a floor that is kept is no more than the base's text has
pub floor_is_durable : (sum : List ℕ → ℕ) (P : ℕ) (content : List ℕ) (floor : ℕ) (d : Disk) → AllKeep sum P content floor d → floor ≤ length content → floor ≤ length (text sum P d.base)
floor_is_durable sum P content floor d keeps enough =
    let same = ap length (keeps.kept d.base (base_is_image d)) in
    omega (arith, length-take floor (text sum P d.base), length-take floor content, same)

-- an operation leaves a page that is pinned: its bytes, its slot and its end
pub record LeavesPage (o : Operation) (P p : ℕ) (s : Slot) (slot bytes : List ℕ) : Type 0 where
  pub payload : Leaves o (p * (P + 12)) bytes
  pub fixed_slot : Leaves o (p * (P + 12) + P + slot_offset s) slot
  pub end : Leaves o ((p + 1) * (P + 12)) []

-- a page that is pinned stays so under an operation that leaves it
pub held_stays : (sum : List ℕ → ℕ) (P : ℕ) (d e : Disk) (o : Operation) (p : ℕ) (s : Slot) (slot bytes : List ℕ) → e.base ≡ d.base → e.since ≡ d.since ++ o ∷ [] → LeavesPage o P p s slot bytes → IsPinned sum P d p s slot bytes → IsPinned sum P e p s slot bytes
held_stays sum P d e o p s slot bytes base since leaves held = record {
  some = held.some;
  fits = held.fits;
  payload = fixed_stays d e o (p * (P + 12)) bytes base since leaves.payload held.payload;
  is_slot = held.is_slot;
  fixed_slot = fixed_stays d e o (p * (P + 12) + P + slot_offset s) slot base since leaves.fixed_slot held.fixed_slot;
  end = fixed_stays d e o ((p + 1) * (P + 12)) [] base since leaves.end held.end;
}

-- a page that is pinned stays so when an image becomes the base
pub held_settles : (sum : List ℕ → ℕ) (P : ℕ) (d e : Disk) (p : ℕ) (s : Slot) (slot bytes : List ℕ) → IsImage d e.base → e.since ≡ [] → IsPinned sum P d p s slot bytes → IsPinned sum P e p s slot bytes
held_settles sum P d e p s slot bytes is_image at_rest held = record {
  some = held.some;
  fits = held.fits;
  payload = fixed_settles d e (p * (P + 12)) bytes is_image at_rest held.payload;
  is_slot = held.is_slot;
  fixed_slot = fixed_settles d e (p * (P + 12) + P + slot_offset s) slot is_image at_rest held.fixed_slot;
  end = fixed_settles d e ((p + 1) * (P + 12)) [] is_image at_rest held.end;
}

-- a page that is pinned stays so where only what is readable, the started syncs or the log differ
pub held_alike : (sum : List ℕ → ℕ) (P : ℕ) (d e : Disk) (p : ℕ) (s : Slot) (slot bytes : List ℕ) → e.base ≡ d.base → e.since ≡ d.since → IsPinned sum P d p s slot bytes → IsPinned sum P e p s slot bytes
held_alike sum P d e p s slot bytes base since held = record {
  some = held.some;
  fits = held.fits;
  payload = fixed_alike d e (p * (P + 12)) bytes base since held.payload;
  is_slot = held.is_slot;
  fixed_slot = fixed_alike d e (p * (P + 12) + P + slot_offset s) slot base since held.fixed_slot;
  end = fixed_alike d e ((p + 1) * (P + 12)) [] base since held.end;
}

-- a page that is pinned stays so when the operations that a sync covers become durable
pub held_covered : (sum : List ℕ → ℕ) (P : ℕ) (d e : Disk) (os ps : List Operation) (p : ℕ) (s : Slot) (slot bytes : List ℕ) → d.since ≡ os ++ ps → e.base ≡ latest d.base os → e.since ≡ ps → IsPinned sum P d p s slot bytes → IsPinned sum P e p s slot bytes
held_covered sum P d e os ps p s slot bytes since base rest held = record {
  some = held.some;
  fits = held.fits;
  payload = fixed_covered d e os ps (p * (P + 12)) bytes since base rest held.payload;
  is_slot = held.is_slot;
  fixed_slot = fixed_covered d e os ps (p * (P + 12) + P + slot_offset s) slot since base rest held.fixed_slot;
  end = fixed_covered d e os ps ((p + 1) * (P + 12)) [] since base rest held.end;
}

-- a page that is guarded on one disk is guarded on another on which it is pinned too
guarded_on : (sum : List ℕ → ℕ) (P : ℕ) (content : List ℕ) (floor : ℕ) (d e : Disk) (p : ℕ) (g : IsGuarded sum P content floor d p) → IsPinned sum P e p g.slot g.bytes (take g.len (drop (p * P) content)) → IsGuarded sum P content floor e p
guarded_on sum P content floor d e p g held = record { slot = g.slot; bytes = g.bytes; len = g.len; enough = g.enough; there = g.there; held = held }

-- guarded pages stay guarded under an operation that leaves them
pub guards_stay : (sum : List ℕ → ℕ) (P : ℕ) (content : List ℕ) (floor : ℕ) (d e : Disk) (o : Operation) → e.base ≡ d.base → e.since ≡ d.since ++ o ∷ []
    → ((p : ℕ) → p * P < floor → (g : IsGuarded sum P content floor d p) → LeavesPage o P p g.slot g.bytes (take g.len (drop (p * P) content)))
    → Guards sum P content floor d → Guards sum P content floor e
guards_stay sum P content floor d e o base since leaves guards =
    λ p below. let g = guards p below in
    guarded_on sum P content floor d e p g (held_stays sum P d e o p g.slot g.bytes (take g.len (drop (p * P) content)) base since (leaves p below g) g.held)

-- guarded pages stay guarded when an image becomes the base
pub guards_settle : (sum : List ℕ → ℕ) (P : ℕ) (content : List ℕ) (floor : ℕ) (d e : Disk) → IsImage d e.base → e.since ≡ [] → Guards sum P content floor d → Guards sum P content floor e
guards_settle sum P content floor d e is_image at_rest guards =
    λ p below. let g = guards p below in
    guarded_on sum P content floor d e p g (held_settles sum P d e p g.slot g.bytes (take g.len (drop (p * P) content)) is_image at_rest g.held)

-- guarded pages stay guarded when the operations that a sync covers become durable
pub guards_covered : (sum : List ℕ → ℕ) (P : ℕ) (content : List ℕ) (floor : ℕ) (d e : Disk) (os ps : List Operation) → d.since ≡ os ++ ps → e.base ≡ latest d.base os → e.since ≡ ps → Guards sum P content floor d → Guards sum P content floor e
guards_covered sum P content floor d e os ps since base rest guards =
    λ p below. let g = guards p below in
    guarded_on sum P content floor d e p g (held_covered sum P d e os ps p g.slot g.bytes (take g.len (drop (p * P) content)) since base rest g.held)

-- guarded pages stay guarded where only what is readable, the started syncs or the log differ
pub guards_alike : (sum : List ℕ → ℕ) (P : ℕ) (content : List ℕ) (floor : ℕ) (d e : Disk) → e.base ≡ d.base → e.since ≡ d.since → Guards sum P content floor d → Guards sum P content floor e
guards_alike sum P content floor d e base since guards =
    λ p below. let g = guards p below in
    guarded_on sum P content floor d e p g (held_alike sum P d e p g.slot g.bytes (take g.len (drop (p * P) content)) base since g.held)

-- an operation leaves whatever ends at this offset or before
pub record LeavesBelow (o : Operation) (end : ℕ) : Type 0 where
  pub leaves : (offset : ℕ) (bytes : List ℕ) → offset + length bytes ≤ end → Leaves o offset bytes

-- a write leaves whatever ends where it begins, or before
pub write_leaves_below : (at : ℕ) (written : List ℕ) → LeavesBelow (Write at written) at
write_leaves_below at written = record { leaves = λ offset bytes within. write_after_leaves at written offset bytes within }

-- a resize leaves whatever ends at the new end, or before
pub resize_leaves_below : (len : ℕ) → LeavesBelow (Resize len) len
resize_leaves_below len = record { leaves = λ offset bytes within. resize_leaves len offset bytes within }

-- such an operation leaves each page below that offset
pub leaves_page_below : (o : Operation) (P p end : ℕ) (s : Slot) (slot bytes : List ℕ) → LeavesBelow o end → (p + 1) * (P + 12) ≤ end → length slot ≡ 6 → length bytes ≤ P → LeavesPage o P p s slot bytes
leaves_page_below o P p end s slot bytes below within size fits = record {
  payload = below.leaves (p * (P + 12)) bytes (omega arith);
  fixed_slot = below.leaves (p * (P + 12) + P + slot_offset s) slot (omega (arith, slot_offset_le s));
  end = below.leaves ((p + 1) * (P + 12)) [] (omega arith);
}

-- so what is guarded up to an offset stays guarded under an operation that leaves what ends there
pub guards_below : (sum : List ℕ → ℕ) (P full : ℕ) (content : List ℕ) (floor end : ℕ) (d e : Disk) (o : Operation) → e.base ≡ d.base → e.since ≡ d.since ++ o ∷ [] → LeavesBelow o end → full * (P + 12) ≤ end → floor ≤ full * P
    → Guards sum P content floor d → Guards sum P content floor e
guards_below sum P full content floor end d e o base since below within few guards =
    guards_stay sum P content floor d e o base since (λ p in_floor g.
    let among : p < full = page_among p full P (omega arith) in
    leaves_page_below o P p end g.slot g.bytes (take g.len (drop (p * P) content)) below (le_trans (mul-le-mul_right (P + 12) (omega arith)) within) g.held.is_slot.size g.held.fits) guards
  where
    page_among : (p full P : ℕ) → p * P < full * P → p < full
    page_among p full P less = elim (cases_lt p full) [
      | inl below ↦ below
      | inr past ↦ absurd (omega (arith, mul-le-mul_right P past))
    ]

-- what is guarded up to a floor is guarded up to a lower one
pub guards_less : (sum : List ℕ → ℕ) (P : ℕ) (content : List ℕ) (floor less : ℕ) (d : Disk) → less ≤ floor → Guards sum P content floor d → Guards sum P content less d
guards_less sum P content floor less d le guards =
    λ p below. let g = guards p (omega arith) in
    record { slot = g.slot; bytes = g.bytes; len = g.len; enough = omega (arith, g.enough); there = g.there; held = g.held }

-- a part of a beginning's rest
pub part_of_beginning : {X : Type 0} (n k : ℕ) (xs ys : List X) → xs ≡ take (length xs) ys → k + n ≤ length xs → take n (drop k xs) ≡ take n (drop k ys)
part_of_beginning n k xs ys begins within = ap (λ (l : List _). take n (drop k l)) begins ∙ within_take n k (length xs) ys within

-- what is guarded stays so when the content grows
pub guards_longer : (sum : List ℕ → ℕ) (P : ℕ) (content longer : List ℕ) (floor : ℕ) (d : Disk) → content ≡ take (length content) longer → Guards sum P content floor d → Guards sum P longer floor d
guards_longer sum P content longer floor d begins guards =
    λ p below. let g = guards p below in
    let more : length content ≤ length longer = omega (arith, ap length begins, length-take (length content) longer) in
    record {
      slot = g.slot;
      bytes = g.bytes;
      len = g.len;
      enough = g.enough;
      there = omega (arith, g.there);
      held = subst (λ (l : List ℕ). IsPinned sum P d p g.slot g.bytes l) (part_of_beginning g.len (p * P) content longer begins g.there) g.held;
    }

-- with nothing unsynced the whole text of the base is guarded
pub guards_at_rest : (sum : List ℕ → ℕ) (P : ℕ) (d : Disk) → 0 < P → d.since ≡ [] → Guards sum P (text sum P d.base) (length (text sum P d.base)) d
guards_at_rest sum P d some at_rest =
    λ p below.
    let part = has_part sum P (pages P d.base) p some (λ q page is. omega (arith, length-page P q d.base page is)) below in
    let chosen = value_len_slot sum P part.page in
    let s = chosen.0 in
    let len = value_len sum P part.page in
    let within = page_fits P p d.base part.page part.there in
    let whole : P + 12 ≤ length part.page = omega (arith, length-page P p d.base part.page part.there) in
    let fits : len ≤ P = value_len_le sum P part.page in
    let as_long : length (take len part.page) ≡ len = length-take-le len part.page (omega arith) in
    let slot_is = slot_at P p s d.base part.page part.there in
    let is_slot : IsSlotFor sum (take len part.page) (slot_of P s part.page) =
    subst (λ (n : ℕ). IsSlotFor sum (take n part.page) (slot_of P s part.page)) (sym chosen.1) (slot_from_verified sum P s part.page whole (omega (arith, part.some, chosen.1))) in
    let held : IsPinned sum P d p s (slot_of P s part.page) (take len part.page) = record {
      some = omega (arith, part.some);
      fits = omega arith;
      payload = fixed_at_rest d (p * (P + 12)) (take len part.page) at_rest (omega arith) (ap (λ (n : ℕ). take n (drop (p * (P + 12)) d.base)) as_long ∙ sym (page_begins P p len d.base part.page part.there (omega arith)));
      is_slot = is_slot;
      fixed_slot = fixed_at_rest d (p * (P + 12) + P + slot_offset s) (slot_of P s part.page) at_rest (omega (arith, is_slot.size, slot_offset_le s)) (ap (λ (n : ℕ). take n (drop (p * (P + 12) + P + slot_offset s) d.base)) is_slot.size ∙ sym slot_is);
      end = fixed_at_rest d ((p + 1) * (P + 12)) [] at_rest (omega arith) refl;
    } in
    record {
      slot = s;
      bytes = slot_of P s part.page;
      len = len;
      enough = part.enough;
      there = part.inside;
      held = subst (λ (l : List ℕ). IsPinned sum P d p s (slot_of P s part.page) l) part.begins held;
    }

-- so every image has that text
pub keeps_at_rest : (sum : List ℕ → ℕ) (P : ℕ) (d : Disk) → d.since ≡ [] → AllKeep sum P (text sum P d.base) (length (text sum P d.base)) d
keeps_at_rest sum P d at_rest = guarded_is_kept sum P (text sum P d.base) (length (text sum P d.base)) d (elim (cases_lt 0 P) [
  | inl some ↦ guards_at_rest sum P d some at_rest
  | inr none ↦ λ p below. absurd (omega (arith, below, text_of_none (pages P d.base) none))
]) (omega arith)
  where
    -- pages without a payload have no text
    text_of_none : (ps : List (List ℕ)) → P ≤ 0 → length (text_of_pages sum P ps) ≤ 0
    text_of_none [] none = omega arith
    text_of_none (p ∷ ps) none =
        omega (arith, length-append (value sum P p) (if value_len sum P p == P then text_of_pages sum P ps else []), length-take (value_len sum P p) p, value_len_le sum P p, none, at_most (value_len sum P p == P) (text_of_none ps none))
      where
        at_most : (b : Bool) → length (text_of_pages sum P ps) ≤ 0 → length (if b then text_of_pages sum P ps else []) ≤ 0
        at_most true few = few
        at_most false few = omega arith

-- a floor that is kept on one disk is kept on another that guards whatever the first guards
pub keeps_on : (sum : List ℕ → ℕ) (P : ℕ) (content : List ℕ) (floor : ℕ) (d e : Disk) → ((told : List ℕ) → floor ≤ length told → Guards sum P told floor d → Guards sum P told floor e) → AllKeep sum P content floor d → AllKeep sum P content floor e
keeps_on sum P content floor d e turned keeps =
    let held = keeps.held in
    held_is_kept sum P content floor e (record { told = held.told; within = held.within; same = held.same; guards = turned held.told held.within held.guards })

-- a floor of one content is one of another that begins alike
pub keeps_same : (sum : List ℕ → ℕ) (P : ℕ) (content other : List ℕ) (floor : ℕ) (d : Disk) → take floor content ≡ take floor other → AllKeep sum P content floor d → AllKeep sum P other floor d
keeps_same sum P content other floor d same keeps = held_is_kept sum P other floor d (record { told = keeps.held.told; within = keeps.held.within; same = keeps.held.same ∙ same; guards = keeps.held.guards })

-- fewer bytes than a floor that is kept are one too
pub keeps_less : (sum : List ℕ → ℕ) (P : ℕ) (content : List ℕ) (floor less : ℕ) (d : Disk) → less ≤ floor → AllKeep sum P content floor d → AllKeep sum P content less d
keeps_less sum P content floor less d few keeps =
    let held = keeps.held in
    held_is_kept sum P content less d (record { told = held.told; within = omega (arith, few, held.within); same = take_same less floor held.told content few held.same; guards = guards_less sum P held.told floor less d few held.guards })

-- the floor of no bytes is kept
pub keeps_nothing : (sum : List ℕ → ℕ) (P : ℕ) (content : List ℕ) (d : Disk) → AllKeep sum P content 0 d
keeps_nothing sum P content d = held_is_kept sum P content 0 d (record { told = []; within = omega arith; same = refl; guards = λ p below. absurd (omega (arith, below)) })

-- each floor is kept when an image becomes the base, as after a crash
pub keeps_settle : (sum : List ℕ → ℕ) (P : ℕ) (content : List ℕ) (floor : ℕ) (d e : Disk) → IsImage d e.base → e.since ≡ [] → AllKeep sum P content floor d → AllKeep sum P content floor e
keeps_settle sum P content floor d e is_image at_rest keeps = keeps_on sum P content floor d e (λ told within guards. guards_settle sum P told floor d e is_image at_rest guards) keeps

-- each slot of these bytes that verifies does so over bytes of the content
abbrev pub SaysOnly : (List ℕ → ℕ) → ℕ → List ℕ → List ℕ → Type 0
SaysOnly sum P content whole = (p : ℕ) (page : List ℕ) → slice_get (pages P whole) p ≡ Some page → (s : Slot) → take (verified_len sum P s page) page ≡ take (verified_len sum P s page) (drop (p * P) content)

-- each chance-free image of a truthful disk has as its text a beginning of the content
pub only_content : (sum : List ℕ → ℕ) (P : ℕ) (content : List ℕ) (d : Disk) (image : List ℕ) → IsTruthful sum P content d → IsChanceFree sum P d image → text sum P image ≡ take (length (text sum P image)) content
only_content sum P content d image truthful free = text_within sum P (pages P image) content (λ p page is.
    let chosen = value_len_slot sum P page in
    let s = chosen.0 in
    elim (cases_lt 0 (value_len sum P page)) [
      | inl some ↦
          let was = free p page is s (omega (arith, chosen.1)) in
          let same : verified_len sum P s was.1 ≡ value_len sum P page = was.4 ∙ sym chosen.1 in
          ap (λ (n : ℕ). take n page) chosen.1 ∙ sym was.5 ∙ ap (λ (n : ℕ). take n was.1) (sym was.4)
          ∙ truthful was.0 was.2 p was.1 was.3 s ∙ ap (λ (n : ℕ). take n (drop (p * P) content)) same
      | inr none ↦
          let zero_len : value_len sum P page ≡ 0 = omega arith in
          ap (λ (n : ℕ). take n page) zero_len ∙ ap (λ (n : ℕ). take n (drop (p * P) content)) (sym zero_len)
    ])

-- a whole state is chance-free
pub whole_is_chance_free : (sum : List ℕ → ℕ) (P : ℕ) (d : Disk) (whole : List ℕ) → IsWhole d.base d.since whole → IsChanceFree sum P d whole
whole_is_chance_free sum P d whole is_whole = λ p page is s some. (whole, page, is_whole, is, refl, refl)

-- a truthful disk stays so under an operation after which each slot that verifies does so over
-- bytes of the content
pub truthful_stays : (sum : List ℕ → ℕ) (P : ℕ) (content : List ℕ) (d e : Disk) (o : Operation) → e.base ≡ d.base → e.since ≡ d.since ++ o ∷ [] → SaysOnly sum P content (applied o (latest d.base d.since)) → IsTruthful sum P content d → IsTruthful sum P content e
truthful_stays sum P content d e o base since says truthful =
    λ whole is_whole. elim (one_more_whole d.base d.since o whole (rw (base, since) at is_whole)) [
      | inl before ↦ truthful whole before
      | inr is_new ↦ subst (λ (bytes : List ℕ). SaysOnly sum P content bytes) (sym is_new) says
    ]

-- a disk with nothing unsynced is truthful where each slot of its base that verifies does so over
-- bytes of the content
pub truthful_at_rest : (sum : List ℕ → ℕ) (P : ℕ) (content : List ℕ) (d : Disk) → d.since ≡ [] → SaysOnly sum P content d.base → IsTruthful sum P content d
truthful_at_rest sum P content d at_rest says =
    λ whole is_whole. subst (λ (bytes : List ℕ). SaysOnly sum P content bytes) (sym (subst (λ (os : List Operation). IsWhole d.base os whole) at_rest is_whole)) says

-- a truthful disk stays so where only what is readable, the started syncs or the log differ
pub truthful_alike : (sum : List ℕ → ℕ) (P : ℕ) (content : List ℕ) (d e : Disk) → e.base ≡ d.base → e.since ≡ d.since → IsTruthful sum P content d → IsTruthful sum P content e
truthful_alike sum P content d e base since truthful = λ whole is_whole. truthful whole (rw (base, since) at is_whole)

-- where each slot that verifies does so over bytes of a content, it does so over bytes of a longer
-- one
pub says_only_longer : (sum : List ℕ → ℕ) (P : ℕ) (content longer whole : List ℕ) → content ≡ take (length content) longer → SaysOnly sum P content whole → SaysOnly sum P longer whole
says_only_longer sum P content longer whole begins says = λ p page is s.
    let n = verified_len sum P s page in
    elim (cases_lt 0 n) [
      | inl some ↦
          let fits : n ≤ length page = omega (arith, verified_len_le sum P s page, length-page P p whole page is) in
          let there : p * P + n ≤ length content = omega (arith, ap length (says p page is s), length-take n page, length-take n (drop (p * P) content), length-drop (p * P) content) in
          says p page is s ∙ part_of_beginning n (p * P) content longer begins there
      | inr none ↦
          let zero_len : n ≡ 0 = omega arith in
          ap (λ (k : ℕ). take k page) zero_len ∙ ap (λ (k : ℕ). take k (drop (p * P) longer)) (sym zero_len)
    ]

-- a truthful disk stays so when the content grows
pub truthful_longer : (sum : List ℕ → ℕ) (P : ℕ) (content longer : List ℕ) (d : Disk) → content ≡ take (length content) longer → IsTruthful sum P content d → IsTruthful sum P longer d
truthful_longer sum P content longer d begins truthful = λ whole is_whole. says_only_longer sum P content longer whole begins (truthful whole is_whole)
