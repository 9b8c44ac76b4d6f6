-- Emptying a slot that verifies over nothing leaves what other slots hold, whatever else is
-- unsynced.
use Rattle.std.proofs.Common.{◌≡◌, inl, inr, ℕ, suc, ◌+◌, ◌*◌, ◌≤◌, List, [], ◌∷◌, ◌++◌, length, take, drop, refl, ap, ◌∙◌, subst, arith, mul-le-mul_right}
use Rattle.std.proofs.lemmas.Bool.{cases_order}
use Rattle.disk.specs.Disk.{Disk, IsImage}
use Rattle.page.specs.Slot.{slot_offset, other}
use Rattle.page.specs.Page.{slot_bytes, verified_len}
use Rattle.page.specs.declared.slot.Slot.{Slot}
use Rattle.crash.specs.Guard.{IsGuarded}
use Rattle.crash.specs.Kept.{AllKeep}
use Rattle.crash.specs.Shrink.{slot_write}
use Rattle.crash.proofs.Disks.{fixed_length, write_after_leaves, write_in_front_leaves}
use Rattle.crash.proofs.DistinctLaws.{slot_cases}
use Rattle.crash.proofs.Pages.{pages_at}
use Rattle.crash.proofs.PageFacts.{slot_offset_le}
use Rattle.crash.proofs.Promise.{LeavesPage, guards_stay, held_verifies, keeps_on}
use Rattle.crash.proofs.ShrinkLaws.{other_other, slot_write_leaves}

module _ (sum : List ℕ → ℕ) (P q : ℕ) (t : Slot) (d e : Disk) (is_readable : IsImage d d.readable) (idle : verified_len sum P t (take (P + 12) (drop (q * (P + 12)) d.readable)) ≡ 0)
    (base : e.base ≡ d.base) (since : e.since ≡ d.since ++ slot_write P q t (slot_bytes 0 0) ∷ []) where
  -- the slot that guards a page is another than the emptied one
  leaves_guarded : (told : List ℕ) (floor p : ℕ) (g : IsGuarded sum P told floor d p) → LeavesPage (slot_write P q t (slot_bytes 0 0)) P p g.slot g.bytes (take g.len (drop (p * P) told))
  leaves_guarded told floor p g =
      let at = q * (P + 12) + P + slot_offset t in
      let zeros = slot_bytes 0 0 in
      let six : length zeros ≡ 6 = refl in
      let bytes = take g.len (drop (p * P) told) in
      elim (cases_order p q) [
        | inl same ↦ elim (slot_cases t g.slot) [
          | inl it ↦
              let reach : (p + 1) * (P + 12) ≤ length d.readable = omega (arith, fixed_length d ((p + 1) * (P + 12)) [] d.readable g.held.end is_readable) in
              let page = take (P + 12) (drop (p * (P + 12)) d.readable) in
              let some = held_verifies sum P d p g.slot g.bytes bytes d.readable page g.held is_readable (pages_at P p d.readable reach) in
              let none : verified_len sum P g.slot page ≡ 0 =
              ap (λ (s : Slot). verified_len sum P s page) it ∙ ap (λ (n : ℕ). verified_len sum P t (take (P + 12) (drop (n * (P + 12)) d.readable))) same ∙ idle in
              absurd (omega (arith, some, none, g.held.some))
          | inr beside ↦
              subst (λ (n : ℕ). LeavesPage (slot_write P n t zeros) P p g.slot g.bytes bytes) same
              (subst (λ (u : Slot). LeavesPage (slot_write P p u zeros) P p g.slot g.bytes bytes) (ap other beside ∙ other_other t)
              (slot_write_leaves P p g.slot zeros g.bytes bytes (omega (arith, six)) g.held.is_slot.size g.held.fits))
        ]
        | inr (inl less) ↦
            let le : suc p * (P + 12) ≤ q * (P + 12) = mul-le-mul_right (P + 12) less in
            record {
              payload = write_after_leaves at zeros (p * (P + 12)) bytes (omega (arith, le, g.held.fits));
              fixed_slot = write_after_leaves at zeros (p * (P + 12) + P + slot_offset g.slot) g.bytes (omega (arith, le, g.held.is_slot.size, slot_offset_le g.slot));
              end = write_after_leaves at zeros ((p + 1) * (P + 12)) [] (omega (arith, le));
            }
        | inr (inr more) ↦
            let le : suc q * (P + 12) ≤ p * (P + 12) = mul-le-mul_right (P + 12) more in
            record {
              payload = write_in_front_leaves at zeros (p * (P + 12)) bytes (omega (arith, le, six, slot_offset_le t));
              fixed_slot = write_in_front_leaves at zeros (p * (P + 12) + P + slot_offset g.slot) g.bytes (omega (arith, le, six, slot_offset_le t));
              end = write_in_front_leaves at zeros ((p + 1) * (P + 12)) [] (omega (arith, le, six, slot_offset_le t));
            }
      ]

  -- so each floor is kept
  pub clear_keeps : (content : List ℕ) (floor : ℕ) → AllKeep sum P content floor d → AllKeep sum P content floor e
  clear_keeps content floor keeps =
      keeps_on sum P content floor d e (λ told within guards. guards_stay sum P told floor d e (slot_write P q t (slot_bytes 0 0)) base since (λ p below g. leaves_guarded told floor p g) guards) keeps
