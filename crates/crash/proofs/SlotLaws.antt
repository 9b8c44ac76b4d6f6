-- What a write into one slot of a page leaves vouched for.
use Rattle.std.proofs.Common.{◌≡◌, ◌⊎◌, inl, inr, ℕ, suc, ◌+◌, ◌-◌, ◌*◌, ◌^◌, ◌<◌, ◌≤◌, List, [], ◌∷◌, ◌++◌, length, take, drop, slice_get, Some, refl, sym, ap, ◌∙◌, subst, arith, mul-le-mul_right}
use Rattle.std.specs.Int.{w16, to_be_bytes}
use Rattle.std.proofs.lemmas.Bool.{cases_order}
use Rattle.std.proofs.lemmas.List.{drop-take, drop-drop}
use Rattle.std.proofs.Math.Seq.{take-add}
use Rattle.std.proofs.lemmas.Option.{slice_get_within}
use Rattle.disk.specs.Disk.{Disk, applied}
use Rattle.disk.specs.Disk.Operation.{Write}
use Rattle.page.specs.Slot.{slot_offset, other}
use Rattle.page.specs.Page.{slot_bytes, slot_of, slot_len, pages}
use Rattle.page.specs.declared.slot.Slot.{Slot}
use Rattle.page.specs.declared.slot.Slot.TheVariants.{First, Second}
use Rattle.crash.specs.Contents.{latest}
use Rattle.crash.specs.Shrink.{slot_write}
use Rattle.crash.specs.Distinct.{IsGood, IsVouched}
use Rattle.crash.proofs.Pages.{pages_at, page_fits, page_is, length-page}
use Rattle.crash.proofs.Disks.{length-applied_write}
use Rattle.crash.proofs.BuiltLaws.{slot_len_of}
use Rattle.crash.proofs.PageFacts.{slot_offset_le, slot_at, page_begins as begins_of_page}
use Rattle.crash.proofs.ShrinkLaws.{outside_write, inside_write}
use Rattle.crash.proofs.DistinctLaws.{slot_good, void_good, slot_cases, SparesPayload, Repeats, vouched_stays}

-- ---- a write into one slot

-- a write into one slot of a page's footer, after which that slot is good, keeps a disk vouched for
pub slot_write_vouched : (sum : List ℕ → ℕ) (P page : ℕ) (t : Slot) (written : List ℕ) (d e : Disk) → e.base ≡ d.base → e.since ≡ d.since ++ slot_write P page t written ∷ [] → length written ≤ 6 → (page + 1) * (P + 12) ≤ length (latest d.base d.since)
    → ((held : List ℕ) → slice_get (pages P (applied (slot_write P page t written) (latest d.base d.since))) page ≡ Some held → IsGood sum P t held) → IsVouched sum P d → IsVouched sum P e
slot_write_vouched sum P page t written d e base since few there new_slot vouched =
    let at = page * (P + 12) + P + slot_offset t in
    let old = latest d.base d.since in
    let new = applied (Write at written) old in
    let within : at + length written ≤ length old = omega (arith, few, there, slot_offset_le t) in
    let same_size : length new ≡ length old = omega (arith, length-applied_write at written old, within) in
    let spares : (p : ℕ) → SparesPayload (Write at written) P p = λ p i byte lt wrote.
    let inside = slice_get_within written (p * (P + 12) + i - at) byte wrote.1 in
    elim (cases_order p page) [
      | inl same ↦ absurd (omega (arith, ap (λ (q : ℕ). q * (P + 12)) same, lt, wrote.0))
      | inr (inl less) ↦
          let le : suc p * (P + 12) ≤ page * (P + 12) = mul-le-mul_right (P + 12) less in
          absurd (omega (arith, le, lt, wrote.0))
      | inr (inr more) ↦
          let le : suc page * (P + 12) ≤ p * (P + 12) = mul-le-mul_right (P + 12) more in
          absurd (omega (arith, le, inside, few, slot_offset_le t))
    ] in
    vouched_stays sum P d e (Write at written) base since (λ p. inl (spares p)) (λ p held is s.
    let fits : (p + 1) * (P + 12) ≤ length old = omega (arith, page_fits P p new held is, same_size) in
    let was = take (P + 12) (drop (p * (P + 12)) old) in
    let was_there : slice_get (pages P old) p ≡ Some was = pages_at P p old fits in
    let now : held ≡ take (P + 12) (drop (p * (P + 12)) new) = page_is P p new held is in
    let apart : (p * (P + 12) + (P + 12) ≤ at) ⊎ (at + length written ≤ p * (P + 12)) → Repeats P p s old held = λ aside.
    let same : was ≡ held = sym (now ∙ outside_write at written old (p * (P + 12)) (P + 12) within aside) in
    record { was = was; there = was_there; same = ap (slot_of P s) same; payload = ap (λ (l : List ℕ). take P l) same } in
    elim (cases_order p page) [
      | inl same ↦
          let q_eq : p * (P + 12) ≡ page * (P + 12) = ap (λ (q : ℕ). q * (P + 12)) same in
          elim (slot_cases t s) [
            | inl mine ↦
                let here : slice_get (pages P new) page ≡ Some held = ap (λ (q : ℕ). slice_get (pages P new) q) (sym same) ∙ is in
                inl (subst (λ (u : Slot). IsGood sum P u held) (sym mine) (new_slot held here))
            | inr others ↦
                let region : (p * (P + 12) + P + slot_offset s + 6 ≤ at) ⊎ (at + length written ≤ p * (P + 12) + P + slot_offset s) =
                elim (slots_apart (page * (P + 12) + P) t (length written) few) [
                  | inl before ↦ inl (omega (arith, before, q_eq, ap slot_offset others))
                  | inr after ↦ inr (omega (arith, after, q_eq, ap slot_offset others))
                ] in
                inr (
                  spares p,
                  record {
                    was = was;
                    there = was_there;
                    same = slot_at P p s old was was_there ∙ sym (outside_write at written old (p * (P + 12) + P + slot_offset s) 6 within region) ∙ sym (slot_at P p s new held is);
                    payload =
                        begins_of_page P p P old was was_there (omega arith)
                        ∙ sym (outside_write at written old (p * (P + 12)) P within (inl (omega (arith, q_eq))))
                        ∙ sym (begins_of_page P p P new held is (omega arith));
                  },
                )
          ]
      | inr (inl less) ↦
          let le : suc p * (P + 12) ≤ page * (P + 12) = mul-le-mul_right (P + 12) less in
          inr (spares p, apart (inl (omega (arith, le))))
      | inr (inr more) ↦
          let le : suc page * (P + 12) ≤ p * (P + 12) = mul-le-mul_right (P + 12) more in
          inr (spares p, apart (inr (omega (arith, le, few, slot_offset_le t))))
    ]) vouched
  where
    slots_apart : (offset : ℕ) (s : Slot) (n : ℕ) → n ≤ 6 → (offset + slot_offset (other s) + 6 ≤ offset + slot_offset s) ⊎ (offset + slot_offset s + n ≤ offset + slot_offset (other s))
    slots_apart offset First n few = inr (omega arith)
    slots_apart offset Second n few = inl (omega arith)

-- a slot that was written holds what was written
written_slot : (P page : ℕ) (t : Slot) (written old held : List ℕ) → length written ≡ 6 → (page + 1) * (P + 12) ≤ length old → slice_get (pages P (applied (slot_write P page t written) old)) page ≡ Some held → slot_of P t held ≡ written
written_slot P page t written old held six there is =
    let at = page * (P + 12) + P + slot_offset t in
    slot_at P page t (applied (Write at written) old) held is
    ∙ ap (λ (n : ℕ). take n (drop at (applied (Write at written) old))) (sym six)
    ∙ inside_write at written old (omega (arith, six, there, slot_offset_le t))

-- a slot that gets a checksum with length 0 is good
pub staged_good : (sum : List ℕ → ℕ) (P page : ℕ) (t : Slot) (crc : ℕ) (old held : List ℕ) → (page + 1) * (P + 12) ≤ length old → slice_get (pages P (applied (slot_write P page t (slot_bytes 0 crc)) old)) page ≡ Some held → IsGood sum P t held
staged_good sum P page t crc old held there is = void_good sum P t held (ap slot_len (written_slot P page t (slot_bytes 0 crc) old held refl there is) ∙ slot_len_of 0 crc (omega arith))

-- a slot that then gets its length, and has the checksum of the page's first bytes, is good
pub published_good : (sum : List ℕ → ℕ) (P page : ℕ) (t : Slot) (len crc : ℕ) (old held : List ℕ) → P < 2 ^ 16 → len ≤ P → crc < 2 ^ 32 → (page + 1) * (P + 12) ≤ length old
    → take 6 (drop (page * (P + 12) + P + slot_offset t) old) ≡ slot_bytes 0 crc → crc ≡ sum (take len (drop (page * (P + 12)) old))
    → slice_get (pages P (applied (slot_write P page t (to_be_bytes w16 len)) old)) page ≡ Some held → IsGood sum P t held
published_good sum P page t len crc old held small fits small_crc there was is_sum is =
    let at = page * (P + 12) + P + slot_offset t in
    let two : length (to_be_bytes w16 len) ≡ 2 = refl in
    let within : at + 2 ≤ length old = omega (arith, there, slot_offset_le t) in
    let new = applied (Write at (to_be_bytes w16 len)) old in
    let slot : slot_of P t held ≡ slot_bytes len crc =
    slot_at P page t new held is
    ∙ six_of at old new within (inside_write at (to_be_bytes w16 len) old within) (outside_write at (to_be_bytes w16 len) old (at + 2) 4 within (inr (omega arith))) was in
    let payload : take len held ≡ take len (drop (page * (P + 12)) old) =
    begins_of_page P page len new held is (omega (arith, fits)) ∙ outside_write at (to_be_bytes w16 len) old (page * (P + 12)) len within (inl (omega (arith, fits))) in
    slot_good sum P t held len crc (omega (arith, length-page P page new held is)) (omega (arith, fits, small)) small_crc slot (λ few. is_sum ∙ ap sum (sym payload))
  where
    -- two bytes anew, and four as they were
    six_of : (at : ℕ) (old new : List ℕ) → at + 2 ≤ length old → take 2 (drop at new) ≡ to_be_bytes w16 len → take 4 (drop (at + 2) new) ≡ take 4 (drop (at + 2) old) → take 6 (drop at old) ≡ slot_bytes 0 crc → take 6 (drop at new) ≡ slot_bytes len crc
    six_of at old new within first rest was =
        let back : take 4 (drop (at + 2) old) ≡ drop 2 (take 6 (drop at old)) = sym (drop-take 2 4 (drop at old) ∙ ap (λ (l : List ℕ). take 4 l) (drop-drop 2 at old)) in
        take-add 2 4 (drop at new)
        ∙ ap (λ (l : List ℕ). l ++ take 4 (drop 2 (drop at new))) first
        ∙ ap (λ (l : List ℕ). to_be_bytes w16 len ++ l) (ap (λ (l : List ℕ). take 4 l) (drop-drop 2 at new) ∙ rest ∙ back ∙ ap (λ (l : List ℕ). drop 2 l) was)
