-- Emptying a bad slot of the last page that has a value: what it leaves readable, and what each
-- moment of it holds.
use Rattle.std.proofs.Common.{◌≡◌, ◌⊎◌, inl, inr, ℕ, suc, ◌+◌, ◌*◌, ◌/◌, ◌<◌, ◌≤◌, List, [], ◌∷◌, ◌++◌, length, take, drop, slice_get, Some, Result, Bool, true, false, refl, sym, ap, ◌∙◌, subst, arith, mul-le-mul_right, ap₂, length-take, length-take-le, length-drop}
use Rattle.std.specs.Prelude.{Option, None, not, ◌&&◌, ◌==◌, if◌then◌else◌, nat_le}
use Rattle.std.proofs.lemmas.Bool.Decides.{nat_tests}
use Rattle.std.specs.Bool.{then_some}
use Rattle.std.proofs.lemmas.Option.{same_Some}
use Rattle.disk.specs.Disk.{Life, WriteGoes, applied}
use Rattle.disk.specs.Disk.Operation.{Write}
use Rattle.disk.specs.declared.error.Error.{Error}
use Rattle.page.specs.Slot.{slot_offset, other}
use Rattle.page.specs.Page.{active, bad_beside, bad_slot, is_clear, pages, slot_bytes, slot_len, slot_crc, slot_of, slot_verifies, text, text_of_pages, value, value_len, verifies, verified_len}
use Rattle.page.specs.declared.slot.Slot.{Slot}
use Rattle.page.specs.declared.slot.Slot.TheVariants.{First, Second}
use Rattle.page.specs.declared.slot.ActiveChecksum.{ActiveChecksum}
use Rattle.crash.specs.Distinct.{IsGood, PageIsGood}
use Rattle.crash.specs.Kept.{Through}
use Rattle.crash.specs.Shrink.{HoldsText, slot_write}
use Rattle.crash.proofs.DistinctLaws.{slot_cases, void_good, good_alike}
use Rattle.crash.proofs.Pages.{length-page, length-pages, page_is, pages_at}
use Rattle.crash.proofs.Disks.{length-applied_write}
use Rattle.crash.proofs.Lists.{take_same}
use Rattle.std.proofs.lemmas.Bool.{cases_lt, cases_order}
use Rattle.std.proofs.Math.Bool.{and-false}
use Rattle.crash.proofs.Texts.{AreBytes, active_is, value_len_le}
use Rattle.crash.proofs.PageFacts.{verified_cases, verified_len_held, page_begins, slot_at, slot_offset_le}
use Rattle.crash.proofs.SlotLaws.{staged_good}
use Rattle.crash.specs.Guard.{IsSlotFor}
use Rattle.crash.proofs.ShrinkLaws.{inside_write, outside_write}
use Rattle.writer_state.proofs.ShortenLaws.{MayHold, value_may_hold, may_hold_spares, holds_at_rest, clear_holds, rest_latest}

-- a bad slot is the one beside the slot of the page's value
pub bad_is : (sum : List ℕ → ℕ) (P : ℕ) (page : List ℕ) (a : ActiveChecksum) (t : Slot) → active sum P page ≡ Some a → bad_slot sum P page ≡ Some t → t ≡ other a.slot
bad_is sum P page a t told bad =
    chosen (not (is_clear (slot_of P (other a.slot) page)) && not (verifies sum P (other a.slot) page)) (other a.slot) (sym (ap (λ (o : Option ActiveChecksum). bad_beside sum P page o) told) ∙ bad)
  where
    chosen : (b : Bool) (s : Slot) → then_some b s ≡ Some t → t ≡ s
    chosen true s is = sym (same_Some s t is)
    chosen false s is = absurd (cc is)

-- emptying a bad slot of a blob in which nothing is unsynced holds the whole text at each moment
pub mend_holds : (sum : List ℕ → ℕ) (P page : ℕ) (a : ActiveChecksum) (sync : Bool) (old new : Life) (answer : Result (Unit {0}) Error) → 0 < P → old.present.since ≡ [] → old.present.base ≡ old.present.readable
    → (page + 1) * (P + 12) ≤ length old.present.readable → AreBytes (take (P + 12) (drop (page * (P + 12)) old.present.readable)) → active sum P (take (P + 12) (drop (page * (P + 12)) old.present.readable)) ≡ Some a
    → length (text sum P old.present.readable) ≤ page * P + a.len
    → WriteGoes (page * (P + 12) + P + slot_offset (other a.slot)) (slot_bytes 0 0) sync old new answer
    → Through (HoldsText sum P (text sum P old.present.readable) (length (text sum P old.present.readable))) old new
mend_holds sum P page a sync old new answer some at_rest base reach are told enough goes =
    let d = old.present in
    let R = d.readable in
    let T = text sum P R in
    let done = rest_latest d at_rest base in
    let may : MayHold sum P T page a d = value_may_hold sum P page a R d at_rest base reach are told in
    clear_holds sum P T (length T) page (record a { slot = other a.slot }) sync old new answer goes
    (omega (arith, reach, ap length done)) done
    (may_hold_spares sum P T page a (length T) d (omega arith) enough may)
    (holds_at_rest sum P R (length T) d some at_rest base (omega arith))

-- ---- once no slot of the page is bad

-- the value's slot is never bad
pub value_good : (sum : List ℕ → ℕ) (P : ℕ) (page : List ℕ) (a : ActiveChecksum) → length page ≡ P + 12 → active sum P page ≡ Some a → IsGood sum P a.slot page
value_good sum P page a size told = λ some fits.
    let is = active_is sum P page a told in
    let long : length (take a.len page) ≡ a.len = length-take-le a.len page (omega (arith, is.fits, size)) in
    let six : length (slot_of P a.slot page) ≡ 6 = six_bytes a.slot in
    let slot : IsSlotFor sum (take a.len page) (slot_of P a.slot page) = record { size = six; len = is.says ∙ sym long; crc = is.holds ∙ is.crc } in
    verified_len_held sum P a.slot page (take a.len page) slot (omega (arith, long, is.some)) (omega (arith, long, is.fits)) (ap (λ (k : ℕ). take k page) long) ∙ long ∙ sym is.says
  where
    six_bytes : (t : Slot) → length (slot_of P t page) ≡ 6
    six_bytes t = omega (arith, length-take 6 (drop (P + slot_offset t) page), length-drop (P + slot_offset t) page, size, slot_offset_le t)

-- the slot beside the value's is good, where `bad_slot` finds none
pub beside_good : (sum : List ℕ → ℕ) (P : ℕ) (page : List ℕ) (a : ActiveChecksum) → active sum P page ≡ Some a → bad_slot sum P page ≡ None → IsGood sum P (other a.slot) page
beside_good sum P page a told none =
    by_tests (is_clear (slot_of P (other a.slot) page)) (verifies sum P (other a.slot) page) refl refl (sym (ap (λ (o : Option ActiveChecksum). bad_beside sum P page o) told) ∙ none)
  where
    zero_len : (len crc : ℕ) → ((len == 0) && (crc == 0)) ≡ true → len ≡ 0
    zero_len len crc tests = grind (arith, nat_tests, tests)

    by_tests : (clear says : Bool) → is_clear (slot_of P (other a.slot) page) ≡ clear → verifies sum P (other a.slot) page ≡ says → then_some (not (is_clear (slot_of P (other a.slot) page)) && not (verifies sum P (other a.slot) page)) (other a.slot) ≡ None → IsGood sum P (other a.slot) page
    by_tests true says is_zero is_says nothing = void_good sum P (other a.slot) page (zero_len (slot_len (slot_of P (other a.slot) page)) (slot_crc (slot_of P (other a.slot) page)) is_zero)
    by_tests false true is_zero is_says nothing = λ some fits. ap (λ (b : Bool). if b then slot_len (slot_of P (other a.slot) page) else 0) is_says
    by_tests false false is_zero is_says nothing = absurd (cc (sym (ap₂ (λ (b c : Bool). then_some (not b && not c) (other a.slot)) is_zero is_says) ∙ nothing))

-- so neither slot of the page is bad
pub unbad_good : (sum : List ℕ → ℕ) (P : ℕ) (page : List ℕ) (a : ActiveChecksum) → length page ≡ P + 12 → active sum P page ≡ Some a → bad_slot sum P page ≡ None → (s : Slot) → IsGood sum P s page
unbad_good sum P page a size told none s = elim (slot_cases a.slot s) [
  | inl here ↦ subst (λ (t : Slot). IsGood sum P t page) (sym here) (value_good sum P page a size told)
  | inr beside ↦ subst (λ (t : Slot). IsGood sum P t page) (sym beside) (beside_good sum P page a told none)
]

-- neither slot of the page is bad once the bad one was emptied
pub mended_good : (sum : List ℕ → ℕ) (P page : ℕ) (a : ActiveChecksum) (bytes : List ℕ) → (page + 1) * (P + 12) ≤ length bytes → active sum P (take (P + 12) (drop (page * (P + 12)) bytes)) ≡ Some a
    → PageIsGood sum P page (applied (slot_write P page (other a.slot) (slot_bytes 0 0)) bytes)
mended_good sum P page a bytes reach told held is s =
    let t = other a.slot in
    let at = page * (P + 12) + P + slot_offset t in
    let zeros = slot_bytes 0 0 in
    let six : length zeros ≡ 6 = refl in
    let new = applied (Write at zeros) bytes in
    let within : at + length zeros ≤ length bytes = omega (arith, six, reach, slot_offset_le t) in
    let was = take (P + 12) (drop (page * (P + 12)) bytes) in
    let there : slice_get (pages P bytes) page ≡ Some was = pages_at P page bytes reach in
    let size : length was ≡ P + 12 = length-page P page bytes was there in
    elim (slot_cases a.slot s) [
      | inl here ↦
          let aside : (page * (P + 12) + P + slot_offset a.slot + 6 ≤ at) ⊎ (at + length zeros ≤ page * (P + 12) + P + slot_offset a.slot) = beside_each (page * (P + 12) + P) a.slot in
          let slot : slot_of P a.slot was ≡ slot_of P a.slot held =
          slot_at P page a.slot bytes was there ∙ sym (outside_write at zeros bytes (page * (P + 12) + P + slot_offset a.slot) 6 within aside) ∙ sym (slot_at P page a.slot new held is) in
          let payload : take P was ≡ take P held =
          page_begins P page P bytes was there (omega arith) ∙ sym (outside_write at zeros bytes (page * (P + 12)) P within (inl (omega arith))) ∙ sym (page_begins P page P new held is (omega arith)) in
          subst (λ (u : Slot). IsGood sum P u held) (sym here) (good_alike sum P a.slot was held slot payload (value_good sum P was a size told))
      | inr beside ↦ subst (λ (u : Slot). IsGood sum P u held) (sym beside) (staged_good sum P page t 0 bytes held reach is)
    ]
  where
    beside_each : (offset : ℕ) (u : Slot) → (offset + slot_offset u + 6 ≤ offset + slot_offset (other u)) ⊎ (offset + slot_offset (other u) + 6 ≤ offset + slot_offset u)
    beside_each offset First = inl (omega arith)
    beside_each offset Second = inr (omega arith)

-- ---- the text of the blob stays

-- pages with the same values have the same text
values_alike : (sum : List ℕ → ℕ) (P : ℕ) (ps qs : List (List ℕ)) → length ps ≡ length qs
    → ((p : ℕ) (a b : List ℕ) → slice_get ps p ≡ Some a → slice_get qs p ≡ Some b → (value_len sum P a ≡ value_len sum P b) × (value sum P a ≡ value sum P b)) → text_of_pages sum P ps ≡ text_of_pages sum P qs
values_alike sum P [] [] size each = refl
values_alike sum P [] (q ∷ qs) size each = absurd (omega arith)
values_alike sum P (p ∷ ps) [] size each = absurd (omega arith)
values_alike sum P (p ∷ ps) (q ∷ qs) size each =
    let first = each 0 p q refl refl in
    let rest = values_alike sum P ps qs (omega (arith, size)) (λ n a b here there. each (suc n) a b here there) in
    ap₂ (λ (v : List ℕ) (n : ℕ). v ++ (if n == P then text_of_pages sum P ps else [])) first.1 first.0
    ∙ ap (λ (t : List ℕ). value sum P q ++ (if value_len sum P q == P then t else [])) rest

-- a slot verifies over as much in another page that has its six bytes and the same payload
pub verified_alike : (sum : List ℕ → ℕ) (P : ℕ) (s : Slot) (page held : List ℕ) → slot_of P s page ≡ slot_of P s held → take P page ≡ take P held → verified_len sum P s page ≡ verified_len sum P s held
verified_alike sum P s page held same payload =
    let len = slot_len (slot_of P s page) in
    let said : len ≡ slot_len (slot_of P s held) = ap slot_len same in
    elim (cases_lt P len) [
      | inl long ↦ too_long sum P s page long ∙ sym (too_long sum P s held (omega (arith, said, long)))
      | inr fits ↦
          let bytes : take len page ≡ take len held = take_same len P page held fits payload in
          ap (λ (l : List ℕ). if nat_le 1 len && nat_le len P && (sum l == slot_crc (slot_of P s page)) then len else 0) bytes
          ∙ ap (λ (six : List ℕ). if slot_verifies sum P six held then slot_len six else 0) same
    ]
  where
    too_long : (sum : List ℕ → ℕ) (P : ℕ) (s : Slot) (page : List ℕ) → P < slot_len (slot_of P s page) → verified_len sum P s page ≡ 0
    too_long sum P s page long = elim (verified_cases sum P s page) [ inl none ↦ none | inr is ↦ absurd (omega (arith, is.2, long)) ]

-- the value's length is the same, where one slot verifies over as much in both pages and the other
-- over nothing
value_len_alike : (sum : List ℕ → ℕ) (P : ℕ) (s : Slot) (page held : List ℕ) → verified_len sum P s page ≡ verified_len sum P s held → verified_len sum P (other s) page ≡ 0 → verified_len sum P (other s) held ≡ 0 → value_len sum P page ≡ value_len sum P held
value_len_alike sum P First page held same a b = omega (arith, same, a, b)
value_len_alike sum P Second page held same a b = omega (arith, same, a, b)

-- a slot that is bad verifies over nothing
pub bad_verifies : (sum : List ℕ → ℕ) (P : ℕ) (page : List ℕ) (a : ActiveChecksum) (t : Slot) → active sum P page ≡ Some a → bad_slot sum P page ≡ Some t → verified_len sum P (other a.slot) page ≡ 0
bad_verifies sum P page a t told bad = by_test (verifies sum P (other a.slot) page) refl (sym (ap (λ (o : Option ActiveChecksum). bad_beside sum P page o) told) ∙ bad)
  where
    by_test : (says : Bool) → verifies sum P (other a.slot) page ≡ says → then_some (not (is_clear (slot_of P (other a.slot) page)) && not (verifies sum P (other a.slot) page)) (other a.slot) ≡ Some t → verified_len sum P (other a.slot) page ≡ 0
    by_test false is_says some = ap (λ (b : Bool). if b then slot_len (slot_of P (other a.slot) page) else 0) is_says
    by_test true is_says some = absurd (cc (sym (ap (λ (b : Bool). then_some b (other a.slot)) (ap (λ (c : Bool). not (is_clear (slot_of P (other a.slot) page)) && not c) is_says ∙ and-false (not (is_clear (slot_of P (other a.slot) page))))) ∙ some))

-- so what is readable has the same text once a bad slot was emptied
pub mended_text : (sum : List ℕ → ℕ) (P page : ℕ) (a : ActiveChecksum) (t : Slot) (bytes : List ℕ) → (page + 1) * (P + 12) ≤ length bytes → active sum P (take (P + 12) (drop (page * (P + 12)) bytes)) ≡ Some a
    → bad_slot sum P (take (P + 12) (drop (page * (P + 12)) bytes)) ≡ Some t → text sum P (applied (slot_write P page (other a.slot) (slot_bytes 0 0)) bytes) ≡ text sum P bytes
mended_text sum P page a t bytes reach told bad =
    let at = page * (P + 12) + P + slot_offset (other a.slot) in
    let zeros = slot_bytes 0 0 in
    let six : length zeros ≡ 6 = refl in
    let new = applied (Write at zeros) bytes in
    let within : at + length zeros ≤ length bytes = omega (arith, six, reach, slot_offset_le (other a.slot)) in
    let size : length new ≡ length bytes = omega (arith, length-applied_write at zeros bytes, within) in
    values_alike sum P (pages P new) (pages P bytes) (length-pages P new ∙ ap (λ (n : ℕ). n / (P + 12)) size ∙ sym (length-pages P bytes)) (λ p held was here there.
    let apart : (p * (P + 12) + (P + 12) ≤ at) ⊎ (at + length zeros ≤ p * (P + 12)) → (value_len sum P held ≡ value_len sum P was) × (value sum P held ≡ value sum P was) = λ aside.
    let same : held ≡ was = page_is P p new held here ∙ outside_write at zeros bytes (p * (P + 12)) (P + 12) within aside ∙ sym (page_is P p bytes was there) in
    (ap (value_len sum P) same, ap (value sum P) same) in
    elim (cases_order p page) [
      | inl same ↦ at_page held was (ap (λ (q : ℕ). slice_get (pages P new) q) (sym same) ∙ here) (ap (λ (q : ℕ). slice_get (pages P bytes) q) (sym same) ∙ there)
      | inr (inl less) ↦
          let le : suc p * (P + 12) ≤ page * (P + 12) = mul-le-mul_right (P + 12) less in
          apart (inl (omega (arith, le)))
      | inr (inr more) ↦
          let le : suc page * (P + 12) ≤ p * (P + 12) = mul-le-mul_right (P + 12) more in
          apart (inr (omega (arith, le, six, slot_offset_le (other a.slot))))
    ])
  where
    beside_each : (offset : ℕ) (u : Slot) → (offset + slot_offset u + 6 ≤ offset + slot_offset (other u)) ⊎ (offset + slot_offset (other u) + 6 ≤ offset + slot_offset u)
    beside_each offset First = inl (omega arith)
    beside_each offset Second = inr (omega arith)

    at_page : (held was : List ℕ) → slice_get (pages P (applied (slot_write P page (other a.slot) (slot_bytes 0 0)) bytes)) page ≡ Some held → slice_get (pages P bytes) page ≡ Some was → (value_len sum P held ≡ value_len sum P was) × (value sum P held ≡ value sum P was)
    at_page held was here there =
        let at = page * (P + 12) + P + slot_offset (other a.slot) in
        let zeros = slot_bytes 0 0 in
        let six : length zeros ≡ 6 = refl in
        let new = applied (Write at zeros) bytes in
        let within : at + length zeros ≤ length bytes = omega (arith, six, reach, slot_offset_le (other a.slot)) in
        let is_was : was ≡ take (P + 12) (drop (page * (P + 12)) bytes) = page_is P page bytes was there in
        let aside : (page * (P + 12) + P + slot_offset a.slot + 6 ≤ at) ⊎ (at + length zeros ≤ page * (P + 12) + P + slot_offset a.slot) = beside_each (page * (P + 12) + P) a.slot in
        let slot : slot_of P a.slot held ≡ slot_of P a.slot was =
        slot_at P page a.slot new held here ∙ outside_write at zeros bytes (page * (P + 12) + P + slot_offset a.slot) 6 within aside ∙ sym (slot_at P page a.slot bytes was there) in
        let payload : take P held ≡ take P was =
        page_begins P page P new held here (omega arith) ∙ outside_write at zeros bytes (page * (P + 12)) P within (inl (omega arith)) ∙ sym (page_begins P page P bytes was there (omega arith)) in
        let none_new : verified_len sum P (other a.slot) held ≡ 0 = void_verifies (staged_good sum P page (other a.slot) 0 bytes held reach here) held (written_len held here) in
        let none_old : verified_len sum P (other a.slot) was ≡ 0 = ap (verified_len sum P (other a.slot)) is_was ∙ bad_verifies sum P (take (P + 12) (drop (page * (P + 12)) bytes)) a t told bad in
        let lens : value_len sum P held ≡ value_len sum P was = value_len_alike sum P a.slot held was (verified_alike sum P a.slot held was slot payload) none_new none_old in (
          lens,
          ap (λ (n : ℕ). take n held) lens ∙ take_same (value_len sum P was) P held was (value_len_le sum P was) payload,
        )
      where
        written_len : (held : List ℕ) → slice_get (pages P (applied (slot_write P page (other a.slot) (slot_bytes 0 0)) bytes)) page ≡ Some held → slot_len (slot_of P (other a.slot) held) ≡ 0
        written_len held here =
            let at = page * (P + 12) + P + slot_offset (other a.slot) in
            let six : length (slot_bytes 0 0) ≡ 6 = refl in
            ap slot_len (slot_at P page (other a.slot) (applied (Write at (slot_bytes 0 0)) bytes) held here
            ∙ ap (λ (n : ℕ). take n (drop at (applied (Write at (slot_bytes 0 0)) bytes))) (sym six)
            ∙ inside_write at (slot_bytes 0 0) bytes (omega (arith, six, reach, slot_offset_le (other a.slot))))

        void_verifies : IsGood sum P (other a.slot) held → (page : List ℕ) → slot_len (slot_of P (other a.slot) page) ≡ 0 → verified_len sum P (other a.slot) page ≡ 0
        void_verifies good page none = elim (verified_cases sum P (other a.slot) page) [ inl nothing ↦ nothing | inr is ↦ is.0 ∙ none ]
