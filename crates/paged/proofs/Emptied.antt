-- What opening leaves of a blob's bytes: the pages up to the last that has a value, and the bad
-- slot of that page emptied.
use Rattle.std.proofs.Common.{◌≡◌, ◌≢◌, ◌⊎◌, inl, inr, ℕ, zero, suc, ◌+◌, ◌-◌, ◌*◌, ◌/◌, ◌<◌, ◌≤◌, max, List, [], ◌∷◌, ◌++◌, length, take, drop, get_or, slice_get, refl, sym, ◌∙◌, ap, ap₂, subst, arith, rules, Bool, true, false, length-take, length-take-le, length-drop, length-append}
use Rattle.std.specs.Prelude.{Option, Some, None, if◌then◌else◌, nat_le, nat_lt, not, ◌&&◌, ◌==◌}
use Rattle.std.specs.Bool.{then_some}
use Rattle.std.proofs.lemmas.Bool.{cases_eq, cases_lt}
use Rattle.std.proofs.lemmas.Bool.Decides.{nat_tests}
use Rattle.std.proofs.lemmas.List.{take-take, take_all, get_or_past, get_or-take, get_or-drop}
use Rattle.std.proofs.lemmas.Option.{same_Some, slice_get_within}
use Rattle.disk.specs.Disk.{applied}
use Rattle.disk.specs.Disk.Operation.{Write}
use Rattle.page.specs.Slot.{slot_offset, other}
use Rattle.page.specs.Page.{active, bad_beside, bad_slot, is_clear, pages, slot_bytes, slot_len, slot_crc, slot_of, text, text_of_pages, value, value_len, value_slot, verifies, verified_len}
use Rattle.page.specs.declared.slot.Slot.{Slot}
use Rattle.page.specs.declared.slot.Slot.TheVariants.{First, Second}
use Rattle.page.specs.declared.slot.ActiveChecksum.{ActiveChecksum}
use Rattle.crash.specs.Distinct.{IsGood, PageIsGood}
use Rattle.crash.specs.Full.{AreFull}
use Rattle.crash.specs.Shrink.{slot_write}
use Rattle.crash.proofs.Disks.{length-applied_write}
use Rattle.crash.proofs.DistinctLaws.{slot_cases}
use Rattle.crash.proofs.Lists.{take_same, within_take}
use Rattle.crash.proofs.Pages.{before_write, length-page, length-pages, page_fits, page_is, pages_at, pages_reach, pages_whole, length-pieces}
use Rattle.crash.proofs.PageFacts.{page_begins, slot_at, slot_offset_le, verified_cases}
use Rattle.crash.proofs.ShrinkLaws.{inside_write, outside_write}
use Rattle.crash.proofs.Texts.{AreBytes, AreFull_same, active_is, active_some, bytes_from_all, bytes_of_drop, bytes_of_take, slot_said, value_len_le}
use Rattle.writer_state.proofs.MendLaws.{bad_is, bad_verifies, mended_good, mended_text, unbad_good, verified_alike}
use Rattle.paged_read.specs.declared.prefix.Prefix.{Prefix}
use Rattle.paged_read.specs.Ranges.{page_at}
use Rattle.paged_read.specs.Prefix.{bad_beside_value, bad_in, last_prefix, partial_pages, prefix_pages, value_and_slot, HasBytes}
use Rattle.paged_read.proofs.Prefixes.{last_is, last_none_suc, last_full_suc, last_part_suc}
use Rattle.paged.specs.Recovery.{BesideIsMended, emptied, opened_bytes, opened_prefix, opened_size, slot_of_tip}
use Rattle.paged.proofs.Firsts.{After, first_size_le, text_of_beginning}
use Rattle.paged.proofs.Standing.{told_after}

-- ---- what stands after the pages up to the last that has a value

module _ (sum : List ℕ → ℕ) (P : ℕ) (bytes : List ℕ) where
  -- a page that is there is the one at its offset
  page_there : (k : ℕ) → k < length bytes / (P + 12) → slice_get (pages P bytes) k ≡ Some (page_at P k bytes)
  page_there k lt = pages_at P k bytes (pages_reach P (k + 1) bytes (omega arith))

  -- a page that has a value, and isn't full
  after_told : (k : ℕ) → k < length bytes / (P + 12) → value_len sum P (page_at P k bytes) ≢ 0 → value_len sum P (page_at P k bytes) ≢ P
      → After sum P (pages P bytes) k (value_and_slot (active sum P (page_at P k bytes)) (page_at P k bytes))
  after_told k lt has part =
      let page = page_at P k bytes in
      let told = active_some sum P page (omega arith) in
      subst (λ (s : Option ActiveChecksum). After sum P (pages P bytes) k (value_and_slot s page)) (sym told.1) (page, page_there k lt, told.1, refl, part)

  -- no page from there on has a value
  after_none : (k : ℕ) → ((m : ℕ) → k ≤ m → m < length bytes / (P + 12) → value_len sum P (page_at P m bytes) ≡ 0) → After sum P (pages P bytes) k None
  after_none k none = λ page is.
      ap (λ (l : List ℕ). value_len sum P l) (page_is P k bytes page is)
      ∙ none k (omega arith) (omega (arith, slice_get_within (pages P bytes) k page is, length-pages P bytes))

  after_last : (n : ℕ) → n ≤ length bytes / (P + 12) → ((m : ℕ) → n ≤ m → m < length bytes / (P + 12) → value_len sum P (page_at P m bytes) ≡ 0)
      → After sum P (pages P bytes) (last_prefix sum P n bytes).full_pages (last_prefix sum P n bytes).partial
  after_last zero within none = after_none 0 none
  after_last (suc n) within none = elim (cases_eq (value_len sum P (page_at P n bytes)) 0) [
    | inl empty ↦ subst (λ (p : Prefix). After sum P (pages P bytes) p.full_pages p.partial) (sym (last_none_suc sum P n bytes empty))
        (after_last n (omega arith) (λ m le lt. elim (cases_eq m n) [
          | inl is ↦ ap (λ (k : ℕ). value_len sum P (page_at P k bytes)) is ∙ empty
          | inr other ↦ none m (omega arith) lt
        ]))
    | inr has ↦ elim (cases_eq (value_len sum P (page_at P n bytes)) P) [
      | inl full ↦ subst (λ (p : Prefix). After sum P (pages P bytes) p.full_pages p.partial) (sym (last_full_suc sum P n bytes has full)) (after_none (n + 1) (λ m le lt. none m (omega arith) lt))
      | inr part ↦ subst (λ (p : Prefix). After sum P (pages P bytes) p.full_pages p.partial) (sym (last_part_suc sum P n bytes has part)) (after_told n (omega arith) has part)
    ]
  ]

-- ---- a bad slot emptied

module _ (sum : List ℕ → ℕ) (P full : ℕ) (a : ActiveChecksum) (t : Slot) (bytes : List ℕ) (reach : (full + 1) * (P + 12) ≤ length bytes) (told : active sum P (page_at P full bytes) ≡ Some a) (bad : bad_slot sum P (page_at P full bytes) ≡ Some t) where
  abbrev at : ℕ
  at = full * (P + 12) + P + slot_offset (other a.slot)

  abbrev zeros : List ℕ
  zeros = slot_bytes 0 0

  abbrev new : List ℕ
  new = applied (Write at zeros) bytes

  abbrev was : List ℕ
  was = page_at P full bytes

  abbrev held : List ℕ
  held = page_at P full new

  six : length zeros ≡ 6
  six = refl

  within : at + length zeros ≤ length bytes
  within = omega (arith, six, reach, slot_offset_le (other a.slot))

  size_new : length new ≡ length bytes
  size_new = omega (arith, length-applied_write at zeros bytes, within)

  here : slice_get (pages P new) full ≡ Some held
  here = pages_at P full new (omega (arith, reach, size_new))

  there : slice_get (pages P bytes) full ≡ Some was
  there = pages_at P full bytes reach

  beside_each : (offset : ℕ) (u : Slot) → (offset + slot_offset u + 6 ≤ offset + slot_offset (other u)) ⊎ (offset + slot_offset (other u) + 6 ≤ offset + slot_offset u)
  beside_each offset First = inl (omega arith)
  beside_each offset Second = inr (omega arith)

  same_slot : slot_of P a.slot held ≡ slot_of P a.slot was
  same_slot =
      let aside : (full * (P + 12) + P + slot_offset a.slot + 6 ≤ at) ⊎ (at + length zeros ≤ full * (P + 12) + P + slot_offset a.slot) = beside_each (full * (P + 12) + P) a.slot in
      slot_at P full a.slot new held here ∙ outside_write at zeros bytes (full * (P + 12) + P + slot_offset a.slot) 6 within aside ∙ sym (slot_at P full a.slot bytes was there)

  same_payload : take P held ≡ take P was
  same_payload = page_begins P full P new held here (omega arith) ∙ outside_write at zeros bytes (full * (P + 12)) P within (inl (omega arith)) ∙ sym (page_begins P full P bytes was there (omega arith))

  emptied_slot : slot_of P (other a.slot) held ≡ zeros
  emptied_slot = slot_at P full (other a.slot) new held here ∙ inside_write at zeros bytes within

  none_new : verified_len sum P (other a.slot) held ≡ 0
  none_new = elim (verified_cases sum P (other a.slot) held) [ inl nothing ↦ nothing | inr is ↦ is.0 ∙ ap slot_len emptied_slot ]

  none_old : verified_len sum P (other a.slot) was ≡ 0
  none_old = bad_verifies sum P was a t told bad

  -- each slot verifies over as much as before
  each_alike : (s : Slot) → verified_len sum P s held ≡ verified_len sum P s was
  each_alike s = elim (slot_cases a.slot s) [
    | inl is ↦ subst (λ (u : Slot). verified_len sum P u held ≡ verified_len sum P u was) (sym is) (verified_alike sum P a.slot held was same_slot same_payload)
    | inr is ↦ subst (λ (u : Slot). verified_len sum P u held ≡ verified_len sum P u was) (sym is) (none_new ∙ sym none_old)
  ]

  same_len : value_len sum P held ≡ value_len sum P was
  same_len = ap₂ max (each_alike First) (each_alike Second)

  same_choice : value_slot sum P held ≡ value_slot sum P was
  same_choice = ap₂ (λ (m n : ℕ). if nat_lt m n then Second else First) (each_alike First) (each_alike Second)

  chosen : value_slot sum P was ≡ a.slot
  chosen = ap (λ (x : ActiveChecksum). x.slot) (some_of (value_len sum P was == 0) (record { slot = value_slot sum P was; len = value_len sum P was; crc = slot_crc (slot_of P (value_slot sum P was) was) }) told)
    where
      some_of : (none : Bool) (x : ActiveChecksum) → (if none then None else Some x) ≡ Some a → x ≡ a
      some_of true x is = absurd (cc is)
      some_of false x is = same_Some x a is

  -- the page's value has the same slot as before
  active_new : active sum P held ≡ Some a
  active_new =
      let crc : slot_crc (slot_of P (value_slot sum P held) held) ≡ slot_crc (slot_of P (value_slot sum P was) was) =
      ap (λ (s : Slot). slot_crc (slot_of P s held)) (same_choice ∙ chosen) ∙ ap slot_crc same_slot ∙ sym (ap (λ (s : Slot). slot_crc (slot_of P s was)) chosen) in
      (λ i. if same_len i == 0 then None else Some (record { slot = same_choice i; len = same_len i; crc = crc i })) ∙ told

  front_new : take (full * (P + 12)) new ≡ take (full * (P + 12)) bytes
  front_new = before_write at (full * (P + 12)) zeros bytes (omega arith) (omega (arith, reach))

  zeros_are : AreBytes zeros
  zeros_are = bytes_from_all zeros (search rules)

  -- the bytes of the page are below 256, as before
  byte_new : (k : ℕ) → get_or bytes k 0 < 256 → get_or new k 0 < 256
  byte_new k small = elim (cases_lt k at) [
    | inl before ↦
        let front : take at new ≡ take at bytes = before_write at at zeros bytes (omega arith) (omega (arith, within)) in
        omega (arith, get_or-take at new k 0 before, get_or-take at bytes k 0 before, ap (λ (l : List ℕ). get_or l k 0) front, small)
    | inr past ↦
        let j = k - at in
        let split : at + j ≡ k = omega (arith, past) in
        elim (cases_lt j 6) [
          | inl inside ↦ omega (
            arith,
            ap (λ (n : ℕ). get_or new n 0) split,
            get_or-drop at new j 0,
            get_or-take 6 (drop at new) j 0 inside,
            ap (λ (l : List ℕ). get_or l j 0) (inside_write at zeros bytes within),
            zeros_are j,
          )
          | inr after ↦
              let m = j - 6 in
              let rest : at + 6 + m ≡ k = omega (arith, split, after) in
              let same : take (suc m) (drop (at + 6) new) ≡ take (suc m) (drop (at + 6) bytes) = outside_write at zeros bytes (at + 6) (suc m) within (inr (omega (arith, six))) in
              omega (
                arith,
                ap (λ (n : ℕ). get_or new n 0) rest,
                ap (λ (n : ℕ). get_or bytes n 0) rest,
                get_or-drop (at + 6) new m 0,
                get_or-drop (at + 6) bytes m 0,
                get_or-take (suc m) (drop (at + 6) new) m 0 (omega arith),
                get_or-take (suc m) (drop (at + 6) bytes) m 0 (omega arith),
                ap (λ (l : List ℕ). get_or l m 0) same,
                small,
              )
        ]
  ]

  bytes_new : AreBytes was → AreBytes held
  bytes_new are i = elim (cases_lt i (P + 12)) [
    | inl within_page ↦
        let k = full * (P + 12) in
        let old : get_or bytes (k + i) 0 < 256 = omega (arith, are i, get_or-take (P + 12) (drop k bytes) i 0 within_page, get_or-drop k bytes i 0) in
        omega (arith, byte_new (k + i) old, get_or-take (P + 12) (drop k new) i 0 within_page, get_or-drop k new i 0)
    | inr past ↦ omega (arith, get_or_past held i 0 (omega (arith, past, length-take (P + 12) (drop (full * (P + 12)) new))))
  ]

  -- the page isn't as it was: the bad slot isn't all zero
  changed : new ≡ bytes → ⊥
  changed same =
      absurd (cc (sym (ap (λ (c : Bool). then_some (not c && not (verifies sum P (other a.slot) was)) (other a.slot)) clear) ∙ sym (ap (λ (o : Option ActiveChecksum). bad_beside sum P was o) told) ∙ bad))
    where
      clear : is_clear (slot_of P (other a.slot) was) ≡ true
      clear = ap (λ (l : List ℕ). is_clear (slot_of P (other a.slot) (page_at P full l))) (sym same) ∙ ap is_clear emptied_slot

-- ---- the pages that are kept, with the bad slot emptied

-- what holds of the pages that are kept
pub record AreKept (sum : List ℕ → ℕ) (P full : ℕ) (found : Option (List ℕ × ActiveChecksum)) (bytes new : List ℕ) : Type 0 where
  pub size : length new ≡ length bytes
  pub after : After sum P (pages P new) full found
  pub has : HasBytes P full bytes found → HasBytes P full new found
  pub says : text sum P new ≡ text sum P bytes
  pub front : take (full * (P + 12)) new ≡ take (full * (P + 12)) bytes
  pub good : PageIsGood sum P full new
  pub beside : HasBytes P full bytes found → BesideIsMended sum P full new (slot_of_tip found)

module _ (sum : List ℕ → ℕ) (P full : ℕ) (v : List ℕ × ActiveChecksum) (bytes : List ℕ) (after : After sum P (pages P bytes) full (Some v)) where
  abbrev page : List ℕ
  page = page_at P full bytes

  page_same : after.0 ≡ page
  page_same = page_is P full bytes after.0 after.1

  fits : (full + 1) * (P + 12) ≤ length bytes
  fits = page_fits P full bytes after.0 after.1

  page_told : active sum P page ≡ Some v.1
  page_told = ap (λ (l : List ℕ). active sum P l) (sym page_same) ∙ after.2

  page_size : length page ≡ P + 12
  page_size = length-page P full bytes page (pages_at P full bytes fits)

  abbrev beside : List ℕ
  beside = slot_of P (other v.1.slot) page

  -- a slot that isn't bad verifies, or is six zeros
  unbad_beside : bad_slot sum P page ≡ None → AreBytes page → BesideIsMended sum P full bytes (Some v.1)
  unbad_beside none are = by_tests (is_clear (slot_of P (other v.1.slot) page)) (verifies sum P (other v.1.slot) page) refl refl (sym (ap (λ (o : Option ActiveChecksum). bad_beside sum P page o) page_told) ∙ none)
    where
      zero_both : (len crc : ℕ) → ((len == 0) && (crc == 0)) ≡ true → (len ≡ 0) × (crc ≡ 0)
      zero_both len crc tests = (grind (arith, nat_tests, tests), grind (arith, nat_tests, tests))

      some_len : (len : ℕ) (b c : Bool) → (nat_le 1 len && b && c) ≡ true → 0 < len
      some_len len b c tests = grind (arith, nat_tests, tests)

      by_tests : (clear says : Bool) → is_clear beside ≡ clear → verifies sum P (other v.1.slot) page ≡ says → then_some (not (is_clear beside) && not (verifies sum P (other v.1.slot) page)) (other v.1.slot) ≡ None → BesideIsMended sum P full bytes (Some v.1)
      by_tests true says is_zero is_says nothing =
          let both = zero_both (slot_len beside) (slot_crc beside) is_zero in
          let six : length beside ≡ 6 = omega (arith, length-take 6 (drop (P + slot_offset (other v.1.slot)) page), length-drop (P + slot_offset (other v.1.slot)) page, page_size, slot_offset_le (other v.1.slot)) in
          let said = slot_said beside six (bytes_of_take 6 (drop (P + slot_offset (other v.1.slot)) page) (bytes_of_drop (P + slot_offset (other v.1.slot)) page are)) in
          inr (sym said ∙ ap₂ slot_bytes both.0 both.1)
      by_tests false true is_zero is_says nothing =
          let len : verified_len sum P (other v.1.slot) page ≡ slot_len beside = ap (λ (b : Bool). if b then slot_len beside else 0) is_says in
          inl (omega (arith, len, some_len (slot_len beside) (nat_le (slot_len beside) P) (sum (take (slot_len beside) page) == slot_crc beside) is_says))
      by_tests false false is_zero is_says nothing = absurd (cc (sym (ap₂ (λ (b c : Bool). then_some (not b && not c) (other v.1.slot)) is_zero is_says) ∙ nothing))

  some_kept : (bad : Option Slot) → bad_slot sum P page ≡ bad → AreKept sum P full (Some v) bytes (emptied P full bad bytes)
  some_kept None none = record {
    size = refl;
    after = after;
    has = λ has. has;
    says = refl;
    front = refl;
    good = λ held is s. subst (λ (l : List ℕ). IsGood sum P s l) (sym (page_is P full bytes held is)) (unbad_good sum P page v.1 page_size page_told none s);
    beside = λ has. unbad_beside none has;
  }
  some_kept (Some t) bad =
      let a = v.1 in
      let is_other : t ≡ other a.slot = bad_is sum P page a t page_told bad in
      subst (λ (u : Slot). AreKept sum P full (Some v) bytes (applied (slot_write P full u (slot_bytes 0 0)) bytes)) (sym is_other) (record {
        size = size_new sum P full a t bytes fits page_told bad;
        after = (
          held sum P full a t bytes fits page_told bad,
          here sum P full a t bytes fits page_told bad,
          active_new sum P full a t bytes fits page_told bad,
          after.3 ∙ ap (λ (l : List ℕ). take a.len l) page_same ∙ sym (begins a.len (active_is sum P page a page_told).fits),
          λ is. after.4 (ap (λ (l : List ℕ). value_len sum P l) page_same ∙ sym (same_len sum P full a t bytes fits page_told bad) ∙ is),
        );
        has = bytes_new sum P full a t bytes fits page_told bad;
        says = mended_text sum P full a t bytes fits page_told bad;
        front = front_new sum P full a t bytes fits page_told bad;
        good = mended_good sum P full a bytes fits page_told;
        beside = λ has. inr (emptied_slot sum P full a t bytes fits page_told bad);
      })
    where
      begins : (n : ℕ) → n ≤ P → take n (held sum P full v.1 t bytes fits page_told bad) ≡ take n page
      begins n few = take_same n P (held sum P full v.1 t bytes fits page_told bad) page few (same_payload sum P full v.1 t bytes fits page_told bad)

pub are_kept : (sum : List ℕ → ℕ) (P full : ℕ) (found : Option (List ℕ × ActiveChecksum)) (bytes : List ℕ) → length bytes ≡ (full + partial_pages found) * (P + 12) → After sum P (pages P bytes) full found
    → AreKept sum P full found bytes (emptied P full (bad_beside_value sum P (page_at P full bytes) found) bytes)
are_kept sum P full None bytes size after = record {
  size = refl;
  after = after;
  has = λ has. has;
  says = refl;
  front = refl;
  good = λ page is s. absurd (omega (arith, size, page_fits P full bytes page is));
  beside = λ has. tt;
}
are_kept sum P full (Some v) bytes size after = some_kept sum P full v bytes after (bad_slot sum P (page_at P full bytes)) refl

-- ---- the last page of some pages

-- a text has no more of the last page than its value
text_ends : (sum : List ℕ → ℕ) (P q : ℕ) (ps : List (List ℕ)) (page : List ℕ) → length ps ≤ suc q → slice_get ps q ≡ Some page → length (text_of_pages sum P ps) ≤ q * P + value_len sum P page
text_ends sum P q [] page few is = absurd (cc is)
text_ends sum P zero (p ∷ []) page few is =
    let same : p ≡ page = same_Some p page is in
    omega (arith, ap length (last_alone (value_len sum P p == P)), length-append (value sum P p) [], length-take (value_len sum P p) p, ap (value_len sum P) same)
  where
    last_alone : (b : Bool) → value sum P p ++ (if b then [] else []) ≡ value sum P p ++ []
    last_alone true = refl
    last_alone false = refl
text_ends sum P zero (p ∷ r ∷ rs) page few is = absurd (omega (arith, few))
text_ends sum P (suc q) (p ∷ ps) page few is =
    let rest = text_ends sum P q ps page (omega (arith, few)) is in
    omega (
      arith,
      length-append (value sum P p) (if value_len sum P p == P then text_of_pages sum P ps else []),
      length-take (value_len sum P p) p,
      value_len_le sum P p,
      at_most (value_len sum P p == P),
      rest,
    )
  where
    at_most : (b : Bool) → length (if b then text_of_pages sum P ps else []) ≤ length (text_of_pages sum P ps)
    at_most true = omega arith
    at_most false = omega arith

-- a page whose bad slot is to be emptied: the last of these bytes, and its value is partial
pub record Mending (sum : List ℕ → ℕ) (P page : ℕ) (t : Slot) (bytes : List ℕ) : Type 0 where
  pub value : ActiveChecksum
  pub size : length bytes ≡ (page + 1) * (P + 12)
  pub told : active sum P (page_at P page bytes) ≡ Some value
  pub bad : bad_slot sum P (page_at P page bytes) ≡ Some t
  pub part : value.len < P
  pub ends : length (text sum P bytes) ≤ page * P + value.len

mending_is : (sum : List ℕ → ℕ) (P full : ℕ) (found : Option (List ℕ × ActiveChecksum)) (t : Slot) (bytes : List ℕ) → length bytes ≡ (full + partial_pages found) * (P + 12) → After sum P (pages P bytes) full found
    → bad_beside_value sum P (page_at P full bytes) found ≡ Some t → Mending sum P full t bytes
mending_is sum P full None t bytes size after bad = absurd (cc bad)
mending_is sum P full (Some v) t bytes size after bad =
    let page_is_there : slice_get (pages P bytes) full ≡ Some (page_at P full bytes) = pages_at P full bytes (omega (arith, size)) in
    let told = page_told sum P full v bytes after in
    let is = active_is sum P (page_at P full bytes) v.1 told in
    let count : length (pages P bytes) ≡ full + 1 = ap length (pages_whole P (full + 1) bytes size) ∙ length-pieces (full + 1) (P + 12) bytes in
    record {
      value = v.1;
      size = size;
      told = told;
      bad = bad;
      part = less v.1.len (is.fits) (λ all. after.4 (ap (λ (l : List ℕ). value_len sum P l) (page_same sum P full v bytes after) ∙ sym is.len ∙ all));
      ends = omega (arith, text_ends sum P full (pages P bytes) (page_at P full bytes) (omega (arith, count)) page_is_there, is.len);
    }
  where
    less : (n : ℕ) → n ≤ P → n ≢ P → n < P
    less n few other = omega arith

-- ---- opening

-- the pages up to the last that has a value have what stands after them too
kept_after : (sum : List ℕ → ℕ) (P full : ℕ) (found : Option (List ℕ × ActiveChecksum)) (bytes : List ℕ) → (full + partial_pages found) * (P + 12) ≤ length bytes → After sum P (pages P bytes) full found
    → After sum P (pages P (take ((full + partial_pages found) * (P + 12)) bytes)) full found
kept_after sum P full None bytes reach after = λ page is. absurd (omega (arith, page_fits P full (take ((full + 0) * (P + 12)) bytes) page is, length-take-le ((full + 0) * (P + 12)) bytes reach))
kept_after sum P full (Some v) bytes reach after =
    let R = take ((full + 1) * (P + 12)) bytes in
    let shown = told_after sum P bytes R full v after refl in
    let same : after.0 ≡ page_at P full R = page_is P full bytes after.0 after.1 ∙ shown.same in (
      page_at P full R,
      pages_at P full R (omega (arith, shown.size)),
      shown.told,
      after.3 ∙ ap (λ (l : List ℕ). take v.1.len l) same,
      λ is. after.4 (ap (λ (l : List ℕ). value_len sum P l) same ∙ is),
    )

module _ (sum : List ℕ → ℕ) (P : ℕ) (bytes : List ℕ) where
  abbrev opened : Prefix
  opened = opened_prefix sum P bytes

  abbrev kept : List ℕ
  kept = take (opened_size sum P bytes) bytes

  reach : opened_size sum P bytes ≤ length bytes
  reach = pages_reach P (prefix_pages opened) bytes (last_is sum P (length bytes / (P + 12)) bytes).within

  kept_size : length kept ≡ opened_size sum P bytes
  kept_size = length-take-le (opened_size sum P bytes) bytes reach

  opened_after : After sum P (pages P bytes) opened.full_pages opened.partial
  opened_after = after_last sum P bytes (length bytes / (P + 12)) (omega arith) (λ m le lt. absurd (omega arith))

  pub kept_stands : After sum P (pages P kept) opened.full_pages opened.partial
  kept_stands = kept_after sum P opened.full_pages opened.partial bytes reach opened_after

  -- the bad slot is that of what is kept
  same_page : (found : Option (List ℕ × ActiveChecksum)) → (opened.full_pages + partial_pages found) * (P + 12) ≤ length bytes → bad_beside_value sum P (page_at P opened.full_pages bytes) found ≡ bad_beside_value sum P (page_at P opened.full_pages (take ((opened.full_pages + partial_pages found) * (P + 12)) bytes)) found
  same_page None within = refl
  same_page (Some v) within = ap (bad_slot sum P) (sym (within_take (P + 12) (opened.full_pages * (P + 12)) ((opened.full_pages + 1) * (P + 12)) bytes (omega arith)))

  same_bad : bad_in sum P bytes opened ≡ bad_beside_value sum P (page_at P opened.full_pages kept) opened.partial
  same_bad = same_page opened.partial reach

  kept_are : AreKept sum P opened.full_pages opened.partial kept (opened_bytes sum P bytes)
  kept_are = subst (λ (b : Option Slot). AreKept sum P opened.full_pages opened.partial kept (emptied P opened.full_pages b kept)) (sym same_bad)
      (are_kept sum P opened.full_pages opened.partial kept (kept_size) kept_stands)

  -- there are as many bytes as the kept pages have
  pub length-opened : length (opened_bytes sum P bytes) ≡ opened_size sum P bytes
  length-opened = kept_are.size ∙ kept_size

  -- what stands after the pages below the tip
  pub opened_stands : After sum P (pages P (opened_bytes sum P bytes)) opened.full_pages opened.partial
  opened_stands = kept_are.after

  has_kept : (found : Option (List ℕ × ActiveChecksum)) → HasBytes P opened.full_pages bytes found → HasBytes P opened.full_pages (take ((opened.full_pages + partial_pages found) * (P + 12)) bytes) found
  has_kept None has = tt
  has_kept (Some v) has = subst AreBytes (sym (within_take (P + 12) (opened.full_pages * (P + 12)) ((opened.full_pages + 1) * (P + 12)) bytes (omega arith))) has

  pub opened_has : HasBytes P opened.full_pages bytes opened.partial → HasBytes P opened.full_pages (opened_bytes sum P bytes) opened.partial
  opened_has has = kept_are.has (has_kept opened.partial has)

  -- the pages below the tip are as they were
  pub opened_full : AreFull sum P (take opened.full_pages (pages P bytes)) → AreFull sum P (take opened.full_pages (pages P (opened_bytes sum P bytes)))
  opened_full are =
      let n = opened.full_pages * (P + 12) in
      let less : n ≤ opened_size sum P bytes = below opened.partial in
      let front : take n bytes ≡ take n (opened_bytes sum P bytes) = sym (kept_are.front ∙ take-take n (opened_size sum P bytes) bytes less) in
      AreFull_same sum P opened.full_pages bytes (opened_bytes sum P bytes) (omega (arith, less, reach)) front are
    where
      below : (found : Option (List ℕ × ActiveChecksum)) → opened.full_pages * (P + 12) ≤ (opened.full_pages + partial_pages found) * (P + 12)
      below None = omega arith
      below (Some v) = omega arith

  -- no slot of the tip's page is bad
  pub opened_good : PageIsGood sum P opened.full_pages (opened_bytes sum P bytes)
  opened_good = kept_are.good

  pub opened_beside : HasBytes P opened.full_pages bytes opened.partial → BesideIsMended sum P opened.full_pages (opened_bytes sum P bytes) (slot_of_tip opened.partial)
  opened_beside has = kept_are.beside (has_kept opened.partial has)

  -- and the text stays as it was
  pub kept_says : 0 < P → text sum P kept ≡ text sum P bytes
  kept_says some = text_of_beginning sum P (opened_size sum P bytes) bytes some reach (first_size_le sum P bytes some)

  pub opened_says : 0 < P → text sum P (opened_bytes sum P bytes) ≡ text sum P bytes
  opened_says some = kept_are.says ∙ kept_says some

  -- where a slot is emptied
  pub opened_mending : (t : Slot) → bad_in sum P bytes opened ≡ Some t → Mending sum P opened.full_pages t kept
  opened_mending t bad = mending_is sum P opened.full_pages opened.partial t kept kept_size kept_stands (sym same_bad ∙ bad)

  -- with that slot emptied the bytes are others
  pub opened_changed : (t : Slot) → bad_in sum P bytes opened ≡ Some t → opened_bytes sum P bytes ≢ bytes
  opened_changed t bad = λ same.
      let m = opened_mending t bad in
      let all : kept ≡ bytes = take_all (opened_size sum P bytes) bytes (omega (arith, ap length same, length-opened)) in
      let slot : t ≡ other m.value.slot = bad_is sum P (page_at P opened.full_pages kept) m.value t m.told m.bad in
      let here : applied (slot_write P opened.full_pages (other m.value.slot) (slot_bytes 0 0)) kept ≡ kept =
      ap (λ (u : Slot). applied (slot_write P opened.full_pages u (slot_bytes 0 0)) kept) (sym slot) ∙ ap (λ (b : Option Slot). emptied P opened.full_pages b kept) (sym bad) ∙ same ∙ sym all in
      changed sum P opened.full_pages m.value t kept (omega (arith, m.size)) m.told m.bad here

  -- the slot's page is there, and its bytes are those of what is kept
  pub opened_there : (t : Slot) → bad_in sum P bytes opened ≡ Some t → (opened.full_pages + 1) * (P + 12) ≤ length bytes
  opened_there t bad = omega (arith, (opened_mending t bad).size, kept_size, reach)

  pub opened_page : (t : Slot) → bad_in sum P bytes opened ≡ Some t → page_at P opened.full_pages kept ≡ page_at P opened.full_pages bytes
  opened_page t bad = within_take (P + 12) (opened.full_pages * (P + 12)) (opened_size sum P bytes) bytes (omega (arith, (opened_mending t bad).size, kept_size))
