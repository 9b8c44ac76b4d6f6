-- What keeps a writer sound, so that a crash keeps what was synced: a flush, a sync, a read, a
-- longer tip, the durable slot brought up to date; and what makes a writer sound.
use Rattle.std.proofs.Common.{◌≡◌, inl, inr, ◌⊎◌, ℕ, zero, suc, ◌+◌, ◌-◌, ◌*◌, ◌^◌, ◌<◌, ◌≤◌, List, [], ◌∷◌, ◌++◌, length, take, drop, slice_get, refl, sym, ◌∙◌, ap, subst, arith, length-append, length-take, length-take-le, mul-le-mul_right}
use Rattle.std.specs.Prelude.{Option, Some, None, Bool, false}
use Rattle.std.proofs.lemmas.Bool.{cases_lt, cases_order}
use Rattle.std.proofs.lemmas.List.{append-nil, take_all, take_at}
use Rattle.disk.specs.Disk.{Disk, Operation, HasOperated, Request, Life, IsWhole, applied, coverings}
use Rattle.disk.specs.Disk.Operation.{Write}
use Rattle.page.specs.Slot.{slot_offset}
use Rattle.page.specs.Page.{pages, slot_bytes, verified_len, value_len, text, text_of_pages}
use Rattle.page.specs.declared.slot.Slot.{Slot}
use Rattle.page.specs.declared.slot.ActiveChecksum.{ActiveChecksum}
use Rattle.writer_state.specs.WriterState.{WriterState, after_write}
use Rattle.writer_state.specs.declared.sync_state.SyncState.{SyncState}
use Rattle.writer_state.specs.declared.sync_state.SyncState.TheVariants.{Clean, Dirty, Pending}
use Rattle.crash.specs.Full.{AreFull}
use Rattle.crash.specs.Distinct.{IsVouched, IsGoodFrom, PageIsGood}
use Rattle.crash.proofs.DistinctLaws.{flush_keeps_vouched, vouched_at_rest, vouched_alike, good_from_settles, good_from_alike, good_from_end}
use Rattle.crash.specs.Guard.{IsPinned, Guards, IsTruthful, TipGuard}
use Rattle.crash.specs.Built.{kept_len, built, durable_after, written_pages}
use Rattle.crash.specs.Kept.{AllKeep}
use Rattle.crash.specs.Stays.{Stays}
use Rattle.crash.specs.Looks.{SameButLog, Looked}
use Rattle.crash.specs.Contents.{latest, stored}
use Rattle.writer_state.specs.Sound.{content, HasTipPage, TipPage, StateFits, IsWrittenOut, guard_slot, StartsFit, IsRepeated, MayFlush, IsSafe, Consistency, IsConsistent, IsIntact, IsSound, Soundness, LeavesItsContent, CanWrite}
use Rattle.crash.proofs.Lists.{take_past, take_same}
use Rattle.crash.proofs.Pages.{length-stored, pages_at, page_fits, page_is, pages_fit, length-pages}
use Rattle.crash.proofs.Texts.{text_exact, text_full, text_of_part, text_part, value_at, value_len_le, verified_le_value, verified_len_le}
use Rattle.crash.proofs.BuiltLaws.{IsSmall, slot_len_of, slot_crc_of}
use Rattle.writer_state.proofs.FlushLaws.{tip_reach, flush_reach, pages_written, flush_content, operated_stands, settle_stands, state_stands, fits_alike, starts_alike, alike_content, longer_stands, longer_content, carry_stands, settled_stands, exact_stands, length-content, content_in_page, content_in_tip}
use Rattle.crash.proofs.Disks.{base_is_whole, fixed_at_rest, operated_base, operated_since, latest_is_whole}
use Rattle.crash.proofs.PageFacts.{page_begins, slot_at, slot_offset_le, own_beginning}
use Rattle.crash.proofs.Promise.{keeps_at_rest, keeps_less, keeps_same, guards_at_rest, guards_longer, guards_less, guards_alike, held_alike, part_of_beginning, SaysOnly, truthful_at_rest, truthful_alike, truthful_longer, only_content, whole_is_chance_free}
use Rattle.crash.proofs.Moments.{stays_itself, stays_alike, stays_settled, stays_guarded}
use Rattle.crash.proofs.Spared.{flush_keeps_full, held_through_flush, guards_with_tip, truthful_through_flush}

-- ---- what is written

module _ (sum : List ℕ → ℕ) (P full : ℕ) (tip readable : List ℕ) where
  -- the text of what is readable: the pages below the tip, and what was written of the tip
  pub written_text : (flushed : Option ActiveChecksum) → AreFull sum P (take full (pages P readable)) → TipPage sum P full tip readable flushed → text sum P readable ≡ stored P full readable ++ take (kept_len flushed) tip
  written_text None are is = text_exact sum P full readable are is ∙ sym (append-nil (stored P full readable))
  written_text (Some f) are is =
      text_of_part sum P full readable are (omega (arith, is.size)) (omega (arith, is.value, is.part))
      ∙ ap (λ (l : List ℕ). stored P full readable ++ l) (value_at sum P full readable ∙ ap (λ (n : ℕ). take n (drop (full * (P + 12)) readable)) is.value ∙ is.begins)

  -- the slot of the tip's page has no more bytes than the tip
  pub kept_in_tip : (flushed : Option ActiveChecksum) → TipPage sum P full tip readable flushed → kept_len flushed ≤ length tip
  kept_in_tip None is = omega arith
  kept_in_tip (Some f) is = is.there

-- ---- at rest

module _ (sum : List ℕ → ℕ) (w : WriterState) (readable : List ℕ) (full : AreFull sum w.page_size (take w.full_pages (pages w.page_size readable)))
    (tip_page : TipPage sum w.page_size w.full_pages w.tip readable w.flushed) where
  reach : w.full_pages * (w.page_size + 12) ≤ length readable
  reach = (tip_reach sum w.page_size w.full_pages w.tip readable w.flushed tip_page).0

  -- how long the text of what is readable is
  pub length-written_text : length (text sum w.page_size readable) ≡ w.full_pages * w.page_size + kept_len w.flushed
  length-written_text =
      let kept = kept_in_tip sum w.page_size w.full_pages w.tip readable w.flushed tip_page in
      ap length (written_text sum w.page_size w.full_pages w.tip readable w.flushed full tip_page)
      ∙ (let e : length (stored w.page_size w.full_pages readable ++ take (kept_len w.flushed) w.tip) ≡ w.full_pages * w.page_size + kept_len w.flushed =
      omega (arith, length-append (stored w.page_size w.full_pages readable) (take (kept_len w.flushed) w.tip), length-take (kept_len w.flushed) w.tip, length-stored w.page_size w.full_pages readable reach) in e)

  -- the text of what is readable is a beginning of the content
  pub text_begins_content : text sum w.page_size readable ≡ take (length (text sum w.page_size readable)) (content w readable)
  text_begins_content =
      let n = kept_len w.flushed in
      let front = stored w.page_size w.full_pages readable in
      let size : length front ≡ w.full_pages * w.page_size = length-stored w.page_size w.full_pages readable reach in
      written_text sum w.page_size w.full_pages w.tip readable w.flushed full tip_page
      ∙ ap (λ (k : ℕ). front ++ take k w.tip) (let e : n ≡ length (text sum w.page_size readable) - length front = omega (arith, length-written_text, size) in e)
      ∙ sym (take_past (length (text sum w.page_size readable)) front w.tip (omega (arith, length-written_text, size)))

-- each slot of the tip's page that verifies does so over bytes of the tip
tip_says : (sum : List ℕ → ℕ) (P full : ℕ) (tip readable page : List ℕ) (flushed : Option ActiveChecksum) (s : Slot) → TipPage sum P full tip readable flushed → slice_get (pages P readable) full ≡ Some page
    → take (verified_len sum P s page) page ≡ take (verified_len sum P s page) tip
tip_says sum P full tip readable page None s is there = absurd (omega (arith, page_fits P full readable page there))
tip_says sum P full tip readable page (Some f) s is there =
    let n = verified_len sum P s page in
    let same : take (P + 12) (drop (full * (P + 12)) readable) ≡ page = sym (page_is P full readable page there) in
    let few : n ≤ f.len = omega (arith, verified_le_value sum P s page, ap (λ (l : List ℕ). value_len sum P l) same, is.value) in
    page_begins P full n readable page there (omega (arith, verified_len_le sum P s page))
    ∙ take_same n f.len (drop (full * (P + 12)) readable) tip few is.begins

-- each slot of what is readable that verifies does so over bytes of the content
pub says_written : (sum : List ℕ → ℕ) (w : WriterState) (readable : List ℕ) → TipPage sum w.page_size w.full_pages w.tip readable w.flushed → SaysOnly sum w.page_size (content w readable) readable
says_written sum w readable tip_page p page is s =
    let P = w.page_size in
    let n = verified_len sum P s page in
    let ends = tip_reach sum P w.full_pages w.tip readable w.flushed tip_page in
    let fits : n ≤ P = verified_len_le sum P s page in
    elim (cases_order p w.full_pages) [
      | inl same ↦
          let offset : drop (p * P) (content w readable) ≡ w.tip =
          ap (λ (k : ℕ). drop k (content w readable)) (let e : p * P ≡ w.full_pages * P + 0 = omega (arith, ap (λ (k : ℕ). k * P) same) in e) ∙ content_in_tip w readable ends.0 0 in
          tip_says sum P w.full_pages w.tip readable page w.flushed s tip_page (ap (λ (k : ℕ). slice_get (pages P readable) k) (sym same) ∙ is)
          ∙ ap (λ (l : List ℕ). take n l) (sym offset)
      | inr (inl below) ↦
          let e : p * P + 0 ≡ p * P = omega arith in
          let f : p * (P + 12) + 0 ≡ p * (P + 12) = omega arith in
          page_begins P p n readable page is (omega arith)
          ∙ ap (λ (k : ℕ). take n (drop k readable)) (sym f)
          ∙ sym (content_in_page w readable ends.0 p 0 n below (omega arith))
          ∙ ap (λ (k : ℕ). take n (drop k (content w readable))) e
      | inr (inr after) ↦
          let past : suc w.full_pages * (P + 12) ≤ p * (P + 12) = mul-le-mul_right (P + 12) after in
          absurd (omega (arith, page_fits P p readable page is))
    ]

-- with nothing unsynced the slot that was flushed last is pinned
held_at_rest : (sum : List ℕ → ℕ) (P full : ℕ) (tip : List ℕ) (f : ActiveChecksum) (d : Disk) → IsSmall sum → P < 2 ^ 16 → d.since ≡ [] → HasTipPage sum P full tip d.base f → IsPinned sum P d full f.slot (slot_bytes f.len f.crc) (take f.len tip)
held_at_rest sum P full tip f d small small_page since is =
    let as_long : length (take f.len tip) ≡ f.len = length-take-le f.len tip is.there in
    let page = take (P + 12) (drop (full * (P + 12)) d.base) in
    let there : slice_get (pages P d.base) full ≡ Some page = pages_at P full d.base (omega (arith, is.size)) in
    record {
      some = omega (arith, as_long, is.some);
      fits = omega (arith, as_long, is.part);
      payload = fixed_at_rest d (full * (P + 12)) (take f.len tip) since (omega (arith, as_long, is.part, is.size))
          (ap (λ (n : ℕ). take n (drop (full * (P + 12)) d.base)) as_long ∙ is.begins);
      is_slot = record {
        size = refl;
        len = slot_len_of f.len f.crc (omega (arith, is.part)) ∙ sym as_long;
        crc = slot_crc_of f.len f.crc (omega (arith, is.crc, small (take f.len tip))) ∙ is.crc;
      };
      fixed_slot = fixed_at_rest d (full * (P + 12) + P + slot_offset f.slot) (slot_bytes f.len f.crc) since (omega (arith, slot_offset_le f.slot, is.size))
          (sym (slot_at P full f.slot d.base page there) ∙ is.slot);
      end = fixed_at_rest d ((full + 1) * (P + 12)) [] since (omega (arith, is.size)) refl;
    }

-- with nothing unsynced the slot that was flushed last is guarded, if there is one
guard_at_rest : (sum : List ℕ → ℕ) (P full : ℕ) (tip content : List ℕ) (flushed : Option ActiveChecksum) (d : Disk) → IsSmall sum → P < 2 ^ 16 → d.since ≡ [] → TipPage sum P full tip d.base flushed
    → drop (full * P) content ≡ tip → full * P + length tip ≤ length content → TipGuard sum P content d full flushed
guard_at_rest sum P full tip content None d small small_page since is after long = tt
guard_at_rest sum P full tip content (Some f) d small small_page since is after long = record {
  there = omega (arith, is.there);
  held = subst (λ (l : List ℕ). IsPinned sum P d full f.slot (slot_bytes f.len f.crc) (take f.len l)) (sym after) (held_at_rest sum P full tip f d small small_page since is);
}

-- where a text goes past so many full pages, these are full
long_text_full : (sum : List ℕ → ℕ) (P k : ℕ) (ps : List (List ℕ)) → k * P < length (text_of_pages sum P ps) → AreFull sum P (take k ps)
long_text_full sum P zero ps long = tt
long_text_full sum P (suc k) [] long = tt
long_text_full sum P (suc k) (page ∷ rest) long =
    let fits : value_len sum P page ≤ P = value_len_le sum P page in
    elim (cases_lt (value_len sum P page) P) [
      | inl part ↦
          let short : length (text_of_pages sum P (page ∷ rest)) ≤ value_len sum P page = omega (arith, ap length (text_part sum P page rest part), length-take (value_len sum P page) page) in
          absurd (omega (arith, long, short, part))
      | inr enough ↦
          let full : value_len sum P page ≡ P = omega (arith, enough, fits) in
          let size : length (text_of_pages sum P (page ∷ rest)) ≤ P + length (text_of_pages sum P rest) =
          omega (arith, ap length (text_full sum P page rest full), length-append (take P page) (text_of_pages sum P rest), length-take P page) in
          (full, long_text_full sum P k rest (omega (arith, long, size)))
    ]

module _ (sum : List ℕ → ℕ) (w : WriterState) (d : Disk) (since : d.since ≡ []) (base : d.base ≡ d.readable)
    (tip_page : TipPage sum w.page_size w.full_pages w.tip d.readable w.flushed) where
  reaches : w.full_pages * (w.page_size + 12) ≤ length d.readable
  reaches = (tip_reach sum w.page_size w.full_pages w.tip d.readable w.flushed tip_page).0

  -- with nothing unsynced each slot of a whole state that verifies does so over bytes of the
  -- content
  truthful_written : IsTruthful sum w.page_size (content w d.readable) d
  truthful_written =
      truthful_at_rest sum w.page_size (content w d.readable) d since (subst (λ (l : List ℕ). SaysOnly sum w.page_size (content w d.readable) l) (sym base) (says_written sum w d.readable tip_page))

  -- so the text of the base is a beginning of the content
  text_begins : text sum w.page_size d.base ≡ take (length (text sum w.page_size d.base)) (content w d.readable)
  text_begins = only_content sum w.page_size (content w d.readable) d d.base truthful_written (whole_is_chance_free sum w.page_size d d.base (base_is_whole d.base d.since))

  -- the text of the base is guarded
  guards_text : 0 < w.page_size → Guards sum w.page_size (content w d.readable) (length (text sum w.page_size d.base)) d
  guards_text some =
      let told = text sum w.page_size d.base in
      guards_longer sum w.page_size told (content w d.readable) (length told) d text_begins (guards_at_rest sum w.page_size d some since)

  -- the slot of the tip's page that was flushed last is guarded
  guard_written : IsSmall sum → w.page_size < 2 ^ 16 → TipGuard sum w.page_size (content w d.readable) d w.full_pages w.flushed
  guard_written small small_page =
      let P = w.page_size in
      let start : w.full_pages * P + 0 ≡ w.full_pages * P = omega arith in
      let after : drop (w.full_pages * P) (content w d.readable) ≡ w.tip = ap (λ (k : ℕ). drop k (content w d.readable)) (sym start) ∙ content_in_tip w d.readable reaches 0 in
      guard_at_rest sum P w.full_pages w.tip (content w d.readable) w.flushed d small small_page since
      (subst (λ (l : List ℕ). TipPage sum P w.full_pages w.tip l w.flushed) (sym base) tip_page) after (omega (arith, length-content w d.readable reaches))

  -- so a crash keeps the text of the base
  safe_at_rest : 0 < w.page_size → TipGuard sum w.page_size (content w d.readable) d w.full_pages w.flushed → IsRepeated w.sync w.flushed w.durable w.flushed → IsSafe sum w (content w d.readable) d
  safe_at_rest some guard repeats =
      let P = w.page_size in
      let told = text sum P d.base in
      elim (cases_lt (w.full_pages * P) (length told)) [
        | inl past ↦
            let same : told ≡ text sum P d.readable = ap (λ (l : List ℕ). text sum P l) base in
            let full : IsIntact sum w d = long_text_full sum P w.full_pages (pages P d.readable) (omega (arith, past, ap length same)) in
            record {
              floor = w.full_pages * P;
              tip = w.flushed;
              there = omega (arith, length-content w d.readable reaches);
              pages = guards_less sum P (content w d.readable) (length told) (w.full_pages * P) d (omega (arith, past)) (guards_text some);
              guard = guard;
              base = omega (arith, ap length same, length-written_text sum w d.readable full tip_page);
              position = inr (refl, repeats);
            }
        | inr within ↦
            record {
              floor = length told;
              tip = None;
              there = omega (arith, ap length text_begins, length-take (length told) (content w d.readable));
              pages = guards_text some;
              guard = tt;
              base = omega arith;
              position = inl (within, refl);
            }
      ]

-- ---- what is safe

-- the tip's page is guarded together with the pages before it
tip_guards : (sum : List ℕ → ℕ) (P : ℕ) (content : List ℕ) (d : Disk) (full : ℕ) (tip : Option ActiveChecksum) → full * P ≤ length content → Guards sum P content (full * P) d → TipGuard sum P content d full tip
    → (full * P + kept_len tip ≤ length content) × Guards sum P content (full * P + kept_len tip) d
tip_guards sum P content d full None there guards guard = (omega arith, guards_less sum P content (full * P) (full * P + 0) d (omega arith) guards)
tip_guards sum P content d full (Some f) there guards guard = (guard.there, guards_with_tip sum P full content f.len d f.slot (slot_bytes f.len f.crc) guard.there guards guard.held)

-- all that is safe is guarded
pub safe_guards : (sum : List ℕ → ℕ) (w : WriterState) (content : List ℕ) (d : Disk) (safe : IsSafe sum w content d)
    → (safe.floor + kept_len safe.tip ≤ length content) × Guards sum w.page_size content (safe.floor + kept_len safe.tip) d
safe_guards sum w content d safe =
    let P = w.page_size in
    elim safe.position [
      | inl below ↦
          let none : kept_len safe.tip ≡ 0 = ap kept_len below.1 in
          (omega (arith, safe.there, none), guards_less sum P content safe.floor (safe.floor + kept_len safe.tip) d (omega (arith, none)) safe.pages)
      | inr here ↦
          subst (λ (n : ℕ). (n + kept_len safe.tip ≤ length content) × Guards sum P content (n + kept_len safe.tip) d) (sym here.0)
          (tip_guards sum P content d w.full_pages safe.tip (omega (arith, safe.there, here.0)) (subst (λ (n : ℕ). Guards sum P content n d) here.0 safe.pages) safe.guard)
    ]

-- `Stays` holds where no more was durable, and each slot of a whole state verifies over bytes of
-- the content, if it verifies
pub safe_stays : (sum : List ℕ → ℕ) (w : WriterState) (content : List ℕ) (d e : Disk) → e.base ≡ d.base → IsSafe sum w content e → IsTruthful sum w.page_size content e → IsVouched sum w.page_size e → Stays sum w.page_size content d e
safe_stays sum w content d e base safe truthful vouched =
    let P = w.page_size in
    let guarded = safe_guards sum w content e safe in
    stays_guarded sum P content (safe.floor + kept_len safe.tip) d e (omega (arith, safe.base, ap (λ (l : List ℕ). length (text sum P l)) base)) guarded.1 truthful vouched

-- a slot that is guarded is guarded for a longer content
guard_longer : (sum : List ℕ → ℕ) (P : ℕ) (content longer : List ℕ) (d : Disk) (full : ℕ) (tip : Option ActiveChecksum) → content ≡ take (length content) longer → TipGuard sum P content d full tip → TipGuard sum P longer d full tip
guard_longer sum P content longer d full None begins guard = tt
guard_longer sum P content longer d full (Some f) begins guard = record {
  there = omega (arith, guard.there, ap length begins, length-take (length content) longer);
  held = subst (λ (l : List ℕ). IsPinned sum P d full f.slot (slot_bytes f.len f.crc) l) (part_of_beginning f.len (full * P) content longer begins guard.there) guard.held;
}

-- a slot that is guarded is guarded on a disk with the same base and operations
guard_alike : (sum : List ℕ → ℕ) (P : ℕ) (content : List ℕ) (d e : Disk) (full : ℕ) (tip : Option ActiveChecksum) → e.base ≡ d.base → e.since ≡ d.since → TipGuard sum P content d full tip → TipGuard sum P content e full tip
guard_alike sum P content d e full None base since guard = tt
guard_alike sum P content d e full (Some f) base since guard = record {
  there = guard.there;
  held = held_alike sum P d e full f.slot (slot_bytes f.len f.crc) (take f.len (drop (full * P) content)) base since guard.held;
}

-- a slot that is guarded is guarded after a flush that repeats it
guard_repeated : (sum : List ℕ → ℕ) (P : ℕ) (content : List ℕ) (d e : Disk) (full m : ℕ) (rest : List ℕ) (tip : Option ActiveChecksum) → e.base ≡ d.base → e.since ≡ d.since ++ Write (full * (P + 12)) (built sum P tip m rest) ∷ []
    → drop (full * P) content ≡ rest → TipGuard sum P content d full tip → TipGuard sum P content e full tip
guard_repeated sum P content d e full m rest None base since after guard = tt
guard_repeated sum P content d e full m rest (Some f) base since after guard =
    let bytes = take f.len (drop (full * P) content) in
    record {
      there = guard.there;
      held = held_through_flush sum P full d e f m rest bytes base since (own_beginning f.len bytes rest (ap (λ (l : List ℕ). take f.len l) after)) guard.held;
    }

-- ---- a flush

-- where a flush may begin the slot that it is to repeat is the durable one
repeated_is : (s : SyncState) (flushed durable tip : Option ActiveChecksum) → MayFlush s flushed durable → IsRepeated s flushed durable tip → tip ≡ durable
repeated_is Clean flushed durable tip ready is = is ∙ sym ready
repeated_is Dirty flushed durable tip ready is = is
repeated_is (Pending name) flushed durable tip ready is = absurd ready

-- after a flush of full pages the old tip's page is below the tip; else the durable slot is the
-- same
offset_after : (full k : ℕ) (durable : Option ActiveChecksum) → (full < full + k) ⊎ ((full ≡ full + k) × (durable ≡ durable_after durable k))
offset_after full zero durable = inr (omega arith, refl)
offset_after full (suc k) durable = inl (omega arith)

module _ (sum : List ℕ → ℕ) (w : WriterState) (d e : Disk) (k : ℕ) (rest : Bool) (bytes : List ℕ) (small : IsSmall sum) (sound : Consistency sum w d) (ready : MayFlush w.sync w.flushed w.durable)
    (can : CanWrite w.page_size w.tip k rest) (is : bytes ≡ built sum w.page_size w.durable (written_pages k rest) w.tip) where
  after : drop (w.full_pages * w.page_size) (content w d.readable) ≡ w.tip
  after =
      let start : w.full_pages * w.page_size + 0 ≡ w.full_pages * w.page_size = omega arith in
      ap (λ (n : ℕ). drop n (content w d.readable)) (sym start)
      ∙ content_in_tip w d.readable (tip_reach sum w.page_size w.full_pages w.tip d.readable w.flushed sound.stands.tip_page).0 0

  -- what was safe is safe after a flush, done or failed
  pub flush_safe : e.base ≡ d.base → e.since ≡ d.since ++ Write (w.full_pages * (w.page_size + 12)) bytes ∷ [] → IsSafe sum (after_write sum w k rest) (content w d.readable) e
  flush_safe base since =
      let P = w.page_size in
      let q = w.full_pages in
      let all = content w d.readable in
      let safe = sound.safe in
      let few : safe.floor ≤ q * P = elim safe.position [
        | inl below ↦ below.0
        | inr here ↦ omega (arith, here.0)
      ] in
      let kept : Guards sum P all safe.floor e = flush_keeps_full sum P q all safe.floor d e bytes base since few safe.pages in
      let text_base : length (text sum P e.base) ≤ safe.floor + kept_len safe.tip = omega (arith, safe.base, ap (λ (l : List ℕ). length (text sum P l)) base) in
      let more : q * P ≤ (q + k) * P = mul-le-mul_right P (let le : q ≤ q + k = omega arith in le) in
      elim safe.position [
        | inl below ↦
            record {
              floor = safe.floor;
              tip = None;
              there = safe.there;
              pages = kept;
              guard = tt;
              base = omega (arith, text_base, ap kept_len below.1);
              position = inl (omega (arith, few, more), refl);
            }
        | inr here ↦
            let repeated : safe.tip ≡ w.durable = repeated_is w.sync w.flushed w.durable safe.tip ready here.1 in
            let front : Guards sum P all (q * P) e = subst (λ (n : ℕ). Guards sum P all n e) here.0 kept in
            let there : q * P ≤ length all = omega (arith, safe.there, here.0) in
            let guard : TipGuard sum P all e q w.durable = guard_repeated sum P all d e q (written_pages k rest) w.tip w.durable base (since ∙ ap (λ (l : List ℕ). d.since ++ Write (q * (P + 12)) l ∷ []) is) after
            (subst (λ (f : Option ActiveChecksum). TipGuard sum P all d q f) repeated safe.guard) in
            elim (offset_after q k w.durable) [
              | inl less ↦
                  let held = tip_guards sum P all e q w.durable there front guard in
                  let next : (q + 1) * P ≤ (q + k) * P = mul-le-mul_right P (let le : q + 1 ≤ q + k = omega (arith, less) in le) in
                  record {
                    floor = q * P + kept_len w.durable;
                    tip = None;
                    there = held.0;
                    pages = held.1;
                    guard = tt;
                    base = omega (arith, text_base, here.0, ap kept_len repeated);
                    position = inl (omega (arith, next, sound.stands.carries.0), refl);
                  }
              | inr same ↦
                  record {
                    floor = q * P;
                    tip = w.durable;
                    there = there;
                    pages = front;
                    guard = subst (λ (n : ℕ). TipGuard sum P all e n w.durable) same.0 guard;
                    base = omega (arith, text_base, here.0, ap kept_len repeated);
                    position = inr (ap (λ (n : ℕ). n * P) same.0, same.1);
                  }
            ]
      ]

  -- after a flush, done or failed, each slot of a whole state that verifies does so over bytes of
  -- the content
  pub flush_truthful : e.base ≡ d.base → e.since ≡ d.since ++ Write (w.full_pages * (w.page_size + 12)) bytes ∷ [] → IsTruthful sum w.page_size (content w d.readable) e
  flush_truthful base since =
      let P = w.page_size in
      let q = w.full_pages in
      let m = written_pages k rest in
      let old = latest d.base d.since in
      let reach = subst (λ (l : List ℕ). (q * (P + 12) ≤ length l) × (length l ≤ (q + m) * (P + 12))) sound.stands.done (flush_reach sum P q k w.tip d.readable w.flushed rest sound.stands.tip_page can) in
      truthful_through_flush sum P q (content w d.readable) d e w.durable m w.tip bytes sound.stands.small sound.stands.carries.0 sound.stands.carries.1 base since after
      (omega (arith, pages_fit P q old reach.0, length-pages P old))
      (ap (λ (l : List ℕ). pages P (applied (Write (q * (P + 12)) l) old)) is ∙ pages_written sum P q m w.durable w.tip old reach.0 reach.1)
      sound.truthful

  -- a disk that is vouched for stays so through a flush, done or failed
  pub flush_vouches : e.base ≡ d.base → e.since ≡ d.since ++ Write (w.full_pages * (w.page_size + 12)) bytes ∷ [] → IsVouched sum w.page_size e × IsGoodFrom sum w.page_size (w.full_pages + k) e
  flush_vouches base since =
      let P = w.page_size in
      let q = w.full_pages in
      let m = written_pages k rest in
      let old = latest d.base d.since in
      let reach = subst (λ (l : List ℕ). (q * (P + 12) ≤ length l) × (length l ≤ (q + m) * (P + 12))) sound.stands.done (flush_reach sum P q k w.tip d.readable w.flushed rest sound.stands.tip_page can) in
      flush_keeps_vouched sum P q (q + k) d e w.durable m w.tip bytes small sound.stands.small sound.stands.carries.0 sound.stands.carries.1 sound.stands.carries.2 (omega arith) base since reach.0
      (omega (arith, pages_fit P q old reach.0, length-pages P old))
      (ap (λ (l : List ℕ). pages P (applied (Write (q * (P + 12)) l) old)) is ∙ pages_written sum P q m w.durable w.tip old reach.0 reach.1)
      sound.good sound.vouched

  -- a flush that is done leaves a consistent writer
  pub operated_consistent : (request : Request) → HasOperated (Write (w.full_pages * (w.page_size + 12)) bytes) request false d e → Consistency sum (after_write sum w k rest) e
  operated_consistent request done =
      let o : Operation = Write (w.full_pages * (w.page_size + 12)) bytes in
      let base = operated_base o request false d e done in
      let since = operated_since o request false d e done in
      let readable = done.done refl in
      let same : content w d.readable ≡ content (after_write sum w k rest) e.readable = sym (flush_content sum w d e k rest bytes small sound.stands can is readable) in
      record {
        stands = operated_stands sum w d e k rest bytes small sound.stands can is readable request ready done;
        safe = subst (λ (l : List ℕ). IsSafe sum (after_write sum w k rest) l e) same (flush_safe base since);
        truthful = subst (λ (l : List ℕ). IsTruthful sum w.page_size l e) same (flush_truthful base since);
        vouched = (flush_vouches base since).0;
        good = (flush_vouches base since).1;
      }

  -- `Stays` holds after a flush, done or failed
  pub operated_stays : (request : Request) (failed : Bool) → HasOperated (Write (w.full_pages * (w.page_size + 12)) bytes) request failed d e → Stays sum w.page_size (content w d.readable) d e
  operated_stays request failed operated =
      let o : Operation = Write (w.full_pages * (w.page_size + 12)) bytes in
      let base = operated_base o request failed d e operated in
      let since = operated_since o request failed d e operated in
      safe_stays sum (after_write sum w k rest) (content w d.readable) d e base (flush_safe base since) (flush_truthful base since) (flush_vouches base since).0

  -- `Stays` holds after a flush that is made durable
  pub operated_settle_stays : (request : Request) (f : Disk) → HasOperated (Write (w.full_pages * (w.page_size + 12)) bytes) request false d e → f.base ≡ e.readable → f.since ≡ [] → Stays sum w.page_size (content w d.readable) d f
  operated_settle_stays request f done base since =
      stays_settled sum w.page_size (content w d.readable) d e f (base ∙ (operated_consistent request done).stands.done) since (operated_stays request false done)

-- ---- the same bytes in another state

-- pages that are full stay so
pub intact_still : (sum : List ℕ → ℕ) (w : WriterState) (d e : Disk) → e.readable ≡ d.readable → IsIntact sum w d → IsIntact sum w e
intact_still sum w d e same full = subst (λ (l : List ℕ). AreFull sum w.page_size (take w.full_pages (pages w.page_size l))) (sym same) full

module _ (sum : List ℕ → ℕ) (w : WriterState) (d e : Disk) (sound : Consistency sum w d) (same : e.readable ≡ d.readable) where
  -- a sync that is done leaves a clean, consistent writer
  pub settle_consistent : (s : SyncState) → IsSmall sum → e.base ≡ d.readable → e.since ≡ [] → StartsFit e s → IsRepeated s w.flushed w.durable w.flushed → Consistency sum (record w { sync = s }) e
  settle_consistent s small base since starts repeats =
      let stands = settle_stands sum w d e sound.stands same s base since starts in
      let at_rest : e.base ≡ e.readable = base ∙ sym same in
      record {
        stands = stands;
        safe = safe_at_rest sum (record w { sync = s }) e since at_rest stands.tip_page stands.some
            (guard_written sum (record w { sync = s }) e since at_rest stands.tip_page small stands.small) repeats;
        truthful = truthful_written sum (record w { sync = s }) e since at_rest stands.tip_page;
        vouched = vouched_at_rest sum w.page_size e since;
        good = good_from_settles sum w.page_size w.full_pages d e (subst (λ (l : List ℕ). IsWhole d.base d.since l) (sym (base ∙ sound.stands.done)) (latest_is_whole d.base d.since)) since sound.good;
      }

  -- `Stays` holds after a sync that is done
  pub settle_stays : e.base ≡ d.readable → e.since ≡ [] → Stays sum w.page_size (content w d.readable) d e
  settle_stays base since =
      stays_settled sum w.page_size (content w d.readable) d d e (base ∙ sound.stands.done) since (stays_itself sum w.page_size (content w d.readable) d sound.truthful sound.vouched)

  -- a writer is as consistent over a disk with the same bytes, base and operations, in any state
  -- that fits the disk and lets no other slot be repeated
  pub same_bytes_consistent : (s : SyncState) → e.base ≡ d.base → e.since ≡ d.since → StateFits e s → StartsFit e s
      → ((tip : Option ActiveChecksum) → IsRepeated w.sync w.flushed w.durable tip → IsRepeated s w.flushed w.durable tip) → Consistency sum (record w { sync = s }) e
  same_bytes_consistent s base since fits starts repeated =
      let safe = sound.safe in
      let now : content w d.readable ≡ content w e.readable = sym (alike_content sum w d e sound.stands same) in
      record {
        stands = state_stands sum w d e sound.stands same s (same ∙ sound.stands.done ∙ sym (cc (base, since))) fits starts;
        safe = subst (λ (l : List ℕ). IsSafe sum (record w { sync = s }) l e) now (record {
          floor = safe.floor;
          tip = safe.tip;
          there = safe.there;
          pages = guards_alike sum w.page_size (content w d.readable) safe.floor d e base since safe.pages;
          guard = guard_alike sum w.page_size (content w d.readable) d e w.full_pages safe.tip base since safe.guard;
          base = omega (arith, safe.base, ap (λ (l : List ℕ). length (text sum w.page_size l)) base);
          position = elim safe.position [
            | inl below ↦ inl below
            | inr here ↦ inr (here.0, repeated safe.tip here.1)
          ];
        });
        truthful = subst (λ (l : List ℕ). IsTruthful sum w.page_size l e) now (truthful_alike sum w.page_size (content w d.readable) d e base since sound.truthful);
        vouched = vouched_alike sum w.page_size d e base since sound.vouched;
        good = good_from_alike sum w.page_size w.full_pages d e base since sound.good;
      }

  -- so a writer is as consistent after a read
  pub alike_consistent : e.base ≡ d.base → e.since ≡ d.since → coverings e ≡ coverings d → e.settled ≡ d.settled → Consistency sum w e
  alike_consistent base since covers settled =
      same_bytes_consistent w.sync base since (fits_alike d e w.sync same base since sound.stands.state) (starts_alike d e w.sync same since covers settled sound.stands.starts) (λ tip is. is)

  -- `Stays` holds after a read
  pub alike_stays : e.base ≡ d.base → e.since ≡ d.since → Stays sum w.page_size (content w d.readable) d e
  alike_stays base since = stays_alike sum w.page_size (content w d.readable) d d e base since (stays_itself sum w.page_size (content w d.readable) d sound.truthful sound.vouched)

-- ---- what a crash keeps

module _ (sum : List ℕ → ℕ) (w : WriterState) (d : Disk) (sound : Consistency sum w d) (full : IsIntact sum w d) (clean : w.sync ≡ Clean) where
  at_rest : (d.since ≡ []) × (d.base ≡ d.readable)
  at_rest = subst (λ (s : SyncState). StateFits d s) clean sound.stands.state

  -- a crash keeps what is written of a clean writer's content
  pub clean_keeps : AllKeep sum w.page_size (content w d.readable) (w.full_pages * w.page_size + kept_len w.flushed) d
  clean_keeps =
      let written = length-written_text sum w d.readable full sound.stands.tip_page in
      let begins = text_begins_content sum w d.readable full sound.stands.tip_page in
      let n = w.full_pages * w.page_size + kept_len w.flushed in
      let told = text sum w.page_size d.readable in
      let all : AllKeep sum w.page_size told (length told) d = subst (λ (l : List ℕ). AllKeep sum w.page_size (text sum w.page_size l) (length (text sum w.page_size l)) d) at_rest.1 (keeps_at_rest sum w.page_size d at_rest.0) in
      keeps_same sum w.page_size told (content w d.readable) n d (take_all n told (omega (arith, written)) ∙ begins ∙ ap (λ (k : ℕ). take k (content w d.readable)) written)
      (keeps_less sum w.page_size told (length told) n d (omega (arith, written)) all)

  -- where all of the tip is written, a crash keeps the whole content
  pub settle_keeps : kept_len w.flushed ≡ length w.tip → AllKeep sum w.page_size (content w d.readable) (length (content w d.readable)) d
  settle_keeps all =
      let reach = (tip_reach sum w.page_size w.full_pages w.tip d.readable w.flushed sound.stands.tip_page).0 in
      let size : w.full_pages * w.page_size + kept_len w.flushed ≡ length (content w d.readable) = omega (arith, all, length-content w d.readable reach) in
      subst (λ (n : ℕ). AllKeep sum w.page_size (content w d.readable) n d) size clean_keeps

-- ---- a writer that knows more

-- a slot that is up to date stays so
repeated_again : (s : SyncState) (flushed durable tip : Option ActiveChecksum) → IsRepeated s flushed durable tip → IsRepeated s flushed (guard_slot s flushed durable) tip
repeated_again Clean flushed durable tip is = is
repeated_again Dirty flushed durable tip is = is
repeated_again (Pending name) flushed durable tip is = tt

-- a writer whose durable slot is brought up to date fits what is readable
carried_stands : (sum : List ℕ → ℕ) (w : WriterState) (d : Disk) (s : SyncState) → IsWrittenOut sum w d → IsWrittenOut sum (record w { durable = guard_slot s w.flushed w.durable }) d
carried_stands sum w d Clean stands = carry_stands sum w d stands
carried_stands sum w d Dirty stands = stands
carried_stands sum w d (Pending name) stands = stands

module _ (sum : List ℕ → ℕ) (w : WriterState) (d : Disk) (sound : Consistency sum w d) where
  -- a writer with a longer tip is as consistent
  pub longer_consistent : (more : List ℕ) → Consistency sum (record w { tip = w.tip ++ more }) d
  longer_consistent more =
      let P = w.page_size in
      let all = content w d.readable in
      let safe = sound.safe in
      let now : all ++ more ≡ content (record w { tip = w.tip ++ more }) d.readable = sym (longer_content sum w d sound.stands more) in
      let begins : all ≡ take (length all) (all ++ more) = sym (take_at all more (length all) refl) in
      record {
        stands = longer_stands sum w d sound.stands more;
        safe = subst (λ (l : List ℕ). IsSafe sum (record w { tip = w.tip ++ more }) l d) now (record {
          floor = safe.floor;
          tip = safe.tip;
          there = omega (arith, safe.there, length-append all more);
          pages = guards_longer sum P all (all ++ more) safe.floor d begins safe.pages;
          guard = guard_longer sum P all (all ++ more) d w.full_pages safe.tip begins safe.guard;
          base = safe.base;
          position = safe.position;
        });
        truthful = subst (λ (l : List ℕ). IsTruthful sum P l d) now (truthful_longer sum P all (all ++ more) d begins sound.truthful);
        vouched = sound.vouched;
        good = sound.good;
      }

  -- a writer whose durable slot is brought up to date is as consistent: a flush may repeat that
  -- slot
  pub carry_consistent : Consistency sum (record w { durable = guard_slot w.sync w.flushed w.durable }) d
  carry_consistent =
      let safe = sound.safe in
      record {
        stands = carried_stands sum w d w.sync sound.stands;
        safe = record {
          floor = safe.floor;
          tip = safe.tip;
          there = safe.there;
          pages = safe.pages;
          guard = safe.guard;
          base = safe.base;
          position = elim safe.position [
            | inl below ↦ inl below
            | inr here ↦ inr (here.0, repeated_again w.sync w.flushed w.durable safe.tip here.1)
          ];
        };
        truthful = sound.truthful;
        vouched = sound.vouched;
        good = sound.good;
      }

-- ---- from what is readable

-- with nothing unsynced no page stands after the tip's
good_at_rest : (sum : List ℕ → ℕ) (P full : ℕ) (tip : List ℕ) (d : Disk) (flushed : Option ActiveChecksum) → d.since ≡ [] → d.base ≡ d.readable → TipPage sum P full tip d.readable flushed → PageIsGood sum P full d.readable → IsGoodFrom sum P full d
good_at_rest sum P full tip d flushed since base tip_page good = λ whole is_whole p from page there s.
    let same : whole ≡ d.readable = subst (λ (os : List Operation). IsWhole d.base os whole) since is_whole ∙ base in
    let ends : length d.readable ≤ (full + 1) * (P + 12) = (tip_reach sum P full tip d.readable flushed tip_page).1 in
    let here = ap (λ (l : List ℕ). slice_get (pages P l) p) (sym same) ∙ there in
    elim (cases_order p full) [
      | inl at_tip ↦ good page (ap (λ (q : ℕ). slice_get (pages P d.readable) q) (sym at_tip) ∙ here) s
      | inr (inl below) ↦ absurd (omega (arith, below, from))
      | inr (inr after) ↦
          let past : suc full * (P + 12) ≤ p * (P + 12) = mul-le-mul_right (P + 12) after in
          absurd (omega (arith, past, ends, page_fits P p d.readable page here))
    ]

module _ (sum : List ℕ → ℕ) (w : WriterState) (d : Disk) (since : d.since ≡ []) (base : d.base ≡ d.readable) (some : 0 < w.page_size) (small : w.page_size < 2 ^ 16)
    (carried : w.durable ≡ w.flushed) where
  repeats : (s : SyncState) → IsRepeated s w.flushed w.durable w.flushed
  repeats Clean = refl
  repeats Dirty = sym carried
  repeats (Pending name) = tt

  -- with nothing unsynced a writer that knows the blob's pages is consistent
  pub settled_consistent : StartsFit d w.sync → IsSmall sum → TipPage sum w.page_size w.full_pages w.tip d.readable w.flushed → PageIsGood sum w.page_size w.full_pages d.readable → Consistency sum w d
  settled_consistent starts small_sum tip_page good = record {
    vouched = vouched_at_rest sum w.page_size d since;
    good = good_at_rest sum w.page_size w.full_pages w.tip d w.flushed since base tip_page good;
    stands = settled_stands sum w d since base some small carried starts tip_page;
    safe = safe_at_rest sum w d since base tip_page some (guard_written sum w d since base tip_page small_sum small) (repeats w.sync);
    truthful = truthful_written sum w d since base tip_page;
  }

  -- where the blob ends with a full page, such a writer is consistent
  pub exact_consistent : StartsFit d w.sync → w.flushed ≡ None → length d.readable ≡ w.full_pages * (w.page_size + 12) → Consistency sum w d
  exact_consistent starts none size =
      let tip_page : TipPage sum w.page_size w.full_pages w.tip d.readable w.flushed = subst (λ (f : Option ActiveChecksum). TipPage sum w.page_size w.full_pages w.tip d.readable f) (sym none) size in
      record {
        stands = exact_stands sum w d since base some small carried starts none size;
        safe = safe_at_rest sum w d since base tip_page some
            (subst (λ (f : Option ActiveChecksum). TipGuard sum w.page_size (content w d.readable) d w.full_pages f) (sym none) tt) (repeats w.sync);
        truthful = truthful_written sum w d since base tip_page;
        vouched = vouched_at_rest sum w.page_size d since;
        good = good_from_end sum w.page_size w.full_pages d since (omega (arith, size, ap length base));
      }

  -- where the blob ends with the tip's page, such a writer is consistent
  pub page_consistent : StartsFit d w.sync → IsSmall sum → (a : ActiveChecksum) → w.flushed ≡ Some a → HasTipPage sum w.page_size w.full_pages w.tip d.readable a → PageIsGood sum w.page_size w.full_pages d.readable → Consistency sum w d
  page_consistent starts small_sum a is has good = settled_consistent starts small_sum (subst (λ (f : Option ActiveChecksum). TipPage sum w.page_size w.full_pages w.tip d.readable f) (sym is) has) good

-- a writer over an empty blob is consistent
pub empty_consistent : (sum : List ℕ → ℕ) (w : WriterState) (d : Disk) → d.readable ≡ [] → d.base ≡ [] → d.since ≡ [] → 0 < w.page_size → w.page_size < 2 ^ 16 → w.full_pages ≡ 0 → w.flushed ≡ None → w.durable ≡ None → StartsFit d w.sync → Consistency sum w d
empty_consistent sum w d readable base since some small full flushed durable starts =
    exact_consistent sum w d since (base ∙ sym readable) some small
    (durable ∙ sym flushed) starts flushed
    (omega (arith, ap length readable, ap (λ (n : ℕ). n * (w.page_size + 12)) full))

-- ---- a read

-- a disk whose log alone differs
same_parts : (d e : Disk) → SameButLog d e → (e.readable ≡ d.readable) × (e.base ≡ d.base) × (e.since ≡ d.since)
same_parts d e is = (ap (λ (x : Disk). x.readable) is, ap (λ (x : Disk). x.base) is, ap (λ (x : Disk). x.since) is)

-- each chance-free image of a consistent writer's blob has as its text a beginning of its content
pub consistent_leaves : (sum : List ℕ → ℕ) (w : WriterState) (d : Disk) → IsConsistent sum w d → LeavesItsContent sum w d
unfolding IsConsistent
consistent_leaves sum w d sound = record { only = λ image is_image free. inl (only_content sum w.page_size (content w d.readable) d image sound.truthful free); vouched = sound.vouched }

module _ (sum : List ℕ → ℕ) (w : WriterState) (old new : Life) (sound : Consistency sum w old.present) (looked : Looked old new) where
  -- a call that only reads leaves the writer consistent
  pub looked_consistent : Consistency sum w new.present
  looked_consistent = let same = same_parts old.present new.present looked.same in alike_consistent sum w old.present new.present sound same.0 same.1 same.2 (ap (λ (x : Disk). coverings x) looked.same) (ap (λ (x : Disk). x.settled) looked.same)

-- ---- a blob in which no page is damaged

pub consistent_of : (sum : List ℕ → ℕ) (w : WriterState) (d : Disk) → Soundness sum w d → Consistency sum w d
consistent_of sum w d sound = record { stands = sound.stands; safe = sound.safe; truthful = sound.truthful; vouched = sound.vouched; good = sound.good }

pub sound_of : (sum : List ℕ → ℕ) (w : WriterState) (d : Disk) → Consistency sum w d → IsIntact sum w d → Soundness sum w d
sound_of sum w d holds full = record { stands = holds.stands; safe = holds.safe; truthful = holds.truthful; vouched = holds.vouched; good = holds.good; full = full }

-- a sound writer is consistent, and its pages are full
pub sound_holds_together : (sum : List ℕ → ℕ) (w : WriterState) (d : Disk) → IsSound sum w d → IsConsistent sum w d
unfolding IsSound IsConsistent
sound_holds_together sum w d sound = consistent_of sum w d sound

pub sound_is_intact : (sum : List ℕ → ℕ) (w : WriterState) (d : Disk) → IsSound sum w d → IsIntact sum w d
unfolding IsSound
sound_is_intact sum w d sound = sound.full

-- a writer that is consistent, and whose pages are full, is sound
pub intact_is_sound : (sum : List ℕ → ℕ) (w : WriterState) (d : Disk) → IsConsistent sum w d → IsIntact sum w d → IsSound sum w d
unfolding IsSound IsConsistent
intact_is_sound sum w d holds full = sound_of sum w d holds full

pub sound_leaves : (sum : List ℕ → ℕ) (w : WriterState) (d : Disk) → IsSound sum w d → LeavesItsContent sum w d
sound_leaves sum w d sound = consistent_leaves sum w d (sound_holds_together sum w d sound)

pub looked_sound : (sum : List ℕ → ℕ) (w : WriterState) (old new : Life) → Soundness sum w old.present → Looked old new → Soundness sum w new.present
looked_sound sum w old new sound looked =
    sound_of sum w new.present (looked_consistent sum w old new (consistent_of sum w old.present sound) looked)
    (intact_still sum w old.present new.present (same_parts old.present new.present looked.same).0 sound.full)

module _ (sum : List ℕ → ℕ) (w : WriterState) (d : Disk) (since : d.since ≡ []) (base : d.base ≡ d.readable) (some : 0 < w.page_size) (small : w.page_size < 2 ^ 16) (full : IsIntact sum w d) (carried : w.durable ≡ w.flushed) where
  -- with nothing unsynced a writer that knows the blob's pages is sound, if these are full
  pub settled_sound : StartsFit d w.sync → IsSmall sum → TipPage sum w.page_size w.full_pages w.tip d.readable w.flushed → PageIsGood sum w.page_size w.full_pages d.readable → Soundness sum w d
  settled_sound starts small_sum tip_page good = sound_of sum w d (settled_consistent sum w d since base some small carried starts small_sum tip_page good) full

  pub exact_sound : StartsFit d w.sync → w.flushed ≡ None → length d.readable ≡ w.full_pages * (w.page_size + 12) → Soundness sum w d
  exact_sound starts none size = sound_of sum w d (exact_consistent sum w d since base some small carried starts none size) full

  pub page_sound : StartsFit d w.sync → IsSmall sum → (a : ActiveChecksum) → w.flushed ≡ Some a → HasTipPage sum w.page_size w.full_pages w.tip d.readable a → PageIsGood sum w.page_size w.full_pages d.readable → Soundness sum w d
  page_sound starts small_sum a is has good = sound_of sum w d (page_consistent sum w d since base some small carried starts small_sum a is has good) full

-- a writer over an empty blob is sound
pub empty_sound : (sum : List ℕ → ℕ) (w : WriterState) (d : Disk) → d.readable ≡ [] → d.base ≡ [] → d.since ≡ [] → 0 < w.page_size → w.page_size < 2 ^ 16 → w.full_pages ≡ 0 → w.flushed ≡ None → w.durable ≡ None → StartsFit d w.sync → Soundness sum w d
empty_sound sum w d readable base since some small full flushed durable starts =
    sound_of sum w d (empty_consistent sum w d readable base since some small full flushed durable starts)
    (subst (λ (n : ℕ). AreFull sum w.page_size (take n (pages w.page_size d.readable))) (sym full) tt)
