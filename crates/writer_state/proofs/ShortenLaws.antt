-- Cutting a blob of which all is durable: what each moment of the cut holds of the blob's text.
use Rattle.std.proofs.Common.{◌≡◌, ◌⊎◌, inl, inr, ℕ, zero, suc, ◌+◌, ◌*◌, ◌^◌, ◌<◌, ◌≤◌, min, List, [], ◌∷◌, ◌++◌, length, take, drop, slice_get, map, Some, Result, Ok, Err, Bool, true, false, refl, sym, ap, ◌∙◌, subst, arith, length-append, length-take, length-take-le, length-drop, mul-le-mul_right}
use Rattle.std.specs.Int.{w16, w32, to_be_bytes}
use Rattle.std.proofs.lemmas.Bool.{cases_lt, cases_order}
use Rattle.std.proofs.lemmas.List.{drop-drop, take-take, take_all}
use Rattle.std.proofs.Math.Seq.{take-add}
use Rattle.std.proofs.lemmas.Option.{same_Some}
use Rattle.disk.specs.Disk.{Disk, Life, Started, Operation, HasOperated, Request, ResizeTo, WriteAt, SyncAll, IsImage, IsWhole, OperationGoes, ResizeGoes, SyncGoes, WriteGoes, applied, coverings, next, logged, settled_disk}
use Rattle.disk.specs.Disk.Operation.{Write, Resize}
use Rattle.disk.specs.declared.error.Error.{Error}
use Rattle.disk.specs.declared.error.Error.TheVariants.{WriteFailed, ResizeFailed, SyncFailed, OffsetOverflow, OutOfMemory}
use Rattle.disk.proofs.Moments.{same_moments}
use Rattle.page.specs.Slot.{slot_offset, other}
use Rattle.page.specs.Page.{active, pages, slot_bytes, slot_crc, slot_len, slot_of, value, value_len, verified_len, text, text_of_pages}
use Rattle.page.specs.declared.slot.Slot.{Slot}
use Rattle.page.specs.declared.slot.ActiveChecksum.{ActiveChecksum}
use Rattle.crash.specs.Guard.{Guards, IsChanceFree}
use Rattle.crash.specs.Built.{kept_len}
use Rattle.crash.specs.Distinct.{IsGood}
use Rattle.crash.proofs.DistinctLaws.{vouched_at_rest, vouched_alike, resize_vouched}
use Rattle.crash.proofs.SlotLaws.{slot_write_vouched, staged_good, published_good}
use Rattle.crash.specs.Kept.{AllKeep, AllOnly, Each, Through}
use Rattle.crash.specs.Looks.{Looked, SameButLog}
use Rattle.crash.specs.Moments.{through_end, through_joins, through_more, through_start, through_then}
use Rattle.crash.specs.Shrink.{HeldBy, HoldsText, SaysText, StaysHeld, published, slot_write, staged}
use Rattle.crash.specs.Started.{AllSettled, CoversStay, CoversThrough, StartsCanBeAwaited, WouldKeep}
use Rattle.writer_state.specs.Sound.{IsSound, content}
use Rattle.crash.specs.Contents.{latest}
use Rattle.crash.specs.Stays.{KeepsFloors, LeavesOnly}
use Rattle.writer_state.specs.WriterState.{WriterState}
use Rattle.crash.proofs.BuiltLaws.{IsSmall}
use Rattle.crash.proofs.Disks.{base_is_image, fixed_at_rest, fixed_in_image, latest-append, latest_is_whole, length-applied_resize, length-applied_write, one_more_whole, operated_base, operated_since, whole_is_image}
use Rattle.writer_state.proofs.FlushLaws.{length-content, tip_reach}
use Rattle.crash.proofs.Lists.{take_same, within_drop, within_take}
use Rattle.crash.proofs.Pages.{cut_is, length-page, length-offset, page_fits, page_is, pages_at}
use Rattle.crash.proofs.PageFacts.{has_part, joined_beginning, own_beginning, slot_at, slot_offset_le, value_len_slot}
use Rattle.crash.proofs.Promise.{keeps_same, guarded_is_kept, guards_alike, guards_at_rest, guards_below, guards_less, guards_settle, held_alike, held_settles, held_stays, leaves_page_below, resize_leaves_below, write_leaves_below}
use Rattle.crash.proofs.ShrinkLaws.{empty_slot_tells, inside_write, length_slot_tells, new_slot_holds, other_other, other_slot_holds, outside_write, slot_write_tells}
use Rattle.writer_state.proofs.Soundness.{length-written_text, text_begins_content}
use Rattle.crash.proofs.Spared.{guards_with_tip}
use Rattle.writer_state.proofs.StandLaws.{all_settled_stand}
use Rattle.writer_state.proofs.StartedLaws.{keeps_settled, settled_keeps}
use Rattle.crash.proofs.Texts.{AreBytes, active_is, active_slot, text_full, text_part, value_len_le, verified_le_value}

-- each slot of a page that the text reaches verifies over bytes of the text, if it verifies
abbrev pub SaysIn : (List ℕ → ℕ) → ℕ → List ℕ → List ℕ → Type 0
SaysIn sum P told whole = (p : ℕ) (page : List ℕ) → slice_get (pages P whole) p ≡ Some page → p * P ≤ length told → (s : Slot) → take (verified_len sum P s page) page ≡ take (verified_len sum P s page) (drop (p * P) told)

-- ---- where nothing is unsynced

-- the page at whose offset the text ends has no value
text_ends : (sum : List ℕ → ℕ) (P : ℕ) (ps : List (List ℕ)) (p : ℕ) (page : List ℕ) → 0 < P → ((q : ℕ) (other : List ℕ) → slice_get ps q ≡ Some other → P ≤ length other)
    → slice_get ps p ≡ Some page → p * P ≡ length (text_of_pages sum P ps) → value_len sum P page ≡ 0
text_ends sum P [] p page some long is ends = absurd (cc is)
text_ends sum P (first ∷ rest) zero page some long is ends =
    let same : first ≡ page = same_Some first page is in
    let none : value_len sum P first ≡ 0 = elim (cases_lt (value_len sum P first) P) [
      | inl part ↦ omega (arith, ends, ap length (text_part sum P first rest part), length-take-le (value_len sum P first) first (omega (arith, part, long 0 first refl)))
      | inr more ↦
          let full : value_len sum P first ≡ P = omega (arith, more, value_len_le sum P first) in
          absurd (omega (arith, some, ends, ap length (text_full sum P first rest full), length-append (take P first) (text_of_pages sum P rest), length-take-le P first (long 0 first refl)))
    ] in
    ap (λ (l : List ℕ). value_len sum P l) (sym same) ∙ none
text_ends sum P (first ∷ rest) (suc p) page some long is ends = elim (cases_lt (value_len sum P first) P) [
  | inl part ↦ absurd (omega (arith, ends, ap length (text_part sum P first rest part), length-take (value_len sum P first) first, part))
  | inr more ↦
      let full : value_len sum P first ≡ P = omega (arith, more, value_len_le sum P first) in
      let size : length (take P first) ≡ P = length-take-le P first (long 0 first refl) in
      text_ends sum P rest p page some (λ q other there. long (suc q) other there) is
      (omega (arith, ends, ap length (text_full sum P first rest full), length-append (take P first) (text_of_pages sum P rest), size))
]

-- each slot of a blob's page that its own text reaches verifies over bytes of that text
pub text_says : (sum : List ℕ → ℕ) (P : ℕ) (bytes : List ℕ) → 0 < P → SaysIn sum P (text sum P bytes) bytes
text_says sum P bytes some p page is reached s =
    let told = text sum P bytes in
    let long : (q : ℕ) (other : List ℕ) → slice_get (pages P bytes) q ≡ Some other → P ≤ length other = λ q other there. omega (arith, length-page P q bytes other there) in
    let few : verified_len sum P s page ≤ value_len sum P page = verified_le_value sum P s page in
    elim (cases_lt (p * P) (length told)) [
      | inl within ↦
          let part = has_part sum P (pages P bytes) p some long within in
          let same : part.page ≡ page = same_Some part.page page (sym part.there ∙ is) in
          let begins : take (value_len sum P page) page ≡ take (value_len sum P page) (drop (p * P) told) =
          subst (λ (l : List ℕ). take (value_len sum P l) l ≡ take (value_len sum P l) (drop (p * P) told)) same part.begins in
          take_same (verified_len sum P s page) (value_len sum P page) page (drop (p * P) told) few begins
      | inr past ↦
          let none : value_len sum P page ≡ 0 = text_ends sum P (pages P bytes) p page some long is (omega (arith, past, reached)) in
          let zero_len : verified_len sum P s page ≡ 0 = omega (arith, few, none) in
          ap (λ (k : ℕ). take k page) zero_len ∙ ap (λ (k : ℕ). take k (drop (p * P) told)) (sym zero_len)
    ]

-- for a disk with nothing unsynced, the slots of its base are all there are
says_at_rest : (sum : List ℕ → ℕ) (P : ℕ) (told : List ℕ) (d : Disk) → d.since ≡ [] → SaysIn sum P told d.base → SaysText sum P told d
says_at_rest sum P told d at_rest says =
    λ whole is_whole. subst (λ (bytes : List ℕ). SaysIn sum P told bytes) (sym (subst (λ (os : List Operation). IsWhole d.base os whole) at_rest is_whole)) says

-- so a disk with nothing unsynced holds the text of its base, up to any floor within
pub holds_at_rest : (sum : List ℕ → ℕ) (P : ℕ) (R : List ℕ) (F : ℕ) (d : Disk) → 0 < P → d.since ≡ [] → d.base ≡ R → F ≤ length (text sum P R) → HoldsText sum P (text sum P R) F d
holds_at_rest sum P R F d some at_rest base few =
    subst (λ (bytes : List ℕ). F ≤ length (text sum P bytes) → HoldsText sum P (text sum P bytes) F d) base (λ enough. record {
      within = enough;
      guards = guards_less sum P (text sum P d.base) (length (text sum P d.base)) F d enough (guards_at_rest sum P d some at_rest);
      says = says_at_rest sum P (text sum P d.base) d at_rest (text_says sum P d.base some);
      vouched = vouched_at_rest sum P d at_rest;
    }) few

-- ---- what is held is kept, and a chance-free image has nothing else

-- the text is a beginning of a content where each page's value is the content's, as far as the
-- content reaches
text_within_reach : (sum : List ℕ → ℕ) (P : ℕ) (ps : List (List ℕ)) (told : List ℕ) → ((q : ℕ) (page : List ℕ) → slice_get ps q ≡ Some page → P ≤ length page)
    → ((p : ℕ) (page : List ℕ) → slice_get ps p ≡ Some page → p * P ≤ length told → take (value_len sum P page) page ≡ take (value_len sum P page) (drop (p * P) told))
    → text_of_pages sum P ps ≡ take (length (text_of_pages sum P ps)) told
text_within_reach sum P [] told long each = refl
text_within_reach sum P (page ∷ ps) told long each =
    let start : 0 * P ≡ 0 = omega arith in
    let n = value_len sum P page in
    let here : value sum P page ≡ take n told = each 0 page refl (omega arith) ∙ ap (λ (k : ℕ). take n (drop k told)) start in
    elim (cases_lt n P) [
      | inl part ↦
          let is = text_part sum P page ps part in
          is ∙ own_beginning n (value sum P page) told here ∙ ap (λ (l : List ℕ). take (length l) told) (sym is)
      | inr more ↦
          let full : n ≡ P = omega (arith, more, value_len_le sum P page) in
          let is = text_full sum P page ps full in
          let size : length (take P page) ≡ P = length-take-le P page (long 0 page refl) in
          let front : take P page ≡ take P told = ap (λ (k : ℕ). take k page) (sym full) ∙ here ∙ ap (λ (k : ℕ). take k told) full in
          let reach : P ≤ length told = omega (arith, size, ap length front, length-take P told) in
          let after = text_within_reach sum P ps (drop P told) (λ q other there. long (suc q) other there) (λ p other there reached.
          let further : suc p * P ≡ P + p * P = omega arith in
          each (suc p) other there (omega (arith, reached, length-drop P told, reach))
          ∙ ap (λ (k : ℕ). take (value_len sum P other) (drop k told)) further ∙ ap (λ (l : List ℕ). take (value_len sum P other) l) (sym (drop-drop (p * P) P told))) in
          is
          ∙ joined_beginning (take P page) (text_of_pages sum P ps) told (own_beginning P (take P page) told front)
          (after ∙ ap (λ (k : ℕ). take (length (text_of_pages sum P ps)) (drop k told)) (sym size))
          ∙ ap (λ (l : List ℕ). take (length l) told) (sym is)
    ]

-- each chance-free image of a disk whose slots verify over the text has as its text a beginning of
-- it
pub only_text : (sum : List ℕ → ℕ) (P : ℕ) (told : List ℕ) (d : Disk) (image : List ℕ) → SaysText sum P told d → IsChanceFree sum P d image → text sum P image ≡ take (length (text sum P image)) told
only_text sum P told d image says free = text_within_reach sum P (pages P image) told (λ q page is. omega (arith, length-page P q image page is)) (λ p page is reached.
    let chosen = value_len_slot sum P page in
    let s = chosen.0 in
    elim (cases_lt 0 (value_len sum P page)) [
      | inl some ↦
          let was = free p page is s (omega (arith, chosen.1)) in
          let same : verified_len sum P s was.1 ≡ value_len sum P page = was.4 ∙ sym chosen.1 in
          ap (λ (n : ℕ). take n page) chosen.1 ∙ sym was.5 ∙ ap (λ (n : ℕ). take n was.1) (sym was.4)
          ∙ says was.0 was.2 p was.1 was.3 reached s ∙ ap (λ (n : ℕ). take n (drop (p * P) told)) same
      | inr none ↦
          let zero_len : value_len sum P page ≡ 0 = omega arith in
          ap (λ (n : ℕ). take n page) zero_len ∙ ap (λ (n : ℕ). take n (drop (p * P) told)) (sym zero_len)
    ])

module _ (sum : List ℕ → ℕ) (P : ℕ) (told : List ℕ) (F : ℕ) (e : Disk) (holds : HoldsText sum P told F e) where
  -- each floor within what is held is kept
  pub holds_keeps : (floor : ℕ) → floor ≤ F → AllKeep sum P told floor e
  holds_keeps floor few = guarded_is_kept sum P told floor e (guards_less sum P told F floor e few holds.guards) (omega (arith, few, holds.within))

  -- each chance-free image has as its text a beginning of the text
  pub holds_only : (image : List ℕ) → IsImage e image → IsChanceFree sum P e image → text sum P image ≡ take (length (text sum P image)) told
  holds_only image is_image free = only_text sum P told e image holds.says free

-- ---- what a device call does to a life, by what holds at each moment

module _ (Q : Disk → Type 0) (old new : Life) (start : Q old.present) where
  -- what holds as a call begins that asked for nothing holds at each of its moments
  pub through_none : new ≡ old → Through Q old new
  through_none is = subst (λ (life : Life). Through Q old life) (sym is) (through_start Q old start)

  -- one moment passed
  pub through_one : (d : Disk) → new ≡ next old d → Q d → Through Q old new
  through_one d is holds = subst (λ (life : Life). Through Q old life) (sym is) (through_more Q old old d (through_start Q old start) holds)

  -- two moments passed
  pub through_two : (d e : Disk) → new ≡ next (next old d) e → Q d → Q e → Through Q old new
  through_two d e is first second =
      subst (λ (life : Life). Through Q old life) (sym is) (through_more Q old (next old d) e (through_more Q old old d (through_start Q old start) first) second)

  -- an operation that isn't durable, whatever its answer
  pub operation_through : (o : Operation) (request : Request) (fault : Error) (answer : Result (Unit {0}) Error) → ((failed : Bool) (d : Disk) → HasOperated o request failed old.present d → Q d)
      → OperationGoes o request fault old new answer → Through Q old new
  operation_through o request fault (Ok u) later (d, goes, operated) = through_one d goes (later false d operated)
  operation_through o request fault (Err OffsetOverflow) later (same, passes) = through_none same
  operation_through o request fault (Err OutOfMemory) later (same, has) = through_none same
  operation_through o request fault (Err e) later (is, (d, goes, operated)) = through_one d goes (later true d operated)

  -- a resize
  pub resize_through : (len : ℕ) (answer : Result (Unit {0}) Error) → ((failed : Bool) (d : Disk) → HasOperated (Resize len) (ResizeTo len) failed old.present d → Q d)
      → ResizeGoes len old new answer → Through Q old new
  resize_through len answer later goes = operation_through (Resize len) (ResizeTo len) ResizeFailed answer later goes

  -- a write, durable or not
  pub write_through : (offset : ℕ) (bytes : List ℕ) (sync : Bool) (answer : Result (Unit {0}) Error)
      → ((failed : Bool) (d : Disk) → HasOperated (Write offset bytes) (WriteAt offset (length bytes) sync) failed old.present d → Q d)
      → ((d : Disk) → sync ≡ true → HasOperated (Write offset bytes) (WriteAt offset (length bytes) true) false old.present d → Q (settled_disk d))
      → WriteGoes offset bytes sync old new answer → Through Q old new
  write_through offset bytes false answer later settles goes = operation_through (Write offset bytes) (WriteAt offset (length bytes) false) WriteFailed answer later goes
  write_through offset bytes true (Ok u) later settles (d, goes, operated) = through_two d (settled_disk d) goes (later false d operated) (settles d refl operated)
  write_through offset bytes true (Err WriteFailed) later settles (d, goes, operated) = through_one d goes (later true d operated)
  write_through offset bytes true (Err OffsetOverflow) later settles (same, passes) = through_none same
  write_through offset bytes true (Err OutOfMemory) later settles (same, has) = through_none same
  write_through offset bytes true (Err e) later settles goes = absurd goes

  -- a sync
  pub sync_through : (answer : Result (Unit {0}) Error) → Q (settled_disk (logged SyncAll false old.present)) → Q (logged SyncAll true old.present) → SyncGoes old new answer → Through Q old new
  sync_through (Ok u) done failed goes = through_one (settled_disk (logged SyncAll false old.present)) goes done
  sync_through (Err SyncFailed) done failed goes = through_one (logged SyncAll true old.present) goes failed
  sync_through (Err OutOfMemory) done failed goes = through_none goes
  sync_through (Err e) done failed goes = absurd goes

-- calls that only read
pub looked_through : (Q : Disk → Type 0) (old new : Life) → ((d : Disk) → d.base ≡ old.present.base → d.since ≡ old.present.since → Q d) → Looked old new → Through Q old new
looked_through Q old new later looked = through_then (SameButLog old.present) Q old new (λ d same. later d (ap (λ (x : Disk). x.base) same) (ap (λ (x : Disk). x.since) same)) looked.through

-- with nothing unsynced, what is readable is the last whole state
pub rest_latest : (d : Disk) → d.since ≡ [] → d.base ≡ d.readable → d.readable ≡ latest d.base d.since
rest_latest d at_rest base = sym base ∙ sym (ap (λ (os : List Operation). latest d.base os) at_rest)

-- an operation that was done leaves the last whole state readable
pub operated_latest : (o : Operation) (request : Request) (d e : Disk) → d.readable ≡ latest d.base d.since → HasOperated o request false d e → e.readable ≡ latest e.base e.since
operated_latest o request d e done operated =
    operated.done refl ∙ ap (λ (l : List ℕ). applied o l) done ∙ sym (latest-append d.base d.since (o ∷ []))
    ∙ sym (λ i. latest (operated_base o request false d e operated i) (operated_since o request false d e operated i))

-- the last whole state is an image
pub latest_image : (d : Disk) (bytes : List ℕ) → bytes ≡ latest d.base d.since → IsImage d bytes
latest_image d bytes is = subst (λ (l : List ℕ). IsImage d l) (sym is) (whole_is_image d (latest d.base d.since) (latest_is_whole d.base d.since))

-- ---- what is said of the text

module _ (sum : List ℕ → ℕ) (P : ℕ) (told : List ℕ) where
  -- `SaysText` holds too where only what is readable, the started syncs or the log differ
  says_alike : (d e : Disk) → e.base ≡ d.base → e.since ≡ d.since → SaysText sum P told d → SaysText sum P told e
  says_alike d e base since says = λ whole is_whole. says whole (rw (base, since) at is_whole)

  -- `SaysText` holds too after an operation, if each slot of what it leaves verifies over bytes of
  -- the text or not at all
  says_operated : (d e : Disk) (o : Operation) → e.base ≡ d.base → e.since ≡ d.since ++ o ∷ [] → SaysIn sum P told (applied o (latest d.base d.since)) → SaysText sum P told d → SaysText sum P told e
  says_operated d e o base since new says =
      λ whole is_whole. elim (one_more_whole d.base d.since o whole (rw (base, since) at is_whole)) [
        | inl before ↦ says whole before
        | inr is_new ↦ subst (λ (bytes : List ℕ). SaysIn sum P told bytes) (sym is_new) new
      ]

  -- `SaysText` holds too where a whole state becomes the base
  says_settled : (d e : Disk) → e.base ≡ latest d.base d.since → e.since ≡ [] → SaysText sum P told d → SaysText sum P told e
  says_settled d e base at_rest says =
      says_at_rest sum P told e at_rest (subst (λ (bytes : List ℕ). SaysIn sum P told bytes) (sym base) (says (latest d.base d.since) (latest_is_whole d.base d.since)))

  -- the slots of what a resize leaves verify over the text too
  cut_says_text : (whole : List ℕ) (len : ℕ) → len ≤ length whole → SaysIn sum P told whole → SaysIn sum P told (applied (Resize len) whole)
  cut_says_text whole len shorter says = λ p page is.
      let within : (p + 1) * (P + 12) ≤ len = omega (arith, page_fits P p (applied (Resize len) whole) page is, length-applied_resize len whole) in
      let cut : applied (Resize len) whole ≡ take len whole = cut_is len whole shorter in
      let was : slice_get (pages P whole) p ≡ Some page =
      pages_at P p whole (omega arith)
      ∙ ap (λ (l : List ℕ). Some l) (sym (within_take (P + 12) (p * (P + 12)) len whole (omega arith)) ∙ ap (λ (l : List ℕ). take (P + 12) (drop (p * (P + 12)) l)) (sym cut) ∙ sym (page_is P p (applied (Resize len) whole) page is)) in
      says p page was

  -- the slots of a page verify over the text, once one was written that does
  slot_says_text : (old : List ℕ) (page : ℕ) (s : Slot) (written : List ℕ) → length written ≤ 6 → (page + 1) * (P + 12) ≤ length old
      → (page * P ≤ length told → (held : List ℕ) → slice_get (pages P (applied (slot_write P page s written) old)) page ≡ Some held
      → take (verified_len sum P s held) held ≡ take (verified_len sum P s held) (drop (page * P) told))
      → SaysIn sum P told old → SaysIn sum P told (applied (slot_write P page s written) old)
  slot_says_text old page s written few there new_slot says p held is reached t =
      slot_write_tells sum P told old page s written p held t few there is
      (λ here same. new_slot (subst (λ (q : ℕ). q * P ≤ length told) same reached) held here) (λ was was_there. says p was was_there reached t)

-- ---- lives

module _ (sum : List ℕ → ℕ) (P : ℕ) (told : List ℕ) (F : ℕ) where
  -- `HoldsText` holds too where only what is readable, the started syncs or the log differ
  pub alike_holds : (d e : Disk) → e.base ≡ d.base → e.since ≡ d.since → HoldsText sum P told F d → HoldsText sum P told F e
  alike_holds d e base since holds = record {
    within = holds.within;
    guards = guards_alike sum P told F d e base since holds.guards;
    says = says_alike sum P told d e base since holds.says;
    vouched = vouched_alike sum P d e base since holds.vouched;
  }

  -- `HoldsText` holds too where the last whole state becomes durable
  pub settled_holds : (d e : Disk) → e.base ≡ latest d.base d.since → e.since ≡ [] → HoldsText sum P told F d → HoldsText sum P told F e
  settled_holds d e base at_rest holds = record {
    within = holds.within;
    guards = guards_settle sum P told F d e (latest_image d e.base base) at_rest holds.guards;
    says = says_settled sum P told d e base at_rest holds.says;
    vouched = vouched_at_rest sum P e at_rest;
  }

  -- `HoldsText` holds at each moment of calls that only read
  pub looked_holds : (old new : Life) → Looked old new → HoldsText sum P told F old.present → Through (HoldsText sum P told F) old new
  looked_holds old new looked holds = looked_through (HoldsText sum P told F) old new (λ d base since. alike_holds old.present d base since holds) looked

  -- `HoldsText` holds at each moment of a resize that leaves enough pages for the floor
  pub resize_holds : (k : ℕ) (old new : Life) (answer : Result (Unit {0}) Error) → ResizeGoes (k * (P + 12)) old new answer → F ≤ k * P → k * (P + 12) ≤ length (latest old.present.base old.present.since)
      → HoldsText sum P told F old.present → Through (HoldsText sum P told F) old new
  resize_holds k old new answer goes few within holds =
      let d = old.present in
      let len = k * (P + 12) in
      resize_through (HoldsText sum P told F) old new holds len answer (λ failed e operated.
      let base = operated_base (Resize len) (ResizeTo len) failed d e operated in
      let since = operated_since (Resize len) (ResizeTo len) failed d e operated in
      record {
        within = holds.within;
        guards = guards_below sum P k told F len d e (Resize len) base since (resize_leaves_below len) (omega arith) few holds.guards;
        says = says_operated sum P told d e (Resize len) base since (cut_says_text sum P told (latest d.base d.since) len within (holds.says (latest d.base d.since) (latest_is_whole d.base d.since))) holds.says;
        vouched = resize_vouched sum P d e len base since within holds.vouched;
      }) goes

  -- `HoldsText` holds at each moment of a sync
  pub sync_holds : (old new : Life) (answer : Result (Unit {0}) Error) → SyncGoes old new answer → old.present.readable ≡ latest old.present.base old.present.since
      → HoldsText sum P told F old.present → Through (HoldsText sum P told F) old new
  sync_holds old new answer goes done holds =
      let d = old.present in
      sync_through (HoldsText sum P told F) old new holds answer
      (settled_holds d (settled_disk (logged SyncAll false d)) done refl holds) (alike_holds d (logged SyncAll true d) refl refl holds) goes

  -- a slot may be written: the floor ends before its page, or the page's other slot holds as much
  -- of the page as the floor has
  abbrev pub Spares : ℕ → Slot → Disk → Type 0
  Spares page s d = (F ≤ page * P) ⊎ ((f : ActiveChecksum) × HeldBy sum P told page f d × (s ≡ other f.slot) × (F ≤ page * P + f.len))

  -- what is guarded stays guarded when such a slot is written
  spared_guards : (page : ℕ) (s : Slot) (written : List ℕ) (d e : Disk) → length written ≤ 6 → e.base ≡ d.base → e.since ≡ d.since ++ slot_write P page s written ∷ []
      → Spares page s d → Guards sum P told F d → Guards sum P told F e
  spared_guards page s written d e few base since (inl before) guards =
      let at = page * (P + 12) + P + slot_offset s in
      guards_below sum P page told F at d e (Write at written) base since (write_leaves_below at written) (omega arith) before guards
  spared_guards page s written d e few base since (inr (f, held, is, enough)) guards =
      let still = other_slot_holds sum P told page f written d e few base (since ∙ ap (λ (t : Slot). d.since ++ slot_write P page t written ∷ []) is) held in
      guards_less sum P told (page * P + f.len) F e enough (guards_with_tip sum P page told f.len e f.slot (slot_bytes f.len f.crc) still.guard.there still.pages still.guard.held)

  -- `HoldsText` holds at each moment of a write into a slot that then verifies over bytes of the
  -- text, if it verifies
  pub slot_write_holds : (page : ℕ) (s : Slot) (written : List ℕ) (sync : Bool) (old new : Life) (answer : Result (Unit {0}) Error)
      → WriteGoes (page * (P + 12) + P + slot_offset s) written sync old new answer
      → length written ≤ 6 → (page + 1) * (P + 12) ≤ length (latest old.present.base old.present.since) → old.present.readable ≡ latest old.present.base old.present.since
      → Spares page s old.present
      → (page * P ≤ length told → (held : List ℕ) → slice_get (pages P (applied (slot_write P page s written) (latest old.present.base old.present.since))) page ≡ Some held
      → take (verified_len sum P s held) held ≡ take (verified_len sum P s held) (drop (page * P) told))
      → ((held : List ℕ) → slice_get (pages P (applied (slot_write P page s written) (latest old.present.base old.present.since))) page ≡ Some held → IsGood sum P s held)
      → HoldsText sum P told F old.present → Through (HoldsText sum P told F) old new
  slot_write_holds page s written sync old new answer goes few there done spares new_slot new_good holds =
      let d = old.present in
      let at = page * (P + 12) + P + slot_offset s in
      let o = slot_write P page s written in
      let later : (request : Request) (failed : Bool) (e : Disk) → HasOperated o request failed d e → HoldsText sum P told F e = λ request failed e operated.
      let base = operated_base o request failed d e operated in
      let since = operated_since o request failed d e operated in
      record {
        within = holds.within;
        guards = spared_guards page s written d e few base since spares holds.guards;
        says = says_operated sum P told d e o base since
            (slot_says_text sum P told (latest d.base d.since) page s written few there new_slot (holds.says (latest d.base d.since) (latest_is_whole d.base d.since))) holds.says;
        vouched = slot_write_vouched sum P page s written d e base since few there new_good holds.vouched;
      } in
      write_through (HoldsText sum P told F) old new holds at written sync answer (λ failed e operated. later (WriteAt at (length written) sync) failed e operated)
      (λ e is operated.
      let request = WriteAt at (length written) true in
      settled_holds e (settled_disk e) (operated_latest o request d e done operated) refl (later request false e operated)) goes

  -- the first write of a cut inside a page: the checksum of the shorter value, with length 0
  pub stage_holds : (page : ℕ) (f : ActiveChecksum) (crc : ℕ) (sync : Bool) (old new : Life) (answer : Result (Unit {0}) Error)
      → WriteGoes (page * (P + 12) + P + slot_offset (other f.slot)) (slot_bytes 0 crc) sync old new answer
      → (page + 1) * (P + 12) ≤ length (latest old.present.base old.present.since) → old.present.readable ≡ latest old.present.base old.present.since
      → Spares page (other f.slot) old.present
      → HoldsText sum P told F old.present → Through (HoldsText sum P told F) old new
  stage_holds page f crc sync old new answer goes there done spares holds =
      let six : length (slot_bytes 0 crc) ≡ 6 = refl in
      slot_write_holds page (other f.slot) (slot_bytes 0 crc) sync old new answer goes (omega (arith, six)) there done spares
      (λ reached held is. empty_slot_tells sum P told (latest old.present.base old.present.since) page (other f.slot) crc held there is)
      (λ held is. staged_good sum P page (other f.slot) crc (latest old.present.base old.present.since) held there is) holds

  -- the second write of a cut inside a page: the length of the shorter value, where the page's
  -- first bytes of that length are the text's
  pub publish_holds : (page : ℕ) (f : ActiveChecksum) (len crc : ℕ) (sync : Bool) (old new : Life) (answer : Result (Unit {0}) Error)
      → WriteGoes (page * (P + 12) + P + slot_offset (other f.slot)) (to_be_bytes w16 len) sync old new answer
      → (page + 1) * (P + 12) ≤ length (latest old.present.base old.present.since) → old.present.readable ≡ latest old.present.base old.present.since
      → len ≤ P → P < 2 ^ 16 → crc < 2 ^ 32 → take 6 (drop (page * (P + 12) + P + slot_offset (other f.slot)) (latest old.present.base old.present.since)) ≡ slot_bytes 0 crc
      → crc ≡ sum (take len (drop (page * (P + 12)) (latest old.present.base old.present.since)))
      → (page * P ≤ length told → take len (drop (page * (P + 12)) (latest old.present.base old.present.since)) ≡ take len (drop (page * P) told))
      → Spares page (other f.slot) old.present
      → HoldsText sum P told F old.present → Through (HoldsText sum P told F) old new
  publish_holds page f len crc sync old new answer goes there done fits small_page small_crc was is_sum payload spares holds =
      let small : len < 2 ^ 16 = omega (arith, fits, small_page) in
      let two : length (to_be_bytes w16 len) ≡ 2 = refl in
      slot_write_holds page (other f.slot) (to_be_bytes w16 len) sync old new answer goes (omega (arith, two)) there done spares
      (λ reached held is. length_slot_tells sum P told (latest old.present.base old.present.since) page (other f.slot) len held there small (payload reached) is)
      (λ held is. published_good sum P page (other f.slot) len crc (latest old.present.base old.present.since) held small_page fits small_crc there was is_sum is) holds

  -- the third write of a cut inside a page: zeros over the slot of the longer value
  pub clear_holds : (page : ℕ) (f : ActiveChecksum) (sync : Bool) (old new : Life) (answer : Result (Unit {0}) Error)
      → WriteGoes (page * (P + 12) + P + slot_offset f.slot) (slot_bytes 0 0) sync old new answer
      → (page + 1) * (P + 12) ≤ length (latest old.present.base old.present.since) → old.present.readable ≡ latest old.present.base old.present.since
      → Spares page f.slot old.present
      → HoldsText sum P told F old.present → Through (HoldsText sum P told F) old new
  clear_holds page f sync old new answer goes there done spares holds =
      let six : length (slot_bytes 0 0) ≡ 6 = refl in
      slot_write_holds page f.slot (slot_bytes 0 0) sync old new answer goes (omega (arith, six)) there done spares
      (λ reached held is. empty_slot_tells sum P told (latest old.present.base old.present.since) page f.slot 0 held there is)
      (λ held is. staged_good sum P page f.slot 0 (latest old.present.base old.present.since) held there is) holds

-- ---- what one slot holds, as lives

module _ (sum : List ℕ → ℕ) (P : ℕ) (told : List ℕ) (page : ℕ) (f : ActiveChecksum) where
  -- `HeldBy` holds too where only what is readable, the started syncs or the log differ
  pub alike_held : (d e : Disk) → e.base ≡ d.base → e.since ≡ d.since → HeldBy sum P told page f d → HeldBy sum P told page f e
  alike_held d e base since held = record {
    pages = guards_alike sum P told (page * P) d e base since held.pages;
    guard = record {
      there = held.guard.there;
      held = held_alike sum P d e page f.slot (slot_bytes f.len f.crc) (take f.len (drop (page * P) told)) base since held.guard.held;
    };
  }

  -- `HeldBy` holds too where an image becomes durable
  pub settled_held : (d e : Disk) → IsImage d e.base → e.since ≡ [] → HeldBy sum P told page f d → HeldBy sum P told page f e
  settled_held d e is_image at_rest held = record {
    pages = guards_settle sum P told (page * P) d e is_image at_rest held.pages;
    guard = record {
      there = held.guard.there;
      held = held_settles sum P d e page f.slot (slot_bytes f.len f.crc) (take f.len (drop (page * P) told)) is_image at_rest held.guard.held;
    };
  }

  -- `HeldBy` holds at each moment of calls that only read
  pub looked_stays_held : (old new : Life) → Looked old new → HeldBy sum P told page f old.present → StaysHeld sum P told page f old new
  looked_stays_held old new looked held = looked_through (HeldBy sum P told page f) old new (λ d base since. alike_held old.present d base since held) looked

  -- `HeldBy` holds at each moment of a sync
  pub sync_stays_held : (old new : Life) (answer : Result (Unit {0}) Error) → SyncGoes old new answer → old.present.readable ≡ latest old.present.base old.present.since
      → HeldBy sum P told page f old.present → StaysHeld sum P told page f old new
  sync_stays_held old new answer goes done held =
      let d = old.present in
      sync_through (HeldBy sum P told page f) old new held answer
      (settled_held d (settled_disk (logged SyncAll false d)) (latest_image d d.readable done) refl held) (alike_held d (logged SyncAll true d) refl refl held) goes

  -- `HeldBy` holds at each moment of a resize that leaves the page
  pub resize_stays_held : (k : ℕ) (old new : Life) (answer : Result (Unit {0}) Error) → ResizeGoes (k * (P + 12)) old new answer → page + 1 ≤ k
      → HeldBy sum P told page f old.present → StaysHeld sum P told page f old new
  resize_stays_held k old new answer goes more held =
      let d = old.present in
      let len = k * (P + 12) in
      let bytes = take f.len (drop (page * P) told) in
      let reach : (page + 1) * (P + 12) ≤ k * (P + 12) = mul-le-mul_right (P + 12) more in
      resize_through (HeldBy sum P told page f) old new held len answer (λ failed e operated.
      let base = operated_base (Resize len) (ResizeTo len) failed d e operated in
      let since = operated_since (Resize len) (ResizeTo len) failed d e operated in
      record {
        pages = guards_below sum P page told (page * P) len d e (Resize len) base since (resize_leaves_below len) (omega (arith, reach)) (omega arith) held.pages;
        guard = record {
          there = held.guard.there;
          held = held_stays sum P d e (Resize len) page f.slot (slot_bytes f.len f.crc) bytes base since
              (leaves_page_below (Resize len) P page len f.slot (slot_bytes f.len f.crc) bytes (resize_leaves_below len) reach refl held.guard.held.fits) held.guard.held;
        };
      }) goes

  -- `HeldBy` holds at each moment of a write into the other slot. A write that is durable at Ok
  -- makes durable what is readable, so that must be the last whole state.
  pub stays_held : (written : List ℕ) (sync : Bool) (old new : Life) (answer : Result (Unit {0}) Error) → HeldBy sum P told page f old.present
      → WriteGoes (page * (P + 12) + P + slot_offset (other f.slot)) written sync old new answer
      → length written ≤ 6 → (sync ≡ true → old.present.readable ≡ latest old.present.base old.present.since) → StaysHeld sum P told page f old new
  stays_held written sync old new answer held goes few done =
      let d = old.present in
      let at = page * (P + 12) + P + slot_offset (other f.slot) in
      let o = slot_write P page (other f.slot) written in
      let later : (request : Request) (failed : Bool) (e : Disk) → HasOperated o request failed d e → HeldBy sum P told page f e = λ request failed e operated.
      other_slot_holds sum P told page f written d e few (operated_base o request failed d e operated) (operated_since o request failed d e operated) held in
      write_through (HeldBy sum P told page f) old new held at written sync answer (λ failed e operated. later (WriteAt at (length written) sync) failed e operated)
      (λ e is operated.
      let request = WriteAt at (length written) true in
      settled_held e (settled_disk e) (latest_image e e.readable (operated_latest o request d e (done is) operated)) refl (later request false e operated)) goes

-- ---- which slots hold

-- with nothing unsynced the slot of a page's value holds it, where the text has the value
module _ (sum : List ℕ → ℕ) (P page : ℕ) (f : ActiveChecksum) (d : Disk) (at_rest : d.since ≡ []) where
  value_held_base : AreBytes (take (P + 12) (drop (page * (P + 12)) d.base)) → active sum P (take (P + 12) (drop (page * (P + 12)) d.base)) ≡ Some f
      → page * P + f.len ≤ length (text sum P d.base) → HeldBy sum P (text sum P d.base) page f d
  value_held_base are is there =
      let told = text sum P d.base in
      let start = page * (P + 12) in
      let page_bytes = take (P + 12) (drop start d.base) in
      let active_page = active_is sum P page_bytes f is in
      let some : 0 < P = omega (arith, active_page.some, active_page.fits) in
      let long : (q : ℕ) (one : List ℕ) → slice_get (pages P d.base) q ≡ Some one → P ≤ length one = λ q one here. omega (arith, length-page P q d.base one here) in
      let part = has_part sum P (pages P d.base) page some long (omega (arith, active_page.some, there)) in
      let same : part.page ≡ page_bytes = page_is P page d.base part.page part.there in
      let reach : (page + 1) * (P + 12) ≤ length d.base = page_fits P page d.base part.page part.there in
      let bytes = take f.len (drop (page * P) told) in
      let as_long : length bytes ≡ f.len = length-take-le f.len (drop (page * P) told) (omega (arith, length-drop (page * P) told, there)) in
      let begins : take f.len page_bytes ≡ bytes =
      ap (λ (n : ℕ). take n page_bytes) active_page.len
      ∙ subst (λ (l : List ℕ). take (value_len sum P l) l ≡ take (value_len sum P l) (drop (page * P) told)) same part.begins
      ∙ ap (λ (n : ℕ). take n (drop (page * P) told)) (sym active_page.len) in
      let payload : take f.len (drop start d.base) ≡ bytes = sym (take-take f.len (P + 12) (drop start d.base) (omega (arith, active_page.fits))) ∙ begins in
      let size : length page_bytes ≡ P + 12 = length-offset P page d.base reach in
      let slot : slot_of P f.slot page_bytes ≡ slot_bytes f.len f.crc = active_slot sum P page_bytes f size are is in
      record {
        pages = guards_less sum P told (length told) (page * P) d (omega (arith, there)) (guards_at_rest sum P d some at_rest);
        guard = record {
          there = there;
          held = record {
            some = omega (arith, as_long, active_page.some);
            fits = omega (arith, as_long, active_page.fits);
            payload = fixed_at_rest d start bytes at_rest (omega (arith, as_long, active_page.fits, reach)) (ap (λ (n : ℕ). take n (drop start d.base)) as_long ∙ payload);
            is_slot = record {
              size = refl;
              len = ap slot_len (sym slot) ∙ active_page.says ∙ sym as_long;
              crc = ap slot_crc (sym slot) ∙ active_page.holds ∙ active_page.crc ∙ ap sum begins;
            };
            fixed_slot = fixed_at_rest d (start + P + slot_offset f.slot) (slot_bytes f.len f.crc) at_rest (omega (arith, slot_offset_le f.slot, reach))
                (sym (slot_at P page f.slot d.base page_bytes (pages_at P page d.base reach)) ∙ slot);
            end = fixed_at_rest d ((page + 1) * (P + 12)) [] at_rest (omega (arith, reach)) refl;
          };
        };
      }

  pub value_held : (R : List ℕ) → d.base ≡ R → AreBytes (take (P + 12) (drop (page * (P + 12)) R)) → active sum P (take (P + 12) (drop (page * (P + 12)) R)) ≡ Some f
      → page * P + f.len ≤ length (text sum P R) → HeldBy sum P (text sum P R) page f d
  value_held R base are is there =
      subst (λ (bytes : List ℕ). AreBytes (take (P + 12) (drop (page * (P + 12)) bytes)) → active sum P (take (P + 12) (drop (page * (P + 12)) bytes)) ≡ Some f
      → page * P + f.len ≤ length (text sum P bytes) → HeldBy sum P (text sum P bytes) page f d) base value_held_base are is there

-- a slot once its checksum was staged and its length published
pub published_slot : (at len crc : ℕ) (R : List ℕ) → at + 6 ≤ length R → take 6 (drop at (applied (Write at (to_be_bytes w16 len)) (applied (Write at (slot_bytes 0 crc)) R))) ≡ slot_bytes len crc
published_slot at len crc R within =
    let two : length (to_be_bytes w16 len) ≡ 2 = refl in
    let six : length (slot_bytes 0 crc) ≡ 6 = refl in
    let mid = applied (Write at (slot_bytes 0 crc)) R in
    let new = applied (Write at (to_be_bytes w16 len)) mid in
    let within_mid : at + 6 ≤ length mid = omega (arith, six, length-applied_write at (slot_bytes 0 crc) R) in
    let first : take 2 (drop at new) ≡ to_be_bytes w16 len = ap (λ (n : ℕ). take n (drop at new)) (sym two) ∙ inside_write at (to_be_bytes w16 len) mid (omega (arith, two, within_mid)) in
    let staged_slot : take 6 (drop at mid) ≡ slot_bytes 0 crc = ap (λ (n : ℕ). take n (drop at mid)) (sym six) ∙ inside_write at (slot_bytes 0 crc) R (omega (arith, six, within)) in
    let rest : take 4 (drop 2 (drop at new)) ≡ to_be_bytes w32 crc =
    within_drop 4 2 at new
    ∙ outside_write at (to_be_bytes w16 len) mid (at + 2) 4 (omega (arith, two, within_mid)) (inr (omega (arith, two)))
    ∙ sym (within_drop 4 2 at mid) ∙ sym (within_take 4 2 6 (drop at mid) (omega arith)) ∙ ap (λ (l : List ℕ). take 4 (drop 2 l)) staged_slot in
    take-add 2 4 (drop at new) ∙ (λ i. first i ++ rest i)

-- once the second write is durable the new slot holds the shorter value
pub published_held : (sum : List ℕ → ℕ) (P : ℕ) (told R : List ℕ) (page : ℕ) (f : ActiveChecksum) (len crc : ℕ) (d : Disk) → IsSmall sum → P < 2 ^ 16 → HeldBy sum P told page f d
    → d.since ≡ [] → d.base ≡ applied (published P page f.slot len) (applied (staged P page f.slot crc) R) → (page + 1) * (P + 12) ≤ length R
    → 0 < len → len ≤ f.len → crc ≡ sum (take len (drop (page * (P + 12)) R)) → HeldBy sum P told page (record { slot = other f.slot; len = len; crc = crc }) d
published_held sum P told R page f len crc d small small_page held at_rest base reach some less is_sum =
    let start = page * (P + 12) in
    let at = start + P + slot_offset (other f.slot) in
    let g : ActiveChecksum = record { slot = other f.slot; len = len; crc = crc } in
    let all = take f.len (drop (page * P) told) in
    let two : length (to_be_bytes w16 len) ≡ 2 = refl in
    let six : length (slot_bytes 0 crc) ≡ 6 = refl in
    let mid = applied (staged P page f.slot crc) R in
    let in_page : slot_offset (other f.slot) ≤ 6 = slot_offset_le (other f.slot) in
    let size_mid : length mid ≡ length R = omega (arith, six, in_page, reach, length-applied_write at (slot_bytes 0 crc) R) in
    let size : length d.base ≡ length R = ap length base ∙ (let e : length (applied (published P page f.slot len) mid) ≡ length R = omega (arith, two, in_page, reach, size_mid, length-applied_write at (to_be_bytes w16 len) mid) in e) in
    let as_long : length all ≡ f.len = length-take-le f.len (drop (page * P) told) (omega (arith, length-drop (page * P) told, held.guard.there)) in
    let fits : f.len ≤ P = omega (arith, as_long, held.guard.held.fits) in
    let payload : take len (drop start d.base) ≡ take len (drop (page * P) told) =
    take_same len f.len (drop start d.base) (drop (page * P) told) less
    (ap (λ (n : ℕ). take n (drop start d.base)) (sym as_long) ∙ fixed_in_image d start all d.base held.guard.held.payload (base_is_image d)) in
    let was : take len (drop start d.base) ≡ take len (drop start R) =
    ap (λ (l : List ℕ). take len (drop start l)) base
    ∙ outside_write at (to_be_bytes w16 len) mid start len (omega (arith, two, in_page, reach, size_mid)) (inl (omega (arith, less, fits)))
    ∙ outside_write at (slot_bytes 0 crc) R start len (omega (arith, six, in_page, reach)) (inl (omega (arith, less, fits))) in
    new_slot_holds sum P told page g d small small_page at_rest (omega (arith, size, reach)) some (omega (arith, less, fits)) (omega (arith, less, held.guard.there)) payload
    (is_sum ∙ ap sum (sym was ∙ payload))
    (ap (λ (l : List ℕ). take 6 (drop at l)) base ∙ published_slot at len crc R (omega (arith, in_page, reach)))
    held.pages

-- ---- what holds at each moment of a cut

-- where the text of a blob with nothing unsynced is held at each moment, as far as the cut leaves
-- it
module _ (sum : List ℕ → ℕ) (P n : ℕ) (old new : Life) (at_rest : old.present.since ≡ []) (base : old.present.base ≡ old.present.readable)
    (through : Through (HoldsText sum P (text sum P old.present.readable) (min n (length (text sum P old.present.readable)))) old new) where
  -- each floor within the first n bytes of any content is kept
  pub shorten_floors : (content : List ℕ) → KeepsFloors sum P (take n content) old new
  shorten_floors content floor enough keeps =
      let told = text sum P old.present.readable in
      let same : take floor told ≡ take floor (take n content) = keeps.kept old.present.readable (latest_image old.present old.present.readable (rest_latest old.present at_rest base)) in
      let there : floor ≤ length told = omega (arith, ap length same, length-take floor told, length-take floor (take n content), enough) in
      let few : floor ≤ n = omega (arith, enough, length-take n content) in
      through_then (HoldsText sum P told (min n (length told))) (AllKeep sum P (take n content) floor) old new
      (λ e holds. keeps_same sum P told (take n content) floor e same (holds_keeps sum P told (min n (length told)) e holds floor (omega (arith, there, few)))) through

  -- each chance-free image has as its text a beginning of the text
  pub shorten_leaves : (after : List ℕ) → LeavesOnly sum P (text sum P old.present.readable) after old new
  shorten_leaves after =
      let told = text sum P old.present.readable in
      through_then (HoldsText sum P told (min n (length told))) (AllOnly sum P told after) old new
      (λ e holds. record { only = λ image is_image free. inl (holds_only sum P told (min n (length told)) e holds image is_image free); vouched = holds.vouched }) through

-- ---- a sound writer all of which is written

-- what is readable has as its text the content of a sound writer all of whose tip is written
pub sound_text : (sum : List ℕ → ℕ) (w : WriterState) (d : Disk) → IsSound sum w d → kept_len w.flushed ≡ length w.tip → text sum w.page_size d.readable ≡ content w d.readable
unfolding IsSound
sound_text sum w d sound written =
    let full = sound.full in
    let tip_page = sound.stands.tip_page in
    let reach = (tip_reach sum w.page_size w.full_pages w.tip d.readable w.flushed tip_page).0 in
    text_begins_content sum w d.readable full tip_page
    ∙ take_all (length (text sum w.page_size d.readable)) (content w d.readable)
    (omega (arith, length-written_text sum w d.readable full tip_page, length-content w d.readable reach, written))

-- ---- started syncs

-- a call starts no sync, and what was settled stays so
abbrev pub StartsGoOn : Disk → Disk → Type 0
StartsGoOn d e = (e.started ≡ d.started) × (d.settled ≤ e.settled)

-- so each sync that was settled still is
pub goes_on_settled : (d e : Disk) → AllSettled d → StartsGoOn d e → AllSettled e
goes_on_settled d e all on name c is =
    let covers : coverings e ≡ coverings d = ap (λ (ss : List Started). map (λ s. (s.covers, s.bytes)) ss) on.0 in
    omega (arith, on.1, all name c (ap (λ (cs : List (ℕ × List ℕ)). slice_get cs name) (sym covers) ∙ is))

goes_on_itself : (d : Disk) → StartsGoOn d d
goes_on_itself d = (refl, omega arith)

goes_on_operated : (o : Operation) (request : Request) (failed : Bool) (d e : Disk) → HasOperated o request failed d e → StartsGoOn d e
goes_on_operated o request failed d e operated = (ap (λ (x : Disk). x.started) operated.rest, omega (arith, ap (λ (x : Disk). x.settled) operated.rest))

module _ (old new : Life) where
  -- calls that only read start no sync
  pub looked_goes_on : Looked old new → Through (StartsGoOn old.present) old new
  looked_goes_on looked = through_then (SameButLog old.present) (StartsGoOn old.present) old new
      (λ d same. (ap (λ (x : Disk). x.started) same, omega (arith, ap (λ (x : Disk). x.settled) same))) looked.through

  -- a resize starts no sync
  pub resize_goes_on : (len : ℕ) (answer : Result (Unit {0}) Error) → ResizeGoes len old new answer → Through (StartsGoOn old.present) old new
  resize_goes_on len answer goes = resize_through (StartsGoOn old.present) old new (goes_on_itself old.present) len answer
      (λ failed d operated. goes_on_operated (Resize len) (ResizeTo len) failed old.present d operated) goes

  -- a write starts no sync
  pub write_goes_on : (offset : ℕ) (bytes : List ℕ) (sync : Bool) (answer : Result (Unit {0}) Error) → WriteGoes offset bytes sync old new answer → Through (StartsGoOn old.present) old new
  write_goes_on offset bytes sync answer goes = write_through (StartsGoOn old.present) old new (goes_on_itself old.present) offset bytes sync answer
      (λ failed d operated. goes_on_operated (Write offset bytes) (WriteAt offset (length bytes) sync) failed old.present d operated)
      (λ d is operated. let on = goes_on_operated (Write offset bytes) (WriteAt offset (length bytes) true) false old.present d operated in (on.0, omega (arith, on.1))) goes

  -- a sync starts no other
  pub sync_goes_on : (answer : Result (Unit {0}) Error) → SyncGoes old new answer → Through (StartsGoOn old.present) old new
  sync_goes_on answer goes = sync_through (StartsGoOn old.present) old new (goes_on_itself old.present) answer (refl, omega arith) (refl, omega arith) goes

-- two calls in turn that start no sync
pub goes_on_joins : (old mid new : Life) → Through (StartsGoOn old.present) old mid → Through (StartsGoOn mid.present) mid new → Through (StartsGoOn old.present) old new
goes_on_joins old mid new first second =
    let reached = through_end (StartsGoOn old.present) old mid first in
    through_joins (StartsGoOn old.present) old mid new first
    (through_then (StartsGoOn mid.present) (StartsGoOn old.present) mid new (λ d on. (on.0 ∙ reached.0, omega (arith, on.1, reached.1))) second)

module _ (sum : List ℕ → ℕ) (P : ℕ) (content : List ℕ) (old new : Life) (all : AllSettled old.present) (on : Through (StartsGoOn old.present) old new) where
  -- at each of these moments what a started sync covers is kept
  covers_each : (ds : List Disk) → Each (StartsGoOn old.present) ds
      → ((name cover : ℕ) → cover ≤ length content → WouldKeep sum P content name cover old.present → Each (AllKeep sum P content cover) ds)
      → Each (CoversStay sum P content old.present) ds
  covers_each [] starts keeps = tt
  covers_each (e ∷ es) starts keeps = (
    (λ name cover enough would.
        let covers : coverings e ≡ coverings old.present = ap (λ (ss : List Started). map (λ s. (s.covers, s.bytes)) ss) starts.0.0 in
        keeps_settled sum P content name cover e would.covers (goes_on_settled old.present e all starts.0)
        (ap (λ (cs : List (ℕ × List ℕ)). slice_get cs name) covers ∙ would.named) (keeps name cover enough would).0),
    covers_each es starts.1 (λ name cover enough would. (keeps name cover enough would).1),
  )

  -- where all are settled, what each started sync covers stays as the floors do
  pub covers_through_shorten : KeepsFloors sum P content old new → CoversThrough sum P content old new
  unfolding Through
  covers_through_shorten floors = record {
    moments = on.moments;
    goes = on.goes;
    start = λ name cover enough would. would;
    each = covers_each on.moments on.each (λ name cover enough would.
        let kept = floors cover enough (settled_keeps sum P content name cover old.present all would) in
        let same : kept.moments ≡ on.moments = same_moments old kept.moments on.moments (sym kept.goes ∙ on.goes) in
        subst (λ (ds : List Disk). Each (AllKeep sum P content cover) ds) same kept.each);
  }

  -- each started sync can be awaited after the call
  pub shorten_stands : StartsCanBeAwaited new.present
  shorten_stands = all_settled_stand new.present (goes_on_settled old.present new.present all (through_end (StartsGoOn old.present) old new on))

-- ---- what is readable stays the last whole state, where each call is done

pub looked_latest : (old new : Life) → Looked old new → old.present.readable ≡ latest old.present.base old.present.since → new.present.readable ≡ latest new.present.base new.present.since
looked_latest old new looked done =
    ap (λ (x : Disk). x.readable) looked.same ∙ done ∙ sym (ap (λ (x : Disk). latest x.base x.since) looked.same)

pub resize_latest : (len : ℕ) (old new : Life) (u : Unit {0}) → ResizeGoes len old new (Ok u) → old.present.readable ≡ latest old.present.base old.present.since → new.present.readable ≡ latest new.present.base new.present.since
resize_latest len old new u (d, goes, operated) done =
    subst (λ (life : Life). life.present.readable ≡ latest life.present.base life.present.since) (sym goes) (operated_latest (Resize len) (ResizeTo len) old.present d done operated)

pub write_latest : (offset : ℕ) (bytes : List ℕ) (sync : Bool) (old new : Life) (u : Unit {0}) → WriteGoes offset bytes sync old new (Ok u) → old.present.readable ≡ latest old.present.base old.present.since → new.present.readable ≡ latest new.present.base new.present.since
write_latest offset bytes true old new u (d, goes, operated) done = subst (λ (life : Life). life.present.readable ≡ latest life.present.base life.present.since) (sym goes) refl
write_latest offset bytes false old new u (d, goes, operated) done =
    subst (λ (life : Life). life.present.readable ≡ latest life.present.base life.present.since) (sym goes) (operated_latest (Write offset bytes) (WriteAt offset (length bytes) false) old.present d done operated)

pub sync_latest : (old new : Life) (answer : Result (Unit {0}) Error) → SyncGoes old new answer → old.present.readable ≡ latest old.present.base old.present.since → new.present.readable ≡ latest new.present.base new.present.since
sync_latest old new answer goes done = through_end (λ (d : Disk). d.readable ≡ latest d.base d.since) old new (sync_through (λ (d : Disk). d.readable ≡ latest d.base d.since) old new done answer refl done goes)

-- ---- a page that is cut short, where the text may end before it

-- the text ends before the page, or this slot holds the page's part of it
abbrev pub MayHold : (List ℕ → ℕ) → (P : ℕ) → List ℕ → (page : ℕ) → ActiveChecksum → Disk → Type 0
MayHold sum P told page f d = (length told < page * P) ⊎ HeldBy sum P told page f d

-- with nothing unsynced the slot of a page's value may hold it so
pub value_may_hold : (sum : List ℕ → ℕ) (P page : ℕ) (f : ActiveChecksum) (R : List ℕ) (d : Disk) → d.since ≡ [] → d.base ≡ R → (page + 1) * (P + 12) ≤ length R
    → AreBytes (take (P + 12) (drop (page * (P + 12)) R)) → active sum P (take (P + 12) (drop (page * (P + 12)) R)) ≡ Some f → MayHold sum P (text sum P R) page f d
value_may_hold sum P page f R d at_rest base reach are is =
    let told = text sum P R in
    let page_bytes = take (P + 12) (drop (page * (P + 12)) R) in
    let active_page = active_is sum P page_bytes f is in
    let some : 0 < P = omega (arith, active_page.some, active_page.fits) in
    let long : (q : ℕ) (one : List ℕ) → slice_get (pages P R) q ≡ Some one → P ≤ length one = λ q one here. omega (arith, length-page P q R one here) in
    let here : slice_get (pages P R) page ≡ Some page_bytes = pages_at P page R reach in
    elim (cases_order (page * P) (length told)) [
      | inl ends ↦ absurd (omega (arith, active_page.len, active_page.some, text_ends sum P (pages P R) page page_bytes some long here ends))
      | inr (inl below) ↦
          let part = has_part sum P (pages P R) page some long below in
          let same : part.page ≡ page_bytes = page_is P page R part.page part.there in
          inr (value_held sum P page f d at_rest R base are is (omega (arith, part.inside, active_page.len, ap (λ (l : List ℕ). value_len sum P l) same)))
      | inr (inr before) ↦ inl before
    ]

module _ (sum : List ℕ → ℕ) (P : ℕ) (told : List ℕ) (page : ℕ) (f : ActiveChecksum) where
  -- a call that keeps what the slot holds keeps `MayHold`
  pub may_hold_on : (old new : Life) → (HeldBy sum P told page f old.present → StaysHeld sum P told page f old new) → MayHold sum P told page f old.present → MayHold sum P told page f new.present
  may_hold_on old new stays (inl before) = inl before
  may_hold_on old new stays (inr held) = inr (through_end (HeldBy sum P told page f) old new (stays held))

  -- where a slot may hold the page's part of the text, the other slot may be written
  pub may_hold_spares : (F : ℕ) (d : Disk) → F ≤ length told → F ≤ page * P + f.len → MayHold sum P told page f d → Spares sum P told F page (other f.slot) d
  may_hold_spares F d within enough (inl before) = inl (omega (arith, within, before))
  may_hold_spares F d within enough (inr held) = inr (f, held, refl, enough)

  -- where a slot may hold the page's part of the text, the page's first bytes are the text's
  pub may_hold_payload : (len : ℕ) (d : Disk) → len ≤ f.len → MayHold sum P told page f d → page * P ≤ length told
      → take len (drop (page * (P + 12)) (latest d.base d.since)) ≡ take len (drop (page * P) told)
  may_hold_payload len d less (inl before) reached = absurd (omega (arith, before, reached))
  may_hold_payload len d less (inr held) reached =
      let start = page * (P + 12) in
      let bytes = latest d.base d.since in
      let all = take f.len (drop (page * P) told) in
      let as_long : length all ≡ f.len = length-take-le f.len (drop (page * P) told) (omega (arith, length-drop (page * P) told, held.guard.there)) in
      take_same len f.len (drop start bytes) (drop (page * P) told) less
      (ap (λ (n : ℕ). take n (drop start bytes)) (sym as_long) ∙ fixed_in_image d start all bytes held.guard.held.payload (latest_image d bytes refl))

  -- once the second write is durable the new slot may hold the page's part of the text
  pub published_may_hold : (R : List ℕ) (len crc : ℕ) (d : Disk) → IsSmall sum → P < 2 ^ 16 → MayHold sum P told page f d
      → d.since ≡ [] → d.base ≡ applied (published P page f.slot len) (applied (staged P page f.slot crc) R) → (page + 1) * (P + 12) ≤ length R
      → 0 < len → len ≤ f.len → crc ≡ sum (take len (drop (page * (P + 12)) R)) → MayHold sum P told page (record { slot = other f.slot; len = len; crc = crc }) d
  published_may_hold R len crc d small small_page (inl before) at_rest base reach some less is_sum = inl before
  published_may_hold R len crc d small small_page (inr held) at_rest base reach some less is_sum =
      inr (published_held sum P told R page f len crc d small small_page held at_rest base reach some less is_sum)

  -- once the second write is durable the old slot may be written
  pub published_spares : (F len crc : ℕ) (d : Disk) → F ≤ length told → F ≤ page * P + len → MayHold sum P told page (record { slot = other f.slot; len = len; crc = crc }) d → Spares sum P told F page f.slot d
  published_spares F len crc d within enough (inl before) = inl (omega (arith, within, before))
  published_spares F len crc d within enough (inr held) = inr (record { slot = other f.slot; len = len; crc = crc }, held, sym (other_other f.slot), enough)
