-- A whole run with a truncate for which the promise holds, and runs for which it doesn't. "abcdef" is durable, and a truncate is to
-- leave its first four bytes, a whole page. Pages have 4 bytes, and the checksum is their sum.
use Rattle.std.proofs.Common.{◌≡◌, ◌≤◌, ◌<◌, ◌+◌, ◌*◌, ℕ, zero, suc, min, List, [], ◌∷◌, ◌++◌, length, take, slice_get, refl, sym, ap, subst, ◌∙◌, inl, inr, arith, true, false}
use Rattle.std.specs.Prelude.{Some, None, Ok}
use Rattle.std.proofs.lemmas.Option.{same_Some}
use Rattle.disk.specs.Disk.{Disk, HasOperated, life_after, logged, next, settled_disk}
use Rattle.disk.specs.Disk.Operation.{Resize}
use Rattle.disk.specs.Disk.Request.{ResizeTo, SyncAll}
use Rattle.page.specs.Page.{verified_len}
use Rattle.page.specs.Sums.{add_sum}
use Rattle.page.specs.declared.slot.Slot.{Slot}
use Rattle.page.specs.declared.slot.Slot.TheVariants.{First, Second}
use Rattle.page.proofs.Examples.{abcd_page, ef_page}
use Rattle.crash.specs.Distinct.{IsDistinct, SlotIsDistinct}
use Rattle.crash.specs.Kept.{AllOnly}
use Rattle.crash.specs.Moments.{through_end}
use Rattle.crash.specs.Shrink.{HoldsText}
use Rattle.crash.proofs.Disks.{base_is_image, partial_whole}
use Rattle.crash.proofs.Moments.{keeps_longer}
use Rattle.crash.proofs.Promise.{keeps_at_rest}
use Rattle.writer_state.specs.WriterState.{WriterState}
use Rattle.writer_state.specs.declared.sync_state.SyncState.TheVariants.{Clean}
use Rattle.writer_state.proofs.ShortenLaws.{holds_at_rest, holds_keeps, holds_only, resize_holds}
use Rattle.writer_state.proofs.Examples.{and_then, durable, six, all_keep}
use Rattle.session.specs.declared.steps.Step.TheVariants.{Truncate}
use Rattle.session.specs.declared.steps.Reply.TheVariants.{Length}
use Rattle.session.specs.Run.{RunState, SessionState, Represents, last, raised}
use Rattle.session.specs.Promise.{Survives, EachStepIsExact, RunIsExact, Promises, session_of, fresh}
use Rattle.session.specs.Promise.ComesBack.{recovered, crashed}
use Rattle.session.proofs.PromiseLaws.{survives}
use Rattle.session.proofs.StepLaws.{keeps_fewer}
use Rattle.session.proofs.ComesBackExamples.{empty, life_of, rests, six_writer, six_come_back, an_empty_recovery}
use Rattle.session.proofs.PromiseExamples.{same_standing, no_covers, told_by}
use Rattle.session.proofs.RefusedExamples.{one_step}

-- ---- the disks

-- the page of "ef" was cut off, and that isn't durable yet
abbrev pub cut : Disk
cut = and_then (Resize 16) (ResizeTo 16) durable

-- and then the cut is durable
abbrev pub cut_saved : Disk
cut_saved = settled_disk (logged SyncAll false cut)

abbrev pub abcd : List ℕ
abcd = 97 ∷ 98 ∷ 99 ∷ 100 ∷ []

cut_is_done : HasOperated (Resize 16) (ResizeTo 16) false durable cut
cut_is_done = record { readable = partial_whole (Resize 16) (abcd_page ++ ef_page); done = λ fine. refl; rest = refl }

-- in the midst of the cut the slots hold "abcd", and there is nothing but "abcdef"
cut_holds : HoldsText add_sum 4 six 4 cut
cut_holds = through_end (HoldsText add_sum 4 six 4) (life_of durable) (next (life_of durable) cut)
    (resize_holds add_sum 4 six 4 1 (life_of durable) (next (life_of durable) cut) (Ok tt) (cut, refl, cut_is_done) (omega arith) (omega arith) (holds_at_rest add_sum 4 (abcd_page ++ ef_page) 4 durable (omega arith) refl refl (omega arith)))

cut_only : AllOnly add_sum 4 six abcd cut
cut_only = record { only = λ image is_image free. inl (holds_only add_sum 4 six 4 cut cut_holds image is_image free); vouched = cut_holds.vouched }

-- ---- what each of them survives

pub six_survive : (other : List ℕ) (floor : ℕ) → floor ≤ 6 → Survives add_sum 4 six other floor durable
six_survive other floor few = survives add_sum 4 six other floor durable few (keeps_fewer add_sum 4 six floor 6 durable few all_keep) (rests six other six durable refl refl refl)

-- the cut keeps each floor up to four bytes, before it is durable too
pub cut_survives : (floor : ℕ) → floor ≤ 4 → Survives add_sum 4 six abcd floor cut
cut_survives floor few = survives add_sum 4 six abcd floor cut (omega arith) (holds_keeps add_sum 4 six 4 cut cut_holds floor few) cut_only

pub saved_cut_survives : (floor : ℕ) → floor ≤ 4 → Survives add_sum 4 six abcd floor cut_saved
saved_cut_survives floor few =
    survives add_sum 4 six abcd floor cut_saved (omega arith) (keeps_longer add_sum 4 abcd six floor cut_saved refl few (keeps_fewer add_sum 4 abcd floor 4 cut_saved few (keeps_at_rest add_sum 4 cut_saved refl))) (rests six abcd abcd cut_saved refl refl refl)

pub abcd_survive : Survives add_sum 4 abcd abcd 4 cut_saved
abcd_survive = survives add_sum 4 abcd abcd 4 cut_saved (omega arith) (keeps_at_rest add_sum 4 cut_saved refl) (rests abcd abcd abcd cut_saved refl refl refl)

-- ---- a run

-- "abcdef", of which every crash keeps so much
abbrev pub six_with : (floor : ℕ) → RunState
six_with floor = record (fresh 4 8 six) { floor = floor }

-- the truncate resizes the blob and syncs it. From its start on no more than four bytes of the
-- floor are kept, and these are kept at each moment; at its end "abcd" is all that may come back
pub a_cut_tells : (floor : ℕ) → floor ≤ 6 → EachStepIsExact add_sum 4 (Truncate 4 ∷ []) (Length 4 ∷ []) durable (cut ∷ cut_saved ∷ []) (six_with floor) (fresh 4 8 abcd)
a_cut_tells floor few = (
  six_survive six floor few,
  cut ∷ cut_saved ∷ [],
  [],
  refl,
  fresh 4 8 abcd,
  ((refl, refl), (λ over. absurd over, λ passes. absurd passes)),
  (six_survive abcd (min 4 floor) (omega arith), (cut_survives (min 4 floor) (omega arith), (saved_cut_survives (min 4 floor) (omega arith), tt))),
  (refl, refl, abcd_survive),
)

-- ---- the promise

-- the writer of "abcd", a full page
abbrev pub abcd_writer : WriterState
abcd_writer = record { page_size = 4; id = 0; capacity = 8; full_pages = 1; tip = []; flushed = None; durable = None; sync = Clean }

pub abcd_stand : Represents add_sum 4 (session_of abcd_writer) (fresh 4 8 abcd) cut_saved
abcd_stand = record {
  fits = record { page_size = refl; has_writer = refl; content = refl; otherwise = refl; capacity = refl; buffered = refl; within = omega arith; written = refl; awaited = refl };
  phase = refl;
  names = λ name. refl;
  floor = omega arith;
  within = λ k x lt. absurd (omega (arith, lt));
  kept = keeps_at_rest add_sum 4 cut_saved refl;
  covered = λ k x lt. absurd (omega (arith, lt));
  only = rests abcd abcd abcd cut_saved refl refl refl;
  snapshots = refl;
  replays = refl;
}

pub six_stand_so : Represents add_sum 4 (session_of six_writer) (six_with 6) durable
six_stand_so = record {
  fits = record { page_size = refl; has_writer = refl; content = refl; otherwise = refl; capacity = refl; buffered = refl; within = omega arith; written = refl; awaited = refl };
  phase = refl;
  names = λ name. refl;
  floor = omega arith;
  within = λ k x lt. absurd (omega (arith, lt));
  kept = all_keep;
  covered = λ k x lt. absurd (omega (arith, lt));
  only = rests six six six durable refl refl refl;
  snapshots = refl;
  replays = refl;
}

-- a session of "abcdef" stands for that with a floor up to six
six_stood_for : (P : ℕ) (before : RunState) → Represents add_sum P (session_of six_writer) before durable → (P ≡ 4) × (before ≡ six_with before.floor) × (before.floor ≤ 6)
six_stood_for P before stands = (
  sym stands.fits.page_size,
  same_standing before (six_with before.floor) stands.fits.has_writer (sym stands.phase) stands.fits.content refl (stands.fits.otherwise ∙ stands.fits.content) (sym stands.fits.capacity) (sym stands.fits.buffered) stands.fits.written stands.fits.awaited
      (no_covers before.covers stands.names) stands.snapshots stands.replays,
  omega (arith, stands.floor, ap length stands.fits.content),
)

pub a_cut_is_told : (floor : ℕ) → floor ≤ 6 → RunIsExact add_sum 4 (Truncate 4 ∷ []) (session_of abcd_writer) (life_of durable) (life_after (life_of durable) (cut ∷ cut_saved ∷ [])) [] (Length 4 ∷ []) (six_with floor)
a_cut_is_told floor few = record { added = Length 4 ∷ []; adds = refl; moments = cut ∷ cut_saved ∷ []; goes = refl; after = fresh 4 8 abcd; tells = a_cut_tells floor few; stands = abcd_stand }

-- "abcdef" is cut to "abcd": that is promised
pub a_promise_of_a_cut : Promises add_sum (Truncate 4 ∷ []) (session_of six_writer) (session_of abcd_writer) (life_of durable) (life_after (life_of durable) (cut ∷ cut_saved ∷ [])) [] (Length 4 ∷ [])
a_promise_of_a_cut P before stands =
    let stood = six_stood_for P before stands in
    subst (λ (n : ℕ). RunIsExact add_sum n (Truncate 4 ∷ []) (session_of abcd_writer) (life_of durable) (life_after (life_of durable) (cut ∷ cut_saved ∷ [])) [] (Length 4 ∷ []) before) (sym stood.0)
    (subst (λ (s : RunState). RunIsExact add_sum 4 (Truncate 4 ∷ []) (session_of abcd_writer) (life_of durable) (life_after (life_of durable) (cut ∷ cut_saved ∷ [])) [] (Length 4 ∷ []) s) (sym stood.1) (a_cut_is_told before.floor stood.2))

-- ---- runs for which it doesn't hold

-- the end of such a run survives with "abcd", whatever its moments were
ends_with_abcd : (moments : List Disk) (after : RunState) → EachStepIsExact add_sum 4 (Truncate 4 ∷ []) (Length 4 ∷ []) durable moments (six_with 6) after → Survives add_sum 4 abcd abcd 4 (last durable moments)
ends_with_abcd moments after told =
    let there : last durable moments ≡ last durable told.1 = one_step (Truncate 4) (Length 4) durable moments (six_with 6) after told in
    let at_the_end : Survives add_sum 4 abcd abcd 4 (last durable told.1) = subst (λ (s : RunState). Survives add_sum 4 s.content s.otherwise (raised (last durable told.1) s).floor (last durable told.1)) told.5.0.1 told.7.2 in
    subst (λ (d : Disk). Survives add_sum 4 abcd abcd 4 d) (sym there) at_the_end

-- a cut that went too far: a floor is lost
pub no_cut_too_far : (after : RunState) → EachStepIsExact add_sum 4 (Truncate 4 ∷ []) (Length 4 ∷ []) durable (cut ∷ empty ∷ []) (six_with 6) after → ⊥
no_cut_too_far after told =
    let s : Survives add_sum 4 abcd abcd 4 empty = ends_with_abcd (cut ∷ empty ∷ []) after told in
    omega (arith, ap length (s.kept true [] (recovered empty [] (an_empty_recovery true))))

pub no_promise_of_a_cut_too_far : (now : SessionState) → Promises add_sum (Truncate 4 ∷ []) (session_of six_writer) now (life_of durable) (life_after (life_of durable) (cut ∷ empty ∷ [])) [] (Length 4 ∷ []) → ⊥
no_promise_of_a_cut_too_far now promise =
    let told = told_by durable (six_with 6) (Truncate 4 ∷ []) now (Length 4 ∷ []) (cut ∷ empty ∷ []) (promise 4 (six_with 6) six_stand_so) in
    no_cut_too_far told.0 told.1

-- before its sync a crash may undo a cut: the base of the disk, which says "abcdef", is distinct
slots_of_abcd : (s : Slot) → 0 < verified_len add_sum 4 s abcd_page → SlotIsDistinct add_sum 4 cut 0 abcd_page s (verified_len add_sum 4 s abcd_page)
slots_of_abcd First some = record { whole = durable.base; held = abcd_page; is_whole = inl refl; there = refl; same = refl; apart = λ verified sums. refl; uncut = λ each. there }
  where
    there : (i byte : ℕ) → slice_get (take 4 abcd_page) i ≡ Some byte → slice_get (abcd_page ++ ef_page) (0 * 16 + i) ≡ Some byte
    there zero byte here = here
    there (suc zero) byte here = here
    there (suc (suc zero)) byte here = here
    there (suc (suc (suc zero))) byte here = here
    there (suc (suc (suc (suc i)))) byte here = absurd (cc here)
slots_of_abcd Second some = absurd (omega (arith, some))

slots_of_ef : (s : Slot) → 0 < verified_len add_sum 4 s ef_page → SlotIsDistinct add_sum 4 cut 1 ef_page s (verified_len add_sum 4 s ef_page)
slots_of_ef First some = record { whole = durable.base; held = ef_page; is_whole = inl refl; there = refl; same = refl; apart = λ verified sums. refl; uncut = λ each. there }
  where
    there : (i byte : ℕ) → slice_get (take 2 ef_page) i ≡ Some byte → slice_get (abcd_page ++ ef_page) (1 * 16 + i) ≡ Some byte
    there zero byte here = here
    there (suc zero) byte here = here
    there (suc (suc i)) byte here = absurd (cc here)
slots_of_ef Second some = absurd (omega (arith, some))

uncut_is_distinct : IsDistinct add_sum 4 cut (abcd_page ++ ef_page)
uncut_is_distinct zero page is = subst (λ (l : List ℕ). (s : Slot) → 0 < verified_len add_sum 4 s l → SlotIsDistinct add_sum 4 cut 0 l s (verified_len add_sum 4 s l)) (same_Some abcd_page page is) slots_of_abcd
uncut_is_distinct (suc zero) page is = subst (λ (l : List ℕ). (s : Slot) → 0 < verified_len add_sum 4 s l → SlotIsDistinct add_sum 4 cut 1 l s (verified_len add_sum 4 s l)) (same_Some ef_page page is) slots_of_ef
uncut_is_distinct (suc (suc p)) page is = absurd (cc is)

-- so a cut that isn't synced leaves bytes that may come back, and it is no exact run
pub no_cut_without_a_sync : (after : RunState) → EachStepIsExact add_sum 4 (Truncate 4 ∷ []) (Length 4 ∷ []) durable (cut ∷ []) (six_with 6) after → ⊥
no_cut_without_a_sync after told =
    let s : Survives add_sum 4 abcd abcd 4 cut = ends_with_abcd (cut ∷ []) after told in
    let comes = crashed cut six durable (record { crashed = record { image = base_is_image cut; durable = record { since = refl; base = refl } }; free = λ fair. uncut_is_distinct }) (six_come_back true) in
    elim (s.only six comes) [ inl is ↦ omega (arith, ap length is) | inr is ↦ omega (arith, ap length is) ]

pub no_promise_of_a_cut_without_a_sync : (now : SessionState) → Promises add_sum (Truncate 4 ∷ []) (session_of six_writer) now (life_of durable) (life_after (life_of durable) (cut ∷ [])) [] (Length 4 ∷ []) → ⊥
no_promise_of_a_cut_without_a_sync now promise =
    let told = told_by durable (six_with 6) (Truncate 4 ∷ []) now (Length 4 ∷ []) (cut ∷ []) (promise 4 (six_with 6) six_stand_so) in
    no_cut_without_a_sync told.0 told.1
