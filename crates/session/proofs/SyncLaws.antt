-- What a sync does.
use Rattle.std.proofs.Common.{◌≡◌, ℕ, ◌+◌, ◌<◌, ◌≤◌, List, [], length, refl, sym, ap, ◌∙◌, subst, arith, append-nil, inl, inr, Bool, true, false, Ok, Err, Result, ◌%◌, lit<}
use Rattle.std.specs.Prelude.{Option, Some, None, nat_eq, if◌then◌else◌}
use Rattle.disk.specs.Disk.{Disk, Life, life_after}
use Rattle.disk.specs.declared.error.Error.{Error}
use Rattle.disk.specs.declared.error.Error.TheVariants.{ReadFailed, WriteFailed, ResizeFailed, SyncFailed, InvalidChecksum, BlobInsufficientLength, OffsetOverflow, OutOfMemory, IdsExhausted}
use Rattle.crash.specs.Kept.{AllKeep, Through, Moments}
use Rattle.crash.specs.Started.{CoversThrough}
use Rattle.writer_state.specs.WriterState.{WriterState}
use Rattle.writer_state.specs.Sound.{IsSound, content as content_of}
use Rattle.crash.specs.Stays.{Stays, StaysThrough}
use Rattle.paged.specs.Flush.{has_work}
use Rattle.paged.specs.Calls.{CallCause, Succeeds, Syncs, IsSettled, HoldsWithin, sync_calls, start_calls}
use Rattle.paged.proofs.Halves.{syncs_stay, sync_keeps_all}
use Rattle.session.specs.declared.steps.Step.TheVariants.{Sync}
use Rattle.session.specs.declared.steps.Reply.TheVariants.{Done, Fault}
use Rattle.session.specs.Run.{RunState, SessionState, after_sync, ended, needs_sync, HasCause, use_of_wait, UsesDevice, AllCover, pending_in, WriterRepresents}
use Rattle.session.specs.Run.DeviceUse.{Changes}
use Rattle.session.proofs.Words.{SyncTold}
use Rattle.session.proofs.Apart.{AlwaysApart, StandsApart}
use Rattle.session.proofs.StepLaws.{held, no_moments, turned_here, few_calls, halves, each_end, itself, stepped, stands_now, stands_ended, Halves}
use Rattle.session.proofs.AppendLaws.{rest_left, settled_started, settled_awaits, sync_needed, calls_few, calls_written, wait_none, wait_one, had_failed_as, owed_starts}

-- ---- syncs

-- what holds at each moment of a sync
sync_through : (sum : List ℕ → ℕ) (was : SessionState) (P : ℕ) (w : WriterState) (old new : Life) (result : Result WriterState Error) (before : RunState) → Syncs sum w old new result → StandsApart sum P (held was (Some w)) before old.present
    → StaysThrough sum P before.content old new
sync_through sum was P w old new result before syncs stands =
    subst (λ (n : ℕ). StaysThrough sum n before.content old new) stands.fits.page_size
    (subst (λ (l : List ℕ). StaysThrough sum w.page_size l old new) (sym stands.fits.content) (syncs_stay sum w old new result syncs))

-- what is buffered once all was written
pub left_buffered : (sum : List ℕ → ℕ) (was : SessionState) (P : ℕ) (w v : WriterState) (old new : Life) (before : RunState) → IsSound sum w old.present → StandsApart sum P (held was (Some w)) before old.present → Succeeds sum w old [] v new
    → length v.tip < v.page_size → length v.tip ≡ before.buffered % P
left_buffered sum was P w v old new before sound stands goes short =
    rest_left sum w v old new [] sound goes short ∙ ap (λ (k : ℕ). k % w.page_size) (omega (arith, stands.fits.buffered)) ∙ ap (λ (k : ℕ). before.buffered % k) stands.fits.page_size

-- so both halves hold at each moment, where the content stays, and the covers
pub same_halves : (sum : List ℕ → ℕ) (was : SessionState) (P : ℕ) (w : WriterState) (old new : Life) (before : RunState) → StandsApart sum P (held was (Some w)) before old.present
    → (through : Moments (Stays sum P before.content old.present) old new) → CoversThrough sum P before.content old new → Halves sum P before.content before.content before.floor before.covers old new through.moments
same_halves sum was P w old new before stands through covering =
    halves sum P before.content before.content before.floor before.covers old new (itself before.content) (omega arith) stands.floor stands.within through covering stands.kept stands.covered

-- what a session stands for once all is durable
pub synced_stands : (sum : List ℕ → ℕ) (was : SessionState) (P : ℕ) (w v : WriterState) (old new : Life) (before : RunState) → IsSound sum w old.present → StandsApart sum P (held was (Some w)) before old.present → Succeeds sum w old [] v new → IsSettled v
    → HoldsWithin v → AllKeep sum w.page_size (content_of w old.present.readable) (length (content_of w old.present.readable)) new.present → AllCover sum P before.content before.covers new.present → Stays sum P before.content old.present new.present
    → StandsApart sum P (held was (Some v)) (after_sync P before) new.present
synced_stands sum was P w v old new before sound stands goes settled within durable covered stays =
    let fits = stands.fits in
    let all : AllKeep sum P before.content (length before.content) new.present =
    subst (λ (n : ℕ). AllKeep sum n before.content (length before.content) new.present) fits.page_size
    (subst (λ (l : List ℕ). AllKeep sum w.page_size l (length l) new.present) (sym fits.content) durable) in
    let rest = left_buffered sum was P w v old new before sound stands goes settled.short in
    stands_now sum P was v old new (after_sync P before)
    (record {
      page_size = goes.same.page_size ∙ fits.page_size;
      has_writer = fits.has_writer;
      content = fits.content ∙ sym (append-nil (content_of w old.present.readable)) ∙ sym goes.content;
      otherwise = fits.otherwise;
      capacity = goes.same.capacity ∙ fits.capacity;
      buffered = rest;
      within = omega (arith, within, rest, goes.same.capacity, fits.capacity);
      written = settled_started v settled;
      awaited = settled_awaits v settled;
    })
    stands.phase stands.names (omega arith) stands.within all covered stays

-- the calls of a sync
sync_touch : (w : WriterState) (P : ℕ) (before : RunState) (old new : Life) (moments : List Disk) → WriterRepresents P w before old.present → new ≡ life_after old moments → length new.present.log ≤ length old.present.log + sync_calls w
    → (sync_calls w ≡ 0 → new ≡ old) → UsesDevice (if before.written then use_of_wait before.awaited else Changes 2) old.present moments
sync_touch w P before old new moments fits goes few idle = by_written before.written before.awaited fits.written fits.awaited
  where
    by_written : (written : Bool) (awaited : Option ℕ) → written ≡ nat_eq (start_calls w) 0 → awaited ≡ pending_in w.sync → UsesDevice (if written then use_of_wait awaited else Changes 2) old.present moments
    by_written true None is none = no_moments old new moments goes (idle (calls_written (has_work w true) w.sync is ∙ wait_none w.sync none))
    by_written true (Some name) is some = few_calls old new moments 1 goes (omega (arith, few, calls_written (has_work w true) w.sync is, wait_one w.sync))
    by_written false awaited is some = few_calls old new moments 2 goes (omega (arith, few, calls_few (has_work w true) w.sync))

-- a sync that is done
pub sync_steps : (sum : List ℕ → ℕ) (was : SessionState) (w v : WriterState) (old new : Life) → IsSound sum w old.present → SyncTold sum w old new (Ok v) → AlwaysApart sum Sync Done (held was (Some w)) (held was (Some v)) old new
unfolding Through
sync_steps sum was w v old new sound says = λ P before stands.
    let fits = stands.fits in
    let through = sync_through sum was P w old new (Ok v) before says.syncs stands in
    let h = same_halves sum was P w old new before stands through (owed_starts sum P was w old new before stands says.owes) in
    let covered = each_end (AllCover sum P before.content before.covers) old new through.moments h.goes h.covered in
    stepped sum P Sync Done (held was (Some v)) old new before (after_sync P before) through.moments fits.has_writer (turned_here before.has_writer fits.has_writer) h
    (sync_touch w P before old new through.moments fits h.goes says.calls (λ none. (says.idle none).1)) refl (λ none. absurd none, λ none. absurd none)
    (synced_stands sum was P w v old new before sound stands says.syncs.0 says.syncs.1 says.within (sync_keeps_all sum w old new (Ok v) says.syncs) covered h.stays)

-- why a sync is refused
sync_cause : (P : ℕ) (w : WriterState) (before : RunState) (old new : Life) (e : Error) → needs_sync before ≡ true → before.awaited ≡ pending_in w.sync → CallCause w.sync old new e → HasCause P Sync before old.present new.present e
sync_cause P w before old new ReadFailed work awaited cause = absurd cause
sync_cause P w before old new WriteFailed work awaited cause = ((0, lit< tt, refl), cause)
sync_cause P w before old new ResizeFailed work awaited cause = absurd cause
sync_cause P w before old new SyncFailed work awaited cause = ((1, lit< tt, refl), elim cause [ inl failed ↦ inl failed | inr had ↦ inr (had_failed_as w.sync before.awaited old.present awaited had) ])
sync_cause P w before old new InvalidChecksum work awaited cause = absurd cause
sync_cause P w before old new BlobInsufficientLength work awaited cause = absurd cause
sync_cause P w before old new OffsetOverflow work awaited cause = absurd cause
sync_cause P w before old new OutOfMemory work awaited cause = work
sync_cause P w before old new IdsExhausted work awaited cause = absurd cause

-- a sync that is refused
pub sync_refused_steps : (sum : List ℕ → ℕ) (was : SessionState) (w : WriterState) (e : Error) (old new : Life) → SyncTold sum w old new (Err e) → AlwaysApart sum Sync (Fault e) (held was (Some w)) (held was None) old new
unfolding Through
sync_refused_steps sum was w e old new says = λ P before stands.
    let fits = stands.fits in
    let through = sync_through sum was P w old new (Err e) before says.syncs stands in
    let h = same_halves sum was P w old new before stands through (owed_starts sum P was w old new before stands says.owes) in
    let work = sync_needed w P before old.present fits (λ none. let same : Err e ≡ Ok w = (says.idle none).0 in absurd (cc same)) in
    let cause = sync_cause P w before old new e work fits.awaited says.syncs.cause in
    stepped sum P Sync (Fault e) (held was None) old new before (ended before.content before) through.moments fits.has_writer (turned_here before.has_writer fits.has_writer) h
    (sync_touch w P before old new through.moments fits h.goes says.calls (λ none. (says.idle none).1))
    (cause, refl) (λ none. absurd none, λ none. absurd none) (stands_ended sum P was w old new before before.content through.moments stands h)
