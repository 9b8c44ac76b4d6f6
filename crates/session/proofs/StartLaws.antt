-- What the steps on started syncs do, and the end of a recovery.
use Rattle.std.proofs.Common.{◌≡◌, ◌⊎◌, ℕ, zero, suc, ◌+◌, ◌<◌, ◌≤◌, List, [], ◌∷◌, length, slice_get, refl, sym, ap, ◌∙◌, subst, arith, append-nil, length-append, inl, inr, Bool, true, false, Ok, Err, Result, lit<, lit≤}
use Rattle.std.specs.Prelude.{All, Option, Some, None, nat_le, nat_lt, nat_eq, drop, ◌-◌, if◌then◌else◌, is_some, IfOk, ◌||◌}
use Rattle.std.proofs.lemmas.Bool.{false≢true}
use Rattle.std.proofs.lemmas.Bool.Decides.{nat_tests}
use Rattle.disk.specs.Disk.{Disk, Life, WaitSync as WaitCall, next, life_after, logged, coverings, disk_settled_to, failed_at, WaitGoes}
use Rattle.disk.specs.declared.started_sync.StartedSync.{StartedSync}
use Rattle.disk.specs.declared.started_sync.StartedSync.TheVariants.{Done as AllDone, Named}
use Rattle.disk.specs.declared.error.Error.{Error}
use Rattle.disk.specs.declared.error.Error.TheVariants.{ReadFailed, WriteFailed, ResizeFailed, SyncFailed, InvalidChecksum, BlobInsufficientLength, OffsetOverflow, OutOfMemory, IdsExhausted}
use Rattle.cache.specs.CacheState.{CacheState}
use Rattle.crash.specs.Kept.{AllKeep, AllOnly, Each, Through}
use Rattle.crash.specs.Started.{WouldKeep, StartsCanBeAwaited}
use Rattle.writer_state.specs.WriterState.{WriterState, started_state}
use Rattle.writer_state.specs.declared.sync_state.SyncState.{SyncState}
use Rattle.writer_state.specs.declared.sync_state.SyncState.TheVariants.{Clean, Dirty, Pending}
use Rattle.writer_state.specs.Sound.{IsSound, content as content_of}
use Rattle.crash.specs.Stays.{StaysThrough}
use Rattle.crash.proofs.BuiltLaws.{IsSmall}
use Rattle.writer_state.proofs.Soundness.{consistent_of, intact_still, sound_of as sound_with}
use Rattle.paged.proofs.Waits.{wait_readable}
use Rattle.writer_state.proofs.StartedLaws.{wait_leaves, covering_of}
use Rattle.writer_state.proofs.StandLaws.{WaitKeeps, wait_keeps}
use Rattle.paged.specs.Flush.{has_work}
use Rattle.paged.specs.Calls.{CallCause, Succeeds, Fails as CallRefuses, IsSettled, started_already, sync_calls, start_calls, wait_calls, unstarted_calls, waited_state, waited_writer, SettlesBy}
use Rattle.session.specs.declared.steps.Step.TheVariants.{StartSync, Wait, WaitSync, Needs, Begin}
use Rattle.session.specs.declared.steps.Reply.{Reply}
use Rattle.session.specs.declared.steps.Reply.TheVariants.{At, Nothing, Done, Started, Answer, Length, Bytes, Fault, Closed, NotRecovering, NoSuch, Served, Missed, BadRanges, Taken, Sealed, NotAppending, Replaying}
use Rattle.session.specs.Run.{RunReplay, RunState, SessionState, ended, starting, after_wait, answer_of_start, is_complete, HasCompleted, turned_away, AnswersStep, HasCause, AwaitedSyncFailed, TakesStep, use_of_wait, last, UsesDevice, AllCover, pending_in, WriterRepresents, WriterFits, NamesFit, HasSoundWriter}
use Rattle.session.specs.Run.DeviceUse.{Leaves, Changes}
use Rattle.session.specs.Calls.{KeepsRest, names_after, with_name, DidStartSync, Waits, DidWaitFor, is_given, DidNeeds as SaysNeeds, DidBegin, KeepsSnapshots}
use Rattle.session.proofs.Words.{StartTold, WaitTold}
use Rattle.session.proofs.WordLaws.{start_told, wait_told}
use Rattle.session.proofs.StepLaws.{held, held_same, last_is, no_moments, answers_away, answers_here, turned_here, turned_closed, leaves, few_calls, raised_within, only_there, Halves, each_end, stepped, unasked, stands_now, stands_ended}
use Rattle.session.proofs.AppendLaws.{written_no_work, needs_is, had_failed_as, wait_none, wait_one, owed_starts}
use Rattle.session.proofs.SyncLaws.{same_halves, left_buffered, synced_stands}
use Rattle.session.proofs.NameLaws.{given_with}
use Rattle.session.proofs.SessionLaws.{closed_takes, held_takes, sound_of, same_rest}
use Rattle.session.proofs.Apart.{AlwaysApart, IsReadyApart, StandsApart, SteppedApart, StepsApart}

-- ---- what the calls guarantee

-- what holds at each moment of a call that leaves the content
pub goes_through : (sum : List ℕ → ℕ) (P : ℕ) (was : SessionState) (w v : WriterState) (old new : Life) (before : RunState) → StandsApart sum P (held was (Some w)) before old.present → Succeeds sum w old [] v new → StaysThrough sum P before.content old new
goes_through sum P was w v old new before stands goes =
    subst (λ (n : ℕ). StaysThrough sum n before.content old new) stands.fits.page_size
    (subst (λ (l : List ℕ). StaysThrough sum w.page_size l old new) (append-nil (content_of w old.present.readable) ∙ sym stands.fits.content) goes.stays)

-- what holds at each moment of such a call that is refused
pub refused_through : (sum : List ℕ → ℕ) (P : ℕ) (was : SessionState) (w : WriterState) (old new : Life) (e : Error) (before : RunState) → StandsApart sum P (held was (Some w)) before old.present → CallRefuses sum w (content_of w old.present.readable) old new e
    → StaysThrough sum P before.content old new
refused_through sum P was w old new e before stands refuses =
    subst (λ (n : ℕ). StaysThrough sum n before.content old new) stands.fits.page_size
    (subst (λ (l : List ℕ). StaysThrough sum w.page_size l old new) (sym stands.fits.content) refuses.stays)

-- ---- starting a sync

-- what starting a sync answers
answer_is : (state : SyncState) (awaited : Option ℕ) → awaited ≡ pending_in state → started_already state ≡ elim awaited [ None ↦ AllDone | Some name ↦ Named name ]
answer_is Clean awaited is = ap (λ (o : Option ℕ). elim o [ None ↦ AllDone | Some name ↦ Named name ]) (sym is)
answer_is Dirty awaited is = ap (λ (o : Option ℕ). elim o [ None ↦ AllDone | Some name ↦ Named name ]) (sym is)
answer_is (Pending name) awaited is = ap (λ (o : Option ℕ). elim o [ None ↦ AllDone | Some name ↦ Named name ]) (sym is)

-- whether starting a sync makes a call
pub no_start : (n : ℕ) → true ≡ nat_eq n 0 → n ≡ 0
no_start n is = grind (arith, nat_tests, is)

some_start : (n : ℕ) → false ≡ nat_eq n 0 → 0 < n
some_start n is = grind (arith, nat_tests, is)

starts_few : (work : Bool) (state : SyncState) → (if work then wait_calls state + 2 else unstarted_calls state) ≤ 3
starts_few true Clean = lit≤ tt
starts_few true Dirty = lit≤ tt
starts_few true (Pending name) = lit≤ tt
starts_few false Clean = lit≤ tt
starts_few false Dirty = lit≤ tt
starts_few false (Pending name) = lit≤ tt

-- a written writer that has no sync to start
written_started : (work : Bool) (sync : StartedSync) (state : SyncState) → work ≡ false → state ≡ started_state sync → true ≡ nat_eq (if work then wait_calls state + 2 else unstarted_calls state) 0
written_started true sync state idle is = absurd (false≢true (sym idle))
written_started false AllDone state idle is = sym (ap (λ (s : SyncState). nat_eq (unstarted_calls s) 0) is)
written_started false (Named name) state idle is = sym (ap (λ (s : SyncState). nat_eq (unstarted_calls s) 0) is)

-- one name more
pub name_more : (names : List ℕ) (covers : List (ℕ × ℕ)) (name cover : ℕ) → NamesFit names covers → NamesFit (with_name name names) ((name, cover) ∷ covers)
name_more names covers name cover fits = λ asked. given_with names name asked ∙ ap (λ (b : Bool). nat_eq name asked || b) (fits asked)

-- the touch of starting a sync
start_touch : (w : WriterState) (P : ℕ) (before : RunState) (old new : Life) (moments : List Disk) → WriterRepresents P w before old.present → new ≡ life_after old moments → length new.present.log ≤ length old.present.log + start_calls w
    → (start_calls w ≡ 0 → new ≡ old) → UsesDevice (if before.written then Leaves else Changes 3) old.present moments
start_touch w P before old new moments fits goes few idle = by_written before.written fits.written
  where
    by_written : (written : Bool) → written ≡ nat_eq (start_calls w) 0 → UsesDevice (if written then Leaves else Changes 3) old.present moments
    by_written true is = no_moments old new moments goes (idle (no_start (start_calls w) is))
    by_written false is = few_calls old new moments 3 goes (omega (arith, few, starts_few (has_work w true) w.sync))

-- what starting a sync answers, by the standing
start_answer : (sum : List ℕ → ℕ) (w v : WriterState) (sync : StartedSync) (P : ℕ) (before : RunState) (old new : Life) → WriterRepresents P w before old.present → StartTold sum w old new (Ok (v, sync)) → sync ≡ answer_of_start before old.present
start_answer sum w v sync P before old new fits says = by_written before.written fits.written
  where
    second : (r : Result (WriterState × StartedSync) Error) → r ≡ Ok (w, started_already w.sync) → IfOk r (λ p. p.1 ≡ started_already w.sync)
    second r is = subst (λ (x : Result (WriterState × StartedSync) Error). IfOk x (λ p. p.1 ≡ started_already w.sync)) (sym is) refl

    by_written : (written : Bool) → written ≡ nat_eq (start_calls w) 0 → sync ≡ (if written then elim before.awaited [ None ↦ AllDone | Some name ↦ Named name ] else Named (length old.present.started))
    by_written true is = second (Ok (v, sync)) (says.idle (no_start (start_calls w) is)).0 ∙ answer_is w.sync before.awaited fits.awaited
    by_written false is = says.fresh (some_start (start_calls w) is)

-- what holds of one element more
pub all_more : (Q : ℕ × ℕ → Type 0) (c : ℕ × ℕ) (cs : List (ℕ × ℕ)) → Q c → All Q cs → All Q (c ∷ cs)
all_more Q c cs one more zero d lt = one
all_more Q c cs one more (suc k) d lt = more k d (omega (arith, lt))

-- what a session stands for once a sync was started
started_stands : (sum : List ℕ → ℕ) (P : ℕ) (was : SessionState) (w v : WriterState) (sync : StartedSync) (old new : Life) (before : RunState) (moments : List Disk) → IsSound sum w old.present → StandsApart sum P (held was (Some w)) before old.present
    → StartTold sum w old new (Ok (v, sync)) → Halves sum P before.content before.content before.floor before.covers old new moments
    → StandsApart sum P (record was { writer = Some v; names = names_after sync was.names }) (starting P sync before) new.present
started_stands sum P was w v AllDone old new before moments sound stands says h =
    let s = says.starts_sync in
    let settled : IsSettled v = record { clean = s.2; short = s.1.short; flushed = s.1.flushed } in
    synced_stands sum was P w v old new before sound stands s.0 settled says.within s.3 (each_end (AllCover sum P before.content before.covers) old new moments h.goes h.covered) h.stays
started_stands sum P was w v (Named name) old new before moments sound stands says h =
    let fits = stands.fits in
    let s = says.starts_sync in
    let goes = s.0 in
    let rest = left_buffered sum was P w v old new before sound stands goes s.1.short in
    let covered : AllCover sum P before.content before.covers new.present = each_end (AllCover sum P before.content before.covers) old new moments h.goes h.covered in
    let newest : WouldKeep sum P before.content name (length before.content) new.present =
    subst (λ (n : ℕ). WouldKeep sum n before.content name (length before.content) new.present) fits.page_size
    (subst (λ (l : List ℕ). WouldKeep sum w.page_size l name (length l) new.present) (sym fits.content) s.3) in
    stands_now sum P (record was { names = with_name name was.names }) v old new (starting P (Named name) before)
    (record {
      page_size = goes.same.page_size ∙ fits.page_size;
      has_writer = fits.has_writer;
      content = fits.content ∙ sym (append-nil (content_of w old.present.readable)) ∙ sym goes.content;
      otherwise = fits.otherwise;
      capacity = goes.same.capacity ∙ fits.capacity;
      buffered = rest;
      within = omega (arith, says.within, rest, goes.same.capacity, fits.capacity);
      written = written_started (has_work v true) (Named name) v.sync (written_no_work v s.1.short s.1.flushed) s.2;
      awaited = sym (ap pending_in s.2);
    })
    stands.phase (name_more was.names before.covers name (length before.content) stands.names) stands.floor
    (all_more (λ (c : ℕ × ℕ). c.1 ≤ length before.content) (name, length before.content) before.covers (omega arith) stands.within) (each_end (AllKeep sum P before.content before.floor) old new moments h.goes h.kept)
    (all_more (λ (c : ℕ × ℕ). WouldKeep sum P before.content c.0 c.1 new.present) (name, length before.content) before.covers newest covered) h.stays

-- starting a sync leaves the snapshots
pub starting_same : (P : ℕ) (sync : StartedSync) (s : RunState) → (starting P sync s).snapshots ≡ s.snapshots
starting_same P AllDone s = refl
starting_same P (Named name) s = refl

-- and the replays
pub starting_keeps : (P : ℕ) (sync : StartedSync) (s : RunState) → (starting P sync s).replays ≡ s.replays
starting_keeps P AllDone s = refl
starting_keeps P (Named name) s = refl

-- a sync that is started
start_steps : (sum : List ℕ → ℕ) (was : SessionState) (w v : WriterState) (sync : StartedSync) (old new : Life) → IsSound sum w old.present → StartTold sum w old new (Ok (v, sync))
    → AlwaysApart sum StartSync (Started sync) (held was (Some w)) (record was { writer = Some v; names = names_after sync was.names }) old new
unfolding Through
start_steps sum was w v sync old new sound says = λ P before stands.
    let fits = stands.fits in
    let through = goes_through sum P was w v old new before stands says.starts_sync.0 in
    let h = same_halves sum was P w old new before stands through (owed_starts sum P was w old new before stands says.owes) in
    subst (λ (l : List (Option (List ℕ))). SteppedApart sum P StartSync (Started sync) (record was { writer = Some v; names = names_after sync was.names }) old new before l before.replays) (starting_same P sync before)
    (subst (λ (rs : List (Option RunReplay)). SteppedApart sum P StartSync (Started sync) (record was { writer = Some v; names = names_after sync was.names }) old new before (starting P sync before).snapshots rs) (starting_keeps P sync before)
    (stepped sum P StartSync (Started sync) (record was { writer = Some v; names = names_after sync was.names }) old new before (starting P sync before) through.moments fits.has_writer (turned_here before.has_writer fits.has_writer) h
    (start_touch w P before old new through.moments fits h.goes says.calls (λ none. (says.idle none).1))
    (start_answer sum w v sync P before old new fits says, refl) (λ none. absurd none, λ none. absurd none)
    (started_stands sum P was w v sync old new before through.moments sound stands says h)))

-- why a sync isn't started
start_cause : (P : ℕ) (w : WriterState) (before : RunState) (old new : Life) (e : Error) → before.written ≡ false → before.awaited ≡ pending_in w.sync → CallCause w.sync old new e
    → HasCause P StartSync before old.present new.present e
start_cause P w before old new ReadFailed some awaited cause = absurd cause
start_cause P w before old new WriteFailed some awaited cause = ((0, lit< tt, refl), cause)
start_cause P w before old new ResizeFailed some awaited cause = absurd cause
start_cause P w before old new SyncFailed some awaited cause = (
  (1, lit< tt, refl),
  elim cause [
    | inl failed ↦ inl failed
    | inr had ↦ inr (subst (λ (b : Bool). AwaitedSyncFailed (if b then None else before.awaited) old.present) (sym some) (had_failed_as w.sync before.awaited old.present awaited had))
  ],
)
start_cause P w before old new InvalidChecksum some awaited cause = absurd cause
start_cause P w before old new BlobInsufficientLength some awaited cause = absurd cause
start_cause P w before old new OffsetOverflow some awaited cause = absurd cause
start_cause P w before old new OutOfMemory some awaited cause = tt
start_cause P w before old new IdsExhausted some awaited cause = absurd cause

start_refused_steps : (sum : List ℕ → ℕ) (was : SessionState) (w : WriterState) (e : Error) (old new : Life) → StartTold sum w old new (Err e) → AlwaysApart sum StartSync (Fault e) (held was (Some w)) (held was None) old new
unfolding Through
start_refused_steps sum was w e old new says = λ P before stands.
    let fits = stands.fits in
    let through = refused_through sum P was w old new e before stands says.starts_sync in
    let h = same_halves sum was P w old new before stands through (owed_starts sum P was w old new before stands says.owes) in
    let some : before.written ≡ false = unwritten before.written fits.written in
    let cause = start_cause P w before old new e some fits.awaited says.starts_sync.cause in
    stepped sum P StartSync (Fault e) (held was None) old new before (ended before.content before) through.moments fits.has_writer (turned_here before.has_writer fits.has_writer) h
    (start_touch w P before old new through.moments fits h.goes says.calls (λ none. (says.idle none).1))
    (cause, inl (some, refl)) (λ none. absurd none, λ none. absurd none) (stands_ended sum P was w old new before before.content through.moments stands h)
  where
    unwritten : (written : Bool) → written ≡ nat_eq (start_calls w) 0 → written ≡ false
    unwritten false is = refl
    unwritten true is = absurd (cc (says.idle (no_start (start_calls w) is)).0)

-- there is no memory for the name of a sync
no_room_steps : (sum : List ℕ → ℕ) (was : SessionState) (w : WriterState) (life : Life) → AlwaysApart sum StartSync (Fault OutOfMemory) (held was (Some w)) (held was (Some w)) life life
no_room_steps sum was w life = λ P before stands.
    unasked sum P was w StartSync (Fault OutOfMemory) (held was (Some w)) life before before (turned_here before.has_writer stands.fits.has_writer) stands (tt, inr (refl, refl, refl)) (λ none. absurd none, λ none. absurd none) stands

-- ---- waits of the writer

-- a wait that answers Ok leaves the sync complete
complete : (name : ℕ) (old new : Life) (u : Unit {0}) → WaitGoes name old new (Ok u) → is_complete new.present name ≡ true
complete name old new u (s, named, well, is) =
    let at : new.present ≡ logged (WaitCall name) false (disk_settled_to c d) = ap (λ (life : Life). life.present) is in
    let there : slice_get (coverings (disk_settled_to c d)) name ≡ Some c = same_covers (nat_lt d.settled c.0) ∙ covering_of name d s named in
    let done : nat_le c.0 (disk_settled_to c d).settled ≡ true = settles (nat_lt d.settled c.0) refl in
    ap (λ (x : Disk). is_complete x name) at ∙ ap (λ (o : Option (ℕ × List ℕ)). elim o [ None ↦ false | Some x ↦ nat_le x.0 (disk_settled_to c d).settled ]) there ∙ done
  where
    d : Disk
    d = old.present

    c : ℕ × List ℕ
    c = (s.covers, s.bytes)

    same_covers : (later : Bool) → slice_get (coverings (if later then record d { base = c.1; since = drop (c.0 - d.settled) d.since; settled = c.0 } else d)) name ≡ slice_get (coverings d) name
    same_covers true = refl
    same_covers false = refl

    settles : (later : Bool) → nat_lt d.settled c.0 ≡ later → nat_le c.0 (if later then record d { base = c.1; since = drop (c.0 - d.settled) d.since; settled = c.0 } else d).settled ≡ true
    settles true is = let e : c.0 ≤ c.0 = omega arith in grind (arith, nat_tests, e)
    settles false is = grind (arith, nat_tests, is)

-- a wait by the writer leaves the sync complete too
complete_by : (state : SyncState) (awaited : Option ℕ) (old new : Life) → awaited ≡ pending_in state → (wait_calls state ≡ 1 → SettlesBy state old new (Ok tt)) → HasCompleted awaited new.present
complete_by Clean awaited old new is settles = subst (λ (o : Option ℕ). HasCompleted o new.present) (sym is) tt
complete_by Dirty awaited old new is settles = subst (λ (o : Option ℕ). HasCompleted o new.present) (sym is) tt
complete_by (Pending name) awaited old new is settles = subst (λ (o : Option ℕ). HasCompleted o new.present) (sym is) (complete name old new tt (settles refl))

-- a wait isn't refused for a write
waits_no_write : (state : SyncState) (old new : Life) → is_some (pending_in state) ≡ true → (wait_calls state ≡ 1 → SettlesBy state old new (Err WriteFailed)) → ⊥
waits_no_write Clean old new some settles = false≢true some
waits_no_write Dirty old new some settles = false≢true some
waits_no_write (Pending name) old new some settles = settles refl

-- what the writer has to start stays
waited_starts : (work : Bool) (state : SyncState)
    → nat_eq (if work then wait_calls state + 2 else unstarted_calls state) 0 ≡ nat_eq (if work then wait_calls (waited_state state) + 2 else unstarted_calls (waited_state state)) 0
waited_starts true Clean = refl
waited_starts true Dirty = refl
waited_starts true (Pending name) = refl
waited_starts false Clean = refl
waited_starts false Dirty = refl
waited_starts false (Pending name) = refl

waits_none : (state : SyncState) → None ≡ pending_in (waited_state state)
waits_none Clean = refl
waits_none Dirty = refl
waits_none (Pending name) = refl

-- the touch of a wait
waits_touch : (w : WriterState) (P : ℕ) (before : RunState) (old new : Life) (moments : List Disk) → WriterRepresents P w before old.present → new ≡ life_after old moments → length new.present.log ≤ length old.present.log + wait_calls w.sync
    → (wait_calls w.sync ≡ 0 → new ≡ old) → UsesDevice (use_of_wait before.awaited) old.present moments
waits_touch w P before old new moments fits goes few idle = by_awaited before.awaited fits.awaited
  where
    by_awaited : (awaited : Option ℕ) → awaited ≡ pending_in w.sync → UsesDevice (use_of_wait awaited) old.present moments
    by_awaited None is = no_moments old new moments goes (idle (wait_none w.sync is))
    by_awaited (Some name) is = few_calls old new moments 1 goes (omega (arith, few, wait_one w.sync))

-- a wait that is done
wait_steps : (sum : List ℕ → ℕ) (was : SessionState) (w v : WriterState) (old new : Life) → WaitTold sum w old new (Ok v) → AlwaysApart sum Wait Done (held was (Some w)) (held was (Some v)) old new
unfolding Through
wait_steps sum was w v old new says = λ P before stands.
    let fits = stands.fits in
    let goes = says.waits.0 in
    let is : v ≡ waited_writer w = says.waits.1 in
    let through = goes_through sum P was w v old new before stands goes in
    let h = same_halves sum was P w old new before stands through (owed_starts sum P was w old new before stands says.owes) in
    stepped sum P Wait Done (held was (Some v)) old new before (after_wait before) through.moments fits.has_writer (turned_here before.has_writer fits.has_writer) h
    (waits_touch w P before old new through.moments fits h.goes says.calls (λ none. (says.idle none).1)) (complete_by w.sync before.awaited old new fits.awaited says.settles, refl) (λ none. absurd none, λ none. absurd none)
    (stands_now sum P was v old new (after_wait before)
    (record {
      page_size = goes.same.page_size ∙ fits.page_size;
      has_writer = fits.has_writer;
      content = fits.content ∙ sym (append-nil (content_of w old.present.readable)) ∙ sym goes.content;
      otherwise = fits.otherwise;
      capacity = goes.same.capacity ∙ fits.capacity;
      buffered = ap (λ (x : WriterState). length x.tip) is ∙ fits.buffered;
      within = fits.within;
      written = fits.written ∙ waited_starts (has_work w true) w.sync ∙ ap (λ (x : WriterState). nat_eq (start_calls x) 0) (sym is);
      awaited = waits_none w.sync ∙ ap (λ (x : WriterState). pending_in x.sync) (sym is);
    })
    stands.phase stands.names stands.floor stands.within (each_end (AllKeep sum P before.content before.floor) old new through.moments h.goes h.kept)
    (each_end (AllCover sum P before.content before.covers) old new through.moments h.goes h.covered) h.stays)

-- why a wait is refused
wait_cause : (P : ℕ) (w : WriterState) (before : RunState) (old new : Life) (e : Error) → is_some before.awaited ≡ true → before.awaited ≡ pending_in w.sync → CallCause w.sync old new e → (e ≡ WriteFailed → ⊥)
    → HasCause P Wait before old.present new.present e
wait_cause P w before old new ReadFailed some awaited cause wrote = absurd cause
wait_cause P w before old new WriteFailed some awaited cause wrote = absurd (wrote refl)
wait_cause P w before old new ResizeFailed some awaited cause wrote = absurd cause
wait_cause P w before old new SyncFailed some awaited cause wrote = ((0, lit< tt, refl), elim cause [ inl failed ↦ inl failed | inr had ↦ inr (had_failed_as w.sync before.awaited old.present awaited had) ])
wait_cause P w before old new InvalidChecksum some awaited cause wrote = absurd cause
wait_cause P w before old new BlobInsufficientLength some awaited cause wrote = absurd cause
wait_cause P w before old new OffsetOverflow some awaited cause wrote = absurd cause
wait_cause P w before old new OutOfMemory some awaited cause wrote = some
wait_cause P w before old new IdsExhausted some awaited cause wrote = absurd cause

wait_refused_steps : (sum : List ℕ → ℕ) (was : SessionState) (w : WriterState) (e : Error) (old new : Life) → WaitTold sum w old new (Err e) → AlwaysApart sum Wait (Fault e) (held was (Some w)) (held was None) old new
unfolding Through
wait_refused_steps sum was w e old new says = λ P before stands.
    let fits = stands.fits in
    let through = refused_through sum P was w old new e before stands says.waits in
    let h = same_halves sum was P w old new before stands through (owed_starts sum P was w old new before stands says.owes) in
    let some : is_some before.awaited ≡ true = awaits before.awaited fits.awaited in
    let cause = wait_cause P w before old new e some fits.awaited says.waits.cause (λ is.
    waits_no_write w.sync old new (sym (ap is_some fits.awaited) ∙ some) (subst (λ (x : Error). wait_calls w.sync ≡ 1 → SettlesBy w.sync old new (Err x)) is says.settles)) in
    stepped sum P Wait (Fault e) (held was None) old new before (ended before.content before) through.moments fits.has_writer (turned_here before.has_writer fits.has_writer) h
    (waits_touch w P before old new through.moments fits h.goes says.calls (λ none. (says.idle none).1))
    (cause, refl) (λ none. absurd none, λ none. absurd none) (stands_ended sum P was w old new before before.content through.moments stands h)
  where
    awaits : (awaited : Option ℕ) → awaited ≡ pending_in w.sync → is_some awaited ≡ true
    awaits (Some name) is = refl
    awaits None is = let same : Err e ≡ Ok w = (says.idle (wait_none w.sync is)).0 in absurd (cc same)

-- ---- waits for a name

-- a wait leaves what is readable
settle_readable : (c : ℕ × List ℕ) (d : Disk) → (disk_settled_to c d).readable ≡ d.readable
settle_readable c d = by_test (nat_lt d.settled c.0)
  where
    by_test : (later : Bool) → (if later then record d { base = c.1; since = drop (c.0 - d.settled) d.since; settled = c.0 } else d).readable ≡ d.readable
    by_test true = refl
    by_test false = refl

-- a wait is one moment, or none
record IsOneWait (name : ℕ) (old new : Life) : Type 0 where
  moments : List Disk
  goes : new ≡ life_after old moments
  one : (moments ≡ []) ⊎ (moments ≡ new.present ∷ [])
  few : length new.present.log ≤ length old.present.log + 1
  readable : new.present.readable ≡ old.present.readable

-- so what holds after a wait holds at each of its moments
each_wait : (Q : Disk → Type 0) (name : ℕ) (old new : Life) (one : IsOneWait name old new) → Q new.present → Each Q one.moments
each_wait Q name old new one holds = elim one.one [
  | inl none ↦ subst (λ (l : List Disk). Each Q l) (sym none) tt
  | inr is ↦ subst (λ (l : List Disk). Each Q l) (sym is) (holds, tt)
]

next_wait : (name : ℕ) (old new : Life) (failed : Bool) (e : Disk) → new ≡ next old (logged (WaitCall name) failed e) → e.readable ≡ old.present.readable → e.log ≡ old.present.log → IsOneWait name old new
next_wait name old new failed e is readable log =
    let at : new.present ≡ logged (WaitCall name) failed e = ap (λ (life : Life). life.present) is in
    record {
      moments = logged (WaitCall name) failed e ∷ [];
      goes = is;
      one = inr (ap (λ (d : Disk). d ∷ []) (sym at));
      few = omega (arith, ap (λ (x : Disk). length x.log) at, ap length log, length-append e.log (record { request = WaitCall name; failed = failed } ∷ []));
      readable = ap (λ (x : Disk). x.readable) at ∙ readable;
    }

one_wait : (name : ℕ) (old new : Life) (answer : Result (Unit {0}) Error) → WaitGoes name old new answer → IsOneWait name old new
one_wait name old new (Ok u) (s, named, well, is) =
    next_wait name old new false (disk_settled_to (s.covers, s.bytes) old.present) is (settle_readable (s.covers, s.bytes) old.present) (same_log (nat_lt old.present.settled s.covers))
  where
    same_log : (later : Bool) → (if later then record old.present { base = s.bytes; since = drop (s.covers - old.present.settled) old.present.since; settled = s.covers } else old.present).log ≡ old.present.log
    same_log true = refl
    same_log false = refl
one_wait name old new (Err SyncFailed) (failed, why, is) = next_wait name old new failed (record old.present { started = failed_at name old.present.started }) is refl refl
one_wait name old new (Err OutOfMemory) is = record {
  moments = [];
  goes = is;
  one = inl refl;
  few = omega (arith, ap (λ (life : Life). length life.present.log) is);
  readable = ap (λ (life : Life). life.present.readable) is;
}
one_wait name old new (Err e) goes = absurd goes

-- the session stands for the same after a wait
pub waited_fits : (P : ℕ) (o : Option WriterState) (s : RunState) (d e : Disk) → e.readable ≡ d.readable → WriterFits P o s d → WriterFits P o s e
waited_fits P None s d e same fits = fits
waited_fits P (Some w) s d e same fits = record {
  page_size = fits.page_size;
  has_writer = fits.has_writer;
  content = fits.content ∙ ap (λ (l : List ℕ). content_of w l) (sym same);
  otherwise = fits.otherwise;
  capacity = fits.capacity;
  buffered = fits.buffered;
  within = fits.within;
  written = fits.written;
  awaited = fits.awaited;
}

waited_stands : (sum : List ℕ → ℕ) (P : ℕ) (was : SessionState) (s : RunState) (d e : Disk) → e.readable ≡ d.readable → WaitKeeps sum P d e → StandsApart sum P was s d → StandsApart sum P was s e
waited_stands sum P was s d e same keeps stands = record {
  fits = waited_fits P was.writer s d e same stands.fits;
  phase = stands.phase;
  names = stands.names;
  floor = stands.floor;
  within = stands.within;
  kept = keeps.keeps s.content s.floor stands.kept;
  covered = λ k x lt. keeps.covers s.content _ _ (stands.covered k x lt);
  only = keeps.only s.content s.otherwise stands.only;
}

-- a step that waits for a name that the session was given
named_steps : (sum : List ℕ → ℕ) (was : SessionState) (name : ℕ) (reply : Reply) (old new : Life) (answer : Result (Unit {0}) Error) → is_given was.names name ≡ true → StartsCanBeAwaited old.present → WaitGoes name old new answer
    → ((P : ℕ) (s : RunState) → TakesStep sum P (WaitSync name) reply old.present new.present s s) → AlwaysApart sum (WaitSync name) reply was was old new
named_steps sum was name reply old new answer given stand goes takes = λ P before stands.
    let keeps = wait_keeps sum P name old new answer stand goes in
    let one = one_wait name old new answer goes in
    let after_it = waited_stands sum P was before old.present new.present one.readable keeps stands in
    let here : turned_away (WaitSync name) before ≡ None = ap (λ (b : Bool). if b then None else Some NoSuch) (sym (stands.names name) ∙ given) in
    let end : new.present ≡ last old.present one.moments = ap (λ (life : Life). life.present) one.goes ∙ last_is old one.moments in
    record {
      moments = one.moments;
      goes = one.goes;
      after = before;
      did = record {
        answer = subst (λ (to : Disk). AnswersStep sum P (WaitSync name) reply old.present to before before) end (answers_here sum P (WaitSync name) reply old.present new.present before before here (takes P before) (λ none. absurd none, λ none. absurd none));
        touches = few_calls old new one.moments 1 one.goes one.few;
        stopped = λ away. absurd (false≢true (sym (ap is_some here) ∙ away));
        kept = (stands.kept, each_wait (AllKeep sum P before.content before.floor) name old new one after_it.kept);
        covered = (stands.covered, each_wait (AllCover sum P before.content before.covers) name old new one after_it.covered);
        only = (
          only_there sum P was.writer before old.present old.present stands.fits stands.only,
          each_wait (AllOnly sum P before.content (if before.has_writer then before.content else before.otherwise)) name old new one (only_there sum P was.writer before old.present new.present stands.fits after_it.only),
        );
        within = raised_within sum P was old new before one.moments one.goes after_it;
      };
      stands = after_it;
      same = refl;
      alike = refl;
    }

-- a step that waits for a name that the session wasn't given
unnamed_steps : (sum : List ℕ → ℕ) (was : SessionState) (name : ℕ) (life : Life) → is_given was.names name ≡ false → AlwaysApart sum (WaitSync name) NoSuch was was life life
unnamed_steps sum was name life given = λ P before stands. record {
  moments = [];
  goes = refl;
  after = before;
  did = record {
    answer = answers_away sum P (WaitSync name) NoSuch life.present life.present before (ap (λ (b : Bool). if b then None else Some NoSuch) (sym (stands.names name) ∙ given));
    touches = leaves (Changes 1) life.present;
    stopped = λ away. refl;
    kept = (stands.kept, tt);
    covered = (stands.covered, tt);
    only = (only_there sum P was.writer before life.present life.present stands.fits stands.only, tt);
    within = raised_within sum P was life life before [] refl stands;
  };
  stands = stands;
  same = refl;
  alike = refl;
}

-- why a wait for a name is refused
named_cause : (P : ℕ) (name : ℕ) (s : RunState) (old new : Life) (e : Error) → WaitGoes name old new (Err e) → HasCause P (WaitSync name) s old.present new.present e
named_cause P name s old new SyncFailed (failed, why, is) = (
  (0, lit< tt, refl),
  elim why [
    | inl now ↦ inl (record { request = WaitCall name; failed = failed } ∷ [], ap (λ (life : Life). life.present.log) is, inl (now, refl))
    | inr had ↦ inr had
  ],
)
named_cause P name s old new OutOfMemory is = tt
named_cause P name s old new ReadFailed goes = absurd goes
named_cause P name s old new WriteFailed goes = absurd goes
named_cause P name s old new ResizeFailed goes = absurd goes
named_cause P name s old new InvalidChecksum goes = absurd goes
named_cause P name s old new BlobInsufficientLength goes = absurd goes
named_cause P name s old new OffsetOverflow goes = absurd goes
named_cause P name s old new IdsExhausted goes = absurd goes

-- the writer stays sound after a wait for a name
waited_sound : (sum : List ℕ → ℕ) (o : Option WriterState) (name : ℕ) (old new : Life) (answer : Result (Unit {0}) Error) → IsSmall sum → HasSoundWriter sum o old.present → WaitGoes name old new answer → HasSoundWriter sum o new.present
unfolding IsSound
waited_sound sum None name old new answer small sound goes = tt
waited_sound sum (Some w) name old new answer small sound goes =
    sound_with sum w new.present (wait_leaves sum w old new name small (consistent_of sum w old.present sound) answer goes).0
    (intact_still sum w old.present new.present (wait_readable name old new answer goes) sound.full)

-- ---- a step of a session

-- the session whose writer and names stay
pub both_same : (was : SessionState) (o : Option WriterState) (names : List ℕ) → o ≡ was.writer → names ≡ was.names → record was { writer = o; names = names } ≡ was
both_same was o names writer same = ap (λ (x : Option WriterState). record was { writer = x; names = names }) writer ∙ ap (λ (l : List ℕ). record was { names = l }) same

-- the session with another writer and other names
both_are : (was now : SessionState) (o : Option WriterState) (names : List ℕ) → KeepsSnapshots was now → now.writer ≡ o → now.names ≡ names → now ≡ record was { writer = o; names = names }
both_are was now o names rest writer same = rest ∙ ap (λ (x : Option WriterState). record was { writer = x; names = now.names }) writer ∙ ap (λ (l : List ℕ). record was { writer = o; names = l }) same

-- a start of a sync by a session
pub started_takes : (sum : List ℕ → ℕ) (was now : SessionState) (cache after : CacheState) (old new : Life) (reply : Reply) → IsReadyApart sum was old.present → KeepsSnapshots was now → DidStartSync sum was.writer now.writer was.names now.names cache after old new reply
    → StepsApart sum StartSync reply was now old new
started_takes sum was now cache after old new reply ready rest goes = by_writer was.writer refl reply goes
  where
    with_writer : (w : WriterState) → was.writer ≡ Some w → (r : Reply) (x : SessionState) (life : Life) → AlwaysApart sum StartSync r (held was (Some w)) x old life → AlwaysApart sum StartSync r was x old life
    with_writer w at r x life always = subst (λ (y : SessionState). AlwaysApart sum StartSync r y x old life) (sym (held_same was (Some w) at)) always

    by_writer : (o : Option WriterState) → was.writer ≡ o → (reply : Reply) → DidStartSync sum o now.writer was.names now.names cache after old new reply → StepsApart sum StartSync reply was now old new
    by_writer None at reply (closed, names, held) =
        closed_takes sum StartSync was now old new reply (λ before none. turned_closed before.has_writer none) at ready closed.replied (rest ∙ both_same was now.writer now.names (closed.writer ∙ sym at) names) closed.life
    by_writer (Some w) at (Started sync) (v, is, more, whole, call) =
        let says = start_told sum w cache after old new (sound_of sum was w old.present at ready) (Ok (v, sync)) whole call in
        let sound = sound_of sum was w old.present at ready in
        subst (λ (x : SessionState). StepsApart sum StartSync (Started sync) was x old new) (sym (both_are was now (Some v) (names_after sync was.names) rest is more))
        (record {
          ready = record { writer = says.starts_sync.0.sound; starts = inr says.owes.starts };
          always = with_writer w at (Started sync) (record was { writer = Some v; names = names_after sync was.names }) new (start_steps sum was w v sync old new sound says);
        })
    by_writer (Some w) at (Fault e) goes = elim goes [
      | inl (is, names, call) ↦
          let says = start_told sum w cache after old new (sound_of sum was w old.present at ready) (Err e) tt call in
          subst (λ (x : SessionState). StepsApart sum StartSync (Fault e) was x old new) (sym (both_are was now None was.names rest is names))
          (record { ready = record { writer = tt; starts = inr says.owes.starts }; always = with_writer w at (Fault e) (held was None) new (start_refused_steps sum was w e old new says) })
      | inr room ↦
          subst (λ (x : Error). StepsApart sum StartSync (Fault x) was now old new) (sym room.fault)
          (subst (λ (x : SessionState). StepsApart sum StartSync (Fault OutOfMemory) was x old new) (sym (rest ∙ both_same was now.writer now.names (room.writer ∙ sym at) room.given))
          (subst (λ (life : Life). StepsApart sum StartSync (Fault OutOfMemory) was was old life) (sym room.life)
          (record {
            ready = ready;
            always = subst (λ (y : SessionState). AlwaysApart sum StartSync (Fault OutOfMemory) y y old old) (sym (held_same was (Some w) at)) (no_room_steps sum was w old);
          })))
    ]
    by_writer (Some w) at (At n) goes = absurd goes
    by_writer (Some w) at Nothing goes = absurd goes
    by_writer (Some w) at Done goes = absurd goes
    by_writer (Some w) at (Answer answer) goes = absurd goes
    by_writer (Some w) at (Length n) goes = absurd goes
    by_writer (Some w) at (Bytes read) goes = absurd goes
    by_writer (Some w) at Closed goes = absurd goes
    by_writer (Some w) at NoSuch goes = absurd goes
    by_writer (Some w) at NotRecovering goes = absurd goes
    by_writer (Some w) at (Served count read) goes = absurd goes
    by_writer (Some w) at (Missed numbers) goes = absurd goes
    by_writer (Some w) at BadRanges goes = absurd goes
    by_writer (Some w) at (Taken index) goes = absurd goes
    by_writer (Some w) at (Sealed index sync) goes = absurd goes
    by_writer (Some w) at NotAppending goes = absurd goes
    by_writer (Some w) at (Replaying number) goes = absurd goes

-- a wait by a session
pub waited_takes : (sum : List ℕ → ℕ) (was now : SessionState) (old new : Life) (reply : Reply) → IsReadyApart sum was old.present → KeepsRest was now → Waits sum was.writer now.writer old new reply → StepsApart sum Wait reply was now old new
waited_takes sum was now old new reply ready rest goes = by_writer was.writer refl reply goes
  where
    by_writer : (o : Option WriterState) → was.writer ≡ o → (reply : Reply) → Waits sum o now.writer old new reply → StepsApart sum Wait reply was now old new
    by_writer None at reply closed =
        closed_takes sum Wait was now old new reply (λ before none. turned_closed before.has_writer none) at ready closed.replied
        (rest ∙ ap (λ (o : Option WriterState). held was o) (closed.writer ∙ sym at) ∙ sym (held_same was was.writer refl)) closed.life
    by_writer (Some w) at Done (v, is, call) =
        let says = wait_told sum w old new (sound_of sum was w old.present at ready) (Ok v) call in
        held_takes sum Wait Done was now w (Some v) old new at rest is says.waits.0.sound (inr says.owes.starts) (wait_steps sum was w v old new says)
    by_writer (Some w) at (Fault e) (is, call) =
        let says = wait_told sum w old new (sound_of sum was w old.present at ready) (Err e) call in
        held_takes sum Wait (Fault e) was now w None old new at rest is tt (inr says.owes.starts) (wait_refused_steps sum was w e old new says)
    by_writer (Some w) at (At n) goes = absurd goes
    by_writer (Some w) at Nothing goes = absurd goes
    by_writer (Some w) at (Started sync) goes = absurd goes
    by_writer (Some w) at (Answer answer) goes = absurd goes
    by_writer (Some w) at (Length n) goes = absurd goes
    by_writer (Some w) at (Bytes read) goes = absurd goes
    by_writer (Some w) at Closed goes = absurd goes
    by_writer (Some w) at NoSuch goes = absurd goes
    by_writer (Some w) at NotRecovering goes = absurd goes
    by_writer (Some w) at (Served count read) goes = absurd goes
    by_writer (Some w) at (Missed numbers) goes = absurd goes
    by_writer (Some w) at BadRanges goes = absurd goes
    by_writer (Some w) at (Taken index) goes = absurd goes
    by_writer (Some w) at (Sealed index sync) goes = absurd goes
    by_writer (Some w) at NotAppending goes = absurd goes
    by_writer (Some w) at (Replaying number) goes = absurd goes

-- a wait for a name, also where there is no writer
pub named_takes : (sum : List ℕ → ℕ) (was : SessionState) (name : ℕ) (old new : Life) (reply : Reply) → IsSmall sum → IsReadyApart sum was old.present → DidWaitFor (is_given was.names name) name old new reply → StepsApart sum (WaitSync name) reply was was old new
named_takes sum was name old new reply small ready goes = by_name (is_given was.names name) refl reply goes
  where
    some_name : is_given was.names name ≡ true → StartsCanBeAwaited old.present
    some_name given = elim ready.starts [
      | inl none ↦ absurd (false≢true (sym (ap (λ (names : List ℕ). is_given names name) none) ∙ given))
      | inr stand ↦ stand
    ]

    waits : (r : Reply) (answer : Result (Unit {0}) Error) → is_given was.names name ≡ true → WaitGoes name old new answer → ((P : ℕ) (s : RunState) → TakesStep sum P (WaitSync name) r old.present new.present s s) → StepsApart sum (WaitSync name) r was was old new
    waits r answer given goes takes = record {
      ready = record { writer = waited_sound sum was.writer name old new answer small ready.writer goes; starts = inr (wait_keeps sum 0 name old new answer (some_name given) goes).starts };
      always = named_steps sum was name r old new answer given (some_name given) goes takes;
    }

    by_name : (given : Bool) → is_given was.names name ≡ given → (reply : Reply) → DidWaitFor given name old new reply → StepsApart sum (WaitSync name) reply was was old new
    by_name false is reply (replied, same) =
        subst (λ (r : Reply). StepsApart sum (WaitSync name) r was was old new) (sym replied)
        (subst (λ (life : Life). StepsApart sum (WaitSync name) NoSuch was was old life) (sym same) (record { ready = ready; always = unnamed_steps sum was name old is }))
    by_name true is Done goes = waits Done (Ok tt) is goes (λ P s. (complete name old new tt goes, refl))
    by_name true is (Fault e) goes = waits (Fault e) (Err e) is goes (λ P s. let cause = named_cause P name s old new e goes in (cause, refl))
    by_name true is (At n) goes = absurd goes
    by_name true is Nothing goes = absurd goes
    by_name true is (Started sync) goes = absurd goes
    by_name true is (Answer answer) goes = absurd goes
    by_name true is (Length n) goes = absurd goes
    by_name true is (Bytes read) goes = absurd goes
    by_name true is Closed goes = absurd goes
    by_name true is NoSuch goes = absurd goes
    by_name true is NotRecovering goes = absurd goes
    by_name true is (Served count read) goes = absurd goes
    by_name true is (Missed numbers) goes = absurd goes
    by_name true is BadRanges goes = absurd goes
    by_name true is (Taken index) goes = absurd goes
    by_name true is (Sealed index sync) goes = absurd goes
    by_name true is NotAppending goes = absurd goes
    by_name true is (Replaying number) goes = absurd goes

-- whether a sync has something to do
pub needed_takes : (sum : List ℕ → ℕ) (was : SessionState) (life : Life) (reply : Reply) → IsReadyApart sum was life.present → SaysNeeds was.writer reply → StepsApart sum Needs reply was was life life
needed_takes sum was life reply ready goes = by_writer was.writer refl goes
  where
    by_writer : (o : Option WriterState) → was.writer ≡ o → SaysNeeds o reply → StepsApart sum Needs reply was was life life
    by_writer None at is = closed_takes sum Needs was was life life reply (λ before none. turned_closed before.has_writer none) at ready is refl refl
    by_writer (Some w) at is =
        subst (λ (r : Reply). StepsApart sum Needs r was was life life) (sym is)
        (held_takes sum Needs (Answer (nat_lt 0 (sync_calls w))) was was w (Some w) life life at (same_rest was) at (sound_of sum was w life.present at ready) ready.starts
        (λ P before stands.
        unasked sum P was w Needs (Answer (nat_lt 0 (sync_calls w))) (held was (Some w)) life before before (turned_here before.has_writer stands.fits.has_writer) stands (needs_is w P before life.present stands.fits, refl) (λ none. absurd none, λ none. absurd none) stands))

-- the end of a recovery
pub begun_takes : (sum : List ℕ → ℕ) (was now : SessionState) (life : Life) (reply : Reply) → IsReadyApart sum was life.present → DidBegin was.writer was now reply → StepsApart sum Begin reply was now life life
begun_takes sum was now life reply ready goes = by_writer was.writer refl goes
  where
    by_writer : (o : Option WriterState) → was.writer ≡ o → DidBegin o was now reply → StepsApart sum Begin reply was now life life
    by_writer None at (replied, same_session) = closed_takes sum Begin was now life life reply (λ before none. turned_closed before.has_writer none) at ready replied same_session refl
    by_writer (Some w) at (replied, is) =
        subst (λ (r : Reply). StepsApart sum Begin r was now life life) (sym replied)
        (subst (λ (x : SessionState). StepsApart sum Begin Done was x life life) (sym is)
        (record {
          ready = record { writer = ready.writer; starts = ready.starts };
          always = subst (λ (y : SessionState). AlwaysApart sum Begin Done y (record y { recovering = false }) life life) (sym (held_same was (Some w) at)) (λ P before stands.
              unasked sum P was w Begin Done (record was { writer = Some w; recovering = false }) life before (record before { recovering = false }) (turned_here before.has_writer stands.fits.has_writer) stands refl
              (λ none. absurd none, λ none. absurd none)
              (record {
                fits = record {
                  page_size = stands.fits.page_size;
                  has_writer = stands.fits.has_writer;
                  content = stands.fits.content;
                  otherwise = stands.fits.otherwise;
                  capacity = stands.fits.capacity;
                  buffered = stands.fits.buffered;
                  within = stands.fits.within;
                  written = stands.fits.written;
                  awaited = stands.fits.awaited;
                };
                phase = refl;
                names = stands.names;
                floor = stands.floor;
                within = stands.within;
                kept = stands.kept;
                covered = stands.covered;
                only = stands.only;
              }));
        }))
