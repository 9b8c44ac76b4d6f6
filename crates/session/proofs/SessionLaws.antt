-- One step of a session, whichever it is and whichever phase its writer is in.
use Rattle.std.proofs.Common.{◌≡◌, ◌⊎◌, ℕ, List, [], refl, sym, ap, ◌∙◌, subst, inl, inr, Bool, false, Vec, Ok, Err}
use Rattle.std.specs.Prelude.{Option, Some, None, if◌then◌else◌}
use Rattle.std.specs.declared.alloc.Global.{Global}
use Rattle.disk.specs.Disk.{Disk, Life}
use Rattle.disk.specs.declared.error.Error.{Error}
use Rattle.disk.specs.declared.error.Error.TheVariants.{ReadFailed, WriteFailed, ResizeFailed, SyncFailed, InvalidChecksum, BlobInsufficientLength, OffsetOverflow, OutOfMemory, IdsExhausted}
use Rattle.crash.specs.Started.{StartsCanBeAwaited}
use Rattle.writer_state.specs.WriterState.{WriterState}
use Rattle.writer_state.specs.Sound.{IsSound}
use Rattle.cache.specs.CacheState.{CacheState}
use Rattle.paged_read.specs.Tail.{CanRead}
use Rattle.paged.specs.Caches.{tail_of}
use Rattle.paged.specs.Reads.{size_of}
use Rattle.paged.proofs.There.{reads_keep_sound}
use Rattle.session.specs.declared.steps.Step.{Step}
use Rattle.session.specs.declared.steps.Step.TheVariants.{Append, Owned, TryAppend, Sync, Size, Read}
use Rattle.session.specs.declared.steps.Reply.{Reply}
use Rattle.session.specs.declared.steps.Reply.TheVariants.{At, Nothing, Done, Started, Answer, Length, Bytes, Fault, Closed, NotRecovering, NoSuch, Served, Missed, BadRanges, Taken, Sealed, NotAppending, Replaying}
use Rattle.session.specs.Run.{RunState, SessionState, turned_away, HasCause, TakesStep, FaultsComeFirst, AnswersStep, last, HasSoundWriter, FitsWriter}
use Rattle.session.specs.Calls.{IsClosed, KeepsRest, DidAppend, TriedAppend, DidSync, Sized, DidRead}
use Rattle.session.proofs.Apart.{AlwaysApart, AlwaysBy, IsReadyApart, StepsApart, StepsBy}
use Rattle.session.proofs.StepLaws.{held, held_same, turned_closed, closed_steps}
use Rattle.session.proofs.WordLaws.{append_told, sync_told}
use Rattle.session.proofs.AppendLaws.{append_steps, append_refused_steps, try_steps, try_nothing_steps, try_same, try_refused_steps}
use Rattle.session.proofs.SyncLaws.{sync_steps, sync_refused_steps}
use Rattle.session.proofs.SizeLaws.{alike_stays_started, read_steps, size_steps}

-- ---- a step of a session

-- a step of a session that is closed
pub closed_takes : (sum : List ℕ → ℕ) (step : Step) (was now : SessionState) (old new : Life) (reply : Reply) → ((before : RunState) → before.has_writer ≡ false → turned_away step before ≡ Some Closed) → was.writer ≡ None → IsReadyApart sum was old.present
    → reply ≡ Closed → now ≡ was → new ≡ old → StepsApart sum step reply was now old new
closed_takes sum step was now old new reply away none ready replied same_session same = record {
  ready = subst (λ (life : Life). IsReadyApart sum now life.present) (sym same) (subst (λ (x : SessionState). IsReadyApart sum x old.present) (sym same_session) ready);
  always = closed_steps sum step was now old new reply none away replied same_session same;
}

-- a step of a session that is closed, by a call that leaves the rest of the session
closed_rest : (sum : List ℕ → ℕ) (step : Step) (was now : SessionState) (old new : Life) (reply : Reply) → ((before : RunState) → before.has_writer ≡ false → turned_away step before ≡ Some Closed) → was.writer ≡ None → IsReadyApart sum was old.present
    → KeepsRest was now → IsClosed now.writer old new reply → StepsApart sum step reply was now old new
closed_rest sum step was now old new reply away none ready rest closed =
    closed_takes sum step was now old new reply away none ready closed.replied (rest ∙ ap (λ (o : Option WriterState). held was o) (closed.writer ∙ sym none) ∙ sym (held_same was was.writer refl)) closed.life

-- a step of a session with a writer, by what the writer did and what is left of the rest
pub held_by : (cuts : Bool) (sum : List ℕ → ℕ) (step : Step) (reply : Reply) (was now : SessionState) (w : WriterState) (o : Option WriterState) (old new : Life) → was.writer ≡ Some w → KeepsRest was now → now.writer ≡ o → HasSoundWriter sum o new.present
    → (was.names ≡ []) ⊎ StartsCanBeAwaited new.present → AlwaysBy cuts sum step reply (held was (Some w)) (held was o) old new → StepsBy cuts sum step reply was now old new
held_by cuts sum step reply was now w o old new at rest is sound starts always =
    let after_it : now ≡ held was o = rest ∙ ap (λ (x : Option WriterState). held was x) is in
    subst (λ (x : SessionState). StepsBy cuts sum step reply was x old new) (sym after_it)
    (record {
      ready = record { writer = sound; starts = starts };
      always = subst (λ (x : SessionState). AlwaysBy cuts sum step reply x (held was o) old new) (sym (held_same was (Some w) at)) always;
    })

-- such a step that leaves the replays
pub held_takes : (sum : List ℕ → ℕ) (step : Step) (reply : Reply) (was now : SessionState) (w : WriterState) (o : Option WriterState) (old new : Life) → was.writer ≡ Some w → KeepsRest was now → now.writer ≡ o → HasSoundWriter sum o new.present
    → (was.names ≡ []) ⊎ StartsCanBeAwaited new.present → AlwaysApart sum step reply (held was (Some w)) (held was o) old new → StepsApart sum step reply was now old new
held_takes sum step reply was now w o old new at rest is sound starts always = held_by false sum step reply was now w o old new at rest is sound starts always

-- the session's writer is sound
pub sound_of : (sum : List ℕ → ℕ) (was : SessionState) (w : WriterState) (d : Disk) → was.writer ≡ Some w → IsReadyApart sum was d → IsSound sum w d
sound_of sum was w d at ready = subst (λ (o : Option WriterState). HasSoundWriter sum o d) at ready.writer

-- the session's writer can be read with the cache that fits it
pub can_of : (was : SessionState) (w : WriterState) (cache : CacheState) (d : Disk) → was.writer ≡ Some w → FitsWriter was.writer cache d → CanRead (tail_of w) cache d
can_of was w cache d at fits = subst (λ (o : Option WriterState). FitsWriter o cache d) at fits

-- an append by a session
pub appended_takes : (sum : List ℕ → ℕ) (was now : SessionState) (bytes : Vec ℕ Global) (cache after : CacheState) (old new : Life) (reply : Reply) → IsReadyApart sum was old.present → KeepsRest was now → DidAppend sum was.writer now.writer bytes.items cache after old new reply
    → StepsApart sum (Append bytes) reply was now old new
appended_takes sum was now bytes cache after old new reply ready rest goes = by_writer was.writer refl reply goes
  where
    by_writer : (o : Option WriterState) → was.writer ≡ o → (reply : Reply) → DidAppend sum o now.writer bytes.items cache after old new reply → StepsApart sum (Append bytes) reply was now old new
    by_writer None at reply goes = closed_rest sum (Append bytes) was now old new reply (λ before none. turned_closed before.has_writer none) at ready rest goes.0
    by_writer (Some w) at (At n) (v, is, whole, call) =
        let says = append_told sum w cache after old new bytes.items (Ok (v, n)) whole call in
        held_takes sum (Append bytes) (At n) was now w (Some v) old new at rest is says.appends.1.sound (inr says.owes.starts) (append_steps sum was w v bytes n old new (sound_of sum was w old.present at ready) says)
    by_writer (Some w) at (Fault e) (is, call) =
        let says = append_told sum w cache after old new bytes.items (Err e) tt call in
        held_takes sum (Append bytes) (Fault e) was now w None old new at rest is tt (inr says.owes.starts) (append_refused_steps sum was w bytes e old new (sound_of sum was w old.present at ready) says)
    by_writer (Some w) at Nothing goes = absurd goes
    by_writer (Some w) at Done goes = absurd goes
    by_writer (Some w) at (Started sync) goes = absurd goes
    by_writer (Some w) at (Answer answer) goes = absurd goes
    by_writer (Some w) at (Length n) goes = absurd goes
    by_writer (Some w) at (Bytes read) goes = absurd goes
    by_writer (Some w) at Closed goes = absurd goes
    by_writer (Some w) at NoSuch goes = absurd goes
    by_writer (Some w) at NotRecovering goes = absurd goes
    by_writer (Some w) at (Served count read) goes = absurd goes
    by_writer (Some w) at (Missed numbers) goes = absurd goes
    by_writer (Some w) at BadRanges goes = absurd goes
    by_writer (Some w) at (Taken index) goes = absurd goes
    by_writer (Some w) at (Sealed index sync) goes = absurd goes
    by_writer (Some w) at NotAppending goes = absurd goes
    by_writer (Some w) at (Replaying number) goes = absurd goes

-- a cause of an append is one of an append of a buffer
owned_cause : (P : ℕ) (bytes : Vec ℕ Global) (s : RunState) (from to : Disk) (e : Error) → HasCause P (Append bytes) s from to e → HasCause P (Owned bytes) s from to e
owned_cause P bytes s from to ReadFailed cause = cause
owned_cause P bytes s from to WriteFailed cause = cause
owned_cause P bytes s from to ResizeFailed cause = cause
owned_cause P bytes s from to SyncFailed cause = cause
owned_cause P bytes s from to InvalidChecksum cause = cause
owned_cause P bytes s from to BlobInsufficientLength cause = cause
owned_cause P bytes s from to OffsetOverflow cause = cause
owned_cause P bytes s from to OutOfMemory cause = cause
owned_cause P bytes s from to IdsExhausted cause = cause

-- what an append takes is what an append of a buffer takes
owned_takes : (sum : List ℕ → ℕ) (P : ℕ) (bytes : Vec ℕ Global) (reply : Reply) (s after : RunState) (from to : Disk) → TakesStep sum P (Append bytes) reply from to s after → TakesStep sum P (Owned bytes) reply from to s after
owned_takes sum P bytes (Fault e) s after from to (cause, refuses) = (owned_cause P bytes s from to e cause, refuses)
owned_takes sum P bytes (At n) s after from to takes = takes
owned_takes sum P bytes Nothing s after from to takes = takes
owned_takes sum P bytes Done s after from to takes = takes
owned_takes sum P bytes (Started sync) s after from to takes = takes
owned_takes sum P bytes (Answer answer) s after from to takes = takes
owned_takes sum P bytes (Length n) s after from to takes = takes
owned_takes sum P bytes (Bytes read) s after from to takes = takes
owned_takes sum P bytes Closed s after from to takes = takes
owned_takes sum P bytes NoSuch s after from to takes = takes
owned_takes sum P bytes NotRecovering s after from to takes = takes
owned_takes sum P bytes (Served count read) s after from to takes = takes
owned_takes sum P bytes (Missed numbers) s after from to takes = takes
owned_takes sum P bytes BadRanges s after from to takes = takes
owned_takes sum P bytes (Taken index) s after from to takes = takes
owned_takes sum P bytes (Sealed index sync) s after from to takes = takes
owned_takes sum P bytes NotAppending s after from to takes = takes
owned_takes sum P bytes (Replaying number) s after from to takes = takes

owned_answers : (sum : List ℕ → ℕ) (P : ℕ) (bytes : Vec ℕ Global) (reply : Reply) (s after : RunState) (from to : Disk) → AnswersStep sum P (Append bytes) reply from to s after → AnswersStep sum P (Owned bytes) reply from to s after
owned_answers sum P bytes reply s after from to = by_turn (if s.has_writer then None else Some Closed)
  where
    by_turn : (turn : Option Reply) → (elim turn as (λ (o : Option Reply). Type 0) [ Some other ↦ (reply ≡ other) × (after ≡ s) | None ↦ TakesStep sum P (Append bytes) reply from to s after × FaultsComeFirst P (Append bytes) reply s ])
        → (elim turn as (λ (o : Option Reply). Type 0) [ Some other ↦ (reply ≡ other) × (after ≡ s) | None ↦ TakesStep sum P (Owned bytes) reply from to s after × FaultsComeFirst P (Owned bytes) reply s ])
    by_turn None (takes, foretells) = (owned_takes sum P bytes reply s after from to takes, foretells)
    by_turn (Some other) is = is

-- an append of a buffer is an append
pub owned_steps : (sum : List ℕ → ℕ) (was now : SessionState) (bytes : Vec ℕ Global) (old new : Life) (reply : Reply) → StepsApart sum (Append bytes) reply was now old new → StepsApart sum (Owned bytes) reply was now old new
owned_steps sum was now bytes old new reply steps = record {
  ready = steps.ready;
  always = λ P before stands.
      let a = steps.always P before stands in
      record {
        moments = a.moments;
        goes = a.goes;
        after = a.after;
        did = record {
          answer = owned_answers sum P bytes reply before a.after old.present (last old.present a.moments) a.did.answer;
          touches = a.did.touches;
          stopped = a.did.stopped;
          kept = a.did.kept;
          covered = a.did.covered;
          only = a.did.only;
          within = a.did.within;
        };
        stands = a.stands;
        same = a.same;
        alike = a.alike;
      };
}

-- a try by a session
pub tried_takes : (sum : List ℕ → ℕ) (was now : SessionState) (bytes : Vec ℕ Global) (life : Life) (reply : Reply) → IsReadyApart sum was life.present → KeepsRest was now → TriedAppend sum was.writer now.writer bytes.items reply
    → StepsApart sum (TryAppend bytes) reply was now life life
tried_takes sum was now bytes life reply ready rest goes = by_writer was.writer refl reply goes
  where
    by_writer : (o : Option WriterState) → was.writer ≡ o → (reply : Reply) → TriedAppend sum o now.writer bytes.items reply → StepsApart sum (TryAppend bytes) reply was now life life
    by_writer None at reply (replied, is) = closed_rest sum (TryAppend bytes) was now life life reply (λ before none. turned_closed before.has_writer none) at ready rest (record { replied = replied; writer = is; life = refl })
    by_writer (Some w) at (At n) (v, is, tries, buffers) =
        let sound = sound_of sum was w life.present at ready in
        let appends = buffers life sound in
        held_takes sum (TryAppend bytes) (At n) was now w (Some v) life life at rest is appends.1.sound ready.starts (try_steps sum was w v bytes n life sound tries appends)
    by_writer (Some w) at Nothing (v, is, tries) =
        let sound = sound_of sum was w life.present at ready in
        held_takes sum (TryAppend bytes) Nothing was now w (Some w) life life at rest (is ∙ ap Some tries.2) sound ready.starts (try_nothing_steps sum was w v bytes life sound tries)
    by_writer (Some w) at (Fault e) (v, is, tries) =
        let sound = sound_of sum was w life.present at ready in
        held_takes sum (TryAppend bytes) (Fault e) was now w (Some w) life life at rest (is ∙ ap Some (try_same w v bytes.items e tries)) sound ready.starts (try_refused_steps sum was w v bytes e life sound tries)
    by_writer (Some w) at Done goes = absurd goes
    by_writer (Some w) at (Started sync) goes = absurd goes
    by_writer (Some w) at (Answer answer) goes = absurd goes
    by_writer (Some w) at (Length n) goes = absurd goes
    by_writer (Some w) at (Bytes read) goes = absurd goes
    by_writer (Some w) at Closed goes = absurd goes
    by_writer (Some w) at NoSuch goes = absurd goes
    by_writer (Some w) at NotRecovering goes = absurd goes
    by_writer (Some w) at (Served count read) goes = absurd goes
    by_writer (Some w) at (Missed numbers) goes = absurd goes
    by_writer (Some w) at BadRanges goes = absurd goes
    by_writer (Some w) at (Taken index) goes = absurd goes
    by_writer (Some w) at (Sealed index sync) goes = absurd goes
    by_writer (Some w) at NotAppending goes = absurd goes
    by_writer (Some w) at (Replaying number) goes = absurd goes

-- a sync by a session
pub synced_takes : (sum : List ℕ → ℕ) (was now : SessionState) (cache after : CacheState) (old new : Life) (reply : Reply) → IsReadyApart sum was old.present → KeepsRest was now → DidSync sum was.writer now.writer cache after old new reply → StepsApart sum Sync reply was now old new
synced_takes sum was now cache after old new reply ready rest goes = by_writer was.writer refl reply goes
  where
    by_writer : (o : Option WriterState) → was.writer ≡ o → (reply : Reply) → DidSync sum o now.writer cache after old new reply → StepsApart sum Sync reply was now old new
    by_writer None at reply goes = closed_rest sum Sync was now old new reply (λ before none. turned_closed before.has_writer none) at ready rest goes.0
    by_writer (Some w) at Done (v, is, whole, call) =
        let says = sync_told sum w cache after old new (Ok v) whole call in
        held_takes sum Sync Done was now w (Some v) old new at rest is says.syncs.0.sound (inr says.owes.starts) (sync_steps sum was w v old new (sound_of sum was w old.present at ready) says)
    by_writer (Some w) at (Fault e) (is, call) =
        let says = sync_told sum w cache after old new (Err e) tt call in
        held_takes sum Sync (Fault e) was now w None old new at rest is tt (inr says.owes.starts) (sync_refused_steps sum was w e old new says)
    by_writer (Some w) at (At n) goes = absurd goes
    by_writer (Some w) at Nothing goes = absurd goes
    by_writer (Some w) at (Started sync) goes = absurd goes
    by_writer (Some w) at (Answer answer) goes = absurd goes
    by_writer (Some w) at (Length n) goes = absurd goes
    by_writer (Some w) at (Bytes read) goes = absurd goes
    by_writer (Some w) at Closed goes = absurd goes
    by_writer (Some w) at NoSuch goes = absurd goes
    by_writer (Some w) at NotRecovering goes = absurd goes
    by_writer (Some w) at (Served count read) goes = absurd goes
    by_writer (Some w) at (Missed numbers) goes = absurd goes
    by_writer (Some w) at BadRanges goes = absurd goes
    by_writer (Some w) at (Taken index) goes = absurd goes
    by_writer (Some w) at (Sealed index sync) goes = absurd goes
    by_writer (Some w) at NotAppending goes = absurd goes
    by_writer (Some w) at (Replaying number) goes = absurd goes

-- a step that only reads leaves all of the session
pub same_rest : (was : SessionState) → KeepsRest was was
same_rest was = held_same was was.writer refl

-- the size, of a session
pub sized_takes : (sum : List ℕ → ℕ) (was : SessionState) (life : Life) (reply : Reply) → IsReadyApart sum was life.present → Sized was.writer reply → StepsApart sum Size reply was was life life
sized_takes sum was life reply ready goes = by_writer was.writer refl goes
  where
    by_writer : (o : Option WriterState) → was.writer ≡ o → Sized o reply → StepsApart sum Size reply was was life life
    by_writer None at is = closed_takes sum Size was was life life reply (λ before none. turned_closed before.has_writer none) at ready is refl refl
    by_writer (Some w) at is =
        let sound = sound_of sum was w life.present at ready in
        subst (λ (r : Reply). StepsApart sum Size r was was life life) (sym is) (held_takes sum Size (Length (size_of w)) was was w (Some w) life life at (same_rest was) at sound ready.starts (size_steps sum was w life sound))

-- a read by a session
pub read_takes : (sum : List ℕ → ℕ) (was : SessionState) (cache after : CacheState) (offset len : ℕ) (old new : Life) (reply : Reply) → IsReadyApart sum was old.present → DidRead sum was.writer cache after offset len old new reply
    → StepsApart sum (Read offset len) reply was was old new
read_takes sum was cache after offset len old new reply ready goes = by_writer was.writer refl goes
  where
    by_writer : (o : Option WriterState) → was.writer ≡ o → DidRead sum o cache after offset len old new reply → StepsApart sum (Read offset len) reply was was old new
    by_writer None at goes = closed_takes sum (Read offset len) was was old new reply (λ before none. turned_closed before.has_writer none) at ready goes.0 refl goes.1
    by_writer (Some w) at says =
        let sound = sound_of sum was w old.present at ready in
        let starts : (was.names ≡ []) ⊎ StartsCanBeAwaited new.present = elim ready.starts [ inl none ↦ inl none | inr stand ↦ inr (alike_stays_started old.present new.present says.looked.same stand) ] in
        held_takes sum (Read offset len) reply was was w (Some w) old new at (same_rest was) at (reads_keep_sound sum w old new says.looked sound) starts (read_steps sum was w cache after offset len old new reply sound says)
