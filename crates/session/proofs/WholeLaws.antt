-- What one step of a session does, with its snapshots.
use Rattle.std.proofs.Common.{◌≡◌, ℕ, List, [], refl, sym, ap, ◌∙◌, subst, arith, Bool, true, false}
use Rattle.std.specs.Prelude.{All, Option, Some, None, is_some, map, ◌&&◌, if◌then◌else◌}
use Rattle.std.proofs.lemmas.Bool.{false≢true}
use Rattle.disk.specs.Disk.{Life}
use Rattle.writer_state.specs.WriterState.{WriterState}
use Rattle.crash.proofs.BuiltLaws.{IsSmall}
use Rattle.cache.specs.CacheState.{CacheState}
use Rattle.paged_read.specs.Tail.{Tail, CanRead}
use Rattle.paged_read.specs.Replay.{LeavesAllReplays}
use Rattle.paged_read.specs.Snapshots.{LeavesAllTails}
use Rattle.paged.specs.Caches.{tail_of}
use Rattle.session.specs.declared.steps.Step.{Step}
use Rattle.session.specs.declared.steps.Step.TheVariants.{Append, Owned, TryAppend, Sync, StartSync, Wait, WaitSync, Needs, Size, Read, ReadUpTo, TryRead, ReadRanges, TryReadRanges, Begin, Truncate, Snapshot, TrySnapshot, Snap, Seal, Replay, Ensure, Take, Seek, DropSnapshot, DropReplay, Scan}
use Rattle.session.specs.declared.steps.Reply.{Reply}
use Rattle.session.specs.Run.{SessionState, CacheFits, FitsWriter, IsSoundSession}
use Rattle.session.specs.Calls.{DidBegin, DidCall, DidTruncate, DidWaitFor, is_given, IsClosed, KeepsRest, KeepsSnapshots, KeepsUncut, LeavesTaken, LeavesWriterState, Steps, TakenBy}
use Rattle.session.proofs.Apart.{IsReadyApart, ready_apart, StepsApart, StepsBy, steps_with}
use Rattle.session.proofs.Below.{framed_cut, framed_same, leaves_all, LeftAll, LeftSnapshot, left_by, left_same, replays_same}
use Rattle.session.proofs.SessionLaws.{appended_takes, owned_steps, tried_takes, synced_takes, sized_takes, read_takes}
use Rattle.session.proofs.StartLaws.{started_takes, waited_takes, named_takes, needed_takes, begun_takes, both_same}
use Rattle.session.proofs.ReadLaws.{read_up_to_takes, scan_takes, try_read_takes}
use Rattle.session.proofs.RangeLaws.{read_ranges_takes, try_read_ranges_takes}
use Rattle.session.proofs.TruncateLaws.{truncated_closed, truncated_cut, truncated_turned}

-- ---- steps that a writer takes in either phase

-- a step that leaves the names
rest_of : (was now : SessionState) → KeepsSnapshots was now → now.names ≡ was.names → KeepsRest was now
rest_of was now rest names = rest ∙ ap (λ (l : List ℕ). record was { writer = now.writer; names = l }) names

-- a step that only looks at the writer
same_of : (was now : SessionState) → KeepsSnapshots was now → LeavesWriterState was.writer now.writer was.names now.names → now ≡ was
same_of was now rest stay = rest ∙ both_same was now.writer now.names stay.writer stay.given

module _ (sum : List ℕ → ℕ) (was now : SessionState) (cache after : CacheState) (old new : Life) (reply : Reply) (ready : IsReadyApart sum was old.present) (fits : FitsWriter was.writer cache old.present) (rest : KeepsSnapshots was now) where
  -- a step that leaves the session as it was
  looks : (step : Step) → LeavesWriterState was.writer now.writer was.names now.names → StepsApart sum step reply was was old new → StepsApart sum step reply was now old new
  looks step stay steps = subst (λ (s : SessionState). StepsApart sum step reply was s old new) (sym (same_of was now rest stay)) steps

  -- a step that leaves the session and the disk as they were
  leaves : (step : Step) → new ≡ old → StepsApart sum step reply was now old old → StepsApart sum step reply was now old new
  leaves step same steps = subst (λ (life : Life). StepsApart sum step reply was now old life) (sym same) steps

  looks_here : (step : Step) → LeavesWriterState was.writer now.writer was.names now.names → new ≡ old → StepsApart sum step reply was was old old → StepsApart sum step reply was now old new
  looks_here step stay same steps = leaves step same (subst (λ (s : SessionState). StepsApart sum step reply was s old old) (sym (same_of was now rest stay)) steps)

  taken_apart : (step : Step) → TakenBy sum step was.writer now.writer was.names now.names cache after old new reply → StepsApart sum step reply was now old new
  taken_apart (Append bytes) (goes, names) = appended_takes sum was now bytes cache after old new reply ready (rest_of was now rest names) goes
  taken_apart (Owned bytes) (goes, names) = owned_steps sum was now bytes old new reply (appended_takes sum was now bytes cache after old new reply ready (rest_of was now rest names) goes)
  taken_apart (TryAppend bytes) (goes, names, same, held) = leaves (TryAppend bytes) same (tried_takes sum was now bytes old reply ready (rest_of was now rest names) goes)
  taken_apart Sync (goes, names) = synced_takes sum was now cache after old new reply ready (rest_of was now rest names) goes
  taken_apart StartSync goes = started_takes sum was now cache after old new reply ready rest goes
  taken_apart Wait (goes, names, held) = waited_takes sum was now old new reply ready (rest_of was now rest names) goes
  taken_apart Needs (goes, stay, same, held) = looks_here Needs stay same (needed_takes sum was old reply ready goes)
  taken_apart Size (goes, stay, same, held) = looks_here Size stay same (sized_takes sum was old reply ready goes)
  taken_apart (Read offset len) (goes, stay) = looks (Read offset len) stay (read_takes sum was cache after offset len old new reply ready goes)
  taken_apart (ReadUpTo offset len) (goes, stay) = looks (ReadUpTo offset len) stay (read_up_to_takes sum was cache after offset len old new reply ready goes)
  taken_apart (TryRead offset len) (goes, stay, same, held) = looks_here (TryRead offset len) stay same (try_read_takes sum was cache offset len old reply ready fits goes)
  taken_apart (ReadRanges ranges) (goes, stay) = looks (ReadRanges ranges) stay (read_ranges_takes sum was cache after ranges old new reply ready goes)
  taken_apart (TryReadRanges ranges) (goes, stay, same, held) = looks_here (TryReadRanges ranges) stay same (try_read_ranges_takes sum was cache ranges old reply ready goes)
  taken_apart (Scan proven most buffer_size) (goes, stay, held) = looks (Scan proven most buffer_size) stay (scan_takes sum was proven most buffer_size old new reply ready goes)
  taken_apart (WaitSync name) taken = absurd taken
  taken_apart Begin taken = absurd taken
  taken_apart (Truncate n) taken = absurd taken
  taken_apart Snapshot taken = absurd taken
  taken_apart TrySnapshot taken = absurd taken
  taken_apart (Snap index offset len) taken = absurd taken
  taken_apart Seal taken = absurd taken
  taken_apart (Replay buffer_size) taken = absurd taken
  taken_apart (Ensure index count) taken = absurd taken
  taken_apart (Take index count) taken = absurd taken
  taken_apart (Seek index offset) taken = absurd taken
  taken_apart (DropSnapshot index) taken = absurd taken
  taken_apart (DropReplay index) taken = absurd taken

-- what the call of such a step did
pub taken_call : (sum : List ℕ → ℕ) (step : Step) (was now : SessionState) (cache after : CacheState) (old new : Life) (reply : Reply) → TakenBy sum step was.writer now.writer was.names now.names cache after old new reply → KeepsSnapshots was now
    → DidCall sum step reply was now cache after old new
taken_call sum (Append bytes) was now cache after old new reply taken rest = (taken, rest)
taken_call sum (Owned bytes) was now cache after old new reply taken rest = (taken, rest)
taken_call sum (TryAppend bytes) was now cache after old new reply taken rest = (taken, rest)
taken_call sum Sync was now cache after old new reply taken rest = (taken, rest)
taken_call sum StartSync was now cache after old new reply taken rest = (taken, rest)
taken_call sum Wait was now cache after old new reply taken rest = (taken, rest)
taken_call sum Needs was now cache after old new reply taken rest = (taken, rest)
taken_call sum Size was now cache after old new reply taken rest = (taken, rest)
taken_call sum (Read offset len) was now cache after old new reply taken rest = (taken, rest)
taken_call sum (ReadUpTo offset len) was now cache after old new reply taken rest = (taken, rest)
taken_call sum (TryRead offset len) was now cache after old new reply taken rest = (taken, rest)
taken_call sum (ReadRanges ranges) was now cache after old new reply taken rest = (taken, rest)
taken_call sum (TryReadRanges ranges) was now cache after old new reply taken rest = (taken, rest)
taken_call sum (Scan proven most buffer_size) was now cache after old new reply taken rest = (taken, rest)
taken_call sum (WaitSync name) was now cache after old new reply taken rest = absurd taken
taken_call sum Begin was now cache after old new reply taken rest = absurd taken
taken_call sum (Truncate n) was now cache after old new reply taken rest = absurd taken
taken_call sum Snapshot was now cache after old new reply taken rest = absurd taken
taken_call sum TrySnapshot was now cache after old new reply taken rest = absurd taken
taken_call sum (Snap index offset len) was now cache after old new reply taken rest = absurd taken
taken_call sum Seal was now cache after old new reply taken rest = absurd taken
taken_call sum (Replay buffer_size) was now cache after old new reply taken rest = absurd taken
taken_call sum (Ensure index count) was now cache after old new reply taken rest = absurd taken
taken_call sum (Take index count) was now cache after old new reply taken rest = absurd taken
taken_call sum (Seek index offset) was now cache after old new reply taken rest = absurd taken
taken_call sum (DropSnapshot index) was now cache after old new reply taken rest = absurd taken
taken_call sum (DropReplay index) was now cache after old new reply taken rest = absurd taken

-- such a step, with the session's snapshots
pub writer_takes : (sum : List ℕ → ℕ) (step : Step) (was now : SessionState) (cache after : CacheState) (old new : Life) (reply : Reply) → IsSoundSession sum was old.present → CacheFits was cache old.present
    → TakenBy sum step was.writer now.writer was.names now.names cache after old new reply → KeepsSnapshots was now → FitsWriter now.writer after new.present → LeavesTaken sum was.writer now.writer cache after old new
    → Steps sum step reply was now old new × CacheFits now after new.present
writer_takes sum step was now cache after old new reply ready fits taken rest writer stay =
    let same : now.snapshots ≡ was.snapshots = ap (λ (s : SessionState). s.snapshots) rest in
    let phase : now.recovering ≡ was.recovering = ap (λ (s : SessionState). s.recovering) rest in
    framed_same sum step reply was now after old new same (ap (λ (s : SessionState). s.replays) rest) (λ is. same ∙ ready.begun (sym phase ∙ is)) writer (left_by sum was now.writer cache after old new ready fits stay.own)
    (taken_apart sum was now cache after old new reply (ready_apart sum was old.present ready) fits.writer rest step taken)

-- ---- steps of the session

-- a wait for a name
waits_fit : (o : Option WriterState) (cache : CacheState) (old new : Life) → ((t : Tail) (cache : CacheState) → CanRead t cache old.present → CanRead t cache new.present) → FitsWriter o cache old.present → FitsWriter o cache new.present
waits_fit None cache old new can fits = tt
waits_fit (Some w) cache old new can fits = can (tail_of w) cache fits

pub name_takes : (sum : List ℕ → ℕ) (was : SessionState) (cache : CacheState) (name : ℕ) (old new : Life) (reply : Reply) → IsSmall sum → IsSoundSession sum was old.present → CacheFits was cache old.present → DidWaitFor (is_given was.names name) name old new reply
    → ((t : Tail) (cache : CacheState) → CanRead t cache old.present → CanRead t cache new.present) → ((cache : CacheState) → LeavesAllTails sum cache cache old new) → LeavesAllReplays old new → Steps sum (WaitSync name) reply was was old new × CacheFits was cache new.present
name_takes sum was cache name old new reply small ready fits goes can tails replays =
    framed_same sum (WaitSync name) reply was was cache old new refl refl ready.begun (waits_fit was.writer cache old new can fits.writer)
    (left_by sum was was.writer cache cache old new ready fits (leaves_all sum was.writer cache cache old new (tails cache) replays))
    (named_takes sum was name old new reply small (ready_apart sum was old.present ready) goes)

-- the end of a recovery
pub begin_takes : (sum : List ℕ → ℕ) (was now : SessionState) (cache : CacheState) (life : Life) (reply : Reply) → IsSoundSession sum was life.present → CacheFits was cache life.present → DidBegin was.writer was now reply
    → Steps sum Begin reply was now life life × CacheFits now cache life.present
begin_takes sum was now cache life reply ready fits goes =
    let same = begun_same was.writer refl goes in
    framed_same sum Begin reply was now cache life life same.1.0 same.2 same.1.1 (subst (λ (o : Option WriterState). FitsWriter o cache life.present) (sym same.0) fits.writer) (left_same sum was now.writer cache cache life life ready fits same.0 refl refl)
    (begun_takes sum was now life reply (ready_apart sum was life.present ready) goes)
  where
    begun_same : (o : Option WriterState) → was.writer ≡ o → DidBegin o was now reply → (now.writer ≡ was.writer) × ((now.snapshots ≡ was.snapshots) × (now.recovering ≡ true → now.snapshots ≡ [])) × (now.replays ≡ was.replays)
    begun_same None at (replied, is) = (ap (λ (s : SessionState). s.writer) is, (ap (λ (s : SessionState). s.snapshots) is, subst (λ (s : SessionState). s.recovering ≡ true → s.snapshots ≡ []) (sym is) ready.begun), ap (λ (s : SessionState). s.replays) is)
    begun_same (Some w) at (replied, is) =
        (ap (λ (s : SessionState). s.writer) is, (ap (λ (s : SessionState). s.snapshots) is, λ other. absurd (false≢true (sym (ap (λ (s : SessionState). s.recovering) is) ∙ other))), ap (λ (s : SessionState). s.replays) is)

-- a truncate, by a session in recovery, which has no snapshot, and no replay from then on; or turned
-- away
pub cut_takes : (sum : List ℕ → ℕ) (was now : SessionState) (cache after : CacheState) (n : ℕ) (old new : Life) (reply : Reply) → IsSoundSession sum was old.present → CacheFits was cache old.present → DidTruncate sum was.recovering was.writer now.writer n cache after old new reply
    → KeepsUncut was now → FitsWriter now.writer after new.present → (was.recovering ≡ false → after ≡ cache) → Steps sum (Truncate n) reply was now old new × CacheFits now after new.present
cut_takes sum was now cache after n old new reply ready fits goes rest writer turned = by_state was.recovering was.writer refl refl goes
  where
    same : now.snapshots ≡ was.snapshots
    same = ap (λ (s : SessionState). s.snapshots) rest

    begun : now.recovering ≡ true → now.snapshots ≡ []
    begun is = same ∙ ready.begun (sym (ap (λ (s : SessionState). s.recovering) rest) ∙ is)

    -- the session except for its replays
    steps : (cuts : Bool) → StepsBy cuts sum (Truncate n) reply was (record was { writer = now.writer }) old new → StepsBy cuts sum (Truncate n) reply was now old new
    steps cuts is = subst (λ (s : SessionState). StepsBy cuts sum (Truncate n) reply was s old new) (sym rest) (steps_with cuts sum (Truncate n) reply was (record was { writer = now.writer }) _ old new is)

    kept : (cuts : Bool) → (was.recovering && is_some was.writer) ≡ cuts → now.replays ≡ (if cuts then map (λ r. None) was.replays else was.replays)
    kept cuts is = ap (λ (s : SessionState). s.replays) rest ∙ ap (λ (b : Bool). if b then map (λ r. None) was.replays else was.replays) is

    uncut : StepsApart sum (Truncate n) reply was (record was { writer = now.writer }) old new → (was.recovering && is_some was.writer) ≡ false → LeftAll sum was now.writer after old.present new.present
        → Steps sum (Truncate n) reply was now old new × CacheFits now after new.present
    uncut apart none left = framed_same sum (Truncate n) reply was now after old new same (kept false none) begun writer left (steps false apart)

    closed_left : (phase : Bool) → was.recovering ≡ phase → was.writer ≡ None → IsClosed now.writer old new reply → LeftAll sum was now.writer after old.present new.present
    closed_left false in_phase at closed = left_same sum was now.writer cache after old new ready fits (closed.writer ∙ sym at) (turned in_phase) closed.life
    closed_left true in_phase at closed = record {
      snapshots = subst (λ (ts : List (Option Tail)). All (LeftSnapshot sum now.writer after old.present new.present) ts) (sym (ready.begun in_phase)) (λ k t lt. absurd (omega (arith, lt)));
      replays = replays_same sum was now.writer old new ready (closed.writer ∙ sym at) closed.life;
    }

    by_state : (phase : Bool) (o : Option WriterState) → was.recovering ≡ phase → was.writer ≡ o → DidTruncate sum phase o now.writer n cache after old new reply → Steps sum (Truncate n) reply was now old new × CacheFits now after new.present
    by_state phase None in_phase at closed =
        let by_phase : (b : Bool) → (b && false) ≡ false = λ b. elim b as (λ x. (x && false) ≡ false) [ true ↦ refl | false ↦ refl ] in
        let none : (was.recovering && is_some was.writer) ≡ false = ap (λ (o : Option WriterState). was.recovering && is_some o) at ∙ by_phase was.recovering in
        uncut (truncated_closed sum was (record was { writer = now.writer }) n old new reply (ready_apart sum was old.present ready) at refl closed.0) none
        (closed_left phase in_phase at closed.0)
    by_state true (Some w) in_phase at cuts =
        let both : (was.recovering && is_some was.writer) ≡ true = ap (λ (b : Bool). b && is_some was.writer) in_phase ∙ ap (λ (o : Option WriterState). is_some o) at in
        framed_cut sum (Truncate n) reply was now after old new same (kept true both) begun writer
        (subst (λ (ts : List (Option Tail)). All (LeftSnapshot sum now.writer after old.present new.present) ts) (sym (ready.begun in_phase)) (λ k t lt. absurd (omega (arith, lt))))
        (steps true (truncated_cut sum was (record was { writer = now.writer }) w n cache after old new reply (ready_apart sum was old.present ready) in_phase at refl cuts))
    by_state false (Some w) in_phase at turns =
        let none : (was.recovering && is_some was.writer) ≡ false = ap (λ (b : Bool). b && is_some was.writer) in_phase in
        uncut (truncated_turned sum was (record was { writer = now.writer }) w n cache after old new reply (ready_apart sum was old.present ready) in_phase at refl turns) none
        (left_same sum was now.writer cache after old new ready fits (turns.1 ∙ sym at) (turned in_phase) turns.2)
