-- Commits that are started, and waited for later.
use Rattle.std.proofs.Common.{◌≡◌, ◌⊎◌, inl, inr, ℕ, ◌≤◌, List, [], ◌++◌, length, take, sym, ap, ◌∙◌, subst, arith, append-nil, length-append, Ok, Err, Result}
use Rattle.std.specs.Prelude.{IfOk, Option, Some}
use Rattle.std.proofs.lemmas.Bool.{cases_eq}
use Rattle.std.proofs.Math.Seq.{take-length}
use Rattle.disk.specs.Disk.{Disk, Life, coverings}
use Rattle.disk.specs.declared.error.Error.{Error}
use Rattle.disk.specs.declared.started_sync.StartedSync.{StartedSync}
use Rattle.disk.specs.declared.started_sync.StartedSync.TheVariants.{Done, Named}
use Rattle.cache.specs.CacheState.{CacheState}
use Rattle.crash.proofs.Moments.{keeps_alike}
use Rattle.crash.specs.Kept.{AllKeep}
use Rattle.crash.specs.Looks.{Looked}
use Rattle.crash.specs.Moments.{through_end, through_start}
use Rattle.crash.specs.Started.{CoversStay, CoversThrough}
use Rattle.crash.specs.Stays.{KeepsAllFloors}
use Rattle.writer_state.proofs.CoverLaws.{would_longer}
use Rattle.writer_state.proofs.StartedLaws.{alike_would}
use Rattle.writer_state.specs.Sound.{IsSound, StateFits, content}
use Rattle.writer_state.specs.WriterState.{WriterState, started_state}
use Rattle.writer_state.specs.declared.sync_state.SyncState.{SyncState}
use Rattle.writer_state.specs.declared.sync_state.SyncState.TheVariants.{Clean, Dirty, Pending}
use Rattle.paged.specs.Calls.{BuffersOver, Completed, Completes, StartedSyncKeeps, TryAppendGoes}
use Rattle.paged.specs.Goes.{AppendGoes, HasStarted, HasWaited, Holds, StartSyncGoes, SyncAllGoes, WaitForSyncGoes}
use Rattle.paged.specs.Owes.{Owes, OwesWaiting, owed_covers, owed_floors}
use Rattle.paged.specs.Ready.{IsReady}
use Rattle.paged.specs.Recovery.{IsDurable}
use Rattle.journal.specs.Frame.{AreWholeFrames, records}
use Rattle.journal.specs.Journal.{Commits, HasStartedCommit, HasWaitedForCommit, IsJournal, IsStarted, StartsStay, PendingCommits, StartCommitGoes, StartedCommits, WaitForCommitGoes, WouldCommit}
use Rattle.journal.proofs.Journals.{commits_all, commits_longer, front, held_on, is_journal, ready_of, whole_of}

-- the first n records are committed, or will be once the sync that a writer in this state waits for
-- has completed
abbrev Either : (sum own : List ℕ → ℕ) → ℕ → List ℕ → ℕ → SyncState → Disk → Type 0
Either sum own P held n s d = Commits sum own P held n d ⊎ PendingCommits sum own P held n s d

-- ---- a longer content

would_commit_longer : (sum own : List ℕ → ℕ) (P : ℕ) (held more : List ℕ) (n name : ℕ) (d : Disk) → WouldCommit sum own P held n name d → WouldCommit sum own P (held ++ more) n name d
would_commit_longer sum own P held more n name d would =
    let begins : held ≡ take (length held) (held ++ more) = sym (take-length held) ∙ front held more (length held) (omega arith) in
    record {
      floor = would.floor;
      within = omega (arith, would.within, length-append held more);
      kept = would_longer sum P held (held ++ more) name would.floor d begins would.within would.kept;
      there = subst (λ (l : List ℕ). n ≤ length (records own l)) (front held more would.floor would.within) would.there;
    }

pending_longer : (sum own : List ℕ → ℕ) (P : ℕ) (held more : List ℕ) (n : ℕ) (s : SyncState) (d : Disk) → PendingCommits sum own P held n s d → PendingCommits sum own P (held ++ more) n s d
pending_longer sum own P held more n Clean d pends = absurd pends
pending_longer sum own P held more n Dirty d pends = absurd pends
pending_longer sum own P held more n (Pending name) d pends = would_commit_longer sum own P held more n name d pends

either_longer : (sum own : List ℕ → ℕ) (P : ℕ) (held more : List ℕ) (n : ℕ) (s : SyncState) (d : Disk) → Either sum own P held n s d → Either sum own P (held ++ more) n s d
either_longer sum own P held more n s d (inl commits) = inl (commits_longer sum own P held more n d commits)
either_longer sum own P held more n s d (inr pends) = inr (pending_longer sum own P held more n s d pends)

-- ---- what calls leave of them

-- what would be committed is committed, where so many bytes are kept
commits_done : (sum own : List ℕ → ℕ) (P : ℕ) (held : List ℕ) (n name : ℕ) (d e : Disk) (would : WouldCommit sum own P held n name d) → AllKeep sum P held would.floor e → Commits sum own P held n e
commits_done sum own P held n name d e would kept = record { floor = would.floor; within = would.within; kept = kept; there = would.there }

module _ (sum own : List ℕ → ℕ) (P : ℕ) (held : List ℕ) (n : ℕ) (old new : Life) where
  -- what was committed still is
  commits_on : KeepsAllFloors sum P old new → Commits sum own P held n old.present → Commits sum own P held n new.present
  commits_on keeps commits = record {
    floor = commits.floor;
    within = commits.within;
    kept = through_end (AllKeep sum P held commits.floor) old new (keeps held commits.floor commits.within commits.kept);
    there = commits.there;
  }

  -- a sync that is no longer waited for has committed what it would; the one that still is would
  -- still commit it
  pending_on : (s t : SyncState) → CoversThrough sum P held old new → Completed sum P held s t old new → PendingCommits sum own P held n s old.present → Either sum own P held n t new.present
  pending_on Clean t covers done pends = absurd pends
  pending_on Dirty t covers done pends = absurd pends
  pending_on (Pending name) Clean covers done pends = inl (commits_done sum own P held n name old.present new.present pends (done (λ e. cc) pends.floor pends.within pends.kept))
  pending_on (Pending name) Dirty covers done pends = inl (commits_done sum own P held n name old.present new.present pends (done (λ e. cc) pends.floor pends.within pends.kept))
  pending_on (Pending name) (Pending other) covers done pends = elim (cases_eq name other) [
    | inl same ↦
        let still = through_end (CoversStay sum P held old.present) old new covers name pends.floor pends.within pends.kept in
        inr (subst (λ (m : ℕ). WouldCommit sum own P held n m new.present) same (record { floor = pends.floor; within = pends.within; kept = still; there = pends.there }))
    | inr apart ↦ inl (commits_done sum own P held n name old.present new.present pends (done (λ e. apart (cc)) pends.floor pends.within pends.kept))
  ]

  either_on : (s t : SyncState) → KeepsAllFloors sum P old new → CoversThrough sum P held old new → Completed sum P held s t old new → Either sum own P held n s old.present → Either sum own P held n t new.present
  either_on s t keeps covers done (inl commits) = inl (commits_on keeps commits)
  either_on s t keeps covers done (inr pends) = pending_on s t covers done pends

  -- once the sync has completed, those records are committed
  either_done : (s : SyncState) → KeepsAllFloors sum P old new → Completes sum P s old new → Either sum own P held n s old.present → Commits sum own P held n new.present
  either_done s keeps done (inl commits) = commits_on keeps commits
  either_done Clean keeps done (inr pends) = absurd pends
  either_done Dirty keeps done (inr pends) = absurd pends
  either_done (Pending name) keeps done (inr pends) = commits_done sum own P held n name old.present new.present pends (done held pends.floor pends.kept)

-- each commit that was started is a started commit still, whatever the call
pub starts_on : (sum own : List ℕ → ℕ) (w now : WriterState) (more : List ℕ) (old new : Life) → content now new.present.readable ≡ content w old.present.readable ++ more → now.page_size ≡ w.page_size
    → KeepsAllFloors sum w.page_size old new → CoversThrough sum w.page_size (content w old.present.readable) old new → Completed sum w.page_size (content w old.present.readable) w.sync now.sync old new → StartsStay sum own w now old new
unfolding IsStarted
starts_on sum own w now more old new holds size keeps covers done = λ n started.
    let held = content w old.present.readable in
    let on : Either sum own w.page_size held n now.sync new.present = either_on sum own w.page_size held n old new w.sync now.sync keeps covers done started in
    subst (λ (P : ℕ). Either sum own P (content now new.present.readable) n now.sync new.present) (sym size)
    (subst (λ (l : List ℕ). Either sum own w.page_size l n now.sync new.present) (sym holds) (either_longer sum own w.page_size held more n now.sync new.present on))

-- by a call that the writer answered Ok
pub starts_held : (sum own : List ℕ → ℕ) (w now : WriterState) (more next : List ℕ) (cache after : CacheState) (old new : Life) → Holds sum w old more now new → Owes sum w next cache after old new → StartsStay sum own w now old new
starts_held sum own w now more next cache after old new holds owes =
    let held = content w old.present.readable in
    starts_on sum own w now more old new holds.content holds.same.page_size (owed_floors sum w.page_size w.full_pages held next old new owes.through) (owed_covers sum w.page_size w.full_pages held next old new owes.through) holds.completed

pub append_starts : (sum own : List ℕ → ℕ) (w : WriterState) (bytes next : List ℕ) (cache after : CacheState) (old new : Life) (result : Result (WriterState × ℕ) Error) → AppendGoes sum w bytes old new result → Owes sum w next cache after old new
    → IfOk result (λ r. StartsStay sum own w r.0 old new)
append_starts sum own w bytes next cache after old new (Ok r) goes owes = starts_held sum own w r.0 bytes next cache after old new goes.answers.holds owes
append_starts sum own w bytes next cache after old new (Err e) goes owes = tt

pub commit_starts : (sum own : List ℕ → ℕ) (w : WriterState) (next : List ℕ) (cache after : CacheState) (old new : Life) (result : Result WriterState Error) → SyncAllGoes sum w old new result → Owes sum w next cache after old new
    → IfOk result (λ now. StartsStay sum own w now old new)
commit_starts sum own w next cache after old new (Ok now) goes owes = starts_held sum own w now [] next cache after old new goes.holds owes
commit_starts sum own w next cache after old new (Err e) goes owes = tt

-- by a call that asked nothing of the device
unwaited : (sum : List ℕ → ℕ) (P : ℕ) (held : List ℕ) (s t : SyncState) (life : Life) → t ≡ s → Completed sum P held s t life life
unwaited sum P held Clean t life same = tt
unwaited sum P held Dirty t life same = tt
unwaited sum P held (Pending name) t life same = λ apart. absurd (apart same)

starts_buffered : (sum own : List ℕ → ℕ) (w now : WriterState) (more : List ℕ) (life : Life) → content now life.present.readable ≡ content w life.present.readable ++ more → now.page_size ≡ w.page_size → now.sync ≡ w.sync → StartsStay sum own w now life life
starts_buffered sum own w now more life holds size same =
    let held = content w life.present.readable in
    starts_on sum own w now more life life holds size (λ other floor within kept. through_start (AllKeep sum w.page_size other floor) life kept)
    (through_start (CoversStay sum w.page_size held life.present) life (λ name cover within would. would)) (unwaited sum w.page_size held w.sync now.sync life same)

-- by an append that the buffer took
pub buffered_starts : (sum own : List ℕ → ℕ) (w now : WriterState) (bytes : List ℕ) (cache : CacheState) (life : Life) (at : ℕ) (fits : Option ℕ) → IsJournal sum w cache life → fits ≡ Some at → TryAppendGoes w bytes now (Ok fits) → BuffersOver sum w bytes now (Ok fits)
    → StartsStay sum own w now life life
buffered_starts sum own w now bytes cache life at fits journal is tries buffers =
    let tried : TryAppendGoes w bytes now (Ok (Some at)) = subst (λ (o : Option ℕ). TryAppendGoes w bytes now (Ok o)) is tries in
    let over : BuffersOver sum w bytes now (Ok (Some at)) = subst (λ (o : Option ℕ). BuffersOver sum w bytes now (Ok o)) is buffers in
    let goes = (over life (ready_of sum w cache life journal).sound).1 in
    starts_buffered sum own w now bytes life goes.content goes.same.page_size (ap (λ (v : WriterState). v.sync) tried.3)

-- by a call that only looked
pub starts_looked : (sum own : List ℕ → ℕ) (w : WriterState) (old new : Life) → Looked old new → StartsStay sum own w w old new
unfolding IsStarted
starts_looked sum own w old new looked = λ n started.
    let held = content w old.present.readable in
    let d = old.present in
    let e = new.present in
    let same = looked.same in
    let base : e.base ≡ d.base = ap (λ (x : Disk). x.base) same in
    let since : e.since ≡ d.since = ap (λ (x : Disk). x.since) same in
    let settled : e.settled ≡ d.settled = ap (λ (x : Disk). x.settled) same in
    let covers : coverings e ≡ coverings d = ap (λ (x : Disk). coverings x) same in
    let readable : e.readable ≡ d.readable = ap (λ (x : Disk). x.readable) same in
    subst (λ (l : List ℕ). Either sum own w.page_size (content w l) n w.sync e) (sym readable) (elim started [
      | inl commits ↦
          inl (record { floor = commits.floor; within = commits.within; kept = keeps_alike sum w.page_size held commits.floor d e base since commits.kept; there = commits.there })
      | inr pends ↦ inr (pending_alike sum own w.page_size held n w.sync d e base since settled covers pends)
    ])
  where
    pending_alike : (sum own : List ℕ → ℕ) (P : ℕ) (held : List ℕ) (n : ℕ) (s : SyncState) (d e : Disk) → e.base ≡ d.base → e.since ≡ d.since → e.settled ≡ d.settled → coverings e ≡ coverings d → PendingCommits sum own P held n s d → PendingCommits sum own P held n s e
    pending_alike sum own P held n Clean d e base since settled covers pends = absurd pends
    pending_alike sum own P held n Dirty d e base since settled covers pends = absurd pends
    pending_alike sum own P held n (Pending name) d e base since settled covers pends =
        record { floor = pends.floor; within = pends.within; kept = alike_would sum P held d e base since settled covers name pends.floor pends.kept; there = pends.there }

-- ---- a start

-- what was started covers all records
all_there : (own : List ℕ → ℕ) (held : List ℕ) → length (records own held) ≤ length (records own (take (length held) held))
all_there own held =
    let e : length (records own (take (length held) held)) ≡ length (records own held) = ap (λ (l : List ℕ). length (records own l)) (take-length held) in omega arith

starts_all : (sum own : List ℕ → ℕ) (P : ℕ) (held : List ℕ) (new : Life) (started : StartedSync) → StartedSyncKeeps sum P held new started → StartedCommits sum own P held (length (records own held)) started new.present
starts_all sum own P held new Done keeps = commits_all sum own P held new.present keeps
starts_all sum own P held new (Named name) keeps = record { floor = length held; within = omega arith; kept = keeps; there = all_there own held }

pends_so : (sum own : List ℕ → ℕ) (P : ℕ) (held : List ℕ) (n : ℕ) (started : StartedSync) (d : Disk) → StartedCommits sum own P held n started d → Either sum own P held n (started_state started) d
pends_so sum own P held n Done d commits = inl commits
pends_so sum own P held n (Named name) d would = inr would

is_started : (sum own : List ℕ → ℕ) (w : WriterState) (n : ℕ) (started : StartedSync) (life : Life) → w.sync ≡ started_state started → StartedCommits sum own w.page_size (content w life.present.readable) n started life.present → IsStarted sum own w n life
unfolding IsStarted
is_started sum own w n started life state commits =
    let held = content w life.present.readable in
    subst (λ (s : SyncState). Either sum own w.page_size held n s life.present) (sym state) (pends_so sum own w.page_size held n started life.present commits)

started_commit : (sum own : List ℕ → ℕ) (w : WriterState) (cache after : CacheState) (old new : Life) (now : WriterState) (started : StartedSync) → IsSound sum w old.present → AreWholeFrames (content w old.present.readable) → IsReady sum now after new
    → HasStarted sum w old new now started → Owes sum w (content w old.present.readable) cache after old new → HasStartedCommit sum own w after old new now started
started_commit sum own w cache after old new now started sound whole ready has owes =
    let held = content w old.present.readable in
    let goes = has.goes in
    let holds = goes.holds in
    let same : content now new.present.readable ≡ held = holds.content ∙ append-nil held in
    let n = length (records own held) in
    let named : StartedCommits sum own now.page_size (content now new.present.readable) n started new.present =
    subst (λ (P : ℕ). StartedCommits sum own P (content now new.present.readable) n started new.present) (sym holds.same.page_size)
    (subst (λ (l : List ℕ). StartedCommits sum own w.page_size l n started new.present) (sym same) (starts_all sum own w.page_size held new started (goes.starts sound))) in
    record {
      journal = is_journal sum now after new (held_on sum w old [] now after new holds ready) (subst (λ (l : List ℕ). AreWholeFrames l) (sym same) whole);
      holds = same;
      same = holds.same;
      sync = goes.state;
      all = is_started sum own now n started new goes.state named;
      starts = starts_held sum own w now [] held cache after old new holds owes;
      named = named;
      fresh = has.fresh;
      waits = holds.waits;
    }

pub start_goes : (sum own : List ℕ → ℕ) (w : WriterState) (cache after : CacheState) (old new : Life) (result : Result (WriterState × StartedSync) Error) → IsJournal sum w cache old → StartSyncGoes sum w old new result
    → IfOk result (λ r. IsReady sum r.0 after new) → Owes sum w (content w old.present.readable) cache after old new → StartCommitGoes sum own w after old new result
start_goes sum own w cache after old new (Ok r) journal goes ready owes =
    started_commit sum own w cache after old new r.0 r.1 (ready_of sum w cache old journal).sound (whole_of sum w cache old journal) ready goes owes
start_goes sum own w cache after old new (Err e) journal refused ready owes = refused.cause

pub start_gives : (sum own : List ℕ → ℕ) (w : WriterState) (after : CacheState) (old new : Life) (result : Result (WriterState × StartedSync) Error) → StartCommitGoes sum own w after old new result → IfOk result (λ r. IsJournal sum r.0 after new)
start_gives sum own w after old new (Ok r) is = is.journal
start_gives sum own w after old new (Err e) is = tt

-- ---- a wait

-- if a sound writer has nothing unsynced, all that is readable is durable
clean_is_durable : (sum : List ℕ → ℕ) (w : WriterState) (d : Disk) → IsSound sum w d → w.sync ≡ Clean → IsDurable d
unfolding IsSound
clean_is_durable sum w d sound clean =
    let fits : StateFits d Clean = subst (λ (s : SyncState). StateFits d s) clean sound.stands.state in
    record { since = fits.0; base = fits.1 }

waited : (sum own : List ℕ → ℕ) (w : WriterState) (old new : Life) (now : WriterState) → IsSound sum w old.present → HasWaited sum w old new now → OwesWaiting sum w old new → HasWaitedForCommit sum own w old new now
unfolding IsStarted
waited sum own w old new now sound has owes =
    let held = content w old.present.readable in
    let holds = has.holds in
    let same : content now new.present.readable ≡ held = holds.content ∙ append-nil held in
    let keeps = owed_floors sum w.page_size w.full_pages held held old new owes.through in
    record {
      holds = same;
      same = holds.same;
      state = has.state;
      commits = λ n started.
          subst (λ (P : ℕ). Commits sum own P (content now new.present.readable) n new.present) (sym holds.same.page_size)
          (subst (λ (l : List ℕ). Commits sum own w.page_size l n new.present) (sym same) (either_done sum own w.page_size held n old new w.sync keeps has.completes started));
      durable = clean_is_durable sum now new.present (has.sound sound);
    }

pub wait_goes : (sum own : List ℕ → ℕ) (w : WriterState) (old new : Life) (result : Result WriterState Error) → IsSound sum w old.present → WaitForSyncGoes sum w old new result → OwesWaiting sum w old new → WaitForCommitGoes sum own w old new result
wait_goes sum own w old new (Ok now) sound has owes = waited sum own w old new now sound has owes
wait_goes sum own w old new (Err e) sound refused owes = refused.cause

-- with each cache with which the journal was one
pub wait_gives : (sum : List ℕ → ℕ) (w : WriterState) (cache : CacheState) (old new : Life) (result : Result WriterState Error) → IsJournal sum w cache old → WaitForSyncGoes sum w old new result → IfOk result (λ now. IsReady sum now cache new)
    → IfOk result (λ now. IsJournal sum now cache new)
wait_gives sum w cache old new (Ok now) journal has ready =
    let held = content w old.present.readable in
    let same : content now new.present.readable ≡ held = has.holds.content ∙ append-nil held in
    is_journal sum now cache new (held_on sum w old [] now cache new has.holds ready) (subst (λ (l : List ℕ). AreWholeFrames l) (sym same) (whole_of sum w cache old journal))
wait_gives sum w cache old new (Err e) journal refused ready = tt
