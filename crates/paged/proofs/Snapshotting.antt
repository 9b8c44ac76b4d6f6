-- Snapshots of a writer: which content they give, and what the calls that make them guarantee.
use Rattle.std.proofs.Common.{◌≡◌, ℕ, ◌+◌, ◌<◌, List, [], length, refl, sym, ap, ◌∙◌, subst, arith, append-nil, Bool, true, false, Result, Ok, Err}
use Rattle.std.specs.Prelude.{IfOk, nat_eq, if◌then◌else◌}
use Rattle.disk.specs.Disk.{Life, WaitStartedGoes}
use Rattle.disk.specs.declared.error.Error.{Error}
use Rattle.disk.specs.declared.started_sync.StartedSync.{StartedSync}
use Rattle.disk.specs.declared.started_sync.StartedSync.TheVariants.{Done, Named}
use Rattle.cache.specs.CacheState.{CacheState}
use Rattle.writer_state.specs.WriterState.{WriterState}
use Rattle.writer_state.specs.declared.sync_state.SyncState.{SyncState}
use Rattle.writer_state.specs.declared.sync_state.SyncState.TheVariants.{Clean, Dirty, Pending}
use Rattle.writer_state.specs.Sound.{IsIntact, content}
use Rattle.crash.specs.Stays.{StaysThrough}
use Rattle.paged_read.specs.Tail.{Tail, CanRead}
use Rattle.paged_read.specs.Replay.{CanReplay, IsReplayOf, new_replay, ReplayState}
use Rattle.paged_read.specs.Snapshots.{IsTailOf, SnapshotReads}
use Rattle.paged_read.proofs.Replays.{new_replays}
use Rattle.paged.specs.Caches.{ReadsOn, tail_of}
use Rattle.paged.specs.Calls.{CarriesOn, waited_writer, waited_state, wait_calls, unstarted_calls, start_calls, started_already}
use Rattle.paged.specs.Flush.{has_work}
use Rattle.paged.specs.Replays.{ReplaysOver}
use Rattle.paged.specs.Snapshots.{answer_of_seal, SnapshotsOver, seal_calls}
use Rattle.paged.proofs.Over.{goes_stay}
use Rattle.paged.proofs.There.{consistent_has_pages}
use Rattle.paged.proofs.Waits.{wait_readable}

-- ---- the content that a snapshot gives

-- the tail of a writer that goes on gives the content from before
pub goes_tells : (sum : List ℕ → ℕ) (w now : WriterState) (old new : Life)
    → IsIntact sum w old.present → CarriesOn sum w old [] now new
    → IsTailOf sum (tail_of now) (content w old.present.readable) new.present
goes_tells sum w now old new full goes = record {
  there = consistent_has_pages sum now new goes.holds;
  full = goes.intact full;
  is = goes.content ∙ append-nil (content w old.present.readable);
}

-- a snapshot of that writer gives that content
pub made_tells : (sum : List ℕ → ℕ) (w now : WriterState) (t : Tail) (old new : Life)
    → IsIntact sum w old.present → CarriesOn sum w old [] now new → t ≡ tail_of now
    → IsTailOf sum t (content w old.present.readable) new.present
made_tells sum w now t old new full goes is =
    subst (λ (u : Tail). IsTailOf sum u (content w old.present.readable) new.present) (sym is)
    (goes_tells sum w now old new full goes)

-- the snapshot can be read where the writer could be
pub made_stands : (sum : List ℕ → ℕ) (w now : WriterState) (t : Tail) (cache after : CacheState)
    (old new : Life) → IsIntact sum w old.present → CarriesOn sum w old [] now new → t ≡ tail_of now
    → ReadsOn w now cache after old new → CanRead (tail_of w) cache old.present
    → SnapshotReads sum t (content w old.present.readable) after new.present
made_stands sum w now t cache after old new full goes is reads can = record {
  tail = made_tells sum w now t old new full goes is;
  can = subst (λ (u : Tail). CanRead u after new.present) (sym is) (reads can);
}

-- ---- a snapshot that is made

pub make_stays : (sum : List ℕ → ℕ) (w : WriterState) (old new : Life)
    (result : Result (WriterState × Tail) Error) → SnapshotsOver sum w old new result
    → StaysThrough sum w.page_size (content w old.present.readable) old new
make_stays sum w old new (Ok r) (goes, short, is) = goes_stay sum w r.0 old new goes
make_stays sum w old new (Err e) refused = refused.stays

-- ---- a replay that begins

pub begin_stays : (sum : List ℕ → ℕ) (w : WriterState) (size : ℕ) (old new : Life)
    (result : Result (WriterState × ReplayState) Error) → ReplaysOver sum w size old new result
    → StaysThrough sum w.page_size (content w old.present.readable) old new
begin_stays sum w size old new (Ok r) begins = goes_stay sum w r.0 old new begins.0
begin_stays sum w size old new (Err e) refused = refused.stays

-- the pages of a replay are there
pub begun_can : (sum : List ℕ → ℕ) (w now : WriterState) (size : ℕ) (r : ReplayState)
    (old new : Life) → CarriesOn sum w old [] now new → r ≡ new_replay (tail_of now) size
    → CanReplay r new.present
begun_can sum w now size r old new goes is =
    subst (λ (s : ReplayState). CanReplay s new.present) (sym is) (record {
      there = consistent_has_pages sum now new goes.holds;
      hand = refl;
      queue = λ k a below. absurd (omega (arith, below));
    })

-- a replay gives the content from before
pub begun_gives : (sum : List ℕ → ℕ) (w now : WriterState) (size : ℕ) (r : ReplayState)
    (old new : Life) → IsIntact sum w old.present → CarriesOn sum w old [] now new → r ≡ new_replay (tail_of now) size
    → IsReplayOf sum r (content w old.present.readable) new.present
begun_gives sum w now size r old new full goes is =
    subst (λ (s : ReplayState). IsReplayOf sum s (content w old.present.readable) new.present)
    (sym is) (new_replays sum (tail_of now) size (content w old.present.readable) new.present
    (goes_tells sum w now old new full goes))

-- ---- a writer that is sealed

-- what the call after the wait answers
module _ (w m : WriterState) (old mid : Life) (is : m ≡ waited_writer w)
    (names : mid.present.started ≡ old.present.started) where
  answer : (work : Bool) → has_work w true ≡ work → (s : SyncState) → w.sync ≡ s
      → (started : StartedSync)
      → (start_calls m ≡ 0 → started ≡ started_already m.sync)
      → (0 < start_calls m → started ≡ Named (length mid.present.started))
      → started ≡ answer_of_seal w old
  answer true work s state started idle fresh =
      let due : start_calls m ≡ wait_calls (waited_state w.sync) + 2 =
      ap start_calls is ∙ ap (λ (b : Bool). if b then wait_calls (waited_state w.sync) + 2
      else unstarted_calls (waited_state w.sync)) work in
      let some : nat_eq (seal_calls w) (wait_calls w.sync) ≡ false =
      ap (λ (b : Bool). nat_eq (wait_calls w.sync + (if b then 2 else unstarted_calls w.sync))
      (wait_calls w.sync)) work ∙ by_state s state in
      fresh (omega (arith, due))
      ∙ ap (λ n. Named n) (ap length names)
      ∙ sym (ap (λ (b : Bool). if b then Done else Named (length old.present.started)) some)
    where
      more : (s : SyncState) → nat_eq (wait_calls s + 2) (wait_calls s) ≡ false
      more Clean = refl
      more Dirty = refl
      more (Pending name) = refl

      by_state : (s : SyncState) → w.sync ≡ s
          → nat_eq (wait_calls w.sync + 2) (wait_calls w.sync) ≡ false
      by_state s state = ap (λ (t : SyncState). nat_eq (wait_calls t + 2) (wait_calls t)) state ∙ more s
  answer false none s state started idle fresh = by_state s state
    where
      calls : start_calls m ≡ unstarted_calls (waited_state w.sync)
      calls =
          ap start_calls is ∙ ap (λ (b : Bool). if b then wait_calls (waited_state w.sync) + 2
          else unstarted_calls (waited_state w.sync)) none

      test : (s : SyncState) → w.sync ≡ s
          → nat_eq (seal_calls w) (wait_calls w.sync)
          ≡ nat_eq (wait_calls s + unstarted_calls s) (wait_calls s)
      test s state =
          ap (λ (b : Bool). nat_eq (wait_calls w.sync + (if b then 2 else unstarted_calls w.sync))
          (wait_calls w.sync)) none
          ∙ ap (λ (t : SyncState). nat_eq (wait_calls t + unstarted_calls t) (wait_calls t)) state

      here : (s : SyncState) → w.sync ≡ s → start_calls m ≡ unstarted_calls (waited_state s)
      here s state = calls ∙ ap (λ (t : SyncState). unstarted_calls (waited_state t)) state

      already : (s : SyncState) → w.sync ≡ s → started_already m.sync
          ≡ started_already (waited_state s)
      already s state =
          ap (λ (v : WriterState). started_already v.sync) is
          ∙ ap (λ (t : SyncState). started_already (waited_state t)) state

      choose : (b : Bool) → nat_eq (seal_calls w) (wait_calls w.sync) ≡ b
          → answer_of_seal w old ≡ (if b then Done else Named (length old.present.started))
      choose b same =
          ap (λ (b : Bool). if b then Done else Named (length old.present.started)) same

      by_state : (s : SyncState) → w.sync ≡ s → started ≡ answer_of_seal w old
      by_state Clean state =
          idle (here Clean state) ∙ already Clean state ∙ sym (choose true (test Clean state))
      by_state Dirty state =
          fresh (omega (arith, here Dirty state)) ∙ ap (λ n. Named n) (ap length names)
          ∙ sym (choose false (test Dirty state))
      by_state (Pending name) state =
          idle (here (Pending name) state) ∙ already (Pending name) state
          ∙ sym (choose true (test (Pending name) state))

  pub seal_answers : (result : Result StartedSync Error)
      → (start_calls m ≡ 0 → result ≡ Ok (started_already m.sync))
      → (0 < start_calls m → IfOk result (λ started. started ≡ Named (length mid.present.started)))
      → IfOk result (λ started. started ≡ answer_of_seal w old)
  seal_answers (Ok started) idle fresh =
      answer (has_work w true) refl w.sync refl started (λ none. cc (idle none)) fresh
  seal_answers (Err e) idle fresh = tt

-- ---- a wait changes no byte

pub waits_readable : (started : StartedSync) (old new : Life) (result : Result (Unit {0}) Error)
    → WaitStartedGoes started old new result → new.present.readable ≡ old.present.readable
waits_readable (Named name) old new result goes = wait_readable name old new result goes
waits_readable Done old new (Ok u) is = ap (λ (l : Life). l.present.readable) is
waits_readable Done old new (Err e) goes = absurd goes
