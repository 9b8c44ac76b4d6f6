-- From what the start of a sync did to what a writer guarantees.
use Rattle.std.proofs.Common.{◌≡◌, ℕ, ◌+◌, ◌<◌, inl, List, [], ◌∷◌, ◌++◌, length, refl, sym, ap, ◌∙◌, subst, arith, append-nil, Bool, true, false, Result, Ok, Err}
use Rattle.std.specs.Prelude.{IfOk, if◌then◌else◌, Option, slice_get, ◌-◌}
use Rattle.disk.specs.Disk.{Disk, Life, Started, starts, next, had_failed, is_failed, StartGoes}
use Rattle.disk.specs.declared.error.Error.{Error}
use Rattle.disk.specs.declared.error.Error.TheVariants.{SyncFailed, OutOfMemory}
use Rattle.disk.specs.declared.started_sync.StartedSync.{StartedSync}
use Rattle.disk.specs.declared.started_sync.StartedSync.TheVariants.{Done, Named}
use Rattle.writer_state.specs.WriterState.{WriterState, started_state}
use Rattle.writer_state.specs.declared.sync_state.SyncState.{SyncState}
use Rattle.writer_state.specs.declared.sync_state.SyncState.TheVariants.{Clean, Dirty, Pending}
use Rattle.writer_state.specs.Sound.{IsConsistent, IsIntact, Consistency, content}
use Rattle.crash.specs.Started.{AllSettled, WouldKeep, CoversThrough, StartsCanBeAwaited}
use Rattle.crash.specs.Below.{PagesStay}
use Rattle.crash.specs.Stays.{Stays, StaysThrough}
use Rattle.crash.specs.Moments.{through_more}
use Rattle.crash.proofs.BuiltLaws.{IsSmall}
use Rattle.crash.proofs.Lists.{slice_get-append_right}
use Rattle.crash.proofs.BelowLaws.{pages_none, pages_one}
use Rattle.writer_state.proofs.CoverLaws.{covers_none, covers_one}
use Rattle.crash.proofs.Moments.{stays_through_start}
use Rattle.writer_state.proofs.StandLaws.{consistent_stands}
use Rattle.writer_state.proofs.StartedLaws.{start_consistent, start_stays, start_covers, started_covers, pending_covers}
use Rattle.writer_state.proofs.Soundness.{consistent_leaves, intact_still, settle_keeps}
use Rattle.disk.proofs.Logs.{failed_once}
use Rattle.disk.specs.Disk.Request.{StartSync}
use Rattle.paged.specs.Flush.{has_work, paired}
use Rattle.paged.specs.Calls.{AsksAtMost, wait_calls, unstarted_calls, start_calls, CarriesOn, IsSameWriter, IsWritten, PendingSyncFailed, CallCause, StartsOver, StartedSyncKeeps, started_already}
use Rattle.paged.proofs.Causes.{none_refused_start, start_cause, start_grows, start_asks}
use Rattle.paged.proofs.Flushes.{size_holds, stays_nil, goes_on_same, goes_on_more, refuses_more, dirty_settled}

-- the newest sync has failed where its start did
newest_failed : (failed : Bool) (d : Disk) → had_failed (starts failed d).started (length d.started) ≡ failed
newest_failed failed d =
    let s : Started = record { covers = d.settled + length d.since; bytes = d.readable; failed = failed } in
    ap (λ (o : Option Started). is_failed o)
    (slice_get-append_right d.started (s ∷ []) (length d.started) (omega arith) ∙ ap (λ (n : ℕ). slice_get (s ∷ []) n) (let e : length d.started - length d.started ≡ 0 = omega arith in e))

newest_fails : (s : SyncState) (old new : Life) (now : WriterState) (name : ℕ) (failed : Bool) → name ≡ length old.present.started → new ≡ next old (starts failed old.present) → now.sync ≡ Pending name → PendingSyncFailed now.sync new.present
    → CallCause s old new SyncFailed
newest_fails s old new now name failed last is state had =
    let at : had_failed new.present.started name ≡ true = subst (λ (t : SyncState). PendingSyncFailed t new.present) state had in
    let here : failed ≡ true = sym (newest_failed failed old.present) ∙ ap (λ (n : ℕ). had_failed (starts failed old.present).started n) (sym last) ∙ ap (λ (l : Life). had_failed l.present.started name) (sym is) ∙ at in
    inl (failed_once StartSync old.present new.present (ap (λ (l : Life). l.present.log) is ∙ ap (λ (b : Bool). old.present.log ++ record { request = StartSync; failed = b } ∷ []) here))

module _ (sum : List ℕ → ℕ) (w : WriterState) (old new : Life) (small : IsSmall sum) (sound : Consistency sum w old.present) (settled : AllSettled old.present) where
  started_stays : (failed : Bool) → new ≡ next old (starts failed old.present) → StaysThrough sum w.page_size (content w old.present.readable) old new
  started_stays failed is =
      subst (λ (l : Life). StaysThrough sum w.page_size (content w old.present.readable) old l) (sym is)
      (through_more (Stays sum w.page_size (content w old.present.readable) old.present) old old (starts failed old.present)
      (stays_through_start sum w.page_size (content w old.present.readable) old sound.truthful sound.vouched) (start_stays sum w old.present sound failed))

  -- the new sync covers all, where all is written
  start_ok : (now : WriterState) (name : ℕ) (failed : Bool) → IsWritten w → name ≡ length old.present.started → new ≡ next old (starts failed old.present) → now ≡ record w { sync = Pending name }
      → StartsOver sum w old new (Ok (now, Named name))
  unfolding IsConsistent
  start_ok now name failed written last is state =
      let d = old.present in
      let e = starts failed d in
      let there : new.present ≡ e = ap (λ (l : Life). l.present) is in
      let state_is : now ≡ record w { sync = Pending (length d.started) } = state ∙ ap (λ (n : ℕ). record w { sync = Pending n }) last in
      let here : Consistency sum now new.present =
      subst (λ (v : WriterState). Consistency sum v new.present) (sym state_is)
      (subst (λ (x : Disk). Consistency sum (record w { sync = Pending (length d.started) }) x) (sym there) (start_consistent sum w d failed sound settled)) in
      let goes : CarriesOn sum w old [] now new = record {
        holds = here;
        intact = λ full. subst (λ (v : WriterState). IsIntact sum v new.present) (sym state) (intact_still sum w d new.present (ap (λ (x : Disk). x.readable) there) full);
        size = size_holds sum now new here;
        only = consistent_leaves sum now new.present here;
        content = ap (λ (v : WriterState). content v new.present.readable) state ∙ ap (λ (x : Disk). content w x.readable) there ∙ sym (append-nil (content w d.readable));
        same = subst (λ (v : WriterState). IsSameWriter w v) (sym state) (record { page_size = refl; id = refl; capacity = refl; full_pages = omega arith });
        log = start_grows old new (Ok (Named name)) (last, failed, is);
        served = none_refused_start failed old.present new.present (ap (λ (l : Life). l.present.log) is);
        stays = stays_nil sum w.page_size (content w d.readable) old new (started_stays failed is);
        waits = λ had. newest_fails w.sync old new now name failed last is (ap (λ (v : WriterState). v.sync) state) had;
      } in (
        goes,
        subst (λ (v : WriterState). IsWritten v) (sym state) (record { short = written.short; flushed = written.flushed }),
        ap (λ (v : WriterState). v.sync) state,
        λ full. subst (λ (n : ℕ). WouldKeep sum w.page_size (content w d.readable) n (length (content w d.readable)) new.present) (sym last)
            (subst (λ (x : Disk). WouldKeep sum w.page_size (content w d.readable) (length d.started) (length (content w d.readable)) x) (sym there) (started_covers sum w d sound failed small full settled written.flushed)),
      )

  -- whatever a start answers
  start_goes : (now : WriterState) (result : Result StartedSync Error) → IsWritten w → StartGoes old new result → IfOk result (λ started. now ≡ record w { sync = started_state started }) → StartsOver sum w old new (paired now result)
  start_goes now (Ok (Named name)) written (last, failed, is) state = start_ok now name failed written last is state
  start_goes now (Ok Done) written goes state = absurd goes
  start_goes now (Err e) written goes state = record {
    cause = start_cause w.sync old new e goes;
    stays = refused_stays e goes;
    log = start_grows old new (Err e) goes;
  }
    where
      refused_stays : (e : Error) → StartGoes old new (Err e) → StaysThrough sum w.page_size (content w old.present.readable) old new
      refused_stays OutOfMemory is = subst (λ (l : Life). StaysThrough sum w.page_size (content w old.present.readable) old l) (sym is) (stays_through_start sum w.page_size (content w old.present.readable) old sound.truthful sound.vouched)
      refused_stays e goes = absurd goes

  start_pages : (result : Result StartedSync Error) → StartGoes old new result → PagesStay w.page_size w.full_pages old new
  start_pages (Ok (Named name)) (last, failed, is) = pages_one w.page_size w.full_pages old new (starts failed old.present) is refl
  start_pages (Ok Done) goes = absurd goes
  start_pages (Err OutOfMemory) is = pages_none w.page_size w.full_pages old new is
  start_pages (Err e) goes = absurd goes

  start_covers_through : (result : Result StartedSync Error) → StartGoes old new result → CoversThrough sum w.page_size (content w old.present.readable) old new
  start_covers_through (Ok (Named name)) (last, failed, is) = covers_one sum w.page_size (content w old.present.readable) old new (starts failed old.present) is (start_covers sum w old.present sound failed settled)
  start_covers_through (Ok Done) goes = absurd goes
  start_covers_through (Err OutOfMemory) is = covers_none sum w.page_size (content w old.present.readable) old new is
  start_covers_through (Err e) goes = absurd goes

  start_stands : (result : Result StartedSync Error) → StartGoes old new result → StartsCanBeAwaited new.present
  start_stands (Ok (Named name)) (last, failed, is) =
      subst (λ (l : Life). StartsCanBeAwaited l.present) (sym is) (consistent_stands sum (record w { sync = Pending (length old.present.started) }) (starts failed old.present) (start_consistent sum w old.present failed sound settled))
  start_stands (Ok Done) goes = absurd goes
  start_stands (Err OutOfMemory) is = subst (λ (l : Life). StartsCanBeAwaited l.present) (sym is) (consistent_stands sum w old.present sound)
  start_stands (Err e) goes = absurd goes

pub start_fresh : (old new : Life) (result : Result StartedSync Error) → StartGoes old new result → IfOk result (λ started. started ≡ Named (length old.present.started))
start_fresh old new (Ok (Named name)) (last, failed, is) = ap (λ (n : ℕ). Named n) last
start_fresh old new (Ok Done) goes = absurd goes
start_fresh old new (Err e) goes = tt

-- what a start by a dirty writer does, whatever it answers
pub record Starting (sum : List ℕ → ℕ) (w now : WriterState) (old new : Life) (result : Result StartedSync Error) : Type 0 where
  pub starts_sync : StartsOver sum w old new (paired now result)
  pub pages : PagesStay w.page_size w.full_pages old new
  pub covers : CoversThrough sum w.page_size (content w old.present.readable) old new
  pub stands : StartsCanBeAwaited new.present
  pub calls : AsksAtMost (unstarted_calls w.sync) old new
  pub due : unstarted_calls w.sync ≡ 1

pub dirty_starts : (sum : List ℕ → ℕ) (w now : WriterState) (old new : Life) (result : Result StartedSync Error) → IsSmall sum → IsConsistent sum w old.present → w.sync ≡ Dirty → IsWritten w → StartGoes old new result
    → IfOk result (λ started. now ≡ record w { sync = started_state started }) → Starting sum w now old new result
unfolding IsConsistent
dirty_starts sum w now old new result small sound dirty written goes state =
    let settled : AllSettled old.present = dirty_settled sum w old.present sound dirty in
    let one : unstarted_calls w.sync ≡ 1 = ap unstarted_calls dirty in
    record {
      starts_sync = start_goes sum w old new small sound settled now result written goes state;
      pages = start_pages sum w old new small sound settled result goes;
      covers = start_covers_through sum w old new small sound settled result goes;
      stands = start_stands sum w old new small sound settled result goes;
      calls = omega (arith, start_asks old new result goes, one);
      due = one;
    }

-- where all is durable, or a sync is pending, none is started
pub clean_starts : (sum : List ℕ → ℕ) (w : WriterState) (life : Life) → IsConsistent sum w life.present → w.sync ≡ Clean → IsWritten w → StartsOver sum w life life (Ok (w, Done))
unfolding IsConsistent
clean_starts sum w life sound clean written = (goes_on_same sum w life sound, written, clean, λ full. settle_keeps sum w life.present sound full clean written.flushed)

pub pending_starts : (sum : List ℕ → ℕ) (w : WriterState) (name : ℕ) (life : Life) → IsSmall sum → IsConsistent sum w life.present → w.sync ≡ Pending name → IsWritten w → StartsOver sum w life life (Ok (w, Named name))
unfolding IsConsistent
pending_starts sum w name life small sound pending written = (goes_on_same sum w life sound, written, pending, λ full. pending_covers sum w life.present sound name small full pending written.flushed)

-- ---- a start after a flush

module _ (sum : List ℕ → ℕ) (w m : WriterState) (old mid new : Life) (first : CarriesOn sum w old [] m mid) where
  same_starts : (started : StartedSync) → StartedSyncKeeps sum m.page_size (content m mid.present.readable) new started → StartedSyncKeeps sum w.page_size (content w old.present.readable) new started
  same_starts started covered =
      subst (λ (c : List ℕ). StartedSyncKeeps sum w.page_size c new started) (first.content ∙ append-nil (content w old.present.readable))
      (subst (λ (P : ℕ). StartedSyncKeeps sum P (content m mid.present.readable) new started) first.same.page_size covered)

  pub starts_after : (result : Result (WriterState × StartedSync) Error) → StartsOver sum m mid new result → StartsOver sum w old new result
  starts_after (Ok r) (goes, written, state, covered) = (goes_on_more sum w m r.0 old mid new first goes, written, state, λ full. same_starts r.1 (covered (first.intact full)))
  starts_after (Err e) refused = refuses_more sum w m old mid new e first refused

-- what the flush did, by whether there was something to write
module _ (w m : WriterState) (old mid new : Life) (dirty : has_work w true ≡ true → m.sync ≡ Dirty) (idle : has_work w true ≡ false → (m ≡ w) × (mid ≡ old)) where
  calls_by : (work : Bool) → has_work w true ≡ work → AsksAtMost (wait_calls w.sync + 1) old mid → AsksAtMost (unstarted_calls m.sync) mid new → AsksAtMost (if work then wait_calls w.sync + 2 else unstarted_calls w.sync) old new
  calls_by true is first second = omega (arith, first, second, ap unstarted_calls (dirty is))
  calls_by false is first second =
      let same = idle is in omega (arith, second, ap (λ (v : WriterState). unstarted_calls v.sync) same.0, ap (λ (l : Life). length l.present.log) same.1)

  pub start_asks_after : AsksAtMost (wait_calls w.sync + 1) old mid → AsksAtMost (unstarted_calls m.sync) mid new → AsksAtMost (start_calls w) old new
  start_asks_after first second = calls_by (has_work w true) refl first second

  due_by : (work : Bool) → has_work w true ≡ work → 0 < (if work then wait_calls w.sync + 2 else unstarted_calls w.sync) → 0 < unstarted_calls m.sync
  due_by true is some = omega (arith, ap unstarted_calls (dirty is))
  due_by false is some = omega (arith, some, ap (λ (v : WriterState). unstarted_calls v.sync) (idle is).0)

  pub start_due : 0 < start_calls w → 0 < unstarted_calls m.sync
  start_due some = due_by (has_work w true) refl some

  none_by : (work : Bool) → has_work w true ≡ work → (if work then wait_calls w.sync + 2 else unstarted_calls w.sync) ≡ 0 → (m ≡ w) × (mid ≡ old) × (unstarted_calls w.sync ≡ 0)
  none_by true is none = absurd (omega (arith, none))
  none_by false is none = let same = idle is in (same.0, same.1, none)

  pub start_none : start_calls w ≡ 0 → (m ≡ w) × (mid ≡ old) × (unstarted_calls w.sync ≡ 0)
  start_none none = none_by (has_work w true) refl none

-- a flush that is refused had something to write
pub start_asks_flush : (w : WriterState) (old new : Life) → (has_work w true ≡ false → ⊥) → AsksAtMost (wait_calls w.sync + 1) old new → AsksAtMost (start_calls w) old new
start_asks_flush w old new work calls = by_work (has_work w true) refl
  where
    by_work : (b : Bool) → has_work w true ≡ b → AsksAtMost (if b then wait_calls w.sync + 2 else unstarted_calls w.sync) old new
    by_work true is = omega (arith, calls)
    by_work false is = absurd (work is)

pub start_some : (w : WriterState) → (has_work w true ≡ false → ⊥) → start_calls w ≡ 0 → ⊥
start_some w work none = by_work (has_work w true) refl none
  where
    by_work : (b : Bool) → has_work w true ≡ b → (if b then wait_calls w.sync + 2 else unstarted_calls w.sync) ≡ 0 → ⊥
    by_work true is none = omega (arith, none)
    by_work false is none = work is

-- a start that asks nothing
pub start_again : (w m now : WriterState) (old mid new : Life) (result : Result StartedSync Error) → (m ≡ w) × (mid ≡ old) × (unstarted_calls w.sync ≡ 0)
    → (unstarted_calls m.sync ≡ 0 → (result ≡ Ok (started_already m.sync)) × (now ≡ m) × (new ≡ mid)) → (result ≡ Ok (started_already w.sync)) × (now ≡ w) × (new ≡ old)
start_again w m now old mid new result (same, before, none) idle =
    let later = idle (omega (arith, none, ap (λ (v : WriterState). unstarted_calls v.sync) same)) in
    (later.0 ∙ ap (λ (v : WriterState). Ok (started_already v.sync)) same, later.1 ∙ same, later.2 ∙ before)

-- a name that is given after a flush
pub start_named : (old mid : Life) (result : Result StartedSync Error) → mid.present.started ≡ old.present.started → IfOk result (λ started. started ≡ Named (length mid.present.started))
    → IfOk result (λ started. started ≡ Named (length old.present.started))
start_named old mid (Ok started) names fresh = fresh ∙ ap (λ (ss : List Started). Named (length ss)) names
start_named old mid (Err e) names fresh = tt
