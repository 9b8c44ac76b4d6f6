-- From what a device call did to what a flush and a sync guarantee.
use Rattle.std.proofs.Common.{◌≡◌, ℕ, ◌+◌, ◌*◌, ◌%◌, ◌<◌, ◌≤◌, inl, inr, ◌⊎◌, List, [], ◌++◌, length, take, refl, sym, ap, ◌∙◌, subst, arith, append-nil, Bool, true, false, Result, Ok, Err}
use Rattle.std.specs.Prelude.{IfOk, OnOk, IsErrOf, not, ◌==◌, ◌&&◌, if◌then◌else◌}
use Rattle.std.proofs.lemmas.List.{take_at}
use Rattle.std.proofs.lemmas.Bool.Decides.{nat_tests}
use Rattle.std.proofs.Math.Nat.{mod-lt, mod-eq_of_lt}
use Rattle.disk.specs.Disk.{Disk, Life, WriteAt, SyncAll, WriteGoes, SyncGoes}
use Rattle.disk.specs.declared.error.Error.{Error}
use Rattle.disk.specs.declared.error.Error.TheVariants.{OffsetOverflow, SyncFailed}
use Rattle.writer_state.specs.WriterState.{WriterState, after_write}
use Rattle.writer_state.specs.declared.sync_state.SyncState.{SyncState}
use Rattle.writer_state.specs.declared.sync_state.SyncState.TheVariants.{Dirty, Pending}
use Rattle.writer_state.specs.Sound.{IsConsistent, IsIntact, IsSound, CanWrite, content, guard_slot, MayFlush}
use Rattle.crash.specs.Started.{AllSettled}
use Rattle.crash.specs.Stays.{StaysThrough}
use Rattle.crash.proofs.BuiltLaws.{IsSmall}
use Rattle.writer_state.proofs.FlushLaws.{flushed_fits, flush_settled, tip_reach, length-content}
use Rattle.crash.proofs.Moments.{stays_through_start, stays_through_joins}
use Rattle.writer_state.proofs.Soundness.{carry_consistent, consistent_leaves, intact_still, sound_holds_together}
use Rattle.writer_state.proofs.CallLaws.{sync_stays, sync_consistent, sync_content, write_stays, write_consistent, durable_write_consistent, write_content, write_intact}
use Rattle.disk.proofs.Logs.{grows_same, grows_once, grows_joins}
use Rattle.paged.proofs.Flushing.{length-rest}
use Rattle.paged.proofs.Causes.{cause_later, none_refused_joins, none_refused_once, none_refused_same, sync_cause, sync_grows, write_cause, write_grows}
use Rattle.paged.specs.Flush.{full_in, rest_of, has_work, carried, synced, written, offset_of, flush_bytes, with_value}
use Rattle.paged.specs.Calls.{AsksAtMost, settle_calls, sync_calls, HoldsWithin, PendingSyncFailed, CallCause, IsSameWriter, CarriesOn, Fails, Flushes, SyncsOver, Settles, IsSettled, IsWritten, WaitsForNone}

-- a content is the beginning of a longer one
pub begins : (xs ys : List ℕ) → xs ≡ take (length xs) (xs ++ ys)
begins xs ys = sym (take_at xs ys (length xs) refl)

-- the size of a writer is the length of its content
pub size_holds : (sum : List ℕ → ℕ) (w : WriterState) (life : Life) → IsConsistent sum w life.present → w.full_pages * w.page_size + length w.tip ≡ length (content w life.present.readable)
unfolding IsConsistent
size_holds sum w life sound = sym (length-content w life.present.readable ((tip_reach sum w.page_size w.full_pages w.tip life.present.readable w.flushed sound.stands.tip_page).0))

pub size_is_length : (sum : List ℕ → ℕ) (w : WriterState) (life : Life) → IsSound sum w life.present → w.full_pages * w.page_size + length w.tip ≡ length (content w life.present.readable)
size_is_length sum w life sound = size_holds sum w life (sound_holds_together sum w life.present sound)

-- promises over a content are promises over that content and no bytes more
pub stays_nil : (sum : List ℕ → ℕ) (P : ℕ) (content : List ℕ) (old new : Life) → StaysThrough sum P content old new → StaysThrough sum P (content ++ []) old new
stays_nil sum P content old new stays = subst (λ c. StaysThrough sum P c old new) (sym (append-nil content)) stays

-- a flush of the full pages, and of the rest where asked, by a writer whose durable slot is up to
-- date
pub flush_goes : (sum : List ℕ → ℕ) (w now : WriterState) (rest : Bool) (old new : Life) (result : Result (Unit {0}) Error) → IsSmall sum → IsConsistent sum w old.present
    → MayFlush w.sync w.flushed w.durable → CanWrite w.page_size w.tip (full_in w) rest → WriteGoes (offset_of w) (flush_bytes sum w rest) false old new result
    → OnOk result (now ≡ after_write sum w (full_in w) rest) → (IsErrOf result OffsetOverflow → ⊥) → Flushes sum w old new (with_value now result)
unfolding IsConsistent
flush_goes sum w now rest old new (Ok done) small sound is can goes state fits = record {
  holds = subst (λ n. IsConsistent sum n new.present) (sym state) (write_consistent sum w old new (full_in w) rest (flush_bytes sum w rest) small sound is can refl tt goes);
  size = size_holds sum now new (subst (λ n. IsConsistent sum n new.present) (sym state) (write_consistent sum w old new (full_in w) rest (flush_bytes sum w rest) small sound is can refl tt goes));
  only = consistent_leaves sum now new.present (subst (λ n. IsConsistent sum n new.present) (sym state) (write_consistent sum w old new (full_in w) rest (flush_bytes sum w rest) small sound is can refl tt goes));
  intact = λ full. subst (λ n. IsIntact sum n new.present) (sym state) (write_intact sum w old new (full_in w) rest (flush_bytes sum w rest) small sound is can refl false tt goes full);
  content = ap (λ n. content n new.present.readable) state ∙ write_content sum w old new (full_in w) rest (flush_bytes sum w rest) small sound is can refl false tt goes ∙ sym (append-nil (content w old.present.readable));
  same = subst (λ n. IsSameWriter w n) (sym state) (record { page_size = refl; id = refl; capacity = refl; full_pages = omega arith });
  log = grows_once (WriteAt (offset_of w) (length (flush_bytes sum w rest)) false) false old.present new.present (ap (λ l. l.present.log) goes.1 ∙ ap (λ e. e.log) goes.2.rest);
  served = none_refused_once (WriteAt (offset_of w) (length (flush_bytes sum w rest)) false) old.present new.present (ap (λ l. l.present.log) goes.1 ∙ ap (λ e. e.log) goes.2.rest);
  stays = stays_nil sum w.page_size (content w old.present.readable) old new (write_stays sum w old new (full_in w) rest (flush_bytes sum w rest) small sound is can refl false (Ok tt) goes);
  waits = λ had. absurd (subst (λ (n : WriterState). PendingSyncFailed n.sync new.present) state had);
}
flush_goes sum w now rest old new (Err e) small sound is can goes state fits = record {
  cause = write_cause w.sync (offset_of w) (flush_bytes sum w rest) false old new e goes (λ h. fits (ap Err h));
  stays = write_stays sum w old new (full_in w) rest (flush_bytes sum w rest) small sound is can refl false (Err e) goes;
  log = write_grows (offset_of w) (flush_bytes sum w rest) false old new (Err e) goes;
}

-- going on from a writer whose durable slot was brought up to date is going on from the writer
carried_goes_on : (sum : List ℕ → ℕ) (w now : WriterState) (old new : Life) → CarriesOn sum (carried w) old [] now new → CarriesOn sum w old [] now new
carried_goes_on sum w now old new h = record { holds = h.holds; intact = h.intact; content = h.content; size = h.size; only = h.only; same = record { page_size = h.same.page_size; id = h.same.id; capacity = h.same.capacity; full_pages = h.same.full_pages }; log = h.log; stays = h.stays; waits = h.waits; served = h.served }

flushes_carried : (sum : List ℕ → ℕ) (w : WriterState) (old new : Life) (result : Result WriterState Error) → Flushes sum (carried w) old new result → Flushes sum w old new result
flushes_carried sum w old new (Ok now) h = carried_goes_on sum w now old new h
flushes_carried sum w old new (Err e) h = record { cause = h.cause; stays = h.stays; log = h.log }

-- a flush by a writer whose durable slot was brought up to date
pub flush_call : (sum : List ℕ → ℕ) (w v now : WriterState) (rest : Bool) (old new : Life) (result : Result (Unit {0}) Error) → IsSmall sum → IsConsistent sum w old.present → MayFlush w.sync w.flushed (guard_slot w.sync w.flushed w.durable) → v ≡ carried w
    → CanWrite v.page_size v.tip (full_in v) rest → WriteGoes (offset_of v) (flush_bytes sum v rest) false old new result
    → OnOk result (now ≡ after_write sum v (full_in v) rest) → (IsErrOf result OffsetOverflow → ⊥) → Flushes sum w old new (with_value now result)
unfolding IsConsistent
flush_call sum w v now rest old new result small sound ready is =
    subst (λ v. CanWrite v.page_size v.tip (full_in v) rest → WriteGoes (offset_of v) (flush_bytes sum v rest) false old new result
    → OnOk result (now ≡ after_write sum v (full_in v) rest) → (IsErrOf result OffsetOverflow → ⊥) → Flushes sum w old new (with_value now result)) (sym is)
    (λ can goes state fits. flushes_carried sum w old new (with_value now result) (flush_goes sum (carried w) now rest old new result small (carry_consistent sum w old.present sound) ready can goes state fits))

-- one call after another
pub goes_on_more : (sum : List ℕ → ℕ) (w m n : WriterState) (old mid new : Life) → CarriesOn sum w old [] m mid → CarriesOn sum m mid [] n new → CarriesOn sum w old [] n new
goes_on_more sum w m n old mid new first second = record {
  holds = second.holds;
  intact = λ full. second.intact (first.intact full);
  size = second.size;
  only = second.only;
  content = second.content ∙ append-nil (content m mid.present.readable) ∙ first.content;
  same = record { page_size = second.same.page_size ∙ first.same.page_size; id = second.same.id ∙ first.same.id; capacity = second.same.capacity ∙ first.same.capacity; full_pages = omega (arith, first.same.full_pages, second.same.full_pages) };
  log = grows_joins old.present mid.present new.present first.log second.log;
  stays = stays_through_joins sum w.page_size (content w old.present.readable ++ []) old mid new first.stays
      (subst (λ P. StaysThrough sum P (content w old.present.readable ++ []) mid new) first.same.page_size
      (subst (λ c. StaysThrough sum m.page_size c mid new) (append-nil (content m mid.present.readable) ∙ first.content) second.stays));
  waits = λ had. cause_later w.sync m.sync old mid new SyncFailed first.log second.log first.served first.waits (second.waits had);
  served = none_refused_joins old.present mid.present new.present first.served second.served;
}

-- a refusal of the later call is one of both
pub refuses_more : (sum : List ℕ → ℕ) (w m : WriterState) (old mid new : Life) (e : Error) → CarriesOn sum w old [] m mid → Fails sum m (content m mid.present.readable) mid new e
    → Fails sum w (content w old.present.readable) old new e
refuses_more sum w m old mid new e first second = record {
  cause = cause_later w.sync m.sync old mid new e first.log second.log first.served first.waits second.cause;
  log = grows_joins old.present mid.present new.present first.log second.log;
  stays = subst (λ c. StaysThrough sum w.page_size c old new) (append-nil (content w old.present.readable))
      (stays_through_joins sum w.page_size (content w old.present.readable ++ []) old mid new first.stays
      (subst (λ P. StaysThrough sum P (content w old.present.readable ++ []) mid new) first.same.page_size (subst (λ c. StaysThrough sum m.page_size c mid new) first.content second.stays)));
}

-- a sync that had failed before
pub has_waited : (s : SyncState) (life : Life) → PendingSyncFailed s life.present → CallCause s life life SyncFailed
has_waited s life had = inr had

-- no call at all
pub goes_on_same : (sum : List ℕ → ℕ) (w : WriterState) (life : Life) → IsConsistent sum w life.present → CarriesOn sum w life [] w life
unfolding IsConsistent
goes_on_same sum w life sound = record {
  holds = sound;
  intact = λ full. full;
  size = size_holds sum w life sound;
  only = consistent_leaves sum w life.present sound;
  content = sym (append-nil (content w life.present.readable));
  same = record { page_size = refl; id = refl; capacity = refl; full_pages = omega arith };
  log = grows_same life.present life.present refl;
  stays = stays_nil sum w.page_size (content w life.present.readable) life life (stays_through_start sum w.page_size (content w life.present.readable) life sound.truthful sound.vouched);
  waits = has_waited w.sync life;
  served = none_refused_same life life refl;
}

-- a sync of the blob
settle_ok : (sum : List ℕ → ℕ) (w now : WriterState) (old new : Life) → IsSmall sum → IsConsistent sum w old.present → SyncGoes old new (Ok tt) → now ≡ synced w → CarriesOn sum w old [] now new
unfolding IsConsistent
settle_ok sum w now old new small sound goes state = record {
  holds = subst (λ n. IsConsistent sum n new.present) (sym state) (sync_consistent sum w old sound new tt small goes);
  size = size_holds sum now new (subst (λ n. IsConsistent sum n new.present) (sym state) (sync_consistent sum w old sound new tt small goes));
  only = consistent_leaves sum now new.present (subst (λ n. IsConsistent sum n new.present) (sym state) (sync_consistent sum w old sound new tt small goes));
  intact = λ full. subst (λ n. IsIntact sum n new.present) (sym state) (intact_still sum w old.present new.present (ap (λ (l : Life). l.present.readable) goes) full);
  content = ap (λ n. content n new.present.readable) state ∙ sync_content sum w old sound new tt goes ∙ sym (append-nil (content w old.present.readable));
  same = subst (λ n. IsSameWriter w n) (sym state) (record { page_size = refl; id = refl; capacity = refl; full_pages = omega arith });
  log = grows_once SyncAll false old.present new.present (ap (λ l. l.present.log) goes);
  served = none_refused_once SyncAll old.present new.present (ap (λ l. l.present.log) goes);
  stays = stays_nil sum w.page_size (content w old.present.readable) old new (sync_stays sum w old sound new (Ok tt) goes);
  waits = λ had. absurd (subst (λ (n : WriterState). PendingSyncFailed n.sync new.present) state had);
}

pub settle_goes : (sum : List ℕ → ℕ) (w now : WriterState) (old new : Life) (result : Result (Unit {0}) Error) → IsSmall sum → IsConsistent sum w old.present → SyncGoes old new result
    → OnOk result (now ≡ synced w) → Settles sum w old new (with_value now result)
unfolding IsConsistent
settle_goes sum w now old new (Ok done) small sound goes state = (settle_ok sum w now old new small sound goes state, state)
settle_goes sum w now old new (Err e) small sound goes state = record { cause = sync_cause w.sync old new e goes; stays = sync_stays sum w old sound new (Err e) goes; log = sync_grows old new (Err e) goes }

-- what is left after the full pages is written as it is, or there is nothing left
pub settled_after : (sum : List ℕ → ℕ) (w : WriterState) (rest : Bool) → 0 < w.page_size → rest ≡ not (length w.tip % w.page_size == 0) → IsSettled (synced (after_write sum w (full_in w) rest))
settled_after sum w false some is = record {
  clean = refl;
  short = omega (arith, length-rest w, mod-lt (length w.tip) some);
  flushed = grind (arith, nat_tests, length-rest w, is);
}
settled_after sum w true some is = record {
  clean = refl;
  short = omega (arith, length-rest w, mod-lt (length w.tip) some);
  flushed = refl;
}

-- a write that is durable at once
sync_durably : (sum : List ℕ → ℕ) (w now : WriterState) (rest : Bool) (old new : Life) (result : Result (Unit {0}) Error) → IsSmall sum → IsConsistent sum w old.present
    → MayFlush w.sync w.flushed w.durable → rest ≡ not (length w.tip % w.page_size == 0) → CanWrite w.page_size w.tip (full_in w) rest
    → WriteGoes (offset_of w) (flush_bytes sum w rest) true old new result
    → OnOk result (now ≡ synced (after_write sum w (full_in w) rest)) → (IsErrOf result OffsetOverflow → ⊥) → SyncsOver sum w old new (with_value now result)
unfolding IsConsistent
sync_durably sum w now rest old new (Ok done) small sound is rests can goes state fits = (
  record {
    holds = subst (λ n. IsConsistent sum n new.present) (sym state) (durable_write_consistent sum w old new (full_in w) rest (flush_bytes sum w rest) small sound is can refl tt goes);
    size = size_holds sum now new (subst (λ n. IsConsistent sum n new.present) (sym state) (durable_write_consistent sum w old new (full_in w) rest (flush_bytes sum w rest) small sound is can refl tt goes));
    only = consistent_leaves sum now new.present (subst (λ n. IsConsistent sum n new.present) (sym state) (durable_write_consistent sum w old new (full_in w) rest (flush_bytes sum w rest) small sound is can refl tt goes));
    intact = λ full. subst (λ n. IsIntact sum n new.present) (sym state) (write_intact sum w old new (full_in w) rest (flush_bytes sum w rest) small sound is can refl true tt goes full);
    content = ap (λ n. content n new.present.readable) state ∙ write_content sum w old new (full_in w) rest (flush_bytes sum w rest) small sound is can refl true tt goes ∙ sym (append-nil (content w old.present.readable));
    same = subst (λ n. IsSameWriter w n) (sym state) (record { page_size = refl; id = refl; capacity = refl; full_pages = omega arith });
    log = grows_once (WriteAt (offset_of w) (length (flush_bytes sum w rest)) true) false old.present new.present (ap (λ l. l.present.log) goes.1 ∙ ap (λ e. e.log) goes.2.rest);
    served = none_refused_once (WriteAt (offset_of w) (length (flush_bytes sum w rest)) true) old.present new.present (ap (λ l. l.present.log) goes.1 ∙ ap (λ e. e.log) goes.2.rest);
    stays = stays_nil sum w.page_size (content w old.present.readable) old new (write_stays sum w old new (full_in w) rest (flush_bytes sum w rest) small sound is can refl true (Ok tt) goes);
    waits = λ had. absurd (subst (λ (n : WriterState). PendingSyncFailed n.sync new.present) state had);
  },
  subst IsSettled (sym state) (settled_after sum w rest sound.stands.some rests),
)
sync_durably sum w now rest old new (Err e) small sound is rests can goes state fits = record {
  cause = write_cause w.sync (offset_of w) (flush_bytes sum w rest) true old new e goes (λ h. fits (ap Err h));
  stays = write_stays sum w old new (full_in w) rest (flush_bytes sum w rest) small sound is can refl true (Err e) goes;
  log = write_grows (offset_of w) (flush_bytes sum w rest) true old new (Err e) goes;
}

syncs_carried : (sum : List ℕ → ℕ) (w : WriterState) (old new : Life) (result : Result WriterState Error) → SyncsOver sum (carried w) old new result → SyncsOver sum w old new result
syncs_carried sum w old new (Ok now) h = (carried_goes_on sum w now old new h.0, h.1)
syncs_carried sum w old new (Err e) h = record { cause = h.cause; stays = h.stays; log = h.log }

-- the same by a writer whose durable slot was brought up to date
pub sync_write : (sum : List ℕ → ℕ) (w v now : WriterState) (rest : Bool) (old new : Life) (result : Result (Unit {0}) Error) → IsSmall sum → IsConsistent sum w old.present → MayFlush w.sync w.flushed (guard_slot w.sync w.flushed w.durable) → v ≡ carried w
    → rest ≡ not (length w.tip % w.page_size == 0) → CanWrite v.page_size v.tip (full_in v) rest → WriteGoes (offset_of v) (flush_bytes sum v rest) true old new result
    → OnOk result (now ≡ synced (after_write sum v (full_in v) rest)) → (IsErrOf result OffsetOverflow → ⊥) → SyncsOver sum w old new (with_value now result)
unfolding IsConsistent
sync_write sum w v now rest old new result small sound ready is rests =
    subst (λ v. CanWrite v.page_size v.tip (full_in v) rest → WriteGoes (offset_of v) (flush_bytes sum v rest) true old new result
    → OnOk result (now ≡ synced (after_write sum v (full_in v) rest)) → (IsErrOf result OffsetOverflow → ⊥) → SyncsOver sum w old new (with_value now result)) (sym is)
    (λ can goes state fits. syncs_carried sum w old new (with_value now result) (sync_durably sum (carried w) now rest old new result small (carry_consistent sum w old.present sound) ready rests can goes state fits))

-- a dirty writer's durable slot is up to date
pub dirty_carried : (w : WriterState) → w.sync ≡ Dirty → MayFlush w.sync w.flushed w.durable
dirty_carried w dirty = subst (λ (s : SyncState). MayFlush s w.flushed w.durable) (sym dirty) tt

-- a writer that may flush has no started sync that isn't settled
pub ready_settled : (sum : List ℕ → ℕ) (w : WriterState) (d : Disk) → IsConsistent sum w d → MayFlush w.sync w.flushed (guard_slot w.sync w.flushed w.durable) → AllSettled d
unfolding IsConsistent
ready_settled sum w d sound ready = flush_settled d w.sync w.flushed (guard_slot w.sync w.flushed w.durable) ready sound.stands.starts

-- a writer that waits for none and isn't clean is dirty
pub dirty_state : (w : WriterState) (s : SyncState) → s ≡ w.sync → WaitsForNone w.sync → (s ≡ Dirty) ⊎ ((name : ℕ) × (s ≡ Pending name)) → w.sync ≡ Dirty
dirty_state w s is none (inl dirty) = sym is ∙ dirty
dirty_state w s is none (inr (name, pending)) = absurd (subst (λ (t : SyncState). WaitsForNone t) (sym is ∙ pending) none)

-- so all syncs that a dirty writer started are settled
pub dirty_settled : (sum : List ℕ → ℕ) (w : WriterState) (d : Disk) → IsConsistent sum w d → w.sync ≡ Dirty → AllSettled d
unfolding IsConsistent
dirty_settled sum w d sound dirty = flush_settled d w.sync w.flushed w.durable (dirty_carried w dirty) sound.stands.starts

-- a write, and a sync of the blob
pub sync_second : (sum : List ℕ → ℕ) (w now n : WriterState) (rest : Bool) (old mid new : Life) (result : Result (Unit {0}) Error) → IsSmall sum → IsConsistent sum w old.present → w.sync ≡ Dirty
    → rest ≡ not (length w.tip % w.page_size == 0) → CanWrite w.page_size w.tip (full_in w) rest → WriteGoes (offset_of w) (flush_bytes sum w rest) false old mid (Ok tt)
    → now ≡ after_write sum w (full_in w) rest → SyncGoes mid new result → OnOk result (n ≡ synced now) → SyncsOver sum w old new (with_value n result)
unfolding IsConsistent
sync_second sum w now n rest old mid new (Ok done) small sound dirty rests can goes state synced_blob last =
    let first : CarriesOn sum w old [] now mid = flush_goes sum w now rest old mid (Ok tt) small sound (dirty_carried w dirty) can goes state (λ is. cc) in (
      goes_on_more sum w now n old mid new first (settle_ok sum now n mid new small first.holds synced_blob last),
      subst IsSettled (sym (last ∙ ap synced state)) (settled_after sum w rest sound.stands.some rests),
    )
sync_second sum w now n rest old mid new (Err e) small sound dirty rests can goes state synced_blob last =
    let first : CarriesOn sum w old [] now mid = flush_goes sum w now rest old mid (Ok tt) small sound (dirty_carried w dirty) can goes state (λ is. cc) in
    refuses_more sum w now old mid new e first (settle_goes sum now n mid new (Err e) small first.holds synced_blob last)

-- a writer that has nothing to write has written all
idle_settled : (sum : List ℕ → ℕ) (w : WriterState) (d : Disk) → IsConsistent sum w d → has_work w true ≡ false → IsSettled (synced w)
unfolding IsConsistent
idle_settled sum w d sound idle =
    let short : length w.tip < w.page_size = grind (arith, nat_tests, idle) in
    let same : length w.tip % w.page_size ≡ length w.tip = mod-eq_of_lt short in
    record {
      clean = refl;
      short = short;
      flushed = grind (arith, nat_tests, idle, same, flushed_fits sum w.page_size w.full_pages w.tip d.readable w.flushed sound.stands.tip_page);
    }

-- so a flush that has nothing to write leaves less than a page, and with the rest nothing
pub idle_short_rest : (w : WriterState) (rest : Bool) → has_work w rest ≡ false → length w.tip < w.page_size
idle_short_rest w rest idle = grind (arith, nat_tests, idle)

pub idle_written : (sum : List ℕ → ℕ) (w : WriterState) (rest : Bool) (d : Disk) → IsConsistent sum w d → has_work w rest ≡ false → rest ≡ true → IsWritten w
unfolding IsConsistent
idle_written sum w rest d sound idle all =
    let settled : IsSettled (synced w) = idle_settled sum w d sound (sym (ap (λ (b : Bool). has_work w b) all) ∙ idle) in
    record { short = settled.short; flushed = settled.flushed }

-- nothing to write: what is written is synced
pub sync_settles : (sum : List ℕ → ℕ) (w : WriterState) (old new : Life) (result : Result WriterState Error) → IsConsistent sum w old.present → has_work w true ≡ false
    → Settles sum w old new result → SyncsOver sum w old new result
sync_settles sum w old new (Ok now) sound idle (goes, state) = (goes, subst IsSettled (sym state) (idle_settled sum w old.present sound idle))
sync_settles sum w old new (Err e) sound idle refused = refused

-- after a flush less than a page is buffered
pub flush_short : (sum : List ℕ → ℕ) (w v now : WriterState) (rest : Bool) (result : Result (Unit {0}) Error) → 0 < w.page_size → v ≡ carried w → OnOk result (now ≡ written sum v rest false)
    → OnOk result (length now.tip < w.page_size)
flush_short sum w v now rest (Ok done) some is state =
    let same : v.page_size ≡ w.page_size = ap (λ (s : WriterState). s.page_size) is in
    let tip : length now.tip ≡ length (rest_of v) = ap (λ (s : WriterState). length s.tip) state in
    omega (arith, length-rest v, mod-lt (length v.tip) (let page : 0 < v.page_size = omega (arith, some, same) in page), same, tip)
flush_short sum w v now rest (Err e) some is state = tt

-- after a flush with the rest all is written
pub flush_written : (sum : List ℕ → ℕ) (w v now : WriterState) (asked rest : Bool) (result : Result (Unit {0}) Error) → 0 < w.page_size → v ≡ carried w → rest ≡ (asked && not (length w.tip % w.page_size == 0))
    → OnOk result (now ≡ written sum v rest false) → asked ≡ true → OnOk result (IsWritten now)
flush_written sum w v now asked rest (Ok done) some is rests state all =
    let whole : rest ≡ not (length w.tip % w.page_size == 0) = rests ∙ ap (λ (b : Bool). b && not (length w.tip % w.page_size == 0)) all in
    let carry : IsSettled (synced (after_write sum (carried w) (full_in (carried w)) rest)) = settled_after sum (carried w) rest some whole in
    let is_now : now ≡ written sum (carried w) rest false = state ∙ ap (λ (x : WriterState). written sum x rest false) is in
    subst IsWritten (sym is_now) (record { short = carry.short; flushed = carry.flushed })
flush_written sum w v now asked rest (Err e) some is rests state all = tt

-- after a flush the writer is dirty
pub flush_dirty : (sum : List ℕ → ℕ) (v now : WriterState) (rest : Bool) (result : Result (Unit {0}) Error) → OnOk result (now ≡ written sum v rest false) → OnOk result (now.sync ≡ Dirty)
flush_dirty sum v now rest (Ok done) state = ap (λ (w : WriterState). w.sync) state
flush_dirty sum v now rest (Err e) state = tt

-- less than a page is buffered after a sync
pub sync_within : (sum : List ℕ → ℕ) (w : WriterState) (old new : Life) (result : Result WriterState Error) → w.page_size ≤ w.capacity → SyncsOver sum w old new result → IfOk result (λ now. HoldsWithin now)
sync_within sum w old new (Ok now) room syncs = omega (arith, syncs.1.short, syncs.0.same.page_size, syncs.0.same.capacity, room)
sync_within sum w old new (Err e) room syncs = tt

-- a sync that writes and syncs, in two calls
pub sync_asks_twice : (w : WriterState) (old mid new : Life) → has_work w true ≡ true → w.sync ≡ Dirty → AsksAtMost 1 old mid → AsksAtMost 1 mid new → AsksAtMost (sync_calls w) old new
sync_asks_twice w old mid new work dirty first second =
    let write : (if has_work w true then 1 else 0) ≡ 1 = ap {B = ℕ} (λ b. if b then 1 else 0) work in
    omega (arith, first, second, ap settle_calls dirty, write)

-- a sync that writes durably, in one call
pub sync_asks_once : (w : WriterState) (old new : Life) → has_work w true ≡ true → AsksAtMost 1 old new → AsksAtMost (sync_calls w) old new
sync_asks_once w old new work first =
    let write : (if has_work w true then 1 else 0) ≡ 1 = ap {B = ℕ} (λ b. if b then 1 else 0) work in
    omega (arith, first, write)

-- where something isn't written a sync has something to do
pub sync_due : (w : WriterState) → has_work w true ≡ true → sync_calls w ≡ 0 → ⊥
sync_due w work none =
    let write : (if has_work w true then 1 else 0) ≡ 1 = ap {B = ℕ} (λ b. if b then 1 else 0) work in
    omega (arith, write, none)

-- a sync that has nothing to write has to settle alone
pub settle_none : (w : WriterState) → sync_calls w ≡ 0 → settle_calls w.sync ≡ 0
settle_none w none = omega (arith, none)
