-- From what the device did, by cases on its answer, to `Stays` at each moment of the call, and to a
-- sound writer after it.
use Rattle.std.proofs.Common.{◌≡◌, ℕ, ◌+◌, ◌*◌, List, length, refl, sym, ◌∙◌, ap, subst}
use Rattle.std.specs.Prelude.{Bool, true, false, Result, Ok, Err}
use Rattle.disk.specs.declared.error.Error.{Error}
use Rattle.disk.specs.declared.error.Error.TheVariants.{WriteFailed, SyncFailed, OffsetOverflow, OutOfMemory}
use Rattle.disk.specs.Disk.{Disk, Life, HasOperated, Request, next, settled_disk, logged, AskedOnce, WriteGoes, SyncGoes}
use Rattle.disk.specs.Disk.Operation.{Write}
use Rattle.disk.specs.Disk.Request.{WriteAt, SyncAll}
use Rattle.writer_state.specs.WriterState.{WriterState, after_write}
use Rattle.writer_state.specs.declared.sync_state.SyncState.TheVariants.{Clean, Dirty}
use Rattle.crash.specs.Built.{built, written_pages}
use Rattle.crash.specs.Stays.{Stays, StaysThrough}
use Rattle.writer_state.specs.Sound.{content, MayFlush, Consistency, CanWrite, IsIntact}
use Rattle.crash.proofs.BuiltLaws.{IsSmall}
use Rattle.writer_state.proofs.FlushLaws.{flush_content, flush_full, starts_within, settled_starts}
use Rattle.crash.specs.Moments.{through_more}
use Rattle.crash.proofs.Moments.{stays_through_start}
use Rattle.writer_state.proofs.Soundness.{operated_consistent, operated_stays, operated_settle_stays, settle_consistent, settle_stays, alike_stays}

module _ (sum : List ℕ → ℕ) (w : WriterState) (old : Life) (sound : Consistency sum w old.present) where
  -- `Stays` at a moment, by the one at which the call began
  abbrev Owes : Disk → Type 0
  Owes d = Stays sum w.page_size (content w old.present.readable) old.present d

  -- the device was not asked: `Stays` holds at each moment
  none_stays : (new : Life) → new ≡ old → StaysThrough sum w.page_size (content w old.present.readable) old new
  none_stays new is = subst (λ (life : Life). StaysThrough sum w.page_size (content w old.present.readable) old life) (sym is) (stays_through_start sum w.page_size (content w old.present.readable) old sound.truthful sound.vouched)

  -- the call took one moment: `Stays` holds at each, if it holds there
  one_stays : (new : Life) (d : Disk) → new ≡ next old d → Owes d → StaysThrough sum w.page_size (content w old.present.readable) old new
  one_stays new d is stays =
      subst (λ (life : Life). StaysThrough sum w.page_size (content w old.present.readable) old life) (sym is)
      (through_more Owes old old d (stays_through_start sum w.page_size (content w old.present.readable) old sound.truthful sound.vouched) stays)

  -- the call took two moments: `Stays` holds at each, if it holds at both
  two_stays : (new : Life) (d e : Disk) → new ≡ next (next old d) e → Owes d → Owes e → StaysThrough sum w.page_size (content w old.present.readable) old new
  two_stays new d e is first second =
      subst (λ (life : Life). StaysThrough sum w.page_size (content w old.present.readable) old life) (sym is)
      (through_more Owes old (next old d) e (one_stays (next old d) d refl first) second)

  -- the device was asked, and nothing but the log changed: `Stays` holds at each moment
  asked_stays : (new : Life) (request : Request) (failed : Bool) → AskedOnce request failed old new → StaysThrough sum w.page_size (content w old.present.readable) old new
  asked_stays new request failed is =
      one_stays new (logged request failed old.present) is (alike_stays sum w old.present (logged request failed old.present) sound refl refl refl)

  -- `Stays` holds at each moment of a sync, whatever the device answers
  pub sync_stays : (new : Life) (answer : Result (Unit {0}) Error) → SyncGoes old new answer → StaysThrough sum w.page_size (content w old.present.readable) old new
  sync_stays new (Ok done) goes = one_stays new (settled_disk (logged SyncAll false old.present)) goes (settle_stays sum w old.present (settled_disk (logged SyncAll false old.present)) sound refl refl refl)
  sync_stays new (Err SyncFailed) goes = asked_stays new SyncAll true goes
  sync_stays new (Err OutOfMemory) goes = none_stays new goes
  sync_stays new (Err e) goes = absurd goes

  -- a sync that is done leaves a clean, consistent writer
  pub sync_consistent : (new : Life) (done : Unit {0}) → IsSmall sum → SyncGoes old new (Ok done) → Consistency sum (record w { sync = Clean }) new.present
  sync_consistent new done small goes =
      subst (λ (life : Life). Consistency sum (record w { sync = Clean }) life.present) (sym goes)
      (settle_consistent sum w old.present (settled_disk (logged SyncAll false old.present)) sound refl Clean small refl refl
      (settled_starts old.present (settled_disk (logged SyncAll false old.present)) (starts_within old.present w.sync sound.stands.starts) refl refl) refl)

  -- after a sync that is done the content is the same
  pub sync_content : (new : Life) (done : Unit {0}) → SyncGoes old new (Ok done) → content w new.present.readable ≡ content w old.present.readable
  sync_content new done goes = ap (λ (life : Life). content w life.present.readable) goes

module _ (sum : List ℕ → ℕ) (w : WriterState) (old new : Life) (k : ℕ) (rest : Bool) (bytes : List ℕ) (small : IsSmall sum) (sound : Consistency sum w old.present) (ready : MayFlush w.sync w.flushed w.durable)
    (can : CanWrite w.page_size w.tip k rest) (is : bytes ≡ built sum w.page_size w.durable (written_pages k rest) w.tip) where
  -- a flush that was done or failed
  operated : (sync failed : Bool) (d : Disk) → new ≡ next old d → HasOperated (Write (w.full_pages * (w.page_size + 12)) bytes) (WriteAt (w.full_pages * (w.page_size + 12)) (length bytes) sync) failed old.present d
      → StaysThrough sum w.page_size (content w old.present.readable) old new
  operated sync failed d goes done =
      one_stays sum w old sound new d goes (operated_stays sum w old.present d k rest bytes small sound ready can is (WriteAt (w.full_pages * (w.page_size + 12)) (length bytes) sync) failed done)

  plain_stays : (answer : Result (Unit {0}) Error) → WriteGoes (w.full_pages * (w.page_size + 12)) bytes false old new answer → StaysThrough sum w.page_size (content w old.present.readable) old new
  plain_stays (Ok done) goes = operated false false goes.0 goes.1 goes.2
  plain_stays (Err OffsetOverflow) goes = none_stays sum w old sound new goes.0
  plain_stays (Err OutOfMemory) goes = none_stays sum w old sound new goes.0
  plain_stays (Err e) goes = operated false true goes.1.0 goes.1.1 goes.1.2

  durable_stays : (answer : Result (Unit {0}) Error) → WriteGoes (w.full_pages * (w.page_size + 12)) bytes true old new answer → StaysThrough sum w.page_size (content w old.present.readable) old new
  durable_stays (Ok done) goes =
      let request = WriteAt (w.full_pages * (w.page_size + 12)) (length bytes) true in
      let d = goes.0 in
      two_stays sum w old sound new d (settled_disk d) goes.1 (operated_stays sum w old.present d k rest bytes small sound ready can is request false goes.2)
      (operated_settle_stays sum w old.present d k rest bytes small sound ready can is request (settled_disk d) goes.2 refl refl)
  durable_stays (Err WriteFailed) goes = operated true true goes.0 goes.1 goes.2
  durable_stays (Err OffsetOverflow) goes = none_stays sum w old sound new goes.0
  durable_stays (Err OutOfMemory) goes = none_stays sum w old sound new goes.0
  durable_stays (Err e) goes = absurd goes

  -- `Stays` holds at each moment of a flush, durable or not, whatever the device answers
  pub write_stays : (sync : Bool) (answer : Result (Unit {0}) Error) → WriteGoes (w.full_pages * (w.page_size + 12)) bytes sync old new answer → StaysThrough sum w.page_size (content w old.present.readable) old new
  write_stays true answer goes = durable_stays answer goes
  write_stays false answer goes = plain_stays answer goes

  -- a flush that is done leaves a consistent writer
  pub write_consistent : (done : Unit {0}) → WriteGoes (w.full_pages * (w.page_size + 12)) bytes false old new (Ok done) → Consistency sum (after_write sum w k rest) new.present
  write_consistent done goes =
      subst (λ (life : Life). Consistency sum (after_write sum w k rest) life.present) (sym goes.1)
      (operated_consistent sum w old.present goes.0 k rest bytes small sound ready can is (WriteAt (w.full_pages * (w.page_size + 12)) (length bytes) false) goes.2)

  -- a durable flush that is done leaves a clean, consistent writer
  pub durable_write_consistent : (done : Unit {0}) → WriteGoes (w.full_pages * (w.page_size + 12)) bytes true old new (Ok done) → Consistency sum (record (after_write sum w k rest) { sync = Clean }) new.present
  durable_write_consistent done goes =
      let d = goes.0 in
      subst (λ (life : Life). Consistency sum (record (after_write sum w k rest) { sync = Clean }) life.present) (sym goes.1)
      (let done = operated_consistent sum w old.present d k rest bytes small sound ready can is (WriteAt (w.full_pages * (w.page_size + 12)) (length bytes) true) goes.2 in
      settle_consistent sum (after_write sum w k rest) d (settled_disk d) done refl Clean small refl refl (settled_starts d (settled_disk d) (starts_within d Dirty done.stands.starts) refl refl) refl)

  -- where the pages below the tip were full, those below the new tip are after a flush
  pub write_intact : (sync : Bool) (done : Unit {0}) → WriteGoes (w.full_pages * (w.page_size + 12)) bytes sync old new (Ok done) → IsIntact sum w old.present → IsIntact sum (after_write sum w k rest) new.present
  write_intact true done goes full =
      subst (λ (life : Life). IsIntact sum (after_write sum w k rest) life.present) (sym goes.1)
      (flush_full sum w old.present goes.0 k rest bytes small sound.stands can is (goes.2.done refl) full)
  write_intact false done goes full =
      subst (λ (life : Life). IsIntact sum (after_write sum w k rest) life.present) (sym goes.1)
      (flush_full sum w old.present goes.0 k rest bytes small sound.stands can is (goes.2.done refl) full)

  -- after a flush that is done the content is the same
  pub write_content : (sync : Bool) (done : Unit {0}) → WriteGoes (w.full_pages * (w.page_size + 12)) bytes sync old new (Ok done) → content (after_write sum w k rest) new.present.readable ≡ content w old.present.readable
  write_content true done goes =
      ap (λ (life : Life). content (after_write sum w k rest) life.present.readable) goes.1
      ∙ flush_content sum w old.present goes.0 k rest bytes small sound.stands can is (goes.2.done refl)
  write_content false done goes =
      ap (λ (life : Life). content (after_write sum w k rest) life.present.readable) goes.1
      ∙ flush_content sum w old.present goes.0 k rest bytes small sound.stands can is (goes.2.done refl)
