-- What started syncs cover stays covered through a flush, a sync and an append.
use Rattle.std.proofs.Common.{◌≡◌, ℕ, inl, inr, List, [], ◌++◌, sym, ◌∙◌, refl, subst, append-nil, Bool, Result}
use Rattle.disk.specs.Disk.{Disk, Life, WriteGoes, SyncGoes}
use Rattle.disk.specs.declared.error.Error.{Error}
use Rattle.writer_state.specs.WriterState.{WriterState}
use Rattle.writer_state.specs.declared.sync_state.SyncState.{SyncState}
use Rattle.writer_state.specs.declared.sync_state.SyncState.TheVariants.{Clean, Dirty, Pending}
use Rattle.crash.specs.Kept.{AllKeep}
use Rattle.crash.specs.Moments.{through_end}
use Rattle.writer_state.proofs.StartedLaws.{which, settled_already}
use Rattle.writer_state.specs.Sound.{IsConsistent, CanWrite, MayFlush, guard_slot, content}
use Rattle.crash.specs.Started.{CoversStay, CoversThrough, WouldKeep}
use Rattle.crash.proofs.BuiltLaws.{IsSmall}
use Rattle.writer_state.proofs.FlushLaws.{longer_content}
use Rattle.writer_state.proofs.Soundness.{carry_consistent}
use Rattle.writer_state.proofs.CoverLaws.{write_covers_through, sync_covers, covers_through_join, covers_shorter}
use Rattle.paged.specs.Flush.{full_in, carried, offset_of, flush_bytes}
use Rattle.paged.specs.Calls.{CarriesOn, Completed}
use Rattle.paged.proofs.Flushes.{begins}

-- a flush by a writer whose durable slot is up to date
pub flush_covers : (sum : List ℕ → ℕ) (w : WriterState) (rest sync : Bool) (old new : Life) (answer : Result (Unit {0}) Error) → IsSmall sum → IsConsistent sum w old.present → MayFlush w.sync w.flushed w.durable → CanWrite w.page_size w.tip (full_in w) rest
    → WriteGoes (offset_of w) (flush_bytes sum w rest) sync old new answer → CoversThrough sum w.page_size (content w old.present.readable) old new
unfolding IsConsistent
flush_covers sum w rest sync old new answer small sound ready can goes = write_covers_through sum w old new (full_in w) rest (flush_bytes sum w rest) small sound ready can refl sync answer goes

-- a flush by a writer whose durable slot was brought up to date
pub carried_covers : (sum : List ℕ → ℕ) (w v : WriterState) (rest sync : Bool) (old new : Life) (answer : Result (Unit {0}) Error) → IsSmall sum → IsConsistent sum w old.present → MayFlush w.sync w.flushed (guard_slot w.sync w.flushed w.durable) → v ≡ carried w
    → CanWrite v.page_size v.tip (full_in v) rest → WriteGoes (offset_of v) (flush_bytes sum v rest) sync old new answer → CoversThrough sum w.page_size (content w old.present.readable) old new
unfolding IsConsistent
carried_covers sum w v rest sync old new answer small sound ready is =
    subst (λ (v : WriterState). CanWrite v.page_size v.tip (full_in v) rest → WriteGoes (offset_of v) (flush_bytes sum v rest) sync old new answer → CoversThrough sum w.page_size (content w old.present.readable) old new) (sym is)
    (λ can goes. flush_covers sum (carried w) rest sync old new answer small (carry_consistent sum w old.present sound) ready can goes)

-- a sync after it
pub second_covers : (sum : List ℕ → ℕ) (w now : WriterState) (old mid new : Life) (answer : Result (Unit {0}) Error) → CoversThrough sum w.page_size (content w old.present.readable) old mid → CarriesOn sum w old [] now mid → SyncGoes mid new answer
    → CoversThrough sum w.page_size (content w old.present.readable) old new
unfolding IsConsistent
second_covers sum w now old mid new answer first goes synced =
    let later : CoversThrough sum now.page_size (content now mid.present.readable) mid new = sync_covers sum now mid new goes.holds answer synced in
    covers_through_join sum w.page_size (content w old.present.readable) old mid new first
    (subst (λ (c : List ℕ). CoversThrough sum w.page_size c mid new) (goes.content ∙ append-nil (content w old.present.readable))
    (subst (λ (P : ℕ). CoversThrough sum P (content now mid.present.readable) mid new) goes.same.page_size later))

-- a writer with a longer tip
pub longer_covers : (sum : List ℕ → ℕ) (w v : WriterState) (bytes : List ℕ) (old new : Life) → IsConsistent sum w old.present → v ≡ record w { tip = w.tip ++ bytes } → CoversThrough sum v.page_size (content v old.present.readable) old new
    → CoversThrough sum w.page_size (content w old.present.readable) old new
unfolding IsConsistent
longer_covers sum w v bytes old new sound is covers =
    let h : CoversThrough sum w.page_size (content (record w { tip = w.tip ++ bytes }) old.present.readable) old new = subst (λ (u : WriterState). CoversThrough sum u.page_size (content u old.present.readable) old new) is covers in
    covers_shorter sum w.page_size (content w old.present.readable) (content w old.present.readable ++ bytes) old new (begins (content w old.present.readable) bytes)
    (subst (λ (c : List ℕ). CoversThrough sum w.page_size c old new) (longer_content sum w old.present sound.stands bytes) h)

-- where a writer no longer waits for the sync that it waited for, that sync has completed
pub completed : (sum : List ℕ → ℕ) (w now : WriterState) (old new : Life) → IsConsistent sum now new.present → CoversThrough sum w.page_size (content w old.present.readable) old new
    → Completed sum w.page_size (content w old.present.readable) w.sync now.sync old new
unfolding IsConsistent
completed sum w now old new sound covers = by_state w.sync
  where
    held : List ℕ
    held = content w old.present.readable

    by_state : (s : SyncState) → Completed sum w.page_size held s now.sync old new
    by_state Clean = tt
    by_state Dirty = tt
    by_state (Pending name) = λ other cover enough would.
        let later : WouldKeep sum w.page_size held name cover new.present = through_end (CoversStay sum w.page_size held old.present) old new covers name cover enough would in
        elim (which new.present now.sync name later.covers sound.stands.starts later.named) [
          | inl done ↦ subst (λ (d : Disk). AllKeep sum w.page_size held cover d) (settled_already later.covers new.present done) later.keeps
          | inr (pending, state, same) ↦ absurd (other state)
        ]
