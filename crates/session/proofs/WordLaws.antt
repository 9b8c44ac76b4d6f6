-- What the laws of a step take from what the call of its writer says.
use Rattle.std.proofs.Common.{◌≡◌, ◌<◌, ℕ, List, [], ◌++◌, ◌∙◌, append-nil, arith, subst, sym, Ok, Err, Result}
use Rattle.std.specs.Prelude.{IfOk}
use Rattle.disk.specs.Disk.{Life}
use Rattle.disk.specs.declared.error.Error.{Error}
use Rattle.disk.specs.declared.error.Error.TheVariants.{ReadFailed, WriteFailed, ResizeFailed, SyncFailed, InvalidChecksum, BlobInsufficientLength, OffsetOverflow, OutOfMemory, IdsExhausted}
use Rattle.disk.specs.declared.started_sync.StartedSync.{StartedSync}
use Rattle.cache.specs.CacheState.{CacheState}
use Rattle.crash.specs.Stays.{StaysThrough}
use Rattle.writer_state.specs.WriterState.{WriterState}
use Rattle.writer_state.specs.Sound.{IsSound, content}
use Rattle.paged_read.specs.Replay.{ReplayState}
use Rattle.paged_read.specs.Tail.{CanRead, Tail}
use Rattle.cache.specs.Pages.{IsTrueFor}
use Rattle.paged.specs.Caches.{tail_of}
use Rattle.paged.proofs.There.{consistent_has_pages}
use Rattle.paged.specs.Calls.{Appends, Fails, HoldsWithin, Succeeds, Syncs, WaitsForSync}
use Rattle.paged.specs.Owes.{Owes, owed_covers}
use Rattle.session.specs.Calls.{AppendSays, ReplaySays, SealSays, SnapshotSays, StartSays, SyncSays, WaitSays}
use Rattle.paged.specs.Ready.{IsReady as IsWriterReady}
use Rattle.paged.specs.Goes.{AppendAnswers, HasWaited, Holds, IsRefused, SyncAllGoes, WaitForSyncGoes}
use Rattle.paged.proofs.Answering.{whole}
use Rattle.paged.proofs.Flushes.{begins, stays_nil}
use Rattle.paged.proofs.Owing.{owed_stays}
use Rattle.session.proofs.Words.{AppendTold, OwesStarts, ReplayTold, SealTold, SnapshotTold, StartTold, SyncTold, WaitTold}
use Rattle.session.proofs.AppendLaws.{wait_one}

-- ---- whatever the call

-- a writer that goes on, whatever the call
goes_on : (sum : List ℕ → ℕ) (w now : WriterState) (more : List ℕ) (old new : Life) → Holds sum w old more now new → IsSound sum now new.present → StaysThrough sum w.page_size (content w old.present.readable ++ more) old new
    → Succeeds sum w old more now new
goes_on sum w now more old new holds sound stays = record {
  sound = sound;
  stays = stays;
  size = holds.size;
  only = holds.only;
  content = holds.content;
  same = holds.same;
  log = holds.log;
  waits = holds.waits;
  served = holds.served;
}

-- a writer whose call was refused, whatever the call
refuses : (sum : List ℕ → ℕ) (w : WriterState) (content : List ℕ) (old new : Life) (e : Error) → IsRefused w old new e → StaysThrough sum w.page_size content old new → Fails sum w content old new e
refuses sum w content old new e refused stays = record { cause = refused.cause; stays = stays; log = refused.log }

module _ (sum : List ℕ → ℕ) (w : WriterState) (old new : Life) where
  abbrev pub held : List ℕ
  held = content w old.present.readable

  -- a writer that goes on, of a call that appended nothing
  goes_same : (now : WriterState) → Holds sum w old [] now new → IsSound sum now new.present → StaysThrough sum w.page_size held old new → Succeeds sum w old [] now new
  goes_same now holds sound stays = goes_on sum w now [] old new holds sound (stays_nil sum w.page_size held old new stays)

  -- a wait, which uses no cache
  pub wait_told : IsSound sum w old.present → (result : Result WriterState Error) → WaitSays sum w old new result → WaitTold sum w old new result
  wait_told sound result says = record {
    waits = by_answer result says.goes;
    calls = says.costs.calls;
    settles = says.costs.settles;
    idle = says.costs.idle;
    owes = record { covers = owed_covers sum w.page_size w.full_pages held held old new says.owes.through; starts = says.owes.starts };
  }
    where
      stays : StaysThrough sum w.page_size held old new
      stays = owed_stays sum w held old new says.owes.through (whole held)

      by_answer : (r : Result WriterState Error) → WaitForSyncGoes sum w old new r → WaitsForSync sum w old new r
      by_answer (Ok now) is = (goes_same now is.holds (is.sound sound) stays, is.state)
      by_answer (Err e) refused = refuses sum w held old new e refused stays

  -- after a wait, reads go on, with whichever cache
  pub wait_reads : (now : WriterState) → HasWaited sum w old new now → (cache : CacheState) → CanRead (tail_of w) cache old.present → CanRead (tail_of now) cache new.present
  wait_reads now is cache can =
      let same : content now new.present.readable ≡ held = is.holds.content ∙ append-nil held in
      record {
        there = consistent_has_pages sum now new is.consistent;
        page_size = can.page_size ∙ sym is.holds.same.page_size;
        given = subst (λ (id : ℕ). id < cache.ids_given) (sym is.holds.same.id) can.given;
        cached = subst (λ (l : List ℕ). IsTrueFor now.id l now.full_pages cache) (sym same) (subst (λ (v : WriterState). IsTrueFor v.id held v.full_pages cache) (sym is.state) can.cached);
      }

module _ (sum : List ℕ → ℕ) (w : WriterState) (cache after : CacheState) (old new : Life) where
  abbrev was : List ℕ
  was = content w old.present.readable

  owes_starts : (all : List ℕ) → Owes sum w all cache after old new → OwesStarts sum w old new
  owes_starts all owes = record { covers = owed_covers sum w.page_size w.full_pages was all old new owes.through; starts = owes.starts }

  same_stays : Owes sum w was cache after old new → StaysThrough sum w.page_size was old new
  same_stays owes = owed_stays sum w was old new owes.through (whole was)

  pub append_told : (bytes : List ℕ) (result : Result (WriterState × ℕ) Error) → IfOk result (λ r. IsWriterReady sum r.0 after new) → AppendSays sum w bytes cache after old new result → AppendTold sum w bytes old new result
  append_told bytes result ready says = record {
    appends = by_answer result says.goes.answers ready;
    overflow = says.goes.overflow;
    within = within result says.goes.answers;
    buffered = says.costs.buffered;
    flushed = says.costs.flushed;
    dirty = says.costs.dirty;
    calls = omega (arith, says.costs.calls, wait_one w.sync);
    owes = owes_starts (was ++ bytes) says.owes;
  }
    where
      stays : StaysThrough sum w.page_size (was ++ bytes) old new
      stays = owed_stays sum w (was ++ bytes) old new says.owes.through (begins was bytes)

      by_answer : (r : Result (WriterState × ℕ) Error) → AppendAnswers sum w bytes old new r → IfOk r (λ a. IsWriterReady sum a.0 after new) → Appends sum w bytes old new r
      by_answer (Ok r) is ready = (is.at_end, goes_on sum w r.0 bytes old new is.holds ready.sound stays)
      by_answer (Err ReadFailed) refused ready = refuses sum w (was ++ bytes) old new ReadFailed refused stays
      by_answer (Err WriteFailed) refused ready = refuses sum w (was ++ bytes) old new WriteFailed refused stays
      by_answer (Err ResizeFailed) refused ready = refuses sum w (was ++ bytes) old new ResizeFailed refused stays
      by_answer (Err SyncFailed) refused ready = refuses sum w (was ++ bytes) old new SyncFailed refused stays
      by_answer (Err InvalidChecksum) refused ready = refuses sum w (was ++ bytes) old new InvalidChecksum refused stays
      by_answer (Err BlobInsufficientLength) refused ready = refuses sum w (was ++ bytes) old new BlobInsufficientLength refused stays
      by_answer (Err OffsetOverflow) refused ready = refused
      by_answer (Err OutOfMemory) refused ready = refuses sum w (was ++ bytes) old new OutOfMemory refused stays
      by_answer (Err IdsExhausted) refused ready = refuses sum w (was ++ bytes) old new IdsExhausted refused stays

      within : (r : Result (WriterState × ℕ) Error) → AppendAnswers sum w bytes old new r → IfOk r (λ a. HoldsWithin a.0)
      within (Ok r) is = is.within
      within (Err e) refused = tt

  pub sync_told : (result : Result WriterState Error) → IfOk result (λ v. IsWriterReady sum v after new) → SyncSays sum w cache after old new result → SyncTold sum w old new result
  sync_told result ready says = record {
    syncs = by_answer result says.goes ready;
    within = within result says.goes;
    calls = says.costs.calls;
    idle = says.costs.idle;
    owes = owes_starts was says.owes;
  }
    where
      by_answer : (r : Result WriterState Error) → SyncAllGoes sum w old new r → IfOk r (λ v. IsWriterReady sum v after new) → Syncs sum w old new r
      by_answer (Ok now) is ready = (goes_same sum w old new now is.holds ready.sound (same_stays says.owes), is.settled)
      by_answer (Err e) refused ready = refuses sum w was old new e refused (same_stays says.owes)

      within : (r : Result WriterState Error) → SyncAllGoes sum w old new r → IfOk r (λ v. HoldsWithin v)
      within (Ok now) is = is.within
      within (Err e) refused = tt

  pub start_told : IsSound sum w old.present → (result : Result (WriterState × StartedSync) Error) → IfOk result (λ r. IsWriterReady sum r.0 after new) → StartSays sum w cache after old new result → StartTold sum w old new result
  start_told sound (Ok r) ready says = record {
    starts_sync = (goes_same sum w old new r.0 says.goes.goes.holds ready.sound (same_stays says.owes), says.goes.goes.written, says.goes.goes.state, says.goes.goes.starts sound);
    within = says.goes.goes.within;
    calls = says.costs.calls;
    idle = says.costs.idle;
    fresh = says.goes.fresh;
    owes = owes_starts was says.owes;
  }
  start_told sound (Err e) ready says = record {
    starts_sync = refuses sum w was old new e says.goes (same_stays says.owes);
    within = tt;
    calls = says.costs.calls;
    idle = says.costs.idle;
    fresh = λ some. tt;
    owes = owes_starts was says.owes;
  }

  pub snapshot_told : (result : Result (WriterState × Tail) Error) → IfOk result (λ r. IsWriterReady sum r.0 after new) → SnapshotSays sum w cache after old new result → SnapshotTold sum w old new result
  snapshot_told (Ok r) ready says = record {
    makes = (goes_same sum w old new r.0 says.goes.holds ready.sound (same_stays says.owes), says.goes.short, says.goes.tail);
    within = says.goes.within;
    calls = says.costs.calls;
    idle = says.costs.idle;
    dirty = says.costs.dirty;
    owes = owes_starts was says.owes;
  }
  snapshot_told (Err e) ready says = record {
    makes = refuses sum w was old new e says.goes (same_stays says.owes);
    within = tt;
    calls = says.costs.calls;
    idle = says.costs.idle;
    dirty = says.costs.dirty;
    owes = owes_starts was says.owes;
  }

  pub replay_told : (size : ℕ) (result : Result (WriterState × ReplayState) Error) → IfOk result (λ r. IsWriterReady sum r.0 after new) → ReplaySays sum w size cache after old new result → ReplayTold sum w size old new result
  replay_told size (Ok r) ready says = record {
    begins = (goes_same sum w old new r.0 says.goes.holds ready.sound (same_stays says.owes), says.goes.written, says.goes.replay);
    within = says.goes.within;
    calls = says.costs.calls;
    idle = says.costs.idle;
    dirty = says.costs.dirty;
    owes = owes_starts was says.owes;
  }
  replay_told size (Err e) ready says = record {
    begins = refuses sum w was old new e says.goes (same_stays says.owes);
    within = tt;
    calls = says.costs.calls;
    idle = says.costs.idle;
    dirty = says.costs.dirty;
    owes = owes_starts was says.owes;
  }

  pub seal_told : IsSound sum w old.present → (result : Result (Tail × StartedSync) Error) → SealSays sum w cache after old new result → SealTold sum w old new result
  seal_told sound (Ok r) says = record {
    seals = (says.goes.now, says.goes.tail, (goes_same sum w old new says.goes.now says.goes.goes.holds (says.goes.sound sound) (same_stays says.owes), says.goes.goes.written, says.goes.goes.state, says.goes.goes.starts sound));
    calls = says.costs.calls;
    answers = says.goes.answer;
    idle = says.costs.idle;
    owes = owes_starts was says.owes;
  }
  seal_told sound (Err e) says = record {
    seals = refuses sum w was old new e says.goes (same_stays says.owes);
    calls = says.costs.calls;
    answers = tt;
    idle = says.costs.idle;
    owes = owes_starts was says.owes;
  }
