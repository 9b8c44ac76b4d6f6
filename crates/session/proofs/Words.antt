-- What the laws of a step know of a call of its writer.
use Rattle.std.specs.Prelude.{◌≡◌, ◌<◌, ◌≤◌, ◌+◌, ◌^◌, ℕ, List, length, true, false}
use Rattle.std.specs.Prelude.{Result, Ok, Err, IfOk}
use Rattle.disk.specs.Disk.{Life}
use Rattle.disk.specs.declared.started_sync.StartedSync.{StartedSync}
use Rattle.disk.specs.declared.started_sync.StartedSync.TheVariants.{Done as AllDone, Named}
use Rattle.disk.specs.declared.error.Error.{Error}
use Rattle.disk.specs.declared.error.Error.TheVariants.{OffsetOverflow}
use Rattle.writer_state.specs.WriterState.{WriterState}
use Rattle.writer_state.specs.declared.sync_state.SyncState.TheVariants.{Dirty}
use Rattle.writer_state.specs.Sound.{content as content_of}
use Rattle.crash.specs.Started.{CoversThrough, StartsCanBeAwaited}
use Rattle.paged.specs.Writer.{physical_blob_size}
use Rattle.paged.specs.Calls.{Appends, BuffersAll, Syncs, HoldsWithin}
use Rattle.paged.specs.Calls.{AsksAtMost, sync_calls, start_calls, wait_calls, StartsSync}
use Rattle.paged.specs.Calls.{started_already, WaitsForSync, SettlesBy}
use Rattle.paged.specs.Flush.{without_value, has_work}
use Rattle.paged.specs.Snapshots.{MakesSnapshot, CopiesTail, SealsWriter, snapshot_calls}
use Rattle.paged.specs.Snapshots.{answer_of_seal, seal_calls}
use Rattle.paged.specs.Replays.{BeginsReplay, BeginsAtOnce, replay_calls}
use Rattle.paged_read.specs.Tail.{Tail}
use Rattle.paged_read.specs.Replay.{ReplayState}
use Rattle.paged.specs.Caches.{tail_of}

-- what each call of a writer keeps of the started syncs, whatever it answers
pub record OwesStarts (sum : List ℕ → ℕ) (w : WriterState) (old new : Life) : Type 0 where
  pub covers : CoversThrough sum w.page_size (content_of w old.present.readable) old new
  pub starts : StartsCanBeAwaited new.present

-- the answer of an append
pub record AppendTold (sum : List ℕ → ℕ) (w : WriterState) (bytes : List ℕ) (old new : Life)
    (result : Result (WriterState × ℕ) Error) : Type 0 where
  pub appends : Appends sum w bytes old new result
  pub overflow : 2 ^ 64 ≤ physical_blob_size w.page_size w.full_pages (length w.tip + length bytes)
      → result ≡ Err OffsetOverflow
  pub within : IfOk result (λ r. HoldsWithin r.0)
  pub buffered : length w.tip + length bytes ≤ w.capacity → BuffersAll w bytes old new result
  pub flushed : w.capacity < length w.tip + length bytes
      → IfOk result (λ r. length r.0.tip < w.page_size)
  pub dirty : w.capacity < length w.tip + length bytes → IfOk result (λ r. r.0.sync ≡ Dirty)
  pub calls : AsksAtMost 3 old new
  pub owes : OwesStarts sum w old new

-- the answer of a sync
pub record SyncTold (sum : List ℕ → ℕ) (w : WriterState) (old new : Life)
    (result : Result WriterState Error) : Type 0 where
  pub syncs : Syncs sum w old new result
  pub within : IfOk result (λ v. HoldsWithin v)
  pub calls : AsksAtMost (sync_calls w) old new
  pub idle : sync_calls w ≡ 0 → (result ≡ Ok w) × (new ≡ old)
  pub owes : OwesStarts sum w old new

-- the answer of starting a sync
pub record StartTold (sum : List ℕ → ℕ) (w : WriterState) (old new : Life)
    (result : Result (WriterState × StartedSync) Error) : Type 0 where
  pub starts_sync : StartsSync sum w old new result
  pub within : IfOk result (λ r. HoldsWithin r.0)
  pub calls : AsksAtMost (start_calls w) old new
  pub idle : start_calls w ≡ 0 → (result ≡ Ok (w, started_already w.sync)) × (new ≡ old)
  pub fresh : 0 < start_calls w → IfOk result (λ r. r.1 ≡ Named (length old.present.started))
  pub owes : OwesStarts sum w old new

-- the answer of a wait
pub record WaitTold (sum : List ℕ → ℕ) (w : WriterState) (old new : Life)
    (result : Result WriterState Error) : Type 0 where
  pub waits : WaitsForSync sum w old new result
  pub calls : AsksAtMost (wait_calls w.sync) old new
  pub settles : wait_calls w.sync ≡ 1 → SettlesBy w.sync old new (without_value result)
  pub idle : wait_calls w.sync ≡ 0 → (result ≡ Ok w) × (new ≡ old)
  pub owes : OwesStarts sum w old new

-- the answer of a snapshot
pub record SnapshotTold (sum : List ℕ → ℕ) (w : WriterState) (old new : Life)
    (result : Result (WriterState × Tail) Error) : Type 0 where
  pub makes : MakesSnapshot sum w old new result
  pub within : IfOk result (λ r. HoldsWithin r.0)
  pub calls : AsksAtMost (snapshot_calls w) old new
  pub idle : has_work w false ≡ false → CopiesTail w result × (new ≡ old)
  pub dirty : has_work w false ≡ true → IfOk result (λ r. r.0.sync ≡ Dirty)
  pub owes : OwesStarts sum w old new

-- the answer of sealing a writer
pub record SealTold (sum : List ℕ → ℕ) (w : WriterState) (old new : Life)
    (result : Result (Tail × StartedSync) Error) : Type 0 where
  pub seals : SealsWriter sum w old new result
  pub calls : AsksAtMost (seal_calls w) old new
  pub answers : IfOk result (λ r. r.1 ≡ answer_of_seal w old)
  pub idle : seal_calls w ≡ 0 → (result ≡ Ok (tail_of w, AllDone)) × (new ≡ old)
  pub owes : OwesStarts sum w old new

-- the answer of the beginning of a replay, with a buffer of this size
pub record ReplayTold (sum : List ℕ → ℕ) (w : WriterState) (buffer_size : ℕ) (old new : Life)
    (result : Result (WriterState × ReplayState) Error) : Type 0 where
  pub begins : BeginsReplay sum w buffer_size old new result
  pub within : IfOk result (λ r. HoldsWithin r.0)
  pub calls : AsksAtMost (replay_calls w) old new
  pub idle : has_work w true ≡ false → BeginsAtOnce w buffer_size result × (new ≡ old)
  pub dirty : has_work w true ≡ true → IfOk result (λ r. r.0.sync ≡ Dirty)
  pub owes : OwesStarts sum w old new
