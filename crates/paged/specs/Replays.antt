-- What the call of a writer that begins a replay of its blob does.
use Rattle.std.specs.Prelude.{◌≡◌, ◌+◌, ℕ, List, [], if◌then◌else◌, true, Result, Ok, Err}
use Rattle.disk.specs.Disk.{Life}
use Rattle.disk.specs.declared.error.Error.{Error}
use Rattle.disk.specs.declared.error.Error.TheVariants.{OutOfMemory}
use Rattle.writer_state.specs.WriterState.{WriterState}
use Rattle.writer_state.specs.Sound.{content}
use Rattle.paged_read.specs.Replay.{new_replay, ReplayState}
use Rattle.paged.specs.Caches.{tail_of}
use Rattle.paged.specs.Calls.{CarriesOn, Fails, IsWritten, Succeeds, wait_calls}
use Rattle.paged.specs.Flush.{has_work}

-- a replay begins once all that was appended is written: the writer goes on, and the replay, with a
-- buffer of this size, is of the writer's content
abbrev pub BeginsReplay : (List ℕ → ℕ) → WriterState → (buffer_size : ℕ) → Life → Life
    → Result (WriterState × ReplayState) Error → Type 0
BeginsReplay sum w buffer_size old new (Ok r) =
    Succeeds sum w old [] r.0 new × IsWritten r.0 × (r.1 ≡ new_replay (tail_of r.0) buffer_size)
BeginsReplay sum w buffer_size old new (Err e) =
    Fails sum w (content w old.present.readable) old new e

-- `BeginsReplay` over a blob that may be damaged
abbrev pub ReplaysOver : (List ℕ → ℕ) → WriterState → (buffer_size : ℕ) → Life → Life
    → Result (WriterState × ReplayState) Error → Type 0
ReplaysOver sum w buffer_size old new (Ok r) =
    CarriesOn sum w old [] r.0 new × IsWritten r.0 × (r.1 ≡ new_replay (tail_of r.0) buffer_size)
ReplaysOver sum w buffer_size old new (Err e) =
    Fails sum w (content w old.present.readable) old new e

-- the device calls that the beginning of a replay takes: if something isn't written, a wait and a
-- write
abbrev pub replay_calls : WriterState → ℕ
replay_calls w = if has_work w true then wait_calls w.sync + 1 else 0

-- a replay of a writer that stays as it is; only memory may be refused
abbrev pub BeginsAtOnce : WriterState → (buffer_size : ℕ)
    → Result (WriterState × ReplayState) Error → Type 0
BeginsAtOnce w buffer_size (Ok r) = (r.0 ≡ w) × (r.1 ≡ new_replay (tail_of w) buffer_size)
BeginsAtOnce w buffer_size (Err OutOfMemory) = Unit {0}
BeginsAtOnce w buffer_size (Err _) = ⊥
