-- What a value of items stands for, and a snapshot and a replay of items.
use Rattle.std.specs.Prelude.{ℕ}
use Rattle.writer_state.specs.WriterState.{WriterState}
use Rattle.paged_read.specs.Replay.{ReplayState}
use Rattle.paged_read.specs.Tail.{Tail}

-- items: the writer of their bytes, and how many bytes each item has
pub record ItemsState : Type 0 where
  pub writer : WriterState
  pub size : ℕ

-- a snapshot of items: one of their bytes, and how many bytes each item has
pub record ItemsSnapshotState : Type 0 where
  pub tail : Tail
  pub size : ℕ

-- a replay of items: one of their bytes, and how many bytes each item has
pub record ItemsReplayState : Type 0 where
  pub replay : ReplayState
  pub size : ℕ
