-- An append that is too big for the buffer.
use Rattle.std.specs.Prelude.{◌≡◌, ◌<◌, ◌≤◌, ◌+◌, ◌-◌, ◌%◌, ◌&&◌, ◌++◌, ℕ, Bool, List, []}
use Rattle.std.specs.Prelude.{length, nat_lt, nat_le}
use Rattle.disk.specs.Disk.{Life}
use Rattle.writer_state.specs.WriterState.{WriterState}
use Rattle.writer_state.specs.declared.sync_state.SyncState.{SyncState}
use Rattle.paged.specs.Writer.{FitsBlob}
use Rattle.paged.specs.Calls.{wait_calls}

-- how many bytes fill the tip to a page boundary
abbrev pub fill_of : WriterState → ℕ
fill_of w = (w.page_size - length w.tip % w.page_size) % w.page_size

-- whether so many bytes more pass the capacity, and have a whole page after the boundary
abbrev pub goes_direct : WriterState → ℕ → Bool
goes_direct w more =
    nat_lt w.capacity (length w.tip + more) && nat_le (fill_of w + w.page_size) more

-- the writer with these bytes more in its tip
abbrev pub buffering : WriterState → List ℕ → WriterState
buffering w more = record w { tip = w.tip ++ more }

-- whole pages and less than a page after them, which a writer with an empty tip is to append
pub record IsDirect (w : WriterState) (whole rest : List ℕ) : Type 0 where
  pub empty : w.tip ≡ []
  pub some : 0 < length whole
  pub pages : length whole % w.page_size ≡ 0
  pub short : length rest < w.page_size
  pub fits : FitsBlob w.page_size w.full_pages (length whole + length rest)

-- at most one device call was made, and a second if a sync was pending before and none is after
abbrev pub AsksWithWait : SyncState → SyncState → Life → Life → Type 0
AsksWithWait before after old new =
    length new.present.log + wait_calls after ≤ length old.present.log + (wait_calls before + 1)
