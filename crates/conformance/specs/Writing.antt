-- What a case of a writer runs over, between two of its lines.
use Rattle.std.specs.Prelude.{ℕ, List, Option, IfSome}
use Rattle.disk.specs.Disk.{Life}
use Rattle.cache.specs.CacheState.{CacheState}
use Rattle.cache.specs.Pages.{IsFresh}
use Rattle.writer_state.specs.WriterState.{WriterState}
use Rattle.paged_read.specs.Replay.{CanReplay, ReplayState}
use Rattle.paged_read.specs.Tail.{CanRead, Tail}
use Rattle.paged.specs.Ready.{IsUsable}

-- the writer is usable, and the snapshot and the replay can be read, where they are there
pub record AreReadable (sum : List ℕ → ℕ) (writer : Option WriterState) (snapshot : Option Tail)
    (replay : Option ReplayState) (cache : CacheState) (life : Life) : Type 0 where
  pub fresh : IsFresh cache
  pub usable : IfSome writer (λ w. IsUsable sum w cache life)
  pub reads : IfSome snapshot (λ t. CanRead t cache life.present)
  pub replays : IfSome replay (λ r. CanReplay r life.present)
