-- What a journal keeps between two calls.
use Rattle.std.specs.Prelude.{ℕ, List, Option, Some, None}
use Rattle.disk.specs.Disk.{Life}
use Rattle.cache.specs.CacheState.{CacheState}
use Rattle.cache.specs.Pages.{IsFresh}
use Rattle.writer_state.specs.WriterState.{WriterState}
use Rattle.paged.specs.Ready.{IsReady}

-- the writer, if there is one, is ready; without one a recovery may begin
abbrev pub IsReadyOrNone : (List ℕ → ℕ) → Option WriterState → CacheState → Life → Type 0
IsReadyOrNone sum None cache life = IsFresh cache
IsReadyOrNone sum (Some w) cache life = IsReady sum w cache life
