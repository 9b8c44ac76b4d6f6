-- A journal's reader, if there is one.
use Rattle.std.proofs.Common.{ℕ, ◌≤◌, List}
use Rattle.std.specs.Prelude.{Option, Some, None, IfSome}
use Rattle.disk.specs.Disk.{Life}
use Rattle.cache.specs.CacheState.{CacheState}
use Rattle.writer_state.specs.WriterState.{WriterState}
use Rattle.journal.specs.Reader.{ReaderState, IsReader, ReadersStay}

-- a call of the journal leaves its reader as it is
pub reader_stays : (sum : List ℕ → ℕ) (reader : Option ReaderState) (w : WriterState)
    (cache after : CacheState) (old new : Life) → ReadersStay sum w cache after old new
    → IfSome reader (λ r. r.tail.full_pages ≤ w.full_pages)
    → IfSome reader (λ r. IsReader sum r cache old) → IfSome reader (λ r. IsReader sum r after new)
reader_stays sum None w cache after old new stays below is = tt
reader_stays sum (Some r) w cache after old new stays below is = (stays r below is).reader
