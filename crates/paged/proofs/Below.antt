-- A flush leaves the pages below the tip.
use Rattle.std.proofs.Common.{◌≡◌, ℕ, List, arith, subst, Bool, Result}
use Rattle.disk.specs.Disk.{Life, WriteGoes}
use Rattle.disk.specs.declared.error.Error.{Error}
use Rattle.writer_state.specs.WriterState.{WriterState}
use Rattle.writer_state.specs.Sound.{IsConsistent}
use Rattle.crash.specs.Below.{PagesStay}
use Rattle.writer_state.proofs.FlushLaws.{tip_reach}
use Rattle.crash.proofs.BelowLaws.{write_pages_stay}
use Rattle.paged.specs.Flush.{offset_of}

-- a flush leaves them whatever the device answers
pub flush_pages : (sum : List ℕ → ℕ) (w : WriterState) (offset : ℕ) (bytes : List ℕ) (sync : Bool) (old new : Life) (answer : Result (Unit {0}) Error) → IsConsistent sum w old.present → offset ≡ offset_of w
    → WriteGoes offset bytes sync old new answer → PagesStay w.page_size w.full_pages old new
unfolding IsConsistent
flush_pages sum w offset bytes sync old new answer sound is goes =
    write_pages_stay w.page_size w.full_pages old offset bytes sync new answer (omega (arith, is))
    (omega (arith, is, (tip_reach sum w.page_size w.full_pages w.tip old.present.readable w.flushed sound.stands.tip_page).0)) goes

-- a flush by a writer with a longer tip leaves them
pub pages_longer : (w v : WriterState) (bytes : List ℕ) (old new : Life) → v ≡ record w { tip = bytes } → PagesStay v.page_size v.full_pages old new → PagesStay w.page_size w.full_pages old new
pages_longer w v bytes old new is pages = subst (λ (u : WriterState). PagesStay u.page_size u.full_pages old new) is pages
