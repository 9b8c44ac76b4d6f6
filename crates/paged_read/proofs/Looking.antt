-- Searches that only read a blob.
use Rattle.std.proofs.Common.{◌≡◌, ℕ, ◌+◌, ◌≤◌, List, length, sym, ap, ◌∙◌, subst, arith, true, false}
use Rattle.std.specs.Prelude.{Result, Ok, Err}
use Rattle.disk.specs.Disk.{DeviceReadGoes, Life, ReadAt}
use Rattle.disk.specs.declared.error.Error.{Error}
use Rattle.disk.specs.declared.error.Error.TheVariants.{ReadFailed, WriteFailed, ResizeFailed, SyncFailed, InvalidChecksum, BlobInsufficientLength, OffsetOverflow, OutOfMemory, IdsExhausted}
use Rattle.disk.proofs.Logs.{failed_once, failed_later}
use Rattle.crash.specs.Looks.{Looked, looked_joins}
use Rattle.crash.proofs.LookLaws.{looked_asked, looked_readable}
use Rattle.paged_read.specs.Failures.{NoneFailed, none_failed_joins}
use Rattle.paged_read.specs.declared.prefix.Prefix.{Prefix}
use Rattle.paged_read.specs.Scans.{LooksThrough}
use Rattle.paged_read.specs.Searches.{Finds}
use Rattle.paged_read.proofs.Failing.{none_failed_read}

-- a look that goes on with a read
pub looked_on : (offset len : ℕ) (start old new : Life) (bytes : List ℕ) → Looked start old → DeviceReadGoes offset len old new (Ok bytes) → Looked start new
looked_on offset len start old new bytes so_far goes = looked_joins start old new so_far (looked_asked (ReadAt offset len) false old new goes.2)

-- no device call failed in a look that goes on with a read
pub none_failed_on : (offset len : ℕ) (start old new : Life) (bytes : List ℕ) → NoneFailed start.present old.present → DeviceReadGoes offset len old new (Ok bytes) → NoneFailed start.present new.present
none_failed_on offset len start old new bytes so_far goes = none_failed_joins start.present old.present new.present so_far (none_failed_read offset len old new bytes goes)

-- what was read was there
pub read_there : (offset len : ℕ) (start old new : Life) (bytes : List ℕ) → Looked start old → DeviceReadGoes offset len old new (Ok bytes) → offset + len ≤ length start.present.readable
read_there offset len start old new bytes so_far goes = omega (arith, goes.0, ap (λ (l : List ℕ). length l) (looked_readable start old so_far))

-- a look that goes on with a read that isn't answered
pub look_fault : {A : Type 0} (offset len reach : ℕ) (a : A) (start old new : Life) (e : Error) → Looked start old → NoneFailed start.present old.present → offset + len ≤ reach → DeviceReadGoes offset len old new (Err e) → LooksThrough reach a start new (Err e)
look_fault offset len reach a start old new ReadFailed so_far none le goes = (
  failed_later ReadFailed start.present old.present new.present so_far.log (failed_once (ReadAt offset len) old.present new.present (ap (λ (l : Life). l.present.log) goes)),
  looked_joins start old new so_far (looked_asked (ReadAt offset len) true old new goes),
)
look_fault offset len reach a start old new WriteFailed so_far none le goes = goes
look_fault offset len reach a start old new ResizeFailed so_far none le goes = goes
look_fault offset len reach a start old new SyncFailed so_far none le goes = goes
look_fault offset len reach a start old new InvalidChecksum so_far none le goes = goes
look_fault offset len reach a start old new BlobInsufficientLength so_far none le goes = (
  omega (arith, le, goes.1, ap (λ (l : List ℕ). length l) (looked_readable start old so_far)),
  subst (λ (l : Life). Looked start l) (sym goes.0) so_far,
  subst (λ (l : Life). NoneFailed start.present l.present) (sym goes.0) none,
)
look_fault offset len reach a start old new OffsetOverflow so_far none le goes = goes
look_fault offset len reach a start old new OutOfMemory so_far none le goes = (subst (λ (l : Life). Looked start l) (sym goes.0) so_far, subst (λ (l : Life). NoneFailed start.present l.present) (sym goes.0) none)
look_fault offset len reach a start old new IdsExhausted so_far none le goes = goes

-- a look that ends since memory is refused
pub look_memory : {A : Type 0} (reach : ℕ) (a : A) (start new : Life) (e : Error) → Looked start new → NoneFailed start.present new.present → e ≡ OutOfMemory → LooksThrough reach a start new (Err e)
look_memory reach a start new e so_far none is = subst (λ (x : Error). LooksThrough reach a start new (Err x)) (sym is) (so_far, none)

-- where the pages are there, it is a search that finds them
pub look_finds : (reach : ℕ) (p q : Prefix) (old new : Life) (result : Result Prefix Error) → reach ≤ length old.present.readable → p ≡ q → LooksThrough reach p old new result → Finds q old new result
look_finds reach p q old new (Ok found) there is looks = (looks.0 ∙ is, looks.1, looks.2)
look_finds reach p q old new (Err ReadFailed) there is looks = looks
look_finds reach p q old new (Err WriteFailed) there is looks = looks
look_finds reach p q old new (Err ResizeFailed) there is looks = looks
look_finds reach p q old new (Err SyncFailed) there is looks = looks
look_finds reach p q old new (Err InvalidChecksum) there is looks = looks
look_finds reach p q old new (Err BlobInsufficientLength) there is looks = absurd (omega (arith, there, looks.0))
look_finds reach p q old new (Err OffsetOverflow) there is looks = looks
look_finds reach p q old new (Err OutOfMemory) there is looks = looks
look_finds reach p q old new (Err IdsExhausted) there is looks = looks

-- a search that goes on with a read that isn't answered
pub finds_fault : (offset len : ℕ) (p : Prefix) (start old new : Life) (e : Error) → Looked start old → NoneFailed start.present old.present → offset + len ≤ length start.present.readable → DeviceReadGoes offset len old new (Err e) → Finds p start new (Err e)
finds_fault offset len p start old new ReadFailed so_far none there goes = (
  failed_later ReadFailed start.present old.present new.present so_far.log (failed_once (ReadAt offset len) old.present new.present (ap (λ (l : Life). l.present.log) goes)),
  looked_joins start old new so_far (looked_asked (ReadAt offset len) true old new goes),
)
finds_fault offset len p start old new WriteFailed so_far none there goes = goes
finds_fault offset len p start old new ResizeFailed so_far none there goes = goes
finds_fault offset len p start old new SyncFailed so_far none there goes = goes
finds_fault offset len p start old new InvalidChecksum so_far none there goes = goes
finds_fault offset len p start old new BlobInsufficientLength so_far none there goes = absurd (omega (arith, goes.1, ap (λ (l : List ℕ). length l) (looked_readable start old so_far)))
finds_fault offset len p start old new OffsetOverflow so_far none there goes = goes
finds_fault offset len p start old new OutOfMemory so_far none there goes = (subst (λ (l : Life). Looked start l) (sym goes.0) so_far, subst (λ (l : Life). NoneFailed start.present l.present) (sym goes.0) none)
finds_fault offset len p start old new IdsExhausted so_far none there goes = goes

-- a search that ends since memory is refused
pub finds_memory : (p : Prefix) (start new : Life) (e : Error) → Looked start new → NoneFailed start.present new.present → e ≡ OutOfMemory → Finds p start new (Err e)
finds_memory p start new e so_far none is = subst (λ (x : Error). Finds p start new (Err x)) (sym is) (so_far, none)
