-- Calls that change nothing but the log.
use Rattle.std.proofs.Common.{◌≡◌, ℕ, List, [], ◌∷◌, take, drop, refl, sym, ap, ◌∙◌, subst, Bool, true, false, Ok, Err, Result}
use Rattle.disk.specs.Disk.{Disk, Life, Request, ReadAt, next, logged, AskedOnce, DeviceReadGoes}
use Rattle.disk.specs.declared.error.Error.{Error}
use Rattle.disk.specs.declared.error.Error.TheVariants.{ReadFailed, WriteFailed, ResizeFailed, SyncFailed, InvalidChecksum, BlobInsufficientLength, OffsetOverflow, OutOfMemory, IdsExhausted}
use Rattle.disk.proofs.Logs.{grows_once}
use Rattle.crash.specs.Kept.{Through}
use Rattle.crash.specs.Looks.{Looked, looked_start}

-- one call in the log, and nothing else changed
looked_once : (life : Life) (request : Request) (failed : Bool) → Looked life (next life (logged request failed life.present))
unfolding Through
looked_once life request failed = record {
  same = refl;
  log = grows_once request failed life.present (logged request failed life.present) refl;
  through = record { moments = logged request failed life.present ∷ []; goes = refl; start = refl; each = (refl, tt) };
}

pub looked_asked : (request : Request) (failed : Bool) (old new : Life) → AskedOnce request failed old new → Looked old new
looked_asked request failed old new is = subst (λ l. Looked old l) (sym is) (looked_once old request failed)

pub looked_none : (old new : Life) → new ≡ old → Looked old new
looked_none old new is = subst (λ l. Looked old l) (sym is) (looked_start old)

-- a read of the device, whatever it answers
pub looked_read : (offset len : ℕ) (old new : Life) (result : Result (List ℕ) Error) → DeviceReadGoes offset len old new result → Looked old new
looked_read offset len old new (Ok bytes) goes = looked_asked (ReadAt offset len) false old new goes.2
looked_read offset len old new (Err ReadFailed) goes = looked_asked (ReadAt offset len) true old new goes
looked_read offset len old new (Err WriteFailed) goes = absurd goes
looked_read offset len old new (Err ResizeFailed) goes = absurd goes
looked_read offset len old new (Err SyncFailed) goes = absurd goes
looked_read offset len old new (Err InvalidChecksum) goes = absurd goes
looked_read offset len old new (Err BlobInsufficientLength) goes = looked_none old new goes.0
looked_read offset len old new (Err OffsetOverflow) goes = absurd goes
looked_read offset len old new (Err OutOfMemory) goes = looked_none old new goes.0
looked_read offset len old new (Err IdsExhausted) goes = absurd goes

-- what a look leaves readable
pub looked_readable : (old new : Life) → Looked old new → new.present.readable ≡ old.present.readable
looked_readable old new looked = ap (λ (d : Disk). d.readable) looked.same

-- the bytes that a read gives after calls that only read are those that were readable before them
pub read_gives : (offset len : ℕ) (start old new : Life) (bytes : List ℕ) → Looked start old → DeviceReadGoes offset len old new (Ok bytes)
    → bytes ≡ take len (drop offset start.present.readable)
read_gives offset len start old new bytes so_far goes =
    goes.1 ∙ ap (λ (l : List ℕ). take len (drop offset l)) (looked_readable start old so_far)
