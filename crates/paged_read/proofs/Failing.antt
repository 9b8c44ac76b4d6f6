-- Calls in which no device call failed.
use Rattle.std.proofs.Common.{◌≡◌, ◌≢◌, ℕ, List, [], ◌∷◌, ◌++◌, refl, sym, ap, subst, false, Ok, Err, Result}
use Rattle.std.specs.Prelude.{IfErr}
use Rattle.disk.specs.Disk.{Disk, Life, Request, ReadAt, AskedOnce, DeviceReadGoes}
use Rattle.disk.specs.declared.error.Error.{Error}
use Rattle.disk.specs.declared.error.Error.TheVariants.{ReadFailed}
use Rattle.paged_read.specs.Failures.{NoneFailed, none_failed_start}

-- one device call, which was answered
pub none_failed_once : (request : Request) (a b : Disk) → b.log ≡ a.log ++ record { request = request; failed = false } ∷ [] → NoneFailed a b
none_failed_once request a b is = (record { request = request; failed = false } ∷ [], is, (refl, tt))

pub none_failed_asked : (request : Request) (old new : Life) → AskedOnce request false old new → NoneFailed old.present new.present
none_failed_asked request old new is = none_failed_once request old.present new.present (ap (λ (l : Life). l.present.log) is)

-- where no device call was made, none failed
pub none_failed_same : (old new : Life) → new ≡ old → NoneFailed old.present new.present
none_failed_same old new is = subst (λ (l : Life). NoneFailed old.present l.present) (sym is) (none_failed_start old.present)

-- a read that was answered
pub none_failed_read : (offset len : ℕ) (old new : Life) (bytes : List ℕ) → DeviceReadGoes offset len old new (Ok bytes) → NoneFailed old.present new.present
none_failed_read offset len old new bytes goes = none_failed_asked (ReadAt offset len) old new goes.2

-- no device was asked
pub none_failed_kept : {A : Type 0} (result : Result A Error) (d : Disk) → IfErr result (λ e. e ≢ ReadFailed → NoneFailed d d)
none_failed_kept (Ok a) d = tt
none_failed_kept (Err e) d = λ other. none_failed_start d
