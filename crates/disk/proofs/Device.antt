-- What a device call does to the life of a blob in memory.
use Rattle.std.proofs.Common.{◌≡◌, ℕ, ◌==◌, List, length, Bool, true, false, Ok, Err, refl}
use Rattle.disk.specs.Disk.{Operation, Write, Resize, Request, WriteAt, ResizeTo, Disk, Life, HasOperated, WriteGoes, ResizeGoes}
use Rattle.disk.specs.Images.{done_is_partial, same_is_partial}
use Rattle.disk.specs.declared.error.Error.TheVariants.{WriteFailed, ResizeFailed}
use Rattle.disk.specs.declared.action.Action.{Action}
use Rattle.disk.specs.declared.action.Action.TheVariants as actions
use Rattle.disk.specs.History.{History, life_of, life_after_action, with_action, operated}
use Rattle.disk.proofs.Histories.{life_told}

-- the life after an action that is done or fails, whichever is set
pub life_after : (a : Action) (failed : Bool) (old new : History) → failed ≡ (old.failing == 1) → new ≡ with_action a old → life_of new ≡ life_after_action a failed (life_of old)
life_after a failed old new e same = rw (same, e) (life_told a old)

-- an operation that was done, or that failed and left all as it was, went as a device's may
operated_is : (o : Operation) (request : Request) (failed : Bool) (d : Disk) → HasOperated o request failed d (operated o request failed d)
operated_is o request true d = record { readable = same_is_partial o d.readable; done = λ h. cc; rest = refl }
operated_is o request false d = record { readable = done_is_partial o d.readable; done = λ h. refl; rest = refl }

pub write_fails : (offset : ℕ) (bytes : List ℕ) (sync : Bool) (old new : Life) → new ≡ life_after_action (actions.Write offset bytes sync) true old → WriteGoes offset bytes sync old new (Err WriteFailed)
write_fails offset bytes true old new e =
    let o : Operation = Write offset bytes in
    let request = WriteAt offset (length bytes) true in
    (operated o request true old.present, e, operated_is o request true old.present)
write_fails offset bytes false old new e =
    let o : Operation = Write offset bytes in
    let request = WriteAt offset (length bytes) false in
    (refl, (operated o request true old.present, e, operated_is o request true old.present))

pub write_goes : (offset : ℕ) (bytes : List ℕ) (sync : Bool) (old new : Life) → new ≡ life_after_action (actions.Write offset bytes sync) false old → WriteGoes offset bytes sync old new (Ok tt)
write_goes offset bytes true old new e =
    let o : Operation = Write offset bytes in
    let request = WriteAt offset (length bytes) true in
    (operated o request false old.present, e, operated_is o request false old.present)
write_goes offset bytes false old new e =
    let o : Operation = Write offset bytes in
    let request = WriteAt offset (length bytes) false in
    (operated o request false old.present, e, operated_is o request false old.present)

pub resize_fails : (len : ℕ) (old new : Life) → new ≡ life_after_action (actions.Resize len) true old → ResizeGoes len old new (Err ResizeFailed)
resize_fails len old new e = (refl, (operated (Resize len) (ResizeTo len) true old.present, e, operated_is (Resize len) (ResizeTo len) true old.present))

pub resize_goes : (len : ℕ) (old new : Life) → new ≡ life_after_action (actions.Resize len) false old → ResizeGoes len old new (Ok tt)
resize_goes len old new e = (operated (Resize len) (ResizeTo len) false old.present, e, operated_is (Resize len) (ResizeTo len) false old.present)
