-- Whether device calls failed in a call, by the device's log.
use Rattle.std.specs.Prelude.{◌≡◌, ◌≢◌, List, ◌++◌, [], ◌∷◌, false, Result, Ok, Err}
use Rattle.std.proofs.Common.{sym, ap, ◌∙◌, append-nil, append_assoc}
use Rattle.disk.specs.Disk.{Disk, Entry, Life}
use Rattle.disk.specs.declared.error.Error.{Error}
use Rattle.disk.specs.declared.error.Error.TheVariants.{ReadFailed}

-- none of these device calls failed
abbrev pub AreAnswered : List Entry → Type 0
AreAnswered [] = Unit {0}
AreAnswered (e ∷ es) = (e.failed ≡ false) × AreAnswered es

-- between these moments no device call failed
abbrev pub NoneFailed : Disk → Disk → Type 0
NoneFailed from to = (more : List Entry) × (to.log ≡ from.log ++ more) × AreAnswered more

-- in a call that doesn't answer `ReadFailed` no device call failed
abbrev pub TellsFailure : {A : Type 0} → Life → Life → Result A Error → Type 0
TellsFailure old new (Ok _) = NoneFailed old.present new.present
TellsFailure old new (Err e) = e ≢ ReadFailed → NoneFailed old.present new.present

-- where no device call was made, none failed
pub none_failed_start : (d : Disk) → NoneFailed d d
none_failed_start d = ([], sym (append-nil d.log), tt)

answered_both : (xs ys : List Entry) → AreAnswered xs → AreAnswered ys → AreAnswered (xs ++ ys)
answered_both [] ys first second = second
answered_both (x ∷ xs) ys first second = (first.0, answered_both xs ys first.1 second)

-- where none failed up to a moment, and none from there on, none failed
pub none_failed_joins : (a b d : Disk) → NoneFailed a b → NoneFailed b d → NoneFailed a d
none_failed_joins a b d first second = (
  first.0 ++ second.0,
  second.1 ∙ ap (λ l. l ++ second.0) first.1 ∙ append_assoc a.log first.0 second.0,
  answered_both first.0 second.0 first.2 second.2,
)
