-- How a mirror reports a failed sync of its host.
use Rattle.std.proofs.Common.{◌≡◌, List, [], ◌∷◌, ◌++◌, true, false, Ok, Err, sym, ap, ◌∙◌}
use Rattle.std.specs.Prelude.{Result, Option, None, Some, IfErr, is_some}
use Rattle.disk.specs.declared.action.Action.{Action}
use Rattle.disk.specs.declared.action.Event.{Event}
use Rattle.disk.specs.declared.action.Action.TheVariants as actions
use Rattle.file.specs.declared.mirror.Failure.{Failure}
use Rattle.file.specs.Asked.{all_done, event, outcome, is_sync, ends_in_failed_sync}
use Rattle.file.specs.Mirror.{tells_failed_sync}
use Rattle.file.proofs.Asking.{ends_done, ends_more, ends_other}

-- after a sync of the host
pub told_sync : (events new : List Event) (result : Result (Unit {0}) Failure) → new ≡ events ++ outcome actions.Sync result ∷ [] → IfErr result (λ f. f.is_sync ≡ true) → IfErr result (λ f. f.is_sync ≡ ends_in_failed_sync new)
told_sync events new (Ok done) is told = tt
told_sync events new (Err f) is told = told ∙ sym (ap ends_in_failed_sync is ∙ ends_more events (event actions.Sync true))

-- after another call of the host
pub told_other : {E : Type 0} (a : Action) (events new : List Event) (answer : Result (Unit {0}) E) (result : Result (Unit {0}) Failure) → is_sync a ≡ false → new ≡ events ++ outcome a answer ∷ [] → IfErr result (λ f. f.is_sync ≡ false)
    → IfErr result (λ f. f.is_sync ≡ ends_in_failed_sync new)
told_other a events new answer (Ok done) other is told = tt
told_other a events new answer (Err f) other is told = told ∙ sym (ap ends_in_failed_sync is ∙ ends_other a events answer other)

-- no call of the host has failed, and none does now
pub told_done : (actions : List Action) (failure : Option Failure) (old new : List Event) → is_some failure ≡ false → tells_failed_sync failure ≡ ends_in_failed_sync old → new ≡ old ++ all_done actions → tells_failed_sync failure ≡ ends_in_failed_sync new
told_done actions None old new none told is = sym (ap ends_in_failed_sync is ∙ ends_done actions old (sym told))
told_done actions (Some f) old new none told is = absurd (cc none)
