-- The life of a blob in memory that may be stopped.
use Rattle.std.proofs.Common.{◌≡◌, ℕ, Bool, ap, ◌∙◌}
use Rattle.disk.specs.declared.action.Action.{Action}
use Rattle.disk.specs.History.{History, life_of, life_after_action}
use Rattle.disk.specs.Past.{history_with}
use Rattle.disk.specs.VecBlob.{VecState}
use Rattle.disk.proofs.Histories.{life_went}

-- the blob's life goes on by one event, which failed where the blob was stopped
pub lives_on : (a : Action) (stopped failed : Bool) (past : History) (room : ℕ) (now : VecState) (was new : History) → record { history = past; room = room; stopped = stopped } ≡ now → now.history ≡ was → stopped ≡ failed
    → new ≡ history_with a stopped past → life_of new ≡ life_after_action a failed (life_of was)
lives_on a stopped failed past room now was new view same is e =
    life_went a failed was new (e ∙ ap (λ b. history_with a b past) is ∙ ap (λ (s : VecState). history_with a failed s.history) view ∙ ap (history_with a failed) same)
