use Rattle.std.proofs.Common.{ℕ, List, true, false, sym, ap, ◌∙◌}
use Rattle.disk.specs.declared.action.Action.TheVariants as actions
use Rattle.disk.specs.History.{life_of, life_after_action}
use Rattle.disk.proofs.Device.{life_after}
use Rattle.disk.proofs.memory.MemBlobBlob.read_many.Goals as goal

pub returns-then-branch-clause-goes : goal.returns-then-branch-clause-goes
returns-then-branch-clause-goes c =
    let now = c.args.self.now in
    life_after (actions.ReadMany c.in_ok-asked.asked) true now c.ask.new.self (sym c.if-branch.true ∙ c.in_ok-ask.ensures.failed) c.in_ok-ask.ensures.told
    ∙ ap (λ (ranges : List (ℕ × ℕ)). life_after_action (actions.ReadMany ranges) true (life_of now)) c.in_ok-asked.ensures

pub returns-clause-goes : goal.returns-clause-goes
returns-clause-goes c =
    let now = c.args.self.now in
    let given = c.in_ok-ranges.ensures.ranges in
    let asked = life_after (actions.ReadMany c.in_ok-asked.asked) false now c.ask.new.self (sym c.if-branch.false ∙ c.in_ok-ask.ensures.failed) c.in_ok-ask.ensures.told
    ∙ ap (λ (ranges : List (ℕ × ℕ)). life_after_action (actions.ReadMany ranges) false (life_of now)) c.in_ok-asked.ensures in
    (given.0, given.1, asked)
