use Rattle.std.proofs.Common.{true, false, sym, ◌∙◌}
use Rattle.disk.specs.declared.action.Action.TheVariants as actions
use Rattle.disk.specs.History.{life_of}
use Rattle.disk.proofs.Device.{life_after, resize_goes, resize_fails}
use Rattle.disk.proofs.memory.MemBlobBlob.resize.Goals as goal

pub returns-then-branch-clause-goes : goal.returns-then-branch-clause-goes
returns-then-branch-clause-goes c =
    resize_fails c.args.len (life_of c.args.self.now) (life_of c.ask.new.self)
    (life_after (actions.Resize c.args.len) true c.args.self.now c.ask.new.self (sym c.if-branch.true ∙ c.in_ok-ask.ensures.failed) c.in_ok-ask.ensures.told)

pub returns-clause-goes : goal.returns-clause-goes
returns-clause-goes c =
    resize_goes c.args.len (life_of c.args.self.now) (life_of c.ask.new.self)
    (life_after (actions.Resize c.args.len) false c.args.self.now c.ask.new.self (sym c.if-branch.false ∙ c.in_ok-ask.ensures.failed) c.in_ok-ask.ensures.told)
