use Rattle.std.proofs.Common.{true, false, sym, ◌∙◌, rules}
use Rattle.disk.specs.declared.action.Action.TheVariants as actions
use Rattle.disk.proofs.Device.{life_after}
use Rattle.disk.proofs.memory.MemBlobBlob.read_at.Goals as goal

pub returns-then-branch-clause-goes : goal.returns-then-branch-clause-goes
returns-then-branch-clause-goes c =
    life_after (actions.Read c.args.offset c.args.len) true c.args.self.now c.ask.new.self (sym c.if-branch.true ∙ c.in_ok-ask.ensures.failed) c.in_ok-ask.ensures.told

pub returns-clause-goes : goal.returns-clause-goes
returns-clause-goes c =
    let range = c.in_ok-bytes.ensures in
    (range.0, range.1, life_after (actions.Read c.args.offset c.args.len) false c.args.self.now c.ask.new.self (sym c.if-branch.false ∙ c.in_ok-ask.ensures.failed) c.in_ok-ask.ensures.told)

pub returns-in_err-bytes-clause-goes : goal.returns-in_err-bytes-clause-goes
returns-in_err-bytes-clause-goes c = search rules

pub returns-in_err-bytes-clause-asks : goal.returns-in_err-bytes-clause-asks
returns-in_err-bytes-clause-asks c = search rules
