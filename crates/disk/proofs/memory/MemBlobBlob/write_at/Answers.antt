use Rattle.std.proofs.Common.{true, false, sym, ◌∙◌}
use Rattle.disk.specs.declared.action.Action.TheVariants as actions
use Rattle.disk.specs.History.{life_of}
use Rattle.disk.proofs.Device.{life_after, write_goes, write_fails}
use Rattle.disk.proofs.memory.MemBlobBlob.write_at.Goals as goal

pub returns-then-branch-clause-goes : goal.returns-then-branch-clause-goes
returns-then-branch-clause-goes c =
    let bytes = c.in_ok-bytes.bytes in
    let goes = life_after (actions.Write c.args.offset bytes c.args.options.sync) true c.args.self.now c.ask.new.self (sym c.if-branch.true ∙ c.in_ok-ask.ensures.failed) c.in_ok-ask.ensures.told in
    rw (← c.in_ok-bytes.ensures.ok) (write_fails c.args.offset bytes c.args.options.sync (life_of c.args.self.now) (life_of c.ask.new.self) goes)

pub returns-clause-goes : goal.returns-clause-goes
returns-clause-goes c =
    let bytes = c.in_ok-bytes.bytes in
    let goes = life_after (actions.Write c.args.offset bytes c.args.options.sync) false c.args.self.now c.ask.new.self (sym c.if-branch.false ∙ c.in_ok-ask.ensures.failed) c.in_ok-ask.ensures.told in
    rw (← c.in_ok-bytes.ensures.ok) (write_goes c.args.offset bytes c.args.options.sync (life_of c.args.self.now) (life_of c.ask.new.self) goes)
