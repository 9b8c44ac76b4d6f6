use Rattle.std.proofs.Common.{refl, sym, ◌∙◌}
use Rattle.disk.specs.declared.action.Action.TheVariants as actions
use Rattle.file.proofs.Asking.{looks}
use Rattle.file.proofs.mirror.MirrorBlob.read_many.Goals as goal

pub invariant_of-self : goal.invariant_of-self
invariant_of-self g c = (
  looks (actions.ReadMany c.args.ranges.now) c.self.inside.kept c.read_many.new.self (g.S.Host.asked c.self.inside.host) c.read_many.result refl c.read_many.ensures.tells c.read_many.ensures.stopped c.self.invariant.0,
  c.self.invariant.1 ∙ sym c.read_many.ensures.stopped,
  c.self.invariant.2,
)
