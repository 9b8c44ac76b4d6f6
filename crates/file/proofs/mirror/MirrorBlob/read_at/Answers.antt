use Rattle.std.proofs.Common.{refl, sym, ◌∙◌}
use Rattle.disk.specs.declared.action.Action.TheVariants as actions
use Rattle.file.proofs.Asking.{looks}
use Rattle.file.proofs.mirror.MirrorBlob.read_at.Goals as goal

pub invariant_of-self : goal.invariant_of-self
invariant_of-self g c = (
  looks (actions.Read c.args.offset c.args.len) c.self.inside.kept c.read_at.new.self (g.S.Host.asked c.self.inside.host) c.read_at.result refl c.read_at.ensures.tells c.read_at.ensures.stopped c.self.invariant.0,
  c.self.invariant.1 ∙ sym c.read_at.ensures.stopped,
  c.self.invariant.2,
)
