use Rattle.std.proofs.Common.{refl, sym, ◌∙◌}
use Rattle.disk.specs.declared.action.Action.TheVariants as actions
use Rattle.file.proofs.Asking.{looks}
use Rattle.file.proofs.mirror.MirrorBlob.start_read_many.Goals as goal

pub invariant_of-self : goal.invariant_of-self
invariant_of-self g c = (
  looks (actions.StartReadMany c.args.ranges.now) c.self.inside.kept c.start_read_many.new.self (g.S.Host.asked c.self.inside.host) c.start_read_many.result refl c.start_read_many.ensures.tells c.start_read_many.ensures.stopped c.self.invariant.0,
  c.self.invariant.1 ∙ sym c.start_read_many.ensures.stopped,
  c.self.invariant.2,
)
