use Rattle.std.proofs.Common.{sym, ◌∙◌}
use Rattle.disk.specs.declared.action.Action.TheVariants as actions
use Rattle.file.proofs.Asking.{calls}
use Rattle.file.proofs.mirror.MirrorBlob.sync.Goals as goal

pub invariant_of-self : goal.invariant_of-self
invariant_of-self g c = (
  calls actions.Sync c.self.inside.kept c.pass_on.new.kept c.sync.new.self (g.S.Host.asked c.self.inside.host) (g.S.Host.asked c.pass_on.new.host) c.self.invariant.0 c.pass_on.ensures.history c.pass_on.ensures.passes c.sync.ensures.asked c.sync.ensures.stopped,
  c.pass_on.ensures.failure ∙ sym c.sync.ensures.stopped,
  c.pass_on.ensures.told,
)
