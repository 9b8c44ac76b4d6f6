use Rattle.std.proofs.Common.{sym, ◌∙◌}
use Rattle.file.proofs.Asking.{starts}
use Rattle.file.proofs.mirror.MirrorBlob.start_sync.Goals as goal

pub invariant_of-self : goal.invariant_of-self
invariant_of-self g c = (
  starts c.self.inside.kept c.start_sync.new.self (g.S.Host.asked c.self.inside.host) c.start_sync.result c.start_sync.ensures.tells c.start_sync.ensures.stopped c.self.invariant.0,
  c.self.invariant.1 ∙ sym c.start_sync.ensures.stopped,
  c.self.invariant.2,
)
