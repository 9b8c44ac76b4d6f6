use Rattle.std.proofs.Common.{sym, ◌∙◌, subst, length}
use Rattle.disk.specs.History.{life_of}
use Rattle.disk.specs.declared.started_sync.StartedSync.{StartedSync}
use Rattle.disk.specs.VecBlob.{TellsWait}
use Rattle.file.proofs.Asking.{waits}
use Rattle.file.proofs.mirror.MirrorBlob.wait_sync.Goals as goal

pub invariant_of-self : goal.invariant_of-self
invariant_of-self g c =
    let mid = c.pass_on.new.kept in
    let now = c.wait_sync.new.self in
    let names = length (life_of mid.history).present.started in
    let tells = subst (λ (s : StartedSync). TellsWait s names mid now c.wait_sync.result) c.in-Named.is c.wait_sync.ensures.tells in (
      waits c.in-Named.field-0 names c.self.inside.kept mid now (g.S.Host.asked c.self.inside.host) (g.S.Host.asked c.pass_on.new.host) c.wait_sync.result c.self.invariant.0 c.pass_on.ensures.history c.pass_on.ensures.passes tells c.wait_sync.ensures.stopped,
      c.pass_on.ensures.failure ∙ sym c.wait_sync.ensures.stopped,
      c.pass_on.ensures.told,
    )
