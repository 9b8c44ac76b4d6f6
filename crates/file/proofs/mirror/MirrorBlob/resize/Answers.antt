use Rattle.std.proofs.Common.{Bool, sym, ◌∙◌, subst, arith}
use Rattle.disk.specs.declared.action.Action.TheVariants as actions
use Rattle.disk.specs.VecBlob.{HasRoom}
use Rattle.file.specs.Asked.{requests_of, Passes}
use Rattle.file.proofs.Asking.{calls}
use Rattle.file.proofs.mirror.MirrorBlob.resize.Goals as goal

pub invariant_of-self-2 : goal.invariant_of-self-2
invariant_of-self-2 g c =
    let a = actions.Resize c.args.len in
    let was = c.self.inside.kept in
    let mid = c.pass_on.new.kept in
    let now = c.resize.new.self in
    let asked = g.S.Host.asked c.self.inside.host in
    let more = g.S.Host.asked c.pass_on.new.host in
    let made = c.in_ok-reserve.ensures in
    let passes : Passes was.stopped mid.stopped (requests_of a) asked more = subst (λ (b : Bool). Passes b mid.stopped (requests_of a) asked more) made.1 c.pass_on.ensures.passes in
    let room : HasRoom c.args.len 0 mid = (made.2.0, omega (arith, made.2.1, c.pass_on.ensures.room)) in (
      calls a was mid now asked more c.self.invariant.0 (c.pass_on.ensures.history ∙ made.0) passes (c.resize.ensures.asked room) c.resize.ensures.stopped,
      c.pass_on.ensures.failure ∙ sym c.resize.ensures.stopped,
      c.pass_on.ensures.told,
    )
