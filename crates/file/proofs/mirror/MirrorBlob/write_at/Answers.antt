use Rattle.std.proofs.Common.{Bool, length, sym, ◌∙◌, subst, arith}
use Rattle.std.specs.List.{concat}
use Rattle.disk.specs.declared.action.Action.TheVariants as actions
use Rattle.disk.specs.VecBlob.{HasRoom}
use Rattle.file.specs.Asked.{requests_of, Passes}
use Rattle.file.proofs.Asking.{calls}
use Rattle.file.proofs.mirror.MirrorBlob.write_at.Goals as goal

pub invariant_of-self-2 : goal.invariant_of-self-2
invariant_of-self-2 g c =
    let bytes = concat c.args.bufs.now in
    let a = actions.Write c.args.offset bytes c.args.options.sync in
    let was = c.self.inside.kept in
    let mid = c.pass_on.new.kept in
    let now = c.write_at.new.self in
    let asked = g.S.Host.asked c.self.inside.host in
    let more = g.S.Host.asked c.pass_on.new.host in
    let made = c.in_ok-reserve.ensures in
    let passes : Passes was.stopped mid.stopped (requests_of a) asked more = subst (λ (b : Bool). Passes b mid.stopped (requests_of a) asked more) made.1 c.pass_on.ensures.passes in
    let room : HasRoom c.args.offset (length bytes) mid = (omega (arith, made.2.0, c.len.ensures), omega (arith, made.2.1, c.len.ensures, c.pass_on.ensures.room)) in (
      calls a was mid now asked more c.self.invariant.0 (c.pass_on.ensures.history ∙ made.0) passes (c.write_at.ensures.asked room) c.write_at.ensures.stopped,
      c.pass_on.ensures.failure ∙ sym c.write_at.ensures.stopped,
      c.pass_on.ensures.told,
    )
