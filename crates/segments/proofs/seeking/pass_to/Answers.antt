use Rattle.std.proofs.Common.{◌∙◌}
use Rattle.std.proofs.lemmas.Result.{err_from_is_err_and}
use Rattle.segments.proofs.Behind.{passing_ends, passing_fails, passing_none}
use Rattle.segments.proofs.seeking.pass_to.Goals as goal

pub returns-then-offset-first : goal.returns-then-offset-first
returns-then-offset-first g c = passing_none g.D.Digest.digest_of c.args.first c.args.offset c.args.content.now c.if-offset-first.true

pub returns-in_err-bytes : goal.returns-in_err-bytes
returns-in_err-bytes g c =
    let p = err_from_is_err_and c.from_residual.result c.from_residual.ensures.1 in
    rw (p.1, p.2) (passing_fails g.D.Digest.digest_of c.args.first c.args.offset c.args.content.now c.read.new.self c.in_err-bytes.field-0.0 c.if-offset-first.false c.in_err-bytes.ensures)

pub returns : goal.returns
returns g c =
    passing_ends g.D.Digest.digest_of c.args.first c.args.offset c.args.content.now c.read.new.self c.in_ok-bytes.bytes c.pass_in.result.0 c.pass_in.result.1 c.if-offset-first.false c.requires.within c.in_ok-bytes.ensures
    c.pass_in.ensures.all c.pass_in.ensures.few (λ content within is n begins. c.pass_in.ensures.passes content within (c.deref.ensures.value ∙ is) n begins)
