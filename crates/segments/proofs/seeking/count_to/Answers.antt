use Rattle.std.proofs.Common.{◌≡◌, ◌<◌, ◌∙◌, ℕ, ap, subst, arith}
use Rattle.std.proofs.lemmas.Result.{err_from_is_err_and}
use Rattle.journal.specs.Frame.{frame_len}
use Rattle.segments.proofs.NthBegins.{IsCounting, counting_begins, counting_ends, counting_fails, counting_more}
use Rattle.segments.proofs.seeking.count_to.Goals as goal

pub loop-at-init : goal.loop-at-init
loop-at-init g c = counting_begins g.D.Digest.digest_of c.args.first c.args.count c.args.content.now

pub returns-in_err-front : goal.returns-in_err-front
returns-in_err-front g c =
    let p = err_from_is_err_and c.from_residual.result c.from_residual.ensures.1 in
    rw (p.1, p.2) (counting_fails g.D.Digest.digest_of c.args.first c.args.count c.args.content.now c.loop-at.content c.read.new.self c.loop-at.left c.loop-at.at c.in_err-front.field-0.0 c.loop-at.invariant c.in_err-front.ensures)

pub loop-at-preserved : goal.loop-at-preserved
loop-at-preserved g c =
    let says : c.frame_len_of-at.result ≡ frame_len c.in_ok-front.front.items = c.frame_len_of-at.ensures.len ∙ ap frame_len c.deref.ensures.value in
    let some : 0 < c.loop-at.left = omega arith in
    counting_more g.D.Digest.digest_of c.args.first c.args.count c.args.content.now c.loop-at.content c.read.new.self c.loop-at.left c.loop-at.at c.frame_len_of-at.result c.in_ok-front.front some says c.loop-at.invariant
    c.in_ok-front.ensures

pub returns-then-left-eq0 : goal.returns-then-left-eq0
returns-then-left-eq0 g c =
    counting_ends g.D.Digest.digest_of c.args.first c.args.count c.args.content.now c.loop-at.content 0 c.loop-at.at (λ more. absurd (omega (arith, more)))
    (subst (λ (k : ℕ). IsCounting g.D.Digest.digest_of c.args.first c.args.count c.args.content.now c.loop-at.content k c.loop-at.at) c.if-left-eq0.true c.loop-at.invariant)

pub returns : goal.returns
returns g c =
    counting_ends g.D.Digest.digest_of c.args.first c.args.count c.args.content.now c.loop-at.content c.loop-at.left c.loop-at.at (λ some. omega (arith, c.loop-at-test.false, c.saturating_sub-last.ensures, c.len.ensures.len))
    c.loop-at.invariant
