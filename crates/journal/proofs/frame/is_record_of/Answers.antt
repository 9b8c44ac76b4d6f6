use Rattle.std.proofs.Common.{◌∙◌, ap, arith, nat_eq}
use Rattle.journal.proofs.Frames.{unmarked_before, marked_before}
use Rattle.journal.proofs.frame.is_record_of.Goals as goal

pub returns-then-after-ne1 : goal.returns-then-after-ne1
returns-then-after-ne1 g c = λ frame says is. unmarked_before g.R.Sum.sum_of frame c.args.bytes.now c.args.after.now says is c.if-after-ne1.true

pub returns : goal.returns
returns g c = λ frame says is.
    ap (λ s. nat_eq c.from_be_bytes-sum.result s) c.sum.ensures
    ∙ marked_before g.R.Sum.sum_of frame c.args.bytes.now c.args.after.now c.from_be_bytes-sum.result says is (omega (arith, c.if-after-ne1.false)) c.from_be_bytes-sum.ensures
