use Rattle.std.proofs.Common.{arith}
use Rattle.digest.proofs.Sums.{summed_more}
use Rattle.digest.proofs.poly.with_words.Goals as goal

pub loop-i-preserved : goal.loop-i-preserved
loop-i-preserved c =
    summed_more c.args.total c.args.table.now c.args.bytes.now c.args.first c.loop-i.i 0 c.loop-i.sum c.word_at.result c.term-sum.result
    c.loop-i.invariant (omega arith) c.word_at.ensures.word c.term-sum.ensures.value (omega arith)

pub others-preserved : goal.others-preserved
others-preserved c =
    summed_more c.args.total c.args.table.now c.args.bytes.now c.args.first c.others.i 0 c.others.sum c.word_at-in-others.result c.term-sum-in-others.result
    c.others.invariant (omega arith) c.word_at-in-others.ensures.word c.term-sum-in-others.ensures.value (omega arith)
