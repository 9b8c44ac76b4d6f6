use Rattle.digest.proofs.Sums.{block_value}
use Rattle.digest.proofs.poly.block.Goals as goal

pub returns-clause-value : goal.returns-clause-value
returns-clause-value c x table =
    block_value x c.args.h c.args.table.now c.args.bytes.now c.times.result c.with_words.result c.reduced.result table c.times.ensures.value c.with_words.ensures.value c.reduced.ensures.value
