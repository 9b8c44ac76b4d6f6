use Rattle.std.proofs.Common.{arith}
use Rattle.scripts.proofs.Firsts.{size_unread}
use Rattle.scripts.proofs.Ranges.{passed-on}
use Rattle.scripts.proofs.start.parse_item_start.Goals as goal

pub returns-in_err-size-in-len5 : goal.returns-in_err-size-in-len5
returns-in_err-size-in-len5 c = record {
  reads = passed-on _ _ _ _ _ c.from_residual-in_err-size-in-len5.ensures.1 (size_unread c.args.words.now _ _ (omega arith) c.in_err-size-in-len5.ensures.reads);
}
