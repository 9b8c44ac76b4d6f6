use Rattle.std.proofs.Common.{rules}
use Rattle.scripts.proofs.Ranges.{passed-on, one_range_more, ranges-unread}
use Rattle.scripts.proofs.word.parse_ranges.Goals as goal

pub returns-in_err-parse_range : goal.returns-in_err-parse_range
returns-in_err-parse_range c = record {
  reads = passed-on _ _ _ _ _ c.from_residual-in_err-parse_range.ensures.1
      (ranges-unread c.args.words.now c.loop-word.word-index _ _ c.loop-word-test.true c.in_err-parse_range.ensures.reads);
}

pub loop-word-preserved : goal.loop-word-preserved
loop-word-preserved c = record {
  same = rw c.in_ok-push.ensures.items (one_range_more c.loop-word.ranges.items c.args.words.now c.loop-word.word-index c.in_ok-parse_range.field-0 _ c.loop-word-test.true c.loop-word.invariant.same c.in_ok-parse_range.ensures.reads.0);
  are = rw c.in_ok-push.ensures.items (search rules);
}
