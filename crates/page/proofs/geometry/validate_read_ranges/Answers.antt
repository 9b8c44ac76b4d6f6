use Rattle.std.proofs.lemmas.Result.{err_from_is_err_and}
use Rattle.page.proofs.Ranges.{EndWithin-more, EndWithin-all, RangesGo-refused}
use Rattle.page.proofs.geometry.validate_read_ranges.Goals as goal

pub returns-in_err-validate_range : goal.returns-in_err-validate_range
returns-in_err-validate_range c =
    let error = err_from_is_err_and c.from_residual.result c.from_residual.ensures.1 in
    rw (error.1, error.2) (RangesGo-refused c.args.size c.args.ranges.now c.loop-offset.offset-index (0, 0) _ c.loop-offset-test.true c.loop-offset.invariant c.in_err-validate_range.ensures)

pub loop-offset-preserved : goal.loop-offset-preserved
loop-offset-preserved c = EndWithin-more _ _ _ (0, 0) c.loop-offset-test.true c.loop-offset.invariant c.in_ok-validate_range.ensures

pub returns : goal.returns
returns c = EndWithin-all _ _ _ c.loop-offset-test.false c.loop-offset.invariant
