use Rattle.std.proofs.lemmas.Result.{err_from_is_err_and}
use Rattle.paged_read.proofs.RangedLists.{offsets_refused, offsets_more, offsets_all}
use Rattle.paged_read.proofs.ranges.validate_offsets.Goals as goal

pub returns-in_err-validate_read_ranges : goal.returns-in_err-validate_read_ranges
returns-in_err-validate_read_ranges c =
    let error = err_from_is_err_and c.from_residual.result c.from_residual.ensures.1 in
    rw (error.1, error.2) (offsets_refused c.args.size c.args.len c.args.offsets.now c.loop-offset.offset-index 0 _ c.loop-offset-test.true c.loop-offset.invariant c.in_err-validate_read_ranges.ensures)

pub loop-offset-preserved : goal.loop-offset-preserved
loop-offset-preserved c = offsets_more c.args.size c.args.len c.args.offsets.now c.loop-offset.offset-index 0 c.loop-offset-test.true c.loop-offset.invariant c.in_ok-validate_read_ranges.ensures

pub returns : goal.returns
returns c = offsets_all c.args.size c.args.len c.args.offsets.now c.loop-offset.offset-index c.loop-offset-test.false c.loop-offset.invariant
