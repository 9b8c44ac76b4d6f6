use Rattle.std.specs.Int.NonZero.{non_zero_usize_get}
use Rattle.std.proofs.lemmas.Result.{err_from_is_err_and}
use Rattle.items.proofs.Located.{one_more_there}
use Rattle.items.proofs.locate.find_all.Goals as goal

pub returns-in_err-offset_of : goal.returns-in_err-offset_of
returns-in_err-offset_of c =
    let error = err_from_is_err_and c.from_residual.result c.from_residual.ensures.1 in
    rw (error.1, error.2) (record { at = c.loop-i.i-index; there = c.loop-i-test.true; before = c.loop-i.invariant; refused = c.in_err-offset_of.ensures })

pub loop-i-preserved : goal.loop-i-preserved
loop-i-preserved c =
    let found = c.in_ok-offset_of.ensures in
    one_more_there (non_zero_usize_get c.args.size) c.args.count c.args.indices.now c.loop-i.i-index c.loop-i-test.true c.loop-i.invariant (found.1, found.2)
