use Rattle.std.proofs.Common.{arith}
use Rattle.session.proofs.RangeLaws.{fit_after, in_order_after}
use Rattle.session.proofs.reads.len_together.Goals as goal

pub returns-clause-fit : goal.returns-clause-fit
returns-clause-fit c =
    let loop = c.loop-offset in
    fit_after c.args.ranges.now loop.offset-index loop.end loop.total (omega (arith, c.loop-offset-test.false)) loop.invariant.order loop.invariant.total loop.invariant.small

pub returns-clause-in_order : goal.returns-clause-in_order
returns-clause-in_order c = in_order_after c.args.ranges.now c.loop-offset.offset-index c.loop-offset.end (omega (arith, c.loop-offset-test.false)) c.loop-offset.invariant.order
