use Rattle.std.proofs.Common.{arith}
use Rattle.session.proofs.RangeLaws.{in_order_after}
use Rattle.conformance.proofs.in_order.len_together.Goals as goal

pub returns-clause-in_order : goal.returns-clause-in_order
returns-clause-in_order c = in_order_after c.args.ranges.now c.loop-offset.offset-index c.loop-offset.end (omega (arith, c.loop-offset-test.false)) c.loop-offset.invariant.order
