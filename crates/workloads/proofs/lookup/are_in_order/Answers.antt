use Rattle.std.proofs.Common.{◌≡◌, ◌+◌, get_or, arith}
use Rattle.workloads.proofs.Orders.{order_more, order_all}
use Rattle.workloads.proofs.lookup.are_in_order.Goals as goal

pub loop-offset-preserved : goal.loop-offset-preserved
loop-offset-preserved c =
    let i = c.loop-offset.offset-index in
    let is : c.in-Some.next ≡ get_or c.args.offsets.now i 0 + c.args.len = omega (arith, c.in-Some.ensures) in
    order_more c.args.len c.args.offsets.now i c.loop-offset.end c.in-Some.next 0 c.loop-offset-test.true c.if-offset-end.false is c.loop-offset.invariant

pub returns : goal.returns
returns c = λ same. order_all c.args.len c.args.offsets.now c.loop-offset.offset-index c.loop-offset.end c.loop-offset-test.false c.loop-offset.invariant
