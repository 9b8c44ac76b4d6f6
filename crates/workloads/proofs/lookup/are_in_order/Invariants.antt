use Rattle.workloads.proofs.Orders.{OrderWaits}
use Rattle.workloads.proofs.lookup.are_in_order.Given as goal

abbrev pub invariant-loop-offset : goal.invariant-loop-offset
invariant-loop-offset l = OrderWaits l.len l.offsets l.offset-index l.end
