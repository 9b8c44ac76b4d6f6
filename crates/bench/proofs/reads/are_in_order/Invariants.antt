use Rattle.bench.proofs.Orders.{OrderWaits}
use Rattle.bench.proofs.reads.are_in_order.Given as goal

abbrev pub invariant-loop-offset : goal.invariant-loop-offset
invariant-loop-offset l = OrderWaits l.len l.offsets l.offset-index l.end
