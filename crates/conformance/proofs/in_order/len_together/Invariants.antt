use Rattle.std.proofs.Common.{◌≡◌, ◌+◌, ◌<◌, ◌^◌, drop}
use Rattle.std.specs.Prelude.{sum_by}
use Rattle.session.specs.Run.{in_order_from}
use Rattle.conformance.proofs.in_order.len_together.Given as goal

abbrev pub invariant-loop-offset : goal.invariant-loop-offset
invariant-loop-offset l = record {
  small : l.total < 2 ^ 64;
  order : in_order_from l.end (drop l.offset-index l.ranges) ≡ in_order_from 0 l.ranges;
  total : l.total + sum_by (λ range. range.1) (drop l.offset-index l.ranges) ≡ sum_by (λ range. range.1) l.ranges;
}
