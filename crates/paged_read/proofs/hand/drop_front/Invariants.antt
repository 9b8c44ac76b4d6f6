use Rattle.std.proofs.Common.{◌≡◌, drop}
use Rattle.paged_read.proofs.hand.drop_front.Given as goal

abbrev pub invariant-loop : goal.invariant-loop
invariant-loop l = l.runs.items ≡ drop l.counter l.initial.runs.items
