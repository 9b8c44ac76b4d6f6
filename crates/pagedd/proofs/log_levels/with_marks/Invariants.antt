use Rattle.std.proofs.Common.{◌≡◌}
use Rattle.pagedd.proofs.log_levels.with_marks.Given as goal

abbrev pub invariant-loop : goal.invariant-loop
invariant-loop g l = l.marking.page_size ≡ l.size
