use Rattle.std.proofs.Common.{◌≡◌}
use Rattle.bench.proofs.held.put_all.Given as goal

abbrev pub invariant-loop-i : goal.invariant-loop-i
invariant-loop-i l = l.cache.page_size ≡ l.initial.cache.page_size
