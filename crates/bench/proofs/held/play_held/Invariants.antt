use Rattle.std.proofs.Common.{◌≡◌}
use Rattle.bench.proofs.held.play_held.Given as goal

abbrev pub invariant-loop : goal.invariant-loop
invariant-loop l = l.stage.value.cache.page_size ≡ l.initial.stage.value.cache.page_size
