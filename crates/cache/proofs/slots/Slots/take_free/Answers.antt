use Rattle.std.proofs.Common.{arith}
use Rattle.std.proofs.lemmas.Grind.{common_steps}
use Rattle.cache.proofs.slots.Slots.take_free.Goals as goal

pub returns-then-is_ok-clause-taken : goal.returns-then-is_ok-clause-taken
returns-then-is_ok-clause-taken c = grind (arith, common_steps)
