use Rattle.std.proofs.Common.{arith}
use Rattle.std.proofs.lemmas.Grind.{common_steps}
use Rattle.paged.proofs.truncate.value_of.Goals as goal

pub returns-clause-slot : goal.returns-clause-slot
returns-clause-slot g c = grind (arith, common_steps)
