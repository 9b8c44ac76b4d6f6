use Rattle.std.proofs.Common.{arith}
use Rattle.std.proofs.lemmas.Grind.{common_steps}
use Rattle.page.proofs.tail.Tail.retire.Goals as goal

pub returns-clause-chunks : goal.returns-clause-chunks
returns-clause-chunks c = grind (arith, common_steps)

pub returns-in-Err-clause-same_tail : goal.returns-in-Err-clause-same_tail
returns-in-Err-clause-same_tail c = grind (arith, common_steps)
