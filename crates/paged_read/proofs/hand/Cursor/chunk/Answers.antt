use Rattle.std.proofs.Common.{arith}
use Rattle.std.proofs.lemmas.Grind.{common_steps}
use Rattle.paged_read.proofs.hand.Cursor.chunk.Goals as goal

pub returns-in-None-clause-bytes : goal.returns-in-None-clause-bytes
returns-in-None-clause-bytes c = grind (arith, common_steps)

pub returns-in-None-clause-len : goal.returns-in-None-clause-len
returns-in-None-clause-len c = grind (arith, common_steps)

pub returns-in-Some-clause-bytes : goal.returns-in-Some-clause-bytes
returns-in-Some-clause-bytes c = grind (arith, common_steps)
