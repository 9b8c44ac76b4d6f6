use Rattle.std.proofs.Common.{arith}
use Rattle.std.proofs.lemmas.Grind.{common_steps}
use Rattle.protocol.proofs.together.record_lengths.Goals as goal

pub returns-clause-tells : goal.returns-clause-tells
returns-clause-tells c = grind (arith, common_steps)

pub returns-then-total-records-clause-tells : goal.returns-then-total-records-clause-tells
returns-then-total-records-clause-tells c = grind (arith, common_steps)
