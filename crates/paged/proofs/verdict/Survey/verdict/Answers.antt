use Rattle.std.proofs.Common.{arith}
use Rattle.std.proofs.lemmas.Grind.{common_steps}
use Rattle.paged.proofs.verdict.Survey.verdict.Goals as goal

pub returns-else-set_aside_len-gt0-clause-zeros : goal.returns-else-set_aside_len-gt0-clause-zeros
returns-else-set_aside_len-gt0-clause-zeros c = grind (arith, common_steps)
