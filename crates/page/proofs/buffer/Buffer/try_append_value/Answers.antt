use Rattle.std.proofs.Common.{arith}
use Rattle.std.proofs.lemmas.Grind.{common_steps}
use Rattle.page.proofs.buffer.Buffer.try_append_value.Goals as goal

pub returns-then-size-spare : goal.returns-then-size-spare
returns-then-size-spare g c = grind (arith, common_steps)
