use Rattle.std.proofs.Common.{arith}
use Rattle.std.proofs.lemmas.Grind.{common_steps}
use Rattle.protocol.proofs.input.read_some.Goals as goal

pub returns-then-not-branch-clause-came : goal.returns-then-not-branch-clause-came
returns-then-not-branch-clause-came g c = grind (arith, common_steps)
