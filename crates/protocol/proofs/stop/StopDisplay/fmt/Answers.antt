use Rattle.std.proofs.Common.{arith}
use Rattle.std.proofs.lemmas.Grind.{common_steps}
use Rattle.protocol.proofs.stop.StopDisplay.fmt.Goals as goal

pub returns-in-Malformed-clause-writes : goal.returns-in-Malformed-clause-writes
returns-in-Malformed-clause-writes g c = grind (arith, common_steps)
