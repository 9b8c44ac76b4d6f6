use Rattle.std.proofs.Common.{arith}
use Rattle.std.proofs.lemmas.Grind.{common_steps}
use Rattle.segments.proofs.opening.open_manifest.Goals as goal

pub returns-in-Ok-commit-clause-has : goal.returns-in-Ok-commit-clause-has
returns-in-Ok-commit-clause-has g c = grind (arith, common_steps)
