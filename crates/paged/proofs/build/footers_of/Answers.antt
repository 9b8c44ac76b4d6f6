use Rattle.std.proofs.Common.{arith}
use Rattle.std.proofs.lemmas.Grind.{common_steps}
use Rattle.paged.proofs.build.footers_of.Goals as goal

pub loop-page-preserved : goal.loop-page-preserved
loop-page-preserved g c = grind (arith, common_steps)

pub returns-clause-footers : goal.returns-clause-footers
returns-clause-footers g c = grind (arith, common_steps)
