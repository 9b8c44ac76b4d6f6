use Rattle.std.proofs.Common.{arith}
use Rattle.std.proofs.lemmas.Grind.{common_steps}
use Rattle.paged.proofs.build.push_page.Goals as goal

pub returns-clause-page : goal.returns-clause-page
returns-clause-page g c = grind (arith, common_steps)
