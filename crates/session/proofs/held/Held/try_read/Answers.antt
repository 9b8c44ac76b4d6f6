use Rattle.std.proofs.Common.{arith}
use Rattle.std.proofs.lemmas.Grind.{common_steps}
use Rattle.session.proofs.held.Held.try_read.Goals as goal

pub returns-then-try_read_sync_into : goal.returns-then-try_read_sync_into
returns-then-try_read_sync_into c = grind (arith, common_steps)
