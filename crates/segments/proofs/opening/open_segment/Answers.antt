use Rattle.std.proofs.Common.{arith}
use Rattle.std.proofs.lemmas.Grind.{common_steps}
use Rattle.segments.proofs.opening.open_segment.Goals as goal

pub returns-in-Err-clause-asks_for : goal.returns-in-Err-clause-asks_for
returns-in-Err-clause-asks_for g c = grind (arith, common_steps)

pub returns-in-Ok-sync-clause-asks_for : goal.returns-in-Ok-sync-clause-asks_for
returns-in-Ok-sync-clause-asks_for g c = grind (arith, common_steps)

pub returns-in-Err-System-clause-asks_for : goal.returns-in-Err-System-clause-asks_for
returns-in-Err-System-clause-asks_for g c = grind (arith, common_steps)

pub returns-in-Err-Unsynced-clause-asks_for : goal.returns-in-Err-Unsynced-clause-asks_for
returns-in-Err-Unsynced-clause-asks_for g c = grind (arith, common_steps)
