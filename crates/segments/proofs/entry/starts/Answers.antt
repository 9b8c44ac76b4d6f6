use Rattle.std.proofs.Common.{arith}
use Rattle.segments.proofs.Entries.{starts_told}
use Rattle.segments.proofs.entry.starts.Goals as goal

pub returns-clause-told : goal.returns-clause-told
returns-clause-told c = grind (arith, starts_told)
