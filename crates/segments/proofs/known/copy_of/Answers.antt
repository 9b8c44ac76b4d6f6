use Rattle.std.proofs.Common.{arith}
use Rattle.segments.proofs.CopiesTold.{copy_told}
use Rattle.segments.proofs.known.copy_of.Goals as goal

pub returns-in-Ok-clause-told : goal.returns-in-Ok-clause-told
returns-in-Ok-clause-told c = copy_told c.in-Ok.bytes.items c.args.manifest.now c.args.known c.in-Ok.ensures (omega arith) (omega arith)
