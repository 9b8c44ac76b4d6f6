use Rattle.std.proofs.Common.{arith}
use Rattle.segments.proofs.Entries.{closed_whole}
use Rattle.segments.proofs.entry.closes_whole.Goals as goal

pub returns-in-Ok-clause-told : goal.returns-in-Ok-clause-told
returns-in-Ok-clause-told c =
    closed_whole c.in-Ok.bytes.items c.args.records c.args.kept c.args.zeros c.in-Ok.ensures.bytes c.ranges.records.fits (omega arith) c.whole_bytes.ensures.sized
