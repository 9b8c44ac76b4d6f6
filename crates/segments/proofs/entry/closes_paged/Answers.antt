use Rattle.std.proofs.Common.{arith}
use Rattle.segments.proofs.Entries.{closed_paged}
use Rattle.segments.proofs.entry.closes_paged.Goals as goal

pub returns-in-Ok-clause-told : goal.returns-in-Ok-clause-told
returns-in-Ok-clause-told c =
    closed_paged c.in-Ok.bytes.items c.args.records c.args.kept c.args.zeros c.in-Ok.ensures.bytes c.ranges.records.fits (omega arith) c.paged_bytes.ensures.sized c.paged_bytes.ensures.marked
