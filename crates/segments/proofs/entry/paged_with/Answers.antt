use Rattle.segments.proofs.Entries.{closes_by}
use Rattle.segments.proofs.entry.paged_with.Goals as goal

pub returns : goal.returns
returns c = closes_by _ c.args.marks c.number_at-2.ensures c.number_at.ensures c.digest_at-root.ensures
