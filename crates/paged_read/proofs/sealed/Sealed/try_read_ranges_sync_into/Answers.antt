use Rattle.std.proofs.Common.{subst}
use Rattle.paged_read.specs.Reads.{TryReadManyGoes}
use Rattle.paged_read.specs.Tail.{Tail}
use Rattle.paged_read.proofs.sealed.Sealed.try_read_ranges_sync_into.Goals as goal

pub returns : goal.returns
returns g c = record { goes = subst (λ (t : Tail). TryReadManyGoes t c.args.ranges.now c.args.cache.now c.args.buf.now c.try_read_ranges_sync_into.new.buf c.try_read_ranges_sync_into.result) c.view.ensures.tail c.try_read_ranges_sync_into.ensures.goes }
