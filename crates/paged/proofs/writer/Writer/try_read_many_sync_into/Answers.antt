use Rattle.std.proofs.Common.{subst}
use Rattle.std.specs.Int.NonZero.{non_zero_usize_get}
use Rattle.paged_read.specs.Batch.{ranges_of}
use Rattle.paged_read.specs.Reads.{TryReadManyGoes}
use Rattle.paged_read.specs.Tail.{Tail}
use Rattle.paged.proofs.writer.Writer.try_read_many_sync_into.Goals as goal

pub returns : goal.returns
returns g c = record { goes = subst (λ (t : Tail). TryReadManyGoes t (ranges_of (non_zero_usize_get c.args.len) c.args.offsets.now) c.args.cache.now c.args.buf.now c.try_read_many_sync_into.new.buf c.try_read_many_sync_into.result) c.view.ensures.tail c.try_read_many_sync_into.ensures.goes }
