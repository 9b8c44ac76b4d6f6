use Rattle.std.proofs.Common.{subst, length}
use Rattle.paged_read.specs.Tail.{Tail}
use Rattle.paged_read.specs.Ranges.{TryReadGoes}
use Rattle.paged.proofs.writer.Writer.try_read_sync_into.Goals as goal

pub returns-clause-goes : goal.returns-clause-goes
returns-clause-goes g c = subst (λ (t : Tail). TryReadGoes t (c.args.offset, length c.args.buf.now) c.args.cache.now c.try_read_sync_into.new.buf c.try_read_sync_into.result) c.view.ensures.tail c.try_read_sync_into.ensures.goes
