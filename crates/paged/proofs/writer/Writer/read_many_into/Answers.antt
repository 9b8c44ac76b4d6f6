use Rattle.std.proofs.Common.{subst, sym}
use Rattle.paged_read.specs.Reads.{ReadLeaves, ReadManyCosts, ReadManyGoes}
use Rattle.std.specs.Int.NonZero.{non_zero_usize_get}
use Rattle.paged_read.specs.Batch.{ranges_of}
use Rattle.paged_read.specs.Tail.{Tail, CanRead}
use Rattle.paged.proofs.Answering.{ready_still, usable_still}
use Rattle.paged.proofs.Recovered.{looked_as_opened}
use Rattle.paged.proofs.writer.Writer.read_many_into.Goals as goal

pub read_many_into-requires-clause-can : goal.read_many_into-requires-clause-can
read_many_into-requires-clause-can g c = subst (λ (t : Tail). CanRead t c.args.cache.now (g.B.Blob.life c.args.blob.now).present) (sym c.view.ensures.tail) c.requires.can

pub returns-clause-goes : goal.returns-clause-goes
returns-clause-goes g c = subst (λ (t : Tail). ReadManyGoes g.H.Sum.sum_of t c.args.cache.now (ranges_of (non_zero_usize_get c.args.len) c.args.offsets.now) c.args.buf.now c.read_many_into.new.buf (g.B.Blob.life c.args.blob.now) (g.B.Blob.life c.read_many_into.new.blob) c.read_many_into.result) c.view.ensures.tail c.read_many_into.ensures.goes

pub returns-clause-leaves : goal.returns-clause-leaves
returns-clause-leaves g c = subst (λ (t : Tail). ReadLeaves g.H.Sum.sum_of t c.args.cache.now c.read_many_into.new.cache (g.B.Blob.life c.args.blob.now) (g.B.Blob.life c.read_many_into.new.blob)) c.view.ensures.tail c.read_many_into.ensures.leaves

pub returns-clause-costs : goal.returns-clause-costs
returns-clause-costs g c = subst (λ (t : Tail). ReadManyCosts g.H.Sum.sum_of t (ranges_of (non_zero_usize_get c.args.len) c.args.offsets.now) c.args.cache.now c.read_many_into.new.cache (g.B.Blob.life c.args.blob.now) (g.B.Blob.life c.read_many_into.new.blob) c.read_many_into.result) c.view.ensures.tail c.read_many_into.ensures.costs

pub returns-clause-ready : goal.returns-clause-ready
returns-clause-ready g c = (
  ready_still g.H.Sum.sum_of c.args.self.now c.args.cache.now c.read_many_into.new.cache (g.B.Blob.life c.args.blob.now) (g.B.Blob.life c.read_many_into.new.blob)
      (subst (λ (t : Tail). ReadLeaves g.H.Sum.sum_of t c.args.cache.now c.read_many_into.new.cache (g.B.Blob.life c.args.blob.now) (g.B.Blob.life c.read_many_into.new.blob)) c.view.ensures.tail c.read_many_into.ensures.leaves),
  looked_as_opened g.H.Sum.sum_of c.args.self.now (g.B.Blob.life c.args.blob.now) (g.B.Blob.life c.read_many_into.new.blob) c.read_many_into.ensures.leaves.looked,
  usable_still g.H.Sum.sum_of c.args.self.now c.args.cache.now c.read_many_into.new.cache (g.B.Blob.life c.args.blob.now) (g.B.Blob.life c.read_many_into.new.blob)
      (subst (λ (t : Tail). ReadLeaves g.H.Sum.sum_of t c.args.cache.now c.read_many_into.new.cache (g.B.Blob.life c.args.blob.now) (g.B.Blob.life c.read_many_into.new.blob)) c.view.ensures.tail c.read_many_into.ensures.leaves),
)
