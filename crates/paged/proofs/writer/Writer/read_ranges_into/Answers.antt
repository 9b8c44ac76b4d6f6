use Rattle.std.proofs.Common.{subst, sym}
use Rattle.paged_read.specs.Reads.{ReadLeaves, ReadManyCosts, ReadRangesGoes}
use Rattle.paged_read.specs.Tail.{Tail, CanRead}
use Rattle.paged.proofs.Answering.{ready_still, usable_still}
use Rattle.paged.proofs.Recovered.{looked_as_opened}
use Rattle.paged.proofs.writer.Writer.read_ranges_into.Goals as goal

pub read_ranges_into-requires-clause-can : goal.read_ranges_into-requires-clause-can
read_ranges_into-requires-clause-can g c = subst (λ (t : Tail). CanRead t c.args.cache.now (g.B.Blob.life c.args.blob.now).present) (sym c.view.ensures.tail) c.requires.can

pub returns-clause-goes : goal.returns-clause-goes
returns-clause-goes g c = subst (λ (t : Tail). ReadRangesGoes g.H.Sum.sum_of t c.args.cache.now c.args.ranges.now c.args.buf.now c.read_ranges_into.new.buf (g.B.Blob.life c.args.blob.now) (g.B.Blob.life c.read_ranges_into.new.blob) c.read_ranges_into.result) c.view.ensures.tail c.read_ranges_into.ensures.goes

pub returns-clause-leaves : goal.returns-clause-leaves
returns-clause-leaves g c = subst (λ (t : Tail). ReadLeaves g.H.Sum.sum_of t c.args.cache.now c.read_ranges_into.new.cache (g.B.Blob.life c.args.blob.now) (g.B.Blob.life c.read_ranges_into.new.blob)) c.view.ensures.tail c.read_ranges_into.ensures.leaves

pub returns-clause-costs : goal.returns-clause-costs
returns-clause-costs g c = subst (λ (t : Tail). ReadManyCosts g.H.Sum.sum_of t c.args.ranges.now c.args.cache.now c.read_ranges_into.new.cache (g.B.Blob.life c.args.blob.now) (g.B.Blob.life c.read_ranges_into.new.blob) c.read_ranges_into.result) c.view.ensures.tail c.read_ranges_into.ensures.costs

pub returns-clause-ready : goal.returns-clause-ready
returns-clause-ready g c = (
  ready_still g.H.Sum.sum_of c.args.self.now c.args.cache.now c.read_ranges_into.new.cache (g.B.Blob.life c.args.blob.now) (g.B.Blob.life c.read_ranges_into.new.blob)
      (subst (λ (t : Tail). ReadLeaves g.H.Sum.sum_of t c.args.cache.now c.read_ranges_into.new.cache (g.B.Blob.life c.args.blob.now) (g.B.Blob.life c.read_ranges_into.new.blob)) c.view.ensures.tail c.read_ranges_into.ensures.leaves),
  looked_as_opened g.H.Sum.sum_of c.args.self.now (g.B.Blob.life c.args.blob.now) (g.B.Blob.life c.read_ranges_into.new.blob) c.read_ranges_into.ensures.leaves.looked,
  usable_still g.H.Sum.sum_of c.args.self.now c.args.cache.now c.read_ranges_into.new.cache (g.B.Blob.life c.args.blob.now) (g.B.Blob.life c.read_ranges_into.new.blob)
      (subst (λ (t : Tail). ReadLeaves g.H.Sum.sum_of t c.args.cache.now c.read_ranges_into.new.cache (g.B.Blob.life c.args.blob.now) (g.B.Blob.life c.read_ranges_into.new.blob)) c.view.ensures.tail c.read_ranges_into.ensures.leaves),
)
