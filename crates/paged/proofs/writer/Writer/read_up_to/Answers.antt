use Rattle.std.proofs.Common.{subst, sym}
use Rattle.paged_read.specs.Reads.{ReadCosts, ReadLeaves, ReadUpToGoes}
use Rattle.paged_read.specs.Ranges.{range_up_to}
use Rattle.paged_read.specs.Tail.{Tail, CanRead}
use Rattle.paged.proofs.Answering.{ready_still, usable_still}
use Rattle.paged.proofs.Recovered.{looked_as_opened}
use Rattle.paged.proofs.writer.Writer.read_up_to.Goals as goal

pub read_up_to-requires-clause-can : goal.read_up_to-requires-clause-can
read_up_to-requires-clause-can g c = subst (λ (t : Tail). CanRead t c.args.cache.now (g.B.Blob.life c.args.blob.now).present) (sym c.view.ensures.tail) c.requires.can

pub returns-clause-goes : goal.returns-clause-goes
returns-clause-goes g c = subst (λ (t : Tail). ReadUpToGoes g.H.Sum.sum_of t c.args.cache.now c.args.offset c.args.len (g.B.Blob.life c.args.blob.now) (g.B.Blob.life c.read_up_to.new.blob) c.read_up_to.result) c.view.ensures.tail c.read_up_to.ensures.goes

pub returns-clause-leaves : goal.returns-clause-leaves
returns-clause-leaves g c = subst (λ (t : Tail). ReadLeaves g.H.Sum.sum_of t c.args.cache.now c.read_up_to.new.cache (g.B.Blob.life c.args.blob.now) (g.B.Blob.life c.read_up_to.new.blob)) c.view.ensures.tail c.read_up_to.ensures.leaves

pub returns-clause-costs : goal.returns-clause-costs
returns-clause-costs g c = subst (λ (t : Tail). ReadCosts g.H.Sum.sum_of t (range_up_to t c.args.offset c.args.len) c.args.cache.now c.read_up_to.new.cache (g.B.Blob.life c.args.blob.now) (g.B.Blob.life c.read_up_to.new.blob) c.read_up_to.result) c.view.ensures.tail c.read_up_to.ensures.costs

pub returns-clause-ready : goal.returns-clause-ready
returns-clause-ready g c = (
  ready_still g.H.Sum.sum_of c.args.self.now c.args.cache.now c.read_up_to.new.cache (g.B.Blob.life c.args.blob.now) (g.B.Blob.life c.read_up_to.new.blob)
      (subst (λ (t : Tail). ReadLeaves g.H.Sum.sum_of t c.args.cache.now c.read_up_to.new.cache (g.B.Blob.life c.args.blob.now) (g.B.Blob.life c.read_up_to.new.blob)) c.view.ensures.tail c.read_up_to.ensures.leaves),
  looked_as_opened g.H.Sum.sum_of c.args.self.now (g.B.Blob.life c.args.blob.now) (g.B.Blob.life c.read_up_to.new.blob) c.read_up_to.ensures.leaves.looked,
  usable_still g.H.Sum.sum_of c.args.self.now c.args.cache.now c.read_up_to.new.cache (g.B.Blob.life c.args.blob.now) (g.B.Blob.life c.read_up_to.new.blob)
      (subst (λ (t : Tail). ReadLeaves g.H.Sum.sum_of t c.args.cache.now c.read_up_to.new.cache (g.B.Blob.life c.args.blob.now) (g.B.Blob.life c.read_up_to.new.blob)) c.view.ensures.tail c.read_up_to.ensures.leaves),
)
