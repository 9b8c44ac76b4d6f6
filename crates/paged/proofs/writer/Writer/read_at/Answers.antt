use Rattle.std.proofs.Common.{subst, sym}
use Rattle.paged_read.specs.Reads.{ReadCosts, ReadGoes, ReadLeaves}
use Rattle.std.specs.List.{concat}
use Rattle.paged_read.specs.Tail.{Tail, CanRead}
use Rattle.paged.proofs.Answering.{ready_still, usable_still}
use Rattle.paged.proofs.Recovered.{looked_as_opened}
use Rattle.paged.proofs.writer.Writer.read_at.Goals as goal

pub read_at-requires-clause-can : goal.read_at-requires-clause-can
read_at-requires-clause-can g c = subst (λ (t : Tail). CanRead t c.args.cache.now (g.B.Blob.life c.args.blob.now).present) (sym c.view.ensures.tail) c.requires.can

pub returns-clause-goes : goal.returns-clause-goes
returns-clause-goes g c = subst (λ (t : Tail). ReadGoes g.H.Sum.sum_of t c.args.cache.now (c.args.offset, c.args.len) concat (g.B.Blob.life c.args.blob.now) (g.B.Blob.life c.read_at.new.blob) c.read_at.result) c.view.ensures.tail c.read_at.ensures.goes

pub returns-clause-leaves : goal.returns-clause-leaves
returns-clause-leaves g c = subst (λ (t : Tail). ReadLeaves g.H.Sum.sum_of t c.args.cache.now c.read_at.new.cache (g.B.Blob.life c.args.blob.now) (g.B.Blob.life c.read_at.new.blob)) c.view.ensures.tail c.read_at.ensures.leaves

pub returns-clause-costs : goal.returns-clause-costs
returns-clause-costs g c = subst (λ (t : Tail). ReadCosts g.H.Sum.sum_of t (c.args.offset, c.args.len) c.args.cache.now c.read_at.new.cache (g.B.Blob.life c.args.blob.now) (g.B.Blob.life c.read_at.new.blob) c.read_at.result) c.view.ensures.tail c.read_at.ensures.costs

pub returns-clause-ready : goal.returns-clause-ready
returns-clause-ready g c = (
  ready_still g.H.Sum.sum_of c.args.self.now c.args.cache.now c.read_at.new.cache (g.B.Blob.life c.args.blob.now) (g.B.Blob.life c.read_at.new.blob)
      (subst (λ (t : Tail). ReadLeaves g.H.Sum.sum_of t c.args.cache.now c.read_at.new.cache (g.B.Blob.life c.args.blob.now) (g.B.Blob.life c.read_at.new.blob)) c.view.ensures.tail c.read_at.ensures.leaves),
  looked_as_opened g.H.Sum.sum_of c.args.self.now (g.B.Blob.life c.args.blob.now) (g.B.Blob.life c.read_at.new.blob) c.read_at.ensures.leaves.looked,
  usable_still g.H.Sum.sum_of c.args.self.now c.args.cache.now c.read_at.new.cache (g.B.Blob.life c.args.blob.now) (g.B.Blob.life c.read_at.new.blob)
      (subst (λ (t : Tail). ReadLeaves g.H.Sum.sum_of t c.args.cache.now c.read_at.new.cache (g.B.Blob.life c.args.blob.now) (g.B.Blob.life c.read_at.new.blob)) c.view.ensures.tail c.read_at.ensures.leaves),
)
