use Rattle.std.proofs.Common.{length, subst}
use Rattle.paged_read.specs.Reads.{ReadCosts, ReadIntoGoes, ReadLeaves}
use Rattle.paged_read.specs.Tail.{Tail}
use Rattle.paged_read.proofs.sealed.Sealed.read_into.Goals as goal

pub returns-clause-goes : goal.returns-clause-goes
returns-clause-goes g c = subst (λ (t : Tail). ReadIntoGoes g.H.Sum.sum_of t c.args.cache.now c.args.offset c.args.buf.now c.read_into.new.buf (g.B.Blob.life c.args.blob.now) (g.B.Blob.life c.read_into.new.blob) c.read_into.result) c.view.ensures.tail c.read_into.ensures.goes

pub returns-clause-leaves : goal.returns-clause-leaves
returns-clause-leaves g c = subst (λ (t : Tail). ReadLeaves g.H.Sum.sum_of t c.args.cache.now c.read_into.new.cache (g.B.Blob.life c.args.blob.now) (g.B.Blob.life c.read_into.new.blob)) c.view.ensures.tail c.read_into.ensures.leaves

pub returns-clause-costs : goal.returns-clause-costs
returns-clause-costs g c = subst (λ (t : Tail). ReadCosts g.H.Sum.sum_of t (c.args.offset, length c.args.buf.now) c.args.cache.now c.read_into.new.cache (g.B.Blob.life c.args.blob.now) (g.B.Blob.life c.read_into.new.blob) c.read_into.result) c.view.ensures.tail c.read_into.ensures.costs
