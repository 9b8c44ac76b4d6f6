use Rattle.std.proofs.Common.{subst}
use Rattle.paged_read.specs.Reads.{ReadLeaves, ReadManyCosts, ReadRangesGoes}
use Rattle.paged_read.specs.Tail.{Tail}
use Rattle.paged_read.proofs.sealed.Sealed.read_ranges_into.Goals as goal

pub returns-clause-goes : goal.returns-clause-goes
returns-clause-goes g c = subst (λ (t : Tail). ReadRangesGoes g.H.Sum.sum_of t c.args.cache.now c.args.ranges.now c.args.buf.now c.read_ranges_into.new.buf (g.B.Blob.life c.args.blob.now) (g.B.Blob.life c.read_ranges_into.new.blob) c.read_ranges_into.result) c.view.ensures.tail c.read_ranges_into.ensures.goes

pub returns-clause-leaves : goal.returns-clause-leaves
returns-clause-leaves g c = subst (λ (t : Tail). ReadLeaves g.H.Sum.sum_of t c.args.cache.now c.read_ranges_into.new.cache (g.B.Blob.life c.args.blob.now) (g.B.Blob.life c.read_ranges_into.new.blob)) c.view.ensures.tail c.read_ranges_into.ensures.leaves

pub returns-clause-costs : goal.returns-clause-costs
returns-clause-costs g c = subst (λ (t : Tail). ReadManyCosts g.H.Sum.sum_of t c.args.ranges.now c.args.cache.now c.read_ranges_into.new.cache (g.B.Blob.life c.args.blob.now) (g.B.Blob.life c.read_ranges_into.new.blob) c.read_ranges_into.result) c.view.ensures.tail c.read_ranges_into.ensures.costs
