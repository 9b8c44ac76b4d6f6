use Rattle.std.proofs.Common.{arith}
use Rattle.segments.proofs.SegmentDigests.{none_digested}
use Rattle.segments.proofs.segment_digesting.SegmentDigesting.new.Goals as goal

pub returns-clause-begun : goal.returns-clause-begun
returns-clause-begun g c = λ content. record {
  page_size = c.new-2.ensures.page_size;
  digested = c.new.ensures _ content;
  marked = c.new-2.ensures.marked content;
  ahead = omega (arith, none_digested g.D.Digest.digest_of c.new.result c.new.ensures);
}

pub returns-clause-pages : goal.returns-clause-pages
returns-clause-pages g c = none_digested g.D.Digest.digest_of c.new.result c.new.ensures
