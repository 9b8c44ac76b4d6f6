use Rattle.std.proofs.Common.{ap}
use Rattle.segments.specs.PagedReads.{PagedSegmentState}
use Rattle.segments.proofs.SegmentMarks.{marked_of, then_answered}
use Rattle.segments.proofs.paged_segment.PagedSegment.read_and_check.Goals as goal

pub returns-in-Ok : goal.returns-in-Ok
returns-in-Ok g c =
    then_answered g.D.Digest.digest_of g.R.Sum.sum_of c.args.offset c.self.inside.number c.args.self.now c.read_frame.new.self c.may_begin-checked.new.self c.in-Ok.found c.may_begin-checked.result c.answer_of.result
    (ap (λ (p : PagedSegmentState). p.number) c.self.view_is) c.in-Ok.ensures c.may_begin-checked.ensures c.answer_of.ensures

pub returns-in-Err : goal.returns-in-Err
returns-in-Err g c = marked_of g.D.Digest.digest_of g.R.Sum.sum_of c.args.offset c.args.self.now c.read_frame.new.self _ c.in-Err.ensures tt
