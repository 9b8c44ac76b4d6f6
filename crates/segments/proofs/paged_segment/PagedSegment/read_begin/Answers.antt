use Rattle.std.specs.Prelude.{Ok, Option}
use Rattle.std.proofs.Common.{subst}
use Rattle.journal.specs.declared.frame.Found.{Found}
use Rattle.segments.specs.PagedReads.{PagedSegmentState, SegmentReadGoes}
use Rattle.segments.proofs.SegmentMarks.{begin_read, its_ended_by}
use Rattle.segments.proofs.paged_segment.PagedSegment.read_begin.Goals as goal

pub invariant_of-self : goal.invariant_of-self
invariant_of-self g c =
    let i : PagedSegmentState = record { number = c.self.inside.number; content = c.self.inside.content; is_settled = c.self.inside.is_settled; marks_root = c.self.inside.marks_root; marks = c.self.inside.marks; ended = c.self.inside.ended } in
    its_ended_by g.D.Digest.digest_of g.R.Sum.sum_of c.args.offset c.args.self.now i c.read_frame.new.self c.in-Ok-Some.found c.self.view_is c.requires
    (subst (λ (o : Option Found). SegmentReadGoes g.D.Digest.digest_of g.R.Sum.sum_of c.args.offset c.args.self.now c.read_frame.new.self (Ok o)) c.in-Ok-Some.field-0-is c.in-Ok-Some.ensures) c.self.invariant

pub returns-in-Err : goal.returns-in-Err
returns-in-Err g c = begin_read g.D.Digest.digest_of g.R.Sum.sum_of c.args.offset c.args.self.now c.read_frame.new.self _ c.requires c.in-Err.ensures
