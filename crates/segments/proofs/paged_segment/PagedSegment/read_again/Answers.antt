use Rattle.std.specs.Prelude.{Option, Result}
use Rattle.std.proofs.Common.{subst, sym}
use Rattle.journal.specs.declared.frame.Found.{Found}
use Rattle.segments.specs.declared.error.Error.{Error}
use Rattle.segments.specs.PagedReads.{PagedSegmentState, SegmentReadGoes}
use Rattle.segments.proofs.SegmentReads.{part_after, part_failed}
use Rattle.segments.proofs.SegmentMarks.{only_content_its}
use Rattle.segments.proofs.paged_segment.PagedSegment.read_again.Goals as goal
use Rattle.segments.proofs.paged_segment.PagedSegment.read_again.Goals.{in-Ok-frame_at, in-Err-frame_at}

pub returns-after-frame_at : goal.returns-after-frame_at
returns-after-frame_at g c =
    let i = c.self.inside in
    let old : PagedSegmentState = record { number = i.number; content = i.content; is_settled = i.is_settled; marks_root = i.marks_root; marks = i.marks; ended = i.ended } in
    let new : PagedSegmentState = record old { content = c.frame_at.new.content } in
    elim c.match-frame_at.branch [
      | in-Ok-frame_at w ↦ subst (λ (r : Result (Option Found) Error). SegmentReadGoes g.D.Digest.digest_of g.R.Sum.sum_of c.args.offset c.args.self.now new r) (sym w.result-is)
          (part_after g.D.Digest.digest_of g.R.Sum.sum_of c.args.offset old c.args.self.now c.settle.new.self c.frame_at.new.content c.in-Ok.field-0 w.in-Ok-frame_at.found
          c.self.view_is c.requires c.in-Ok.ensures w.in-Ok-frame_at.ensures)
      | in-Err-frame_at w ↦ subst (λ (r : Result (Option Found) Error). SegmentReadGoes g.D.Digest.digest_of g.R.Sum.sum_of c.args.offset c.args.self.now new r) (sym w.result-is)
          (part_failed g.D.Digest.digest_of g.R.Sum.sum_of c.args.offset old c.args.self.now c.settle.new.self c.frame_at.new.content c.in-Ok.field-0 w.in-Err-frame_at.error w.told.result
          c.self.view_is c.requires c.in-Ok.ensures w.in-Err-frame_at.ensures w.told.ensures)
    ]

pub invariant_of-self : goal.invariant_of-self
invariant_of-self g c =
    let i : PagedSegmentState = record { number = c.self.inside.number; content = c.self.inside.content; is_settled = c.self.inside.is_settled; marks_root = c.self.inside.marks_root; marks = c.self.inside.marks; ended = c.self.inside.ended } in
    only_content_its g.D.Digest.digest_of i c.frame_at.new.content i.is_settled c.frame_at.ensures.same.seal c.frame_at.ensures.same.page_size c.self.invariant
