use Rattle.std.proofs.Common.{◌∙◌, ap, sym}
use Rattle.segments.specs.PagedReads.{PagedSegmentState}
use Rattle.segments.proofs.OpensMarked.{they_are_of}
use Rattle.segments.proofs.SegmentMarks.{opened_its}
use Rattle.segments.proofs.paged_segment.PagedSegment.with_marks.Goals as goal

pub invariant_of-segment : goal.invariant_of-segment
invariant_of-segment g c =
    let i : PagedSegmentState = record { number = c.self.inside.number; content = c.self.inside.content; is_settled = c.self.inside.is_settled; marks_root = c.self.inside.marks_root; marks = c.self.inside.marks; ended = c.self.inside.ended } in
    opened_its g.D.Digest.digest_of i _ _ c.args.root c.in-Ok.opened.0 c.len-len.ensures.len (c.requires ∙ sym (ap (λ (p : PagedSegmentState). p.content.page_size) c.self.view_is)) (they_are_of g.D.Digest.digest_of _ _ _ c.args.root c.args.file c.in-Ok.opened.0 c.in-Ok.opened.1 c.in-Ok.ensures)
