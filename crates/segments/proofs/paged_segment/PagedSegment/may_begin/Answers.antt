use Rattle.std.specs.Prelude.{Some}
use Rattle.std.proofs.Common.{subst, sym}
use Rattle.segments.specs.PagedReads.{HasSameMarks, PagedSegmentState}
use Rattle.segments.proofs.SegmentMarks.{checked, content_its}
use Rattle.segments.proofs.paged_segment.PagedSegment.may_begin.Goals as goal

pub invariant_of-self : goal.invariant_of-self
invariant_of-self g c =
    let i : PagedSegmentState = record { number = c.self.inside.number; content = c.self.inside.content; is_settled = c.self.inside.is_settled; marks_root = c.self.inside.marks_root; marks = c.self.inside.marks; ended = c.self.inside.ended } in
    content_its g.D.Digest.digest_of i c.is_begin.new.content (Some c.is_begin.new.self) i.is_settled c.is_begin.ensures.content.seal c.is_begin.ensures.content.page_size
    (subst (λ k. HasSameMarks k (Some c.is_begin.new.self)) (sym c.in-Some.is) c.is_begin.ensures.same) c.self.invariant

pub returns-in-Some : goal.returns-in-Some
returns-in-Some g c =
    let i : PagedSegmentState = record { number = c.self.inside.number; content = c.self.inside.content; is_settled = c.self.inside.is_settled; marks_root = c.self.inside.marks_root; marks = c.self.inside.marks; ended = c.self.inside.ended } in
    checked g.D.Digest.digest_of c.args.offset i c.args.self.now c.in-Some.marks c.is_begin.new.self c.is_begin.new.content c.is_begin.result c.self.view_is c.in-Some.is c.self.invariant c.is_begin.ensures
