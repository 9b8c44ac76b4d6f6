use Rattle.std.specs.Prelude.{Some, Result}
use Rattle.std.proofs.Common.{subst, sym}
use Rattle.segments.specs.declared.error.Error.{Error}
use Rattle.segments.specs.declared.passing.PassedPage.{PassedPage}
use Rattle.segments.specs.PagedReads.{HasSameMarks, PagedSegmentState, SegmentPassGoes}
use Rattle.segments.proofs.SegmentMarks.{content_its}
use Rattle.segments.proofs.SegmentSearches.{pass_lost, pass_of}
use Rattle.segments.proofs.paged_segment.PagedSegment.pass.Goals as goal
use Rattle.segments.proofs.paged_segment.PagedSegment.pass.Goals.{in-Ok, in-Err}

pub invariant_of-self : goal.invariant_of-self
invariant_of-self g c =
    let i : PagedSegmentState = record { number = c.self.inside.number; content = c.self.inside.content; is_settled = c.self.inside.is_settled; marks_root = c.self.inside.marks_root; marks = c.self.inside.marks; ended = c.self.inside.ended } in
    content_its g.D.Digest.digest_of i c.pass_page.new.content (Some c.pass_page.new.marks) i.is_settled c.pass_page.ensures.content.seal c.pass_page.ensures.content.page_size
    (subst (λ k. HasSameMarks k (Some c.pass_page.new.marks)) (sym c.in-Some.is) c.pass_page.ensures.same) c.self.invariant

pub returns-after-pass_page : goal.returns-after-pass_page
returns-after-pass_page g c =
    let i : PagedSegmentState = record { number = c.self.inside.number; content = c.self.inside.content; is_settled = c.self.inside.is_settled; marks_root = c.self.inside.marks_root; marks = c.self.inside.marks; ended = c.self.inside.ended } in
    let new : PagedSegmentState = record i { content = c.pass_page.new.content; marks = Some c.pass_page.new.marks } in
    elim c.match-pass_page.branch [
      | in-Ok w ↦ subst (λ (r : Result PassedPage Error). SegmentPassGoes g.D.Digest.digest_of c.args.offset c.args.self.now new r) (sym w.result-is)
          (pass_of g.D.Digest.digest_of c.args.offset i c.args.self.now c.in-Some.marks c.pass_page.new.marks c.pass_page.new.content w.in-Ok.passed c.self.view_is c.in-Some.is c.self.invariant w.in-Ok.ensures)
      | in-Err w ↦ subst (λ (r : Result PassedPage Error). SegmentPassGoes g.D.Digest.digest_of c.args.offset c.args.self.now new r) (sym w.result-is)
          (pass_lost g.D.Digest.digest_of c.args.offset i c.args.self.now c.in-Some.marks c.pass_page.new.marks c.pass_page.new.content w.in-Err.error w.told.result c.self.view_is c.in-Some.is w.in-Err.ensures w.told.ensures)
    ]
