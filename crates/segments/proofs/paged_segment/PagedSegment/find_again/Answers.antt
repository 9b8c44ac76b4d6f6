use Rattle.std.specs.Prelude.{ℕ, Option, Result}
use Rattle.std.proofs.Common.{ap, subst, sym}
use Rattle.segments.specs.declared.error.Error.{Error}
use Rattle.segments.specs.PagedReads.{IsToldAs, PagedSegmentState, SegmentNthGoes}
use Rattle.segments.proofs.SegmentSearches.{nth_fails_again, nth_found_again, nth_not_rebuilt}
use Rattle.segments.proofs.paged_segment.PagedSegment.find_again.Goals as goal
use Rattle.segments.proofs.paged_segment.PagedSegment.find_again.Goals.{in-Ok-find, in-Err-find}

pub returns-after-find : goal.returns-after-find
returns-after-find g c =
    let d = g.D.Digest.digest_of in
    let s : PagedSegmentState = c.args.self.now in
    let t : PagedSegmentState = c.find.new.self in
    elim c.match-find.branch [
      | in-Ok-find w ↦ subst (λ (r : Result (Option ℕ) Error). SegmentNthGoes d c.args.n s t r) (sym w.result-is)
          (nth_found_again d c.args.n s c.settle.new.self t c.in-Ok.field-0 w.in-Ok-find.found c.requires.unsettled c.requires.marked c.in-Ok.ensures w.in-Ok-find.ensures)
      | in-Err-find w ↦ subst (λ (r : Result (Option ℕ) Error). SegmentNthGoes d c.args.n s t r) (sym w.result-is)
          (nth_fails_again d c.args.n s c.settle.new.self t c.in-Ok.field-0 w.in-Err-find.error w.told.result c.requires.unsettled c.in-Ok.ensures w.in-Err-find.ensures
          (subst (λ k. IsToldAs k w.in-Err-find.error w.told.result) (ap (λ (p : PagedSegmentState). p.number) c.self.view_is) w.told.ensures))
    ]

pub returns-in-Err : goal.returns-in-Err
returns-in-Err g c =
    nth_not_rebuilt g.D.Digest.digest_of c.args.n c.args.self.now c.settle.new.self c.in-Err.error c.told-in-Err.result c.requires.unsettled c.in-Err.ensures
    (subst (λ k. IsToldAs k c.in-Err.error c.told-in-Err.result) (ap (λ (p : PagedSegmentState). p.number) c.self-in-Err.view_is) c.told-in-Err.ensures)
