use Rattle.std.specs.Prelude.{Option, Some, Result, Ok, Err}
use Rattle.std.proofs.Common.{refl, subst, sym}
use Rattle.page_digests.specs.declared.error.Error as pages
use Rattle.page_digests.specs.declared.error.Error.TheVariants as causes
use Rattle.segments.specs.declared.marked.Begin.{Begin}
use Rattle.segments.specs.MarkReads.{MarksState}
use Rattle.segments.specs.PagedReads.{CountStartGoes, HasSameMarks, IsPagedSegment, PagedSegmentState}
use Rattle.segments.proofs.SegmentMarks.{content_its, marks_same}
use Rattle.segments.proofs.SegmentSearches.{start_by, start_fails, start_without}
use Rattle.segments.proofs.paged_segment.PagedSegment.count_start.Goals as goal
use Rattle.segments.proofs.paged_segment.PagedSegment.count_start.Goals.{in-Some+in-Ok, in-Some+in-Err-OutOfMemory, in-Some+in-Err-Damaged, in-Some+in-Err-System, in-None}

pub invariant_of-self : goal.invariant_of-self
invariant_of-self g c =
    let d = g.D.Digest.digest_of in
    let i : PagedSegmentState = record { number = c.self.inside.number; content = c.self.inside.content; is_settled = c.self.inside.is_settled; marks_root = c.self.inside.marks_root; marks = c.self.inside.marks; ended = c.self.inside.ended } in
    let its : (k : Option MarksState) → HasSameMarks i.marks k → IsPagedSegment d (record i { marks = k }) = λ k same. content_its d i i.content k i.is_settled refl refl same c.self.invariant in
    elim c.match-self.branch [
      | in-Some+in-Ok w ↦ rw w.self-inside-is (its (Some w.count_start.new.self) (subst (λ k. HasSameMarks k (Some w.count_start.new.self)) (sym w.in-Some.is) w.count_start.ensures.same))
      | in-Some+in-Err-OutOfMemory w ↦ rw w.self-inside-is (its (Some w.count_start.new.self) (subst (λ k. HasSameMarks k (Some w.count_start.new.self)) (sym w.in-Some.is) w.count_start.ensures.same))
      | in-Some+in-Err-Damaged w ↦ rw w.self-inside-is (its (Some w.count_start.new.self) (subst (λ k. HasSameMarks k (Some w.count_start.new.self)) (sym w.in-Some.is) w.count_start.ensures.same))
      | in-Some+in-Err-System w ↦ rw w.self-inside-is (its (Some w.count_start.new.self) (subst (λ k. HasSameMarks k (Some w.count_start.new.self)) (sym w.in-Some.is) w.count_start.ensures.same))
      | in-None w ↦ rw w.self-inside-is c.self.invariant
    ]

pub returns : goal.returns
returns g c =
    let d = g.D.Digest.digest_of in
    let n = c.args.n in
    let i : PagedSegmentState = record { number = c.self.inside.number; content = c.self.inside.content; is_settled = c.self.inside.is_settled; marks_root = c.self.inside.marks_root; marks = c.self.inside.marks; ended = c.self.inside.ended } in
    let seen : (t : PagedSegmentState) (r : Result Begin pages.Error) → CountStartGoes d n i t r → CountStartGoes d n c.args.self.now t r = λ t r goes. subst (λ (s : PagedSegmentState). CountStartGoes d n s t r) c.self.view_is goes in
    elim c.match-self.branch [
      | in-Some+in-Ok w ↦ rw (w.self-inside-is, w.result-is)
          (seen (record i { marks = Some w.count_start.new.self }) (Ok w.in-Ok.begin) (start_by d n i w.in-Some.marks w.count_start.new.self w.in-Ok.begin w.in-Some.is c.self.invariant w.in-Ok.ensures))
      | in-Some+in-Err-OutOfMemory w ↦ rw (w.self-inside-is, w.result-is)
          (seen (record i { marks = Some w.count_start.new.self }) (Err causes.OutOfMemory)
          (start_fails d n i (Some w.count_start.new.self) (subst (λ k. HasSameMarks k (Some w.count_start.new.self)) (sym w.in-Some.is) w.count_start.ensures.same)))
      | in-Some+in-Err-Damaged w ↦ rw (w.self-inside-is, w.result-is)
          (seen (record i { marks = Some w.count_start.new.self }) (Ok (record { number = 0; offset = 0 }))
          (start_without d n i (Some w.count_start.new.self) (subst (λ k. HasSameMarks k (Some w.count_start.new.self)) (sym w.in-Some.is) w.count_start.ensures.same)))
      | in-Some+in-Err-System w ↦ rw (w.self-inside-is, w.result-is)
          (seen (record i { marks = Some w.count_start.new.self }) (Ok (record { number = 0; offset = 0 }))
          (start_without d n i (Some w.count_start.new.self) (subst (λ k. HasSameMarks k (Some w.count_start.new.self)) (sym w.in-Some.is) w.count_start.ensures.same)))
      | in-None w ↦ rw (w.self-inside-is, w.result-is) (seen i (Ok (record { number = 0; offset = 0 })) (start_without d n i i.marks (marks_same i.marks)))
    ]
