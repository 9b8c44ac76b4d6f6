use Rattle.std.specs.Prelude.{◌≡◌, true, None, Ok}
use Rattle.std.proofs.Common.{◌∙◌, ap, subst, sym}
use Rattle.segments.specs.PagedReads.{IsDamage, IsToldAs, PagedSegmentState, SegmentNthGoes}
use Rattle.segments.proofs.SegmentReads.{not_settled}
use Rattle.segments.proofs.SegmentSearches.{nth_empty, nth_fails, nth_found, nth_since, some_root}
use Rattle.segments.proofs.paged_segment.PagedSegment.nth.Goals as goal
use Rattle.segments.proofs.paged_segment.PagedSegment.nth.Goals.{then-is_damage+else-not-self, else-is_damage}

pub returns-then-len-eq0 : goal.returns-then-len-eq0
returns-then-len-eq0 g c =
    let i : PagedSegmentState = record { number = c.self.inside.number; content = c.self.inside.content; is_settled = c.self.inside.is_settled; marks_root = c.self.inside.marks_root; marks = c.self.inside.marks; ended = c.self.inside.ended } in
    subst (λ (s : PagedSegmentState). SegmentNthGoes g.D.Digest.digest_of c.args.n s s (Ok None)) c.self.view_is
    (nth_empty g.D.Digest.digest_of c.args.n i (some_root i.marks_root c.is_none.result c.is_none.ensures c.if-is_none.false) (sym c.len.ensures.len ∙ c.if-len-eq0.true))

pub returns-in-Ok : goal.returns-in-Ok
returns-in-Ok g c =
    let some = some_root c.self.inside.marks_root c.is_none.result c.is_none.ensures c.if-is_none.false in
    nth_found g.D.Digest.digest_of c.args.n c.args.self.now c.find.new.self c.in-Ok.found (λ none. some (ap (λ (p : PagedSegmentState). p.marks_root) c.self.view_is ∙ none)) c.in-Ok.ensures

pub returns-in-Err : goal.returns-in-Err
returns-in-Err g c = nth_since g.D.Digest.digest_of c.args.n c.args.self.now c.find.new.self c.find_again.new.self c.in-Err.error c.find_again.result c.in-Err.ensures c.find_again.ensures

pub returns-in-Err-2 : goal.returns-in-Err-2
returns-in-Err-2 g c =
    let e = c.in-Err.error in
    let t : PagedSegmentState = c.find.new.self in
    let settled : IsDamage e → t.is_settled ≡ true = elim c.if-is_damage.branch [
      | then-is_damage+else-not-self w ↦ λ damage. sym (ap (λ (p : PagedSegmentState). p.is_settled) w.self-then-is_damage.view_is) ∙ w.if-not-self.false
      | else-is_damage w ↦ λ damage. absurd (not_settled c.is_damage.result w.if-is_damage.false (c.is_damage.ensures.1 damage))
    ] in
    nth_fails g.D.Digest.digest_of c.args.n c.args.self.now t e c.told.result c.in-Err.ensures
    (subst (λ k. IsToldAs k e c.told.result) (ap (λ (p : PagedSegmentState). p.number) c.self-in-Err-2.view_is) c.told.ensures) settled
