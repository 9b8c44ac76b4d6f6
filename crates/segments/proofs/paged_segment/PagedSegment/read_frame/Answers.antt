use Rattle.std.specs.Prelude.{◌≡◌, true}
use Rattle.std.proofs.Common.{rules}
use Rattle.segments.specs.PagedReads.{IsDamage}
use Rattle.segments.proofs.SegmentReads.{not_settled, part_read, part_since}
use Rattle.segments.specs.PagedReads.{PagedSegmentState}
use Rattle.segments.proofs.SegmentMarks.{only_content_its}
use Rattle.segments.proofs.paged_segment.PagedSegment.read_frame.Goals as goal
use Rattle.segments.proofs.paged_segment.PagedSegment.read_frame.Goals.{then-is_damage+else-not-self, else-is_damage}

pub returns-in-Err : goal.returns-in-Err
returns-in-Err g c = search (rules, part_since)

pub returns-in-Err-2 : goal.returns-in-Err-2
returns-in-Err-2 g c =
    let i = c.self.inside in
    let settled : IsDamage c.in-Err.error → i.is_settled ≡ true = elim c.if-is_damage.branch [
      | then-is_damage+else-not-self w ↦ λ damage. w.if-not-self.false
      | else-is_damage w ↦ λ damage. absurd (not_settled c.is_damage.result w.if-is_damage.false (c.is_damage.ensures.1 damage))
    ] in
    part_read g.D.Digest.digest_of g.R.Sum.sum_of c.args.offset (record { number = i.number; content = i.content; is_settled = i.is_settled; marks_root = i.marks_root; marks = i.marks; ended = i.ended }) c.args.self.now c.frame_at.new.content c.in-Err.error c.told.result
    c.self.view_is c.in-Err.ensures c.told.ensures settled

pub invariant_of-self : goal.invariant_of-self
invariant_of-self g c =
    let i : PagedSegmentState = record { number = c.self.inside.number; content = c.self.inside.content; is_settled = c.self.inside.is_settled; marks_root = c.self.inside.marks_root; marks = c.self.inside.marks; ended = c.self.inside.ended } in
    only_content_its g.D.Digest.digest_of i c.frame_at.new.content i.is_settled c.frame_at.ensures.same.seal c.frame_at.ensures.same.page_size c.self.invariant

pub invariant_of-self-in-Err : goal.invariant_of-self-in-Err
invariant_of-self-in-Err g c =
    let i : PagedSegmentState = record { number = c.self.inside.number; content = c.self.inside.content; is_settled = c.self.inside.is_settled; marks_root = c.self.inside.marks_root; marks = c.self.inside.marks; ended = c.self.inside.ended } in
    only_content_its g.D.Digest.digest_of i c.frame_at.new.content i.is_settled c.frame_at.ensures.same.seal c.frame_at.ensures.same.page_size c.self.invariant

pub invariant_of-self-in-Err-2 : goal.invariant_of-self-in-Err-2
invariant_of-self-in-Err-2 g c =
    let i : PagedSegmentState = record { number = c.self.inside.number; content = c.self.inside.content; is_settled = c.self.inside.is_settled; marks_root = c.self.inside.marks_root; marks = c.self.inside.marks; ended = c.self.inside.ended } in
    only_content_its g.D.Digest.digest_of i c.frame_at.new.content i.is_settled c.frame_at.ensures.same.seal c.frame_at.ensures.same.page_size c.self.invariant
