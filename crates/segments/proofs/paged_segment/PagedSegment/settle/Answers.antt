use Rattle.std.proofs.Common.{◌∙◌, ap, true}
use Rattle.page_digests.specs.Contents.{PagedState}
use Rattle.segments.specs.PagedReads.{PagedSegmentState}
use Rattle.segments.proofs.SegmentMarks.{only_content_its}
use Rattle.segments.proofs.SegmentReads.{part_settled, was_not_settled}
use Rattle.segments.proofs.paged_segment.PagedSegment.settle.Goals as goal

pub invariant_of-self : goal.invariant_of-self
invariant_of-self g c =
    let i : PagedSegmentState = record { number = c.self.inside.number; content = c.self.inside.content; is_settled = c.self.inside.is_settled; marks_root = c.self.inside.marks_root; marks = c.self.inside.marks; ended = c.self.inside.ended } in
    let used = c.use_list.ensures in
    let read = c.rebuild.ensures.rest in
    only_content_its g.D.Digest.digest_of i c.use_list.new.self true (ap (λ (p : PagedState). p.seal) used ∙ ap (λ (p : PagedState). p.seal) read) (ap (λ (p : PagedState). p.page_size) used ∙ ap (λ (p : PagedState). p.page_size) read)
    c.self.invariant

pub invariant_of-self-in-Err : goal.invariant_of-self-in-Err
invariant_of-self-in-Err g c =
    let i : PagedSegmentState = record { number = c.self.inside.number; content = c.self.inside.content; is_settled = c.self.inside.is_settled; marks_root = c.self.inside.marks_root; marks = c.self.inside.marks; ended = c.self.inside.ended } in
    let read = c.rebuild.ensures.rest in
    only_content_its g.D.Digest.digest_of i c.rebuild.new.self c.is_damage-self-inside.result (ap (λ (p : PagedState). p.seal) read) (ap (λ (p : PagedState). p.page_size) read) c.self.invariant

pub returns-in-Ok : goal.returns-in-Ok
returns-in-Ok g c =
    let i : PagedSegmentState = record { number = c.self.inside.number; content = c.self.inside.content; is_settled = c.self.inside.is_settled; marks_root = c.self.inside.marks_root; marks = c.self.inside.marks; ended = c.self.inside.ended } in
    part_settled g.D.Digest.digest_of i c.args.self.now c.rebuild.new.self c.use_list.new.self c.in_memory.result c.in-Ok.levels c.self.view_is c.rebuild.ensures.rest c.use_list.ensures c.in-Ok.ensures.goes

pub returns-in-Err : goal.returns-in-Err
returns-in-Err g c =
    let i : PagedSegmentState = record { number = c.self.inside.number; content = c.self.inside.content; is_settled = c.self.inside.is_settled; marks_root = c.self.inside.marks_root; marks = c.self.inside.marks; ended = c.self.inside.ended } in
    was_not_settled g.D.Digest.digest_of i c.args.self.now c.rebuild.new.self c.is_damage-self-inside.result c.in-Err.error c.self.view_is c.rebuild.ensures.rest c.in-Err.ensures.goes c.is_damage-self-inside.ensures
