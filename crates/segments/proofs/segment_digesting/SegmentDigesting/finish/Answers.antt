use Rattle.std.proofs.Common.{subst}
use Rattle.std.specs.Int.NonZero.{non_zero_u16_get}
use Rattle.segments.specs.SegmentLevels.{FinishesSegment, SegmentDigestingState}
use Rattle.segments.proofs.SegmentDigests.{levels_finished}
use Rattle.segments.proofs.segment_digesting.SegmentDigesting.finish.Goals as goal

pub returns : goal.returns
returns g c =
    let d = g.D.Digest.digest_of in
    let rest = c.args.rest.now in
    let s : SegmentDigestingState = record { digested = c.self.inside.digesting; marked = c.self.inside.marking } in
    subst (λ (v : SegmentDigestingState). FinishesSegment d rest v (record { content = c.in_ok-content.content; marks = c.in_ok-marks-2.marks })) c.self.view_is
    (levels_finished d (non_zero_u16_get c.self.inside.page_size) rest s c.in_ok-list.list.items c.in_ok-marks.marks.items c.in_ok-content.content c.in_ok-marks-2.marks c.self.invariant
    c.in_ok-list.ensures c.in_ok-marks.ensures c.in_ok-content.ensures.over c.in_ok-marks-2.ensures.over c.in_ok-content.ensures.each)
