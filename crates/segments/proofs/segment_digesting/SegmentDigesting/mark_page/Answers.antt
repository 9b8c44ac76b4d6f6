use Rattle.std.proofs.Common.{◌≤◌, ◌+◌, subst}
use Rattle.std.specs.Prelude.{IfOk}
use Rattle.segments.specs.SegmentLevels.{SegmentDigestingState}
use Rattle.segments.proofs.SegmentDigests.{marked_more}
use Rattle.segments.proofs.segment_digesting.SegmentDigesting.mark_page.Goals as goal

pub returns-clause-more : goal.returns-clause-more
returns-clause-more g c =
    subst (λ (s : SegmentDigestingState). IfOk c.take_page.result (λ u. s.digested.pages ≤ s.marked.pages → s.digested.pages + 1 ≤ c.take_page.new.self.pages)) c.self.view_is
    (marked_more c.args.page.now c.self.inside.digesting.pages c.self.inside.marking c.take_page.new.self c.take_page.result c.take_page.ensures)
