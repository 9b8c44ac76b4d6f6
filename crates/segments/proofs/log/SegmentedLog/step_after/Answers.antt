use Rattle.std.proofs.Common.{ap, sym, ◌∙◌, arith}
use Rattle.segments.specs.Log.{LogState}
use Rattle.segments.specs.Manifest.{open_in}
use Rattle.segments.specs.Scan.{place_at}
use Rattle.segments.proofs.Stepping.{step_passed, step_stops}
use Rattle.segments.proofs.log.SegmentedLog.step_after.Goals as goal

pub returns-then-segment-open : goal.returns-then-segment-open
returns-then-segment-open g c =
    step_stops g.H.Sum.sum_of g.R.Sum.sum_of g.D.Digest.digest_of c.args.self.now (place_at c.args.segment c.args.offset)
    (c.if-segment-open.true ∙ c.open.ensures ∙ ap (λ (s : LogState). open_in s.listing) c.self.view_is) c.requires.none

pub overflow_add-result : goal.overflow_add-result
overflow_add-result g c =
    let passed = step_passed g.H.Sum.sum_of g.R.Sum.sum_of g.D.Digest.digest_of c.args.self.now (place_at c.args.segment c.args.offset) (omega (arith, c.ranges.offset))
    (λ same. c.if-segment-open.false (same ∙ sym (c.open.ensures ∙ ap (λ (s : LogState). open_in s.listing) c.self.view_is))) c.requires.none in
    let last = c.open.ensures ∙ ap (λ (s : LogState). open_in s.listing) c.self.view_is in
    omega (arith, passed.2, last, c.open.type_inv)

pub returns : goal.returns
returns g c =
    let passed = step_passed g.H.Sum.sum_of g.R.Sum.sum_of g.D.Digest.digest_of c.args.self.now (place_at c.args.segment c.args.offset) (omega (arith, c.ranges.offset))
    (λ same. c.if-segment-open.false (same ∙ sym (c.open.ensures ∙ ap (λ (s : LogState). open_in s.listing) c.self.view_is))) c.requires.none in
    (passed.0, passed.1)
