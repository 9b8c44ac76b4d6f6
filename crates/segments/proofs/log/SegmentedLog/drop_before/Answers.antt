use Rattle.std.specs.Prelude.{◌≡◌, Err, List, ℕ}
use Rattle.std.specs.Int.NonZero.{non_zero_u16_get}
use Rattle.std.proofs.Common.{arith, rules, subst, sym}
use Rattle.segments.specs.declared.error.Error.TheVariants as errors
use Rattle.segments.specs.Log.{IsLog, LogState}
use Rattle.segments.specs.PagedReads.{PagedSegmentState}
use Rattle.segments.specs.Recent.{HavePages}
use Rattle.segments.proofs.DropSurvival.{drop_still}
use Rattle.segments.proofs.DropSurvival.{drop_tries}
use Rattle.segments.proofs.OfDigest.{drop_of}
use Rattle.segments.proofs.Recents.{pages_from}
use Rattle.segments.proofs.Removing.{drop_removes}
use Rattle.segments.proofs.log.SegmentedLog.drop_before.Goals as goal
use Rattle.segments.proofs.log.SegmentedLog.drop_before.Goals.{then-first-segment+in_ok-start_or_close, else-first-segment}

pub returns-clause-drops : goal.returns-clause-drops
returns-clause-drops g c = grind (arith, drop_still, drop_tries)

pub returns-in_err-start_or_close-clause-drops : goal.returns-in_err-start_or_close-clause-drops
returns-in_err-start_or_close-clause-drops g c = grind (arith, drop_still, drop_tries)

pub returns-then-open-segment-clause-drops : goal.returns-then-open-segment-clause-drops
returns-then-open-segment-clause-drops g c = grind (arith, drop_still, drop_tries)

pub returns-then-is_closed-clause-goes : goal.returns-then-is_closed-clause-goes
returns-then-is_closed-clause-goes g c = search rules

pub returns-then-is_closed-clause-ready : goal.returns-then-is_closed-clause-ready
returns-then-is_closed-clause-ready g c = search rules

pub returns-then-is_closed-clause-removes : goal.returns-then-is_closed-clause-removes
returns-then-is_closed-clause-removes g c =
    drop_removes g.H.Sum.sum_of g.R.Sum.sum_of c.args.segment c.args.self.now _ (Err errors.Closed) (returns-then-is_closed-clause-goes g c) (returns-then-is_closed-clause-ready g c)

pub returns-then-open-segment-clause-goes : goal.returns-then-open-segment-clause-goes
returns-then-open-segment-clause-goes g c = search rules

pub returns-then-open-segment-clause-ready : goal.returns-then-open-segment-clause-ready
returns-then-open-segment-clause-ready g c = search rules

pub returns-then-open-segment-clause-removes : goal.returns-then-open-segment-clause-removes
returns-then-open-segment-clause-removes g c =
    drop_removes g.H.Sum.sum_of g.R.Sum.sum_of c.args.segment c.args.self.now _ (Err (errors.NoSegment c.args.segment)) (returns-then-open-segment-clause-goes g c) (returns-then-open-segment-clause-ready g c)

pub returns-in_err-start_or_close-clause-goes : goal.returns-in_err-start_or_close-clause-goes
returns-in_err-start_or_close-clause-goes g c = search rules

pub returns-in_err-start_or_close-clause-ready : goal.returns-in_err-start_or_close-clause-ready
returns-in_err-start_or_close-clause-ready g c = search rules

pub returns-in_err-start_or_close-clause-removes : goal.returns-in_err-start_or_close-clause-removes
returns-in_err-start_or_close-clause-removes g c =
    drop_removes g.H.Sum.sum_of g.R.Sum.sum_of c.args.segment c.args.self.now _ c.from_residual.result (returns-in_err-start_or_close-clause-goes g c) (returns-in_err-start_or_close-clause-ready g c)

pub returns-clause-goes : goal.returns-clause-goes
returns-clause-goes g c = search rules

pub returns-clause-ready : goal.returns-clause-ready
returns-clause-ready g c =
    let sum = g.H.Sum.sum_of in
    let own = g.R.Sum.sum_of in
    let P : ℕ = non_zero_u16_get c.self-2.inside.options.page_size in
    let mid : IsLog sum own c.if-first-segment.self = elim c.if-first-segment.branch [
      | then-first-segment+in_ok-start_or_close w ↦ subst (λ (s : LogState). IsLog sum own s) (sym w.self-is) w.start_or_close.ensures.ready
      | else-first-segment w ↦
          let same : c.if-first-segment.self ≡ c.args.self.now = cc in
          subst (λ (s : LogState). IsLog sum own s) (sym same) c.requires.log
    ] in
    let log = subst (λ (s : LogState). IsLog sum own s) (sym c.self-2.view_is) mid in
    record {
      manifest = log.manifest;
      current = log.current;
      manifest_pages = log.manifest_pages;
      current_pages = log.current_pages;
      lists = log.lists;
      reading = record {
        whole = log.reading.whole;
        paged = subst (λ (l : List PagedSegmentState). HavePages P l) (sym c.let_go_before.ensures) (pages_from P c.first-first.result c.self-2.inside.recent log.reading.paged);
      };
    }

pub returns-clause-removes : goal.returns-clause-removes
returns-clause-removes g c =
    drop_removes g.H.Sum.sum_of g.R.Sum.sum_of c.args.segment c.args.self.now _ _ (returns-clause-goes g c) (returns-clause-ready g c)

pub returns-then-is_closed-clause-digest : goal.returns-then-is_closed-clause-digest
returns-then-is_closed-clause-digest g c = λ are. drop_of _ c.args.segment c.args.self.now _ (Err errors.Closed) (returns-then-is_closed-clause-goes g c) are

pub returns-then-open-segment-clause-digest : goal.returns-then-open-segment-clause-digest
returns-then-open-segment-clause-digest g c = λ are. drop_of _ c.args.segment c.args.self.now _ (Err (errors.NoSegment c.args.segment)) (returns-then-open-segment-clause-goes g c) are

pub returns-in_err-start_or_close-clause-digest : goal.returns-in_err-start_or_close-clause-digest
returns-in_err-start_or_close-clause-digest g c = λ are. drop_of _ c.args.segment c.args.self.now _ c.from_residual.result (returns-in_err-start_or_close-clause-goes g c) are

pub returns-clause-digest : goal.returns-clause-digest
returns-clause-digest g c = λ are. drop_of _ c.args.segment c.args.self.now _ _ (returns-clause-goes g c) are
