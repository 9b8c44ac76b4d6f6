use Rattle.std.proofs.Common.{◌≡◌, ℕ, ◌+◌, arith, refl, sym, ap, ◌∙◌, get_or, cond}
use Rattle.std.proofs.lemmas.Grind.{common_steps}
use Rattle.std.proofs.lemmas.List.Sums.{sum_by_more, sum_by_more_le}
use Rattle.paged_read.specs.Tail.{tail_at}
use Rattle.paged_read.proofs.BatchSteps.{gathered_start}
use Rattle.paged_read.proofs.RangedLists.{served_count, gathered_next, one_at_most}
use Rattle.std.proofs.lemmas.Result.{err_from_is_err_and}
use Rattle.paged_read.proofs.RangedPages.{each_served}
use Rattle.std.proofs.lemmas.Bool.{both_ways}
use Rattle.paged_read.proofs.view.View.gather.Goals as goal

pub loop-offset-init : goal.loop-offset-init
loop-offset-init g c = record {
  buf_offset = refl;
  gathered = gathered_start c.args.cache.now (tail_at c.args.self.page_size c.args.self.id c.args.self.tip.now) _ _ c.args.buf.now c.new-batch.ensures.pages c.new-batch.ensures.lacks;
  served = c.new-batch.ensures.served;
  few = omega (arith, c.new-batch.ensures.served);
}

pub gather_range-requires-clause-room : goal.gather_range-requires-clause-room
gather_range-requires-clause-room g c =
    let most = sum_by_more_le (λ (range : ℕ × ℕ). range.1) c.args.ranges.now c.loop-offset.offset-index (0, 0) c.loop-offset-test.true in
    omega (arith, most, c.loop-offset.invariant.buf_offset, c.requires.filled, c.loop-offset.auto.buf)

pub loop-offset-preserved : goal.loop-offset-preserved
loop-offset-preserved g c =
    let t = tail_at c.args.self.page_size c.args.self.id c.args.self.tip.now in
    let i = c.loop-offset.offset-index in
    let inv = c.loop-offset.invariant in
    let count : c.count.new.self.served ≡ c.loop-offset.batch.served + cond c.in_ok-served.served 1 0 = c.count.ensures.served ∙ ap (λ (n : ℕ). n + cond c.in_ok-served.served 1 0) c.gather_range.ensures.count in
    record {
      buf_offset = ap (λ (n : ℕ). n + (get_or c.args.ranges.now i (0, 0)).1) inv.buf_offset ∙ sym (sum_by_more (λ (range : ℕ × ℕ). range.1) c.args.ranges.now i (0, 0) c.loop-offset-test.true);
      gathered = gathered_next c.args.cache.now t c.args.ranges.now i (0, 0) c.loop-offset.buf_offset _ _ _ _ _ _ c.loop-offset.buf c.gather_range.new.buf c.requires.in_order c.loop-offset-test.true inv.gathered c.in_ok-served.ensures.gathered
          (ap (λ v. v.items) c.count.ensures.pages) (ap (λ v. v.items) c.count.ensures.lacks);
      served = count ∙ served_count c.args.cache.now t c.args.ranges.now i (0, 0) c.loop-offset.batch.served c.in_ok-served.served c.loop-offset-test.true inv.served c.in_ok-served.ensures.served;
      few = omega (arith, count, inv.few, one_at_most c.in_ok-served.served);
    }

pub returns-in_err-served-clause-refused : goal.returns-in_err-served-clause-refused
returns-in_err-served-clause-refused g c =
    let t = tail_at c.args.self.page_size c.args.self.id c.args.self.tip.now in
    let i = c.loop-offset.offset-index in
    let p = err_from_is_err_and c.from_residual.result c.from_residual.ensures.1 in
    rw p.1 (λ none. absurd (both_ways _ c.in_err-served.ensures.refused (each_served c.args.cache.now t c.args.ranges.now i (0, 0) c.loop-offset-test.true none)))

pub returns-clause-gathered : goal.returns-clause-gathered
returns-clause-gathered c = grind (arith, common_steps)

pub returns-clause-served : goal.returns-clause-served
returns-clause-served c = grind (arith, common_steps)
