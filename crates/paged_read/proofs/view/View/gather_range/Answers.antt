use Rattle.std.proofs.Common.{◌≡◌, ◌-◌, ◌<◌, arith, rules, refl, ◌∙◌}
use Rattle.std.specs.Int.NonZero.{non_zero_u16_get}
use Rattle.paged_read.specs.Tail.{tail_at}
use Rattle.paged_read.proofs.BatchSteps.{served_start, gathered_empty, served_more, gathered_more}
use Rattle.std.proofs.lemmas.Result.{err_from_is_err_and}
use Rattle.paged_read.proofs.RangedPages.{part_unserved}
use Rattle.paged_read.proofs.view.View.gather_range.Goals as goal

pub loop-at-init : goal.loop-at-init
loop-at-init g c =
    let t = tail_at c.args.self.page_size c.args.self.id c.args.self.tip.now in
    let none : c.args.offset - c.args.offset ≡ 0 = omega arith in
    record {
      after = omega arith;
      within = omega arith;
      served = served_start c.args.cache.now t c.args.offset _ none;
      gathered = λ ranges ends before. gathered_empty c.args.cache.now t ranges c.args.offset _ c.args.buf_offset _ _ _ none before;
      count = refl;
    }

pub loop-at-preserved : goal.loop-at-preserved
loop-at-preserved g c =
    let t = tail_at c.args.self.page_size c.args.self.id c.args.self.tip.now in
    let wide : 0 < non_zero_u16_get c.args.self.page_size = search rules in
    let inv = c.loop-at.invariant in
    record {
      after = omega (arith, inv.after);
      within = omega (arith, c.part_len-part.ensures.ends);
      served = served_more c.args.cache.now t c.args.offset c.loop-at.at c.part_len-part.result c.loop-at.served c.in_ok-served.field-0 wide inv.after inv.served c.in_ok-served.ensures.served;
      gathered = λ ranges ends before. gathered_more c.args.cache.now t ranges c.args.offset c.loop-at.at c.part_len-part.result c.args.buf_offset _ _ _ _ _ _ wide inv.after ends (inv.gathered ranges ends before) c.in_ok-served.ensures.gathered;
      count = c.gather_part.ensures.count ∙ inv.count;
    }

pub returns-in_err-served-clause-refused : goal.returns-in_err-served-clause-refused
returns-in_err-served-clause-refused g c =
    let t = tail_at c.args.self.page_size c.args.self.id c.args.self.tip.now in
    let wide : 0 < non_zero_u16_get c.args.self.page_size = c.args.self.page_size.ok in
    let inv = c.loop-at.invariant in
    let p = err_from_is_err_and c.from_residual.result c.from_residual.ensures.1 in
    rw p.1 (part_unserved c.args.cache.now t c.args.offset c.args.len c.loop-at.at c.part_len-part.result wide inv.after (omega (arith, c.part_len-part.ensures.ends)) c.in_err-served.ensures.refused)
