use Rattle.std.proofs.Common.{◌≡◌, ◌∙◌, refl, sym, ap, subst, ℕ, ◌<◌, List, length, take, get_or, arith, rules, length-set}
use Rattle.std.proofs.lemmas.Grind.{common_steps}
use Rattle.std.proofs.lemmas.List.{get_or_default}
use Rattle.page.specs.Page.{value_len}
use Rattle.std.proofs.lemmas.List.{take_all}
use Rattle.paged_read.specs.Puts.{PutsPages, delivered_pages}
use Rattle.paged_read.specs.Tail.{logical_bytes, tail_at}
use Rattle.cache.proofs.CacheLaws.{put_weakly}
use Rattle.paged_read.proofs.BatchKeeps.{marked_more, full_more, puts_more, puts_refused, refused_not_put}
use Rattle.paged_read.proofs.PutLaws.{puts_none}
use Rattle.std.proofs.lemmas.Result.{err_from_is_err_and}
use Rattle.paged_read.proofs.view.View.keep_all.Goals as goal

pub loop-index-init : goal.loop-index-init
loop-index-init g c = record {
  puts = λ life can delivered. refl;
  size = c.requires.size;
  full = λ k d less. absurd (omega (arith, less));
  marked = λ k d less. absurd (omega (arith, less));
  long = search rules;
}

pub loop-index-preserved : goal.loop-index-preserved
loop-index-preserved g c =
    let t = tail_at c.args.self.page_size c.args.self.id c.args.self.tip.now in
    let inv = c.loop-index.invariant in
    let kept = c.in_ok-keep_page.ensures in
    let entry : ℕ × List ℕ = c.index-out-index.result in
    let k = c.loop-index.index in
    let here : (d : ℕ × List ℕ) → get_or c.args.out.now k d ≡ entry = λ d. sym (c.index-out-index.is ∙ get_or_default c.args.out.now k entry d c.loop-index-test.true) in
    let number : (d : ℕ × List ℕ) → (get_or c.args.out.now k d).0 ≡ entry.0 = λ d. ap (λ (r : ℕ × List ℕ). r.0) (here d) in
    let bytes : (d : ℕ × List ℕ) → (get_or c.args.out.now k d).1 ≡ entry.1 = λ d. ap (λ (r : ℕ × List ℕ). r.1) (here d) in
    let fits : entry.0 < length c.args.pages.now = omega (arith, (c.requires.delivered k entry c.loop-index-test.true).0, number entry) in
    record {
      puts = λ life can delivered. puts_more t c.args.cache.now c.loop-index.cache c.keep_page.new.cache life.present.readable c.args.pages.now c.args.out.now k entry.1 (get_or c.args.pages.now entry.0 0) can.there inv.size c.requires.below delivered c.loop-index-test.true bytes
          (λ d. ap (λ (n : ℕ). get_or c.args.pages.now n 0) (sym (number d))) kept.1 (inv.puts life can delivered);
      size = (put_weakly (c.args.self.id, get_or c.args.pages.now entry.0 0) (take t.page_size entry.1) c.loop-index.cache c.keep_page.new.cache kept.1).settings.page_size ∙ inv.size;
      full = full_more g.H.Sum.sum_of t.page_size c.args.out.now k (λ d. ap (λ (l : List ℕ). value_len g.H.Sum.sum_of t.page_size l) (bytes d) ∙ kept.0) inv.full;
      marked = marked_more c.loop-index.at.items c.args.out.now k entry.0 c.loop-index-test.true (omega (arith, fits, inv.long)) number inv.marked;
      long = length-set c.loop-index.at.items entry.0 k ∙ inv.long;
    }

pub returns-in_err-resize-clause-puts : goal.returns-in_err-resize-clause-puts
returns-in_err-resize-clause-puts g c = λ life can delivered.
    let t = tail_at c.args.self.page_size c.args.self.id c.args.self.tip.now in
    let p = err_from_is_err_and c.from_residual.result c.from_residual.ensures.1 in
    rw p.1 (puts_none g.H.Sum.sum_of t (delivered_pages c.args.pages.now c.args.out.now) life.present.readable c.args.cache.now)

pub returns-in_err-keep_page-clause-puts : goal.returns-in_err-keep_page-clause-puts
returns-in_err-keep_page-clause-puts g c = λ life can delivered.
    let t = tail_at c.args.self.page_size c.args.self.id c.args.self.tip.now in
    let inv = c.loop-index.invariant in
    let entry : ℕ × List ℕ = c.index-out-index.result in
    let p = err_from_is_err_and c.from_residual-in_err-keep_page.result c.from_residual-in_err-keep_page.ensures.1 in
    rw p.1 (puts_refused g.H.Sum.sum_of t c.args.cache.now c.loop-index.cache c.keep_page.new.cache c.args.pages.now life.present.readable c.args.out.now c.loop-index.index delivered inv.full (inv.puts life can delivered)
    (refused_not_put g.H.Sum.sum_of t.page_size (c.args.self.id, get_or c.args.pages.now entry.0 0) entry.1 c.loop-index.cache c.keep_page.new.cache c.in_err-keep_page.field-0.0 c.in_err-keep_page.ensures))

pub returns-clause-puts : goal.returns-clause-puts
returns-clause-puts g c = λ life can delivered.
    let t = tail_at c.args.self.page_size c.args.self.id c.args.self.tip.now in
    subst (λ (l : List (ℕ × List ℕ)). PutsPages t.id (logical_bytes t life.present.readable) (delivered_pages c.args.pages.now l) c.args.cache.now c.loop-index.cache)
    (take_all c.loop-index.index c.args.out.now c.loop-index-test.false) (c.loop-index.invariant.puts life can delivered)

pub returns-in_err-keep_page-clause-err : goal.returns-in_err-keep_page-clause-err
returns-in_err-keep_page-clause-err c = grind (arith, common_steps)
