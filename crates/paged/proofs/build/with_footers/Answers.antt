use Rattle.std.proofs.Common.{◌≡◌, ◌∷◌, ◌++◌, length, drop, sym, ap, ◌∙◌, arith}
use Rattle.std.proofs.lemmas.Grind.{common_steps}
use Rattle.std.specs.List.{concat}
use Rattle.std.specs.Vec.Iter.{into_iter_items}
use Rattle.paged.specs.Flush.{with_footers}
use Rattle.paged.proofs.Footers.{with_next}
use Rattle.paged.proofs.build.with_footers.Goals as goal

pub loop-page-preserved : goal.loop-page-preserved
loop-page-preserved c =
    let page = c.in-Some.page in
    let others = into_iter_items c.next.new.self in
    let taken : into_iter_items c.loop-page.page-iterator ≡ page ∷ others = c.in-Some.ensures.steps.0 in
    record {
      left = omega (arith, c.loop-page.invariant.left, ap length taken);
      bytes = with_next page c.in_ok-slice.field-0 (concat c.loop-page.bufs) (concat c.append.new.self) (concat c.append-in-loop-page.new.self) others c.loop-page.at c.args.footers.now (with_footers c.args.pages.items c.args.footers.now)
          c.in_ok-slice.ensures.ok c.in_ok-append.ensures.bytes c.in_ok-append-2.ensures.bytes
          (ap (λ pages. concat c.loop-page.bufs ++ with_footers pages (drop c.loop-page.at c.args.footers.now)) (sym taken) ∙ c.loop-page.invariant.bytes);
    }

pub returns-clause-bytes : goal.returns-clause-bytes
returns-clause-bytes c = grind (arith, common_steps)
