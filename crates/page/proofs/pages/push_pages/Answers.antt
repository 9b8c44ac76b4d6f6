use Rattle.std.proofs.Common.{◌≡◌, ◌<◌, ◌/◌, ◌++◌, ◌∷◌, [], ap, ◌∙◌, subst, sym, arith}
use Rattle.std.proofs.lemmas.Grind.{common_steps}
use Rattle.page.specs.Tip.{ArePages}
use Rattle.page.proofs.Chunks.{pages_pushed, are_pages_pushed}
use Rattle.page.proofs.pages.push_pages.Goals as goal

pub loop-page-preserved : goal.loop-page-preserved
loop-page-preserved c =
    let pushed : c.push.new.self.items ≡ c.loop-page.pages.items ++ _ ∷ [] = c.in_ok-push.ensures.items ∙ ap (λ page. c.loop-page.pages.items ++ page ∷ []) c.in_ok-slice.ensures.ok in
    record {
      bytes = rw pushed (pages_pushed c.args.page_size c.loop-page.page c.args.pages.now.items c.loop-page.pages.items c.args.chunk.now c.loop-page.invariant.bytes);
      pages = subst (ArePages c.args.page_size) (sym pushed) (are_pages_pushed c.args.page_size c.loop-page.page c.loop-page.pages.items c.args.chunk.now c.loop-page.invariant.pages (subst (λ n. c.loop-page.page < n / c.args.page_size) c.len.ensures c.loop-page-test.true));
    }

pub returns-clause-bytes : goal.returns-clause-bytes
returns-clause-bytes c = grind (arith, common_steps)
