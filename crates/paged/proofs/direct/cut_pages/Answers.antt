use Rattle.std.proofs.Common.{◌≡◌, ◌++◌, ◌∙◌, ap, subst}
use Rattle.std.specs.Prelude.{IfOk}
use Rattle.std.specs.List.{concat}
use Rattle.paged.proofs.Bypass.{cut_built}
use Rattle.paged.proofs.direct.cut_pages.Goals as goal

pub returns-clause-bytes : goal.returns-clause-bytes
returns-clause-bytes g c =
    subst (λ b. IfOk c.physical_pages.result (λ bufs. concat bufs ≡ b)) (cut_built g.H.Sum.sum_of c.args.page_size c.args.durable c.in_ok-pages.pages.items c.args.whole c.requires.some c.in_ok-pages.ensures.pages (c.in_ok-pages.ensures.bytes ∙ c.in_ok-append.ensures.bytes ∙ ap (λ bufs. concat bufs ++ c.args.whole) c.new-chunks.ensures)) c.physical_pages.ensures.bytes
