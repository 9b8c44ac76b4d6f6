use Rattle.std.proofs.Common.{◌≡◌, ℕ, List, length, ap, ◌∙◌, subst}
use Rattle.std.specs.Prelude.{IfOk}
use Rattle.std.specs.List.{concat}
use Rattle.paged.specs.Flush.{footers_of, with_footers}
use Rattle.paged.proofs.Footers.{length-footers}
use Rattle.paged.proofs.build.physical_pages.Goals as goal

pub with_footers-requires-clause-all : goal.with_footers-requires-clause-all
with_footers-requires-clause-all g c =
    let footers : c.from.result ≡ footers_of g.H.Sum.sum_of c.args.durable c.args.pages.items = c.from.ensures ∙ c.in_ok-from_vec.ensures.ok ∙ c.in_ok-footers.ensures.footers ∙ ap (footers_of g.H.Sum.sum_of c.args.durable) c.deref-2.ensures.value in
    ap length footers ∙ length-footers g.H.Sum.sum_of c.args.durable c.args.pages.items

pub returns-clause-bytes : goal.returns-clause-bytes
returns-clause-bytes g c =
    let footers : c.from.result ≡ footers_of g.H.Sum.sum_of c.args.durable c.args.pages.items = c.from.ensures ∙ c.in_ok-from_vec.ensures.ok ∙ c.in_ok-footers.ensures.footers ∙ ap (footers_of g.H.Sum.sum_of c.args.durable) c.deref-2.ensures.value in
    subst (λ (bytes : List ℕ). IfOk c.with_footers-2.result (λ bufs. concat bufs ≡ with_footers c.args.pages.items bytes)) footers c.with_footers-2.ensures.bytes
