use Rattle.std.proofs.Common.{◌∙◌, ◌≡◌, List, ap, ℕ}
use Rattle.page_digests.specs.Growing.{DigestingState, with_rest}
use Rattle.page_digests.proofs.Growth.{finished}
use Rattle.page_digests.proofs.digesting.Digesting.finish.Goals as goal

pub returns : goal.returns
returns g c =
    let d : List ℕ → List ℕ = g.D.Digest.digest_of in
    let begun : c.self.inside.list.items ≡ c.args.self.list = ap (λ (s : DigestingState). s.list) c.self.view_is in
    finished d c.args.rest.now c.args.self c.put_rest.new.list.items (c.in_ok-put_rest.ensures ∙ ap (λ (l : List ℕ). with_rest d l c.args.rest.now) begun)
