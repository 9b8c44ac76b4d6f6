use Rattle.std.proofs.Common.{◌≡◌, ◌<◌, ◌∙◌, List, ℕ, length, ap, subst, sym, arith}
use Rattle.std.specs.Int.NonZero.{non_zero_u16_get}
use Rattle.std.proofs.lemmas.Slice.Eq.{bytes_eq-Decides}
use Rattle.page_digests.specs.Pages.{list_len, list_of, root_of}
use Rattle.page_digests.specs.Seals.{EachIsByte}
use Rattle.page_digests.proofs.Rebuilt.{list_verified}
use Rattle.page_digests.proofs.Twins.{length-list_of}
use Rattle.page_digests.proofs.rebuilding.rebuild_levels.Goals as goal

pub returns-then-eq-clause-verified : goal.returns-then-eq-clause-verified
returns-then-eq-clause-verified g c =
    let d : List ℕ → List ℕ = g.D.Digest.digest_of in
    let P = non_zero_u16_get c.args.page_size in
    let bytes = c.in_ok-list.ensures.0 in
    let over = c.in_ok-levels.ensures.over in
    let positive : 0 < P = omega (arith, c.get.ensures.nonzero, c.get.ensures.value) in
    let list : c.in_ok-list.list.items ≡ list_of d P bytes = c.in_ok-list.ensures.2 ∙ ap (λ k. list_of d k bytes) (c.from.ensures ∙ c.get.ensures.value) in
    let same : c.in_ok-levels.levels.root ≡ c.args.seal.now.root = (bytes_eq-Decides c.in_ok-levels.levels.root c.args.seal.now.root).0 (sym c.eq.ensures ∙ c.if-eq.true) in
    let root : root_of d P bytes ≡ c.args.seal.now.root = ap d (ap (list_of d P) (sym list) ∙ sym over.top) ∙ sym over.root ∙ same in
    list_verified d g.met.D.Digest.sized P c.args.seal.now bytes c.in_ok-levels.levels.list.items c.in_ok-list.ensures.1.are_bytes over.bytes.0
    (subst EachIsByte (over.top ∙ ap (list_of d P) (sym over.list)) over.bytes.1) positive c.in_ok-list.ensures.1.len root (over.list ∙ list)

pub returns-then-eq-clause-root : goal.returns-then-eq-clause-root
returns-then-eq-clause-root g c =
    sym c.in_ok-levels.ensures.over.root ∙ (bytes_eq-Decides c.in_ok-levels.levels.root c.args.seal.now.root).0 (sym c.eq.ensures ∙ c.if-eq.true)

pub returns-then-eq-clause-top : goal.returns-then-eq-clause-top
returns-then-eq-clause-top g c =
    let d : List ℕ → List ℕ = g.D.Digest.digest_of in
    let P = non_zero_u16_get c.args.page_size in
    let bytes = c.in_ok-list.ensures.0 in
    let list : c.in_ok-list.list.items ≡ list_of d P bytes = c.in_ok-list.ensures.2 ∙ ap (λ k. list_of d k bytes) (c.from.ensures ∙ c.get.ensures.value) in
    let sized = g.met.D.Digest.sized in
    let long : length c.in_ok-list.list.items ≡ list_len P c.args.seal.now.len =
    ap length list ∙ length-list_of d sized P bytes ∙ ap (list_len P) c.in_ok-list.ensures.1.len in
    ap length c.in_ok-levels.ensures.over.top ∙ length-list_of d sized P c.in_ok-list.list.items ∙ ap (list_len P) long
