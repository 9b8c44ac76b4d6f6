use Rattle.std.proofs.Common.{◌≡◌, ◌+◌, ◌-◌, ℕ, List, length, take, drop, ap, ◌∙◌, arith}
use Rattle.std.proofs.lemmas.List.{length-take-le, length-drop}
use Rattle.page.specs.Page.{active}
use Rattle.crash.proofs.Texts.{bytes_of_take, bytes_of_drop}
use Rattle.paged_read.proofs.search.slot_at.Goals as goal

pub returns-clause-slot : goal.returns-clause-slot
returns-clause-slot g c =
    let at = c.args.at in
    let size = c.args.size in
    let bytes = c.args.bytes.now in
    let page : take (at + size - at) (drop at bytes) ≡ take size (drop at bytes) = ap (λ n. take n (drop at bytes)) (let e : at + size - at ≡ size = omega arith in e) in
    let len : length (take (at + size - at) (drop at bytes)) ≡ size = ap length page ∙ length-take-le size (drop at bytes) (omega (arith, length-drop at bytes)) in
    c.validate_page.ensures ∙ ap (λ n. active g.H.Sum.sum_of (n - 12) (take (at + size - at) (drop at bytes))) len ∙ ap (λ (l : List ℕ). active g.H.Sum.sum_of (size - 12) l) page

pub returns-clause-bytes : goal.returns-clause-bytes
returns-clause-bytes g c =
    bytes_of_take c.args.size (drop c.args.at c.args.bytes.now) (bytes_of_drop c.args.at c.args.bytes.now (λ i. (c.type_inv.bytes i).fits))
