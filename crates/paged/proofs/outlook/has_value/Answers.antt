use Rattle.std.proofs.Common.{◌≡◌, ◌+◌, ◌-◌, ℕ, List, length, take, drop, ap, ◌∙◌, arith}
use Rattle.std.specs.Prelude.{Option, is_some}
use Rattle.std.proofs.lemmas.List.{length-take-le, length-drop}
use Rattle.page.specs.Page.{active}
use Rattle.page.specs.declared.slot.ActiveChecksum.{ActiveChecksum}
use Rattle.paged.proofs.outlook.has_value.Goals as goal

pub returns : goal.returns
returns g c =
    let at = c.args.at in
    let size = c.args.size in
    let bytes = c.args.bytes.now in
    let page : take (at + size - at) (drop at bytes) ≡ take size (drop at bytes) = ap (λ n. take n (drop at bytes)) (let e : at + size - at ≡ size = omega arith in e) in
    let len : length (take (at + size - at) (drop at bytes)) ≡ size = ap length page ∙ length-take-le size (drop at bytes) (omega (arith, length-drop at bytes)) in
    c.is_some.ensures ∙ ap (λ (s : Option ActiveChecksum). is_some s) (c.validate_page.ensures ∙ ap (λ n. active g.H.Sum.sum_of (n - 12) (take (at + size - at) (drop at bytes))) len ∙ ap (λ (l : List ℕ). active g.H.Sum.sum_of (size - 12) l) page)
