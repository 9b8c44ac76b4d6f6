use Rattle.std.proofs.Common.{◌≡◌, ◌∙◌, ap, sym, ℕ, ◌+◌, ◌-◌, length, arith}
use Rattle.std.specs.Prelude.{Some}
use Rattle.std.specs.Bool.{then_some}
use Rattle.page.specs.Page.{active}
use Rattle.page.specs.Footer.{footer_of, active_of}
use Rattle.page.proofs.Footers.{bad-beside}
use Rattle.page.proofs.checksum.Checksum.bad_slot.Goals as goal

pub returns : goal.returns
returns g c =
    let sum = g.H.Sum.sum_of in
    let page = c.args.page.now in
    let P : ℕ = length page - 12 in
    let payload = c.in_ok-payload.ensures.cases in
    let whole : length page ≡ P + 12 = omega arith in
    let footer = c.from_bytes.ensures.value ∙ ap footer_of payload.1 in
    let value = c.in_ok-value.value in
    let told : active sum P page ≡ Some value = sym c.validate_page.ensures ∙ c.in_ok-value.was in
    c.then_some.ensures ∙ ap (λ b. then_some b c.active-beside.result.slot) c.is_bad.ensures
    ∙ bad-beside sum P page c.in_ok-payload.payload.now c.from_bytes.result whole payload.0 footer value c.active-beside.result told
    (c.active-beside.ensures ∙ ap (active_of c.from_bytes.result) c.other.ensures)
