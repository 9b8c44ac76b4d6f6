use Rattle.std.proofs.Common.{◌≡◌, ◌∙◌, ap, sym, ℕ, ◌+◌, ◌-◌, length, arith}
use Rattle.std.specs.Prelude.{Some}
use Rattle.std.specs.Bool.{then_some}
use Rattle.page.specs.Slot.{other}
use Rattle.page.specs.Footer.{footer_of, active_of, is_checksum_of}
use Rattle.page.proofs.Footers.{active-authoritative, active-fallback}
use Rattle.page.proofs.checksum.Checksum.validate_page.Goals as goal

pub returns-then-covers : goal.returns-then-covers
returns-then-covers g c =
    let P : ℕ = length c.args.page.now - 12 in
    let payload = c.in_ok-payload.ensures.cases in
    let whole : length c.args.page.now ≡ P + 12 = omega arith in
    let footer = c.from_bytes-footer.ensures.value ∙ ap footer_of payload.1 in
    let longer = c.authoritative-longer.ensures in
    let right = sym (ap (λ a. is_checksum_of g.H.Sum.sum_of a c.in_ok-payload.payload.now) longer) ∙ sym c.covers.ensures ∙ c.if-covers.true in
    ap Some longer ∙ sym (active-authoritative g.H.Sum.sum_of P c.args.page.now c.in_ok-payload.payload.now c.from_bytes-footer.result whole payload.0 footer right)

pub returns : goal.returns
returns g c =
    let P : ℕ = length c.args.page.now - 12 in
    let payload = c.in_ok-payload.ensures.cases in
    let whole : length c.args.page.now ≡ P + 12 = omega arith in
    let footer = c.from_bytes-footer.ensures.value ∙ ap footer_of payload.1 in
    let longer = c.authoritative-longer.ensures in
    let shorter = c.active-shorter.ensures ∙ ap (active_of c.from_bytes-footer.result) (c.other.ensures ∙ ap (λ a. other a.slot) longer) in
    let wrong = sym (ap (λ a. is_checksum_of g.H.Sum.sum_of a c.in_ok-payload.payload.now) longer) ∙ sym c.covers.ensures ∙ c.if-covers.false in
    c.then_some.ensures ∙ ap (λ b. then_some b c.active-shorter.result) c.covers-2.ensures
    ∙ ap (λ a. then_some (is_checksum_of g.H.Sum.sum_of a c.in_ok-payload.payload.now) a) shorter
    ∙ sym (active-fallback g.H.Sum.sum_of P c.args.page.now c.in_ok-payload.payload.now c.from_bytes-footer.result whole payload.0 footer wrong)
