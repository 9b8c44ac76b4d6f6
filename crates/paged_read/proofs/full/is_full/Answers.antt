use Rattle.std.proofs.Common.{◌∙◌, ◌<◌, sym, arith}
use Rattle.std.proofs.lemmas.Bool.Decides.{nat_tests}
use Rattle.std.specs.Int.NonZero.{non_zero_u16_get}
use Rattle.paged_read.proofs.FullPages.{not_full, value_says}
use Rattle.paged_read.proofs.full.is_full.Goals as goal

pub returns-in-None : goal.returns-in-None
returns-in-None g c =
    let some : 0 < non_zero_u16_get c.args.page_size = omega (arith, c.get-full.ensures.value, c.get-full.ensures.nonzero) in
    (λ no. cc, λ full. absurd (not_full g.H.Sum.sum_of (non_zero_u16_get c.args.page_size) c.args.page.now some c.requires (sym c.in-None.is ∙ c.validate_page.ensures) full))

pub returns-in-Some : goal.returns-in-Some
returns-in-Some g c =
    let says = value_says g.H.Sum.sum_of (non_zero_u16_get c.args.page_size) c.args.page.now c.in-Some.slot c.requires (sym c.in-Some.is ∙ c.validate_page.ensures) in
    (λ yes. grind (arith, nat_tests, yes, says, c.get-full.ensures.value), λ full. grind (arith, nat_tests, full, says, c.get-full.ensures.value))
