use Rattle.std.proofs.Common.{◌∙◌, ap, refl, drop, arith}
use Rattle.std.proofs.lemmas.Grind.{common_steps}
use Rattle.std.specs.Int.NonZero.{non_zero_u16_get}
use Rattle.paged_read.specs.Hand.{payloads_at}
use Rattle.paged_read.proofs.Hands.{hand_passed}
use Rattle.paged_read.proofs.hand.Hand.advance.Goals as goal

pub invariant_of-self : goal.invariant_of-self
invariant_of-self c =
    let was = c.self.inside in
    let next = c.passed-at.result in
    let P = non_zero_u16_get was.page_size in
    let size = c.from-page_size.ensures ∙ c.get.ensures.value in
    let first = c.self.invariant.0 in
    let told = c.passed-at.ensures.bytes in (
      refl,
      hand_passed P was.runs.items c.drop_front.new.runs.items was.at.start was.at.left
          was.remaining next.run next.start next.left c.min-count.result c.self.invariant.1
          c.drop_front.ensures c.passed-at.ensures.cursor c.passed-at.ensures.fits
          (rw (← size) (told ∙ ap (λ run. drop c.min-count.result (payloads_at c.from-page_size.result was.runs.items run was.at.start was.at.left)) first)),
    )

pub returns-clause-bytes : goal.returns-clause-bytes
returns-clause-bytes c = grind (arith, common_steps)
