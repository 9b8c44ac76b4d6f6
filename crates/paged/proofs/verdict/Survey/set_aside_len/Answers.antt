use Rattle.std.proofs.Common.{◌≡◌, ◌%◌, ℕ, subst, arith}
use Rattle.std.proofs.lemmas.Grind.{common_steps}
use Rattle.std.specs.Int.NonZero.{non_zero_u16_get}
use Rattle.paged.proofs.Surveying.{zeros_cut}
use Rattle.paged.proofs.verdict.Survey.set_aside_len.Goals as goal

pub returns-then-cut-size-eq0-clause-zeros : goal.returns-then-cut-size-eq0-clause-zeros
returns-then-cut-size-eq0-clause-zeros c = λ sum bytes is none.
    zeros_cut sum (non_zero_u16_get c.args.page_size) bytes c.args.self.now is c.if-self-2.true (subst (λ (n : ℕ). c.args.self.now.outlook.cut % n ≡ 0) c.physical_page_size-size.ensures c.if-cut-size-eq0.true)

pub returns-else-self-2-clause-zeros : goal.returns-else-self-2-clause-zeros
returns-else-self-2-clause-zeros c = grind (arith, common_steps)
