use Rattle.std.proofs.Common.{◌≡◌, ◌+◌, ◌∙◌, Bool, true, ap, sym, arith}
use Rattle.std.specs.Prelude.{if◌then◌else◌}
use Rattle.std.specs.Int.NonZero.{non_zero_u16_get}
use Rattle.paged.specs.Outlook.{has_torn_page}
use Rattle.paged.proofs.Surveying.{stake_there}
use Rattle.paged.proofs.verdict.Survey.at_stake.Goals as goal

pub returns-then-self : goal.returns-then-self
returns-then-self c = record {
  stake = λ sum bytes is small.
      let P = non_zero_u16_get c.args.page_size in
      let outlook = c.args.self.now.outlook in
      let torn : has_torn_page sum P bytes outlook ≡ true = sym is.torn ∙ c.if-self.true in
      let both : c.saturating_add.result ≡ outlook.cut + (P + 12) = omega (arith, c.saturating_add.ensures, c.physical_page_size.ensures, stake_there sum P bytes outlook is.outlook torn, small) in
      both ∙ ap (λ (b : Bool). outlook.cut + (if b then P + 12 else 0)) (sym torn);
}
