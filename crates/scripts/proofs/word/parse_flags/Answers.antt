use Rattle.std.proofs.Common.{rules, inl, inr}
use Rattle.scripts.proofs.Flags.{flags_text-digit}
use Rattle.scripts.proofs.word.parse_flags.Goals as goal

pub returns-in_default : goal.returns-in_default
returns-in_default c = record {
  reads = λ v all same.
      let bad = c.in_default.ensures in
      elim (flags_text-digit _ v.items c.loop-digit.digit-index same (search rules) c.loop-digit-test.true) [
        | inl zero ↦ bad.0 zero
        | inr one ↦ bad.1 one
      ];
}
