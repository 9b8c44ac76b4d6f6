use Rattle.std.proofs.Common.{rules, arith}
use Rattle.std.specs.Int.NonZero.{non_zero_u64_get}
use Rattle.scripts.proofs.Numbers.{same_number}
use Rattle.scripts.proofs.word.parse_call_number.Goals as goal

pub returns-in-None : goal.returns-in-None
returns-in-None c = record {
  reads = λ v is same.
      let e = same_number _ c.in_ok-parse_number.field-0 (non_zero_u64_get v) (search rules) (omega arith) c.in_ok-parse_number.ensures.reads.0 same in omega arith;
}
