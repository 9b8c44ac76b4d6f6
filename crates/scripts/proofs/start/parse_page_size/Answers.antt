use Rattle.std.proofs.Common.{rules, arith}
use Rattle.std.specs.Int.NonZero.{non_zero_u16_get}
use Rattle.scripts.proofs.Numbers.{same_number}
use Rattle.scripts.proofs.start.parse_page_size.Goals as goal

pub returns-in_default : goal.returns-in_default
returns-in_default c = record {
  reads = λ v is same.
      let e = same_number _ c.in_ok-parse_number.field-0 (non_zero_u16_get v) (search rules) (omega arith) c.in_ok-parse_number.ensures.reads.0 same in c.in_default.ensures (omega arith);
}

pub returns-in-None : goal.returns-in-None
returns-in-None c = record {
  reads = λ v is same.
      let e = same_number _ c.in_ok-parse_number.field-0 (non_zero_u16_get v) (search rules) (omega arith) c.in_ok-parse_number.ensures.reads.0 same in omega arith;
}
