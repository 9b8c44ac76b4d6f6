use Rattle.std.proofs.Common.{rules, arith}
use Rattle.std.specs.Int.NonZero.{non_zero_usize_get}
use Rattle.scripts.proofs.Numbers.{same_number}
use Rattle.scripts.proofs.start.parse_up_to.Goals as goal

pub returns-then-most-number : goal.returns-then-most-number
returns-then-most-number c = record {
  reads = λ v is same.
      let e = same_number _ c.in_ok-number.number (non_zero_usize_get v) (search rules) (omega arith) c.in_ok-number.ensures.reads.0 same in omega arith;
}

pub returns-in-None : goal.returns-in-None
returns-in-None c = record {
  reads = λ v is same.
      let e = same_number _ c.in_ok-number.number (non_zero_usize_get v) (search rules) (omega arith) c.in_ok-number.ensures.reads.0 same in omega arith;
}
