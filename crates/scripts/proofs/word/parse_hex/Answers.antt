use Rattle.std.proofs.Common.{rules, sym}
use Rattle.scripts.proofs.HexRead.{hex_of-no_upper, converted-reads, decoded-hex_of, decoded-bytes}
use Rattle.scripts.proofs.word.parse_hex.Goals as goal
use Rattle.scripts.proofs.word.parse_hex.Goals.{then-is_empty-via-then-is_empty, then-is_empty-via-else-is_empty+then-has_upper}

pub returns-then-is_empty : goal.returns-then-is_empty
returns-then-is_empty c = record {
  reads = λ v all same.
      let readable = hex_of-no_upper _ v.items all same in
      elim c.then-is_empty.branch [
        | then-is_empty-via-then-is_empty w ↦ search rules
        | then-is_empty-via-else-is_empty+then-has_upper w ↦ search rules
      ];
}

pub returns : goal.returns
returns c = record {
  reads = (
    decoded-hex_of _ c.in_ok-decode.field-0.items c.in_ok-decode.ensures.ok (sym c.if-has_upper.ensures) (search rules),
    decoded-bytes _ c.in_ok-decode.field-0.items c.in_ok-decode.ensures.ok,
  );
}

pub returns-in_err-decode : goal.returns-in_err-decode
returns-in_err-decode c = record { reads = converted-reads _ c.from_residual.result _ c.from_residual.ensures.1 c.in_err-decode.ensures.err (search rules) }
