use Rattle.std.proofs.Common.{◌∙◌, ap₂, arith}
use Rattle.std.specs.Int.Bits.{bit_xor}
use Rattle.crc32c.proofs.Steps.{sixteen_are}
use Rattle.crc32c.proofs.tables.sixteen.Goals as goal

pub returns : goal.returns
returns c =
    let cut = c.split_at.ensures in
    ap₂ bit_xor c.eight.ensures c.eight-2.ensures
    ∙ sixteen_are c.args.state c.args.bytes.now c.split_at.result.0.now c.split_at.result.1.now (omega (arith, cut.back_len)) cut.front cut.back
