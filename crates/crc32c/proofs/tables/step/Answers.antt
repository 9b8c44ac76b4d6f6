use Rattle.std.proofs.Common.{◌≡◌, ◌/◌, ap, ◌∙◌, arith}
use Rattle.std.specs.Int.Bits.{bit_xor}
use Rattle.crc32c.specs.Crc.{after_bits}
use Rattle.crc32c.proofs.Steps.{joined_out}
use Rattle.crc32c.proofs.tables.step.Goals as goal

pub returns : goal.returns
returns c =
    let state = c.args.state in
    let byte = c.args.byte in
    let out : c.with_zeros.result ≡ after_bits 8 (bit_xor c.low.result byte) = c.with_zeros.ensures in
    ap (λ n. bit_xor n (state / 256)) (out ∙ ap (λ low. after_bits 8 (bit_xor low byte)) c.low.ensures) ∙ joined_out state byte (omega arith)
