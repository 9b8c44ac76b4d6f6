use Rattle.std.proofs.Common.{◌∙◌, ap, ap₂, get_or}
use Rattle.std.specs.Int.Bits.{bit_xor}
use Rattle.crc32c.specs.Crc.{after_bits}
use Rattle.crc32c.proofs.Steps.{four_of_list}
use Rattle.crc32c.proofs.tables.four.Goals as goal

pub returns : goal.returns
returns c =
    let l = c.args.bytes.now in
    let a = c.with_zeros-3.ensures ∙ ap (λ low. after_bits 32 (bit_xor low (get_or l 0 0))) c.low-4.ensures in
    let b = c.with_zeros-2.ensures ∙ ap (λ low. after_bits 24 (bit_xor low (get_or l 1 0))) c.low-3.ensures in
    let d = c.with_zeros.ensures ∙ ap (λ low. after_bits 16 (bit_xor low (get_or l 2 0))) c.low-2.ensures in
    let e = c.with_zeros-rest.ensures ∙ ap (λ low. after_bits 8 (bit_xor low (get_or l 3 0))) c.low.ensures in
    ap₂ bit_xor a (ap₂ bit_xor b (ap₂ bit_xor d e))
    ∙ four_of_list c.args.state l c.told-bytes c.ranges.state.fits c.fits-bytes
