use Rattle.std.proofs.Common.{◌∙◌, ap, ap₂, get_or, ◌+◌, ◌*◌, w8}
use Rattle.std.specs.Int.Bits.{bit_xor}
use Rattle.std.proofs.Math.Facts.{Fits-lt-pow}
use Rattle.crc32c.specs.Crc.{after_bits}
use Rattle.crc32c.proofs.Steps.{eight_later}
use Rattle.crc32c.proofs.tables.eight.Goals as goal

pub returns : goal.returns
returns c =
    let l = c.args.bytes.now in
    let z = c.args.zeros in
    let a = c.with_zeros-8.ensures ∙ ap (λ low. after_bits (8 * (z + 7 + 1)) (bit_xor low (get_or l 0 0))) c.low-4.ensures in
    let b = c.with_zeros-7.ensures ∙ ap (λ low. after_bits (8 * (z + 6 + 1)) (bit_xor low (get_or l 1 0))) c.low-3.ensures in
    let d = c.with_zeros-6.ensures ∙ ap (λ low. after_bits (8 * (z + 5 + 1)) (bit_xor low (get_or l 2 0))) c.low-2.ensures in
    let e = c.with_zeros-5.ensures ∙ ap (λ low. after_bits (8 * (z + 4 + 1)) (bit_xor low (get_or l 3 0))) c.low.ensures in
    let rest = ap₂ bit_xor c.with_zeros-3.ensures (ap₂ bit_xor c.with_zeros-4.ensures (ap₂ bit_xor c.with_zeros.ensures c.with_zeros-2.ensures)) in
    ap₂ bit_xor a (ap₂ bit_xor b (ap₂ bit_xor d (ap₂ bit_xor e rest)))
    ∙ eight_later z c.args.state l c.requires.eight c.ranges.state.fits (λ i. Fits-lt-pow {w = w8} (c.type_inv.bytes i))
