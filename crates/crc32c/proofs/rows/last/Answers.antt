use Rattle.std.proofs.Common.{◌∙◌, ap, ap₂}
use Rattle.std.specs.Int.Bits.{bit_xor}
use Rattle.crc32c.specs.Crc.{after_bytes}
use Rattle.crc32c.proofs.RowStates.{last_leaves}
use Rattle.crc32c.proofs.rows.last.Goals as goal

pub returns : goal.returns
returns c =
    let a = c.args in
    let z = c.moved-d.result in
    last_leaves a.a a.b a.c a.d c.moved-b.result c.moved-c.result z c.first.result c.first-2.result c.first-3.result c.sixteen.result
    c.fits-a.0 c.fits-b.0 c.fits-c.0 c.fits-d.0 c.moved-b.ensures c.moved-c.ensures c.moved-d.ensures c.first.ensures c.first-2.ensures c.first-3.ensures
    c.first.type_inv c.first-2.type_inv c.first-3.type_inv
    (c.sixteen.ensures ∙ ap (λ s. after_bytes s z) (ap₂ bit_xor c.with_zeros.ensures (ap₂ bit_xor c.with_zeros-2.ensures c.with_zeros-3.ensures)))
