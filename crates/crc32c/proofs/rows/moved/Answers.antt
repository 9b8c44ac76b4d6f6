use Rattle.std.proofs.Common.{ap, ◌++◌, arith, length-append, replicate}
use Rattle.std.specs.Int.Bits.{bit_xor}
use Rattle.std.proofs.lemmas.Simd.{pick_l-range_with_len}
use lib.Lanes.{zip2}
use Rattle.crc32c.proofs.rows.moved.Goals as goal

pub returns : goal.returns
returns c =
    let all = c.args.lanes ++ replicate 16 0 in
    ap (λ l. zip2 bit_xor l c.args.others) (pick_l-range_with_len 0 all 1 16 (omega (arith, length-append c.args.lanes (replicate 16 0), c.fits-lanes.0)))
