use Rattle.std.proofs.Common.{◌∙◌, take, w8}
use Rattle.std.proofs.lemmas.Simd.{below_from_Fits}
use Rattle.crc32c.proofs.RowTables.{high_ok, low_ok, both, of_first}
use Rattle.crc32c.proofs.rows.looked_up.Goals as goal

pub swizzle : goal.swizzle
swizzle c = low_ok c.args.row c.fits-row.0

pub swizzle-2 : goal.swizzle-2
swizzle-2 c = high_ok c.args.row c.fits-row.0 c.fits-row.1

pub returns : goal.returns
returns c =
    let row = c.args.row in
    let low = c.args.low.now in
    let high = c.args.high.now in
    let bytes = below_from_Fits w8 row c.fits-row.1 in
    both (take 16 low) (take 16 high) row (c.fits-row.0, bytes) ∙ of_first low high row bytes
