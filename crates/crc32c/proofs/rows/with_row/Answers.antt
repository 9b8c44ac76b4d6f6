use Rattle.std.proofs.Common.{ap, ◌∙◌, w8}
use Rattle.std.specs.Int.Bits.{bit_xor}
use Rattle.std.proofs.lemmas.Simd.{below_from_Fits}
use lib.Lanes.{zip2}
use Rattle.crc32c.proofs.RowTables.{of_row}
use Rattle.crc32c.proofs.rows.with_row.Goals as goal

pub returns : goal.returns
returns c =
    let a = c.args in
    ap (zip2 bit_xor a.sums) (c.looked_up.ensures ∙ of_row a.rows a.index a.row _ (below_from_Fits w8 a.row c.fits-row.1) c.requires.tables c.requires.index)
