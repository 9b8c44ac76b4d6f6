use Rattle.std.proofs.Common.{◌∙◌, ◌-◌, ap, sym, subst, drop, take-take, arith, w8}
use Rattle.std.proofs.lemmas.Simd.{swz_l, SwzOk}
use Rattle.crc32c.specs.declared.rows.TheConstants.{MOVES}
use Rattle.crc32c.proofs.RowMoves.{moves_ok, to_end_is}
use Rattle.crc32c.proofs.rows.to_end.Goals as goal

pub swizzle : goal.swizzle
swizzle c =
    let a = c.args in
    subst (SwzOk w8 16 16 0) (sym (take-take 16 (48 - a.count) (drop a.count MOVES) (omega (arith, c.requires)))) (moves_ok a.count (omega (arith, c.requires)))

pub returns : goal.returns
returns c =
    let a = c.args in
    ap (swz_l w8 16 a.lanes 0) (take-take 16 (48 - a.count) (drop a.count MOVES) (omega (arith, c.requires))) ∙ to_end_is a.lanes a.count c.fits-lanes.0 c.requires
