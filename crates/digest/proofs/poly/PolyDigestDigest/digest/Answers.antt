use Rattle.std.proofs.Common.{◌≡◌, refl, rules}
use Rattle.digest.specs.Poly.{point_a, point_b, poly_digest, poly_value_of}
use Rattle.digest.specs.Powers.{power, powers}
use Rattle.digest.proofs.poly.PolyDigestDigest.digest.Goals as goal

-- the tables are those of the points' powers
pub returns : goal.returns
unfolding poly_digest powers power
returns c =
    let a : c.value_at-a.result ≡ poly_value_of point_a c.args.bytes.now = c.value_at-a.ensures point_a refl in
    let b : c.value_at-b.result ≡ poly_value_of point_b c.args.bytes.now = c.value_at-b.ensures point_b refl in
    search rules
