use Rattle.std.proofs.Common.{rules, ◌≡◌, ◌+◌, ◌*◌, ◌/◌, ◌%◌, ◌∙◌, ap, arith}
use Rattle.std.specs.Int.{w64, to_le_bytes}
use Rattle.std.proofs.lemmas.Nat.{le_bytes_8, div-add-mod'}
use Rattle.segments.proofs.mark.mark_of.Goals as goal

pub returns-clause-bytes : goal.returns-clause-bytes
returns-clause-bytes c =
    let sum = c.from_le_bytes-sum.result in
    let parts = div-add-mod' sum 281474976710656 in
    let whole : sum % 281474976710656 + sum / 281474976710656 * 281474976710656 ≡ sum = omega (arith, parts) in
    ap (to_le_bytes w64) whole ∙ le_bytes_8 c.args.bytes sum (search rules) (search rules) c.from_le_bytes-sum.ensures
