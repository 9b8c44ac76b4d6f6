use Rattle.std.proofs.Common.{◌∙◌, ◌+◌, ◌-◌, ◌++◌, ap, arith, take, drop}
use lib.Lanes.{chunk}
use Rattle.crc32c.proofs.Folding.{zeros_put}
use Rattle.crc32c.proofs.fold.zeros_behind.Goals as goal

pub returns : goal.returns
returns c =
    let at = c.args.at in
    let old = c.args.quotient.now in
    let rest = drop (at + 610 - (at + 290)) (drop (at + 290) old) in
    ap (λ l. chunk at 610 (take (at + 290) old ++ (l ++ rest))) c.copy_from_slice.ensures.after ∙ zeros_put at old rest (omega arith)
