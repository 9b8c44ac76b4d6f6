use Rattle.std.proofs.Common.{◌≡◌, ◌∙◌, ◌+◌, arith, ap}
use Rattle.std.specs.List.{sum}
use Rattle.std.proofs.lemmas.List.Sums.{sum_by-cons}
use Rattle.protocol.specs.Together.{lengths_in}
use Rattle.protocol.proofs.Lengths.{first_length}
use Rattle.protocol.proofs.together.total.Goals as goal

pub loop-length-preserved : goal.loop-length-preserved
loop-length-preserved c =
    let l = c.loop-length in
    let cut = c.in-Some in
    let is = first_length l.rest.now cut.length.now cut.after.now c.from_le_bytes.result cut.ensures.cases.0 cut.ensures.cases.1 cut.ensures.cases.2 c.from_le_bytes.ensures in
    let first : sum (lengths_in l.rest.now) ≡ c.from_le_bytes.result + sum (lengths_in cut.after.now) = ap sum is ∙ sum_by-cons (λ n. n) c.from_le_bytes.result (lengths_in cut.after.now) in
    record {
      sums = omega (arith, l.invariant.sums, first, c.from-total.ensures);
      small = omega (arith, l.invariant.small, cut.ensures.cases.2, c.from-total.ensures, c.from_le_bytes.type_inv);
    }
