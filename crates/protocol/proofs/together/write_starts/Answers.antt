use Rattle.std.proofs.Common.{◌≡◌, ◌∙◌, ◌+◌, ℕ, arith, ap, refl, subst, sym, rules}
use Rattle.std.specs.Int.{w32, from_le_bytes}
use Rattle.std.specs.List.{sum}
use Rattle.std.proofs.lemmas.List.Sums.{sum_by-cons}
use Rattle.std.specs.Prelude.{Err}
use Rattle.protocol.specs.Output.{PutsBytes}
use Rattle.protocol.specs.Request.{number_bytes}
use Rattle.protocol.specs.Together.{lengths_in}
use Rattle.protocol.proofs.Lengths.{first_length, writing_cut, writing_more, Writing}
use Rattle.protocol.proofs.together.write_starts.Goals as goal

pub loop-length-preserved : goal.loop-length-preserved
unfolding number_bytes
loop-length-preserved g c =
    let l = c.loop-length in
    let cut = c.in-Some in
    let is = first_length l.rest.now cut.length.now cut.after.now c.from_le_bytes.result cut.ensures.cases.0 cut.ensures.cases.1 cut.ensures.cases.2 c.from_le_bytes.ensures in
    let first : sum (lengths_in l.rest.now) ≡ c.from_le_bytes.result + sum (lengths_in cut.after.now) = ap sum is ∙ sum_by-cons (λ n. n) c.from_le_bytes.result (lengths_in cut.after.now) in
    record {
      writing = subst (λ (n : ℕ). Writing c.args.first c.args.lengths.now (l.at + n) cut.after.now (g.W.Write.contents c.args.out.now) (g.W.Write.contents c.put.new.out)) (sym c.from-at.ensures)
          (writing_more c.args.first c.args.lengths.now l.at c.from_le_bytes.result l.rest.now cut.after.now (g.W.Write.contents c.args.out.now) (g.W.Write.contents l.out) (g.W.Write.contents c.put.new.out) is l.invariant.writing (search rules));
      small = omega (arith, l.invariant.small, first, c.from-at.ensures);
    }

pub returns-in_err-put : goal.returns-in_err-put
unfolding number_bytes
returns-in_err-put g c =
    let l = c.loop-length in
    let cut = c.in-Some in
    let mid = g.W.Write.contents l.out in
    let new = g.W.Write.contents c.put.new.out in
    let stop = c.in_err-put.field-0.0 in
    let piece : PutsBytes (number_bytes l.at) mid new (Err stop) = search rules in
    writing_cut c.args.first c.args.lengths.now l.at (from_le_bytes w32 cut.length.now) l.rest.now cut.after.now (g.W.Write.contents c.args.out.now) mid new stop c.from_residual.result c.from_residual.ensures.1
    (first_length l.rest.now cut.length.now cut.after.now (from_le_bytes w32 cut.length.now) cut.ensures.cases.0 cut.ensures.cases.1 cut.ensures.cases.2 refl) l.invariant.writing piece
