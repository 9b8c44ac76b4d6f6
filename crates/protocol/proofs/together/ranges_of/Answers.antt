use Rattle.std.proofs.Common.{refl, ◌%◌, ◌≡◌, ◌∙◌, ◌++◌, ◌∷◌, [], ℕ, List, arith, ap, sym, length, append_assoc}
use Rattle.std.specs.Prelude.{◌==◌}
use Rattle.std.specs.Int.{w64, from_le_bytes}
use Rattle.std.specs.List.{sum_by}
use Rattle.std.proofs.lemmas.List.{length-append}
use Rattle.protocol.specs.Together.{ranges_in}
use Rattle.protocol.proofs.Spans.{first_range, not_fitting, size_more, size_of_all}
use Rattle.protocol.proofs.together.ranges_of.Goals as goal

pub returns-then-len-left-clause-tells : goal.returns-then-len-left-clause-tells
returns-then-len-left-clause-tells c =
    let l = c.loop-offset in
    let one = c.in-Some.ensures.cases in
    let two = c.in-Some-split_first_chunk.ensures.cases in
    let offset = from_le_bytes w64 c.in-Some.offset.now in
    let is = first_range l.rest.now c.in-Some.offset.now c.in-Some.after.now c.in-Some-split_first_chunk.len.now c.in-Some-split_first_chunk.after.now offset c.from_le_bytes-len.result
    one.0 one.1 one.2 two.0 two.1 two.2 refl c.from_le_bytes-len.ensures in
    let all = size_of_all l.ranges.items (offset, c.from_le_bytes-len.result) l.rest.now c.in-Some-split_first_chunk.after.now c.args.fields.now is l.invariant.told in
    not_fitting (length c.args.fields.now % 16 == 0) (sum_by (λ r. r.1) (ranges_in c.args.fields.now)) (omega (arith, all, l.invariant.size, c.if-len-left.true))

pub loop-offset-preserved : goal.loop-offset-preserved
loop-offset-preserved c =
    let l = c.loop-offset in
    let one = c.in-Some.ensures.cases in
    let two = c.in-Some-split_first_chunk.ensures.cases in
    let range : ℕ × ℕ = (c.from_le_bytes.result, c.from_le_bytes-len.result) in
    let after = c.in-Some-split_first_chunk.after.now in
    let is = first_range l.rest.now c.in-Some.offset.now c.in-Some.after.now c.in-Some-split_first_chunk.len.now after c.from_le_bytes.result c.from_le_bytes-len.result
    one.0 one.1 one.2 two.0 two.1 two.2 c.from_le_bytes.ensures c.from_le_bytes-len.ensures in
    let more : c.push_reserved.new.self.items ≡ l.ranges.items ++ range ∷ [] = c.push_reserved.ensures.items in
    record {
      told = ap (λ (rs : List (ℕ × ℕ)). rs ++ ranges_in after) more ∙ append_assoc l.ranges.items (range ∷ []) (ranges_in after)
          ∙ ap (λ (rs : List (ℕ × ℕ)). l.ranges.items ++ rs) (sym is) ∙ l.invariant.told;
      size = omega (arith, l.invariant.size, c.if-len-left.false, ap (sum_by (λ r. r.1)) more, size_more l.ranges.items range);
      count = omega (arith, l.invariant.count, ap length more, length-append l.ranges.items (range ∷ []), one.2, two.2);
      room = omega (arith, l.invariant.room, c.push_reserved.ensures.capacity);
    }
