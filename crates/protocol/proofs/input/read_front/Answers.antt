use Rattle.std.proofs.Common.{◌≡◌, ℕ, ◌+◌, ◌-◌, ◌≤◌, List, ◌++◌, rules, arith, length, take, drop, sym, ap, ◌∙◌, subst}
use Rattle.std.proofs.lemmas.Grind.{common_steps}
use Rattle.std.proofs.lemmas.List.{take_at, drop_at, take-append-le, length-take-le}
use Rattle.std.proofs.lemmas.Slice.{take-put_mid_below}
use Rattle.std.proofs.Math.Seq.{take-add}
use Rattle.std.specs.Io.KnownBytes.{Consumes}
use Rattle.std.proofs.KnownBytes.{Consumes-trans, Consumes-kept}
use borrow.Rule.Slice.PartMut.{put_mid, post_of}
use Rattle.protocol.proofs.input.read_front.Goals.{in-Ok, in-Err}
use Rattle.protocol.proofs.input.read_front.Goals as goal

-- the first bytes of a part that was written over are after those in front of it
take_filled : (from k more : ℕ) (room part : List ℕ) → from ≤ length room → more ≤ length part → take (from + more) (put_mid from k room part) ≡ take from room ++ take more part
take_filled from k more room part within fits =
    let all = put_mid from k room part in
    let front = take from room in
    let after = post_of from k room in
    let long = length-take-le from room within in
    take-add from more all
    ∙ ap (λ (first : List ℕ). first ++ take more (drop from all)) (take_at front (part ++ after) from long)
    ∙ ap (λ (rest : List ℕ). front ++ take more rest) (drop_at front (part ++ after) from long)
    ∙ ap (λ (rest : List ℕ). front ++ rest) (take-append-le more part after fits)

pub loop-preserved : goal.loop-preserved
loop-preserved g c =
    let from = c.loop.count in
    let left = length c.loop.room - from in
    let room = put_mid from left c.loop.room c.read.new.buf in
    let before = g.R.Read.remaining c.args.input.now in
    let between = g.R.Read.remaining c.loop.input in
    let after = g.R.Read.remaining c.read.new.self in
    let is = c.loop.invariant in
    let same : length room ≡ length c.args.room.now = search rules in
    elim c.match-read.branch [
      | in-Ok w ↦
          let more = w.in-Ok.more in
          let came = w.in-Ok.ensures in
          record {
            size = same;
            within = omega (arith, w.count-is, came.bound, is.within, is.size, same);
            takes = subst (λ (bytes : List ℕ). Consumes before after bytes)
                (sym (ap (λ (n : ℕ). take n room) w.count-is ∙ take_filled from left more c.loop.room c.read.new.buf is.within came.bound.0))
                (Consumes-trans before between after _ _ is.takes came.bytes.0);
          }
      | in-Err w ↦
          record {
            size = same;
            within = omega (arith, w.count-is, is.within, is.size, same);
            takes = subst (λ (bytes : List ℕ). Consumes before after bytes)
                (sym (ap (λ (n : ℕ). take n room) w.count-is ∙ take-put_mid_below from left c.loop.room c.read.new.buf from (omega arith) is.within))
                (Consumes-kept before between after _ is.takes w.in-Err.ensures.bytes);
          }
    ]

pub returns-in-Ok-eq0-clause-came : goal.returns-in-Ok-eq0-clause-came
returns-in-Ok-eq0-clause-came g c = grind (arith, common_steps)
