use Rattle.std.proofs.Common.{◌≡◌, ◌+◌, ℕ, List, [], ◌++◌, length, take, drop, refl, sym, subst, arith, rules, append-nil, length-drop}
use Rattle.std.proofs.lemmas.List.{take_all, take_rest}
use Rattle.std.proofs.Math.Seq.{take-add}
use Rattle.std.specs.Io.KnownBytes.{Appends}
use Rattle.std.proofs.KnownBytes.{Appends-kept, Appends-trans}
use Rattle.protocol.proofs.Written.{part_taken}
use Rattle.protocol.proofs.output.put_all.Goals.{in-Ok, in-Err}
use Rattle.protocol.proofs.output.put_all.Goals as goal

pub returns-then-count-bytes : goal.returns-then-count-bytes
returns-then-count-bytes g c = subst (λ (l : List ℕ). Appends (g.W.Write.contents c.args.out.now) (g.W.Write.contents c.loop.out) l) (take_all c.loop.count c.args.bytes.now c.if-count-bytes.true) c.loop.invariant.wrote

pub returns-in-Ok-eq0 : goal.returns-in-Ok-eq0
returns-in-Ok-eq0 g c =
    let all = c.args.bytes.now in
    let count = c.loop.count in
    let zero : c.in-Ok-eq0.field-0 ≡ 0 = search rules in
    let none = rw zero at c.in-Ok-eq0.ensures-1.bytes in
    (refl, part_taken count all (g.W.Write.contents c.args.out.now) (g.W.Write.contents c.write.new.self) (rw (append-nil (take count all)) at (Appends-trans _ _ _ _ _ c.loop.invariant.wrote none)))

pub returns-in-Err-2 : goal.returns-in-Err-2
returns-in-Err-2 g c =
    (refl, part_taken c.loop.count c.args.bytes.now (g.W.Write.contents c.args.out.now) (g.W.Write.contents c.write.new.self) (Appends-kept _ _ _ _ c.loop.invariant.wrote c.in-Err-2.ensures.bytes))

pub loop-preserved : goal.loop-preserved
loop-preserved g c =
    let inv = c.loop.invariant in
    let all = c.args.bytes.now in
    let count = c.loop.count in
    let old = g.W.Write.contents c.args.out.now in
    let new = g.W.Write.contents c.write.new.self in
    elim c.match-write.branch [
      | in-Ok w ↦
          let more = rw (take_rest all count) at w.in-Ok.ensures.bytes in
          let bound = rw (take_rest all count) at w.in-Ok.ensures.bound in
          record {
            within = omega (arith, w.count-is, inv.within, bound, length-drop count all);
            wrote = subst (λ (n : ℕ). Appends old new (take n all)) (sym w.count-is)
                (subst (λ (l : List ℕ). Appends old new l) (sym (take-add count w.in-Ok.more all)) (Appends-trans _ _ _ _ _ inv.wrote more));
          }
      | in-Err w ↦
          record {
            within = omega (arith, w.count-is, inv.within);
            wrote = subst (λ (n : ℕ). Appends old new (take n all)) (sym w.count-is) (Appends-kept _ _ _ _ inv.wrote w.in-Err.ensures.bytes);
          }
    ]

pub returns : goal.returns
returns g c = (refl, part_taken c.loop.count c.args.bytes.now (g.W.Write.contents c.args.out.now) (g.W.Write.contents c.loop.out) c.loop.invariant.wrote)
