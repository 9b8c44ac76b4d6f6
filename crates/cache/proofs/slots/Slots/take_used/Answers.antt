use Rattle.std.proofs.Common.{◌<◌, length, refl, arith}
use Rattle.cache.proofs.Putting.{taken_over}
use Rattle.cache.proofs.slots.Slots.take_used.Goals as goal
use Rattle.cache.proofs.slots.Slots.take_used.Goals.{then-slot-len, else-slot-len}

pub returns-clause-taken : goal.returns-clause-taken
returns-clause-taken c =
    let old = c.args.self.now in
    let mid = c.unlink.new.self in
    let low : c.if-slot-len.self < length mid.keys.items = elim c.if-slot-len.branch [
      | then-slot-len w ↦ omega (arith, w.if-slot-len.true, w.self-is, c.len.ensures, mid.keys.ok.0)
      | else-slot-len w ↦ omega (arith, w.self-is, c.unlink.ensures.are.some)
    ] in
    taken_over old mid (record mid { hand = c.if-slot-len.self }) c.overwrite.new.self old.hand
    c.if-slot-len.self c.args.bytes.now c.unlink.ensures.are c.unlink.ensures.same low refl
    (omega (arith, c.requires.are.hand, c.requires.full)) c.requires.size c.overwrite.ensures
