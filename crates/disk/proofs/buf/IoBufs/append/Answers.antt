use Rattle.std.proofs.Common.{arith, length-append, append-nil, refl}
use Rattle.std.proofs.lemmas.List.Folds.{concat-append}
use Rattle.disk.proofs.buf.IoBufs.append.Goals as goal

pub invariant_of-self-2 : goal.invariant_of-self-2
invariant_of-self-2 c = rw (c.in_ok-push.ensures.items, concat-append) (grind (arith, length-append, append-nil, c.self.invariant))

pub returns-clause-bytes : goal.returns-clause-bytes
returns-clause-bytes c = rw (c.in_ok-push.ensures.items, ← c.self.view_is, concat-append) (rw append-nil refl)
