use Rattle.std.proofs.Common.{◌<◌, length, take, arith, length-append, append-nil, refl, sym}
use Rattle.std.proofs.lemmas.Bool.Decides.{nat_tests}
use Rattle.std.proofs.lemmas.List.{length-take-le}
use Rattle.std.proofs.lemmas.List.Folds.{concat-append}
use Rattle.disk.proofs.Bufs.{with_some}
use Rattle.disk.proofs.buf.IoBufs.append_front.Goals as goal

pub invariant_of-self-2 : goal.invariant_of-self-2
invariant_of-self-2 c =
    rw (c.push_reserved.ensures.items, concat-append, c.truncate.ensures) (grind (arith, length-append, append-nil, c.self.invariant, c.in-Some.ensures, c.in-Some.is, c.try_reserve.ensures.items, c.from_vec.ensures.ok, c.in_ok-bytes.is, length-take-le c.args.len c.args.bytes.items c.requires))

pub returns-clause-bufs : goal.returns-clause-bufs
returns-clause-bufs c =
    let some : 0 < length (take c.args.len c.args.bytes.items) = grind (arith, nat_tests, c.if-len-eq0.false, length-take-le c.args.len c.args.bytes.items c.requires) in
    rw (c.push_reserved.ensures.items, c.truncate.ensures, c.in_ok-bytes.ensures.ok, c.try_reserve.ensures.items, c.self.view_is) (sym (with_some c.args.self.now (take c.args.len c.args.bytes.items) some))

pub returns-clause-bytes : goal.returns-clause-bytes
returns-clause-bytes c =
    rw (c.push_reserved.ensures.items, concat-append, c.truncate.ensures, c.in_ok-bytes.ensures.ok, c.try_reserve.ensures.items, c.self.view_is) (rw append-nil refl)
