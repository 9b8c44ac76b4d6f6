use Rattle.std.proofs.Common.{◌≡◌, Some, slice_get, length, refl, arith}
use Rattle.std.proofs.lemmas.Option.{slice_get_read}
use Rattle.disk.proofs.action.Event.settled_after.Goals as goal

pub returns-in-Some : goal.returns-in-Some
returns-in-Some c =
    let starts = c.args.starts.now in
    let name = c.in-WaitSync.name in
    let start = c.in-Some.start.now in
    let found = c.in-Some.ensures.lookup in
    let here : slice_get starts name ≡ Some start = slice_get_read starts (length starts) name start refl (omega (arith, found)) found.1 in
    rw (c.max.ensures, c.in-WaitSync.is, c.if-self.false, here, c.if-not-start.true) refl
