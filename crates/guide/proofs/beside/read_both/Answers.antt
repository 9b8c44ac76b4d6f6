use Rattle.std.proofs.Common.{arith, inl}
use Rattle.guide.proofs.beside.read_both.Goals as goal

pub append-requires : goal.append-requires
append-requires g c =
    let was = c.in_ok-first.ensures.ready in
    record { ready = inl (record { sound = was.sound; can = c.in_ok-second.ensures.others _ _ was.can; fresh = c.in_ok-second.ensures.ready.fresh }) }

pub append-requires-2 : goal.append-requires-2
append-requires-2 g c =
    let given = c.in_ok-first.ensures.ready.can.given in
    let next = c.in_ok-second.ensures.id in
    let is = c.in_ok-second.ensures.ready in
    let owes = c.append.ensures.owes in
    record { ready = inl (record { sound = is.sound; can = owes.others _ _ (λ alike. omega (arith, given, next, alike)) is.can; fresh = owes.fresh }) }

pub read_at-requires : goal.read_at-requires
read_at-requires g c =
    let given = c.in_ok-first.ensures.ready.can.given in
    let next = c.in_ok-second.ensures.id in
    let again = c.in_ok-first-2.ensures in
    let same = again.goes.answers.holds.same.id in
    record { can = c.append-2.ensures.owes.others _ _ (λ alike. omega (arith, given, next, same, alike)) (again.ready.0 (record { sound = c.in_ok-first.ensures.ready.sound; can = c.in_ok-second.ensures.others _ _ c.in_ok-first.ensures.ready.can; fresh = c.in_ok-second.ensures.ready.fresh })).can }

pub read_at-requires-2 : goal.read_at-requires-2
read_at-requires-2 g c =
    let given = c.in_ok-first.ensures.ready.can.given in
    let next = c.in_ok-second.ensures.id in
    let again = c.in_ok-second-2.ensures in
    let first_same = c.in_ok-first-2.ensures.goes.answers.holds.same.id in
    let second_same = again.goes.answers.holds.same.id in
    let is = c.in_ok-second.ensures.ready in
    let owes = c.append.ensures.owes in
    let was = again.ready.0 (record { sound = is.sound; can = owes.others _ _ (λ alike. omega (arith, given, next, alike)) is.can; fresh = owes.fresh }) in
    record { can = c.read_at.ensures.leaves.others _ _ (λ alike. omega (arith, given, next, first_same, second_same, alike)) was.can }
