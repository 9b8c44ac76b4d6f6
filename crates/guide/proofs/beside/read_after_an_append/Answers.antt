use Rattle.std.proofs.Common.{ap, arith}
use Rattle.paged_read.specs.Tail.{Tail}
use Rattle.guide.proofs.beside.read_after_an_append.Goals as goal

pub read_at-requires : goal.read_at-requires
read_at-requires g c =
    let made = c.in_ok-writer.ensures.goes in
    let low = ap (λ (t : Tail). t.full_pages) made.tail in
    record { can = (c.append.ensures.owes.tails _ _ (omega (arith, low)) (made.stands c.requires.ready.sound)).can }

pub returns : goal.returns
returns g c =
    let made = c.in_ok-writer.ensures.goes in
    let low = ap (λ (t : Tail). t.full_pages) made.tail in
    let is = (c.append.ensures.owes.tails _ _ (omega (arith, low)) (made.stands c.requires.ready.sound)).tail.is in
    record { reads = cc (c.in_ok-read.ensures.goes.answers.1, is) }
