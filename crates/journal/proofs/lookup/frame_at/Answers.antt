use Rattle.std.proofs.Common.{◌+◌, ◌-◌, ap, arith}
use Rattle.std.proofs.lemmas.Grind.{common_steps}
use Rattle.paged_read.specs.Failures.{none_failed_start}
use Rattle.paged_read.specs.Tail.{logical_bytes, tail_at}
use Rattle.journal.proofs.Costs.{frame_none}
use Rattle.journal.proofs.Journals.{found}
use Rattle.journal.proofs.Readers.{views_start}
use Rattle.journal.proofs.lookup.frame_at.Goals as goal

pub returns-then-size-offset-clause-leaves : goal.returns-then-size-offset-clause-leaves
returns-then-size-offset-clause-leaves g c = views_start g.H.Sum.sum_of (tail_at c.args.view.page_size c.args.view.id c.args.view.tip.now) c.args.cache.now (g.B.Blob.life c.args.blob.now) c.requires.readable

pub returns-then-size-offset-clause-goes : goal.returns-then-size-offset-clause-goes
returns-then-size-offset-clause-goes g c =
    let size = c.requires.readable.size in
    (omega (arith, c.if-size-offset.true, c.size-size.ensures, size), none_failed_start (g.B.Blob.life c.args.blob.now).present)

pub returns-clause-goes : goal.returns-clause-goes
returns-clause-goes g c =
    let held = logical_bytes (tail_at c.args.view.page_size c.args.view.id c.args.view.tip.now) (g.B.Blob.life c.args.blob.now).present.readable in
    let rest = c.size-size.result - c.args.offset in
    let size = c.requires.readable.size in
    let read = c.in_ok-framed.ensures.reads in
    let frame = found g.R.Sum.sum_of held c.args.offset rest c.in_ok-framed.framed c.in_ok-bytes.bytes (c.args.offset + c.len.result)
    (omega (arith, c.if-size-offset.false, c.size-size.ensures, size)) (omega (arith, c.if-size-offset.false))
    read.0 c.in_ok-bytes.ensures.found (ap (λ n. c.args.offset + n) c.len.ensures) in
    (frame, read.1)

pub returns-then-size-offset-clause-costs : goal.returns-then-size-offset-clause-costs
returns-then-size-offset-clause-costs g c =
    let t = tail_at c.args.view.page_size c.args.view.id c.args.view.tip.now in
    let life = g.B.Blob.life c.args.blob.now in
    frame_none t (logical_bytes t life.present.readable) c.args.offset c.args.cache.now life

pub overflow_add-result : goal.overflow_add-result
overflow_add-result g c = grind (arith, common_steps)
