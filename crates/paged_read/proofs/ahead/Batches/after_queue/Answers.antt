use Rattle.std.proofs.Common.{◌∙◌, sym, arith}
use Rattle.paged_read.proofs.ReadAheads.{after_last}
use Rattle.paged_read.proofs.ahead.Batches.after_queue.Goals as goal

pub after-requires : goal.after-requires
after-requires c =
    let last = after_last c.args.self.batch c.args.self.full_pages c.args.page c.args.queue.now
    c.in-Some.last.now c.requires c.in-Some.ensures.value in
    omega (arith, last.1)

pub returns-in-Some-clause-next : goal.returns-in-Some-clause-next
returns-in-Some-clause-next c =
    let last = after_last c.args.self.batch c.args.self.full_pages c.args.page c.args.queue.now
    c.in-Some.last.now c.requires c.in-Some.ensures.value in
    c.after.ensures ∙ sym last.0

pub returns-in-Some-clause-within : goal.returns-in-Some-clause-within
returns-in-Some-clause-within c =
    let last = after_last c.args.self.batch c.args.self.full_pages c.args.page c.args.queue.now
    c.in-Some.last.now c.requires c.in-Some.ensures.value in
    omega (arith, last.1, c.after.ensures)
