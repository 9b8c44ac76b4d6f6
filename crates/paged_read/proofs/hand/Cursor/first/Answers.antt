use Rattle.std.proofs.Common.{refl}
use Rattle.paged_read.proofs.Hands.{begins}
use Rattle.paged_read.proofs.hand.Cursor.first.Goals as goal

pub returns-in-Some-clause-bytes : goal.returns-in-Some-clause-bytes
returns-in-Some-clause-bytes c =
    let run = c.in-Some in
    let size = c.len.ensures in
    begins c.args.page_size c.args.run c.min-left.result c.args.runs.now.items run.run'.now
    (let len = c.args.runs.now.ok.0 in let below = run.ensures.variant.0 refl in rw (← len) below) run.ensures.lookup (rw (← size) c.min-left.ensures)
