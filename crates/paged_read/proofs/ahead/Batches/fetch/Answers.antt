use Rattle.std.proofs.Common.{refl}
use Rattle.std.specs.Int.NonZero.{non_zero_u16_get}
use Rattle.crash.specs.Looks.{looked_start}
use Rattle.paged_read.proofs.AheadCosts.{batches_none, serves_first}
use Rattle.paged_read.specs.Failures.{none_failed_start}
use Rattle.paged_read.proofs.ahead.Batches.fetch.Goals as goal

pub returns-in-Some-clause-batches : goal.returns-in-Some-clause-batches
returns-in-Some-clause-batches g c =
    c.take.ensures.batches (g.B.Blob.life c.args.blob.now).present c.requires.batches

pub returns-in-Some-clause-looked : goal.returns-in-Some-clause-looked
returns-in-Some-clause-looked g c = looked_start (g.B.Blob.life c.args.blob.now)

pub returns-in-Some-clause-failed : goal.returns-in-Some-clause-failed
returns-in-Some-clause-failed g c = none_failed_start (g.B.Blob.life c.args.blob.now).present

pub returns-in-Some-clause-reads : goal.returns-in-Some-clause-reads
returns-in-Some-clause-reads g c =
    batches_none (non_zero_u16_get c.args.self.page_size) c.args.self.batch c.args.self.full_pages c.args.page (g.B.Blob.life c.args.blob.now) (g.B.Blob.life c.args.blob.now) refl

pub returns-in-None-clause-served : goal.returns-in-None-clause-served
returns-in-None-clause-served g c = λ next has.
    let first = serves_first (non_zero_u16_get c.args.self.page_size) c.args.self.batch c.args.self.full_pages c.args.page (g.B.Blob.life c.args.blob.now).present c.args.queue.now.items next has c.requires.batches in
    let some = c.take.ensures.served first.a first.bytes first.first first.here first.read in
    absurd (cc (some, c.in-None.is))
