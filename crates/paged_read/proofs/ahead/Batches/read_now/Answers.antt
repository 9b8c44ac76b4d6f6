use Rattle.std.proofs.Common.{[], ◌∷◌, take, drop, refl, arith}
use Rattle.std.specs.Int.NonZero.{non_zero_u16_get}
use Rattle.paged_read.specs.ReadAhead.{batch_range}
use Rattle.paged_read.proofs.AheadCosts.{batches_start, start_calls}
use Rattle.paged_read.proofs.ReadAheads.{fetched, fetched_tells, looked_start_read}
use Rattle.paged_read.proofs.ahead.Batches.read_now.Goals as goal

pub returns-clause-fetches : goal.returns-clause-fetches
returns-clause-fetches g c =
    fetched (non_zero_u16_get c.args.self.page_size) c.args.self.batch c.args.self.full_pages
    c.args.page (g.B.Blob.life c.args.blob.now) (g.B.Blob.life c.start.new.blob)
    c.start.result.read c.wait.result c.requires.below c.requires.there c.start.ensures.goes
    c.wait.ensures.ok c.wait.ensures.err

pub returns-clause-looked : goal.returns-clause-looked
returns-clause-looked g c =
    let range = batch_range (non_zero_u16_get c.args.self.page_size) c.args.self.batch
    c.args.self.full_pages c.args.page in
    looked_start_read (range ∷ []) (g.B.Blob.life c.args.blob.now)
    (g.B.Blob.life c.start.new.blob) c.start.result.read c.start.ensures.goes

pub returns-clause-failed : goal.returns-clause-failed
returns-clause-failed g c =
    let range = batch_range (non_zero_u16_get c.args.self.page_size) c.args.self.batch
    c.args.self.full_pages c.args.page in
    fetched_tells (range ∷ []) (g.B.Blob.life c.args.blob.now) (g.B.Blob.life c.start.new.blob)
    (take range.1 (drop range.0 (g.B.Blob.life c.args.blob.now).present.readable)) c.start.result.read c.wait.result refl c.start.ensures.goes c.wait.ensures.ok c.wait.ensures.err

pub returns-clause-calls : goal.returns-clause-calls
returns-clause-calls g c =
    let range = batch_range (non_zero_u16_get c.args.self.page_size) c.args.self.batch
    c.args.self.full_pages c.args.page in
    start_calls (range ∷ []) (g.B.Blob.life c.args.blob.now) (g.B.Blob.life c.start.new.blob) c.start.result.read c.start.ensures.goes

pub returns-clause-reads : goal.returns-clause-reads
returns-clause-reads g c =
    batches_start (non_zero_u16_get c.args.self.page_size) c.args.self.batch c.args.self.full_pages c.args.page c.args.page (g.B.Blob.life c.args.blob.now) (g.B.Blob.life c.start.new.blob)
    c.start.result.read (omega arith) c.requires.below c.start.ensures.goes
