use Rattle.paged.proofs.Caching.{tried_reads}
use Rattle.std.proofs.Common.{◌<◌, rules, arith}
use Rattle.std.proofs.lemmas.Grind.{common_steps}
use Rattle.std.specs.Int.NonZero.{non_zero_u16_get}
use Rattle.paged.proofs.Appends.{tries, keeps_pages}
use Rattle.paged.proofs.Over.{buffers_over, keeps_consistent, keeps_sound}
use Rattle.paged.proofs.writer.Writer.try_append.Goals as goal

pub returns-clause-appends : goal.returns-clause-appends
returns-clause-appends g c =
    let inside = c.self.inside in
    let P = non_zero_u16_get inside.page_size in
    let some : 0 < P = inside.page_size.ok in
    buffers_over g.H.Sum.sum_of c.args.self.now _ c.args.bytes.now c.try_append.result
    (tries P inside.id inside.flushed inside.durable inside.sync_state some inside.tip c.try_append.new.self c.args.bytes.now c.self.invariant c.args.self.now c.try_append.result c.self.view_is (c.fits.ensures.0 (search rules)) c.try_append.ensures)

pub returns-clause-keeps_sound : goal.returns-clause-keeps_sound
returns-clause-keeps_sound g c =
    let inside = c.self.inside in
    let P = non_zero_u16_get inside.page_size in
    let some : 0 < P = inside.page_size.ok in
    keeps_sound g.H.Sum.sum_of c.args.self.now _ c.args.bytes.now c.try_append.result
    (tries P inside.id inside.flushed inside.durable inside.sync_state some inside.tip c.try_append.new.self c.args.bytes.now c.self.invariant c.args.self.now c.try_append.result c.self.view_is (c.fits.ensures.0 (search rules)) c.try_append.ensures)

pub returns-clause-consistent : goal.returns-clause-consistent
returns-clause-consistent g c =
    let inside = c.self.inside in
    let P = non_zero_u16_get inside.page_size in
    let some : 0 < P = inside.page_size.ok in
    keeps_consistent g.H.Sum.sum_of c.args.self.now _ c.args.bytes.now c.try_append.result
    (tries P inside.id inside.flushed inside.durable inside.sync_state some inside.tip c.try_append.new.self c.args.bytes.now c.self.invariant c.args.self.now c.try_append.result c.self.view_is (c.fits.ensures.0 (search rules)) c.try_append.ensures)

pub returns-clause-keeps_pages : goal.returns-clause-keeps_pages
returns-clause-keeps_pages g c =
    let inside = c.self.inside in
    let P = non_zero_u16_get inside.page_size in
    let some : 0 < P = inside.page_size.ok in
    keeps_pages c.args.self.now _ c.args.bytes.now c.try_append.result
    (tries P inside.id inside.flushed inside.durable inside.sync_state some inside.tip c.try_append.new.self c.args.bytes.now c.self.invariant c.args.self.now c.try_append.result c.self.view_is (c.fits.ensures.0 (search rules)) c.try_append.ensures)

pub returns-clause-keeps_reads : goal.returns-clause-keeps_reads
returns-clause-keeps_reads g c =
    let inside = c.self.inside in
    let P = non_zero_u16_get inside.page_size in
    let some : 0 < P = inside.page_size.ok in
    tried_reads c.args.self.now _ c.args.bytes.now c.try_append.result
    (tries P inside.id inside.flushed inside.durable inside.sync_state some inside.tip c.try_append.new.self c.args.bytes.now c.self.invariant c.args.self.now c.try_append.result c.self.view_is (c.fits.ensures.0 (search rules)) c.try_append.ensures)

pub returns-clause-goes : goal.returns-clause-goes
returns-clause-goes c = grind (arith, common_steps)
