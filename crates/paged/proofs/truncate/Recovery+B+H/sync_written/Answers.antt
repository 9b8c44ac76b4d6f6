use Rattle.paged.proofs.Caching.{puts_before, synced_pages, puts_nothing}
use Rattle.std.proofs.Common.{sym, ◌∙◌}
use Rattle.paged.specs.Flush.{with_value}
use Rattle.paged.proofs.Flushes.{sync_settles}
use Rattle.paged.proofs.Waits.{settled_owes, settled_pages}
use Rattle.paged.proofs.Over.{sound_syncs}
use Rattle.paged.proofs.Shortened.{sound_working}
use Rattle.writer_state.proofs.Soundness.{sound_holds_together}
use Rattle.paged.proofs.truncate.Recovery+B+H.sync_written.Goals as goal

pub sync_pages-requires-clause-holds : goal.sync_pages-requires-clause-holds
sync_pages-requires-clause-holds g c =
    let w = c.args.self.now in
    let d = (g.B.Blob.life c.args.blob.now).present in
    sound_holds_together g.H.Sum.sum_of w d (sound_working g.H.Sum.sum_of w d c.requires.stands (sym c.has_flush_work.ensures.work ∙ c.if-has_flush_work.true))

pub returns-then-has_flush_work-clause-syncs : goal.returns-then-has_flush_work-clause-syncs
returns-then-has_flush_work-clause-syncs g c = λ sound.
    sound_syncs g.H.Sum.sum_of c.args.self.now (g.B.Blob.life c.args.blob.now) (g.B.Blob.life c.sync_pages.new.blob) (with_value c.sync_pages.new.self c.sync_pages.result) sound c.sync_pages.ensures.syncs

pub returns-else-has_flush_work-clause-syncs : goal.returns-else-has_flush_work-clause-syncs
returns-else-has_flush_work-clause-syncs g c = λ sound.
    let sum = g.H.Sum.sum_of in
    let w = c.args.self.now in
    let old = g.B.Blob.life c.args.blob.now in
    let new = g.B.Blob.life c.settle_blob.new.blob in
    let holds = sound_holds_together sum w old.present sound in
    sound_syncs sum w old new (with_value c.settle_blob.new.self c.settle_blob.result) sound
    (sync_settles sum w old new (with_value c.settle_blob.new.self c.settle_blob.result) holds (sym c.has_flush_work.ensures.work ∙ c.if-has_flush_work.false)
    (settled_owes sum w c.settle_blob.new.self old new c.settle_blob.result g.met.H.Sum.small holds c.settle_blob.ensures.goes c.settle_blob.ensures.state).settles)

pub returns-else-has_flush_work-clause-pages : goal.returns-else-has_flush_work-clause-pages
returns-else-has_flush_work-clause-pages g c =
    settled_pages c.args.self.now.page_size c.args.self.now.full_pages c.args.self.now.sync (g.B.Blob.life c.args.blob.now) (g.B.Blob.life c.settle_blob.new.blob) c.settle_blob.result c.settle_blob.ensures.goes

pub returns-else-has_flush_work-clause-covers : goal.returns-else-has_flush_work-clause-covers
returns-else-has_flush_work-clause-covers g c = λ sound. (settled_owes g.H.Sum.sum_of c.args.self.now c.settle_blob.new.self (g.B.Blob.life c.args.blob.now) (g.B.Blob.life c.settle_blob.new.blob) c.settle_blob.result g.met.H.Sum.small (sound_holds_together g.H.Sum.sum_of c.args.self.now (g.B.Blob.life c.args.blob.now).present sound) c.settle_blob.ensures.goes c.settle_blob.ensures.state).covers

pub returns-else-has_flush_work-clause-starts : goal.returns-else-has_flush_work-clause-starts
returns-else-has_flush_work-clause-starts g c = λ sound. (settled_owes g.H.Sum.sum_of c.args.self.now c.settle_blob.new.self (g.B.Blob.life c.args.blob.now) (g.B.Blob.life c.settle_blob.new.blob) c.settle_blob.result g.met.H.Sum.small (sound_holds_together g.H.Sum.sum_of c.args.self.now (g.B.Blob.life c.args.blob.now).present sound) c.settle_blob.ensures.goes c.settle_blob.ensures.state).starts

pub returns-else-has_flush_work-clause-puts : goal.returns-else-has_flush_work-clause-puts
returns-else-has_flush_work-clause-puts g c =
    let w = c.args.self.now in
    puts_before w w c.settle_blob.new.self w.tip c.args.cache.now c.args.cache.now c.settle_blob.result
    (synced_pages w c.settle_blob.new.self c.settle_blob.result c.settle_blob.ensures.state)
    (puts_nothing w.id w.full_pages w.page_size w.tip c.args.cache.now)
