use Rattle.std.proofs.lemmas.Result.{err_from_is_err_and}
use Rattle.std.proofs.Common.{[], append-nil, sym, Ok, Err}
use Rattle.disk.specs.declared.started_sync.StartedSync.{StartedSync}
use Rattle.writer_state.specs.WriterState.{WriterState}
use Rattle.writer_state.specs.Sound.{content}
use Rattle.paged.proofs.Answering.{owes_same, refused, start_goes, stays_usable, usable_of}
use Rattle.paged.proofs.Over.{starts_stay}
use Rattle.paged.proofs.writer.Writer.start_sync.Goals as goal

pub start_all-requires : goal.start_all-requires
start_all-requires g c =
    let usable = usable_of g.H.Sum.sum_of c.args.self c.args.cache.now (g.B.Blob.life c.args.blob.now) c.requires.ready in
    record { cached = usable.can.page_size; holds = usable.consistent }

pub returns-in_err-started-clause-goes : goal.returns-in_err-started-clause-goes
returns-in_err-started-clause-goes g c =
    let old = g.B.Blob.life c.args.blob.now in
    let p = err_from_is_err_and c.from_residual.result c.from_residual.ensures.1 in
    rw (p.1, p.2) (refused g.H.Sum.sum_of c.args.self (content c.args.self old.present.readable) old (g.B.Blob.life c.start_all.new.blob) c.in_err-started.field-0.0 c.in_err-started.ensures.starts_sync)

pub returns-clause-goes : goal.returns-clause-goes
returns-clause-goes g c =
    let is = c.in_ok-started.ensures in
    start_goes g.H.Sum.sum_of c.args.self c.start_all.new.self c.in_ok-started.started (g.B.Blob.life c.args.blob.now) (g.B.Blob.life c.start_all.new.blob) is.room is.starts_sync is.covers is.fresh

pub returns-clause-ready : goal.returns-clause-ready
returns-clause-ready g c =
    let is = c.in_ok-started.ensures in
    stays_usable {A = WriterState × StartedSync} g.H.Sum.sum_of (λ r. r.0) c.args.self [] c.args.self.tip (g.B.Blob.life c.args.blob.now) (g.B.Blob.life c.start_all.new.blob) c.args.cache.now c.start_all.new.cache
    (c.start_all.new.self, c.in_ok-started.started) c.requires.ready (sym (append-nil c.args.self.tip)) is.starts_sync.0 is.puts

pub returns-in_err-started-clause-owes : goal.returns-in_err-started-clause-owes
returns-in_err-started-clause-owes g c =
    let is = c.in_err-started.ensures in
    let old = g.B.Blob.life c.args.blob.now in
    let new = g.B.Blob.life c.start_all.new.blob in
    owes_same {A = WriterState × StartedSync} g.H.Sum.sum_of (λ r. r.0) c.args.self c.args.cache.now c.start_all.new.cache old new (Err c.in_err-started.field-0.0) (usable_of g.H.Sum.sum_of c.args.self c.args.cache.now (g.B.Blob.life c.args.blob.now) c.requires.ready)
    (starts_stay g.H.Sum.sum_of c.args.self old new (Err c.in_err-started.field-0.0) is.starts_sync) is.pages is.covers is.starts is.puts

pub returns-clause-owes : goal.returns-clause-owes
returns-clause-owes g c =
    let is = c.in_ok-started.ensures in
    let old = g.B.Blob.life c.args.blob.now in
    let new = g.B.Blob.life c.start_all.new.blob in
    owes_same {A = WriterState × StartedSync} g.H.Sum.sum_of (λ r. r.0) c.args.self c.args.cache.now c.start_all.new.cache old new (Ok (c.start_all.new.self, c.in_ok-started.started)) (usable_of g.H.Sum.sum_of c.args.self c.args.cache.now (g.B.Blob.life c.args.blob.now) c.requires.ready)
    (starts_stay g.H.Sum.sum_of c.args.self old new (Ok (c.start_all.new.self, c.in_ok-started.started)) is.starts_sync) is.pages is.covers is.starts is.puts
