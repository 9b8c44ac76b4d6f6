use Rattle.std.proofs.lemmas.Result.{err_from_is_err_and}
use Rattle.std.proofs.Common.{[], append-nil, sym, Ok, Err}
use Rattle.writer_state.specs.WriterState.{WriterState}
use Rattle.paged.proofs.Answering.{owes_same, stays_usable, sync_goes, usable_of}
use Rattle.paged.proofs.Over.{syncs_stay}
use Rattle.paged.proofs.writer.Writer.sync.Goals as goal

pub sync_all-requires : goal.sync_all-requires
sync_all-requires g c =
    let usable = usable_of g.H.Sum.sum_of c.args.self c.args.cache.now (g.B.Blob.life c.args.blob.now) c.requires.ready in
    record { cached = usable.can.page_size; holds = usable.consistent }

pub returns-in_err-sync_all-clause-goes : goal.returns-in_err-sync_all-clause-goes
returns-in_err-sync_all-clause-goes g c =
    let is = c.in_err-sync_all.ensures in
    let p = err_from_is_err_and c.from_residual.result c.from_residual.ensures.1 in
    rw (p.1, p.2) (sync_goes g.H.Sum.sum_of c.args.self (g.B.Blob.life c.args.blob.now) (g.B.Blob.life c.sync_all.new.blob) (Err c.in_err-sync_all.field-0.0) is.room is.syncs is.covers)

pub returns-clause-goes : goal.returns-clause-goes
returns-clause-goes g c =
    let is = c.in_ok-sync_all.ensures in
    sync_goes g.H.Sum.sum_of c.args.self (g.B.Blob.life c.args.blob.now) (g.B.Blob.life c.sync_all.new.blob) (Ok c.sync_all.new.self) is.room is.syncs is.covers

pub returns-clause-ready : goal.returns-clause-ready
returns-clause-ready g c =
    let is = c.in_ok-sync_all.ensures in
    stays_usable {A = WriterState} g.H.Sum.sum_of (λ w. w) c.args.self [] c.args.self.tip (g.B.Blob.life c.args.blob.now) (g.B.Blob.life c.sync_all.new.blob) c.args.cache.now c.sync_all.new.cache
    c.sync_all.new.self c.requires.ready (sym (append-nil c.args.self.tip)) is.syncs.0 is.puts

pub returns-in_err-sync_all-clause-owes : goal.returns-in_err-sync_all-clause-owes
returns-in_err-sync_all-clause-owes g c =
    let is = c.in_err-sync_all.ensures in
    let old = g.B.Blob.life c.args.blob.now in
    let new = g.B.Blob.life c.sync_all.new.blob in
    owes_same {A = WriterState} g.H.Sum.sum_of (λ v. v) c.args.self c.args.cache.now c.sync_all.new.cache old new (Err c.in_err-sync_all.field-0.0) (usable_of g.H.Sum.sum_of c.args.self c.args.cache.now (g.B.Blob.life c.args.blob.now) c.requires.ready)
    (syncs_stay g.H.Sum.sum_of c.args.self old new (Err c.in_err-sync_all.field-0.0) is.syncs) is.pages is.covers is.starts is.puts

pub returns-clause-owes : goal.returns-clause-owes
returns-clause-owes g c =
    let is = c.in_ok-sync_all.ensures in
    let old = g.B.Blob.life c.args.blob.now in
    let new = g.B.Blob.life c.sync_all.new.blob in
    owes_same {A = WriterState} g.H.Sum.sum_of (λ v. v) c.args.self c.args.cache.now c.sync_all.new.cache old new (Ok c.sync_all.new.self) (usable_of g.H.Sum.sum_of c.args.self c.args.cache.now (g.B.Blob.life c.args.blob.now) c.requires.ready)
    (syncs_stay g.H.Sum.sum_of c.args.self old new (Ok c.sync_all.new.self) is.syncs) is.pages is.covers is.starts is.puts
