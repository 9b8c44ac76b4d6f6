use Rattle.std.proofs.lemmas.Result.{err_from_is_err_and}
use Rattle.std.proofs.Common.{[], append-nil, sym, Ok, Err}
use Rattle.writer_state.specs.WriterState.{WriterState}
use Rattle.writer_state.specs.Sound.{content}
use Rattle.paged_read.specs.Tail.{Tail}
use Rattle.paged.proofs.Answering.{owes_same, refused, snapshot_goes, stays_usable, usable_of}
use Rattle.paged.proofs.Snapshotting.{make_stays}
use Rattle.paged.proofs.snapshot.Writer+B+H.snapshot.Goals as goal

pub snapshot_all-requires : goal.snapshot_all-requires
snapshot_all-requires g c =
    let usable = usable_of g.H.Sum.sum_of c.args.self c.args.cache.now (g.B.Blob.life c.args.blob.now) c.requires.ready in
    record { cached = usable.can.page_size; holds = usable.consistent }

pub returns-in_err-sealed-clause-goes : goal.returns-in_err-sealed-clause-goes
returns-in_err-sealed-clause-goes g c =
    let old = g.B.Blob.life c.args.blob.now in
    let p = err_from_is_err_and c.from_residual.result c.from_residual.ensures.1 in
    rw (p.1, p.2) (refused g.H.Sum.sum_of c.args.self (content c.args.self old.present.readable) old (g.B.Blob.life c.snapshot_all.new.blob) c.in_err-sealed.field-0.0 c.in_err-sealed.ensures.makes)

pub returns-clause-goes : goal.returns-clause-goes
returns-clause-goes g c =
    let is = c.in_ok-sealed.ensures in
    snapshot_goes g.H.Sum.sum_of c.args.self c.snapshot_all.new.self c.in_ok-sealed.sealed c.args.cache.now c.snapshot_all.new.cache (g.B.Blob.life c.args.blob.now) (g.B.Blob.life c.snapshot_all.new.blob) (usable_of g.H.Sum.sum_of c.args.self c.args.cache.now (g.B.Blob.life c.args.blob.now) c.requires.ready) is.room is.makes is.covers is.puts

pub returns-clause-ready : goal.returns-clause-ready
returns-clause-ready g c =
    let is = c.in_ok-sealed.ensures in
    stays_usable {A = WriterState × Tail} g.H.Sum.sum_of (λ r. r.0) c.args.self [] c.args.self.tip (g.B.Blob.life c.args.blob.now) (g.B.Blob.life c.snapshot_all.new.blob) c.args.cache.now c.snapshot_all.new.cache
    (c.snapshot_all.new.self, c.in_ok-sealed.sealed) c.requires.ready (sym (append-nil c.args.self.tip)) is.makes.0 is.puts

pub returns-in_err-sealed-clause-owes : goal.returns-in_err-sealed-clause-owes
returns-in_err-sealed-clause-owes g c =
    let is = c.in_err-sealed.ensures in
    let old = g.B.Blob.life c.args.blob.now in
    let new = g.B.Blob.life c.snapshot_all.new.blob in
    owes_same {A = WriterState × Tail} g.H.Sum.sum_of (λ r. r.0) c.args.self c.args.cache.now c.snapshot_all.new.cache old new (Err c.in_err-sealed.field-0.0) (usable_of g.H.Sum.sum_of c.args.self c.args.cache.now (g.B.Blob.life c.args.blob.now) c.requires.ready)
    (make_stays g.H.Sum.sum_of c.args.self old new (Err c.in_err-sealed.field-0.0) is.makes) is.pages is.covers is.starts is.puts

pub returns-clause-owes : goal.returns-clause-owes
returns-clause-owes g c =
    let is = c.in_ok-sealed.ensures in
    let old = g.B.Blob.life c.args.blob.now in
    let new = g.B.Blob.life c.snapshot_all.new.blob in
    owes_same {A = WriterState × Tail} g.H.Sum.sum_of (λ r. r.0) c.args.self c.args.cache.now c.snapshot_all.new.cache old new (Ok (c.snapshot_all.new.self, c.in_ok-sealed.sealed)) (usable_of g.H.Sum.sum_of c.args.self c.args.cache.now (g.B.Blob.life c.args.blob.now) c.requires.ready)
    (make_stays g.H.Sum.sum_of c.args.self old new (Ok (c.snapshot_all.new.self, c.in_ok-sealed.sealed)) is.makes) is.pages is.covers is.starts is.puts
