use Rattle.std.proofs.lemmas.Result.{err_from_is_err_and}
use Rattle.std.proofs.Common.{[], append-nil, sym, Ok, Err}
use Rattle.std.specs.Int.NonZero.{non_zero_usize_get}
use Rattle.writer_state.specs.WriterState.{WriterState}
use Rattle.writer_state.specs.Sound.{content}
use Rattle.paged_read.specs.Replay.{ReplayState}
use Rattle.paged.proofs.Answering.{owes_same, refused, replay_goes, stays_usable, usable_of}
use Rattle.paged.proofs.Snapshotting.{begin_stays}
use Rattle.paged.proofs.writer.Writer.replay.Goals as goal

pub replay_all-requires : goal.replay_all-requires
replay_all-requires g c =
    let usable = usable_of g.H.Sum.sum_of c.args.self c.args.cache.now (g.B.Blob.life c.args.blob.now) c.requires.ready in
    record { cached = usable.can.page_size; holds = usable.consistent }

pub returns-in_err-replay-clause-goes : goal.returns-in_err-replay-clause-goes
returns-in_err-replay-clause-goes g c =
    let old = g.B.Blob.life c.args.blob.now in
    let p = err_from_is_err_and c.from_residual.result c.from_residual.ensures.1 in
    rw (p.1, p.2) (refused g.H.Sum.sum_of c.args.self (content c.args.self old.present.readable) old (g.B.Blob.life c.replay_all.new.blob) c.in_err-replay.field-0.0 c.in_err-replay.ensures.begins)

pub returns-clause-goes : goal.returns-clause-goes
returns-clause-goes g c =
    let is = c.in_ok-replay.ensures in
    replay_goes g.H.Sum.sum_of c.args.self c.replay_all.new.self (non_zero_usize_get c.args.buffer_size) c.in_ok-replay.replay c.args.cache.now c.replay_all.new.cache (g.B.Blob.life c.args.blob.now) (g.B.Blob.life c.replay_all.new.blob) (usable_of g.H.Sum.sum_of c.args.self c.args.cache.now (g.B.Blob.life c.args.blob.now) c.requires.ready) is.room is.begins is.covers is.puts

pub returns-clause-ready : goal.returns-clause-ready
returns-clause-ready g c =
    let is = c.in_ok-replay.ensures in
    stays_usable {A = WriterState × ReplayState} g.H.Sum.sum_of (λ r. r.0) c.args.self [] c.args.self.tip (g.B.Blob.life c.args.blob.now) (g.B.Blob.life c.replay_all.new.blob) c.args.cache.now c.replay_all.new.cache
    (c.replay_all.new.self, c.in_ok-replay.replay) c.requires.ready (sym (append-nil c.args.self.tip)) is.begins.0 is.puts

pub returns-in_err-replay-clause-owes : goal.returns-in_err-replay-clause-owes
returns-in_err-replay-clause-owes g c =
    let is = c.in_err-replay.ensures in
    let old = g.B.Blob.life c.args.blob.now in
    let new = g.B.Blob.life c.replay_all.new.blob in
    owes_same {A = WriterState × ReplayState} g.H.Sum.sum_of (λ r. r.0) c.args.self c.args.cache.now c.replay_all.new.cache old new (Err c.in_err-replay.field-0.0) (usable_of g.H.Sum.sum_of c.args.self c.args.cache.now (g.B.Blob.life c.args.blob.now) c.requires.ready)
    (begin_stays g.H.Sum.sum_of c.args.self (non_zero_usize_get c.args.buffer_size) old new (Err c.in_err-replay.field-0.0) is.begins) is.pages is.covers is.starts is.puts

pub returns-clause-owes : goal.returns-clause-owes
returns-clause-owes g c =
    let is = c.in_ok-replay.ensures in
    let old = g.B.Blob.life c.args.blob.now in
    let new = g.B.Blob.life c.replay_all.new.blob in
    owes_same {A = WriterState × ReplayState} g.H.Sum.sum_of (λ r. r.0) c.args.self c.args.cache.now c.replay_all.new.cache old new (Ok (c.replay_all.new.self, c.in_ok-replay.replay)) (usable_of g.H.Sum.sum_of c.args.self c.args.cache.now (g.B.Blob.life c.args.blob.now) c.requires.ready)
    (begin_stays g.H.Sum.sum_of c.args.self (non_zero_usize_get c.args.buffer_size) old new (Ok (c.replay_all.new.self, c.in_ok-replay.replay)) is.begins) is.pages is.covers is.starts is.puts
