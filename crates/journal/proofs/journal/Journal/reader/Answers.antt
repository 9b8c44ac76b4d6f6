use Rattle.std.proofs.Common.{[], subst, sym}
use Rattle.writer_state.specs.Sound.{content}
use Rattle.journal.specs.Reader.{HasReader, ReaderState}
use Rattle.journal.proofs.Journals.{ready_of, whole_of}
use Rattle.journal.proofs.Readers.{owed_same, reader_made}
use Rattle.journal.proofs.Starts.{starts_held}
use Rattle.journal.proofs.Costs.{reader_costs, reader_refused}
use Rattle.journal.proofs.journal.Journal.reader.Goals as goal

pub snapshot-requires : goal.snapshot-requires
snapshot-requires g c = record { ready = ready_of g.H.Sum.sum_of c.args.self c.args.cache.now (g.B.Blob.life c.args.blob.now) c.requires.journal }

pub returns-clause-goes : goal.returns-clause-goes
returns-clause-goes g c =
    let sum = g.H.Sum.sum_of in
    let own = g.R.Sum.sum_of in
    let w = c.args.self in
    let old = g.B.Blob.life c.args.blob.now in
    let new = g.B.Blob.life c.snapshot.new.blob in
    let goes = c.in_ok-journal.ensures in
    let now = c.in_ok-journal.journal in
    subst (λ (r : ReaderState). HasReader sum own w c.snapshot.new.cache old new now r) (sym c.new.ensures)
    (reader_made sum own w c.snapshot.new.cache old new now c.in_ok-journal.snapshot (ready_of g.H.Sum.sum_of c.args.self c.args.cache.now (g.B.Blob.life c.args.blob.now) c.requires.journal).sound (whole_of sum w c.args.cache.now old c.requires.journal) goes.goes goes.ready
    (starts_held sum own w now [] (content w old.present.readable) c.args.cache.now c.snapshot.new.cache old new goes.goes.holds c.snapshot.ensures.owes))

pub returns-clause-ready : goal.returns-clause-ready
returns-clause-ready g c = let has = returns-clause-goes g c in (has.journal, has.reader)

pub returns-clause-leaves : goal.returns-clause-leaves
returns-clause-leaves g c = owed_same g.H.Sum.sum_of g.R.Sum.sum_of c.args.self c.args.cache.now c.snapshot.new.cache (g.B.Blob.life c.args.blob.now) (g.B.Blob.life c.snapshot.new.blob) c.snapshot.ensures.owes

pub returns-in_err-journal-clause-leaves : goal.returns-in_err-journal-clause-leaves
returns-in_err-journal-clause-leaves g c = owed_same g.H.Sum.sum_of g.R.Sum.sum_of c.args.self c.args.cache.now c.snapshot.new.cache (g.B.Blob.life c.args.blob.now) (g.B.Blob.life c.snapshot.new.blob) c.snapshot.ensures.owes

pub returns-clause-costs : goal.returns-clause-costs
returns-clause-costs g c =
    reader_costs c.args.self c.args.cache.now c.snapshot.new.cache (g.B.Blob.life c.args.blob.now) (g.B.Blob.life c.snapshot.new.blob) c.in_ok-journal.journal c.in_ok-journal.snapshot c.new.result c.new.ensures c.in_ok-journal.ensures.costs

pub returns-in_err-journal-clause-costs : goal.returns-in_err-journal-clause-costs
returns-in_err-journal-clause-costs g c =
    reader_refused c.args.self c.args.cache.now c.snapshot.new.cache (g.B.Blob.life c.args.blob.now) (g.B.Blob.life c.snapshot.new.blob) c.in_err-journal.field-0.0 c.from_residual.result c.from_residual.ensures.1 c.in_err-journal.ensures.costs
