use Rattle.journal.proofs.Journals.{ready_of}
use Rattle.journal.proofs.Readers.{owed_same}
use Rattle.journal.proofs.Starts.{start_gives, start_goes}
use Rattle.journal.proofs.journal.Journal.start_commit.Goals as goal

pub start_sync-requires : goal.start_sync-requires
start_sync-requires g c = record { ready = ready_of g.H.Sum.sum_of c.args.self c.args.cache.now (g.B.Blob.life c.args.blob.now) c.requires.journal }

pub returns-clause-goes : goal.returns-clause-goes
returns-clause-goes g c =
    let call = c.start_sync in
    start_goes g.H.Sum.sum_of g.R.Sum.sum_of c.args.self c.args.cache.now call.new.cache (g.B.Blob.life c.args.blob.now) (g.B.Blob.life call.new.blob) call.result c.requires.journal call.ensures.goes call.ensures.ready call.ensures.owes

pub returns-clause-ready : goal.returns-clause-ready
returns-clause-ready g c =
    start_gives g.H.Sum.sum_of g.R.Sum.sum_of c.args.self c.start_sync.new.cache (g.B.Blob.life c.args.blob.now) (g.B.Blob.life c.start_sync.new.blob) c.start_sync.result (returns-clause-goes g c)

pub returns-clause-leaves : goal.returns-clause-leaves
returns-clause-leaves g c =
    owed_same g.H.Sum.sum_of g.R.Sum.sum_of c.args.self c.args.cache.now c.start_sync.new.cache (g.B.Blob.life c.args.blob.now) (g.B.Blob.life c.start_sync.new.blob) c.start_sync.ensures.owes

pub returns-clause-costs : goal.returns-clause-costs
returns-clause-costs g c = c.start_sync.ensures.costs
