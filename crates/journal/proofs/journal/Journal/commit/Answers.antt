use Rattle.writer_state.specs.Sound.{content}
use Rattle.journal.proofs.Journals.{commit_goes, commit_gives, ready_of, whole_of}
use Rattle.journal.proofs.Readers.{owed_same}
use Rattle.journal.proofs.Starts.{commit_starts}
use Rattle.journal.proofs.journal.Journal.commit.Goals as goal

pub sync-requires : goal.sync-requires
sync-requires g c = record { ready = ready_of g.H.Sum.sum_of c.args.self c.args.cache.now (g.B.Blob.life c.args.blob.now) c.requires.journal }

pub returns-clause-goes : goal.returns-clause-goes
returns-clause-goes g c =
    commit_goes g.H.Sum.sum_of g.R.Sum.sum_of c.args.self c.sync.new.cache (g.B.Blob.life c.args.blob.now) (g.B.Blob.life c.sync.new.blob) c.sync.result (ready_of g.H.Sum.sum_of c.args.self c.args.cache.now (g.B.Blob.life c.args.blob.now) c.requires.journal).sound (whole_of g.H.Sum.sum_of c.args.self c.args.cache.now (g.B.Blob.life c.args.blob.now) c.requires.journal)
    c.sync.ensures.goes c.sync.ensures.ready
    (commit_starts g.H.Sum.sum_of g.R.Sum.sum_of c.args.self (content c.args.self (g.B.Blob.life c.args.blob.now).present.readable) c.args.cache.now c.sync.new.cache (g.B.Blob.life c.args.blob.now) (g.B.Blob.life c.sync.new.blob) c.sync.result c.sync.ensures.goes c.sync.ensures.owes)

pub returns-clause-ready : goal.returns-clause-ready
returns-clause-ready g c =
    commit_gives g.H.Sum.sum_of g.R.Sum.sum_of c.args.self c.sync.new.cache (g.B.Blob.life c.args.blob.now) (g.B.Blob.life c.sync.new.blob) c.sync.result (returns-clause-goes g c)

pub returns-clause-leaves : goal.returns-clause-leaves
returns-clause-leaves g c = owed_same g.H.Sum.sum_of g.R.Sum.sum_of c.args.self c.args.cache.now c.sync.new.cache (g.B.Blob.life c.args.blob.now) (g.B.Blob.life c.sync.new.blob) c.sync.ensures.owes

pub returns-clause-costs : goal.returns-clause-costs
returns-clause-costs g c = c.sync.ensures.costs
