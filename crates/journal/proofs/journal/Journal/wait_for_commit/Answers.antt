use Rattle.journal.proofs.Journals.{ready_of}
use Rattle.journal.proofs.Readers.{waiting_leaves}
use Rattle.journal.proofs.Starts.{wait_gives, wait_goes}
use Rattle.journal.proofs.journal.Journal.wait_for_commit.Goals as goal

pub wait_for_sync-requires : goal.wait_for_sync-requires
wait_for_sync-requires g c = record { sound = (ready_of g.H.Sum.sum_of c.args.self c.requires.journal.0 (g.B.Blob.life c.args.blob.now) c.requires.journal.1).sound }

pub returns-clause-goes : goal.returns-clause-goes
returns-clause-goes g c =
    let call = c.wait_for_sync in
    wait_goes g.H.Sum.sum_of g.R.Sum.sum_of c.args.self (g.B.Blob.life c.args.blob.now) (g.B.Blob.life call.new.blob) call.result
    (ready_of g.H.Sum.sum_of c.args.self c.requires.journal.0 (g.B.Blob.life c.args.blob.now) c.requires.journal.1).sound call.ensures.goes call.ensures.owes

pub returns-clause-ready : goal.returns-clause-ready
returns-clause-ready g c = λ cache journal.
    let call = c.wait_for_sync in
    let old = g.B.Blob.life c.args.blob.now in
    wait_gives g.H.Sum.sum_of c.args.self cache old (g.B.Blob.life call.new.blob) call.result journal call.ensures.goes (call.ensures.ready cache (ready_of g.H.Sum.sum_of c.args.self cache old journal))

pub returns-clause-leaves : goal.returns-clause-leaves
returns-clause-leaves g c = λ cache journal.
    waiting_leaves g.H.Sum.sum_of g.R.Sum.sum_of c.args.self cache (g.B.Blob.life c.args.blob.now) (g.B.Blob.life c.wait_for_sync.new.blob) c.wait_for_sync.ensures.owes journal

pub returns-clause-costs : goal.returns-clause-costs
returns-clause-costs g c = c.wait_for_sync.ensures.costs
