use Rattle.std.proofs.Common.{ap}
use Rattle.store.proofs.Calls.{commit_leaves, committed}
use Rattle.store.proofs.store.Store.commit.Goals as goal

pub returns-in_err-journal-clause-leaves : goal.returns-in_err-journal-clause-leaves
returns-in_err-journal-clause-leaves g c =
    commit_leaves g.H.Sum.sum_of g.R.Sum.sum_of c.args.self _ _ _ _ _ (ap (λ s. s.journal) c.self.view_is) c.commit.ensures.leaves

pub returns-clause-leaves : goal.returns-clause-leaves
returns-clause-leaves g c =
    commit_leaves g.H.Sum.sum_of g.R.Sum.sum_of c.args.self _ _ _ _ _ (ap (λ s. s.journal) c.self.view_is) c.commit.ensures.leaves

pub returns-clause-goes : goal.returns-clause-goes
returns-clause-goes g c =
    committed g.H.Sum.sum_of g.R.Sum.sum_of c.args.self _ _ _ _ _ _ (ap (λ s. s.journal) c.self.view_is) c.requires.store.held c.in_ok-journal.ensures.goes (ap (λ s. s.map) c.self.view_is) c.commit.ensures.leaves
