use Rattle.std.proofs.Common.{inl, refl, sym, ap, ap₂, ◌∙◌}
use Rattle.std.specs.FinMap.{remove}
use Rattle.store.specs.Changes.{delete_record, updated}
use Rattle.store.proofs.Calls.{append_refused, change_leaves, change_refused, changes}
use Rattle.store.proofs.Changes.{given-delete, key_of-delete}
use Rattle.store.proofs.store.Store.delete.Goals as goal

pub returns-in_err-record-clause-goes : goal.returns-in_err-record-clause-goes
returns-in_err-record-clause-goes g c =
    change_refused g.H.Sum.sum_of g.R.Sum.sum_of c.args.self (delete_record c.args.key.now) (remove c.args.self.map c.args.key.now) _ _ c.from_residual.result c.in_err-record.field-0.0 c.from_residual.ensures.1 c.in_err-record.ensures.err

pub returns-in_err-record-clause-leaves : goal.returns-in_err-record-clause-leaves
returns-in_err-record-clause-leaves g c = inl (refl, refl)

pub returns-in_err-journal-clause-goes : goal.returns-in_err-journal-clause-goes
returns-in_err-journal-clause-goes g c =
    append_refused g.H.Sum.sum_of g.R.Sum.sum_of c.args.self _ _ (delete_record c.args.key.now) (remove c.args.self.map c.args.key.now) _ _ _ _ c.from_residual-in_err-journal.result c.in_err-journal.field-0.0 (ap (λ s. s.journal) c.self.view_is) (c.deref.ensures.value ∙ c.in_ok-record.ensures.made) c.from_residual-in_err-journal.ensures.1 c.in_err-journal.ensures.goes

pub returns-in_err-journal-clause-leaves : goal.returns-in_err-journal-clause-leaves
returns-in_err-journal-clause-leaves g c =
    change_leaves g.H.Sum.sum_of g.R.Sum.sum_of c.args.self _ _ (delete_record c.args.key.now) _ _ _ _ (ap (λ s. s.journal) c.self.view_is) (c.deref.ensures.value ∙ c.in_ok-record.ensures.made) c.append_record.ensures.leaves

pub returns-clause-goes : goal.returns-clause-goes
returns-clause-goes g c =
    changes g.H.Sum.sum_of g.R.Sum.sum_of c.args.self _ _ _ (delete_record c.args.key.now) (remove c.args.self.map c.args.key.now) _ _ _ _ c.in_ok-journal.field-0-1 (ap (λ s. s.journal) c.self.view_is) (c.deref.ensures.value ∙ c.in_ok-record.ensures.made) c.requires.store.held
    (ap₂ (updated c.args.self.map) (sym (key_of-delete c.args.key.now)) (sym (given-delete c.args.key.now)))
    c.in_ok-journal.ensures.goes c.append_record.ensures.leaves
    (c.remove.ensures ∙ ap (λ s. remove s.map c.args.key.now) c.self.view_is)

pub returns-clause-leaves : goal.returns-clause-leaves
returns-clause-leaves g c =
    change_leaves g.H.Sum.sum_of g.R.Sum.sum_of c.args.self _ _ (delete_record c.args.key.now) _ _ _ _ (ap (λ s. s.journal) c.self.view_is) (c.deref.ensures.value ∙ c.in_ok-record.ensures.made) c.append_record.ensures.leaves
