use Rattle.std.proofs.Common.{inl, refl, sym, ap, ap₂, ◌∙◌, arith}
use Rattle.std.specs.FinMap.{insert}
use Rattle.store.specs.Changes.{put_record, updated}
use Rattle.store.proofs.Calls.{append_refused, change_leaves, change_refused, changes}
use Rattle.store.proofs.Changes.{given-put, key_of-put}
use Rattle.store.proofs.store.Store.put.Goals as goal

pub returns-in_err-record-clause-goes : goal.returns-in_err-record-clause-goes
returns-in_err-record-clause-goes g c =
    change_refused g.H.Sum.sum_of g.R.Sum.sum_of c.args.self (put_record c.args.key.now c.args.value.now) (insert c.args.self.map c.args.key.now c.args.value.now) _ _ c.from_residual.result c.in_err-record.field-0.0 c.from_residual.ensures.1 c.in_err-record.ensures.err

pub returns-in_err-record-clause-leaves : goal.returns-in_err-record-clause-leaves
returns-in_err-record-clause-leaves g c = inl (refl, refl)

pub returns-in_err-insert-clause-goes : goal.returns-in_err-insert-clause-goes
returns-in_err-insert-clause-goes g c =
    change_refused g.H.Sum.sum_of g.R.Sum.sum_of c.args.self (put_record c.args.key.now c.args.value.now) (insert c.args.self.map c.args.key.now c.args.value.now) _ _ c.from_residual-in_err-insert.result c.in_err-insert.field-0.0 c.from_residual-in_err-insert.ensures.1 c.in_err-insert.ensures.err

pub returns-in_err-insert-clause-leaves : goal.returns-in_err-insert-clause-leaves
returns-in_err-insert-clause-leaves g c = inl (refl, refl)

pub returns-in_err-journal-clause-goes : goal.returns-in_err-journal-clause-goes
returns-in_err-journal-clause-goes g c =
    append_refused g.H.Sum.sum_of g.R.Sum.sum_of c.args.self _ _ (put_record c.args.key.now c.args.value.now) (insert c.args.self.map c.args.key.now c.args.value.now) _ _ _ _ c.from_residual-in_err-journal.result c.in_err-journal.field-0.0 (ap (λ s. s.journal) c.self.view_is) (c.deref.ensures.value ∙ c.in_ok-record.ensures.made) c.from_residual-in_err-journal.ensures.1 c.in_err-journal.ensures.goes

pub returns-in_err-journal-clause-leaves : goal.returns-in_err-journal-clause-leaves
returns-in_err-journal-clause-leaves g c =
    change_leaves g.H.Sum.sum_of g.R.Sum.sum_of c.args.self _ _ (put_record c.args.key.now c.args.value.now) _ _ _ _ (ap (λ s. s.journal) c.self.view_is) (c.deref.ensures.value ∙ c.in_ok-record.ensures.made) c.append_record.ensures.leaves

pub returns-clause-goes : goal.returns-clause-goes
returns-clause-goes g c =
    changes g.H.Sum.sum_of g.R.Sum.sum_of c.args.self _ _ _ (put_record c.args.key.now c.args.value.now) (insert c.args.self.map c.args.key.now c.args.value.now) _ _ _ _ c.in_ok-journal.field-0-1 (ap (λ s. s.journal) c.self.view_is) (c.deref.ensures.value ∙ c.in_ok-record.ensures.made) c.requires.store.held
    (ap₂ (updated c.args.self.map) (sym (key_of-put c.args.key.now c.args.value.now (omega (arith, c.requires.short)))) (sym (given-put c.args.key.now c.args.value.now (omega (arith, c.requires.short)))))
    c.in_ok-journal.ensures.goes c.append_record.ensures.leaves
    (c.in_ok-insert.ensures.insert ∙ ap (λ s. insert s.map c.args.key.now c.args.value.now) c.self.view_is)

pub returns-clause-leaves : goal.returns-clause-leaves
returns-clause-leaves g c =
    change_leaves g.H.Sum.sum_of g.R.Sum.sum_of c.args.self _ _ (put_record c.args.key.now c.args.value.now) _ _ _ _ (ap (λ s. s.journal) c.self.view_is) (c.deref.ensures.value ∙ c.in_ok-record.ensures.made) c.append_record.ensures.leaves
