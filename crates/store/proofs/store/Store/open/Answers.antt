use Rattle.std.proofs.Common.{ap, subst, ◌∙◌}
use Rattle.std.specs.FinMap.{empty}
use Rattle.store.specs.Changes.{AreChanges, after_changes}
use Rattle.store.proofs.Calls.{opened}
use Rattle.store.proofs.Changes.{changes_kept}
use Rattle.store.proofs.store.Store.open.Goals as goal

pub returns-in_err-journal-clause-stays : goal.returns-in_err-journal-clause-stays
returns-in_err-journal-clause-stays g c = changes_kept g.H.Sum.sum_of g.R.Sum.sum_of c.args.cache.now.page_size _ _ c.recover.ensures.leaves.kept

pub returns-in_err-map-clause-stays : goal.returns-in_err-map-clause-stays
returns-in_err-map-clause-stays g c = changes_kept g.H.Sum.sum_of g.R.Sum.sum_of c.args.cache.now.page_size _ _ c.recover.ensures.leaves.kept

pub returns-clause-goes : goal.returns-clause-goes
returns-clause-goes g c =
    opened g.H.Sum.sum_of g.R.Sum.sum_of _ c.args.cache.now c.recover.new.cache _ _ c.in_ok-journal.records.items
    c.in_ok-journal.ensures.goes.answers c.in_ok-journal.ensures.goes.back
    (subst AreChanges c.deref.ensures.value c.in_ok-map.ensures.0, c.in_ok-map.ensures.1 ∙ ap (after_changes empty) c.deref.ensures.value)
    c.recover.ensures.leaves.fresh

pub returns-clause-stays : goal.returns-clause-stays
returns-clause-stays g c = changes_kept g.H.Sum.sum_of g.R.Sum.sum_of c.args.cache.now.page_size _ _ c.recover.ensures.leaves.kept
