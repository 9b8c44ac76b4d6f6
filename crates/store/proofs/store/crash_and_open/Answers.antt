use Rattle.std.proofs.Common.{ap, refl, subst, ◌∙◌}
use Rattle.std.specs.FinMap.{empty}
use Rattle.disk.specs.History.{begun, life_of}
use Rattle.disk.specs.Torn.{torn}
use Rattle.store.specs.Changes.{AreChanges, after_changes}
use Rattle.store.proofs.Calls.{come_back, crash_leaves}
use Rattle.store.proofs.store.crash_and_open.Goals as goal

pub returns-in_err-journal-clause-leaves : goal.returns-in_err-journal-clause-leaves
returns-in_err-journal-clause-leaves g c =
    crash_leaves g.H.Sum.sum_of g.R.Sum.sum_of c.args.cache.now c.crash_and_recover.new.cache _ _ c.crash_and_recover.ensures.leaves

pub returns-in_err-map-clause-leaves : goal.returns-in_err-map-clause-leaves
returns-in_err-map-clause-leaves g c =
    crash_leaves g.H.Sum.sum_of g.R.Sum.sum_of c.args.cache.now c.crash_and_recover.new.cache _ _ c.crash_and_recover.ensures.leaves

pub returns-clause-goes : goal.returns-clause-goes
returns-clause-goes g c =
    let d = (life_of c.args.blob.now).present in
    let image = torn c.args.keep.now d.since d.base in
    come_back g.H.Sum.sum_of g.R.Sum.sum_of _ c.args.cache.now c.crash_and_recover.new.cache d image (begun image d.log) _ c.in_ok-journal.changes.items refl
    c.in_ok-journal.ensures.goes.answers c.in_ok-journal.ensures.goes.back c.in_ok-journal.ensures.goes.only
    (subst AreChanges c.deref.ensures.value c.in_ok-map.ensures.0, c.in_ok-map.ensures.1 ∙ ap (after_changes empty) c.deref.ensures.value)
    c.crash_and_recover.ensures.leaves.fresh

pub returns-clause-leaves : goal.returns-clause-leaves
returns-clause-leaves g c =
    crash_leaves g.H.Sum.sum_of g.R.Sum.sum_of c.args.cache.now c.crash_and_recover.new.cache _ _ c.crash_and_recover.ensures.leaves
