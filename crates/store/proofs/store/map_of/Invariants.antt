use Rattle.std.proofs.Common.{◌≡◌, drop}
use Rattle.std.specs.FinMap.{empty}
use Rattle.store.specs.Changes.{AreChanges, after_changes}
use Rattle.store.proofs.store.map_of.Given as goal

abbrev pub invariant-loop-change : goal.invariant-loop-change
invariant-loop-change l = record {
  changes : AreChanges (drop l.change-index l.records) → AreChanges l.records;
  map : after_changes l.map (drop l.change-index l.records) ≡ after_changes empty l.records;
}
