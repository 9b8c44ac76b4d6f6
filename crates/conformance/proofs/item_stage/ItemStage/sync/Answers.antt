use Rattle.std.proofs.Common.{◌∙◌, sym, subst, Some}
use Rattle.std.specs.Prelude.{Option}
use Rattle.disk.specs.History.{life_of}
use Rattle.items.specs.State.{ItemsState}
use Rattle.items.specs.Standing.{items_of}
use Rattle.conformance.specs.ItemStage.{AreSet}
use Rattle.conformance.proofs.ItemLaws.{goes_on}
use Rattle.conformance.proofs.item_stage.ItemStage.sync.Goals as goal

pub invariant_of-self-2 : goal.invariant_of-self-2
invariant_of-self-2 g c =
    let sum = g.H.Sum.sum_of in
    let s : ItemsState = c.in-Some.items in
    let now : ItemsState = c.in_ok-items.items in
    let old = life_of c.self.inside.blob in
    let new = life_of c.sync.new.blob in
    let cache = c.self.inside.cache in
    let snapshot = c.self.inside.snapshot in
    let replay = c.self.inside.replay in
    let set : AreSet sum (Some s) snapshot replay cache old = subst (λ (o : Option ItemsState). AreSet sum o snapshot replay cache old) (sym c.take.ensures.value ∙ c.in-Some.is) c.self.invariant in
    goes_on sum s now snapshot replay (items_of s old) cache c.sync.new.cache old new set c.sync.ensures.leaves c.in_ok-items.ensures.ready.0
