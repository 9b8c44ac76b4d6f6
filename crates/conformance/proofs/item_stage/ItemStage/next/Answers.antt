use Rattle.std.proofs.Common.{subst, Some}
use Rattle.std.specs.Prelude.{Option}
use Rattle.disk.specs.History.{life_of}
use Rattle.items.specs.State.{ItemsReplayState}
use Rattle.conformance.specs.ItemStage.{AreSet}
use Rattle.conformance.proofs.ItemLaws.{moves}
use Rattle.conformance.proofs.item_stage.ItemStage.next.Goals as goal

pub invariant_of-self-in_err-item : goal.invariant_of-self-in_err-item
invariant_of-self-in_err-item g c =
    let sum = g.H.Sum.sum_of in
    let old = life_of c.self.inside.blob in
    let new = life_of c.next.new.blob in
    let cache = c.self.inside.cache in
    let items = c.self.inside.items in
    let snapshot = c.self.inside.snapshot in
    let r : ItemsReplayState = c.in-Some.replay in
    let set : AreSet sum items snapshot (Some r) cache old = subst (λ (o : Option ItemsReplayState). AreSet sum items snapshot o cache old) c.in-Some.is c.self.invariant in
    moves sum items snapshot r c.next.new.self cache old new set c.next.ensures.leaves c.next.ensures.ready.0 c.next.ensures.ready.2

pub invariant_of-self-2 : goal.invariant_of-self-2
invariant_of-self-2 g c =
    let sum = g.H.Sum.sum_of in
    let old = life_of c.self.inside.blob in
    let new = life_of c.next.new.blob in
    let cache = c.self.inside.cache in
    let items = c.self.inside.items in
    let snapshot = c.self.inside.snapshot in
    let r : ItemsReplayState = c.in-Some.replay in
    let set : AreSet sum items snapshot (Some r) cache old = subst (λ (o : Option ItemsReplayState). AreSet sum items snapshot o cache old) c.in-Some.is c.self.invariant in
    moves sum items snapshot r c.next.new.self cache old new set c.next.ensures.leaves c.next.ensures.ready.0 c.next.ensures.ready.2
