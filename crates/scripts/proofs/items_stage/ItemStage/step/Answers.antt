use Rattle.scripts.proofs.items_stage.ItemStage.step.Goals as goal

pub invariant_of-self-in-Ok : goal.invariant_of-self-in-Ok
invariant_of-self-in-Ok g c = (c.run_items.ensures.ready.1, c.run_items.ensures.ready.0)
