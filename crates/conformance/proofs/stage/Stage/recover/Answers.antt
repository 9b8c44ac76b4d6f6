use Rattle.conformance.proofs.stage.Stage.recover.Goals as goal

pub invariant_of-self-2 : goal.invariant_of-self-2
invariant_of-self-2 g c = c.in_ok-self-inside.ensures.ready c.self.invariant.fresh
