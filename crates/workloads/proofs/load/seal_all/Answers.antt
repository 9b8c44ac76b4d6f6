use Rattle.workloads.proofs.load.seal_all.Goals as goal

pub returns : goal.returns
returns g c = c.seal.ensures.owes.fresh
