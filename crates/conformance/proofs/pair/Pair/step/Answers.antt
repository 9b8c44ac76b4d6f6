use Rattle.disk.specs.History.{life_of}
use Rattle.conformance.proofs.PairLaws.{both_after}
use Rattle.conformance.proofs.pair.Pair.step.Goals as goal

pub invariant_of-self : goal.invariant_of-self
invariant_of-self g c =
    let pair = c.self.inside in
    both_after g.H.Sum.sum_of pair.session c.run.new.session pair.other pair.cache c.run.new.cache
    (life_of c.run.new.blob).present (life_of pair.blob).present (life_of pair.other_blob).present
    c.self.invariant c.run.ensures.ready c.run.ensures.others
