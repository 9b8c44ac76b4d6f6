use Rattle.std.proofs.Common.{sym, subst}
use Rattle.disk.specs.History.{life_of}
use Rattle.session.specs.Run.{SessionState}
use Rattle.conformance.specs.Pair.{AreBothReady}
use Rattle.conformance.proofs.PairLaws.{both_begun, both_closed}
use Rattle.conformance.proofs.pair.Pair.recover.Goals as goal

pub invariant_of-self : goal.invariant_of-self
invariant_of-self g c =
    let sum = g.H.Sum.sum_of in let pair = c.self.inside in let after = c.recover.new.cache in
    let d = (life_of c.recover.new.blob).present in let e = (life_of pair.other_blob).present in
    subst (λ (s : SessionState). AreBothReady sum s pair.other after d e) (sym c.closed.ensures)
    (both_closed sum pair.session pair.other pair.cache after d (life_of pair.blob).present e
    c.self.invariant c.recover.ensures.owes.others (c.recover.ensures.owes.fresh c.self.invariant.ready.fresh))

pub invariant_of-self-2 : goal.invariant_of-self-2
invariant_of-self-2 g c =
    let pair = c.self.inside in
    both_begun g.H.Sum.sum_of pair.session c.in_ok-self-inside.field-0 pair.other pair.cache c.recover.new.cache
    (life_of c.recover.new.blob).present (life_of pair.blob).present (life_of pair.other_blob).present
    c.self.invariant (c.in_ok-self-inside.ensures.ready c.self.invariant.ready.fresh)
    c.recover.ensures.owes.others c.in_ok-self-inside.ensures.goes.apart
