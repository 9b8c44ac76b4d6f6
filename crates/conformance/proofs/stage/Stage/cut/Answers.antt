use Rattle.std.proofs.Common.{rules, sym, subst}
use Rattle.disk.specs.History.{life_of}
use Rattle.session.specs.Run.{SessionState, CacheFits}
use Rattle.conformance.proofs.stage.Stage.cut.Goals as goal

pub invariant_of-self-in_err-truncate : goal.invariant_of-self-in_err-truncate
invariant_of-self-in_err-truncate g c =
    let d = (life_of c.truncate.new.blob).present in
    record {
      steps = search rules;
      cached = subst (λ (s : SessionState). CacheFits s c.truncate.new.cache d) (sym c.closed.ensures) (record { writer = tt; snapshots = search rules });
      fresh = c.truncate.ensures.owes.fresh (search rules) (c.open.ensures.owes.fresh c.self.invariant.fresh);
    }

pub invariant_of-self-2 : goal.invariant_of-self-2
invariant_of-self-2 g c =
    let d = (life_of c.truncate.new.blob).present in
    record {
      steps = search rules;
      cached = subst (λ (s : SessionState). CacheFits s c.truncate.new.cache d) (sym c.closed.ensures) (record { writer = tt; snapshots = search rules });
      fresh = c.truncate.ensures.owes.fresh (search rules) (c.open.ensures.owes.fresh c.self.invariant.fresh);
    }
