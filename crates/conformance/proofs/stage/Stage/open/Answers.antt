use Rattle.std.proofs.Common.{rules, sym, subst}
use Rattle.disk.specs.History.{life_of}
use Rattle.session.specs.Run.{SessionState, CacheFits}
use Rattle.conformance.proofs.stage.Stage.open.Goals as goal

pub invariant_of-self-2 : goal.invariant_of-self-2
invariant_of-self-2 g c =
    let d = (life_of c.open.new.blob).present in
    record {
      steps = search rules;
      cached = subst (λ (s : SessionState). CacheFits s c.open.new.cache d) (sym c.closed.ensures) (record { writer = tt; snapshots = search rules });
      fresh = c.open.ensures.owes.fresh c.self.invariant.fresh;
    }
