use Rattle.std.proofs.Common.{rules, sym, subst}
use Rattle.disk.specs.History.{life_of}
use Rattle.session.specs.Run.{SessionState, CacheFits}
use Rattle.scripts.proofs.stage.Stage.recover.Goals as goal

pub invariant_of-self-in_err-self-inside : goal.invariant_of-self-in_err-self-inside
invariant_of-self-in_err-self-inside g c =
    let d = (life_of c.recover-recovered.new.blob).present in
    let fresh = c.in_ok-cache.ensures.fresh in
    record {
      ready = search rules;
      cached = (subst (λ (s : SessionState). CacheFits s c.recover-recovered.new.cache d) (sym c.closed.ensures) (record { writer = tt; snapshots = search rules }), c.recover-recovered.ensures.owes.fresh fresh);
      rests = search rules;
    }

pub invariant_of-self-2 : goal.invariant_of-self-2
invariant_of-self-2 g c =
    let fresh = c.in_ok-cache.ensures.fresh in
    record {
      ready = (c.in_ok-self-inside.ensures.ready fresh).steps;
      cached = (let is = c.in_ok-self-inside.ensures.ready fresh in (is.cached, is.fresh));
      rests = search rules;
    }
