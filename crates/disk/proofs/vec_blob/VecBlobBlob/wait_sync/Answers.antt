use Rattle.std.proofs.Common.{◌≡◌, ◌⊎◌, true, false, sym, ap, subst, inl, inr, arith, refl, Ok, Err}
use Rattle.std.specs.Prelude.{vec_capacity}
use Rattle.disk.specs.Disk.{Life, had_failed, WaitStartedGoes}
use Rattle.disk.specs.declared.error.Error.TheVariants.{SyncFailed}
use Rattle.disk.specs.declared.started_sync.StartedSync.{StartedSync}
use Rattle.disk.specs.declared.action.Action.TheVariants as actions
use Rattle.disk.specs.History.{life_of, life_after_action}
use Rattle.disk.specs.VecBlob.{VecState}
use Rattle.disk.proofs.Starts.{plain_waits, wait_goes, wait_fails, well_at, none_at}
use Rattle.disk.proofs.Stops.{lives_on}
use Rattle.disk.proofs.vec_blob.VecBlobBlob.wait_sync.Goals as goal
use Rattle.disk.proofs.vec_blob.VecBlobBlob.wait_sync.Goals.{then-self-via-then-self, then-self-via-else-self+then-name-self}

pub invariant_of-self : goal.invariant_of-self
invariant_of-self c = plain_waits c.in-Named.name c.self.inside.stopped c.self.inside.past.value c.wait_sync.result.value c.self.inside.bytes.items c.self.inside.starts c.wait_sync.ensures c.self.invariant

pub invariant_of-self-2 : goal.invariant_of-self-2
invariant_of-self-2 c = plain_waits c.in-Named.name c.self.inside.stopped c.self.inside.past.value c.wait_sync.result.value c.self.inside.bytes.items c.self.inside.starts c.wait_sync.ensures c.self.invariant

pub returns-then-self-clause-goes : goal.returns-then-self-clause-goes
returns-then-self-clause-goes c =
    let name = c.in-Named.name in
    let stopped = c.self.inside.stopped in
    let past = c.self.inside.past.value in
    let old = life_of c.args.self.now.history in
    let new = life_of c.wait_sync.result.value in
    let same : life_of past ≡ old = ap (λ (s : VecState). life_of s.history) c.self.view_is in
    let life : new ≡ life_after_action (actions.WaitSync name) stopped old = lives_on (actions.WaitSync name) stopped stopped past (vec_capacity c.self.inside.bytes) c.args.self.now c.args.self.now.history c.wait_sync.result.value c.self.view_is refl refl c.wait_sync.ensures in
    let why : (stopped ≡ true) ⊎ (had_failed old.present.started name ≡ true) =
    elim c.then-self.branch [
      | then-self-via-then-self w ↦ inl w.if-self.true
      | then-self-via-else-self+then-name-self w ↦
          inr (subst (λ (l : Life). had_failed l.present.started name ≡ true) same
          (none_at (life_of past).present.started name (omega (arith, w.if-name-self.true, c.self.invariant.names))))
    ] in
    subst (λ (s : StartedSync). WaitStartedGoes s old new (Err SyncFailed)) (sym c.in-Named.is) (wait_fails name stopped old new why life)

pub returns-clause-goes : goal.returns-clause-goes
returns-clause-goes c =
    let name = c.in-Named.name in
    let past = c.self.inside.past.value in
    let old = life_of c.args.self.now.history in
    let new = life_of c.wait_sync.result.value in
    let same : life_of past ≡ old = ap (λ (s : VecState). life_of s.history) c.self.view_is in
    let life : new ≡ life_after_action (actions.WaitSync name) false old = lives_on (actions.WaitSync name) c.self.inside.stopped false past (vec_capacity c.self.inside.bytes) c.args.self.now c.args.self.now.history c.wait_sync.result.value c.self.view_is refl c.if-self.false c.wait_sync.ensures in
    let well : had_failed old.present.started name ≡ false = subst (λ (l : Life). had_failed l.present.started name ≡ false) same
    (well_at (life_of past).present.started name (c.self.invariant.well c.if-self.false) (omega (arith, c.if-name-self.false, c.self.invariant.names))) in
    subst (λ (s : StartedSync). WaitStartedGoes s old new (Ok tt)) (sym c.in-Named.is) (wait_goes name old new well life)
