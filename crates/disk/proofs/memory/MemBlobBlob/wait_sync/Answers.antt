use Rattle.std.proofs.Common.{false, sym, ◌∙◌, subst, inl, inr, Ok, Err}
use Rattle.disk.specs.Disk.{WaitStartedGoes, WaitGoes}
use Rattle.disk.specs.declared.error.Error.TheVariants.{SyncFailed}
use Rattle.disk.specs.declared.started_sync.StartedSync.{StartedSync}
use Rattle.disk.specs.declared.action.Action.TheVariants as actions
use Rattle.disk.specs.History.{life_of}
use Rattle.disk.proofs.Device.{life_after}
use Rattle.disk.proofs.Starts.{wait_goes, wait_fails}
use Rattle.disk.proofs.memory.MemBlobBlob.wait_sync.Goals as goal
use Rattle.disk.proofs.memory.MemBlobBlob.wait_sync.Goals.{then-branch-via-then-branch, then-branch-via-else-branch+then-has_failed}

pub returns-then-branch-clause-goes : goal.returns-then-branch-clause-goes
returns-then-branch-clause-goes c =
    let now = c.args.self.now in
    let name = c.in-Named.name in
    let e = life_after (actions.WaitSync name) c.in_ok-ask.field-0 now c.ask.new.self c.in_ok-ask.ensures.failed c.in_ok-ask.ensures.told in
    let goes : WaitGoes name (life_of now) (life_of c.ask.new.self) (Err SyncFailed) =
    elim c.then-branch.branch [
      | then-branch-via-then-branch w ↦ wait_fails name c.in_ok-ask.field-0 (life_of now) (life_of c.ask.new.self) (inl w.if-branch.true) e
      | then-branch-via-else-branch+then-has_failed w ↦ wait_fails name c.in_ok-ask.field-0 (life_of now) (life_of c.ask.new.self) (inr (sym c.has_failed-has_failed.ensures ∙ w.if-has_failed.true)) e
    ] in
    subst (λ (s : StartedSync). WaitStartedGoes s (life_of now) (life_of c.ask.new.self) (Err SyncFailed)) (sym c.in-Named.is) goes

pub returns-clause-goes : goal.returns-clause-goes
returns-clause-goes c =
    let now = c.args.self.now in
    let name = c.in-Named.name in
    let e = life_after (actions.WaitSync name) false now c.ask.new.self (sym c.if-branch.false ∙ c.in_ok-ask.ensures.failed) c.in_ok-ask.ensures.told in
    subst (λ (s : StartedSync). WaitStartedGoes s (life_of now) (life_of c.ask.new.self) (Ok tt)) (sym c.in-Named.is) (wait_goes name (life_of now) (life_of c.ask.new.self) (sym c.has_failed-has_failed.ensures ∙ c.if-has_failed.false) e)
