use Rattle.std.proofs.Common.{true, false, refl}
use Rattle.disk.specs.declared.action.Action.TheVariants as actions
use Rattle.disk.proofs.Starts.{plain_went, same_bytes, sync_keeps}
use Rattle.disk.proofs.Stops.{lives_on}
use Rattle.std.specs.Prelude.{vec_capacity}
use Rattle.disk.proofs.vec_blob.VecBlobBlob.sync.Goals as goal

pub invariant_of-self : goal.invariant_of-self
invariant_of-self c =
    let a = actions.Sync in
    plain_went a c.self.inside.stopped c.self.inside.past.value c.sync.result.value c.self.inside.bytes.items c.self.inside.bytes.items c.self.inside.starts (sync_keeps c.self.inside.stopped) c.sync.ensures c.self.invariant (same_bytes a c.self.inside.stopped c.self.inside.bytes.items refl)

pub invariant_of-self-2 : goal.invariant_of-self-2
invariant_of-self-2 c =
    let a = actions.Sync in
    plain_went a c.self.inside.stopped c.self.inside.past.value c.sync.result.value c.self.inside.bytes.items c.self.inside.bytes.items c.self.inside.starts (sync_keeps c.self.inside.stopped) c.sync.ensures c.self.invariant (same_bytes a c.self.inside.stopped c.self.inside.bytes.items refl)

pub returns-then-self-clause-goes : goal.returns-then-self-clause-goes
returns-then-self-clause-goes c =
    let a = actions.Sync in
    lives_on a c.self.inside.stopped true c.self.inside.past.value (vec_capacity c.self.inside.bytes) c.args.self.now c.args.self.now.history c.sync.result.value c.self.view_is refl c.if-self.true c.sync.ensures

pub returns-clause-goes : goal.returns-clause-goes
returns-clause-goes c =
    let a = actions.Sync in
    lives_on a c.self.inside.stopped false c.self.inside.past.value (vec_capacity c.self.inside.bytes) c.args.self.now c.args.self.now.history c.sync.result.value c.self.view_is refl c.if-self.false c.sync.ensures
