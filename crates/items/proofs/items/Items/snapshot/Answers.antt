use Rattle.std.proofs.Common.{inl, subst, sym, []}
use Rattle.std.specs.Int.NonZero.{non_zero_usize_get}
use Rattle.paged.specs.Ready.{IsReady}
use Rattle.items.specs.State.{ItemsState}
use Rattle.items.specs.Standing.{AreItems, ItemsCallLeaves, items_content, items_of}
use Rattle.items.specs.State.{ItemsSnapshotState}
use Rattle.items.specs.Calls.{DurabilityLasts}
use Rattle.items.specs.Readers.{HasItemsSnapshot}
use Rattle.items.proofs.Standing.{owed_same, stand}
use Rattle.items.proofs.Calls.{lasts_through, ready}
use Rattle.items.proofs.Readers.{made}
use Rattle.items.proofs.items.Items.snapshot.Given.{Over}
use Rattle.items.proofs.items.Items.snapshot.Goals as goal
use Rattle.items.proofs.items.Items.snapshot.Goals.{After-snapshot}

pub snapshot-requires : goal.snapshot-requires
snapshot-requires g c = record {
  ready = inl (subst (λ (v : ItemsState). IsReady g.H.Sum.sum_of v.writer c.args.cache.now (g.B.Blob.life c.args.blob.now)) (sym c.self.view_is)
      (stand g.H.Sum.sum_of c.args.self c.args.cache.now (g.B.Blob.life c.args.blob.now) c.requires.items).ready);
}

pub returns-in-Ok-clause-goes : goal.returns-in-Ok-clause-goes
returns-in-Ok-clause-goes g c =
    let sum = g.H.Sum.sum_of in
    let s : ItemsState = record { writer = c.self.inside.writer; size = non_zero_usize_get c.self.inside.size } in
    let cache = c.args.cache.now in
    let after = c.snapshot.new.cache in
    let old = g.B.Blob.life c.args.blob.now in
    let new = g.B.Blob.life c.snapshot.new.blob in
    let goes = c.in-Ok.ensures in
    let now = c.new-items.result in
    subst (λ (r : ItemsSnapshotState). HasItemsSnapshot sum c.args.self after old new now r) (sym c.new.ensures)
    (subst (λ (v : ItemsState). AreItems sum v cache old → HasItemsSnapshot sum v after old new now (record { tail = c.in-Ok.snapshot; size = non_zero_usize_get c.self.inside.size })) c.self.view_is
    (λ items. made sum s cache after old new c.in-Ok.writer c.in-Ok.snapshot now items goes.goes c.new-items.ensures.writer c.new-items.ensures.size (goes.ready.0 (stand sum s cache old items).ready)) c.requires.items)

pub returns-in-Ok-clause-ready : goal.returns-in-Ok-clause-ready
returns-in-Ok-clause-ready g c =
    let has = returns-in-Ok-clause-goes g c in
    let sum = g.H.Sum.sum_of in
    let s : ItemsState = record { writer = c.self.inside.writer; size = non_zero_usize_get c.self.inside.size } in
    let cache = c.args.cache.now in
    let old = g.B.Blob.life c.args.blob.now in
    let new = g.B.Blob.life c.snapshot.new.blob in
    let goes = c.in-Ok.ensures in
    let now = c.new-items.result in
    let lasting : DurabilityLasts sum c.args.self now old new =
    subst (λ (v : ItemsState). AreItems sum v cache old → DurabilityLasts sum v now old new) c.self.view_is (λ items. lasts_through sum s [] (items_content s old) cache old new c.in-Ok.writer now items goes.goes.holds c.new-items.ensures.writer c.new-items.ensures.size goes.owes.through) c.requires.items in
    ((ready sum c.args.self [] c.snapshot.new.cache old new now has.goes, lasting), has.snapshot, has.size, has.id, has.below)

left : (g : Over) (c : After-snapshot g) → ItemsCallLeaves g.H.Sum.sum_of c.args.self (items_of c.args.self (g.B.Blob.life c.args.blob.now)) c.args.cache.now c.snapshot.new.cache (g.B.Blob.life c.args.blob.now) (g.B.Blob.life c.snapshot.new.blob)
left g c =
    let sum = g.H.Sum.sum_of in
    let s : ItemsState = record { writer = c.self.inside.writer; size = non_zero_usize_get c.self.inside.size } in
    let cache = c.args.cache.now in
    let after = c.snapshot.new.cache in
    let old = g.B.Blob.life c.args.blob.now in
    let new = g.B.Blob.life c.snapshot.new.blob in
    let goes = c.snapshot.ensures in
    subst (λ (v : ItemsState). AreItems sum v cache old → ItemsCallLeaves sum v (items_of v old) cache after old new) c.self.view_is
    (λ items. owed_same sum s cache after old new items goes.owes) c.requires.items

pub returns-in-Ok-clause-leaves : goal.returns-in-Ok-clause-leaves
returns-in-Ok-clause-leaves g c = left g (goal.at.returns-in-Ok-clause-leaves g c).After-snapshot

pub returns-in-Err-clause-leaves : goal.returns-in-Err-clause-leaves
returns-in-Err-clause-leaves g c = left g (goal.at.returns-in-Err-clause-leaves g c).After-snapshot
