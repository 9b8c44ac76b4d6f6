use Rattle.std.proofs.Common.{inl, subst, sym, []}
use Rattle.std.specs.Int.NonZero.{non_zero_usize_get}
use Rattle.paged.specs.Ready.{IsReady}
use Rattle.items.specs.State.{ItemsState}
use Rattle.items.specs.Standing.{AreItems, ItemsCallLeaves, items_content, items_of}
use Rattle.items.specs.Calls.{AreSynced, DurabilityLasts}
use Rattle.items.proofs.Standing.{owed_same, stand}
use Rattle.items.proofs.Calls.{lasts_through, ready, synced}
use Rattle.items.proofs.items.Items.sync.Given.{Over}
use Rattle.items.proofs.items.Items.sync.Goals as goal
use Rattle.items.proofs.items.Items.sync.Goals.{After-sync}

pub sync-requires : goal.sync-requires
sync-requires g c = record {
  ready = inl (subst (λ (v : ItemsState). IsReady g.H.Sum.sum_of v.writer c.args.cache.now (g.B.Blob.life c.args.blob.now)) (sym c.self.view_is)
      (stand g.H.Sum.sum_of c.args.self c.args.cache.now (g.B.Blob.life c.args.blob.now) c.requires.items).ready);
}

pub returns-in-Ok-clause-goes : goal.returns-in-Ok-clause-goes
returns-in-Ok-clause-goes g c =
    let sum = g.H.Sum.sum_of in
    let s : ItemsState = record { writer = c.self.inside.writer; size = non_zero_usize_get c.self.inside.size } in
    let cache = c.args.cache.now in
    let after = c.sync.new.cache in
    let old = g.B.Blob.life c.args.blob.now in
    let new = g.B.Blob.life c.sync.new.blob in
    let goes = c.in-Ok.ensures in
    let now = c.new.result in
    subst (λ (v : ItemsState). AreItems sum v cache old → AreSynced sum v after old new now) c.self.view_is
    (λ items. synced sum s cache after old new c.in-Ok.writer now items goes.goes c.new.ensures.writer c.new.ensures.size (goes.ready.0 (stand sum s cache old items).ready)) c.requires.items

pub returns-in-Ok-clause-ready : goal.returns-in-Ok-clause-ready
returns-in-Ok-clause-ready g c =
    let sum = g.H.Sum.sum_of in
    let s : ItemsState = record { writer = c.self.inside.writer; size = non_zero_usize_get c.self.inside.size } in
    let cache = c.args.cache.now in
    let old = g.B.Blob.life c.args.blob.now in
    let new = g.B.Blob.life c.sync.new.blob in
    let goes = c.in-Ok.ensures in
    let now = c.new.result in
    let lasting : DurabilityLasts sum c.args.self now old new =
    subst (λ (v : ItemsState). AreItems sum v cache old → DurabilityLasts sum v now old new) c.self.view_is (λ items. lasts_through sum s [] (items_content s old) cache old new c.in-Ok.writer now items goes.goes.holds c.new.ensures.writer c.new.ensures.size goes.owes.through) c.requires.items in
    (ready g.H.Sum.sum_of c.args.self [] c.sync.new.cache (g.B.Blob.life c.args.blob.now) (g.B.Blob.life c.sync.new.blob) c.new.result (returns-in-Ok-clause-goes g c).goes, lasting)

left : (g : Over) (c : After-sync g) → ItemsCallLeaves g.H.Sum.sum_of c.args.self (items_of c.args.self (g.B.Blob.life c.args.blob.now)) c.args.cache.now c.sync.new.cache (g.B.Blob.life c.args.blob.now) (g.B.Blob.life c.sync.new.blob)
left g c =
    let sum = g.H.Sum.sum_of in
    let s : ItemsState = record { writer = c.self.inside.writer; size = non_zero_usize_get c.self.inside.size } in
    let cache = c.args.cache.now in
    let after = c.sync.new.cache in
    let old = g.B.Blob.life c.args.blob.now in
    let new = g.B.Blob.life c.sync.new.blob in
    let goes = c.sync.ensures in
    subst (λ (v : ItemsState). AreItems sum v cache old → ItemsCallLeaves sum v (items_of v old) cache after old new) c.self.view_is
    (λ items. owed_same sum s cache after old new items goes.owes) c.requires.items

pub returns-in-Ok-clause-leaves : goal.returns-in-Ok-clause-leaves
returns-in-Ok-clause-leaves g c = left g (goal.at.returns-in-Ok-clause-leaves g c).After-sync

pub returns-in-Err-clause-leaves : goal.returns-in-Err-clause-leaves
returns-in-Err-clause-leaves g c = left g (goal.at.returns-in-Err-clause-leaves g c).After-sync
