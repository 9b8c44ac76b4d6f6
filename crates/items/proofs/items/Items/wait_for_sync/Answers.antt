use Rattle.std.proofs.Common.{inl, [], subst, sym}
use Rattle.std.specs.Int.NonZero.{non_zero_usize_get}
use Rattle.cache.specs.CacheState.{CacheState}
use Rattle.writer_state.specs.Sound.{IsSound}
use Rattle.items.specs.State.{ItemsState}
use Rattle.items.specs.Standing.{AreItems, ItemsCallLeaves, items_content, items_of}
use Rattle.items.specs.Calls.{DurabilityLasts, HaveWaited}
use Rattle.items.proofs.Standing.{owed_wait, stand}
use Rattle.items.proofs.Calls.{lasts_through, ready, waited}
use Rattle.items.proofs.items.Items.wait_for_sync.Given.{Over}
use Rattle.items.proofs.items.Items.wait_for_sync.Goals as goal
use Rattle.items.proofs.items.Items.wait_for_sync.Goals.{After-wait_for_sync}

pub wait_for_sync-requires : goal.wait_for_sync-requires
wait_for_sync-requires g c = record {
  sound = inl (subst (λ (v : ItemsState). IsSound g.H.Sum.sum_of v.writer (g.B.Blob.life c.args.blob.now).present) (sym c.self.view_is)
      (stand g.H.Sum.sum_of c.args.self c.requires.items.0 (g.B.Blob.life c.args.blob.now) c.requires.items.1).ready.sound);
}

pub returns-in-Ok-clause-goes : goal.returns-in-Ok-clause-goes
returns-in-Ok-clause-goes g c = λ cache.
    let sum = g.H.Sum.sum_of in
    let s : ItemsState = record { writer = c.self.inside.writer; size = non_zero_usize_get c.self.inside.size } in
    let old = g.B.Blob.life c.args.blob.now in
    let new = g.B.Blob.life c.wait_for_sync.new.blob in
    let goes = c.in-Ok.ensures in
    let now = c.new.result in
    subst (λ (v : ItemsState). AreItems sum v cache old → HaveWaited sum v cache old new now) c.self.view_is
    (λ items. waited sum s cache old new c.in-Ok.writer now items goes.goes c.new.ensures.writer c.new.ensures.size ((goes.ready cache).0 (stand sum s cache old items).ready))

pub returns-in-Ok-clause-ready : goal.returns-in-Ok-clause-ready
returns-in-Ok-clause-ready g c = λ cache items.
    let sum = g.H.Sum.sum_of in
    let s : ItemsState = record { writer = c.self.inside.writer; size = non_zero_usize_get c.self.inside.size } in
    let old = g.B.Blob.life c.args.blob.now in
    let new = g.B.Blob.life c.wait_for_sync.new.blob in
    let goes = c.in-Ok.ensures in
    let now = c.new.result in (
      ready sum c.args.self [] cache old new now (returns-in-Ok-clause-goes g c cache items).goes,
      subst (λ (v : ItemsState). AreItems sum v cache old → DurabilityLasts sum v now old new) c.self.view_is
          (λ inside. lasts_through sum s [] (items_content s old) cache old new c.in-Ok.writer now inside goes.goes.holds c.new.ensures.writer c.new.ensures.size goes.owes.through) items,
    )

left : (g : Over) (c : After-wait_for_sync g) (cache : CacheState) → AreItems g.H.Sum.sum_of c.args.self cache (g.B.Blob.life c.args.blob.now)
    → ItemsCallLeaves g.H.Sum.sum_of c.args.self (items_of c.args.self (g.B.Blob.life c.args.blob.now)) cache cache (g.B.Blob.life c.args.blob.now) (g.B.Blob.life c.wait_for_sync.new.blob)
left g c cache =
    let sum = g.H.Sum.sum_of in
    let s : ItemsState = record { writer = c.self.inside.writer; size = non_zero_usize_get c.self.inside.size } in
    let old = g.B.Blob.life c.args.blob.now in
    let new = g.B.Blob.life c.wait_for_sync.new.blob in
    let goes = c.wait_for_sync.ensures in
    subst (λ (v : ItemsState). AreItems sum v cache old → ItemsCallLeaves sum v (items_of v old) cache cache old new) c.self.view_is
    (λ items. owed_wait sum s cache old new items goes.owes)

pub returns-in-Ok-clause-leaves : goal.returns-in-Ok-clause-leaves
returns-in-Ok-clause-leaves g c = left g (goal.at.returns-in-Ok-clause-leaves g c).After-wait_for_sync

pub returns-in-Err-clause-leaves : goal.returns-in-Err-clause-leaves
returns-in-Err-clause-leaves g c = left g (goal.at.returns-in-Err-clause-leaves g c).After-wait_for_sync
