use Rattle.std.proofs.Common.{inl, Ok, Err, ◌≡◌, ◌∷◌, ◌++◌, [], length, subst, sym}
use Rattle.std.specs.Int.NonZero.{non_zero_usize_get}
use Rattle.paged.specs.Ready.{IsReady}
use Rattle.items.specs.State.{ItemsState}
use Rattle.items.specs.Standing.{AreItems, ItemsCallLeaves, items_content, count, items_of}
use Rattle.items.specs.Calls.{DurabilityLasts, PushGoes}
use Rattle.items.proofs.Standing.{stand}
use Rattle.items.proofs.Calls.{lasts_through, not_pushed, push_leaves, pushed, ready}
use Rattle.items.proofs.items.Items.push.Given.{Over}
use Rattle.items.proofs.items.Items.push.Goals as goal
use Rattle.items.proofs.items.Items.push.Goals.{After-append}

pub append-requires : goal.append-requires
append-requires g c = record {
  ready = inl (subst (λ (v : ItemsState). IsReady g.H.Sum.sum_of v.writer c.args.cache.now (g.B.Blob.life c.args.blob.now)) (sym c.self.view_is)
      (stand g.H.Sum.sum_of c.args.self c.args.cache.now (g.B.Blob.life c.args.blob.now) c.requires.items).ready);
}

pub returns-in-Ok-clause-goes : goal.returns-in-Ok-clause-goes
returns-in-Ok-clause-goes g c =
    let sum = g.H.Sum.sum_of in
    let s : ItemsState = record { writer = c.self.inside.writer; size = non_zero_usize_get c.self.inside.size } in
    let cache = c.args.cache.now in
    let after = c.append.new.cache in
    let old = g.B.Blob.life c.args.blob.now in
    let new = g.B.Blob.life c.append.new.blob in
    let item = c.args.item.now in
    let goes = c.in-Ok.ensures in
    let now = c.new.result in
    let i = c.len-at.result in
    subst (λ (v : ItemsState). AreItems sum v cache old → length item ≡ v.size → i ≡ count v → PushGoes sum v item after old new (Ok (now, i))) c.self.view_is
    (λ items long number. record { answers = pushed sum s item cache after old new c.in-Ok.writer now i items long number goes.goes.answers.holds c.new.ensures.writer c.new.ensures.size (goes.ready.0 (stand sum s cache old items).ready); overflow = λ passes. absurd (cc (goes.goes.overflow passes)) })
    c.requires.items c.requires.size c.len-at.ensures.count

pub returns-in-Ok-clause-ready : goal.returns-in-Ok-clause-ready
returns-in-Ok-clause-ready g c =
    let sum = g.H.Sum.sum_of in
    let s : ItemsState = record { writer = c.self.inside.writer; size = non_zero_usize_get c.self.inside.size } in
    let cache = c.args.cache.now in
    let old = g.B.Blob.life c.args.blob.now in
    let new = g.B.Blob.life c.append.new.blob in
    let goes = c.in-Ok.ensures in
    let now = c.new.result in
    let lasting : DurabilityLasts sum c.args.self now old new =
    subst (λ (v : ItemsState). AreItems sum v cache old → DurabilityLasts sum v now old new) c.self.view_is (λ items. lasts_through sum s c.args.item.now (items_content s old ++ c.args.item.now) cache old new c.in-Ok.writer now items goes.goes.answers.holds c.new.ensures.writer c.new.ensures.size goes.owes.through) c.requires.items in
    (ready g.H.Sum.sum_of c.args.self c.args.item.now c.append.new.cache (g.B.Blob.life c.args.blob.now) (g.B.Blob.life c.append.new.blob) c.new.result (returns-in-Ok-clause-goes g c).answers.goes, lasting)

left : (g : Over) (c : After-append g)
    → ItemsCallLeaves g.H.Sum.sum_of c.args.self (items_of c.args.self (g.B.Blob.life c.args.blob.now) ++ c.args.item.now ∷ []) c.args.cache.now c.append.new.cache (g.B.Blob.life c.args.blob.now) (g.B.Blob.life c.append.new.blob)
left g c =
    let sum = g.H.Sum.sum_of in
    let s : ItemsState = record { writer = c.self.inside.writer; size = non_zero_usize_get c.self.inside.size } in
    let cache = c.args.cache.now in
    let after = c.append.new.cache in
    let old = g.B.Blob.life c.args.blob.now in
    let new = g.B.Blob.life c.append.new.blob in
    let item = c.args.item.now in
    let goes = c.append.ensures in
    subst (λ (v : ItemsState). AreItems sum v cache old → length item ≡ v.size → ItemsCallLeaves sum v (items_of v old ++ item ∷ []) cache after old new) c.self.view_is
    (λ items long. push_leaves sum s item cache after old new items long goes.owes)
    c.requires.items c.requires.size

pub returns-in-Ok-clause-leaves : goal.returns-in-Ok-clause-leaves
returns-in-Ok-clause-leaves g c = left g (goal.at.returns-in-Ok-clause-leaves g c).After-append

pub returns-in-Err-clause-goes : goal.returns-in-Err-clause-goes
returns-in-Err-clause-goes g c =
    let sum = g.H.Sum.sum_of in
    let s : ItemsState = record { writer = c.self.inside.writer; size = non_zero_usize_get c.self.inside.size } in
    let after = c.append.new.cache in
    let old = g.B.Blob.life c.args.blob.now in
    let new = g.B.Blob.life c.append.new.blob in
    let e = c.in-Err.error in
    subst (λ (v : ItemsState). PushGoes sum v c.args.item.now after old new (Err e)) c.self.view_is
    (record { answers = not_pushed sum s c.args.item.now after old new e c.in-Err.ensures.goes.answers; overflow = λ passes. cc (c.in-Err.ensures.goes.overflow passes) })

pub returns-in-Err-clause-leaves : goal.returns-in-Err-clause-leaves
returns-in-Err-clause-leaves g c = left g (goal.at.returns-in-Err-clause-leaves g c).After-append
