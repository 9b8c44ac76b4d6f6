use Rattle.std.proofs.Common.{◌≡◌, ◌∙◌, ◌*◌, ℕ, List, map, length, ap, ap₂, Ok, Err, refl, subst, sym}
use Rattle.std.specs.Int.NonZero.{non_zero_usize_get}
use Rattle.std.proofs.lemmas.List.{length-map}
use Rattle.paged_read.specs.Tail.{CanRead, tail_size}
use Rattle.items.specs.State.{ItemsSnapshotState}
use Rattle.items.specs.Standing.{IsItemsSnapshot, SnapshotReadLeaves, bytes_over, count_over}
use Rattle.page.specs.Geometry.{AreInOrder}
use Rattle.paged_read.specs.Batch.{ranges_of}
use Rattle.paged_read.specs.Ranges.{AsksOnce}
use Rattle.items.specs.Calls.{GetManyGoes, item_ranges, ItemsAreAt}
use Rattle.items.proofs.Standing.{nothing_read, only_reads, over, still_over}
use Rattle.items.proofs.Reading.{are_in_order, asks_items, asks_no_items, got_many, many_not_got}
use Rattle.items.proofs.snapshot.ItemsSnapshot.get_many.Given.{Over}
use Rattle.items.proofs.snapshot.ItemsSnapshot.get_many.Goals as goal
use Rattle.items.proofs.snapshot.ItemsSnapshot.get_many.Goals.{After-read_many_into}

pub read_many_into-requires-clause-can : goal.read_many_into-requires-clause-can
read_many_into-requires-clause-can g c =
    subst (λ (v : ItemsSnapshotState). CanRead v.tail c.args.cache.now (g.B.Blob.life c.args.blob.now).present) (sym c.self.view_is)
    (over g.H.Sum.sum_of c.args.self.now c.args.cache.now (g.B.Blob.life c.args.blob.now) c.requires.snapshot).stands.can

pub read_many_into-requires-clause-asked : goal.read_many_into-requires-clause-asked
read_many_into-requires-clause-asked g c =
    let size = non_zero_usize_get c.self.inside.size in
    let is : c.deref.result.now ≡ map (λ i. i * size) c.args.indices.now = c.deref.ensures.value ∙ c.in-Ok.ensures.0 in (
      subst (λ (l : List ℕ). AreInOrder (ranges_of size l)) (sym is) (are_in_order size c.args.indices.now c.requires.asked.0),
      c.requires.asked.1 ∙ ap₂ (λ (n m : ℕ). n * m) (sym (ap (λ (l : List ℕ). length l) is ∙ length-map c.args.indices.now (λ (i : ℕ). i * size))) (sym (ap (λ (v : ItemsSnapshotState). v.size) c.self.view_is)),
    )

pub returns-in-Ok-clause-goes : goal.returns-in-Ok-clause-goes
returns-in-Ok-clause-goes g c =
    let sum = g.H.Sum.sum_of in
    let r : ItemsSnapshotState = record { tail = c.self.inside.snapshot; size = non_zero_usize_get c.self.inside.size } in
    let cache = c.args.cache.now in
    let old = g.B.Blob.life c.args.blob.now in
    let new = g.B.Blob.life c.read_many_into.new.blob in
    let buf = c.read_many_into.new.buf in
    let indices = c.args.indices.now in
    let goes = c.read_many_into.ensures in
    subst (λ (v : ItemsSnapshotState). IsItemsSnapshot sum v cache old → c.len.result ≡ count_over v → GetManyGoes v.size v.tail (bytes_over v old) indices cache buf old new c.read_many_into.result) c.self.view_is
    (λ snapshot is.
    let stood = over sum r cache old snapshot in
    let finds : ItemsAreAt r.size (count_over r) indices (Ok c.in-Ok.offsets) = subst (λ (n : ℕ). ItemsAreAt r.size n indices (Ok c.in-Ok.offsets)) is c.in-Ok.ensures in
    got_many sum r.size r.tail cache indices c.deref.result.now buf old new c.read_many_into.result stood.size stood.whole (c.deref.ensures.value ∙ finds.0) finds.1 (goes.goes.never stood.stands.tail.full) goes.goes.answers)
    c.requires.snapshot c.len.ensures.count

pub returns-in-Ok-clause-costs : goal.returns-in-Ok-clause-costs
returns-in-Ok-clause-costs g c =
    let r : ItemsSnapshotState = record { tail = c.self.inside.snapshot; size = non_zero_usize_get c.self.inside.size } in
    let cache = c.args.cache.now in
    let old = g.B.Blob.life c.args.blob.now in
    let new = g.B.Blob.life c.read_many_into.new.blob in
    let indices = c.args.indices.now in
    subst (λ (v : ItemsSnapshotState). AsksOnce cache v.tail (item_ranges v.size indices) old new) c.self.view_is
    (asks_items r.size r.tail cache indices c.deref.result.now old new (c.deref.ensures.value ∙ c.in-Ok.ensures.0) c.read_many_into.ensures.costs.asks)

-- what the read leaves
left : (g : Over) (c : After-read_many_into g) → SnapshotReadLeaves g.H.Sum.sum_of c.args.self.now.tail.id c.args.cache.now c.read_many_into.new.cache (g.B.Blob.life c.args.blob.now) (g.B.Blob.life c.read_many_into.new.blob)
left g c =
    let goes = c.read_many_into.ensures in
    subst (λ (v : ItemsSnapshotState). SnapshotReadLeaves g.H.Sum.sum_of v.tail.id c.args.cache.now c.read_many_into.new.cache (g.B.Blob.life c.args.blob.now) (g.B.Blob.life c.read_many_into.new.blob)) c.self.view_is
    (only_reads g.H.Sum.sum_of c.self.inside.snapshot.id c.args.cache.now c.read_many_into.new.cache (g.B.Blob.life c.args.blob.now) (g.B.Blob.life c.read_many_into.new.blob) goes.leaves.looked goes.leaves.fresh goes.leaves.others goes.leaves.tails goes.leaves.replays)

pub returns-in-Ok-clause-leaves : goal.returns-in-Ok-clause-leaves
returns-in-Ok-clause-leaves g c = left g (goal.at.returns-in-Ok-clause-leaves g c).After-read_many_into

pub returns-in-Ok-clause-ready : goal.returns-in-Ok-clause-ready
returns-in-Ok-clause-ready g c =
    let sum = g.H.Sum.sum_of in
    let r : ItemsSnapshotState = record { tail = c.self.inside.snapshot; size = non_zero_usize_get c.self.inside.size } in
    let cache = c.args.cache.now in
    let after = c.read_many_into.new.cache in
    let old = g.B.Blob.life c.args.blob.now in
    let new = g.B.Blob.life c.read_many_into.new.blob in
    let same : IsItemsSnapshot sum c.args.self.now after new × (bytes_over c.args.self.now new ≡ bytes_over c.args.self.now old) =
    subst (λ (v : ItemsSnapshotState). IsItemsSnapshot sum v cache old → IsItemsSnapshot sum v after new × (bytes_over v new ≡ bytes_over v old)) c.self.view_is
    (λ snapshot.
    let was = over sum r cache old snapshot in
    let stands = c.read_many_into.ensures.leaves.tails c.self.inside.snapshot (bytes_over r old) was.stands in
    ((still_over sum r cache after old new was stands).0, stands.tail.is)) c.requires.snapshot in
    (same.0, same.1, c.read_many_into.ensures.goes.size)

pub returns-in-Err-clause-leaves : goal.returns-in-Err-clause-leaves
returns-in-Err-clause-leaves g c = nothing_read g.H.Sum.sum_of c.args.self.now.tail.id c.args.cache.now (g.B.Blob.life c.args.blob.now)

pub returns-in-Err-clause-ready : goal.returns-in-Err-clause-ready
returns-in-Err-clause-ready g c = (c.requires.snapshot, refl, refl)

pub returns-in-Err-clause-goes : goal.returns-in-Err-clause-goes
returns-in-Err-clause-goes g c =
    let sum = g.H.Sum.sum_of in
    let r : ItemsSnapshotState = record { tail = c.self.inside.snapshot; size = non_zero_usize_get c.self.inside.size } in
    let cache = c.args.cache.now in
    let life = g.B.Blob.life c.args.blob.now in
    let e = c.in-Err.error in
    let indices = c.args.indices.now in
    subst (λ (v : ItemsSnapshotState). IsItemsSnapshot sum v cache life → c.len.result ≡ count_over v → GetManyGoes v.size v.tail (bytes_over v life) indices cache c.args.buf.now life life (Err e)) c.self.view_is
    (λ snapshot is. many_not_got r.size (tail_size r.tail) r.tail (bytes_over r life) indices cache c.args.buf.now life e (over sum r cache life snapshot).size (subst (λ (n : ℕ). ItemsAreAt r.size n indices (Err e)) is c.in-Err.ensures))
    c.requires.snapshot c.len.ensures.count

pub returns-in-Err-clause-costs : goal.returns-in-Err-clause-costs
returns-in-Err-clause-costs g c = asks_no_items c.args.self.now.tail c.args.cache.now (item_ranges c.args.self.now.size c.args.indices.now) (g.B.Blob.life c.args.blob.now)
