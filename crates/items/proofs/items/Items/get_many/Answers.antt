use Rattle.std.proofs.Common.{arith, ◌≡◌, ◌∙◌, ◌*◌, ℕ, List, map, length, ap, ap₂, Ok, Err, refl, subst, sym}
use Rattle.std.specs.Int.NonZero.{non_zero_usize_get}
use Rattle.std.proofs.lemmas.List.{length-map}
use Rattle.page.specs.Geometry.{AreInOrder}
use Rattle.crash.specs.Looks.{looked_start}
use Rattle.paged_read.specs.Batch.{ranges_of}
use Rattle.paged_read.specs.Ranges.{AsksOnce}
use Rattle.paged_read.specs.Tail.{CanRead}
use Rattle.paged.specs.Caches.{tail_of}
use Rattle.paged.specs.Reads.{size_of}
use Rattle.items.specs.State.{ItemsState}
use Rattle.items.specs.Standing.{AreItems, ItemsCallLeaves, items_content, count, items_of}
use Rattle.items.specs.Calls.{GetManyGoes, item_ranges, ItemsAreAt}
use Rattle.items.proofs.Laws.{first_of_itself}
use Rattle.items.proofs.Standing.{nothing_leaves, read_items, read_leaves, stand}
use Rattle.items.proofs.Calls.{are_ready}
use Rattle.items.proofs.Reading.{are_in_order, asks_items, asks_no_items, got_many, many_not_got}
use Rattle.items.proofs.items.Items.get_many.Given.{Over}
use Rattle.items.proofs.items.Items.get_many.Goals as goal
use Rattle.items.proofs.items.Items.get_many.Goals.{After-read_many_into}

pub read_many_into-requires-clause-can : goal.read_many_into-requires-clause-can
read_many_into-requires-clause-can g c =
    subst (λ (v : ItemsState). CanRead (tail_of v.writer) c.args.cache.now (g.B.Blob.life c.args.blob.now).present) (sym c.self.view_is)
    (stand g.H.Sum.sum_of c.args.self.now c.args.cache.now (g.B.Blob.life c.args.blob.now) c.requires.items).ready.can

pub read_many_into-requires-clause-asked : goal.read_many_into-requires-clause-asked
read_many_into-requires-clause-asked g c =
    let size = non_zero_usize_get c.self.inside.size in
    let is : c.deref.result.now ≡ map (λ i. i * size) c.args.indices.now = c.deref.ensures.value ∙ c.in-Ok.ensures.0 in (
      subst (λ (l : List ℕ). AreInOrder (ranges_of size l)) (sym is) (are_in_order size c.args.indices.now c.requires.asked.0),
      c.requires.asked.1 ∙ ap₂ (λ (n m : ℕ). n * m) (sym (ap (λ (l : List ℕ). length l) is ∙ length-map c.args.indices.now (λ (i : ℕ). i * size))) (sym (ap (λ (v : ItemsState). v.size) c.self.view_is)),
    )

pub returns-in-Ok-clause-goes : goal.returns-in-Ok-clause-goes
returns-in-Ok-clause-goes g c =
    let sum = g.H.Sum.sum_of in
    let s : ItemsState = record { writer = c.self.inside.writer; size = non_zero_usize_get c.self.inside.size } in
    let cache = c.args.cache.now in
    let old = g.B.Blob.life c.args.blob.now in
    let new = g.B.Blob.life c.read_many_into.new.blob in
    let buf = c.read_many_into.new.buf in
    let indices = c.args.indices.now in
    let goes = c.read_many_into.ensures in
    subst (λ (v : ItemsState). AreItems sum v cache old → c.len.result ≡ count v → GetManyGoes v.size (tail_of v.writer) (items_content v old) indices cache buf old new c.read_many_into.result) c.self.view_is
    (λ items is.
    let stood = stand sum s cache old items in
    let finds : ItemsAreAt s.size (count s) indices (Ok c.in-Ok.offsets) = subst (λ (n : ℕ). ItemsAreAt s.size n indices (Ok c.in-Ok.offsets)) is c.in-Ok.ensures in
    got_many sum s.size (tail_of s.writer) cache indices c.deref.result.now buf old new c.read_many_into.result stood.size stood.whole (c.deref.ensures.value ∙ finds.0) finds.1 (goes.goes.never_if_sound s.writer stood.ready.sound refl (omega arith)) goes.goes.answers)
    c.requires.items c.len.ensures.count

pub returns-in-Ok-clause-costs : goal.returns-in-Ok-clause-costs
returns-in-Ok-clause-costs g c =
    let s : ItemsState = record { writer = c.self.inside.writer; size = non_zero_usize_get c.self.inside.size } in
    let cache = c.args.cache.now in
    let old = g.B.Blob.life c.args.blob.now in
    let new = g.B.Blob.life c.read_many_into.new.blob in
    let indices = c.args.indices.now in
    subst (λ (v : ItemsState). AsksOnce cache (tail_of v.writer) (item_ranges v.size indices) old new) c.self.view_is
    (asks_items s.size (tail_of s.writer) cache indices c.deref.result.now old new (c.deref.ensures.value ∙ c.in-Ok.ensures.0) c.read_many_into.ensures.costs.asks)

-- what the read leaves
left : (g : Over) (c : After-read_many_into g)
    → (AreItems g.H.Sum.sum_of c.args.self.now c.read_many_into.new.cache (g.B.Blob.life c.read_many_into.new.blob) × (items_content c.args.self.now (g.B.Blob.life c.read_many_into.new.blob) ≡ items_content c.args.self.now (g.B.Blob.life c.args.blob.now)))
    × ItemsCallLeaves g.H.Sum.sum_of c.args.self.now (items_of c.args.self.now (g.B.Blob.life c.args.blob.now)) c.args.cache.now c.read_many_into.new.cache (g.B.Blob.life c.args.blob.now) (g.B.Blob.life c.read_many_into.new.blob)
left g c =
    let sum = g.H.Sum.sum_of in
    let s : ItemsState = record { writer = c.self.inside.writer; size = non_zero_usize_get c.self.inside.size } in
    let cache = c.args.cache.now in
    let after = c.read_many_into.new.cache in
    let old = g.B.Blob.life c.args.blob.now in
    let new = g.B.Blob.life c.read_many_into.new.blob in
    let goes = c.read_many_into.ensures in
    subst (λ (v : ItemsState). AreItems sum v cache old → (AreItems sum v after new × (items_content v new ≡ items_content v old)) × ItemsCallLeaves sum v (items_of v old) cache after old new) c.self.view_is
    (λ items.
    let fresh = goes.leaves.fresh (stand sum s cache old items).ready.fresh in
    (read_items sum s cache after old new items goes.leaves.looked fresh (goes.leaves.can_read (tail_of s.writer) (stand sum s cache old items).ready.can), read_leaves sum s cache after old new items goes.leaves.looked fresh goes.leaves.others (λ t held below. goes.leaves.tails t held) goes.leaves.replays)) c.requires.items

pub returns-in-Ok-clause-ready : goal.returns-in-Ok-clause-ready
returns-in-Ok-clause-ready g c =
    let left_items = (left g (goal.at.returns-in-Ok-clause-ready g c).After-read_many_into).0 in
    (are_ready g.H.Sum.sum_of c.args.self.now c.read_many_into.new.cache (g.B.Blob.life c.read_many_into.new.blob) left_items.0, left_items.1, c.read_many_into.ensures.goes.size)

pub returns-in-Ok-clause-leaves : goal.returns-in-Ok-clause-leaves
returns-in-Ok-clause-leaves g c = record { looked = c.read_many_into.ensures.leaves.looked; call = (left g (goal.at.returns-in-Ok-clause-leaves g c).After-read_many_into).1 }

pub returns-in-Err-clause-goes : goal.returns-in-Err-clause-goes
returns-in-Err-clause-goes g c =
    let sum = g.H.Sum.sum_of in
    let s : ItemsState = record { writer = c.self.inside.writer; size = non_zero_usize_get c.self.inside.size } in
    let cache = c.args.cache.now in
    let life = g.B.Blob.life c.args.blob.now in
    let e = c.in-Err.error in
    let indices = c.args.indices.now in
    subst (λ (v : ItemsState). AreItems sum v cache life → c.len.result ≡ count v → GetManyGoes v.size (tail_of v.writer) (items_content v life) indices cache c.args.buf.now life life (Err e)) c.self.view_is
    (λ items is. many_not_got s.size (size_of s.writer) (tail_of s.writer) (items_content s life) indices cache c.args.buf.now life e (stand sum s cache life items).size (subst (λ (n : ℕ). ItemsAreAt s.size n indices (Err e)) is c.in-Err.ensures))
    c.requires.items c.len.ensures.count

pub returns-in-Err-clause-costs : goal.returns-in-Err-clause-costs
returns-in-Err-clause-costs g c = asks_no_items (tail_of c.args.self.now.writer) c.args.cache.now (item_ranges c.args.self.now.size c.args.indices.now) (g.B.Blob.life c.args.blob.now)

pub returns-in-Err-clause-ready : goal.returns-in-Err-clause-ready
returns-in-Err-clause-ready g c = (are_ready g.H.Sum.sum_of c.args.self.now c.args.cache.now (g.B.Blob.life c.args.blob.now) c.requires.items, refl, refl)

pub returns-in-Err-clause-leaves : goal.returns-in-Err-clause-leaves
returns-in-Err-clause-leaves g c =
    let life = g.B.Blob.life c.args.blob.now in
    record {
      looked = looked_start life;
      call = nothing_leaves g.H.Sum.sum_of c.args.self.now (items_of c.args.self.now life) c.args.cache.now life (first_of_itself (items_of c.args.self.now life)) c.requires.items;
    }
