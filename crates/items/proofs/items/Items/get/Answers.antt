use Rattle.std.proofs.Common.{arith, ◌≡◌, ◌*◌, length, Ok, Err, refl, subst, sym}
use Rattle.std.specs.Int.NonZero.{non_zero_usize_get}
use Rattle.crash.specs.Looks.{looked_start}
use Rattle.paged_read.specs.Tail.{CanRead}
use Rattle.paged.specs.Caches.{tail_of}
use Rattle.paged.specs.Reads.{size_of}
use Rattle.items.specs.State.{ItemsState}
use Rattle.items.specs.Standing.{AreItems, ItemsCallLeaves, items_content, count, items_of}
use Rattle.paged_read.specs.Ranges.{AsksForMissing}
use Rattle.items.specs.Calls.{GetGoes, ItemIsAt}
use Rattle.items.proofs.Laws.{first_of_itself}
use Rattle.items.proofs.Standing.{nothing_leaves, read_items, read_leaves, stand}
use Rattle.items.proofs.Calls.{are_ready}
use Rattle.items.proofs.Reading.{asks_item, asks_none, got, not_got}
use Rattle.items.proofs.items.Items.get.Given.{Over}
use Rattle.items.proofs.items.Items.get.Goals as goal
use Rattle.items.proofs.items.Items.get.Goals.{After-read_into}

pub read_into-requires : goal.read_into-requires
read_into-requires g c = record {
  can = subst (λ (v : ItemsState). CanRead (tail_of v.writer) c.args.cache.now (g.B.Blob.life c.args.blob.now).present) (sym c.self.view_is)
      (stand g.H.Sum.sum_of c.args.self.now c.args.cache.now (g.B.Blob.life c.args.blob.now) c.requires.items).ready.can;
}

pub returns-in-Ok-clause-goes : goal.returns-in-Ok-clause-goes
returns-in-Ok-clause-goes g c =
    let sum = g.H.Sum.sum_of in
    let s : ItemsState = record { writer = c.self.inside.writer; size = non_zero_usize_get c.self.inside.size } in
    let cache = c.args.cache.now in
    let after = c.read_into.new.cache in
    let old = g.B.Blob.life c.args.blob.now in
    let new = g.B.Blob.life c.read_into.new.blob in
    let was = c.args.buf.now in
    let buf = c.read_into.new.buf in
    let goes = c.read_into.ensures in
    let i = c.args.i in
    subst (λ (v : ItemsState). AreItems sum v cache old → ItemIsAt v.size (count v) i (Ok c.in-Ok.offset) → length was ≡ v.size → GetGoes v.size (items_content v old) i buf old new c.read_into.result) c.self.view_is
    (λ items finds long.
    let stood = stand sum s cache old items in
    got sum s.size (tail_of s.writer) cache i c.in-Ok.offset buf was old new c.read_into.result stood.size stood.whole finds long (goes.goes.never_if_sound s.writer stood.ready.sound refl (omega arith)) goes.goes.answers)
    c.requires.items c.in-Ok.ensures c.requires.size

pub returns-in-Ok-clause-costs : goal.returns-in-Ok-clause-costs
returns-in-Ok-clause-costs g c =
    let sum = g.H.Sum.sum_of in
    let s : ItemsState = record { writer = c.self.inside.writer; size = non_zero_usize_get c.self.inside.size } in
    let cache = c.args.cache.now in
    let after = c.read_into.new.cache in
    let old = g.B.Blob.life c.args.blob.now in
    let new = g.B.Blob.life c.read_into.new.blob in
    let was = c.args.buf.now in
    let i = c.args.i in
    subst (λ (v : ItemsState). ItemIsAt v.size (count v) i (Ok c.in-Ok.offset) → length was ≡ v.size → AsksForMissing cache (tail_of v.writer) (i * v.size, v.size) old new) c.self.view_is
    (λ finds long. asks_item s.size (tail_of s.writer) cache i c.in-Ok.offset (length was) old new finds.0 long c.read_into.ensures.costs.asks) c.in-Ok.ensures c.requires.size

-- what the read leaves
left : (g : Over) (c : After-read_into g)
    → (AreItems g.H.Sum.sum_of c.args.self.now c.read_into.new.cache (g.B.Blob.life c.read_into.new.blob) × (items_content c.args.self.now (g.B.Blob.life c.read_into.new.blob) ≡ items_content c.args.self.now (g.B.Blob.life c.args.blob.now)))
    × ItemsCallLeaves g.H.Sum.sum_of c.args.self.now (items_of c.args.self.now (g.B.Blob.life c.args.blob.now)) c.args.cache.now c.read_into.new.cache (g.B.Blob.life c.args.blob.now) (g.B.Blob.life c.read_into.new.blob)
left g c =
    let sum = g.H.Sum.sum_of in
    let s : ItemsState = record { writer = c.self.inside.writer; size = non_zero_usize_get c.self.inside.size } in
    let cache = c.args.cache.now in
    let after = c.read_into.new.cache in
    let old = g.B.Blob.life c.args.blob.now in
    let new = g.B.Blob.life c.read_into.new.blob in
    let goes = c.read_into.ensures in
    subst (λ (v : ItemsState). AreItems sum v cache old → (AreItems sum v after new × (items_content v new ≡ items_content v old)) × ItemsCallLeaves sum v (items_of v old) cache after old new) c.self.view_is
    (λ items.
    let fresh = goes.leaves.fresh (stand sum s cache old items).ready.fresh in
    (read_items sum s cache after old new items goes.leaves.looked fresh (goes.leaves.can_read (tail_of s.writer) (stand sum s cache old items).ready.can), read_leaves sum s cache after old new items goes.leaves.looked fresh goes.leaves.others (λ t held below. goes.leaves.tails t held) goes.leaves.replays)) c.requires.items

pub returns-in-Ok-clause-ready : goal.returns-in-Ok-clause-ready
returns-in-Ok-clause-ready g c =
    let left_items = (left g (goal.at.returns-in-Ok-clause-ready g c).After-read_into).0 in
    (are_ready g.H.Sum.sum_of c.args.self.now c.read_into.new.cache (g.B.Blob.life c.read_into.new.blob) left_items.0, left_items.1, c.read_into.ensures.goes.size)

pub returns-in-Ok-clause-leaves : goal.returns-in-Ok-clause-leaves
returns-in-Ok-clause-leaves g c = record { looked = c.read_into.ensures.leaves.looked; call = (left g (goal.at.returns-in-Ok-clause-leaves g c).After-read_into).1 }

pub returns-in-Err-clause-goes : goal.returns-in-Err-clause-goes
returns-in-Err-clause-goes g c =
    let sum = g.H.Sum.sum_of in
    let s : ItemsState = record { writer = c.self.inside.writer; size = non_zero_usize_get c.self.inside.size } in
    let cache = c.args.cache.now in
    let life = g.B.Blob.life c.args.blob.now in
    let e = c.in-Err.error in
    let i = c.args.i in
    subst (λ (v : ItemsState). AreItems sum v cache life → ItemIsAt v.size (count v) i (Err e) → GetGoes v.size (items_content v life) i c.args.buf.now life life (Err e)) c.self.view_is
    (λ items finds. not_got s.size (size_of s.writer) (items_content s life) i c.args.buf.now life e (stand sum s cache life items).size finds)
    c.requires.items c.in-Err.ensures

pub returns-in-Err-clause-costs : goal.returns-in-Err-clause-costs
returns-in-Err-clause-costs g c = asks_none (tail_of c.args.self.now.writer) c.args.cache.now (c.args.i * c.args.self.now.size, c.args.self.now.size) (g.B.Blob.life c.args.blob.now)

pub returns-in-Err-clause-ready : goal.returns-in-Err-clause-ready
returns-in-Err-clause-ready g c = (are_ready g.H.Sum.sum_of c.args.self.now c.args.cache.now (g.B.Blob.life c.args.blob.now) c.requires.items, refl, refl)

pub returns-in-Err-clause-leaves : goal.returns-in-Err-clause-leaves
returns-in-Err-clause-leaves g c =
    let life = g.B.Blob.life c.args.blob.now in
    record {
      looked = looked_start life;
      call = nothing_leaves g.H.Sum.sum_of c.args.self.now (items_of c.args.self.now life) c.args.cache.now life (first_of_itself (items_of c.args.self.now life)) c.requires.items;
    }
