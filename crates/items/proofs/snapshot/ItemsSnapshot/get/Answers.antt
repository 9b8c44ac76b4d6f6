use Rattle.std.proofs.Common.{◌≡◌, ◌*◌, ℕ, length, Ok, Err, refl, subst, sym}
use Rattle.std.specs.Int.NonZero.{non_zero_usize_get}
use Rattle.paged_read.specs.Tail.{CanRead, tail_size}
use Rattle.items.specs.State.{ItemsSnapshotState}
use Rattle.items.specs.Standing.{IsItemsSnapshot, SnapshotReadLeaves, bytes_over, count_over}
use Rattle.paged_read.specs.Ranges.{AsksForMissing}
use Rattle.items.specs.Calls.{GetGoes, ItemIsAt}
use Rattle.items.proofs.Standing.{nothing_read, only_reads, over, still_over}
use Rattle.items.proofs.Reading.{asks_item, asks_none, got, not_got}
use Rattle.items.proofs.snapshot.ItemsSnapshot.get.Given.{Over}
use Rattle.items.proofs.snapshot.ItemsSnapshot.get.Goals as goal
use Rattle.items.proofs.snapshot.ItemsSnapshot.get.Goals.{After-read_into}

pub read_into-requires : goal.read_into-requires
read_into-requires g c = record {
  can =
      subst (λ (v : ItemsSnapshotState). CanRead v.tail c.args.cache.now (g.B.Blob.life c.args.blob.now).present) (sym c.self.view_is)
      (over g.H.Sum.sum_of c.args.self.now c.args.cache.now (g.B.Blob.life c.args.blob.now) c.requires.snapshot).stands.can;
}

pub returns-in-Ok-clause-goes : goal.returns-in-Ok-clause-goes
returns-in-Ok-clause-goes g c =
    let sum = g.H.Sum.sum_of in
    let r : ItemsSnapshotState = record { tail = c.self.inside.snapshot; size = non_zero_usize_get c.self.inside.size } in
    let cache = c.args.cache.now in
    let old = g.B.Blob.life c.args.blob.now in
    let new = g.B.Blob.life c.read_into.new.blob in
    let was = c.args.buf.now in
    let buf = c.read_into.new.buf in
    let goes = c.read_into.ensures in
    let i = c.args.i in
    subst (λ (v : ItemsSnapshotState). IsItemsSnapshot sum v cache old → c.len.result ≡ count_over v → length was ≡ v.size → GetGoes v.size (bytes_over v old) i buf old new c.read_into.result) c.self.view_is
    (λ snapshot is long.
    let stood = over sum r cache old snapshot in
    got sum r.size r.tail cache i c.in-Ok.offset buf was old new c.read_into.result stood.size stood.whole (subst (λ (n : ℕ). ItemIsAt r.size n i (Ok c.in-Ok.offset)) is c.in-Ok.ensures) long (goes.goes.never stood.stands.tail.full) goes.goes.answers)
    c.requires.snapshot c.len.ensures.count c.requires.size

pub returns-in-Ok-clause-costs : goal.returns-in-Ok-clause-costs
returns-in-Ok-clause-costs g c =
    let sum = g.H.Sum.sum_of in
    let r : ItemsSnapshotState = record { tail = c.self.inside.snapshot; size = non_zero_usize_get c.self.inside.size } in
    let cache = c.args.cache.now in
    let old = g.B.Blob.life c.args.blob.now in
    let new = g.B.Blob.life c.read_into.new.blob in
    let was = c.args.buf.now in
    let i = c.args.i in
    subst (λ (v : ItemsSnapshotState). length was ≡ v.size → AsksForMissing cache v.tail (i * v.size, v.size) old new) c.self.view_is
    (λ long. asks_item r.size r.tail cache i c.in-Ok.offset (length was) old new c.in-Ok.ensures.0 long c.read_into.ensures.costs.asks) c.requires.size

-- what the read leaves
left : (g : Over) (c : After-read_into g) → SnapshotReadLeaves g.H.Sum.sum_of c.args.self.now.tail.id c.args.cache.now c.read_into.new.cache (g.B.Blob.life c.args.blob.now) (g.B.Blob.life c.read_into.new.blob)
left g c =
    let goes = c.read_into.ensures in
    subst (λ (v : ItemsSnapshotState). SnapshotReadLeaves g.H.Sum.sum_of v.tail.id c.args.cache.now c.read_into.new.cache (g.B.Blob.life c.args.blob.now) (g.B.Blob.life c.read_into.new.blob)) c.self.view_is
    (only_reads g.H.Sum.sum_of c.self.inside.snapshot.id c.args.cache.now c.read_into.new.cache (g.B.Blob.life c.args.blob.now) (g.B.Blob.life c.read_into.new.blob) goes.leaves.looked goes.leaves.fresh goes.leaves.others goes.leaves.tails goes.leaves.replays)

pub returns-in-Ok-clause-leaves : goal.returns-in-Ok-clause-leaves
returns-in-Ok-clause-leaves g c = left g (goal.at.returns-in-Ok-clause-leaves g c).After-read_into

pub returns-in-Ok-clause-ready : goal.returns-in-Ok-clause-ready
returns-in-Ok-clause-ready g c =
    let sum = g.H.Sum.sum_of in
    let r : ItemsSnapshotState = record { tail = c.self.inside.snapshot; size = non_zero_usize_get c.self.inside.size } in
    let cache = c.args.cache.now in
    let after = c.read_into.new.cache in
    let old = g.B.Blob.life c.args.blob.now in
    let new = g.B.Blob.life c.read_into.new.blob in
    let same : IsItemsSnapshot sum c.args.self.now after new × (bytes_over c.args.self.now new ≡ bytes_over c.args.self.now old) =
    subst (λ (v : ItemsSnapshotState). IsItemsSnapshot sum v cache old → IsItemsSnapshot sum v after new × (bytes_over v new ≡ bytes_over v old)) c.self.view_is
    (λ snapshot.
    let was = over sum r cache old snapshot in
    let stands = c.read_into.ensures.leaves.tails c.self.inside.snapshot (bytes_over r old) was.stands in
    ((still_over sum r cache after old new was stands).0, stands.tail.is)) c.requires.snapshot in
    (same.0, same.1, c.read_into.ensures.goes.size)

pub returns-in-Err-clause-leaves : goal.returns-in-Err-clause-leaves
returns-in-Err-clause-leaves g c = nothing_read g.H.Sum.sum_of c.args.self.now.tail.id c.args.cache.now (g.B.Blob.life c.args.blob.now)

pub returns-in-Err-clause-ready : goal.returns-in-Err-clause-ready
returns-in-Err-clause-ready g c = (c.requires.snapshot, refl, refl)

pub returns-in-Err-clause-goes : goal.returns-in-Err-clause-goes
returns-in-Err-clause-goes g c =
    let sum = g.H.Sum.sum_of in
    let r : ItemsSnapshotState = record { tail = c.self.inside.snapshot; size = non_zero_usize_get c.self.inside.size } in
    let cache = c.args.cache.now in
    let life = g.B.Blob.life c.args.blob.now in
    let e = c.in-Err.error in
    let i = c.args.i in
    subst (λ (v : ItemsSnapshotState). IsItemsSnapshot sum v cache life → c.len.result ≡ count_over v → GetGoes v.size (bytes_over v life) i c.args.buf.now life life (Err e)) c.self.view_is
    (λ snapshot is. not_got r.size (tail_size r.tail) (bytes_over r life) i c.args.buf.now life e (over sum r cache life snapshot).size (subst (λ (n : ℕ). ItemIsAt r.size n i (Err e)) is c.in-Err.ensures))
    c.requires.snapshot c.len.ensures.count

pub returns-in-Err-clause-costs : goal.returns-in-Err-clause-costs
returns-in-Err-clause-costs g c = asks_none c.args.self.now.tail c.args.cache.now (c.args.i * c.args.self.now.size, c.args.self.now.size) (g.B.Blob.life c.args.blob.now)
