-- What a call of items leaves of a snapshot and a replay, if there are such.
use Rattle.std.proofs.Common.{◌≡◌, ◌≤◌, ℕ, List, arith}
use Rattle.std.specs.Prelude.{Option, Some, None, IfSome}
use Rattle.disk.specs.Disk.{Life}
use Rattle.cache.specs.CacheState.{CacheState}
use Rattle.items.specs.State.{ItemsState, ItemsReplayState, ItemsSnapshotState}
use Rattle.items.specs.Standing.{AreItems, IsItemsReplay, IsItemsSnapshot, ItemsCallLeaves}
use Rattle.items.specs.Standing.{ReplayReadLeaves, ReplaysStay, SnapshotsStay}
use Rattle.items.specs.Calls.{GoReady}
use Rattle.conformance.specs.ItemStage.{AreSet, IsAlong, IsSnapshotBelow}

snapshot_stays : (sum : List ℕ → ℕ) (s : ItemsState) (snapshot : Option ItemsSnapshotState)
    (cache after : CacheState) (old new : Life)
    → SnapshotsStay sum s.writer.full_pages cache after old new → IfSome snapshot (IsSnapshotBelow s)
    → IfSome snapshot (λ r. IsItemsSnapshot sum r cache old)
    → IfSome snapshot (λ r. IsItemsSnapshot sum r after new)
snapshot_stays sum s None cache after old new stays below is = tt
snapshot_stays sum s (Some r) cache after old new stays below is = (stays r below is).0

replay_stays : (sum : List ℕ → ℕ) (s : ItemsState) (replay : Option ItemsReplayState)
    (old new : Life)
    → ReplaysStay sum s.writer.page_size s.writer.full_pages old new → IfSome replay (IsAlong s)
    → IfSome replay (λ r. IsItemsReplay sum r old) → IfSome replay (λ r. IsItemsReplay sum r new)
replay_stays sum s None old new stays along is = tt
replay_stays sum s (Some r) old new stays along is = (stays r along.0 along.1 is).0

snapshot_below : (s now : ItemsState) (snapshot : Option ItemsSnapshotState)
    → s.writer.full_pages ≤ now.writer.full_pages → IfSome snapshot (IsSnapshotBelow s)
    → IfSome snapshot (IsSnapshotBelow now)
snapshot_below s now None more below = tt
snapshot_below s now (Some r) more below = omega arith

replay_along : (s now : ItemsState) (replay : Option ItemsReplayState)
    → now.writer.page_size ≡ s.writer.page_size → s.writer.full_pages ≤ now.writer.full_pages
    → IfSome replay (IsAlong s) → IfSome replay (IsAlong now)
replay_along s now None same more along = tt
replay_along s now (Some r) same more along =
    let size = along.0 in
    let pages = along.1 in
    (omega arith, omega arith)

-- a call that gives the items back
pub goes_on : (sum : List ℕ → ℕ) (s now : ItemsState) (snapshot : Option ItemsSnapshotState)
    (replay : Option ItemsReplayState) (all : List (List ℕ)) (cache after : CacheState)
    (old new : Life) → AreSet sum (Some s) snapshot replay cache old
    → ItemsCallLeaves sum s all cache after old new → GoReady sum s now after new
    → AreSet sum (Some now) snapshot replay after new
goes_on sum s now snapshot replay all cache after old new set leaves ready = record {
  fresh = leaves.fresh;
  stand = ready.0.0;
  sealed = snapshot_stays sum s snapshot cache after old new leaves.snapshots set.below set.sealed;
  replays = replay_stays sum s replay old new leaves.replays set.along set.replays;
  below = snapshot_below s now snapshot ready.4 set.below;
  along = replay_along s now replay ready.2 ready.4 set.along;
}

-- a call that gives the items back, and a snapshot of them
pub seals : (sum : List ℕ → ℕ) (s now : ItemsState) (r : ItemsSnapshotState)
    (snapshot : Option ItemsSnapshotState) (replay : Option ItemsReplayState)
    (all : List (List ℕ)) (cache after : CacheState) (old new : Life)
    → AreSet sum (Some s) snapshot replay cache old → ItemsCallLeaves sum s all cache after old new
    → GoReady sum s now after new → IsItemsSnapshot sum r after new → IsSnapshotBelow now r
    → AreSet sum (Some now) (Some r) replay after new
seals sum s now r snapshot replay all cache after old new set leaves ready is below = record {
  fresh = leaves.fresh;
  stand = ready.0.0;
  sealed = is;
  replays = replay_stays sum s replay old new leaves.replays set.along set.replays;
  below = below;
  along = replay_along s now replay ready.2 ready.4 set.along;
}

-- a call that gives the items back, and a replay of them
pub begins : (sum : List ℕ → ℕ) (s now : ItemsState) (r : ItemsReplayState)
    (snapshot : Option ItemsSnapshotState) (replay : Option ItemsReplayState)
    (all : List (List ℕ)) (cache after : CacheState) (old new : Life)
    → AreSet sum (Some s) snapshot replay cache old → ItemsCallLeaves sum s all cache after old new
    → GoReady sum s now after new → IsItemsReplay sum r new → IsAlong now r
    → AreSet sum (Some now) snapshot (Some r) after new
begins sum s now r snapshot replay all cache after old new set leaves ready is along = record {
  fresh = leaves.fresh;
  stand = ready.0.0;
  sealed = snapshot_stays sum s snapshot cache after old new leaves.snapshots set.below set.sealed;
  replays = is;
  below = snapshot_below s now snapshot ready.4 set.below;
  along = along;
}

-- what a read by a replay leaves
snapshot_read : (sum : List ℕ → ℕ) (snapshot : Option ItemsSnapshotState) (cache : CacheState)
    (old new : Life) → ReplayReadLeaves sum old new
    → IfSome snapshot (λ r. IsItemsSnapshot sum r cache old)
    → IfSome snapshot (λ r. IsItemsSnapshot sum r cache new)
snapshot_read sum None cache old new reads is = tt
snapshot_read sum (Some r) cache old new reads is = (reads.snapshots r cache is).0

items_read : (sum : List ℕ → ℕ) (items : Option ItemsState) (cache : CacheState)
    (old new : Life) → ReplayReadLeaves sum old new
    → IfSome items (λ s. AreItems sum s cache old) → IfSome items (λ s. AreItems sum s cache new)
items_read sum None cache old new reads are = tt
items_read sum (Some s) cache old new reads are = (reads.items s cache are).0

still_along : (items : Option ItemsState) (r now : ItemsReplayState)
    → now.replay.tail ≡ r.replay.tail → IfSome items (λ s. IsAlong s r)
    → IfSome items (λ s. IsAlong s now)
still_along None r now same along = tt
still_along (Some s) r now same along = rw same along

-- a read by the replay, which stays over the same pages
pub moves : (sum : List ℕ → ℕ) (items : Option ItemsState) (snapshot : Option ItemsSnapshotState)
    (r now : ItemsReplayState) (cache : CacheState) (old new : Life)
    → AreSet sum items snapshot (Some r) cache old → ReplayReadLeaves sum old new
    → IsItemsReplay sum now new → now.replay.tail ≡ r.replay.tail
    → AreSet sum items snapshot (Some now) cache new
moves sum items snapshot r now cache old new set reads is same = record {
  fresh = set.fresh;
  stand = items_read sum items cache old new reads set.stand;
  sealed = snapshot_read sum snapshot cache old new reads set.sealed;
  replays = is;
  below = set.below;
  along = still_along items r now same set.along;
}
