-- What a case of items runs over, between two of its lines.
use Rattle.std.specs.Prelude.{◌≡◌, ◌≤◌, ℕ, List, Option, IfSome}
use Rattle.disk.specs.Disk.{Life}
use Rattle.cache.specs.CacheState.{CacheState}
use Rattle.cache.specs.Pages.{IsFresh}
use Rattle.items.specs.State.{ItemsState, ItemsReplayState, ItemsSnapshotState}
use Rattle.items.specs.Standing.{AreItems, IsItemsReplay, IsItemsSnapshot}

-- the snapshot's full pages are not past those of the items
abbrev pub IsSnapshotBelow : ItemsState → ItemsSnapshotState → Type 0
IsSnapshotBelow s r = r.tail.full_pages ≤ s.writer.full_pages

-- the replay's pages have the size of the items' pages, and its full pages are not past theirs
abbrev pub IsAlong : ItemsState → ItemsReplayState → Type 0
IsAlong s r =
    (r.replay.tail.page_size ≡ s.writer.page_size)
    × (r.replay.tail.full_pages ≤ s.writer.full_pages)

-- the items, the snapshot and the replay, where they are there, are sound over the blob, and the
-- cache is fresh
pub record AreSet (sum : List ℕ → ℕ) (items : Option ItemsState)
    (snapshot : Option ItemsSnapshotState) (replay : Option ItemsReplayState) (cache : CacheState)
    (life : Life) : Type 0 where
  pub fresh : IsFresh cache
  pub stand : IfSome items (λ s. AreItems sum s cache life)
  pub sealed : IfSome snapshot (λ r. IsItemsSnapshot sum r cache life)
  pub replays : IfSome replay (λ r. IsItemsReplay sum r life)
  pub below : IfSome items (λ s. IfSome snapshot (IsSnapshotBelow s))
  pub along : IfSome items (λ s. IfSome replay (IsAlong s))
