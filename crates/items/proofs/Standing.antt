-- What calls leave of items, and of snapshots and replays of items.
use Rattle.std.proofs.Common.{◌≡◌, ℕ, ◌*◌, ◌/◌, ◌<◌, List, length, drop, refl, sym, ap, ◌∙◌, subst, arith}
use Rattle.disk.specs.Disk.{Disk, Life, IsImage}
use Rattle.cache.specs.CacheState.{CacheState}
use Rattle.cache.specs.Pages.{IsFresh}
use Rattle.crash.specs.Guard.{IsChanceFree}
use Rattle.crash.proofs.DistinctLaws.{vouched_alike}
use Rattle.crash.proofs.Moments.{keeps_alike}
use Rattle.crash.specs.Kept.{AllKeep, AllOnly}
use Rattle.crash.specs.Looks.{Looked, SameButLog, looked_start}
use Rattle.crash.specs.Moments.{through_start, through_then}
use Rattle.crash.specs.Started.{CoversStay, CoversThrough}
use Rattle.crash.specs.Stays.{KeepsAllFloors, LeavesOnly}
use Rattle.writer_state.specs.Sound.{IsSound, content}
use Rattle.paged_read.proofs.Outliving.{look_leaves_writers}
use Rattle.paged_read.specs.Replay.{IsReplayOf, LeavesAllReplays, LeavesReplays}
use Rattle.paged_read.specs.Snapshots.{LeavesAllTails, LeavesOthers, LeavesReads, LeavesTails, SnapshotReads}
use Rattle.paged_read.specs.Tail.{CanRead, HasFullPages}
use Rattle.paged.specs.Caches.{tail_of}
use Rattle.paged.specs.Owes.{Owes, OwesWaiting, owed_covers, owed_floors, owed_only}
use Rattle.items.specs.Items.{items, AreFirst}
use Rattle.items.specs.State.{ItemsReplayState, ItemsSnapshotState, ItemsState}
use Rattle.items.specs.Standing.{AllReplaysStay, AllSnapshotsStay, AreItems, ItemsCallLeaves, EachSnapshotStays, IsItemsReplay, IsItemsSnapshot, IsNewToItems, IsNewToSnapshots, SnapshotReadLeaves, ReplayReadLeaves, OtherSnapshotsStay, OtherItemsStay, ReplaysItems, ReplaysStay, SnapshotsStay, StandAsItems, StandsOverItems, bytes_along, items_content, bytes_over, items_left, items_of, items_over}
use Rattle.items.proofs.Laws.{first_of_itself, keeps_items, keeps_started, leaves_items}

-- ---- what the words stand for

pub stand : (sum : List ℕ → ℕ) (s : ItemsState) (cache : CacheState) (life : Life) → AreItems sum s cache life → StandAsItems sum s cache life
unfolding AreItems
stand sum s cache life items = items

pub are_items : (sum : List ℕ → ℕ) (s : ItemsState) (cache : CacheState) (life : Life) → StandAsItems sum s cache life → AreItems sum s cache life
unfolding AreItems
are_items sum s cache life items = items

pub over : (sum : List ℕ → ℕ) (r : ItemsSnapshotState) (cache : CacheState) (life : Life) → IsItemsSnapshot sum r cache life → StandsOverItems sum r cache life
unfolding IsItemsSnapshot
over sum r cache life snapshot = snapshot

pub is_snapshot : (sum : List ℕ → ℕ) (r : ItemsSnapshotState) (cache : CacheState) (life : Life) → StandsOverItems sum r cache life → IsItemsSnapshot sum r cache life
unfolding IsItemsSnapshot
is_snapshot sum r cache life stands = stands

pub along : (sum : List ℕ → ℕ) (r : ItemsReplayState) (life : Life) → IsItemsReplay sum r life → ReplaysItems sum r life
unfolding IsItemsReplay
along sum r life replay = replay

pub is_replay : (sum : List ℕ → ℕ) (r : ItemsReplayState) (life : Life) → ReplaysItems sum r life → IsItemsReplay sum r life
unfolding IsItemsReplay
is_replay sum r life replays = replays

-- ---- items

-- items that can still be read stay such
pub stay_items : (sum : List ℕ → ℕ) (s : ItemsState) (cache after : CacheState) (life : Life) → CanRead (tail_of s.writer) after life.present → IsFresh after → AreItems sum s cache life → AreItems sum s after life
stay_items sum s cache after life can fresh items =
    let stood = stand sum s cache life items in
    are_items sum s after life (record { some = stood.some; ready = record { sound = stood.ready.sound; can = can; fresh = fresh }; size = stood.size; whole = stood.whole; only = stood.only })

-- a call of another blob leaves items such
pub others_stay : (id : ℕ) (cache after : CacheState) → LeavesOthers id cache after → (IsFresh cache → IsFresh after) → OtherItemsStay id cache after
others_stay id cache after leaves fresh = λ sum s life apart items.
    let stood = stand sum s cache life items in
    stay_items sum s cache after life (leaves (tail_of s.writer) life.present apart stood.ready.can) (fresh stood.ready.fresh) items

-- no items have an id that is still to come
pub new_id : (id : ℕ) (cache : CacheState) → id ≡ cache.ids_given → IsNewToItems id cache
new_id id cache is = λ sum s life stood same. omega (arith, is, same, (stand sum s cache life stood).ready.can.given)

-- ---- snapshots

-- a snapshot that stands where it stood gives the items that it gave
pub still_over : (sum : List ℕ → ℕ) (r : ItemsSnapshotState) (cache after : CacheState) (old new : Life) → StandsOverItems sum r cache old → SnapshotReads sum r.tail (bytes_over r old) after new.present → IsItemsSnapshot sum r after new × (items_over r new ≡ items_over r old)
still_over sum r cache after old new was stands =
    let same : bytes_over r new ≡ bytes_over r old = stands.tail.is in (
      is_snapshot sum r after new (record {
        some = was.some;
        stands = subst (λ (l : List ℕ). SnapshotReads sum r.tail l after new.present) (sym same) stands;
        size = was.size ∙ sym (ap length same);
        whole = subst (λ (l : List ℕ). length l ≡ length l / r.size * r.size) (sym same) was.whole;
      }),
      ap (λ (l : List ℕ). items r.size l) same,
    )

pub snapshots_stay : (sum : List ℕ → ℕ) (full_pages : ℕ) (cache after : CacheState) (old new : Life) → LeavesTails sum full_pages cache after old new → SnapshotsStay sum full_pages cache after old new
snapshots_stay sum full_pages cache after old new leaves = λ r below snapshot.
    let was = over sum r cache old snapshot in
    still_over sum r cache after old new was (leaves r.tail (bytes_over r old) below was.stands)

pub all_snapshots_stay : (sum : List ℕ → ℕ) (cache after : CacheState) (old new : Life) → LeavesAllTails sum cache after old new → AllSnapshotsStay sum cache after old new
all_snapshots_stay sum cache after old new leaves = λ r snapshot.
    let was = over sum r cache old snapshot in
    still_over sum r cache after old new was (leaves r.tail (bytes_over r old) was.stands)

-- a snapshot that can be read with another cache stays one
readable_over : (sum : List ℕ → ℕ) (r : ItemsSnapshotState) (cache after : CacheState) (life : Life) → IsItemsSnapshot sum r cache life → (CanRead r.tail cache life.present → CanRead r.tail after life.present) → IsItemsSnapshot sum r after life
readable_over sum r cache after life snapshot can =
    let was = over sum r cache life snapshot in
    is_snapshot sum r after life (record {
      some = was.some;
      stands = record { tail = was.stands.tail; can = can was.stands.can };
      size = was.size;
      whole = was.whole;
    })

pub other_snapshots_stay : (id : ℕ) (cache after : CacheState) → LeavesOthers id cache after → OtherSnapshotsStay id cache after
other_snapshots_stay id cache after leaves = λ sum r life apart snapshot.
    readable_over sum r cache after life snapshot (leaves r.tail life.present apart)

pub each_snapshot_stays : (cache after : CacheState) → LeavesReads cache after → EachSnapshotStays cache after
each_snapshot_stays cache after leaves = λ sum r life snapshot. readable_over sum r cache after life snapshot (leaves r.tail life.present)

-- no snapshot is of a blob whose id is still to come
pub new_to_snapshots : (id : ℕ) (cache : CacheState) → id ≡ cache.ids_given → IsNewToSnapshots id cache
new_to_snapshots id cache is = λ sum r life snapshot same. omega (arith, is, same, (over sum r cache life snapshot).stands.can.given)

-- what follows a recovery leaves each snapshot: none is of its blob
pub each_snapshot_still : (id : ℕ) (cache mid after : CacheState) → id ≡ cache.ids_given → EachSnapshotStays cache mid → OtherSnapshotsStay id mid after → EachSnapshotStays cache after
each_snapshot_still id cache mid after is first second = λ sum r life snapshot.
    second sum r life (new_to_snapshots id cache is sum r life snapshot) (first sum r life snapshot)

-- ---- replays

-- a replay that gives what it gave has the items left that it had
pub still_along : (sum : List ℕ → ℕ) (r : ItemsReplayState) (old new : Life) → ReplaysItems sum r old → IsReplayOf sum r.replay (bytes_along r old) new.present → IsItemsReplay sum r new × (items_left r new ≡ items_left r old)
still_along sum r old new was gives =
    let same : bytes_along r new ≡ bytes_along r old = gives.tail.is in (
      is_replay sum r new (record {
        some = was.some;
        gives = subst (λ (l : List ℕ). IsReplayOf sum r.replay l new.present) (sym same) gives;
        size = was.size ∙ sym (ap length same);
        whole = subst (λ (l : List ℕ). length l ≡ length l / r.size * r.size) (sym same) was.whole;
        between = was.between;
      }),
      ap (λ (l : List ℕ). items r.size (drop r.replay.position l)) same,
    )

pub replays_stay : (sum : List ℕ → ℕ) (P full_pages : ℕ) (old new : Life) → LeavesReplays P full_pages old new → ReplaysStay sum P full_pages old new
replays_stay sum P full_pages old new leaves = λ r size below replay.
    let was = along sum r old replay in
    still_along sum r old new was (leaves sum (bytes_along r old) r.replay size below was.gives)

pub all_replays_stay : (sum : List ℕ → ℕ) (old new : Life) → LeavesAllReplays old new → AllReplaysStay sum old new
all_replays_stay sum old new leaves = λ r replay.
    let was = along sum r old replay in
    still_along sum r old new was (leaves sum (bytes_along r old) r.replay was.gives)

-- ---- what a call of the writer leaves

pub call_leaves : (sum : List ℕ → ℕ) (s : ItemsState) (all : List (List ℕ)) (before next : List ℕ) (cache after : CacheState) (old new : Life) → 0 < s.size → IsFresh after → LeavesOthers s.writer.id cache after
    → KeepsAllFloors sum s.writer.page_size old new → CoversThrough sum s.writer.page_size (items_content s old) old new → LeavesOnly sum s.writer.page_size before next old new → AreFirst (items s.size before) all → AreFirst (items s.size next) all
    → LeavesTails sum s.writer.full_pages cache after old new → LeavesReplays s.writer.page_size s.writer.full_pages old new → ItemsCallLeaves sum s all cache after old new
call_leaves sum s all before next cache after old new some fresh others kept covers only first second tails replays = record {
  fresh = fresh;
  others = others_stay s.writer.id cache after others (λ was. fresh);
  their_snapshots = other_snapshots_stay s.writer.id cache after others;
  kept = keeps_items sum s.writer.page_size s.size old new some kept;
  started = keeps_started sum s.writer.page_size s.size (items_content s old) old new covers;
  only = leaves_items sum s.writer.page_size s.size before next all old new some first second only;
  snapshots = snapshots_stay sum s.writer.full_pages cache after old new tails;
  replays = replays_stay sum s.writer.page_size s.writer.full_pages old new replays;
}

-- a call that pushes nothing leaves the items
pub same_leaves : (sum : List ℕ → ℕ) (s : ItemsState) (cache after : CacheState) (old new : Life) → 0 < s.size → IsFresh after → LeavesOthers s.writer.id cache after → KeepsAllFloors sum s.writer.page_size old new
    → CoversThrough sum s.writer.page_size (items_content s old) old new → LeavesOnly sum s.writer.page_size (items_content s old) (items_content s old) old new → LeavesTails sum s.writer.full_pages cache after old new → LeavesReplays s.writer.page_size s.writer.full_pages old new
    → ItemsCallLeaves sum s (items_of s old) cache after old new
same_leaves sum s cache after old new some fresh others kept covers only tails replays =
    let held = items_content s old in
    let first = first_of_itself (items_of s old) in
    call_leaves sum s (items_of s old) held held cache after old new some fresh others kept covers only first first tails replays

-- so a call of the writer leaves the items, or these, by what holds at each of its moments
pub owed_leaves : (sum : List ℕ → ℕ) (s : ItemsState) (all : List (List ℕ)) (next : List ℕ) (cache after : CacheState) (old new : Life) → 0 < s.size → AreFirst (items_of s old) all → AreFirst (items s.size next) all → Owes sum s.writer next cache after old new
    → ItemsCallLeaves sum s all cache after old new
owed_leaves sum s all next cache after old new some first second owes =
    let P = s.writer.page_size in
    let k = s.writer.full_pages in
    let held = items_content s old in
    call_leaves sum s all held next cache after old new some owes.fresh owes.others (owed_floors sum P k held next old new owes.through) (owed_covers sum P k held next old new owes.through) (owed_only sum P k held next old new owes.through) first second
    owes.tails owes.replays

-- so a call that pushes nothing leaves the items
pub owed_same : (sum : List ℕ → ℕ) (s : ItemsState) (cache after : CacheState) (old new : Life) → AreItems sum s cache old → Owes sum s.writer (items_content s old) cache after old new → ItemsCallLeaves sum s (items_of s old) cache after old new
owed_same sum s cache after old new items owes =
    let first = first_of_itself (items_of s old) in
    owed_leaves sum s (items_of s old) (items_content s old) cache after old new (stand sum s cache old items).some first first owes

-- so a wait leaves the items, with each cache
pub owed_wait : (sum : List ℕ → ℕ) (s : ItemsState) (cache : CacheState) (old new : Life) → AreItems sum s cache old → OwesWaiting sum s.writer old new → ItemsCallLeaves sum s (items_of s old) cache cache old new
owed_wait sum s cache old new items owes =
    let stood = stand sum s cache old items in
    let P = s.writer.page_size in
    let k = s.writer.full_pages in
    let held = items_content s old in
    same_leaves sum s cache cache old new stood.some stood.ready.fresh (λ t d apart can. can) (owed_floors sum P k held held old new owes.through) (owed_covers sum P k held held old new owes.through) (owed_only sum P k held held old new owes.through)
    (owes.tails cache stood.ready.can.page_size) owes.replays

-- so doing nothing leaves the items, and the first of more
pub nothing_leaves : (sum : List ℕ → ℕ) (s : ItemsState) (all : List (List ℕ)) (cache : CacheState) (life : Life) → AreFirst (items_of s life) all → AreItems sum s cache life → ItemsCallLeaves sum s all cache cache life life
nothing_leaves sum s all cache life first items =
    let stood = stand sum s cache life items in
    let held = items_content s life in
    let P = s.writer.page_size in
    call_leaves sum s all held held cache cache life life stood.some stood.ready.fresh (λ t d apart can. can)
    (λ content floor enough kept. through_start (AllKeep sum P content floor) life kept)
    (through_start (CoversStay sum P held life.present) life (λ name cover within would. would))
    (through_start (AllOnly sum P held held) life stood.only) first first (λ t held below stands. stands) (λ own content r size below gives. gives)

-- ---- calls that only read

-- a disk that is the same except for its log has the same images
image_before : (d e : Disk) (image : List ℕ) → SameButLog d e → IsImage e image → IsImage d image
image_before d e image same is =
    let i : IsImage (record d { log = e.log }) image = subst (λ (x : Disk). IsImage x image) same is in
    record { no_shorter = i.no_shorter; no_longer = i.no_longer; each = i.each }

pub looked_keeps : (sum : List ℕ → ℕ) (P : ℕ) (old new : Life) → Looked old new → KeepsAllFloors sum P old new
looked_keeps sum P old new looked = λ content floor enough kept.
    through_then (SameButLog old.present) (AllKeep sum P content floor) old new
    (λ d same. keeps_alike sum P content floor old.present d (ap (λ (x : Disk). x.base) same) (ap (λ (x : Disk). x.since) same) kept) looked.through

-- no other texts are left by such a disk
only_later : (sum : List ℕ → ℕ) (P : ℕ) (held : List ℕ) (d e : Disk) → SameButLog d e → AllOnly sum P held held d → AllOnly sum P held held e
only_later sum P held d e same only = record {
  only = λ image is free. only.only image (image_before d e image same is) (subst (λ (x : Disk). IsChanceFree sum P x image) same free);
  vouched = vouched_alike sum P d e (ap (λ (x : Disk). x.base) same) (ap (λ (x : Disk). x.since) same) only.vouched;
}

pub looked_leaves : (sum : List ℕ → ℕ) (P : ℕ) (held : List ℕ) (old new : Life) → Looked old new → AllOnly sum P held held old.present → LeavesOnly sum P held held old new
looked_leaves sum P held old new looked only =
    through_then (SameButLog old.present) (AllOnly sum P held held) old new (λ d same. only_later sum P held old.present d same only) looked.through

-- what started syncs cover of sound items
pub looked_covers : (sum : List ℕ → ℕ) (s : ItemsState) (cache : CacheState) (old new : Life) → Looked old new → AreItems sum s cache old → CoversThrough sum s.writer.page_size (items_content s old) old new
looked_covers sum s cache old new looked items = (look_leaves_writers sum old new looked s.writer (stand sum s cache old items).ready.sound).covers

-- a read of the items, through their writer
pub read_leaves : (sum : List ℕ → ℕ) (s : ItemsState) (cache after : CacheState) (old new : Life) → AreItems sum s cache old → Looked old new → IsFresh after → LeavesOthers s.writer.id cache after
    → LeavesTails sum s.writer.full_pages cache after old new → LeavesAllReplays old new → ItemsCallLeaves sum s (items_of s old) cache after old new
read_leaves sum s cache after old new items looked fresh others tails replays =
    let stood = stand sum s cache old items in
    let P = s.writer.page_size in
    same_leaves sum s cache after old new stood.some fresh others (looked_keeps sum P old new looked) (looked_covers sum s cache old new looked items) (looked_leaves sum P (items_content s old) old new looked stood.only) tails
    (λ own content r size below gives. replays own content r gives)

-- the items after a read that leaves what reads need: they stay such, the same ones
pub read_items : (sum : List ℕ → ℕ) (s : ItemsState) (cache after : CacheState) (old new : Life) → AreItems sum s cache old → Looked old new → IsFresh after → CanRead (tail_of s.writer) after new.present → AreItems sum s after new × (items_content s new ≡ items_content s old)
read_items sum s cache after old new items looked fresh can =
    let stood = stand sum s cache old items in
    let held = items_content s old in
    let P = s.writer.page_size in
    let same : items_content s new ≡ held = ap (λ (d : Disk). content s.writer d.readable) looked.same in (
      are_items sum s after new (record {
        some = stood.some;
        ready = record { sound = (look_leaves_writers sum old new looked s.writer stood.ready.sound).sound; can = can; fresh = fresh };
        size = stood.size ∙ ap length (sym same);
        whole = subst (λ (l : List ℕ). length l ≡ length l / s.size * s.size) (sym same) stood.whole;
        only = subst (λ (l : List ℕ). AllOnly sum P l l new.present) (sym same) (only_later sum P held old.present new.present looked.same stood.only);
      }),
      same,
    )

-- the pages of sound items are full
pages_full : (sum : List ℕ → ℕ) (s : ItemsState) (d : Disk) → IsSound sum s.writer d → HasFullPages sum (tail_of s.writer) d
unfolding IsSound
pages_full sum s d sound = sound.full

-- so a snapshot may stand on them
pub stands_on : (sum : List ℕ → ℕ) (s : ItemsState) (cache : CacheState) (life : Life) → AreItems sum s cache life → SnapshotReads sum (tail_of s.writer) (items_content s life) cache life.present
stands_on sum s cache life items =
    let stood = stand sum s cache life items in
    record {
      tail = record { there = stood.ready.can.there; full = pages_full sum s life.present stood.ready.sound; is = refl };
      can = stood.ready.can;
    }

-- a read of a snapshot or a replay
pub only_reads : (sum : List ℕ → ℕ) (id : ℕ) (cache after : CacheState) (old new : Life) → Looked old new → (IsFresh cache → IsFresh after) → LeavesOthers id cache after → LeavesAllTails sum cache after old new → LeavesAllReplays old new → SnapshotReadLeaves sum id cache after old new
only_reads sum id cache after old new looked fresh others tails replays = record {
  looked = looked;
  fresh = fresh;
  items = λ s items.
      read_items sum s cache after old new items looked (fresh (stand sum s cache old items).ready.fresh) (tails (tail_of s.writer) (items_content s old) (stands_on sum s cache old items)).can;
  others = others_stay id cache after others fresh;
  snapshots = all_snapshots_stay sum cache after old new tails;
  their_snapshots = other_snapshots_stay id cache after others;
  replays = all_replays_stay sum old new replays;
  kept = λ P s some. keeps_items sum P s old new some (looked_keeps sum P old new looked);
  started = λ s items. keeps_started sum s.writer.page_size s.size (items_content s old) old new (looked_covers sum s cache old new looked items);
  only = λ s items.
      let held = items_content s old in
      let first = first_of_itself (items_of s old) in
      let stood = stand sum s cache old items in
      leaves_items sum s.writer.page_size s.size held held (items_of s old) old new stood.some first first (looked_leaves sum s.writer.page_size held old new looked stood.only);
}

-- what no read leaves
pub nothing_read : (sum : List ℕ → ℕ) (id : ℕ) (cache : CacheState) (life : Life) → SnapshotReadLeaves sum id cache cache life life
nothing_read sum id cache life =
    only_reads sum id cache cache life life (looked_start life) (λ fresh. fresh) (λ t d apart can. can) (λ t held stands. stands) (λ own content r gives. gives)

-- what a replay leaves that read on, with each cache
pub only_reads_on : (sum : List ℕ → ℕ) (old new : Life) → Looked old new → ((cache : CacheState) → LeavesAllTails sum cache cache old new) → LeavesAllReplays old new → ReplayReadLeaves sum old new
only_reads_on sum old new looked tails replays =
    let with_cache : (cache : CacheState) → SnapshotReadLeaves sum 0 cache cache old new = λ cache. only_reads sum 0 cache cache old new looked (λ fresh. fresh) (λ t d apart can. can) (tails cache) replays in
    record {
      looked = looked;
      items = λ s cache. (with_cache cache).items s;
      snapshots = λ r cache. (with_cache cache).snapshots r;
      replays = all_replays_stay sum old new replays;
      kept = λ P s some. keeps_items sum P s old new some (looked_keeps sum P old new looked);
      started = λ s cache. (with_cache cache).started s;
      only = λ s cache. (with_cache cache).only s;
    }
