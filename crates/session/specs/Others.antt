-- What the steps of a session leave of the other blobs on its cache.
use Rattle.std.specs.Prelude.{◌≢◌, ◌<◌, ℕ, All, IfSome, Option}
use Rattle.disk.specs.Disk.{Disk}
use Rattle.writer_state.specs.WriterState.{WriterState}
use Rattle.cache.specs.CacheState.{CacheState, SameSettings}
use Rattle.paged_read.specs.Tail.{Tail, CanRead}
use Rattle.paged_read.specs.Snapshots.{LeavesReads}
use Rattle.session.specs.Run.{SessionState}

-- the writer, if there is one, is not of the blob of this id
abbrev pub IsNotOf : (id : ℕ) → Option WriterState → Type 0
IsNotOf id writer = IfSome writer (λ w. id ≢ w.id)

-- what a call of a session's writer leaves of other blobs: what can be read of one can be read on,
-- and the writer after the call is of none of them; the cache keeps its settings
pub record WriterLeavesOthers (was now : Option WriterState) (cache after : CacheState)
    : Type 0 where
  pub reads : (t : Tail) (d : Disk) → IsNotOf t.id was → CanRead t cache d → CanRead t after d
  pub apart : (id : ℕ) → IsNotOf id was → IsNotOf id now
  pub settings : SameSettings cache after

-- the blob of this id is another one: neither the session's writer nor one of its snapshots is of
-- it. A replay doesn't use the cache.
pub record IsOther (session : SessionState) (id : ℕ) : Type 0 where
  pub writer : IsNotOf id session.writer
  pub snapshots : All (λ o. IfSome o (λ t. id ≢ t.id)) session.snapshots

-- two sessions are of different blobs: each part of the second, its writer and its snapshots, is of
-- a blob that is another one to the first
pub record AreApart (session other : SessionState) : Type 0 where
  pub writer : IfSome other.writer (λ w. IsOther session w.id)
  pub snapshots : All (λ o. IfSome o (λ t. IsOther session t.id)) other.snapshots

-- what the steps of a session leave of other blobs: what can be read of one, over whatever disk,
-- can be read on, and it is still another one; the cache keeps its settings
pub record LeavesOtherBlobs (was now : SessionState) (cache after : CacheState) : Type 0 where
  pub reads : (t : Tail) (d : Disk) → IsOther was t.id → CanRead t cache d → CanRead t after d
  pub apart : (id : ℕ) → IsOther was id → IsOther now id
  pub settings : SameSettings cache after

-- a session that begins with this cache: each blob whose id the cache gave before is another one
abbrev pub IsNewTo : CacheState → SessionState → Type 0
IsNewTo cache session = (id : ℕ) → id < cache.ids_given → IsOther session id

-- what a crash and a recovery leave of other blobs: what can be read of any blob can be read on;
-- and a blob that was another one, and whose id the cache gave before, is still another one
pub record LeavesOthersAnew (was now : SessionState) (cache after : CacheState) : Type 0 where
  pub reads : LeavesReads cache after
  pub apart : (id : ℕ) → id < cache.ids_given → IsOther was id → IsOther now id
