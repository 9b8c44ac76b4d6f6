-- What a script runs over, between two lines.
use Rattle.std.specs.Prelude.{◌≡◌, ℕ, List, Bool, true, Option, Some, None}
use Rattle.disk.specs.Disk.{Disk, Life}
use Rattle.cache.specs.CacheState.{CacheState}
use Rattle.cache.specs.Pages.{IsFresh}
use Rattle.paged.specs.Recovery.{IsDurable}
use Rattle.session.specs.Run.{SessionState, IsSoundSession, CacheFits}
use Rattle.items.specs.State.{ItemsState}
use Rattle.items.specs.Run.{IsOpenSession}

-- the session, the cache, if there is one, whether a recovery may follow, and the disk
pub record StageState : Type 0 where
  pub session : SessionState
  pub cache : Option CacheState
  pub crashed : Bool
  pub disk : Disk

-- the cache, if there is one, fits the session, and is fresh, so a recovery can take it
abbrev pub IsCacheSet : Option CacheState → SessionState → Disk → Type 0
IsCacheSet None session d = Unit {0}
IsCacheSet (Some cache) session d = CacheFits session cache d × IsFresh cache

-- the session is sound (its writer's invariant holds); if a recovery may follow, all that the crash
-- left is durable
pub record IsSet (sum : List ℕ → ℕ) (s : StageState) : Type 0 where
  pub ready : IsSoundSession sum s.session s.disk
  pub cached : IsCacheSet s.cache s.session s.disk
  pub rests : s.crashed ≡ true → IsDurable s.disk

-- a script of items between two lines: without a cache there are no items; a cache holds nothing
-- under an id that is still to be given, and the items, if there are any, are sound with it
abbrev pub AreItemsSet : (List ℕ → ℕ) → Option ItemsState → Option CacheState → Life → Type 0
AreItemsSet sum session None life = session ≡ None
AreItemsSet sum session (Some cache) life = IsFresh cache × IsOpenSession sum session cache life
