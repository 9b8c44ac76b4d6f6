-- What a case of two sessions on one cache runs over, between two of its lines.
use Rattle.std.specs.Prelude.{ℕ, List}
use Rattle.disk.specs.Disk.{Disk}
use Rattle.cache.specs.CacheState.{CacheState}
use Rattle.session.specs.Run.{IsSessionReady, SessionState}
use Rattle.session.specs.Others.{AreApart}

-- each of two sessions may take steps over its blob with the cache that both have, and they are of
-- different blobs
pub record AreBothReady (sum : List ℕ → ℕ) (first second : SessionState)
    (cache : CacheState) (d e : Disk) : Type 0 where
  pub ready : IsSessionReady sum first cache d
  pub other : IsSessionReady sum second cache e
  pub apart : AreApart first second
