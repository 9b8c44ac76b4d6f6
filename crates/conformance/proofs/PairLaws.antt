-- Two sessions on one cache: what the calls of one leave of both.
use Rattle.std.proofs.Common.{ℕ, List, get_or, rules}
use Rattle.std.specs.Prelude.{Option, Some, None, IfSome}
use Rattle.disk.specs.Disk.{Disk}
use Rattle.cache.specs.CacheState.{CacheState, empty_cache}
use Rattle.cache.specs.Pages.{IsFresh}
use Rattle.writer_state.specs.WriterState.{WriterState}
use Rattle.paged_read.specs.Tail.{Tail, CanRead}
use Rattle.paged_read.specs.Snapshots.{LeavesReads}
use Rattle.paged.specs.Caches.{tail_of}
use Rattle.session.specs.Run.{FitsWriter, IsSessionReady, SessionState}
use Rattle.session.specs.Promise.{closed}
use Rattle.session.specs.Others.{AreApart, IsNewTo, IsOther, LeavesOtherBlobs}
use Rattle.session.proofs.TwoSessions.{apart_both, closed_has_none, new_apart, still_apart, still_ready}
use Rattle.conformance.specs.Pair.{AreBothReady}

closed_writer : (o : Option WriterState) → IfSome o (λ w. IsOther closed w.id)
closed_writer None = tt
closed_writer (Some w) = closed_has_none w.id

closed_snapshot : (o : Option Tail) → IfSome o (λ t. IsOther closed t.id)
closed_snapshot None = tt
closed_snapshot (Some t) = closed_has_none t.id

pub closed_apart : (other : SessionState) → AreApart closed other
closed_apart other = record {
  writer = closed_writer other.writer;
  snapshots = λ k o lt. closed_snapshot (get_or other.snapshots k o);
}

-- a closed session may take steps with any fresh cache
pub closed_ready : (sum : List ℕ → ℕ) (cache : CacheState) (d : Disk) → IsFresh cache
    → IsSessionReady sum closed cache d
closed_ready sum cache d fresh = record {
  steps = search rules;
  cached = record { writer = tt; snapshots = search rules };
  fresh = fresh;
}

-- what could be read with the cache can be read on
fits_writer : (o : Option WriterState) (cache after : CacheState) (d : Disk)
    → LeavesReads cache after → FitsWriter o cache d → FitsWriter o after d
fits_writer None cache after d leaves fits = tt
fits_writer (Some w) cache after d leaves fits = leaves (tail_of w) d fits

fits_snapshot : (o : Option Tail) (cache after : CacheState) (d : Disk)
    → LeavesReads cache after → IfSome o (λ t. CanRead t cache d)
    → IfSome o (λ t. CanRead t after d)
fits_snapshot None cache after d leaves can = tt
fits_snapshot (Some t) cache after d leaves can = leaves t d can

pub goes_on : (sum : List ℕ → ℕ) (other : SessionState) (cache after : CacheState) (d : Disk)
    → LeavesReads cache after → IsFresh after → IsSessionReady sum other cache d
    → IsSessionReady sum other after d
goes_on sum other cache after d leaves fresh ready = record {
  steps = ready.steps;
  cached = record {
    writer = fits_writer other.writer cache after d leaves ready.cached.writer;
    snapshots = λ k o lt. fits_snapshot (get_or other.snapshots k o) cache after d leaves (ready.cached.snapshots k o lt);
  };
  fresh = fresh;
}

-- a step of one session leaves both ready
pub both_after : (sum : List ℕ → ℕ) (was now other : SessionState) (cache after : CacheState)
    (d was_d e : Disk) → AreBothReady sum was other cache was_d e
    → IsSessionReady sum now after d → LeavesOtherBlobs was now cache after
    → AreBothReady sum now other after d e
both_after sum was now other cache after d was_d e both ready leaves = record {
  ready = ready;
  other = still_ready sum was now other cache after e both.apart leaves ready.fresh both.other;
  apart = still_apart was now other cache after both.apart leaves;
}

-- an exchange of the two sessions leaves both ready
pub exchanged : (sum : List ℕ → ℕ) (session other : SessionState) (cache : CacheState) (d e : Disk)
    → AreBothReady sum session other cache d e → AreBothReady sum other session cache e d
exchanged sum session other cache d e both = record {
  ready = both.other;
  other = both.ready;
  apart = apart_both session other both.apart;
}

-- two closed sessions are ready with a new cache
pub both_anew : (sum : List ℕ → ℕ) (P most : ℕ) (d e : Disk)
    → AreBothReady sum closed closed (empty_cache P most) d e
both_anew sum P most d e = record {
  ready = closed_ready sum (empty_cache P most) d (search rules);
  other = closed_ready sum (empty_cache P most) e (search rules);
  apart = closed_apart closed;
}

-- a session that is closed leaves both ready
pub both_closed : (sum : List ℕ → ℕ) (was other : SessionState) (cache after : CacheState)
    (d was_d e : Disk) → AreBothReady sum was other cache was_d e → LeavesReads cache after
    → IsFresh after → AreBothReady sum closed other after d e
both_closed sum was other cache after d was_d e both leaves fresh = record {
  ready = closed_ready sum after d fresh;
  other = goes_on sum other cache after e leaves fresh both.other;
  apart = closed_apart other;
}

-- a session that begins leaves both ready
pub both_begun : (sum : List ℕ → ℕ) (was now other : SessionState) (cache after : CacheState)
    (d was_d e : Disk) → AreBothReady sum was other cache was_d e
    → IsSessionReady sum now after d → LeavesReads cache after → IsNewTo cache now
    → AreBothReady sum now other after d e
both_begun sum was now other cache after d was_d e both ready leaves new = record {
  ready = ready;
  other = goes_on sum other cache after e leaves ready.fresh both.other;
  apart = new_apart now other cache e new both.other.cached;
}
