-- Two sessions on one cache: what the steps of one leave of the other; and examples of what they may not do.
use Rattle.std.proofs.Common.{◌≡◌, ◌≢◌, ℕ, List, [], ◌∷◌, refl, sym, arith, get_or, lit<, lit≤}
use Rattle.std.specs.Prelude.{IfSome, Option, Some, None}
use Rattle.disk.specs.Disk.{Disk}
use Rattle.writer_state.specs.WriterState.{WriterState}
use Rattle.cache.specs.CacheState.{CacheState, empty_cache}
use Rattle.cache.specs.Pages.{IsFresh}
use Rattle.paged_read.specs.Tail.{Tail, CanRead}
use Rattle.paged.specs.Caches.{tail_of}
use Rattle.session.specs.Run.{CacheFits, FitsWriter, IsSessionReady, SessionState}
use Rattle.session.specs.Promise.{closed}
use Rattle.session.specs.Others.{AreApart, IsNewTo, IsNotOf, IsOther, LeavesOtherBlobs, LeavesOthersAnew}
use Rattle.session.proofs.ComesBackExamples.{empty}

-- ---- the laws

-- a closed session has nothing of any blob
pub closed_has_none : (id : ℕ) → IsOther closed id
closed_has_none id = record { writer = tt; snapshots = λ k o lt. absurd (omega (arith, lt)) }

-- after the steps of one session, the other may take some
reads_writer : (o : Option WriterState) (was now : SessionState) (cache after : CacheState) (d : Disk) → IfSome o (λ w. IsOther was w.id) → LeavesOtherBlobs was now cache after → FitsWriter o cache d → FitsWriter o after d
reads_writer None was now cache after d apart leaves fits = tt
reads_writer (Some w) was now cache after d apart leaves fits = leaves.reads (tail_of w) d apart fits

reads_snapshot : (o : Option Tail) (was now : SessionState) (cache after : CacheState) (d : Disk) → IfSome o (λ t. IsOther was t.id) → LeavesOtherBlobs was now cache after → IfSome o (λ t. CanRead t cache d) → IfSome o (λ t. CanRead t after d)
reads_snapshot None was now cache after d apart leaves can = tt
reads_snapshot (Some t) was now cache after d apart leaves can = leaves.reads t d apart can

pub still_fits : (was now other : SessionState) (cache after : CacheState) (d : Disk) → AreApart was other → LeavesOtherBlobs was now cache after → CacheFits other cache d → CacheFits other after d
still_fits was now other cache after d apart leaves fits = record {
  writer = reads_writer other.writer was now cache after d apart.writer leaves fits.writer;
  snapshots = λ k o lt. reads_snapshot (get_or other.snapshots k o) was now cache after d (apart.snapshots k o lt) leaves (fits.snapshots k o lt);
}

pub still_ready : (sum : List ℕ → ℕ) (was now other : SessionState) (cache after : CacheState) (d : Disk) → AreApart was other → LeavesOtherBlobs was now cache after → IsFresh after → IsSessionReady sum other cache d → IsSessionReady sum other after d
still_ready sum was now other cache after d apart leaves fresh ready = record { steps = ready.steps; cached = still_fits was now other cache after d apart leaves ready.cached; fresh = fresh }

-- after the steps of one session, the other is still apart from it
apart_writer : (o : Option WriterState) (was now : SessionState) (cache after : CacheState) → LeavesOtherBlobs was now cache after → IfSome o (λ w. IsOther was w.id) → IfSome o (λ w. IsOther now w.id)
apart_writer None was now cache after leaves apart = tt
apart_writer (Some w) was now cache after leaves apart = leaves.apart w.id apart

apart_snapshot : (o : Option Tail) (was now : SessionState) (cache after : CacheState) → LeavesOtherBlobs was now cache after → IfSome o (λ t. IsOther was t.id) → IfSome o (λ t. IsOther now t.id)
apart_snapshot None was now cache after leaves apart = tt
apart_snapshot (Some t) was now cache after leaves apart = leaves.apart t.id apart

pub still_apart : (was now other : SessionState) (cache after : CacheState) → AreApart was other → LeavesOtherBlobs was now cache after → AreApart now other
still_apart was now other cache after apart leaves = record {
  writer = apart_writer other.writer was now cache after leaves apart.writer;
  snapshots = λ k o lt. apart_snapshot (get_or other.snapshots k o) was now cache after leaves (apart.snapshots k o lt);
}

-- each of two sessions from the other
module _ (a b : SessionState) (apart : AreApart a b) where
  -- a part of the second is not of the blob of this id
  writer_not : (o : Option WriterState) (id : ℕ) → IfSome o (λ w. IsOther a w.id) → ((v : ℕ) → IsOther a v → v ≢ id) → IsNotOf id o
  writer_not None id all not = tt
  writer_not (Some w) id all not = λ same. not w.id all (sym same)

  snapshot_not : (o : Option Tail) (id : ℕ) → IfSome o (λ t. IsOther a t.id) → ((v : ℕ) → IsOther a v → v ≢ id) → IfSome o (λ t. id ≢ t.id)
  snapshot_not None id all not = tt
  snapshot_not (Some t) id all not = λ same. not t.id all (sym same)

  not_of_second : (id : ℕ) → ((v : ℕ) → IsOther a v → v ≢ id) → IsOther b id
  not_of_second id not = record { writer = writer_not b.writer id apart.writer not; snapshots = λ k o lt. snapshot_not (get_or b.snapshots k o) id (apart.snapshots k o lt) not }

  writer_other : (o : Option WriterState) → ((v : ℕ) → IsOther a v → IsNotOf v o) → IfSome o (λ w. IsOther b w.id)
  writer_other None its = tt
  writer_other (Some w) its = not_of_second w.id (λ v other. its v other)

  snapshot_other : (o : Option Tail) → ((v : ℕ) → IsOther a v → IfSome o (λ t. v ≢ t.id)) → IfSome o (λ t. IsOther b t.id)
  snapshot_other None its = tt
  snapshot_other (Some t) its = not_of_second t.id (λ v other. its v other)

  pub apart_both : AreApart b a
  apart_both = record { writer = writer_other a.writer (λ v other. other.writer); snapshots = λ k o lt. snapshot_other (get_or a.snapshots k o) (λ v other. other.snapshots k o lt) }

-- a session that begins with the cache of another is apart from it
new_writer : (o : Option WriterState) (now : SessionState) (cache : CacheState) (d : Disk) → IsNewTo cache now → FitsWriter o cache d → IfSome o (λ w. IsOther now w.id)
new_writer None now cache d new fits = tt
new_writer (Some w) now cache d new fits = new w.id fits.given

new_snapshot : (o : Option Tail) (now : SessionState) (cache : CacheState) (d : Disk) → IsNewTo cache now → IfSome o (λ t. CanRead t cache d) → IfSome o (λ t. IsOther now t.id)
new_snapshot None now cache d new can = tt
new_snapshot (Some t) now cache d new can = new t.id can.given

pub new_apart : (now other : SessionState) (cache : CacheState) (d : Disk) → IsNewTo cache now → CacheFits other cache d → AreApart now other
new_apart now other cache d new fits = record { writer = new_writer other.writer now cache d new fits.writer; snapshots = λ k o lt. new_snapshot (get_or other.snapshots k o) now cache d new (fits.snapshots k o lt) }

-- ---- what steps may not do

-- a cache that gave two ids, a blob of the first of them without a page, and one with a page
abbrev two_given : CacheState
two_given = record (empty_cache 4 10) { ids_given = 2 }

abbrev no_page : Tail
no_page = record { page_size = 4; id = 0; full_pages = 0; bytes = [] }

abbrev sevens : Disk
sevens = record empty { readable = 7 ∷ 7 ∷ 7 ∷ 7 ∷ 7 ∷ 7 ∷ 7 ∷ 7 ∷ 7 ∷ 7 ∷ 7 ∷ 7 ∷ 7 ∷ 7 ∷ 7 ∷ 7 ∷ [] }

abbrev one_page : Tail
one_page = record { page_size = 4; id = 1; full_pages = 1; bytes = [] }

can_read_none : CanRead no_page two_given empty
can_read_none = record { there = lit≤ tt; page_size = refl; given = lit< tt; cached = λ page bytes lt held. absurd (omega (arith, lt)) }

can_read_one : CanRead one_page two_given sevens
can_read_one = record { there = lit≤ tt; page_size = refl; given = lit< tt; cached = λ page bytes lt held. absurd (cc held) }

-- steps may not make the cache anew
no_new_cache : LeavesOtherBlobs closed closed two_given (empty_cache 4 10) → ⊥
no_new_cache leaves = omega (arith, (leaves.reads no_page empty (closed_has_none 0) can_read_none).given)

no_cache_anew : LeavesOthersAnew closed closed two_given (empty_cache 4 10) → ⊥
no_cache_anew leaves = omega (arith, (leaves.reads no_page empty can_read_none).given)

-- steps may not put a page under the id of another blob
no_page_of_another : LeavesOtherBlobs closed closed two_given (record two_given { pages = ((1, 0), 0 ∷ 0 ∷ 0 ∷ 0 ∷ []) ∷ [] }) → ⊥
no_page_of_another leaves =
    let put : 0 ∷ 0 ∷ 0 ∷ 0 ∷ [] ≡ 7 ∷ 7 ∷ 7 ∷ 7 ∷ [] = (leaves.reads one_page sevens (closed_has_none 1) can_read_one).cached 0 (0 ∷ 0 ∷ 0 ∷ 0 ∷ []) (lit< tt) refl in
    absurd (cc put)

-- steps may not take a snapshot of another blob
no_snapshot_of_another : LeavesOtherBlobs closed (record closed { snapshots = Some one_page ∷ [] }) two_given two_given → ⊥
no_snapshot_of_another leaves = (leaves.apart 1 (closed_has_none 1)).snapshots 0 None (lit< tt) refl

-- two sessions may not be of one blob
no_session_twice : AreApart (record closed { snapshots = Some one_page ∷ [] }) (record closed { snapshots = Some one_page ∷ [] }) → ⊥
no_session_twice apart = (apart.snapshots 0 None (lit< tt)).snapshots 0 None (lit< tt) refl
