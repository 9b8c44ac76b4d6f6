-- What a new writer can read: nothing is held under its id, which is the cache's next one.
use Rattle.std.proofs.Common.{◌≡◌, ◌∙◌, inl, inr, ℕ, ◌+◌, ◌*◌, ◌<◌, ◌≤◌, cond, List, length, refl, sym, ap, subst, arith}
use Rattle.std.specs.Prelude.{Result, Ok, Err, IfOk, Bool, true, false, nat_lt}
use Rattle.disk.specs.Disk.{Disk, Life}
use Rattle.disk.specs.declared.error.Error.{Error}
use Rattle.cache.specs.CacheState.{CacheState}
use Rattle.cache.specs.Pages.{IsTrueFor, IsFresh}
use Rattle.cache.proofs.CacheLaws.{fresh_true}
use Rattle.page.specs.Page.{text}
use Rattle.writer_state.specs.WriterState.{WriterState}
use Rattle.writer_state.specs.declared.sync_state.SyncState.TheVariants.{Clean}
use Rattle.crash.specs.Looks.{Looked}
use Rattle.paged.specs.Flush.{synced}
use Rattle.paged.specs.Reads.{HasWriterPages, size_of}
use Rattle.paged.specs.Recovery.{Opens, cache_after, opened_bytes, opened_writer}
use Rattle.paged.specs.Recovers.{GivesId, Recovers}
use Rattle.paged.specs.Truncate.{shortened_writer}
use Rattle.paged.specs.Caches.{ReadsOn, tail_of}
use Rattle.paged_read.specs.Snapshots.{LeavesReads}
use Rattle.paged_read.specs.Tail.{Tail, CanRead, logical_bytes}
use Rattle.paged_read.proofs.Outliving.{given_reads}

-- a tail whose id a fresh cache gave last
new_reads : (w : WriterState) (cache : CacheState) (d : Disk) → w.id ≡ cache.ids_given
    → w.page_size ≡ cache.page_size → w.full_pages * (w.page_size + 12) ≤ length d.readable
    → IsFresh cache
    → CanRead (tail_of w) (record cache { ids_given = cache.ids_given + 1 }) d
new_reads w cache d is_id same there fresh = record {
  there = there;
  page_size = sym same;
  given = omega (arith, is_id);
  cached = subst (λ (id : ℕ). IsTrueFor id (logical_bytes (tail_of w) d.readable) w.full_pages
      (record cache { ids_given = cache.ids_given + 1 })) (sym is_id)
      (λ page bytes below held. fresh_true (logical_bytes (tail_of w) d.readable) w.full_pages cache fresh page bytes below held);
}

-- a writer can be read as its blob is opened
pub opened_reads : (sum : List ℕ → ℕ) (cache after : CacheState) (capacity : ℕ) (old new : Life)
    (result : Result WriterState Error) → Opens sum cache capacity old new result
    → IfOk result (λ w. HasWriterPages w new) → after ≡ cache_after result cache → IsFresh cache
    → IfOk result (λ w. CanRead (tail_of w) after new.present)
opened_reads sum cache after capacity old new (Ok w) opens there is fresh =
    subst (λ (c : CacheState). CanRead (tail_of w) c new.present) (sym is)
    (new_reads w cache new.present (ap (λ (v : WriterState). v.id) opens.state)
    (ap (λ (v : WriterState). v.page_size) opens.state) there fresh)
opened_reads sum cache after capacity old new (Err e) opens there is fresh = tt

-- the cache of a writer that was opened has its page size, and gave its id
pub opened_fits : (sum : List ℕ → ℕ) (cache after : CacheState) (capacity : ℕ) (old new : Life)
    (w : WriterState) → Opens sum cache capacity old new (Ok w) → after ≡ cache_after (Ok w) cache
    → (after.page_size ≡ w.page_size) × (w.id < after.ids_given)
opened_fits sum cache after capacity old new w opens is = (
  ap (λ (c : CacheState). c.page_size) is ∙ sym (ap (λ (v : WriterState). v.page_size) opens.state),
  omega (arith, ap (λ (c : CacheState). c.ids_given) is, ap (λ (v : WriterState). v.id) opens.state),
)

-- a blob that was only read can be read on
pub looked_reads : (t : Tail) (cache : CacheState) (old new : Life) → Looked old new
    → CanRead t cache old.present → CanRead t cache new.present
looked_reads t cache old new looked can =
    subst (λ (d : Disk). CanRead t cache d) (sym looked.same) (record {
      there = can.there;
      page_size = can.page_size;
      given = can.given;
      cached = can.cached;
    })

-- a writer that was opened, and cut, can be read
pub cut_reads : (w : WriterState) (cache after : CacheState) (old new : Life)
    (result : Result WriterState Error) → CanRead (tail_of w) cache old.present
    → IfOk result (λ now. ReadsOn w now cache after old new)
    → IfOk result (λ now. CanRead (tail_of now) after new.present)
cut_reads w cache after old new (Ok now) can reads = reads can
cut_reads w cache after old new (Err e) can reads = tt

-- an id was given, whether the call succeeded or not
pub gives_id : (w : WriterState) (cache after : CacheState) (result : Result WriterState Error)
    → after ≡ cache_after (Ok w) cache → GivesId result cache after
gives_id w cache after (Ok now) is = is
gives_id w cache after (Err e) is = inr is

-- other blobs can still be read, as an id is given
pub opened_others : (result : Result WriterState Error) (cache after : CacheState)
    → after ≡ cache_after result cache → LeavesReads cache after
opened_others (Ok w) cache after is = given_reads cache after (inr is)
opened_others (Err e) cache after is = given_reads cache after (inl is)

pub gives_others : (result : Result WriterState Error) (cache after : CacheState)
    → GivesId result cache after → LeavesReads cache after
gives_others (Ok w) cache after gives = given_reads cache after (inr gives)
gives_others (Err e) cache after gives = given_reads cache after gives

-- a cut keeps the id
cut_id : (sum : List ℕ → ℕ) (w : WriterState) (n : ℕ) (bytes : List ℕ) (is_less : Bool)
    → (cond is_less (shortened_writer sum w n bytes) (synced w)).id ≡ w.id
cut_id sum w n bytes true = refl
cut_id sum w n bytes false = refl

-- so a writer that was recovered has the cache's next one
pub recovered_id : (sum : List ℕ → ℕ) (cache : CacheState) (capacity : ℕ) (old new : Life)
    (result : Result WriterState Error) → Recovers sum cache capacity old new result
    → IfOk result (λ w. w.id ≡ cache.ids_given)
recovered_id sum cache capacity old new (Ok w) recovers =
    let P = cache.page_size in
    let bytes = old.present.readable in
    let opened = opened_writer sum cache capacity bytes Clean in
    let n = length (text sum P bytes) in
    ap (λ (v : WriterState). v.id) recovers.state
    ∙ cut_id sum opened n (opened_bytes sum P bytes) (nat_lt n (size_of opened))
recovered_id sum cache capacity old new (Err e) refused = tt
