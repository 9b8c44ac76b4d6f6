-- What a cut leaves of what the cache holds.
use Rattle.std.proofs.Common.{◌≡◌, ◌∙◌, ◌⊎◌, ℕ, ◌+◌, ◌*◌, ◌/◌, ◌<◌, ◌≤◌, List, [], ◌++◌, length, drop, refl, sym, ap, subst, arith, Bool, true, false, append_assoc, append-nil, length-take, take-append-drop, replicate}
use Rattle.std.proofs.lemmas.List.{length-replicate}
use Rattle.std.proofs.Math.Nat.{mul-le-mul_right, div-lt_iff_lt-mul}
use Rattle.std.specs.Prelude.{Ok}
use Rattle.disk.specs.Disk.{Disk, Life}
use Rattle.cache.specs.CacheState.{CacheState}
use Rattle.cache.specs.Pages.{IsTrueFor, IsFresh, page_of_content}
use Rattle.cache.proofs.CacheLaws.{longer_true}
use Rattle.writer_state.specs.WriterState.{WriterState}
use Rattle.writer_state.specs.Sound.{IsSound}
use Rattle.crash.specs.Contents.{stored}
use Rattle.crash.specs.Below.{SamePages, PagesStay}
use Rattle.crash.proofs.Pages.{length-stored, take-stored, stored_same}
use Rattle.paged.specs.Flush.{has_work, synced}
use Rattle.paged.specs.Recovery.{IsAsOpened}
use Rattle.paged.specs.Truncate.{IsShortened}
use Rattle.paged.specs.Caches.{PutsUpTo, ReadsOn, tail_of}
use Rattle.paged_read.specs.Snapshots.{LeavesOthers}
use Rattle.paged_read.specs.Tail.{CanRead}
use Rattle.paged_read.proofs.Outliving.{others_stay}
use Rattle.paged.proofs.Caching.{puts_only, fresh_law, reads_after, page_of_front}
use Rattle.crash.specs.Moments.{through_end}
use Rattle.paged.proofs.Over.{goes_over}
use Rattle.paged.proofs.Shortened.{sound_working}
use Rattle.paged.proofs.Truncating.{SyncsWritten}

-- ids that are still to be given hold nothing, whatever the content
pub fresh_of_puts : (id from P to : ℕ) (bytes : List ℕ) (cache after : CacheState)
    → cache.page_size ≡ P → PutsUpTo id from P bytes to cache after → id < cache.ids_given
    → IsFresh cache → IsFresh after
fresh_of_puts id from P to bytes cache after same puts given fresh =
    let front : List ℕ = replicate (from * P) 0 in
    fresh_law id from (front ++ bytes) cache after
    (puts_only id from P to front bytes (front ++ bytes) cache after (length-replicate (from * P) 0) refl same puts)
    given fresh

-- reads of another blob go on
pub others_of_puts : (id from P to : ℕ) (bytes : List ℕ) (cache after : CacheState)
    → cache.page_size ≡ P → PutsUpTo id from P bytes to cache after → LeavesOthers id cache after
others_of_puts id from P to bytes cache after same puts =
    let front : List ℕ = replicate (from * P) 0 in
    others_stay id from (front ++ bytes) cache after
    (puts_only id from P to front bytes (front ++ bytes) cache after (length-replicate (from * P) 0) refl same puts)

-- where the first pages stay, those of them that are held stay true, whatever stands after them
pub pages_read : (P id full k : ℕ) (tip after : List ℕ) (cache : CacheState) (old new : Disk)
    → k ≤ full → SamePages P k old new
    → CanRead (record { page_size = P; id = id; full_pages = full; bytes = tip }) cache old
    → CanRead (record { page_size = P; id = id; full_pages = k; bytes = after }) cache new
pages_read P id full k tip after cache old new fewer same can =
    let few : k * (P + 12) ≤ full * (P + 12) = mul-le-mul_right (P + 12) fewer in
    let enough : k * (P + 12) ≤ length old.readable = omega (arith, few, can.there) in
    let kept : List ℕ = stored P k new.readable in
    let here : k * (P + 12) ≤ length new.readable =
    omega (
      arith,
      ap length same,
      length-take (k * (P + 12)) new.readable,
      length-take (k * (P + 12)) old.readable,
      enough,
    ) in
    let still : stored P k old.readable ≡ kept =
    stored_same P k old.readable new.readable enough (sym same) in
    let size : length kept ≡ k * P = length-stored P k new.readable here in
    let whole : List ℕ = stored P full old.readable in
    let rest : List ℕ = drop (k * P) whole ++ tip in
    let begins : whole ++ tip ≡ kept ++ rest =
    ap (λ l. l ++ tip) (sym (take-append-drop (k * P) whole)
    ∙ ap (λ l. l ++ drop (k * P) whole) (take-stored P k full old.readable fewer can.there ∙ still))
    ∙ append_assoc kept (drop (k * P) whole) tip in
    let alike : (page : ℕ) → page < k → page_of_content cache.page_size (kept ++ after) page
    ≡ page_of_content cache.page_size (whole ++ tip) page =
    λ page below.
    let low : (page + 1) * P ≤ k * P = mul-le-mul_right P (omega (arith, below)) in
    ap (λ (Q : ℕ). page_of_content Q (kept ++ after) page) can.page_size
    ∙ page_of_front P page kept after (omega (arith, low, size))
    ∙ sym (ap (λ (Q : ℕ). page_of_content Q (whole ++ tip) page) can.page_size
    ∙ ap (λ l. page_of_content P l page) begins
    ∙ page_of_front P page kept rest (omega (arith, low, size))) in
    let fewer_true : IsTrueFor id (whole ++ tip) k cache =
    λ page bytes below held. can.cached page bytes (omega (arith, below, fewer)) held in
    record {
      there = here;
      page_size = can.page_size;
      given = can.given;
      cached = longer_true id (whole ++ tip) (kept ++ after) k cache alike fewer_true;
    }

-- once all that was appended is durable, reads go on
pub written_reads : (sum : List ℕ → ℕ) (w m : WriterState) (old mid : Life)
    (cache after : CacheState) → IsSound sum w old.present ⊎ IsAsOpened sum w old.present
    → SyncsWritten sum w m old mid (Ok tt) → cache.page_size ≡ w.page_size
    → (has_work w true ≡ false → after ≡ cache)
    → PutsUpTo w.id w.full_pages w.page_size w.tip m.full_pages cache after
    → ReadsOn w m cache after old mid
written_reads sum w m old mid cache after stands written same idle puts = by_work (has_work w true) refl
  where
    by_work : (b : Bool) → has_work w true ≡ b → ReadsOn w m cache after old mid
    by_work true work =
        let sound = sound_working sum w old.present stands work in
        reads_after {A = WriterState} sum (λ v. v) w [] w.tip old mid cache after m same
        (sym (append-nil w.tip)) (goes_over sum w m [] old mid (written.syncs sound).0) puts
    by_work false none = λ can.
        let is : m ≡ synced w = written.state none in
        subst (λ (c : CacheState). CanRead (tail_of m) c mid.present) (sym (idle none))
        (subst (λ (v : WriterState). CanRead (tail_of v) cache mid.present) (sym is)
        (pages_read w.page_size w.id w.full_pages w.full_pages w.tip w.tip cache old.present mid.present
        (omega arith) (through_end (SamePages w.page_size w.full_pages old.present) old mid written.pages) can))

-- once the blob is cut, reads go on
pub shortened_reads : (sum : List ℕ → ℕ) (n : ℕ) (m now : WriterState) (mid new : Life)
    (cache : CacheState) → n / m.page_size ≤ m.full_pages → IsShortened sum n m mid new now
    → PagesStay m.page_size (n / m.page_size) mid new → ReadsOn m now cache cache mid new
shortened_reads sum n m now mid new cache fewer is pages can =
    subst (λ (v : WriterState). CanRead (tail_of v) cache new.present) (sym is.state)
    (pages_read m.page_size m.id m.full_pages (n / m.page_size) m.tip _ cache mid.present new.present
    fewer (through_end (SamePages m.page_size (n / m.page_size) mid.present) mid new pages) can)

-- a cut leaves no more pages
pub fewer_pages : (n : ℕ) (m : WriterState) → length m.tip < m.page_size
    → n < m.full_pages * m.page_size + length m.tip → n / m.page_size ≤ m.full_pages
fewer_pages n m short less =
    let below : n < (m.full_pages + 1) * m.page_size = omega (arith, short, less) in
    let some : 0 < m.page_size = omega (arith, short) in
    let few : n / m.page_size < m.full_pages + 1 = (div-lt_iff_lt-mul {x = n} some).1 below in
    omega (arith, few)
