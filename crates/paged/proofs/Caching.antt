-- What calls of a writer put in the cache, and that reads go on.
use Rattle.std.proofs.Common.{◌≡◌, ◌∙◌, ℕ, zero, suc, ◌+◌, ◌*◌, ◌<◌, ◌≤◌, List, [], ◌∷◌, ◌++◌, length, take, drop, refl, sym, ap, subst, arith, slice_index_or, length-append, length-take, length-drop, drop-drop, append_assoc, append-nil, take-append-drop}
use Rattle.std.proofs.Math.Nat.{mul-le-mul_right, eq_of_mul-eq-mul_right, le-mul_of_pos_right, div-mul-le_self}
use Rattle.std.specs.Int.{div_ceil}
use Rattle.std.specs.Prelude.{◌/◌, ◌^◌, Result, Ok, Err, Option, Some, None, OnOk, IfOk}
use Rattle.cache.specs.CacheState.{put_count, CacheState, PutsAll, Puts}
use Rattle.std.proofs.Math.Seq.{drop-append_seam, take-append_seam}
use Rattle.std.proofs.lemmas.List.{take-append-le, drop-append-le}
use Rattle.std.specs.Result.{IsErrAnd}
use Rattle.std.specs.List.{concat}
use Rattle.std.proofs.lemmas.Result.{err_from_is_err_and}
use Rattle.disk.specs.Disk.{Life}
use Rattle.disk.specs.declared.error.Error.{Error}
use Rattle.page.specs.Tip.{ArePages}
use Rattle.cache.specs.Pages.{CachesOnly, IsTrueFor, IsFresh, page_of_content}
use Rattle.cache.proofs.CacheLaws.{put_weakly, put_all_settings, puts_one_more, puts_all_true, puts_all_caches, fresh_stays, longer_true}
use Rattle.writer_state.specs.WriterState.{WriterState}
use Rattle.writer_state.specs.declared.sync_state.SyncState.{SyncState}
use Rattle.writer_state.specs.Sound.{content, IsConsistent}
use Rattle.crash.specs.Contents.{stored}
use Rattle.crash.proofs.Pages.{length-stored}
use Rattle.paged.proofs.Footers.{length-pages}
use Rattle.paged.proofs.Bypass.{direct_pages, length-whole, pages_of_whole}
use Rattle.paged.proofs.There.{consistent_has_pages}
use Rattle.paged.specs.Calls.{CarriesOn, Settles, waited_writer, TryAppendGoes}
use Rattle.disk.specs.declared.error.Error.TheVariants.{OffsetOverflow, OutOfMemory, ReadFailed, WriteFailed, ResizeFailed, SyncFailed, InvalidChecksum, BlobInsufficientLength, IdsExhausted}
use Rattle.paged.specs.Flush.{carried, synced, with_value, full_in}
use Rattle.paged.specs.Direct.{IsDirect, buffering}
use Rattle.paged.specs.Caches.{PutsUpTo, CachesTo, Caches, ReadsOn, KeepsReads}

-- nothing is put
pub puts_nothing : (id from P : ℕ) (bytes : List ℕ) (cache : CacheState)
    → PutsUpTo id from P bytes from cache cache
puts_nothing id from P bytes cache =
    record { count = 0; reaches = omega arith; within = omega arith; puts = refl }

-- where a call is refused before it puts anything
pub refused_nothing : (A : Type 0) (w now : WriterState) (bytes : List ℕ) (cache : CacheState)
    (e : Error) → CachesTo {A = A} w now bytes cache cache (Err e)
refused_nothing A w now bytes cache e = (w.full_pages, puts_nothing w.id w.full_pages w.page_size bytes cache)

pub refused_before : {A : Type 0} (Q : Error → Type 0) (w now : WriterState) (bytes : List ℕ)
    (cache : CacheState) (result : Result A Error) → IsErrAnd result Q
    → CachesTo w now bytes cache cache result
refused_before {A} Q w now bytes cache result is =
    let p = err_from_is_err_and {Q = Q} result is in
    subst (λ (r : Result A Error). CachesTo w now bytes cache cache r) (sym p.1)
    (refused_nothing A w now bytes cache p.0)

-- what was put before a later part of the call was refused
pub refused_after : {A : Type 0} (Q : Error → Type 0) (w now : WriterState) (bytes : List ℕ)
    (cache after : CacheState) (to : ℕ) (result : Result A Error) → IsErrAnd result Q
    → PutsUpTo w.id w.full_pages w.page_size bytes to cache after
    → CachesTo w now bytes cache after result
refused_after {A} Q w now bytes cache after to result is puts =
    let p = err_from_is_err_and {Q = Q} result is in
    subst (λ (r : Result A Error). CachesTo w now bytes cache after r) (sym p.1) (to, puts)

-- what was put, whether the call is refused afterwards or not
pub put_either : {A : Type 0} (w now : WriterState) (bytes : List ℕ) (cache after : CacheState)
    (to : ℕ) (result : Result A Error) → now.full_pages ≡ to
    → PutsUpTo w.id w.full_pages w.page_size bytes to cache after
    → CachesTo w now bytes cache after result
put_either w now bytes cache after to (Ok a) is puts =
    subst (λ (n : ℕ). PutsUpTo w.id w.full_pages w.page_size bytes n cache after) (sym is) puts
put_either w now bytes cache after to (Err e) is puts = (to, puts)

-- ---- pages handed out

pub page_among : (P : ℕ) (pages : List (List ℕ)) (i : ℕ) (d : List ℕ) → ArePages P pages
    → i < length pages → slice_index_or pages i d ≡ take P (drop (i * P) (concat pages))
page_among P [] i d are below = absurd (omega (arith, below))
page_among P (page ∷ pages) zero d are below =
    let first : length page ≡ P = are 0 [] (omega arith) in
    let none : 0 * P ≡ 0 = omega arith in
    sym (ap (λ n. take P (drop n (page ++ concat pages))) none
    ∙ ap (λ n. take n (page ++ concat pages)) (sym first)
    ∙ take-append_seam page (concat pages))
page_among P (page ∷ pages) (suc i) d are below =
    let first : length page ≡ P = are 0 [] (omega arith) in
    let offset : suc i * P ≡ length page + i * P = omega (arith, first) in
    page_among P pages i d (λ k e less. are (suc k) e (omega (arith, less))) (omega (arith, below))
    ∙ sym (ap (λ n. take P (drop n (page ++ concat pages))) offset
    ∙ ap (take P) (sym (drop-drop (i * P) (length page) (page ++ concat pages))
    ∙ ap (drop (i * P)) (drop-append_seam page (concat pages))))

-- pages put by number of pages
pub page_put : (id first i : ℕ) (pages : List (List ℕ)) (d : List ℕ) (old mid new : CacheState)
    → ArePages old.page_size pages → i < length pages → PutsAll id first i (concat pages) old mid
    → Puts (id, first + i) (slice_index_or pages i d) mid new
    → PutsAll id first (i + 1) (concat pages) old new
page_put id first i pages d old mid new are below so_far last =
    let e : suc i ≡ i + 1 = omega arith in
    subst (λ (n : ℕ). PutsAll id first n (concat pages) old new) e
    (puts_one_more id first i (concat pages) old mid new so_far
    (subst (λ (b : List ℕ). Puts (id, first + i) b mid new)
    (page_among old.page_size pages i d are below) last))

-- more bytes after those of the pages
pub puts_longer : (id page count : ℕ) (bytes more : List ℕ) (old new : CacheState)
    → count * old.page_size ≤ length bytes → PutsAll id page count bytes old new
    → PutsAll id page count (bytes ++ more) old new
puts_longer id page zero bytes more old new fits same = same
puts_longer id page (suc count) bytes more old new fits (mid, first, rest) =
    let P : ℕ = old.page_size in
    let one : P ≤ length bytes = omega (arith, fits) in
    let here : take P bytes ≡ take P (bytes ++ more) = sym (take-append-le P bytes more one) in
    let after : drop P (bytes ++ more) ≡ drop P bytes ++ more = drop-append-le P bytes more one in
    let weak = put_weakly (id, page) (take P bytes) old mid first in
    let left : count * mid.page_size ≤ length (drop P bytes) =
    subst (λ (Q : ℕ). count * Q ≤ length (drop P bytes)) (sym weak.settings.page_size)
    (omega (arith, fits, length-drop P bytes)) in (
      mid,
      subst (λ (b : List ℕ). Puts (id, page) b old mid) here first,
      subst (λ (b : List ℕ). PutsAll id (page + 1) count b mid new) (sym after)
          (puts_longer id (page + 1) count (drop P bytes) more mid new left rest),
    )

-- the pages that a tip handed out
pub tip_put : (id first P full : ℕ) (pages : List (List ℕ)) (tip : List ℕ) (old new : CacheState)
    → 0 < P → old.page_size ≡ P → ArePages P pages → concat pages ≡ take (full * P) tip
    → full * P ≤ length tip → PutsAll id first (length pages) (concat pages) old new
    → PutsUpTo id first P tip (first + full) old new
tip_put id first P full pages tip old new some same are is within puts =
    let size = length-pages P pages are in
    let all : length pages * P ≡ full * P =
    omega (arith, size, ap length is, length-take (full * P) tip, within) in
    let many : length pages ≡ full = eq_of_mul-eq-mul_right P some (length pages) full all in
    let fits : length pages * old.page_size ≤ length (concat pages) =
    subst (λ (Q : ℕ). length pages * Q ≤ length (concat pages)) (sym same) (omega (arith, size)) in
    record {
      count = length pages;
      reaches = omega (arith, many);
      within = omega (arith, all, within);
      puts = subst (λ (b : List ℕ). PutsAll id first (length pages) b old new)
          (ap (λ l. l ++ drop (full * P) tip) is ∙ take-append-drop (full * P) tip)
          (puts_longer id first (length pages) (concat pages) (drop (full * P) tip) old new fits puts);
    }

-- the pages that a writer takes out of its tip
pub taken_put : (w : WriterState) (id first : ℕ) (pages shown : List (List ℕ)) (old new : CacheState)
    → id ≡ w.id → first ≡ w.full_pages → shown ≡ pages → 0 < w.page_size
    → old.page_size ≡ w.page_size → ArePages w.page_size pages
    → concat pages ≡ take (full_in w * w.page_size) w.tip
    → PutsAll id first (length shown) (concat shown) old new
    → PutsUpTo w.id w.full_pages w.page_size w.tip (w.full_pages + full_in w) old new
taken_put w id first pages shown old new is_id is_first is_shown some same are is puts =
    tip_put w.id w.full_pages w.page_size (full_in w) pages w.tip old new some same are is
    (div-mul-le_self (length w.tip) w.page_size)
    (subst (λ (k : ℕ). PutsAll k w.full_pages (length pages) (concat pages) old new) is_id
    (subst (λ (f : ℕ). PutsAll id f (length pages) (concat pages) old new) is_first
    (subst (λ (l : List (List ℕ)). PutsAll id first (length l) (concat l) old new) is_shown puts)))

-- whole pages that begin where the tip does
pub direct_put : (w : WriterState) (whole rest shown : List ℕ) (id first : ℕ) (old new : CacheState)
    → IsDirect w whole rest → id ≡ w.id → first ≡ w.full_pages → shown ≡ whole → 0 < w.page_size
    → old.page_size ≡ w.page_size
    → PutsAll id first (put_count old.page_size first (length shown)) shown old new
    → PutsUpTo w.id w.full_pages w.page_size (whole ++ rest)
    (w.full_pages + full_in (buffering w (whole ++ rest))) old new
direct_put w whole rest shown id first old new direct is_id is_first is_shown some same puts =
    let P : ℕ = w.page_size in
    let many : ℕ = length whole / P in
    let all : length whole ≡ many * P = length-whole P whole rest (whole ++ rest) direct.pages direct.short refl in
    let as_many : (length whole + length rest) / P ≡ many =
    ap (λ n. n / P) (sym (length-append whole rest))
    ∙ pages_of_whole P whole rest (whole ++ rest) direct.pages direct.short refl in
    let offsets = le-mul_of_pos_right {m = P + 12} (w.full_pages + div_ceil (length whole + length rest) P) (omega arith) in
    let few : w.full_pages + many < 2 ^ 64 = omega (arith, offsets, direct.fits, as_many) in
    let count : put_count P w.full_pages (length whole) ≡ many = omega (arith, few) in
    let mine : PutsAll w.id w.full_pages (put_count P w.full_pages (length whole)) whole old new =
    subst (λ (Q : ℕ). PutsAll w.id w.full_pages (put_count Q w.full_pages (length whole)) whole old new) same
    (subst (λ (k : ℕ). PutsAll k w.full_pages (put_count old.page_size w.full_pages (length whole)) whole old new) is_id
    (subst (λ (f : ℕ). PutsAll id f (put_count old.page_size f (length whole)) whole old new) is_first
    (subst (λ (l : List ℕ). PutsAll id first (put_count old.page_size first (length l)) l old new) is_shown puts))) in
    let counted : PutsAll w.id w.full_pages many whole old new =
    subst (λ (n : ℕ). PutsAll w.id w.full_pages n whole old new) count mine in
    let within : many * old.page_size ≤ length whole =
    subst (λ (Q : ℕ). many * Q ≤ length whole) (sym same) (omega (arith, all)) in
    record {
      count = many;
      reaches = omega (arith, direct_pages w whole rest direct);
      within = omega (arith, all, length-append whole rest);
      puts = puts_longer w.id w.full_pages many whole rest old new within counted;
    }

-- ---- one call after another

puts_joined : (id page n m : ℕ) (bytes : List ℕ) (old mid new : CacheState)
    → PutsAll id page n bytes old mid
    → PutsAll id (page + n) m (drop (n * old.page_size) bytes) mid new
    → PutsAll id page (n + m) bytes old new
puts_joined id page zero m bytes old mid new same rest =
    let e : page + 0 ≡ page = omega arith in
    let f : 0 * old.page_size ≡ 0 = omega arith in
    let g : m ≡ 0 + m = omega arith in
    subst (λ (k : ℕ). PutsAll id page k bytes old new) g
    (subst (λ (c : CacheState). PutsAll id page m bytes c new) same
    (subst (λ (p : ℕ). PutsAll id p m bytes mid new) e
    (subst (λ (k : ℕ). PutsAll id (page + 0) m (drop k bytes) mid new) f rest)))
puts_joined id page (suc n) m bytes old mid new (c, first, more) rest =
    let P : ℕ = old.page_size in
    let weak = put_weakly (id, page) (take P bytes) old c first in
    let e : page + suc n ≡ page + 1 + n = omega arith in
    let offset : suc n * P ≡ P + n * P = omega arith in
    let moved : drop (suc n * P) bytes ≡ drop (n * c.page_size) (drop P bytes) =
    ap (λ k. drop k bytes) offset ∙ sym (drop-drop (n * P) P bytes)
    ∙ ap (λ Q. drop (n * Q) (drop P bytes)) (sym weak.settings.page_size) in
    let g : suc (n + m) ≡ suc n + m = omega arith in
    subst (λ (k : ℕ). PutsAll id page k bytes old new) g (
      c,
      first,
      puts_joined id (page + 1) n m (drop P bytes) c mid new more
          (subst (λ (p : ℕ). PutsAll id p m (drop (n * c.page_size) (drop P bytes)) mid new) e
          (subst (λ (b : List ℕ). PutsAll id (page + suc n) m b mid new) moved rest)),
    )

-- first the pages of some bytes, which all of them fill, and then of more
pub puts_then : (id from P : ℕ) (front after : List ℕ) (between to : ℕ) (old mid new : CacheState)
    → old.page_size ≡ P → between * P ≡ from * P + length front
    → PutsUpTo id from P front between old mid → PutsUpTo id between P after to mid new
    → PutsUpTo id from P (front ++ after) to old new
puts_then id from P front after between to old mid new same filled first second =
    let all : first.count * P ≡ length front = omega (arith, filled, ap (λ (n : ℕ). n * P) first.reaches) in
    let fits : first.count * old.page_size ≤ length front =
    subst (λ (Q : ℕ). first.count * Q ≤ length front) (sym same) first.within in
    let rest : drop (first.count * old.page_size) (front ++ after) ≡ after =
    ap (λ (Q : ℕ). drop (first.count * Q) (front ++ after)) same
    ∙ ap (λ (n : ℕ). drop n (front ++ after)) all ∙ drop-append_seam front after in
    record {
      count = first.count + second.count;
      reaches = omega (arith, first.reaches, second.reaches);
      within = omega (arith, all, second.within, length-append front after);
      puts = puts_joined id from first.count second.count (front ++ after) old mid new
          (puts_longer id from first.count front after old mid fits first.puts)
          (subst (λ (p : ℕ). PutsAll id p second.count (drop (first.count * old.page_size) (front ++ after)) mid new)
          first.reaches (subst (λ (b : List ℕ). PutsAll id between second.count b mid new) (sym rest) second.puts));
    }

-- more bytes than the pages'
pub puts_of_longer : (id from P to : ℕ) (bytes more : List ℕ) (old new : CacheState)
    → old.page_size ≡ P → PutsUpTo id from P bytes to old new
    → PutsUpTo id from P (bytes ++ more) to old new
puts_of_longer id from P to bytes more old new same p = record {
  count = p.count;
  reaches = p.reaches;
  within = omega (arith, p.within, length-append bytes more);
  puts = puts_longer id from p.count bytes more old new
      (subst (λ (Q : ℕ). p.count * Q ≤ length bytes) (sym same) p.within) p.puts;
}

-- ---- what follows for the cache

-- a page of a content's beginning
pub page_of_front : (P page : ℕ) (front rest : List ℕ) → (page + 1) * P ≤ length front
    → page_of_content P (front ++ rest) page ≡ page_of_content P front page
page_of_front P page front rest fits =
    let within : page * P ≤ length front = omega (arith, fits) in
    ap (take P) (drop-append-le (page * P) front rest within)
    ∙ take-append-le P (drop (page * P) front) rest (omega (arith, fits, length-drop (page * P) front))

-- the cache's settings stay
pub puts_settings : (id from P to : ℕ) (bytes : List ℕ) (old new : CacheState)
    → PutsUpTo id from P bytes to old new → new.page_size ≡ old.page_size
puts_settings id from P to bytes old new p =
    (put_all_settings id from p.count bytes old new p.puts).page_size

-- such a call only puts pages of the content
pub puts_only : (id from P to : ℕ) (front bytes all : List ℕ) (old new : CacheState)
    → length front ≡ from * P → all ≡ front ++ bytes → old.page_size ≡ P
    → PutsUpTo id from P bytes to old new → CachesOnly id from all old new
puts_only id from P to front bytes all old new size is same p =
    let offset : from * old.page_size ≡ length front =
    ap (λ (Q : ℕ). from * Q) same ∙ sym size in
    let there : drop (from * old.page_size) all ≡ bytes =
    ap (λ (n : ℕ). drop n all) offset ∙ ap (drop (length front)) is
    ∙ drop-append_seam front bytes in
    puts_all_caches id from from p.count all old new (omega arith)
    (subst (λ (Q : ℕ). (from + p.count) * Q ≤ length all) (sym same)
    (omega (arith, p.within, size, ap length is, length-append front bytes)))
    (subst (λ (b : List ℕ). PutsAll id from p.count b old new) (sym there) p.puts)

-- what is held below the tip stays true
pub puts_true : (id from P to : ℕ) (front bytes all held : List ℕ) (old new : CacheState)
    → length front ≡ from * P → all ≡ front ++ bytes → take (from * P) held ≡ front
    → old.page_size ≡ P → PutsUpTo id from P bytes to old new
    → IsTrueFor id held from old → IsTrueFor id all to new
puts_true id from P to front bytes all held old new size is begins same p true_old =
    let offset : from * old.page_size ≡ length front =
    ap (λ (Q : ℕ). from * Q) same ∙ sym size in
    let there : drop (from * old.page_size) all ≡ bytes =
    ap (λ (n : ℕ). drop n all) offset ∙ ap (drop (length front)) is
    ∙ drop-append_seam front bytes in
    let alike : (page : ℕ) → page < from → page_of_content old.page_size all page
    ≡ page_of_content old.page_size held page =
    λ page below.
    let low : (page + 1) * P ≤ from * P = mul-le-mul_right P (omega (arith, below)) in
    ap (λ (Q : ℕ). page_of_content Q all page) same
    ∙ ap (λ l. page_of_content P l page) is
    ∙ page_of_front P page front bytes (omega (arith, low, size))
    ∙ sym (ap (λ (Q : ℕ). page_of_content Q held page) same
    ∙ ap (λ l. page_of_content P l page) (sym (take-append-drop (from * P) held) ∙ ap (λ l. l ++ drop (from * P) held) begins)
    ∙ page_of_front P page front (drop (from * P) held) (omega (arith, low, size))) in
    subst (λ (n : ℕ). IsTrueFor id all n new) (sym p.reaches)
    (puts_all_true id from p.count all old new
    (subst (λ (b : List ℕ). PutsAll id from p.count b old new) (sym there) p.puts)
    (longer_true id held all from old alike true_old))

-- reads go on where a writer does
pub reads_on : (sum : List ℕ → ℕ) (w now : WriterState) (more : List ℕ) (old new : Life)
    (cache after : CacheState) → cache.page_size ≡ w.page_size → CarriesOn sum w old more now new
    → now.full_pages * (now.page_size + 12) ≤ length new.present.readable
    → PutsUpTo w.id w.full_pages w.page_size (w.tip ++ more) now.full_pages cache after
    → ReadsOn w now cache after old new
reads_on sum w now more old new cache after same goes there puts can =
    let P : ℕ = w.page_size in
    let front : List ℕ = stored P w.full_pages old.present.readable in
    let size : length front ≡ w.full_pages * P = length-stored P w.full_pages old.present.readable can.there in
    let settings = put_all_settings w.id w.full_pages puts.count (w.tip ++ more) cache after puts.puts in
    let is : content now new.present.readable ≡ front ++ (w.tip ++ more) =
    goes.content ∙ append_assoc front w.tip more in
    let held : List ℕ = content w old.present.readable in
    let begins : take (w.full_pages * P) held ≡ front =
    ap (λ n. take n held) (sym size) ∙ take-append_seam front w.tip in
    record {
      there = there;
      page_size = settings.page_size ∙ same ∙ sym goes.same.page_size;
      given = omega (arith, can.given, settings.ids_given, goes.same.id);
      cached = subst (λ (id : ℕ). IsTrueFor id (content now new.present.readable) now.full_pages after) (sym goes.same.id)
          (puts_true w.id w.full_pages P now.full_pages front (w.tip ++ more) (content now new.present.readable) held cache after
          size is begins same puts can.cached);
    }

-- ---- states of a writer in which it puts the same

-- after a wait, or with its durable slot brought up to date
pub puts_waited : {A : Type 0} (w m now : WriterState) (bytes : List ℕ) (cache after : CacheState)
    (result : Result A Error) → m ≡ waited_writer w → CachesTo m now bytes cache after result
    → CachesTo w now bytes cache after result
puts_waited {A} w m now bytes cache after (Ok a) is puts =
    subst (λ (v : WriterState). CachesTo {A = A} v now bytes cache after (Ok a)) is puts
puts_waited {A} w m now bytes cache after (Err e) is puts =
    subst (λ (v : WriterState). CachesTo {A = A} v now bytes cache after (Err e)) is puts

pub puts_carried : {A : Type 0} (w v now : WriterState) (bytes : List ℕ) (cache after : CacheState)
    (result : Result A Error) → v ≡ carried w → CachesTo v now bytes cache after result
    → CachesTo w now bytes cache after result
puts_carried {A} w v now bytes cache after (Ok a) is puts =
    subst (λ (u : WriterState). CachesTo {A = A} u now bytes cache after (Ok a)) is puts
puts_carried {A} w v now bytes cache after (Err e) is puts =
    subst (λ (u : WriterState). CachesTo {A = A} u now bytes cache after (Err e)) is puts

-- with more bytes in its tip
pub puts_buffered : {A : Type 0} (w v now : WriterState) (more bytes : List ℕ)
    (cache after : CacheState) (result : Result A Error) → v ≡ buffering w more
    → CachesTo v now bytes cache after result → CachesTo w now bytes cache after result
puts_buffered {A} w v now more bytes cache after (Ok a) is puts =
    subst (λ (u : WriterState). CachesTo {A = A} u now bytes cache after (Ok a)) is puts
puts_buffered {A} w v now more bytes cache after (Err e) is puts =
    subst (λ (u : WriterState). CachesTo {A = A} u now bytes cache after (Err e)) is puts

-- what is put of the same bytes
pub puts_alike : {A : Type 0} (w now : WriterState) (bytes same : List ℕ) (cache after : CacheState)
    (result : Result A Error) → bytes ≡ same → CachesTo w now bytes cache after result
    → CachesTo w now same cache after result
puts_alike w now bytes same cache after result is puts =
    subst (λ (b : List ℕ). CachesTo w now b cache after result) is puts

-- what was put stays where what is written is made durable after it
pub puts_before : {A : Type 0} (w m now : WriterState) (bytes : List ℕ) (cache after : CacheState)
    (result : Result A Error) → OnOk result (now.full_pages ≡ m.full_pages)
    → PutsUpTo w.id w.full_pages w.page_size bytes m.full_pages cache after
    → CachesTo w now bytes cache after result
puts_before w m now bytes cache after (Ok a) same puts =
    subst (λ (n : ℕ). PutsUpTo w.id w.full_pages w.page_size bytes n cache after) (sym same) puts
puts_before w m now bytes cache after (Err e) same puts = (m.full_pages, puts)

pub synced_pages : {A : Type 0} (m now : WriterState) (result : Result A Error)
    → OnOk result (now ≡ synced m) → OnOk result (now.full_pages ≡ m.full_pages)
synced_pages m now (Ok a) is = ap (λ (v : WriterState). v.full_pages) is
synced_pages m now (Err e) is = tt

pub started_pages : {A : Type 0} (f : A → SyncState) (w now : WriterState) (result : Result A Error)
    → IfOk result (λ a. now ≡ record w { sync = f a }) → OnOk result (now.full_pages ≡ w.full_pages)
started_pages f w now (Ok a) is = ap (λ (v : WriterState). v.full_pages) is
started_pages f w now (Err e) is = tt

-- where nothing is written nothing is put
pub settled_nothing : (sum : List ℕ → ℕ) (w now : WriterState) (bytes : List ℕ)
    (cache : CacheState) (old new : Life) (result : Result (Unit {0}) Error)
    → Settles sum w old new (with_value now result) → CachesTo w now bytes cache cache result
settled_nothing sum w now bytes cache old new (Ok a) (goes, is) =
    subst (λ (n : ℕ). PutsUpTo w.id w.full_pages w.page_size bytes n cache cache)
    (sym (ap (λ (v : WriterState). v.full_pages) is))
    (puts_nothing w.id w.full_pages w.page_size bytes cache)
settled_nothing sum w now bytes cache old new (Err e) refused = refused_nothing (Unit {0}) w now bytes cache e

-- the bytes that are put after a tip that was filled
pub filled_pages : (sum : List ℕ → ℕ) (w m : WriterState) (first : List ℕ) (old mid : Life)
    → IsConsistent sum w old.present → CarriesOn sum w old first m mid → m.tip ≡ []
    → m.full_pages * w.page_size ≡ w.full_pages * w.page_size + length (w.tip ++ first)
filled_pages sum w m first old mid sound goes empty =
    let there = consistent_has_pages sum w old sound in
    let P : ℕ = w.page_size in
    let size : m.full_pages * P ≡ m.full_pages * m.page_size =
    ap (λ (Q : ℕ). m.full_pages * Q) (sym goes.same.page_size) in
    omega (
      arith,
      goes.size,
      size,
      ap length goes.content,
      ap length empty,
      length-append (content w old.present.readable) first,
      length-append (stored P w.full_pages old.present.readable) w.tip,
      length-stored P w.full_pages old.present.readable there,
      length-append w.tip first,
    )

-- ---- what a public call guarantees

pub only_law : (sum : List ℕ → ℕ) (w : WriterState) (more bytes : List ℕ) (old : Life)
    (cache after : CacheState) (to : ℕ) → IsConsistent sum w old.present
    → cache.page_size ≡ w.page_size → bytes ≡ w.tip ++ more
    → PutsUpTo w.id w.full_pages w.page_size bytes to cache after
    → CachesOnly w.id w.full_pages (content w old.present.readable ++ more) cache after
only_law sum w more bytes old cache after to sound same is puts =
    let P : ℕ = w.page_size in
    let front : List ℕ = stored P w.full_pages old.present.readable in
    let there = consistent_has_pages sum w old sound in
    puts_only w.id w.full_pages P to front bytes (content w old.present.readable ++ more) cache after
    (length-stored P w.full_pages old.present.readable there)
    (append_assoc front w.tip more ∙ ap (λ l. front ++ l) (sym is)) same puts

-- whatever it answers, it puts pages of the content alone
pub caches_law : {A : Type 0} (sum : List ℕ → ℕ) (writer : A → WriterState) (w : WriterState)
    (more bytes : List ℕ) (old : Life) (cache after : CacheState) (result : Result A Error)
    → IsConsistent sum w old.present → cache.page_size ≡ w.page_size → bytes ≡ w.tip ++ more
    → Caches writer w bytes cache after result
    → CachesOnly w.id w.full_pages (content w old.present.readable ++ more) cache after
caches_law sum writer w more bytes old cache after (Ok a) sound same is puts =
    only_law sum w more bytes old cache after (writer a).full_pages sound same is puts
caches_law sum writer w more bytes old cache after (Err e) sound same is (to, puts) =
    only_law sum w more bytes old cache after to sound same is puts

-- a call that appends nothing puts pages of the content alone, whatever it answers
pub caches_law_same : {A : Type 0} (sum : List ℕ → ℕ) (writer : A → WriterState) (w : WriterState)
    (old : Life) (cache after : CacheState) (result : Result A Error) → IsConsistent sum w old.present
    → cache.page_size ≡ w.page_size → Caches writer w w.tip cache after result
    → CachesOnly w.id w.full_pages (content w old.present.readable) cache after
caches_law_same sum writer w old cache after result sound same puts =
    subst (λ (l : List ℕ). CachesOnly w.id w.full_pages l cache after)
    (append-nil (content w old.present.readable))
    (caches_law sum writer w [] w.tip old cache after result sound same (sym (append-nil w.tip)) puts)

-- ids that are still to be given hold nothing
pub fresh_law : (id from : ℕ) (all : List ℕ) (cache after : CacheState)
    → CachesOnly id from all cache after → id < cache.ids_given → IsFresh cache → IsFresh after
fresh_law id from all cache after only given fresh =
    fresh_stays id from all cache after given only fresh

-- reads go on after each call that appends something or nothing
pub reads_after : {A : Type 0} (sum : List ℕ → ℕ) (writer : A → WriterState) (w : WriterState)
    (more bytes : List ℕ) (old new : Life) (cache after : CacheState) (a : A)
    → cache.page_size ≡ w.page_size → bytes ≡ w.tip ++ more
    → CarriesOn sum w old more (writer a) new → Caches {A = A} writer w bytes cache after (Ok a)
    → ReadsOn w (writer a) cache after old new
reads_after sum writer w more bytes old new cache after a same is goes puts =
    reads_on sum w (writer a) more old new cache after same goes
    (consistent_has_pages sum (writer a) new goes.holds)
    (subst (λ (b : List ℕ). PutsUpTo w.id w.full_pages w.page_size b (writer a).full_pages cache after)
    is puts)

-- pages that go past the tip, after those that filled it
pub direct_joined : {A : Type 0} (sum : List ℕ → ℕ) (w m now : WriterState) (first rest bytes : List ℕ)
    (old mid : Life) (cache between after : CacheState) (result : Result A Error)
    → IsConsistent sum w old.present → CarriesOn sum w old first m mid → m.tip ≡ []
    → cache.page_size ≡ w.page_size → first ++ rest ≡ bytes
    → PutsUpTo w.id w.full_pages w.page_size (w.tip ++ first) m.full_pages cache between
    → CachesTo m now rest between after result
    → CachesTo w now (w.tip ++ bytes) cache after result
direct_joined {A} sum w m now first rest bytes old mid cache between after result sound goes empty same joined puts more =
    by_answer result more
  where
    both : (to : ℕ) → PutsUpTo m.id m.full_pages m.page_size rest to between after
        → PutsUpTo w.id w.full_pages w.page_size (w.tip ++ bytes) to cache after
    both to second =
        subst (λ (b : List ℕ). PutsUpTo w.id w.full_pages w.page_size b to cache after)
        (append_assoc w.tip first rest ∙ ap (λ l. w.tip ++ l) joined)
        (puts_then w.id w.full_pages w.page_size (w.tip ++ first) rest m.full_pages to cache between after
        same (filled_pages sum w m first old mid sound goes empty) puts
        (subst (λ (P : ℕ). PutsUpTo w.id m.full_pages P rest to between after) goes.same.page_size
        (subst (λ (id : ℕ). PutsUpTo id m.full_pages m.page_size rest to between after) goes.same.id second)))

    by_answer : (r : Result A Error) → CachesTo m now rest between after r
        → CachesTo w now (w.tip ++ bytes) cache after r
    by_answer (Ok a) second = both now.full_pages second
    by_answer (Err e) (to, second) = (to, both to second)

-- what was put of the first of some bytes
pub longer_refused : {A : Type 0} (Q : Error → Type 0) (w now : WriterState)
    (front rest bytes : List ℕ) (cache after : CacheState) (to : ℕ) (result : Result A Error)
    → IsErrAnd result Q → cache.page_size ≡ w.page_size → front ++ rest ≡ bytes
    → PutsUpTo w.id w.full_pages w.page_size (w.tip ++ front) to cache after
    → CachesTo w now (w.tip ++ bytes) cache after result
longer_refused Q w now front rest bytes cache after to result refused same joined puts =
    refused_after Q w now (w.tip ++ bytes) cache after to result refused
    (subst (λ (b : List ℕ). PutsUpTo w.id w.full_pages w.page_size b to cache after)
    (append_assoc w.tip front rest ∙ ap (λ l. w.tip ++ l) joined)
    (puts_of_longer w.id w.full_pages w.page_size to (w.tip ++ front) rest cache after same puts))

-- ---- calls that ask no device

longer_reads : (w now : WriterState) (more : List ℕ) → now ≡ buffering w more → KeepsReads w now
longer_reads w now more is =
    subst (λ (v : WriterState). KeepsReads w v) (sym is) (λ cache d can.
    let P : ℕ = w.page_size in
    let front : List ℕ = stored P w.full_pages d.readable in
    let size : length front ≡ w.full_pages * P = length-stored P w.full_pages d.readable can.there in
    let begins : take (w.full_pages * P) (front ++ w.tip) ≡ front =
    ap (λ n. take n (front ++ w.tip)) (sym size) ∙ take-append_seam front w.tip in
    record {
      there = can.there;
      page_size = can.page_size;
      given = can.given;
      cached = puts_true w.id w.full_pages P w.full_pages front (w.tip ++ more)
          (front ++ (w.tip ++ more)) (front ++ w.tip) cache cache size refl begins can.page_size
          (puts_nothing w.id w.full_pages P (w.tip ++ more) cache) can.cached;
    })

same_reads : (w now : WriterState) → now ≡ w → KeepsReads w now
same_reads w now is = subst (λ (v : WriterState). KeepsReads w v) (sym is) (λ cache d can. can)

pub tried_reads : (w now : WriterState) (bytes : List ℕ) (result : Result (Option ℕ) Error)
    → TryAppendGoes w bytes now result → KeepsReads w now
tried_reads w now bytes (Ok (Some at)) (fits, room, offset, is) = longer_reads w now bytes is
tried_reads w now bytes (Ok None) (fits, room, is) = same_reads w now is
tried_reads w now bytes (Err OffsetOverflow) (far, is) = same_reads w now is
tried_reads w now bytes (Err OutOfMemory) (fits, room, is) = same_reads w now is
tried_reads w now bytes (Err ReadFailed) x = elim x [ ]
tried_reads w now bytes (Err WriteFailed) x = elim x [ ]
tried_reads w now bytes (Err ResizeFailed) x = elim x [ ]
tried_reads w now bytes (Err SyncFailed) x = elim x [ ]
tried_reads w now bytes (Err InvalidChecksum) x = elim x [ ]
tried_reads w now bytes (Err BlobInsufficientLength) x = elim x [ ]
tried_reads w now bytes (Err IdsExhausted) x = elim x [ ]
