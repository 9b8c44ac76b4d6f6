-- Digests of the open segment's pages that are made ahead of its rotation.
use Rattle.std.specs.Prelude.{◌≡◌, ◌<◌, ◌≤◌, ◌+◌, ◌-◌, ◌*◌, ◌/◌, ◌%◌, ◌++◌, ℕ, zero, suc, Bool, true, cond, List, [], ◌∷◌, length, take, drop, max, min, Some, None, Option, IfOk, IfSome, Result, Ok, Err}
use Rattle.std.specs.List.{filter, range_with_len}
use Rattle.std.specs.Result.{IsErrAnd}
use Rattle.std.proofs.Common.{ap, ap₂, append-nil, sym, ◌∙◌, subst, arith, inl, inr, div-add-mod', div-mul-le_self, length-append, mod-lt, mul-le-mul_left, mul-le-mul_right, suc-mul}
use Rattle.std.proofs.lemmas.Bool.{cases_Bool, false_from_ne_true}
use Rattle.std.proofs.lemmas.List.{append_assoc, length-drop, take-append-le}
use Rattle.std.proofs.Math.Nat.{lt_of_mul-lt-mul_right}
use Rattle.disk.specs.Disk.{Life}
use Rattle.disk.specs.declared.error.Error as disk
use Rattle.disk.specs.declared.error.Error.TheVariants as layer
use Rattle.crash.specs.Looks.{Looked}
use Rattle.writer_state.specs.WriterState.{WriterState}
use Rattle.writer_state.specs.Sound.{content}
use Rattle.paged_read.specs.Failures.{NoneFailed, none_failed_joins, none_failed_start}
use Rattle.paged_read.specs.Ranges.{touches}
use Rattle.paged_read.proofs.RangedPages.{touch_true}
use Rattle.paged_read.proofs.Windows.{filter_none}
use Rattle.paged.specs.Calls.{AsksAtMost}
use Rattle.journal.specs.Calls.{RecordReadLeaves}
use Rattle.journal.specs.Journal.{ReadContentGoes, RecordReadRefused}
use Rattle.journal.proofs.Journals.{refused_later}
use Rattle.page_digests.specs.Growing.{DigestingState}
use Rattle.page_digests.specs.Seals.{EachIsByte, TellsApart}
use Rattle.page_digests.proofs.Growth.{page-grown}
use Rattle.segments.specs.declared.error.Error.{Error}
use Rattle.segments.specs.declared.error.Error.TheVariants as errors
use Rattle.segments.specs.Owned.{DigestsFail, HasJournal, IsOwned, IsOwnedJournal, OwnedContentGoes, OwnedReadLeaves, OwnedState, content_now, content_of, owned_size}
use Rattle.segments.specs.Ahead.{AheadGoes, HasDigests, IsDigestedAhead, IsFurther, PagesGo, content_calls}
use Rattle.segments.proofs.Joining.{looked_bytes}
use Rattle.segments.specs.declared.segment_digesting.SegmentLevels.{SegmentLevels}
use Rattle.segments.specs.SegmentLevels.{AreSegmentLevels, FinishesSegment, GoesOnWith, IsSegmentDigested, SegmentDigestingState}
use Rattle.segments.proofs.Digested.{all_bytes, bytes_grow, content_kept, no_bytes_yet, page_is, rest_is, size_now}
use Rattle.segments.proofs.SegmentDigests.{as_many}

-- ---- what is digested

now_by : (d : List ℕ → List ℕ) (P : ℕ) (life : Life) (x : SegmentDigestingState) (j : Option WriterState) → HasJournal j (λ w. Unit {0})
    → IfSome j (λ w. IsDigestedAhead d P (content w life.present.readable) x) → IsDigestedAhead d P (content_of j life) x
now_by d P life x None there has = absurd there
now_by d P life x (Some w) there has = has

-- the content of the journal that is there is digested so far
ahead_now : (d : List ℕ → List ℕ) (s : OwnedState) (x : SegmentDigestingState) → HasJournal s.journal (λ w. Unit {0}) → HasDigests d s x → IsDigestedAhead d s.page_size (content_now s) x
ahead_now d s x there has = now_by d s.page_size s.life x s.journal there has

of_by : (d : List ℕ → List ℕ) (P : ℕ) (life : Life) (x : SegmentDigestingState) (j : Option WriterState) → IsDigestedAhead d P (content_of j life) x
    → IfSome j (λ w. IsDigestedAhead d P (content w life.present.readable) x)
of_by d P life x None is = tt
of_by d P life x (Some w) is = is

ahead_of : (d : List ℕ → List ℕ) (s : OwnedState) (x : SegmentDigestingState) → IsDigestedAhead d s.page_size (content_now s) x → HasDigests d s x
ahead_of d s x is = of_by d s.page_size s.life x s.journal is

-- that of the journal that was taken
pub digests_taken : (d : List ℕ → List ℕ) (P : ℕ) (life : Life) (x : SegmentDigestingState) (j : Option WriterState) (w : WriterState)
    → IfSome j (λ w. IsDigestedAhead d P (content w life.present.readable) x) → j ≡ Some w → IsDigestedAhead d P (content w life.present.readable) x
digests_taken d P life x j w has is = subst (λ (j : Option WriterState). IfSome j (λ w. IsDigestedAhead d P (content w life.present.readable) x)) is has

-- nothing is digested yet
pub digests_none : (d : List ℕ → List ℕ) (P : ℕ) (life : Life) (x : SegmentDigestingState) (j : Option WriterState) → ((content : List ℕ) → IsSegmentDigested d P content x) → x.digested.pages ≡ 0
    → IfSome j (λ w. IsDigestedAhead d P (content w life.present.readable) x)
digests_none d P life x j is none =
    let held = content_of j life in
    of_by d P life x j (record {
      digested = λ rest. is (held ++ rest);
      bytes = subst (λ (n : ℕ). EachIsByte (take (n * P) held)) (sym none) (no_bytes_yet P held);
    })

-- nor where what was digested was taken
pub digests_renewed : (d : List ℕ → List ℕ) (P : ℕ) (life : Life) (fresh x : SegmentDigestingState) (j : Option WriterState) → x ≡ fresh → ((content : List ℕ) → IsSegmentDigested d P content fresh) → fresh.digested.pages ≡ 0
    → IfSome j (λ w. IsDigestedAhead d P (content w life.present.readable) x)
digests_renewed d P life fresh x j same is none =
    subst (λ (y : SegmentDigestingState). IfSome j (λ w. IsDigestedAhead d P (content w life.present.readable) y)) (sym same) (digests_none d P life fresh j is none)

-- no page is digested then
pub digests_gone : (u s : OwnedState) (n : ℕ) → u ≡ s → n ≡ 0 → record u { digested = n } ≡ record s { digested = 0 }
digests_gone u s n same none = ap (λ (v : OwnedState). record v { digested = n }) same ∙ ap (λ (k : ℕ). record s { digested = k }) none

-- of the content as it is
pub ahead_is : (d : List ℕ → List ℕ) (P : ℕ) (held : List ℕ) (x : SegmentDigestingState) → IsDigestedAhead d P held x → IsSegmentDigested d P held x
ahead_is d P held x is = subst (λ (l : List ℕ). IsSegmentDigested d P l x) (append-nil held) (is.digested [])

-- what is digested stays so as the content grows
pub ahead_grown : (d : List ℕ → List ℕ) (P : ℕ) (held now more : List ℕ) (x : SegmentDigestingState) → IsDigestedAhead d P held x → now ≡ held ++ more → IsDigestedAhead d P now x
ahead_grown d P held now more x ahead grown =
    let within : x.digested.pages * P ≤ length held = (ahead_is d P held x ahead).digested.within in
    subst (λ (l : List ℕ). IsDigestedAhead d P l x) (sym grown) (record {
      digested = λ rest. subst (λ (l : List ℕ). IsSegmentDigested d P l x) (sym (append_assoc held more rest)) (ahead.digested (more ++ rest));
      bytes = subst EachIsByte (sym (take-append-le (x.digested.pages * P) held more within)) ahead.bytes;
    })

-- and as it stays
pub ahead_kept : (d : List ℕ → List ℕ) (P : ℕ) (held now : List ℕ) (x : SegmentDigestingState) → IsDigestedAhead d P held x → now ≡ held → IsDigestedAhead d P now x
ahead_kept d P held now x ahead same = subst (λ (l : List ℕ). IsDigestedAhead d P l x) (sym same) ahead

-- its marks are by the same pages
pub marks_sized : (d : List ℕ → List ℕ) (s : OwnedState) (x : SegmentDigestingState) → HasJournal s.journal (λ w. Unit {0}) → HasDigests d s x → x.marked.page_size ≡ s.page_size
marks_sized d s x there has = (ahead_is d s.page_size (content_now s) x (ahead_now d s x there has)).page_size

-- a read leaves it
pub digests_looked : (d : List ℕ → List ℕ) (P : ℕ) (old new : Life) (x : SegmentDigestingState) (j : Option WriterState) → Looked old new
    → IfSome j (λ w. IsDigestedAhead d P (content w old.present.readable) x) → IfSome j (λ w. IsDigestedAhead d P (content w new.present.readable) x)
digests_looked d P old new x None looked has = tt
digests_looked d P old new x (Some w) looked has =
    ahead_kept d P (content w old.present.readable) (content w new.present.readable) x has (ap (λ (bytes : List ℕ). content w bytes) (looked_bytes old new looked))

-- ---- a page

there_by : (offset : ℕ) (before after : List ℕ) (j : Option WriterState) (old new : Life) (u : Unit {0})
    → HasJournal j (λ w. ReadContentGoes (content w old.present.readable) offset before after old new (Ok u)) → HasJournal j (λ w. Unit {0})
there_by offset before after None old new u is = is
there_by offset before after (Some w) old new u is = tt

-- there is a journal whose content was read
pub read_there : (offset : ℕ) (before after : List ℕ) (s t : OwnedState) (u : Unit {0}) → OwnedContentGoes offset before after s t (Ok u) → HasJournal s.journal (λ w. Unit {0})
read_there offset before after s t u read = there_by offset before after s.journal s.life t.life u read

module _ (sum own : List ℕ → ℕ) (d : List ℕ → List ℕ) (n : ℕ) (s t : OwnedState) (before after : List ℕ) (x y : SegmentDigestingState) (u : Unit {0})
    (owned : IsOwned sum own s) (leaves : OwnedReadLeaves sum own s t) (read : OwnedContentGoes (n * s.page_size) before after s t (Ok u)) (len : length before ≡ s.page_size)
    (fits : n * s.page_size + s.page_size ≤ owned_size s.journal) (next : x.digested.pages ≡ n) (has : HasDigests d s x) (taken : GoesOnWith d after x y) where
  was : IsDigestedAhead d s.page_size (content_now s) x
  was = ahead_now d s x (read_there (n * s.page_size) before after s t u read) has

  -- whatever the content goes on with
  goes_further : (rest : List ℕ) → IsSegmentDigested d s.page_size (content_now s ++ rest) y
  goes_further rest =
      let P = s.page_size in
      let held = content_now s in
      let k = x.digested.pages in
      let page = page_is sum own P n k s t before after u owned read len fits next in
      let step : suc k * P ≡ k * P + P = suc-mul k P in
      let whole : suc k * P ≤ length held = omega (arith, step, page.1) in
      taken P (held ++ rest) (was.digested rest) (page.0 ∙ sym (page-grown P held rest k whole)) (omega (arith, page.1, length-append held rest))

  now_ahead : EachIsByte (take (y.digested.pages * s.page_size) (content_now s)) → HasDigests d t y
  now_ahead small = ahead_of d t y (subst (λ (P : ℕ). IsDigestedAhead d P (content_now t) y) (sym leaves.page_size)
      (ahead_kept d s.page_size (content_now s) (content_now t) y (record { digested = goes_further; bytes = small }) (content_kept sum own s t leaves)))

  -- the next page was read, and digested
  pub page_ahead : y.digested.pages ≡ x.digested.pages + 1 → EachIsByte after → HasDigests d t y
  page_ahead more small =
      let P = s.page_size in
      let held = content_now s in
      let so_far = subst (λ (k : ℕ). EachIsByte (take (k * P) held)) next was.bytes in
      let count : n + 1 ≡ y.digested.pages = omega (arith, next, more) in
      now_ahead (subst (λ (k : ℕ). EachIsByte (take (k * P) held)) count (bytes_grow P n s t before after u read len small so_far))

  -- or memory was refused for its digest
  pub page_not_ahead : y.digested ≡ x.digested → HasDigests d t y
  page_not_ahead same = now_ahead (subst (λ (z : DigestingState). EachIsByte (take (z.pages * s.page_size) (content_now s))) (sym same) was.bytes)

-- all whole pages are digested
pages_full : (sum own : List ℕ → ℕ) (P n : ℕ) (s : OwnedState) → IsOwned sum own s → 0 < P → n * P ≤ length (content_now s)
    → owned_size s.journal / P ≤ n → n ≡ owned_size s.journal / P
pages_full sum own P n s owned positive within all =
    let size = owned_size s.journal in
    let sized : size ≡ length (content_now s) = size_now sum own s owned in
    let parts : size / P * P + size % P ≡ size = div-add-mod' size P in
    let less : size % P < P = mod-lt size positive in
    let next : suc (size / P) * P ≡ size / P * P + P = suc-mul (size / P) P in
    let below : n * P < suc (size / P) * P = omega (arith, sized, within, parts, less, next) in
    let few : n < suc (size / P) = lt_of_mul-lt-mul_right P below in
    omega (arith, few, all)

-- the whole pages of the content that is there are digested, and then its rest was read
module _ (sum own : List ℕ → ℕ) (d : List ℕ → List ℕ) (P n : ℕ) (s a b : OwnedState) (before after : List ℕ) (x : SegmentDigestingState) (u : Unit {0})
    (owned : IsOwned sum own s) (leaves : OwnedReadLeaves sum own s a) (there : HasJournal s.journal (λ w. Unit {0})) (has : HasDigests d a x) (pages : P ≡ s.page_size) (positive : 0 < P)
    (full : n ≡ owned_size s.journal / P) (all : n ≤ x.digested.pages) (read : OwnedContentGoes (n * P) before after a b (Ok u)) (len : length before ≡ owned_size s.journal - n * P) where
  ahead : IsDigestedAhead d P (content_now s) x
  ahead =
      let held = content_now s in
      let there_too = subst (λ (j : Option WriterState). HasJournal j (λ w. Unit {0})) (sym leaves.journal) there in
      subst (λ (Q : ℕ). IsDigestedAhead d Q held x) (leaves.page_size ∙ sym pages)
      (ahead_kept d a.page_size (content_now a) held x (ahead_now d a x there_too has) (sym (content_kept sum own s a leaves)))

  digested_now : IsSegmentDigested d P (content_now s) x
  digested_now = ahead_is d P (content_now s) x ahead

  enough : owned_size s.journal / P ≤ x.digested.pages
  enough = omega (arith, full, all)

  count : x.digested.pages ≡ n
  count = pages_full sum own P x.digested.pages s owned positive digested_now.digested.within enough ∙ sym full

  its_rest : (after ≡ drop (x.digested.pages * P) (content_now s)) × (length after < P)
  its_rest = rest_is sum own P n x.digested.pages s a b before after u owned leaves read positive full len count

  -- it is shorter than a page
  pub rest_less : length after < x.marked.page_size
  rest_less = subst (λ (Q : ℕ). length after < Q) (sym digested_now.page_size) its_rest.1

  -- the marked pages and the rest are within the content
  pub rest_fits : x.marked.pages * x.marked.page_size + length after ≤ owned_size s.journal
  rest_fits =
      let held = content_now s in
      let sized : owned_size s.journal ≡ length held = size_now sum own s owned in
      let same : x.marked.pages ≡ x.digested.pages = as_many d P held after x digested_now its_rest.0 its_rest.1 in
      let cut : length after ≡ length held - x.digested.pages * P = ap length its_rest.0 ∙ length-drop (x.digested.pages * P) held in
      let within : x.digested.pages * P ≤ length held = digested_now.digested.within in
      let place : x.marked.pages * x.marked.page_size ≡ x.digested.pages * P = ap₂ (λ (k q : ℕ). k * q) same digested_now.page_size in
      omega (arith, sized, cut, within, place)

  -- so the levels are those of the content
  pub levels_ahead : (l : SegmentLevels) → EachIsByte after → FinishesSegment d after x l
      → AreSegmentLevels d s.page_size (content_now s) l × TellsApart d s.page_size (content_now s) l.content.root
  levels_ahead l small finishes =
      let held = content_now s in
      let done = finishes P held digested_now its_rest.0 its_rest.1 in
      let bytes = all_bytes sum own P n s a b before after u owned (content_kept sum own s a leaves) read len small (subst (λ (k : ℕ). EachIsByte (take (k * P) held)) count ahead.bytes) in (
        subst (λ (Q : ℕ). AreSegmentLevels d Q held l) pages done.0,
        subst (λ (Q : ℕ). TellsApart d Q held l.content.root) pages (done.1 bytes),
      )

-- there are at most as many pages as bytes
pub pages_few : (P size : ℕ) → 0 < P → size / P ≤ size
pages_few P size positive =
    let top : size / P * P ≤ size = div-mul-le_self size P in
    let more : size / P * 1 ≤ size / P * P = mul-le-mul_left (size / P) positive in
    omega (arith, more, top)

-- whole pages lie within the content
pages_room : (P size end : ℕ) → end ≤ size / P → end * P ≤ size
pages_room P size end below =
    let more : end * P ≤ size / P * P = mul-le-mul_right P below in
    let top : size / P * P ≤ size = div-mul-le_self size P in
    omega (arith, more, top)

-- so they do in the journal that is there
pub whole_pages : (s a : OwnedState) (k P size end : ℕ) → a ≡ record s { digested = k } → P ≡ s.page_size → size ≡ owned_size s.journal → end ≤ size / P → end * a.page_size ≤ owned_size a.journal
whole_pages s a k P size end same pages sized below =
    subst (λ (o : OwnedState). end * o.page_size ≤ owned_size o.journal) (sym same)
    (subst (λ (Q : ℕ). end * Q ≤ owned_size s.journal) pages (subst (λ (k : ℕ). end * P ≤ k) sized (pages_room P size end below)))

-- so does each of them, after reads too
pub page_room : (sum own : List ℕ → ℕ) (s a : OwnedState) (n end : ℕ) → OwnedReadLeaves sum own s a → n < end → end * s.page_size ≤ owned_size s.journal
    → n * a.page_size + a.page_size ≤ owned_size a.journal
page_room sum own s a n end leaves below whole =
    let P = s.page_size in
    let step : suc n * P ≡ n * P + P = suc-mul n P in
    let next : suc n ≤ end = omega (arith, below) in
    let more : suc n * P ≤ end * P = mul-le-mul_right P next in
    let fits : n * P + P ≤ owned_size s.journal = omega (arith, step, more, whole) in
    subst (λ (j : Option WriterState). n * a.page_size + a.page_size ≤ owned_size j) (sym leaves.journal)
    (subst (λ (Q : ℕ). n * Q + Q ≤ owned_size s.journal) (sym leaves.page_size) fits)

-- ---- answers

none_then : (j : Option WriterState) (old mid new : Life) → HasJournal j (λ w. NoneFailed old.present mid.present) → HasJournal j (λ w. NoneFailed mid.present new.present) → HasJournal j (λ w. NoneFailed old.present new.present)
none_then None old mid new first second = first
none_then (Some w) old mid new first second = none_failed_joins old.present mid.present new.present first second

refused_then : (j : Option WriterState) (old mid new : Life) (e : disk.Error) → Looked old mid → HasJournal j (λ w. NoneFailed old.present mid.present) → HasJournal j (λ w. RecordReadRefused mid new e) → HasJournal j (λ w. RecordReadRefused old new e)
refused_then None old mid new e looked first second = first
refused_then (Some w) old mid new e looked first second = refused_later old mid new e looked first second

memory_by : (j : Option WriterState) (old new : Life) → HasJournal j (λ w. NoneFailed old.present new.present) → HasJournal j (λ w. RecordReadRefused old new layer.OutOfMemory)
memory_by None old new none = none
memory_by (Some w) old new none = none

-- memory was refused after reads that didn't fail
pub memory_refused : (s t : OwnedState) → HasJournal s.journal (λ w. NoneFailed s.life.present t.life.present) → PagesGo s t (Err (errors.Layer layer.OutOfMemory))
memory_refused s t none = memory_by s.journal s.life t.life none

start_by : (j : Option WriterState) (life : Life) → HasJournal j (λ w. Unit {0}) → HasJournal j (λ w. NoneFailed life.present life.present)
start_by None life there = there
start_by (Some w) life there = none_failed_start life.present

-- before any read none failed
pub none_read : (s : OwnedState) → HasJournal s.journal (λ w. Unit {0}) → HasJournal s.journal (λ w. NoneFailed s.life.present s.life.present)
none_read s there = start_by s.journal s.life there

-- one read more that didn't fail
pub reads_on : (s a t : OwnedState) (u : Unit {0}) → a.journal ≡ s.journal → HasJournal s.journal (λ w. NoneFailed s.life.present a.life.present) → PagesGo a t (Ok u) → HasJournal s.journal (λ w. NoneFailed s.life.present t.life.present)
reads_on s a t u same none more =
    none_then s.journal s.life a.life t.life none (subst (λ (j : Option WriterState). HasJournal j (λ w. NoneFailed a.life.present t.life.present)) same more)

looked_of : (sum own : List ℕ → ℕ) (j : Option WriterState) (s a : OwnedState) → HasJournal j (λ w. NoneFailed s.life.present a.life.present) → IfSome j (λ w. RecordReadLeaves sum own w s.cache a.cache s.life a.life) → Looked s.life a.life
looked_of sum own None s a none leaves = absurd none
looked_of sum own (Some w) s a none leaves = leaves.looked

no_journal : (P : WriterState → Type 0) (j : Option WriterState) → j ≡ None → HasJournal j P → ⊥
no_journal P None none there = there
no_journal P (Some w) none there = absurd (cc none)

-- or one that was refused
pub reads_end : (sum own : List ℕ → ℕ) (s a t : OwnedState) (e : Error) → OwnedReadLeaves sum own s a → HasJournal s.journal (λ w. NoneFailed s.life.present a.life.present) → PagesGo a t (Err e) → PagesGo s t (Err e)
reads_end sum own s a t (errors.Layer e) leaves none fails =
    refused_then s.journal s.life a.life t.life e (looked_of sum own s.journal s a none leaves.call) none
    (subst (λ (j : Option WriterState). HasJournal j (λ w. RecordReadRefused a.life t.life e)) leaves.journal fails)
reads_end sum own s a t errors.Closed leaves none fails = absurd (no_journal _ s.journal (sym leaves.journal ∙ fails.0) none)
reads_end sum own s a t (errors.System e) leaves none fails = absurd fails
reads_end sum own s a t (errors.Unsynced e) leaves none fails = absurd fails
reads_end sum own s a t (errors.Damaged n) leaves none fails = absurd fails
reads_end sum own s a t (errors.Unlisted n) leaves none fails = absurd fails
reads_end sum own s a t (errors.Missing n) leaves none fails = absurd fails
reads_end sum own s a t (errors.Short n) leaves none fails = absurd fails
reads_end sum own s a t (errors.AnotherDigest n) leaves none fails = absurd fails
reads_end sum own s a t (errors.Outdated n) leaves none fails = absurd fails
reads_end sum own s a t errors.Manifest leaves none fails = absurd fails
reads_end sum own s a t (errors.NoSegment n) leaves none fails = absurd fails
reads_end sum own s a t errors.NumbersExhausted leaves none fails = absurd fails
reads_end sum own s a t (errors.NoFrame its byte) leaves none fails = absurd fails
reads_end sum own s a t (errors.Unmarked n) leaves none fails = absurd fails

-- a call that ends by `?` answers its error
pub ahead_refused : (s t : OwnedState) (e : Error) (result : Result (Unit {0}) Error) → IsErrAnd result (λ x. x ≡ e) → PagesGo s t (Err e) → PagesGo s t result
ahead_refused s t e (Ok u) is fails = absurd is
ahead_refused s t e (Err x) is fails = subst (λ (y : Error). PagesGo s t (Err y)) (sym is) fails

digests_by : (j : Option WriterState) (old new : Life) (e : disk.Error) → HasJournal j (λ w. RecordReadRefused old new e) → HasJournal j (λ w. (mid : Life) × RecordReadRefused mid new e)
digests_by None old new e is = is
digests_by (Some w) old new e is = (old, is)

-- so the digests of all pages can't be made
digests_fail : (s t : OwnedState) (k : ℕ) (e : Error) → PagesGo (record s { digested = k }) t (Err e) → DigestsFail s t e
digests_fail s t k (errors.Layer e) is = digests_by s.journal s.life t.life e is
digests_fail s t k errors.Closed is = is.0
digests_fail s t k (errors.System e) is = is
digests_fail s t k (errors.Unsynced e) is = is
digests_fail s t k (errors.Damaged n) is = is
digests_fail s t k (errors.Unlisted n) is = is
digests_fail s t k (errors.Missing n) is = is
digests_fail s t k (errors.Short n) is = is
digests_fail s t k (errors.AnotherDigest n) is = is
digests_fail s t k (errors.Outdated n) is = is
digests_fail s t k errors.Manifest is = is
digests_fail s t k (errors.NoSegment n) is = is
digests_fail s t k errors.NumbersExhausted is = is
digests_fail s t k (errors.NoFrame its byte) is = is
digests_fail s t k (errors.Unmarked n) is = is

-- as where the pages before it can't be
pub pages_fail : (s a t : OwnedState) (k : ℕ) (e : Error) → a ≡ record s { digested = k } → PagesGo a t (Err e) → DigestsFail s t e
pages_fail s a t k e same is = digests_fail s t k e (subst (λ (o : OwnedState). PagesGo o t (Err e)) same is)

-- what a read leaves, though other digests are held
pub leaves_before : (sum own : List ℕ → ℕ) (s a t : OwnedState) (k : ℕ) → a ≡ record s { digested = k } → OwnedReadLeaves sum own a t → OwnedReadLeaves sum own s t
leaves_before sum own s a t k same leaves =
    let is = subst (λ (o : OwnedState). OwnedReadLeaves sum own o t) same leaves in
    record { journal = is.journal; page_size = is.page_size; records = is.records; call = is.call }

pub leaves_after : (sum own : List ℕ → ℕ) (s b t : OwnedState) (k : ℕ) → t ≡ record b { digested = k } → OwnedReadLeaves sum own s b → OwnedReadLeaves sum own s t
leaves_after sum own s b t k same is =
    subst (λ (o : OwnedState). OwnedReadLeaves sum own s o) (sym same) (record { journal = is.journal; page_size = is.page_size; records = is.records; call = is.call })

-- ---- so many more

-- the pages up to an end are digested
pub ahead_done : (most : ℕ) (s o b t : OwnedState) (x y end : ℕ) (r : Result (Unit {0}) Error) → o ≡ record s { digested = 0 } → t ≡ record b { digested = y } → HasJournal s.journal (λ w. Unit {0})
    → x ≡ s.digested → x ≤ y → y ≤ max x end → end ≤ x + most → min (owned_size s.journal / s.page_size) (s.digested + most) ≤ end → IfOk r (λ u. end ≤ y) → PagesGo o b r → AheadGoes most s t r
ahead_done most s o b t x y end r same kept there count further few most_of low all goes =
    subst (λ (v : OwnedState). AheadGoes most s v r) (sym kept) (by_answer r (subst (λ (v : OwnedState). PagesGo v b r) same goes) all)
  where
    on : IsFurther most s (record b { digested = y })
    on = record { further = omega (arith, count, further); few = omega (arith, count, few, most_of) }

    by_answer : (r : Result (Unit {0}) Error) → PagesGo (record s { digested = 0 }) b r → IfOk r (λ u. end ≤ y) → AheadGoes most s (record b { digested = y }) r
    by_answer (Ok u) is done = (on, omega (arith, low, done), is)
    by_answer (Err (errors.Layer e)) is done = (on, is)
    by_answer (Err errors.Closed) is done = absurd (no_journal _ s.journal is.0 there)
    by_answer (Err (errors.System e)) is done = absurd is
    by_answer (Err (errors.Unsynced e)) is done = absurd is
    by_answer (Err (errors.Damaged n)) is done = absurd is
    by_answer (Err (errors.Unlisted n)) is done = absurd is
    by_answer (Err (errors.Missing n)) is done = absurd is
    by_answer (Err (errors.Short n)) is done = absurd is
    by_answer (Err (errors.AnotherDigest n)) is done = absurd is
    by_answer (Err (errors.Outdated n)) is done = absurd is
    by_answer (Err errors.Manifest) is done = absurd is
    by_answer (Err (errors.NoSegment n)) is done = absurd is
    by_answer (Err errors.NumbersExhausted) is done = absurd is
    by_answer (Err (errors.NoFrame its byte)) is done = absurd is
    by_answer (Err (errors.Unmarked n)) is done = absurd is

-- ---- device calls

-- of numbers in a row at most one passes a test that only one number passes
one_passes : (f : ℕ → Bool) (k first n : ℕ) → ((p : ℕ) → f p ≡ true → p ≡ k) → length (filter f (range_with_len first n)) ≤ 1
one_passes f k first zero only = omega arith
one_passes f k first (suc n) only = elim (cases_Bool (f first)) [
  | inl met ↦
      let here : first ≡ k = only first met in
      let none = filter_none f (first + 1) n (λ p above below. false_from_ne_true (f p) (λ passes. let same = only p passes in omega (arith, same, here, above))) in
      let all : filter f (range_with_len first (suc n)) ≡ first ∷ [] = ap (λ (b : Bool). cond b (first ∷ filter f (range_with_len (first + 1) n)) (filter f (range_with_len (first + 1) n))) met ∙ ap (λ (l : List ℕ). first ∷ l) none in
      let one : length (filter f (range_with_len first (suc n))) ≡ 1 = ap length all in
      omega (arith, one)
  | inr unmet ↦
      let all : filter f (range_with_len first (suc n)) ≡ filter f (range_with_len (first + 1) n) = ap (λ (b : Bool). cond b (first ∷ filter f (range_with_len (first + 1) n)) (filter f (range_with_len (first + 1) n))) unmet in
      let same = ap length all in
      let few = one_passes f k (first + 1) n only in
      omega (arith, same, few)
]

-- a whole page is the only one of its range
its_page : (P n p : ℕ) → touches P (n * P, P) p ≡ true → p ≡ n
its_page P n p met =
    let parts = touch_true P (n * P) P p met in
    let next : suc n * P ≡ n * P + P = suc-mul n P in
    let one : p + 1 ≡ suc p = omega arith in
    let after : (p + 1) * P ≡ suc p * P = ap (λ (k : ℕ). k * P) one in
    let low : p < suc n = lt_of_mul-lt-mul_right P (omega (arith, parts.1, next)) in
    let high : n < suc p = lt_of_mul-lt-mul_right P (omega (arith, parts.2, after)) in
    omega (arith, low, high)

calls_by : (sum own : List ℕ → ℕ) (s : OwnedState) (n : ℕ) (j : Option WriterState) → IfSome j (λ w. IsOwnedJournal sum own s w) → content_calls j (n * s.page_size, s.page_size) ≤ 1
calls_by sum own s n None owned = omega arith
calls_by sum own s n (Some w) owned =
    subst (λ (P : ℕ). content_calls (Some w) (n * P, P) ≤ 1) owned.page_size
    (one_passes (touches w.page_size (n * w.page_size, w.page_size)) n 0 w.full_pages (λ p met. its_page w.page_size n p met))

-- a read of a whole page makes at most one device call
one_call : (sum own : List ℕ → ℕ) (s t : OwnedState) (n len : ℕ) → IsOwned sum own s → len ≡ s.page_size → AsksAtMost (content_calls s.journal (n * s.page_size, len)) s.life t.life → AsksAtMost 1 s.life t.life
one_call sum own s t n len owned size asks =
    let one = calls_by sum own s n s.journal owned.1 in
    let same : content_calls s.journal (n * s.page_size, len) ≡ content_calls s.journal (n * s.page_size, s.page_size) = ap (λ (k : ℕ). content_calls s.journal (n * s.page_size, k)) size in
    omega (arith, one, same, asks)

-- so does one with a buffer for it
pub page_costs : (sum own : List ℕ → ℕ) (s t : OwnedState) (n P len : ℕ) → IsOwned sum own s → P ≡ s.page_size → len ≡ s.page_size → AsksAtMost (content_calls s.journal (n * P, len)) s.life t.life
    → AsksAtMost 1 s.life t.life
page_costs sum own s t n P len owned pages buffer asks =
    one_call sum own s t n len owned buffer (subst (λ (k : ℕ). AsksAtMost (content_calls s.journal (n * k, len)) s.life t.life) pages asks)

-- pages up to an end that is at most so many pages on
pub asks_few : (s a b t : OwnedState) (y end pages most : ℕ) → a ≡ record s { digested = 0 } → t ≡ record b { digested = y } → end ≤ pages + most → AsksAtMost (end - pages) a.life b.life → AsksAtMost most s.life t.life
asks_few s a b t y end pages most same kept few asks =
    subst (λ (o : OwnedState). AsksAtMost most s.life o.life) (sym kept) (subst (λ (o : OwnedState). AsksAtMost most o.life b.life) same (omega (arith, few, asks)))
