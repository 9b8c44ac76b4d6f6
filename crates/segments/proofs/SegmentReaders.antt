-- Readers of closed segments.
use Rattle.std.specs.Prelude.{◌≡◌, ℕ, List, Some, Option, Result, Ok, Err}
use Rattle.std.proofs.Common.{refl, sym, ◌∙◌, subst}
use Rattle.journal.specs.declared.frame.Found.{Found}
use Rattle.page_digests.specs.declared.seal.Seal.{Seal}
use Rattle.segments.specs.declared.closed.Closed.{Closed}
use Rattle.segments.specs.declared.closed.FileDigest.{FileDigest}
use Rattle.segments.specs.declared.closed.Fingerprint.{Fingerprint}
use Rattle.segments.specs.declared.closed.Fingerprint.TheVariants.{Whole, Paged}
use Rattle.segments.specs.declared.closed.PagedSeal.{PagedSeal}
use Rattle.segments.specs.declared.error.Error.{Error}
use Rattle.segments.specs.declared.error.Error.TheVariants as errors
use Rattle.segments.specs.ClosedSegments.{ClosedReadGoes, ClosedSegmentState, IsDamagedAtOpening, IsReaderOf, OpenReaderGoes, ReadFrom, FromMemory, FromPages, ReaderAnswers, ReaderBegins, ReaderNthGoes, ReaderPageGoes}
use Rattle.segments.specs.Log.{HasLoaded, HeldReadGoes, IsLoaded, IsReadOfClosed, LoadedState, LogState, TakeLoadedGoes}
use Rattle.segments.specs.Manifest.{closed_at, closed_by}
use Rattle.segments.specs.PagedFrames.{ReadsPagedFrame}
use Rattle.segments.specs.PagedReads.{HasMarksRoot, HasSeal, MarkedReadAnswers, MarkedReadGoes, OpensPaged, PagedSegmentState, SegmentNthGoes, SegmentPassGoes}
use Rattle.segments.specs.declared.passing.PassedPage.{PassedPage}
use Rattle.segments.proofs.PagedReading.{paged_closed}
use Rattle.segments.proofs.SegmentMarks.{SegmentStays}
use Rattle.segments.proofs.SegmentSearches.{stays_passed, stays_searched}

-- ---- a read by the pages

pages_answer : (sum own : List ℕ → ℕ) (d : List ℕ → List ℕ) (offset number P : ℕ) (kept : Closed) (p q : PagedSegmentState) (result : Result (Option Found) Error)
    → IsReaderOf sum own P number kept.fingerprint (FromPages p) → MarkedReadAnswers d own offset p q result
    → ReaderAnswers sum own d offset (record { number = number; kept = kept; page_size = P; from = FromPages p }) (record { number = number; kept = kept; page_size = P; from = FromPages q }) result
pages_answer sum own d offset number P kept p q (Ok found) is reads =
    paged_closed sum own d P p.content.seal kept offset found is.1 (subst (λ n. ReadsPagedFrame d own n p.content.seal offset found) is.0.page_size reads)
pages_answer sum own d offset number P kept p q (Err e) is fails = fails

read_by_pages : (sum own : List ℕ → ℕ) (d : List ℕ → List ℕ) (offset : ℕ) (s : ClosedSegmentState) (p q : PagedSegmentState) (result : Result (Option Found) Error)
    → s.from ≡ FromPages p → IsReaderOf sum own s.page_size s.number s.kept.fingerprint (FromPages p) → MarkedReadGoes d own offset p q result
    → ClosedReadGoes sum own d offset s (record s { from = FromPages q }) result
read_by_pages sum own d offset s p q result from is goes = record {
  same = refl;
  answers = subst (λ (f : ReadFrom). ReaderAnswers sum own d offset (record s { from = f }) (record s { from = FromPages q }) result) (sym from)
      (pages_answer sum own d offset s.number s.page_size s.kept p q result is goes.answers);
  begins = subst (λ (f : ReadFrom). ReaderBegins d offset f (FromPages q) result) (sym from) goes.begins;
}

pub still_by_pages : (sum own : List ℕ → ℕ) (d : List ℕ → List ℕ) (offset P number : ℕ) (f : Fingerprint) (p q : PagedSegmentState) (result : Result (Option Found) Error)
    → IsReaderOf sum own P number f (FromPages p) → MarkedReadGoes d own offset p q result → IsReaderOf sum own P number f (FromPages q)
still_by_pages sum own d offset P number f p q result is goes = (
  record { number = goes.same.number ∙ is.0.number; of = refl; page_size = goes.same.page_size ∙ is.0.page_size },
  subst (λ (seal : Seal). HasSeal seal f) (sym goes.same.of) is.1,
  subst (λ (root : Option (List ℕ)). HasMarksRoot root f) (sym goes.root) is.2,
)

-- ---- a read in memory

memory_answers : (sum own : List ℕ → ℕ) (d : List ℕ → List ℕ) (offset number P : ℕ) (kept : Closed) (l m : LoadedState) (result : Result (Option Found) Error)
    → IsReaderOf sum own P number kept.fingerprint (FromMemory l) → HeldReadGoes sum own d l.owned.page_size l.kept offset result
    → ReaderAnswers sum own d offset (record { number = number; kept = kept; page_size = P; from = FromMemory l }) (record { number = number; kept = kept; page_size = P; from = FromMemory m }) result
memory_answers sum own d offset number P kept l m (Ok found) is goes =
    subst (λ (f : Fingerprint). IsReadOfClosed sum own d P (closed_by kept.records f) offset found) (sym is.1)
    (subst (λ n. IsReadOfClosed sum own d n (closed_by kept.records (Whole l.kept)) offset found) is.0.page_size (goes kept.records))
memory_answers sum own d offset number P kept l m (Err (errors.Layer e)) is goes = tt
memory_answers sum own d offset number P kept l m (Err errors.Closed) is goes = absurd goes
memory_answers sum own d offset number P kept l m (Err (errors.System e)) is goes = absurd goes
memory_answers sum own d offset number P kept l m (Err (errors.Unsynced e)) is goes = absurd goes
memory_answers sum own d offset number P kept l m (Err (errors.Damaged n)) is goes = absurd goes
memory_answers sum own d offset number P kept l m (Err (errors.Unlisted n)) is goes = absurd goes
memory_answers sum own d offset number P kept l m (Err (errors.Missing n)) is goes = absurd goes
memory_answers sum own d offset number P kept l m (Err (errors.Short n)) is goes = absurd goes
memory_answers sum own d offset number P kept l m (Err (errors.AnotherDigest n)) is goes = absurd goes
memory_answers sum own d offset number P kept l m (Err (errors.Outdated n)) is goes = absurd goes
memory_answers sum own d offset number P kept l m (Err errors.Manifest) is goes = absurd goes
memory_answers sum own d offset number P kept l m (Err (errors.NoSegment n)) is goes = absurd goes
memory_answers sum own d offset number P kept l m (Err errors.NumbersExhausted) is goes = absurd goes
memory_answers sum own d offset number P kept l m (Err (errors.NoFrame its byte)) is goes = absurd goes
memory_answers sum own d offset number P kept l m (Err (errors.Unmarked n)) is goes = absurd goes

read_in_memory : (sum own : List ℕ → ℕ) (d : List ℕ → List ℕ) (offset : ℕ) (s : ClosedSegmentState) (l m : LoadedState) (result : Result (Option Found) Error)
    → s.from ≡ FromMemory l → IsReaderOf sum own s.page_size s.number s.kept.fingerprint (FromMemory l) → HeldReadGoes sum own d l.owned.page_size l.kept offset result
    → ClosedReadGoes sum own d offset s (record s { from = FromMemory m }) result
read_in_memory sum own d offset s l m result from is goes = record {
  same = refl;
  answers = subst (λ (f : ReadFrom). ReaderAnswers sum own d offset (record s { from = f }) (record s { from = FromMemory m }) result) (sym from)
      (memory_answers sum own d offset s.number s.page_size s.kept l m result is goes);
  begins = subst (λ (f : ReadFrom). ReaderBegins d offset f (FromMemory m) result) (sym from) tt;
}

-- ---- the same, by the fields of a reader

pub pages_read : (sum own : List ℕ → ℕ) (d : List ℕ → List ℕ) (offset number P : ℕ) (kept : Closed) (s : ClosedSegmentState) (from : ReadFrom) (p q : PagedSegmentState) (result : Result (Option Found) Error)
    → record { number = number; kept = kept; page_size = P; from = from } ≡ s → from ≡ FromPages p → IsReaderOf sum own P number kept.fingerprint from → MarkedReadGoes d own offset p q result
    → ClosedReadGoes sum own d offset s (record { number = number; kept = kept; page_size = P; from = FromPages q }) result
pages_read sum own d offset number P kept s from p q result view is reader goes =
    subst (λ (t : ClosedSegmentState). ClosedReadGoes sum own d offset t (record { number = number; kept = kept; page_size = P; from = FromPages q }) result) view
    (read_by_pages sum own d offset (record { number = number; kept = kept; page_size = P; from = from }) p q result is (subst (λ (f : ReadFrom). IsReaderOf sum own P number kept.fingerprint f) is reader) goes)

pub memory_read : (sum own : List ℕ → ℕ) (d : List ℕ → List ℕ) (offset number P : ℕ) (kept : Closed) (s : ClosedSegmentState) (from : ReadFrom) (l m : LoadedState) (result : Result (Option Found) Error)
    → record { number = number; kept = kept; page_size = P; from = from } ≡ s → from ≡ FromMemory l → IsReaderOf sum own P number kept.fingerprint from → HeldReadGoes sum own d l.owned.page_size l.kept offset result
    → ClosedReadGoes sum own d offset s (record { number = number; kept = kept; page_size = P; from = FromMemory m }) result
memory_read sum own d offset number P kept s from l m result view is reader goes =
    subst (λ (t : ClosedSegmentState). ClosedReadGoes sum own d offset t (record { number = number; kept = kept; page_size = P; from = FromMemory m }) result) view
    (read_in_memory sum own d offset (record { number = number; kept = kept; page_size = P; from = from }) l m result is (subst (λ (f : ReadFrom). IsReaderOf sum own P number kept.fingerprint f) is reader) goes)

-- ---- a reader is opened

pub pages_opened : (sum own : List ℕ → ℕ) (d : List ℕ → List ℕ) (P number : ℕ) (kept : PagedSeal) (f : Fingerprint) (p : PagedSegmentState) → f ≡ Paged kept → OpensPaged d P kept.seal number (Ok p)
    → p.marks_root ≡ kept.marks → IsReaderOf sum own P number f (FromPages p)
pages_opened sum own d P number kept f p is of marks = (
  record { number = of.number; of = refl; page_size = of.page_size },
  subst (λ (g : Fingerprint). HasSeal p.content.seal g) (sym is) (sym of.of),
  subst (λ (g : Fingerprint). HasMarksRoot p.marks_root g) (sym is) (sym marks),
)

pub memory_opened : (sum own : List ℕ → ℕ) (P number : ℕ) (s : LogState) (kept : FileDigest) (f : Fingerprint) (l : LoadedState) → f ≡ Whole kept → s.page_size ≡ P → HasLoaded sum own s kept l
    → IsReaderOf sum own P number f (FromMemory l)
memory_opened sum own P number s kept f l is size has = (
  subst (λ n. IsLoaded sum own n l) size has.loaded,
  is ∙ subst (λ (k : FileDigest). Whole kept ≡ Whole k) (sym has.same) refl,
)

pub pages_not_opened : (d : List ℕ → List ℕ) (s : LogState) (segment : ℕ) (closed : Closed) (kept : PagedSeal) (e : Error) → closed_at s.listing segment ≡ Some closed → closed.fingerprint ≡ Paged kept
    → OpensPaged d s.page_size kept.seal segment (Err e) → OpenReaderGoes d s segment (Err e)
pages_not_opened d s segment closed kept (errors.Damaged n) listed is opens =
    (opens.0, (closed, listed, subst (λ (f : Fingerprint). IsDamagedAtOpening d s.page_size f) (sym is) opens.1))
pages_not_opened d s segment closed kept (errors.System e) listed is opens = (closed, listed)
pages_not_opened d s segment closed kept (errors.Layer e) listed is opens = (closed, listed)
pages_not_opened d s segment closed kept (errors.NoSegment n) listed is opens = absurd opens
pages_not_opened d s segment closed kept (errors.Unsynced e) listed is opens = absurd opens
pages_not_opened d s segment closed kept errors.Closed listed is opens = absurd opens
pages_not_opened d s segment closed kept (errors.Unlisted n) listed is opens = absurd opens
pages_not_opened d s segment closed kept (errors.Missing n) listed is opens = absurd opens
pages_not_opened d s segment closed kept (errors.Short n) listed is opens = absurd opens
pages_not_opened d s segment closed kept (errors.AnotherDigest n) listed is opens = absurd opens
pages_not_opened d s segment closed kept (errors.Outdated n) listed is opens = absurd opens
pages_not_opened d s segment closed kept errors.Manifest listed is opens = absurd opens
pages_not_opened d s segment closed kept errors.NumbersExhausted listed is opens = absurd opens
pages_not_opened d s segment closed kept (errors.NoFrame its byte) listed is opens = absurd opens
pages_not_opened d s segment closed kept (errors.Unmarked n) listed is opens = absurd opens

pub memory_not_opened : (sum own : List ℕ → ℕ) (d : List ℕ → List ℕ) (s : LogState) (segment : ℕ) (closed : Closed) (kept : FileDigest) (e : Error) → closed_at s.listing segment ≡ Some closed
    → closed.fingerprint ≡ Whole kept → TakeLoadedGoes sum own s segment kept (Err e) → OpenReaderGoes d s segment (Err e)
memory_not_opened sum own d s segment closed kept (errors.Damaged n) listed is opens =
    (opens, (closed, listed, subst (λ (f : Fingerprint). IsDamagedAtOpening d s.page_size f) (sym is) tt))
memory_not_opened sum own d s segment closed kept (errors.System e) listed is opens = (closed, listed)
memory_not_opened sum own d s segment closed kept (errors.Layer e) listed is opens = (closed, listed)
memory_not_opened sum own d s segment closed kept (errors.NoSegment n) listed is opens = absurd opens
memory_not_opened sum own d s segment closed kept (errors.Unsynced e) listed is opens = absurd opens
memory_not_opened sum own d s segment closed kept errors.Closed listed is opens = absurd opens
memory_not_opened sum own d s segment closed kept (errors.Unlisted n) listed is opens = absurd opens
memory_not_opened sum own d s segment closed kept (errors.Missing n) listed is opens = absurd opens
memory_not_opened sum own d s segment closed kept (errors.Short n) listed is opens = absurd opens
memory_not_opened sum own d s segment closed kept (errors.AnotherDigest n) listed is opens = absurd opens
memory_not_opened sum own d s segment closed kept (errors.Outdated n) listed is opens = absurd opens
memory_not_opened sum own d s segment closed kept errors.Manifest listed is opens = absurd opens
memory_not_opened sum own d s segment closed kept errors.NumbersExhausted listed is opens = absurd opens
memory_not_opened sum own d s segment closed kept (errors.NoFrame its byte) listed is opens = absurd opens
memory_not_opened sum own d s segment closed kept (errors.Unmarked n) listed is opens = absurd opens

-- ---- where the nth frame begins

pub nth_by_pages : (sum own : List ℕ → ℕ) (d : List ℕ → List ℕ) (n number P : ℕ) (kept : Closed) (s : ClosedSegmentState) (from : ReadFrom) (p q : PagedSegmentState) (result : Result (Option ℕ) Error)
    → record { number = number; kept = kept; page_size = P; from = from } ≡ s → from ≡ FromPages p → SegmentNthGoes d n p q result
    → ReaderNthGoes d n s (record { number = number; kept = kept; page_size = P; from = FromPages q }) result
nth_by_pages sum own d n number P kept s from p q result view is goes =
    subst (λ (t : ClosedSegmentState). ReaderNthGoes d n t (record { number = number; kept = kept; page_size = P; from = FromPages q }) result) view
    (subst (λ (f : ReadFrom). ReaderNthGoes d n (record { number = number; kept = kept; page_size = P; from = f }) (record { number = number; kept = kept; page_size = P; from = FromPages q }) result) (sym is)
    (record { same = refl; answers = goes }))

-- its marks stay
pub still_by_search : (sum own : List ℕ → ℕ) (P number : ℕ) (f : Fingerprint) (p q : PagedSegmentState) → IsReaderOf sum own P number f (FromPages p) → SegmentStays p q → IsReaderOf sum own P number f (FromPages q)
still_by_search sum own P number f p q is stays = (
  record { number = stays.number ∙ is.0.number; of = refl; page_size = stays.page_size ∙ is.0.page_size },
  subst (λ (seal : Seal). HasSeal seal f) (sym stays.seal) is.1,
  subst (λ (root : Option (List ℕ)). HasMarksRoot root f) (sym stays.root) is.2,
)

-- ---- a page is passed

pub pass_by_pages : (d : List ℕ → List ℕ) (offset number P : ℕ) (kept : Closed) (s : ClosedSegmentState) (from : ReadFrom) (p q : PagedSegmentState) (result : Result PassedPage Error)
    → record { number = number; kept = kept; page_size = P; from = from } ≡ s → from ≡ FromPages p → SegmentPassGoes d offset p q result
    → ReaderPageGoes d offset s (record { number = number; kept = kept; page_size = P; from = FromPages q }) result
pass_by_pages d offset number P kept s from p q result view is goes =
    subst (λ (t : ClosedSegmentState). ReaderPageGoes d offset t (record { number = number; kept = kept; page_size = P; from = FromPages q }) result) view
    (subst (λ (f : ReadFrom). ReaderPageGoes d offset (record { number = number; kept = kept; page_size = P; from = f }) (record { number = number; kept = kept; page_size = P; from = FromPages q }) result) (sym is)
    (record { same = refl; answers = goes }))

pub not_in_memory : (d : List ℕ → List ℕ) (offset number P : ℕ) (kept : Closed) (s : ClosedSegmentState) (from : ReadFrom) (l : LoadedState) → record { number = number; kept = kept; page_size = P; from = from } ≡ s → from ≡ FromMemory l
    → ReaderPageGoes d offset s (record { number = number; kept = kept; page_size = P; from = FromMemory l }) (Err (errors.Unmarked number))
not_in_memory d offset number P kept s from l view is =
    subst (λ (t : ClosedSegmentState). ReaderPageGoes d offset t (record { number = number; kept = kept; page_size = P; from = FromMemory l }) (Err (errors.Unmarked number))) view
    (subst (λ (f : ReadFrom). ReaderPageGoes d offset (record { number = number; kept = kept; page_size = P; from = f }) (record { number = number; kept = kept; page_size = P; from = FromMemory l }) (Err (errors.Unmarked number))) (sym is)
    (record { same = refl; answers = (refl, refl) }))

pub nth_not_in_memory : (d : List ℕ → List ℕ) (n number P : ℕ) (kept : Closed) (s : ClosedSegmentState) (from : ReadFrom) (l : LoadedState) → record { number = number; kept = kept; page_size = P; from = from } ≡ s → from ≡ FromMemory l
    → ReaderNthGoes d n s (record { number = number; kept = kept; page_size = P; from = FromMemory l }) (Err (errors.Unmarked number))
nth_not_in_memory d n number P kept s from l view is =
    subst (λ (t : ClosedSegmentState). ReaderNthGoes d n t (record { number = number; kept = kept; page_size = P; from = FromMemory l }) (Err (errors.Unmarked number))) view
    (subst (λ (f : ReadFrom). ReaderNthGoes d n (record { number = number; kept = kept; page_size = P; from = f }) (record { number = number; kept = kept; page_size = P; from = FromMemory l }) (Err (errors.Unmarked number))) (sym is)
    (record { same = refl; answers = (refl, refl) }))

-- the segment stays
pub still_by_nth : (sum own : List ℕ → ℕ) (d : List ℕ → List ℕ) (n P number : ℕ) (f : Fingerprint) (p q : PagedSegmentState) (result : Result (Option ℕ) Error) → IsReaderOf sum own P number f (FromPages p) → SegmentNthGoes d n p q result
    → IsReaderOf sum own P number f (FromPages q)
still_by_nth sum own d n P number f p q result is goes = still_by_search sum own P number f p q is (stays_searched d n p q result goes)

pub still_by_pass : (sum own : List ℕ → ℕ) (d : List ℕ → List ℕ) (offset P number : ℕ) (f : Fingerprint) (p q : PagedSegmentState) (result : Result PassedPage Error) → IsReaderOf sum own P number f (FromPages p) → SegmentPassGoes d offset p q result
    → IsReaderOf sum own P number f (FromPages q)
still_by_pass sum own d offset P number f p q result is goes = still_by_search sum own P number f p q is (stays_passed d offset p q result goes)

pub kept_nth_not_in_memory : (d : List ℕ → List ℕ) (n number P : ℕ) (kept : Closed) (s : ClosedSegmentState) (from : ReadFrom) (l : LoadedState) → record { number = number; kept = kept; page_size = P; from = from } ≡ s → from ≡ FromMemory l
    → ReaderNthGoes d n s (record { number = number; kept = kept; page_size = P; from = from }) (Err (errors.Unmarked number))
kept_nth_not_in_memory d n number P kept s from l view is =
    subst (λ (f : ReadFrom). ReaderNthGoes d n s (record { number = number; kept = kept; page_size = P; from = f }) (Err (errors.Unmarked number))) (sym is) (nth_not_in_memory d n number P kept s from l view is)

pub kept_not_in_memory : (d : List ℕ → List ℕ) (offset number P : ℕ) (kept : Closed) (s : ClosedSegmentState) (from : ReadFrom) (l : LoadedState) → record { number = number; kept = kept; page_size = P; from = from } ≡ s → from ≡ FromMemory l
    → ReaderPageGoes d offset s (record { number = number; kept = kept; page_size = P; from = from }) (Err (errors.Unmarked number))
kept_not_in_memory d offset number P kept s from l view is =
    subst (λ (f : ReadFrom). ReaderPageGoes d offset s (record { number = number; kept = kept; page_size = P; from = f }) (Err (errors.Unmarked number))) (sym is) (not_in_memory d offset number P kept s from l view is)
