-- Searches by the marks of a log's closed segments.
use Rattle.std.specs.Prelude.{◌≡◌, ◌≢◌, ◌≤◌, ◌+◌, ◌-◌, ◌^◌, ℕ, List, Option, Some, None, Result, Ok, Err, length, drop}
use Rattle.std.proofs.Common.{refl, sym, ◌∙◌, ap, subst, inl, inr}
use Rattle.page_digests.specs.declared.error.Error as pages
use Rattle.page_digests.specs.declared.error.Error.TheVariants as causes
use Rattle.segments.specs.declared.closed.Closed.{Closed}
use Rattle.segments.specs.declared.closed.FileDigest.{FileDigest}
use Rattle.segments.specs.declared.closed.Fingerprint.{Fingerprint}
use Rattle.segments.specs.declared.closed.Fingerprint.TheVariants.{Whole, Paged}
use Rattle.segments.specs.declared.closed.PagedSeal.{PagedSeal}
use Rattle.segments.specs.declared.error.Error.{Error}
use Rattle.segments.specs.declared.error.Error.TheVariants as errors
use Rattle.segments.specs.declared.passing.PassedPage.{PassedPage}
use Rattle.segments.specs.Log.{IsBeyondPages, IsKeptAs, IsListed, IsReadLast, LogState}
use Rattle.segments.specs.Manifest.{ListingState, closed_at, open_in}
use Rattle.segments.specs.Nth.{IsSearchDamaged, LogNthGoes, NthOfClosedGoes, NthOfOpenGoes, placed}
use Rattle.segments.specs.declared.place.Place.{Place}
use Rattle.segments.specs.PagedReads.{HasFailedPass, HasNoMarks, SearchFails, IsDamage, IsKeptPaged, IsNthOffset, IsOfFingerprint, IsPagedOf, IsToldAs, OpensPaged, PagedSegmentState, SegmentNthAnswers, SegmentPassAnswers}
use Rattle.segments.specs.PassingDamage.{IsPassDamaged, LastIsUnopened, IsPassedIn, PassByMarksGoes, PassInClosedGoes}
use Rattle.segments.specs.Recent.{kept_after}
use Rattle.segments.proofs.SegmentMarks.{kept_on}

-- what is so of a fingerprint is so of the one that is kept
pub listed_as : (l : ListingState) (segment : ℕ) (kept : PagedSeal) (Is : Fingerprint → Type 0) → IsKeptAs l segment (IsKeptPaged kept) → Is (Paged kept) → IsKeptAs l segment Is
listed_as l segment kept Is (closed, listed, same) is = (closed, listed, subst (λ (f : Fingerprint). Is f) (sym same) is)

is_listed : (s : LogState) (segment : ℕ) (kept : PagedSeal) → IsKeptAs s.listing segment (IsKeptPaged kept) → IsListed s segment
is_listed s segment kept (closed, listed, same) = (closed, listed)

-- a segment has marks that couldn't be opened
last_unopened : (segment : ℕ) (t : LogState) (r q : PagedSegmentState) (recent : List PagedSegmentState) → t.reading.paged ≡ kept_after 8 q recent → q.number ≡ segment → (q.marks_root ≡ None → ⊥) → q.marks ≡ None → LastIsUnopened segment t
last_unopened segment t r q recent there number root none = record { before = drop (length recent + 1 - 8) recent; last = q; there = there; number = number; kept = root; unopened = none }

-- it was read last
read_last : (segment : ℕ) (t : LogState) (q : PagedSegmentState) (recent : List PagedSegmentState) → t.reading.paged ≡ kept_after 8 q recent → q.number ≡ segment → IsReadLast segment q t
read_last segment t q recent there number = record { before = drop (length recent + 1 - 8) recent; there = there; number = number }

-- ---- the nth frame

-- it was too long
pub nth_too_long : (d : List ℕ → List ℕ) (s t : LogState) (segment n : ℕ) (kept : PagedSeal) → IsKeptAs s.listing segment (IsKeptPaged kept) → 2 ^ 50 ≤ kept.seal.len → NthOfClosedGoes d s t segment n (Err errors.Manifest)
nth_too_long d s t segment n kept listed long = listed_as s.listing segment kept (λ f. IsBeyondPages f) listed long

-- of one that is known by its whole file no marks were kept
pub nth_whole : (d : List ℕ → List ℕ) (s t : LogState) (segment n : ℕ) (closed : Closed) (kept : FileDigest) → closed_at s.listing segment ≡ Some closed → closed.fingerprint ≡ Whole kept → NthOfClosedGoes d s t segment n (Err (errors.Unmarked segment))
nth_whole d s t segment n closed kept listed is = (refl, (closed, listed, subst (λ (f : Fingerprint). HasNoMarks f) (sym is) tt))

-- it couldn't be opened
pub nth_refused : (d : List ℕ → List ℕ) (s t : LogState) (segment n : ℕ) (kept : PagedSeal) (e : Error) → IsKeptAs s.listing segment (IsKeptPaged kept) → OpensPaged d s.page_size kept.seal segment (Err e) → NthOfClosedGoes d s t segment n (Err e)
nth_refused d s t segment n kept (errors.Damaged k) listed is = (is.0, listed_as s.listing segment kept (λ f. IsSearchDamaged d s.page_size t segment f) listed (inl is.1))
nth_refused d s t segment n kept (errors.System e) listed is = is_listed s segment kept listed
nth_refused d s t segment n kept (errors.Layer e) listed is = is_listed s segment kept listed
nth_refused d s t segment n kept (errors.NoSegment k) listed is = absurd is
nth_refused d s t segment n kept (errors.Unsynced e) listed is = absurd is
nth_refused d s t segment n kept errors.Closed listed is = absurd is
nth_refused d s t segment n kept (errors.Unlisted k) listed is = absurd is
nth_refused d s t segment n kept (errors.Missing k) listed is = absurd is
nth_refused d s t segment n kept (errors.Short k) listed is = absurd is
nth_refused d s t segment n kept (errors.AnotherDigest k) listed is = absurd is
nth_refused d s t segment n kept (errors.Outdated k) listed is = absurd is
nth_refused d s t segment n kept errors.Manifest listed is = absurd is
nth_refused d s t segment n kept (errors.NoFrame k b) listed is = absurd is
nth_refused d s t segment n kept (errors.Unmarked k) listed is = absurd is
nth_refused d s t segment n kept errors.NumbersExhausted listed is = absurd is

nth_cause : (d : List ℕ → List ℕ) (s t : LogState) (segment n : ℕ) (kept : PagedSeal) (r q : PagedSegmentState) (e : Error) → IsKeptAs s.listing segment (IsKeptPaged kept) → IsPagedOf s.page_size segment kept.seal r
    → IsReadLast segment q t → SearchFails d r q e → NthOfClosedGoes d s t segment n (Err e)
nth_cause d s t segment n kept r q e listed of last is = by_cause is.cause is.told
  where
    damaged : e ≡ errors.Damaged r.number → NthOfClosedGoes d s t segment n (Err e)
    damaged told =
        let same : e ≡ errors.Damaged segment = told ∙ ap (λ k. errors.Damaged k) of.number in
        subst (λ (x : Error). NthOfClosedGoes d s t segment n (Err x)) (sym same) (
          refl,
          listed_as s.listing segment kept (λ f. IsSearchDamaged d s.page_size t segment f) listed (inr (record { old = r; new = q; of = of; fails = subst (λ (x : Error). SearchFails d r q x) same is; last = last })),
        )

    by_cause : (cause : pages.Error) → IsToldAs r.number cause e → NthOfClosedGoes d s t segment n (Err e)
    by_cause causes.Damaged told = damaged told
    by_cause (causes.System x) (inl told) = damaged told.1
    by_cause (causes.System x) (inr told) = subst (λ (x : Error). NthOfClosedGoes d s t segment n (Err x)) (sym told.1) (is_listed s segment kept listed)
    by_cause causes.OutOfMemory told = subst (λ (x : Error). NthOfClosedGoes d s t segment n (Err x)) (sym told) (is_listed s segment kept listed)

pub nth_answered : (d : List ℕ → List ℕ) (s t : LogState) (segment n : ℕ) (kept : PagedSeal) (r q : PagedSegmentState) (recent : List PagedSegmentState) (result : Result (Option ℕ) Error) → IsKeptAs s.listing segment (IsKeptPaged kept)
    → t.reading.paged ≡ kept_after 8 q recent → IsPagedOf s.page_size segment kept.seal r → r.marks_root ≡ kept.marks → q.number ≡ r.number → SegmentNthAnswers d n r q result → NthOfClosedGoes d s t segment n result
nth_answered d s t segment n kept r q recent (Ok found) listed there of marks number is =
    listed_as s.listing segment kept (λ f. IsOfFingerprint d s.page_size (λ content. IsNthOffset content n found) f) listed
    (is.0, sym marks ∙ is.1, kept_on d r.content.page_size s.page_size r.content.seal kept.seal is.0 (λ content. IsNthOffset content n found) of.page_size of.of is.2)
nth_answered d s t segment n kept r q recent (Err e) listed there of marks number (inl is) =
    subst (λ (x : Error). NthOfClosedGoes d s t segment n (Err x)) (sym is.0) (of.number, listed_as s.listing segment kept (λ f. HasNoMarks f) listed (sym marks ∙ is.1))
nth_answered d s t segment n kept r q recent (Err e) listed there of marks number (inr fails) =
    nth_cause d s t segment n kept r q e listed of (read_last segment t q recent there (number ∙ of.number)) fails

-- ---- a page that is passed

-- it was too long
pub pass_too_long : (d : List ℕ → List ℕ) (s t : LogState) (segment offset : ℕ) (kept : PagedSeal) → IsKeptAs s.listing segment (IsKeptPaged kept) → 2 ^ 50 ≤ kept.seal.len → PassInClosedGoes d s t segment offset (Err errors.Manifest)
pass_too_long d s t segment offset kept listed long = listed_as s.listing segment kept (λ f. IsBeyondPages f) listed long

-- of one that is known by its whole file no marks were kept
pub pass_whole : (d : List ℕ → List ℕ) (s t : LogState) (segment offset : ℕ) (closed : Closed) (kept : FileDigest) → closed_at s.listing segment ≡ Some closed → closed.fingerprint ≡ Whole kept → PassInClosedGoes d s t segment offset (Err (errors.Unmarked segment))
pass_whole d s t segment offset closed kept listed is = (refl, (closed, listed, subst (λ (f : Fingerprint). HasNoMarks f) (sym is) tt))

-- it couldn't be opened
pub pass_refused : (d : List ℕ → List ℕ) (s t : LogState) (segment offset : ℕ) (kept : PagedSeal) (e : Error) → IsKeptAs s.listing segment (IsKeptPaged kept) → OpensPaged d s.page_size kept.seal segment (Err e) → PassInClosedGoes d s t segment offset (Err e)
pass_refused d s t segment offset kept (errors.Damaged k) listed is = (is.0, listed_as s.listing segment kept (λ f. IsPassDamaged d s.page_size offset t segment f) listed (inl is.1))
pass_refused d s t segment offset kept (errors.System e) listed is = is_listed s segment kept listed
pass_refused d s t segment offset kept (errors.Layer e) listed is = is_listed s segment kept listed
pass_refused d s t segment offset kept (errors.NoSegment k) listed is = absurd is
pass_refused d s t segment offset kept (errors.Unsynced e) listed is = absurd is
pass_refused d s t segment offset kept errors.Closed listed is = absurd is
pass_refused d s t segment offset kept (errors.Unlisted k) listed is = absurd is
pass_refused d s t segment offset kept (errors.Missing k) listed is = absurd is
pass_refused d s t segment offset kept (errors.Short k) listed is = absurd is
pass_refused d s t segment offset kept (errors.AnotherDigest k) listed is = absurd is
pass_refused d s t segment offset kept (errors.Outdated k) listed is = absurd is
pass_refused d s t segment offset kept errors.Manifest listed is = absurd is
pass_refused d s t segment offset kept (errors.NoFrame k b) listed is = absurd is
pass_refused d s t segment offset kept (errors.Unmarked k) listed is = absurd is
pass_refused d s t segment offset kept errors.NumbersExhausted listed is = absurd is

pass_cause : (d : List ℕ → List ℕ) (s t : LogState) (segment offset : ℕ) (kept : PagedSeal) (r q : PagedSegmentState) (cause : pages.Error) (e : Error) → IsKeptAs s.listing segment (IsKeptPaged kept) → IsPagedOf s.page_size segment kept.seal r
    → r.marks_root ≡ kept.marks → IsReadLast segment q t → HasFailedPass d offset r q cause → IsToldAs r.number cause e → PassInClosedGoes d s t segment offset (Err e)
pass_cause d s t segment offset kept r q cause e listed of marks last fails told = by_cause cause fails told
  where
    damaged : (cause : pages.Error) → HasFailedPass d offset r q cause → IsDamage cause → PassInClosedGoes d s t segment offset (Err (errors.Damaged r.number))
    damaged cause fails damage = (
      of.number,
      listed_as s.listing segment kept (λ f. IsPassDamaged d s.page_size offset t segment f) listed
          (inr (inl (record { old = r; new = q; of = of.of; page_size = of.page_size; marks = marks; error = cause; fails = fails; damage = damage; last = last }))),
    )

    by_cause : (cause : pages.Error) → HasFailedPass d offset r q cause → IsToldAs r.number cause e → PassInClosedGoes d s t segment offset (Err e)
    by_cause causes.Damaged fails told = subst (λ (x : Error). PassInClosedGoes d s t segment offset (Err x)) (sym told) (damaged causes.Damaged fails tt)
    by_cause (causes.System x) fails (inl told) = subst (λ (x : Error). PassInClosedGoes d s t segment offset (Err x)) (sym told.1) (damaged (causes.System x) fails told.0)
    by_cause (causes.System x) fails (inr told) = subst (λ (x : Error). PassInClosedGoes d s t segment offset (Err x)) (sym told.1) (is_listed s segment kept listed)
    by_cause causes.OutOfMemory fails told = subst (λ (x : Error). PassInClosedGoes d s t segment offset (Err x)) (sym told) (is_listed s segment kept listed)

pub pass_answered : (d : List ℕ → List ℕ) (s t : LogState) (segment offset : ℕ) (kept : PagedSeal) (r q : PagedSegmentState) (recent : List PagedSegmentState) (result : Result PassedPage Error) → IsKeptAs s.listing segment (IsKeptPaged kept)
    → t.reading.paged ≡ kept_after 8 q recent → IsPagedOf s.page_size segment kept.seal r → r.marks_root ≡ kept.marks → q.number ≡ r.number → q.marks_root ≡ r.marks_root → (r.marks ≡ None → q.marks ≡ None)
    → SegmentPassAnswers d offset r q result → PassByMarksGoes d s t segment kept.seal.len offset result
pass_answered d s t segment offset kept r q recent (Ok p) listed there of marks number root none is =
    listed_as s.listing segment kept (λ f. IsPassedIn d s.page_size offset p kept.seal.len segment t f) listed
    (refl, record { old = r; new = q; of = of.of; page_size = of.page_size; marks = marks; passes = is; last = read_last segment t q recent there (number ∙ of.number) })
pass_answered d s t segment offset kept r q recent (Err e) listed there of marks number root none (inl is) =
    subst (λ (x : Error). PassInClosedGoes d s t segment offset (Err x)) (sym is.0) (of.number, listed_as s.listing segment kept (λ f. HasNoMarks f) listed (sym marks ∙ is.1))
pass_answered d s t segment offset kept r q recent (Err e) listed there of marks number root none (inr (inl is)) =
    subst (λ (x : Error). PassInClosedGoes d s t segment offset (Err x)) (sym is.2) (
      of.number,
      listed_as s.listing segment kept (λ f. IsPassDamaged d s.page_size offset t segment f) listed
          (inr (inr (last_unopened segment t r q recent there (number ∙ of.number) (λ no. is.1 (sym root ∙ no)) (none is.0)))),
    )
pass_answered d s t segment offset kept r q recent (Err e) listed there of marks number root none (inr (inr (cause, fails, told))) =
    pass_cause d s t segment offset kept r q cause e listed of marks (read_last segment t q recent there (number ∙ of.number)) fails told

-- ---- the answer of the log

pub open_placed : (sum own : List ℕ → ℕ) (d : List ℕ → List ℕ) (s t : LogState) (segment n : ℕ) (found : Option ℕ) (place : Option Place) → segment ≡ open_in s.listing → place ≡ placed segment found → NthOfOpenGoes sum own s t n (Ok found)
    → LogNthGoes sum own d s t segment n (Ok place)
open_placed sum own d s t segment n found place is same goes = (found, same, inl (is, goes))

pub open_not_placed : (sum own : List ℕ → ℕ) (d : List ℕ → List ℕ) (s t : LogState) (segment n : ℕ) (e : Error) → segment ≡ open_in s.listing → NthOfOpenGoes sum own s t n (Err e) → LogNthGoes sum own d s t segment n (Err e)
open_not_placed sum own d s t segment n e is goes = inl (is, goes)

pub closed_placed : (sum own : List ℕ → ℕ) (d : List ℕ → List ℕ) (s t : LogState) (segment n : ℕ) (found : Option ℕ) (place : Option Place) → segment ≢ open_in s.listing → place ≡ placed segment found → NthOfClosedGoes d s t segment n (Ok found)
    → LogNthGoes sum own d s t segment n (Ok place)
closed_placed sum own d s t segment n found place is same goes = (found, same, inr (is, goes))

pub closed_not_placed : (sum own : List ℕ → ℕ) (d : List ℕ → List ℕ) (s t : LogState) (segment n : ℕ) (e : Error) → segment ≢ open_in s.listing → NthOfClosedGoes d s t segment n (Err e) → LogNthGoes sum own d s t segment n (Err e)
closed_not_placed sum own d s t segment n e is goes = inr (is, goes)
