-- Closed segments that are read by their pages.
use Rattle.std.specs.Prelude.{◌≡◌, ◌⊎◌, ◌≤◌, ◌+◌, ◌-◌, ◌^◌, ℕ, List, length, drop, None, Some, Option, Result, Ok, Err}
use Rattle.std.proofs.Common.{refl, sym, ◌∙◌, ap, subst, inl, inr}
use Rattle.journal.specs.declared.frame.Found.{Found}
use Rattle.page_digests.specs.Seals.{HasSecondPreimage, IsSealOf}
use Rattle.page_digests.specs.declared.error.Error as pages
use Rattle.page_digests.specs.declared.error.Error.TheVariants as causes
use Rattle.page_digests.specs.declared.seal.Seal.{Seal}
use Rattle.segments.specs.declared.closed.Closed.{Closed}
use Rattle.segments.specs.declared.closed.FileDigest.{FileDigest}
use Rattle.segments.specs.declared.closed.PagedSeal.{PagedSeal}
use Rattle.segments.specs.declared.closed.Fingerprint.{Fingerprint}
use Rattle.segments.specs.declared.closed.Fingerprint.TheVariants.{Whole, Paged}
use Rattle.segments.specs.declared.error.Error.{Error}
use Rattle.segments.specs.declared.error.Error.TheVariants as errors
use Rattle.segments.specs.declared.place.Place.{Place}
use Rattle.segments.specs.Kept.{HasFingerprint, HasTwinBy}
use Rattle.segments.specs.Log.{HasDamagedLast, IsDamagedBy, IsKeptAs, IsListed, IsReadOfClosed, IsBeyondPages, LastMarksFail, LogReadBegins, LogReadGoes, LogReadRefused, LogState}
use Rattle.segments.specs.Manifest.{ListingState, closed_at, open_in}
use Rattle.segments.specs.PagedFrames.{FrameFails, ReadsPagedFrame}
use Rattle.segments.specs.PagedReads.{HasDamagedFile, HasSeal, IfMarked, IsBeyondLimit, IsDamage, IsKeptPaged, IsMidst, IsOfFingerprint, IsOfSegment, IsPagedOf, IsToldAs, MarkedReadAnswers, MarkedReadGoes, MarksFail, OpensPaged, PagedSegmentState, RebuildsPaged, SegmentFails, SegmentRefuses}
use Rattle.segments.specs.Recent.{kept_after}
use Rattle.segments.specs.Seeks.{IsBegin}
use Rattle.segments.proofs.SegmentMarks.{kept_on}

-- ---- by its seal

pub kept_as : (l : ListingState) (segment : ℕ) (kept : Closed) (Is : Fingerprint → Type 0) → closed_at l segment ≡ Some kept → Is kept.fingerprint → IsKeptAs l segment Is
kept_as l segment kept Is listed is = (kept, listed, is)

sealed_by : (sum : List ℕ → ℕ) (d : List ℕ → List ℕ) (P : ℕ) (seal : Seal) (content : List ℕ) (f : Fingerprint) → HasSeal seal f → HasFingerprint sum d P f content → IsSealOf d P content seal
sealed_by sum d P seal content (Whole kept) is has = absurd is
sealed_by sum d P seal content (Paged kept) is has = subst (λ s. IsSealOf d P content s) is has

twin_by : (sum : List ℕ → ℕ) (d : List ℕ → List ℕ) (P : ℕ) (seal : Seal) (content : List ℕ) (f : Fingerprint) → HasSeal seal f → HasSecondPreimage d P content → HasTwinBy sum d P f content
twin_by sum d P seal content (Whole kept) is twin = absurd is
twin_by sum d P seal content (Paged kept) is twin = twin

damaged_by : (d : List ℕ → List ℕ) (P : ℕ) (seal : Seal) (offset segment : ℕ) (t : LogState) (f : Fingerprint) → HasSeal seal f → HasDamagedFile d P seal ⊎ HasDamagedLast d (FrameFails d offset) P seal segment t
    → IsDamagedBy d P offset segment t f
damaged_by d P seal offset segment t (Whole kept) is damaged = tt
damaged_by d P seal offset segment t (Paged kept) is damaged = subst (λ s. HasDamagedFile d P s ⊎ HasDamagedLast d (FrameFails d offset) P s segment t) (sym is) damaged

pub long_by : (seal : Seal) (f : Fingerprint) → HasSeal seal f → IsBeyondLimit seal → IsBeyondPages f
long_by seal (Whole kept) is long = absurd is
long_by seal (Paged kept) is long = subst (λ s. IsBeyondLimit s) (sym is) long

pub listed_so : (s : LogState) (segment : ℕ) (Is : Fingerprint → Type 0) → IsKeptAs s.listing segment Is → IsListed s segment
listed_so s segment Is (kept, listed, is) = (kept, listed)

-- the manifest lists a segment that is too long
pub too_long : (sum own : List ℕ → ℕ) (d : List ℕ → List ℕ) (s t : LogState) (p : Place) (kept : PagedSeal) → IsKeptAs s.listing p.segment (IsKeptPaged kept) → 2 ^ 50 ≤ kept.seal.len
    → LogReadGoes sum own d s t p (Err errors.Manifest)
too_long sum own d s t p kept (closed, listed, is) long =
    (closed, listed, long_by kept.seal closed.fingerprint (subst (λ (f : Fingerprint). HasSeal kept.seal f) (sym is) refl) long)

-- ---- a frame was read

pub paged_closed : (sum own : List ℕ → ℕ) (d : List ℕ → List ℕ) (P : ℕ) (seal : Seal) (kept : Closed) (offset : ℕ) (found : Option Found) → HasSeal seal kept.fingerprint
    → ReadsPagedFrame d own P seal offset found → IsReadOfClosed sum own d P kept offset found
paged_closed sum own d P seal kept offset found is reads = record {
  forward = reads.forward;
  reads = λ content holds. elim (reads.reads content (sealed_by sum d P seal content kept.fingerprint is holds)) [
    | inl read ↦ inl read
    | inr twin ↦ inr (twin_by sum d P seal content kept.fingerprint is twin)
  ];
}

pub reads_paged : (sum own : List ℕ → ℕ) (d : List ℕ → List ℕ) (s t : LogState) (p : Place) (seal : Seal) (found : Option Found)
    → IsKeptAs s.listing p.segment (HasSeal seal) → ReadsPagedFrame d own s.page_size seal p.offset found → LogReadGoes sum own d s t p (Ok found)
reads_paged sum own d s t p seal found (kept, listed, is) reads =
    inr (kept, listed, paged_closed sum own d s.page_size seal kept p.offset found is reads)

-- ---- it couldn't be read

-- the segment is damaged
damaged_so : (sum own : List ℕ → ℕ) (d : List ℕ → List ℕ) (s t : LogState) (p : Place) (seal : Seal) (n : ℕ) → IsKeptAs s.listing p.segment (HasSeal seal) → n ≡ p.segment
    → HasDamagedFile d s.page_size seal ⊎ HasDamagedLast d (FrameFails d p.offset) s.page_size seal p.segment t → LogReadRefused own d s t p (errors.Damaged n)
damaged_so sum own d s t p seal n (kept, listed, is) same damaged = (same, (kept, listed, damaged_by d s.page_size seal p.offset p.segment t kept.fingerprint is damaged))

-- an error of its content is told
told_so : (sum own : List ℕ → ℕ) (d : List ℕ → List ℕ) (s t : LogState) (p : Place) (seal : Seal) (cause : pages.Error) (e : Error) → IsKeptAs s.listing p.segment (HasSeal seal)
    → (e ≡ errors.Damaged p.segment → HasDamagedLast d (FrameFails d p.offset) s.page_size seal p.segment t) → IsToldAs p.segment cause e → LogReadRefused own d s t p e
told_so sum own d s t p seal cause e listed damaged told = by_cause cause told
  where
    so : e ≡ errors.Damaged p.segment → LogReadRefused own d s t p e
    so told = subst (λ e. LogReadRefused own d s t p e) (sym told) (damaged_so sum own d s t p seal p.segment listed refl (inr (damaged told)))

    by_cause : (cause : pages.Error) → IsToldAs p.segment cause e → LogReadRefused own d s t p e
    by_cause causes.Damaged told = so told
    by_cause (causes.System x) (inl told) = so told.1
    by_cause (causes.System x) (inr told) = subst (λ e. LogReadRefused own d s t p e) (sym told.1) (listed_so s p.segment (HasSeal seal) listed)
    by_cause causes.OutOfMemory told = subst (λ e. LogReadRefused own d s t p e) (sym told) (inr (listed_so s p.segment (HasSeal seal) listed))

-- the last segment is damaged
last_damaged : (d : List ℕ → List ℕ) (P offset segment : ℕ) (seal : Seal) (t : LogState) (r q : PagedSegmentState) (recent : List PagedSegmentState) (e : Error) → t.reading.paged ≡ kept_after 8 q recent → q.number ≡ r.number
    → IsPagedOf P segment seal r → SegmentFails d offset r q e → e ≡ errors.Damaged segment → HasDamagedLast d (FrameFails d offset) P seal segment t
last_damaged d P offset segment seal t r q recent e there number of fails told = record {
  old = r;
  new = q;
  of = of;
  fails = subst (λ (x : Error). SegmentFails d offset r q x) told fails;
  last = record { before = drop (length recent + 1 - 8) recent; there = there; number = number ∙ of.number };
}

-- ---- a segment was read

-- by its seal it is what was kept
pub by_seal : (l : ListingState) (segment : ℕ) (kept : PagedSeal) → IsKeptAs l segment (IsKeptPaged kept) → IsKeptAs l segment (HasSeal kept.seal)
by_seal l segment kept (closed, listed, is) = (closed, listed, subst (λ (f : Fingerprint). HasSeal kept.seal f) (sym is) refl)

-- none begins at the offset
midst_so : (sum own : List ℕ → ℕ) (d : List ℕ → List ℕ) (s t : LogState) (p : Place) (kept : PagedSeal) (r : PagedSegmentState) → IsKeptAs s.listing p.segment (IsKeptPaged kept) → IsPagedOf s.page_size p.segment kept.seal r
    → r.marks_root ≡ kept.marks → IsMidst d p.offset r → LogReadRefused own d s t p (errors.NoFrame r.number p.offset)
midst_so sum own d s t p kept r (closed, listed, is) of marks (root, has, none) = (
  of.number,
  refl,
  (
    closed,
    listed,
    subst (λ (f : Fingerprint). IsOfFingerprint d s.page_size (λ content. IsBegin content p.offset → ⊥) f) (sym is)
        (root, sym marks ∙ has, kept_on d r.content.page_size s.page_size r.content.seal kept.seal root (λ content. IsBegin content p.offset → ⊥) of.page_size of.of none),
  ),
)

refused_for : (sum own : List ℕ → ℕ) (d : List ℕ → List ℕ) (s t : LogState) (p : Place) (kept : PagedSeal) (r q : PagedSegmentState) (recent : List PagedSegmentState) (e : Error) → IsKeptAs s.listing p.segment (IsKeptPaged kept)
    → t.reading.paged ≡ kept_after 8 q recent → q.number ≡ r.number → IsPagedOf s.page_size p.segment kept.seal r → r.marks_root ≡ kept.marks → SegmentRefuses d p.offset r q e → LogReadRefused own d s t p e
refused_for sum own d s t p kept r q recent e listed there number of marks (inl midst) =
    subst (λ (x : Error). LogReadRefused own d s t p x) (sym midst.0) (midst_so sum own d s t p kept r listed of marks midst.1)
refused_for sum own d s t p kept r q recent e listed there number of marks (inr is) =
    told_so sum own d s t p kept.seal is.cause e (by_seal s.listing p.segment kept listed) (last_damaged d s.page_size p.offset p.segment kept.seal t r q recent e there number of is)
    (subst (λ n. IsToldAs n is.cause e) of.number is.told)

answers_for : (sum own : List ℕ → ℕ) (d : List ℕ → List ℕ) (s t : LogState) (p : Place) (kept : PagedSeal) (r q : PagedSegmentState) (recent : List PagedSegmentState) (result : Result (Option Found) Error)
    → IsKeptAs s.listing p.segment (IsKeptPaged kept) → t.reading.paged ≡ kept_after 8 q recent → q.number ≡ r.number → IsPagedOf s.page_size p.segment kept.seal r → r.marks_root ≡ kept.marks → MarkedReadAnswers d own p.offset r q result
    → LogReadGoes sum own d s t p result
answers_for sum own d s t p kept r q recent (Ok found) listed there number of marks reads =
    reads_paged sum own d s t p kept.seal found (by_seal s.listing p.segment kept listed)
    (subst (λ n. ReadsPagedFrame d own n kept.seal p.offset found) of.page_size (subst (λ l. ReadsPagedFrame d own r.content.page_size l p.offset found) of.of reads))
answers_for sum own d s t p kept r q recent (Err e) listed there number of marks is = refused_for sum own d s t p kept r q recent e listed there number of marks is

pub segment_read : (sum own : List ℕ → ℕ) (d : List ℕ → List ℕ) (s t : LogState) (p : Place) (kept : PagedSeal) (r q : PagedSegmentState) (recent : List PagedSegmentState) (result : Result (Option Found) Error)
    → IsKeptAs s.listing p.segment (IsKeptPaged kept) → t.reading.paged ≡ kept_after 8 q recent → IsPagedOf s.page_size p.segment kept.seal r → r.marks_root ≡ kept.marks → MarkedReadGoes d own p.offset r q result
    → LogReadGoes sum own d s t p result
segment_read sum own d s t p kept r q recent result listed there of marks goes = answers_for sum own d s t p kept r q recent result listed there goes.same.number of marks goes.answers

-- ---- where a frame was found, one begins

same_kept : (a b : Closed) → Some a ≡ Some b → a ≡ b
same_kept a b is = ap (λ (o : Option Closed). or_first o) is
  where
    or_first : Option Closed → Closed
    or_first (Some k) = k
    or_first None = a

begins_listed : (d : List ℕ → List ℕ) (P : ℕ) (offset : ℕ) (kept : PagedSeal) (r : PagedSegmentState) → r.content.page_size ≡ P → r.content.seal ≡ kept.seal → r.marks_root ≡ kept.marks
    → IsOfSegment d r (λ content. IsBegin content offset) → (f : Fingerprint) → f ≡ Paged kept → IfMarked d P (λ content. IsBegin content offset) f
begins_listed d P offset kept r size seal marks begins f is = subst (λ (f : Fingerprint). IfMarked d P (λ content. IsBegin content offset) f) (sym is)
    (λ root has. kept_on d r.content.page_size P r.content.seal kept.seal root (λ content. IsBegin content offset) size seal (begins root (marks ∙ has)))

last_fails : (d : List ℕ → List ℕ) (segment offset : ℕ) (t : LogState) (q : PagedSegmentState) (recent : List PagedSegmentState) → t.reading.paged ≡ kept_after 8 q recent → q.number ≡ segment → MarksFail d offset q
    → LastMarksFail d segment offset t
last_fails d segment offset t q recent there number fails = record { before = drop (length recent + 1 - 8) recent; last = q; there = there; number = number; fails = fails }

-- of the segment that was read last, by its answer
pub begins_in_log : (d : List ℕ → List ℕ) (own : List ℕ → ℕ) (s t : LogState) (p : Place) (kept : PagedSeal) (r q : PagedSegmentState) (recent : List PagedSegmentState) (result : Result (Option Found) Error)
    → IsKeptAs s.listing p.segment (IsKeptPaged kept) → t.listing ≡ s.listing → t.page_size ≡ s.page_size → t.reading.paged ≡ kept_after 8 q recent → IsPagedOf s.page_size p.segment kept.seal r → r.marks_root ≡ kept.marks
    → MarkedReadGoes d own p.offset r q result → LogReadBegins d t p result
begins_in_log d own s t p kept r q recent (Ok (Some f)) (closed, listed, is) lists size there of marks goes = λ not_open again has. elim (goes.begins) [
  | inl begins ↦
      let same : again ≡ closed = same_kept again closed (sym has ∙ ap (λ (l : ListingState). closed_at l p.segment) lists ∙ listed) in
      inl (begins_listed d t.page_size p.offset kept r (of.page_size ∙ sym size) of.of marks begins again.fingerprint (ap (λ (c : Closed). c.fingerprint) same ∙ is))
  | inr fails ↦ inr (last_fails d p.segment p.offset t q recent there (goes.same.number ∙ of.number) fails)
]
begins_in_log d own s t p kept r q recent (Ok None) listed lists size there of marks goes = tt
begins_in_log d own s t p kept r q recent (Err e) listed lists size there of marks goes = tt

-- it is one of those that are known by their whole files
pub begins_whole : (d : List ℕ → List ℕ) (s t : LogState) (p : Place) (kept : FileDigest) (result : Result (Option Found) Error) → IsKeptAs s.listing p.segment (λ f. f ≡ Whole kept) → t.listing ≡ s.listing → LogReadBegins d t p result
begins_whole d s t p kept (Ok (Some f)) (closed, listed, is) lists = λ not_open again has.
    let same : again ≡ closed = same_kept again closed (sym has ∙ ap (λ (l : ListingState). closed_at l p.segment) lists ∙ listed) in
    inl (subst (λ (f : Fingerprint). IfMarked d t.page_size (λ content. IsBegin content p.offset) f) (sym (ap (λ (c : Closed). c.fingerprint) same ∙ is)) tt)
begins_whole d s t p kept (Ok None) listed lists = tt
begins_whole d s t p kept (Err e) listed lists = tt

-- it is the open one
pub begins_open : (d : List ℕ → List ℕ) (s t : LogState) (p : Place) (result : Result (Option Found) Error) → p.segment ≡ open_in s.listing → t.listing ≡ s.listing → LogReadBegins d t p result
begins_open d s t p (Ok (Some f)) is lists = λ not_open again has. absurd (not_open (is ∙ ap (λ (l : ListingState). open_in l) (sym lists)))
begins_open d s t p (Ok None) is lists = tt
begins_open d s t p (Err e) is lists = tt

-- ---- it is opened

rebuild_damage : (d : List ℕ → List ℕ) (P : ℕ) (seal : Seal) (number : ℕ) (cause : pages.Error) → RebuildsPaged d P seal number (Err cause) → IsDamage cause → HasDamagedFile d P seal
rebuild_damage d P seal number cause (old, new, goes) damage = record { old = old; new = new; error = cause; fails = goes; damage = damage }

-- an error of its levels is told
pub opens_not : (d : List ℕ → List ℕ) (P : ℕ) (seal : Seal) (number : ℕ) (cause : pages.Error) (e : Error) → RebuildsPaged d P seal number (Err cause) → IsToldAs number cause e
    → OpensPaged d P seal number (Err e)
opens_not d P seal number causes.Damaged e goes told =
    subst (λ e. OpensPaged d P seal number (Err e)) (sym told) (refl, rebuild_damage d P seal number causes.Damaged goes tt)
opens_not d P seal number (causes.System x) e goes (inl told) =
    subst (λ e. OpensPaged d P seal number (Err e)) (sym told.1) (refl, rebuild_damage d P seal number (causes.System x) goes told.0)
opens_not d P seal number (causes.System x) e goes (inr told) = subst (λ e. OpensPaged d P seal number (Err e)) (sym told.1) tt
opens_not d P seal number causes.OutOfMemory e goes told = subst (λ e. OpensPaged d P seal number (Err e)) (sym told) refl

-- it wasn't opened
open_refused : (sum own : List ℕ → ℕ) (d : List ℕ → List ℕ) (s t : LogState) (p : Place) (seal : Seal) (e : Error) → IsKeptAs s.listing p.segment (HasSeal seal)
    → OpensPaged d s.page_size seal p.segment (Err e) → LogReadGoes sum own d s t p (Err e)
open_refused sum own d s t p seal (errors.Damaged n) listed is = damaged_so sum own d s t p seal n listed is.0 (inl is.1)
open_refused sum own d s t p seal (errors.System e) listed is = listed_so s p.segment (HasSeal seal) listed
open_refused sum own d s t p seal (errors.Layer e) listed is = inr (listed_so s p.segment (HasSeal seal) listed)
open_refused sum own d s t p seal (errors.NoSegment n) listed is = absurd is
open_refused sum own d s t p seal (errors.Unsynced e) listed is = absurd is
open_refused sum own d s t p seal errors.Closed listed is = absurd is
open_refused sum own d s t p seal (errors.Unlisted n) listed is = absurd is
open_refused sum own d s t p seal (errors.Missing n) listed is = absurd is
open_refused sum own d s t p seal (errors.Short n) listed is = absurd is
open_refused sum own d s t p seal (errors.AnotherDigest n) listed is = absurd is
open_refused sum own d s t p seal (errors.Outdated n) listed is = absurd is
open_refused sum own d s t p seal errors.Manifest listed is = absurd is
open_refused sum own d s t p seal errors.NumbersExhausted listed is = absurd is
open_refused sum own d s t p seal (errors.NoFrame its byte) listed is = absurd is
open_refused sum own d s t p seal (errors.Unmarked n) listed is = absurd is

pub not_opened : (sum own : List ℕ → ℕ) (d : List ℕ → List ℕ) (s t : LogState) (p : Place) (kept : PagedSeal) (e : Error) → IsKeptAs s.listing p.segment (IsKeptPaged kept)
    → OpensPaged d s.page_size kept.seal p.segment (Err e) → LogReadGoes sum own d s t p (Err e)
not_opened sum own d s t p kept e listed is = open_refused sum own d s t p kept.seal e (by_seal s.listing p.segment kept listed) is
