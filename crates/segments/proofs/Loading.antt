-- A closed segment in memory, which is known by its whole file.
use Rattle.std.specs.Prelude.{◌≡◌, ◌⊎◌, ℕ, List, length, bytes_eq, Bool, true, false, Some, None, Option, Result, Ok, Err}
use Rattle.std.proofs.Common.{ap, sym, ◌∙◌, refl, subst, inl, inr, true≢false}
use Rattle.std.proofs.lemmas.Slice.Eq.{bytes_eq-Decides}
use Rattle.sha2.specs.Sha256.{sha256}
use Rattle.disk.specs.Disk.{Life}
use Rattle.page.specs.Page.{text}
use Rattle.writer_state.specs.WriterState.{WriterState}
use Rattle.writer_state.specs.Sound.{content}
use Rattle.journal.specs.Frame.{whole_frames}
use Rattle.journal.specs.declared.frame.Found.{Found}
use Rattle.segments.specs.declared.closed.FileDigest.{FileDigest}
use Rattle.segments.specs.declared.closed.Fingerprint.{Fingerprint}
use Rattle.segments.specs.declared.closed.Fingerprint.TheVariants.{Whole}
use Rattle.segments.specs.declared.error.Error.{Error}
use Rattle.segments.specs.declared.error.Error.TheVariants as errors
use Rattle.segments.specs.declared.place.Place.{Place}
use Rattle.page_digests.specs.Seals.{EachIsByte}
use Rattle.segments.specs.Kept.{HasFileTwin, HasTwin, IsInFile, IsOf}
use Rattle.segments.specs.Manifest.{closed_by}
use Rattle.segments.specs.Owned.{HasJournal, IsOwned, OwnedReadGoes, OwnedReadLeaves, OwnedState, content_of}
use Rattle.segments.specs.Log.{HasLoaded, HasOpened, HeldReadGoes, IsDamagedBy, IsKeptAs, IsLoaded, IsReadOfClosed, LoadedState, LogReadGoes, LogReadRefused, LogState, TakeLoadedGoes}
use Rattle.segments.specs.FrameReads.{IsReadOf}
use Rattle.segments.proofs.Joining.{content_by}
use Rattle.segments.proofs.Readings.{read_forward, reads_by}

-- ---- files of one digest

judge : (content other : List ℕ) → EachIsByte other → length other ≡ length content → sha256 other ≡ sha256 content → (b : Bool) → bytes_eq other content ≡ b → (other ≡ content) ⊎ HasTwin content
judge content other small long same true e = inl ((bytes_eq-Decides other content).0 e)
judge content other small long same false e =
    inr (other, record { small = small; len = long; differs = λ is. true≢false (sym ((bytes_eq-Decides other content).1 is) ∙ e); same = same })

-- bytes of which the same was kept as of a content are that content, or a twin of it
judged : (content other : List ℕ) (kept : FileDigest) → IsOf content kept → IsOf other kept → (other ≡ content) ⊎ HasTwin content
judged content other kept first second =
    judge content other second.small (sym second.len ∙ first.len) (sym second.digest ∙ first.digest) (bytes_eq other content) refl

-- contents of files of which the same was kept are the same, or the first has a twin
pub same_in_file : (sum : List ℕ → ℕ) (P : ℕ) (kept : FileDigest) (content other : List ℕ) → IsInFile sum P kept content → IsInFile sum P kept other
    → (other ≡ content) ⊎ HasFileTwin sum P kept content
same_in_file sum P kept content other first second = elim (judged first.bytes second.bytes kept first.of second.of) [
  | inl same ↦ inl (second.holds ∙ ap (λ bytes. whole_frames (text sum P bytes)) same ∙ sym first.holds)
  | inr twin ↦ inr (record { holds = first; twin = twin })
]

-- ---- in memory

there_of : (P : WriterState → Type 0) (j : Option WriterState) → HasJournal j P → HasJournal j (λ w. Unit {0})
there_of P None is = is
there_of P (Some w) is = tt

content_is : (C : List ℕ) (j : Option WriterState) (life : Life) → HasJournal j (λ w. content w life.present.readable ≡ C) → content_of j life ≡ C
content_is C None life is = absurd is
content_is C (Some w) life is = is

is_content : (C : List ℕ) (j : Option WriterState) (life : Life) → HasJournal j (λ w. C ≡ content w life.present.readable) → C ≡ content_of j life
is_content C None life is = absurd is
is_content C (Some w) life is = is

-- bytes of which this was kept were opened
pub loaded_of : (sum own : List ℕ → ℕ) (P : ℕ) (old : Life) (kept : FileDigest) (o : OwnedState) (answered : List (List ℕ)) → HasOpened sum own P old o answered → IsOf old.present.readable kept
    → IsLoaded sum own P (record { kept = kept; owned = o })
loaded_of sum own P old kept o answered opened of = record {
  page_size = opened.page_size;
  owned = opened.owned;
  there = there_of _ o.journal opened.holds;
  holds = record { bytes = old.present.readable; of = of; holds = content_is (whole_frames (text sum P old.present.readable)) o.journal o.life opened.holds };
}

-- a read leaves a closed segment in memory
pub loaded_still : (sum own : List ℕ → ℕ) (P : ℕ) (l : LoadedState) (t : OwnedState) → IsLoaded sum own P l → OwnedReadLeaves sum own l.owned t → IsOwned sum own t
    → IsLoaded sum own P (record { kept = l.kept; owned = t })
loaded_still sum own P l t loaded leaves owned =
    let same = ap (λ j. content_of j t.life) leaves.journal ∙ content_by sum own l.owned.journal l.owned.cache t.cache l.owned.life t.life leaves.call in
    record {
      page_size = leaves.page_size ∙ loaded.page_size;
      owned = owned;
      there = subst (λ j. HasJournal j (λ w. Unit {0})) (sym leaves.journal) loaded.there;
      holds = subst (λ held. IsInFile sum P l.kept held) (sym same) loaded.holds;
    }

not_there : (j : Option WriterState) → HasJournal j (λ w. Unit {0}) → j ≡ None → ⊥
not_there j there none = subst (λ j. HasJournal j (λ w. Unit {0})) none there

-- a content that a file of this digest holds was read
pub file_read : (sum own : List ℕ → ℕ) (d : List ℕ → List ℕ) (P : ℕ) (kept : FileDigest) (now : List ℕ) (offset : ℕ) (found : Option Found) → IsInFile sum P kept now → IsReadOf own now offset found
    → (records : ℕ) → IsReadOfClosed sum own d P (closed_by records (Whole kept)) offset found
file_read sum own d P kept now offset found held is_read records = record {
  forward = read_forward own now offset found is_read;
  reads = λ content holds. elim (same_in_file sum P kept content now holds held) [
    | inl same ↦ inl (subst (λ content. IsReadOf own content offset found) same is_read)
    | inr twin ↦ inr twin
  ];
}

pub held_read : (sum own : List ℕ → ℕ) (d : List ℕ → List ℕ) (P : ℕ) (l : LoadedState) (t : OwnedState) (offset : ℕ) (result : Result (Option Found) Error) → IsLoaded sum own P l
    → OwnedReadGoes own offset l.owned t result → HeldReadGoes sum own d P l.kept offset result
held_read sum own d P l t offset (Ok found) loaded is =
    let read = reads_by own l.owned.journal t.journal offset l.owned.life t.life found is in
    let now = content_of l.owned.journal l.owned.life in
    let is_read : IsReadOf own now offset found = subst (λ content. IsReadOf own content offset found) (is_content read.0 l.owned.journal l.owned.life read.1) read.2 in
    file_read sum own d P l.kept now offset found loaded.holds is_read
held_read sum own d P l t offset (Err (errors.Layer e)) loaded is = tt
held_read sum own d P l t offset (Err errors.Closed) loaded is = absurd (not_there l.owned.journal loaded.there is.0)
held_read sum own d P l t offset (Err (errors.System e)) loaded is = absurd is
held_read sum own d P l t offset (Err (errors.Unsynced e)) loaded is = absurd is
held_read sum own d P l t offset (Err (errors.Damaged n)) loaded is = absurd is
held_read sum own d P l t offset (Err (errors.Unlisted n)) loaded is = absurd is
held_read sum own d P l t offset (Err (errors.Missing n)) loaded is = absurd is
held_read sum own d P l t offset (Err (errors.Short n)) loaded is = absurd is
held_read sum own d P l t offset (Err (errors.AnotherDigest n)) loaded is = absurd is
held_read sum own d P l t offset (Err (errors.Outdated n)) loaded is = absurd is
held_read sum own d P l t offset (Err errors.Manifest) loaded is = absurd is
held_read sum own d P l t offset (Err (errors.NoSegment n)) loaded is = absurd is
held_read sum own d P l t offset (Err errors.NumbersExhausted) loaded is = absurd is
held_read sum own d P l t offset (Err (errors.NoFrame its byte)) loaded is = absurd is
held_read sum own d P l t offset (Err (errors.Unmarked n)) loaded is = absurd is

-- ---- a read of a closed segment

-- it was read in memory
pub reads_whole : (sum own : List ℕ → ℕ) (d : List ℕ → List ℕ) (s t : LogState) (p : Place) (kept : FileDigest) (l : LoadedState) (result : Result (Option Found) Error)
    → IsKeptAs s.listing p.segment (λ f. f ≡ Whole kept) → HasLoaded sum own s kept l
    → HeldReadGoes sum own d l.owned.page_size l.kept p.offset result → LogReadGoes sum own d s t p result
reads_whole sum own d s t p kept l (Ok found) (closed, listed, whole) has is =
    let reads = subst (λ P. IsReadOfClosed sum own d P (closed_by closed.records (Whole l.kept)) p.offset found) has.loaded.page_size (is closed.records) in
    let of_kept = subst (λ k. IsReadOfClosed sum own d s.page_size (closed_by closed.records (Whole k)) p.offset found) has.same reads in
    inr (closed, listed, subst (λ (f : Fingerprint). IsReadOfClosed sum own d s.page_size (closed_by closed.records f) p.offset found) (sym whole) of_kept)
reads_whole sum own d s t p kept l (Err (errors.Layer e)) (closed, listed, whole) has is = inr (closed, listed)
reads_whole sum own d s t p kept l (Err errors.Closed) listed has is = absurd is
reads_whole sum own d s t p kept l (Err (errors.System e)) listed has is = absurd is
reads_whole sum own d s t p kept l (Err (errors.Unsynced e)) listed has is = absurd is
reads_whole sum own d s t p kept l (Err (errors.Damaged n)) listed has is = absurd is
reads_whole sum own d s t p kept l (Err (errors.Unlisted n)) listed has is = absurd is
reads_whole sum own d s t p kept l (Err (errors.Missing n)) listed has is = absurd is
reads_whole sum own d s t p kept l (Err (errors.Short n)) listed has is = absurd is
reads_whole sum own d s t p kept l (Err (errors.AnotherDigest n)) listed has is = absurd is
reads_whole sum own d s t p kept l (Err (errors.Outdated n)) listed has is = absurd is
reads_whole sum own d s t p kept l (Err errors.Manifest) listed has is = absurd is
reads_whole sum own d s t p kept l (Err (errors.NoSegment n)) listed has is = absurd is
reads_whole sum own d s t p kept l (Err errors.NumbersExhausted) listed has is = absurd is
reads_whole sum own d s t p kept l (Err (errors.NoFrame its byte)) listed has is = absurd is
reads_whole sum own d s t p kept l (Err (errors.Unmarked n)) listed has is = absurd is

-- it couldn't be brought into memory
pub load_refused : (sum own : List ℕ → ℕ) (d : List ℕ → List ℕ) (s t : LogState) (p : Place) (kept : FileDigest) (e : Error) → IsKeptAs s.listing p.segment (λ f. f ≡ Whole kept)
    → TakeLoadedGoes sum own s p.segment kept (Err e) → LogReadRefused own d s t p e
load_refused sum own d s t p kept (errors.Damaged n) (closed, listed, whole) is =
    (is, (closed, listed, subst (λ f. IsDamagedBy d s.page_size p.offset p.segment t f) (sym whole) tt))
load_refused sum own d s t p kept (errors.System e) (closed, listed, whole) is = (closed, listed)
load_refused sum own d s t p kept (errors.Layer e) (closed, listed, whole) is = inr (closed, listed)
load_refused sum own d s t p kept (errors.NoSegment n) listed is = absurd is
load_refused sum own d s t p kept (errors.Unsynced e) listed is = absurd is
load_refused sum own d s t p kept errors.Closed listed is = absurd is
load_refused sum own d s t p kept (errors.Unlisted n) listed is = absurd is
load_refused sum own d s t p kept (errors.Missing n) listed is = absurd is
load_refused sum own d s t p kept (errors.Short n) listed is = absurd is
load_refused sum own d s t p kept (errors.AnotherDigest n) listed is = absurd is
load_refused sum own d s t p kept (errors.Outdated n) listed is = absurd is
load_refused sum own d s t p kept errors.Manifest listed is = absurd is
load_refused sum own d s t p kept errors.NumbersExhausted listed is = absurd is
load_refused sum own d s t p kept (errors.NoFrame its byte) listed is = absurd is
load_refused sum own d s t p kept (errors.Unmarked n) listed is = absurd is
