-- A file is removed once the manifest doesn't list it any more.
use Rattle.std.specs.Prelude.{◌≡◌, ◌<◌, ◌+◌, ◌++◌, ◌⊎◌, ℕ, suc, List, [], ◌∷◌, Some, None, Option, IfSome, Result, Ok, Err}
use Rattle.std.proofs.Common.{ap, sym, ◌∙◌, subst, inl, inr, arith, append_assoc, append-nil}
use Rattle.std.proofs.lemmas.List.{append_cancel_left}
use Rattle.disk.specs.Disk.{IsImage}
use Rattle.page.specs.Page.{text}
use Rattle.journal.specs.Frame.{records}
use Rattle.writer_state.specs.WriterState.{WriterState}
use Rattle.segments.specs.declared.call.FolderCall.TheVariants as calls
use Rattle.segments.specs.declared.error.Error.{Error}
use Rattle.segments.specs.declared.error.Error.TheVariants as errors
use Rattle.segments.specs.FolderEvents.{FolderEvent, keeping_event}
use Rattle.segments.specs.Manifest.{ListingState, listed_in, open_in}
use Rattle.segments.specs.Owned.{HasJournal, IsOwnedJournal}
use Rattle.segments.specs.Log.{AreOfOlder, IsDropping, IsLog, Lists, LogDropGoes, LogState}
use Rattle.segments.specs.Crash.{ListsFrom, RemovesUnlisted, WasRemoved}
use Rattle.segments.proofs.Surviving.{listed_of}

-- a removed segment is one of the older
is_older : (from first : ℕ) (events : List FolderEvent) (segment : ℕ) → AreOfOlder from first events → WasRemoved segment events → segment < first
is_older from first [] segment are was = absurd was
is_older from first (e ∷ es) segment (inl one) (inl same) =
    let number : segment ≡ one.0 = number_of (sym same ∙ one.3) in
    omega (arith, number, one.2) where
      number_in : Rattle.segments.specs.declared.call.FolderCall.FolderCall → ℕ
      number_in (calls.Removes n) = n
      number_in (calls.Opens n) = 0
      number_in (calls.Closes n) = 0
      number_in (calls.WritesList n) = 0
      number_in (calls.Keeps n len) = 0
      number_in calls.OpensManifest = 0
      number_in calls.Syncs = 0

      number_of : {a b : ℕ} → calls.Removes a ≡ calls.Removes b → a ≡ b
      number_of is = ap number_in is
is_older from first (e ∷ es) segment (inl one) (inr later) = is_older (suc one.0) first es segment one.4 later
is_older from first (e ∷ es) segment (inr one) (inl same) = absurd (cc (sym same ∙ one.0))
is_older from first (e ∷ es) segment (inr one) (inr later) = is_older from first es segment one.1 later

-- what a manifest lists that is there, and durable
lists_first : (sum own : List ℕ → ℕ) (t : LogState) (j : Option WriterState) (segment : ℕ) (bytes : List ℕ) → HasJournal j (λ w. Unit {0}) → t.manifest.page_size ≡ t.page_size
    → IfSome j (λ w. IsOwnedJournal sum own t.manifest w) → IfSome j (λ w. Lists sum own t.page_size t.listing w t.manifest.life)
    → IsImage t.manifest.life.present bytes → segment < t.listing.first → ListsFrom (segment + 1) (listed_in t.page_size (records own (text sum t.page_size bytes)))
lists_first sum own t None segment bytes there pages owned lists image below = absurd there
lists_first sum own t (Some w) segment bytes there pages owned lists image below =
    subst (λ (o : Option ListingState). ListsFrom (segment + 1) o) (sym (listed_of sum own t w pages owned lists bytes image)) (omega (arith, below))

-- what a drop asked for, from its beginning on
removed_of : (segment first : ℕ) (old mid new events : List FolderEvent) (number : ℕ) → ((mid ≡ old) ⊎ ((e : FolderEvent) × (mid ≡ old ++ e ∷ []) × (e.call ≡ calls.Removes number → ⊥)))
    → (removals : List FolderEvent) → new ≡ mid ++ removals → AreOfOlder 0 first removals → new ≡ old ++ events → WasRemoved number events → number < first
removed_of segment first old mid new events number (inl same) removals is below asked was =
    let these : events ≡ removals = append_cancel_left old events removals (sym asked ∙ is ∙ ap (λ es. es ++ removals) same) in
    is_older 0 first removals number below (subst (λ es. WasRemoved number es) these was)
removed_of segment first old mid new events number (inr more) removals is below asked was =
    let e = more.0 in
    let these : events ≡ e ∷ removals = append_cancel_left old events (e ∷ removals) (sym asked ∙ is ∙ ap (λ es. es ++ removals) more.1 ∙ append_assoc old (e ∷ []) removals) in
    elim (subst (λ es. WasRemoved number es) these was) [
      | inl first_one ↦ absurd (more.2 first_one)
      | inr later ↦ is_older 0 first removals number below later
    ]

keeps_none : (segment len number : ℕ) → calls.Keeps segment len ≡ calls.Removes number → ⊥
keeps_none segment len number is = absurd (cc is)

dropping_removes : (sum own : List ℕ → ℕ) (segment : ℕ) (s mid t : LogState) → IsDropping segment s mid t → IsLog sum own t → RemovesUnlisted sum own s t
dropping_removes sum own segment s mid t is log events asked number was bytes image =
    let before : (mid.asked ≡ s.asked) ⊎ ((e : FolderEvent) × (mid.asked ≡ s.asked ++ e ∷ []) × (e.call ≡ calls.Removes number → ⊥)) = elim (is.starts) [
      | inl same ↦ inl (ap (λ (l : LogState). l.asked) same.1)
      | inr started ↦ inr (
        keeping_event (open_in mid.listing) mid.known mid.manifest.life.present.readable started.1.kept.failed,
        started.1.kept.asked,
        keeps_none (open_in mid.listing) mid.known number,
      )
    ] in
    lists_first sum own t t.manifest.journal number bytes is.there log.manifest_pages log.manifest.1 log.lists image
    (removed_of segment t.listing.first s.asked mid.asked t.asked events number before is.removed.events is.removed.all is.removed.below asked was)

nothing_removes : (sum own : List ℕ → ℕ) (s t : LogState) → t.asked ≡ s.asked → RemovesUnlisted sum own s t
nothing_removes sum own s t same events asked number was =
    let none : events ≡ [] = append_cancel_left s.asked events [] (sym asked ∙ same ∙ sym (append-nil s.asked)) in
    absurd (subst (λ es. WasRemoved number es) none was)

-- a drop, by its answer
pub drop_removes : (sum own : List ℕ → ℕ) (segment : ℕ) (s t : LogState) (result : Result (Unit {0}) Error) → LogDropGoes segment s t result → IsLog sum own t → RemovesUnlisted sum own s t
drop_removes sum own segment s t (Ok u) is log = dropping_removes sum own segment s is.mid t is.drops log
drop_removes sum own segment s t (Err (errors.System e)) is log = dropping_removes sum own segment s is.mid t is.drops log
drop_removes sum own segment s t (Err (errors.Unsynced e)) is log = dropping_removes sum own segment s is.mid t is.drops log
drop_removes sum own segment s t (Err (errors.NoSegment n)) is log = nothing_removes sum own s t (ap (λ (l : LogState). l.asked) is.same)
drop_removes sum own segment s t (Err errors.Closed) is log = nothing_removes sum own s t (ap (λ (l : LogState). l.asked) is.0)
drop_removes sum own segment s t (Err (errors.Layer e)) is log = nothing_removes sum own s t is.0.asked
drop_removes sum own segment s t (Err (errors.Damaged n)) is log = absurd is
drop_removes sum own segment s t (Err (errors.Unlisted n)) is log = absurd is
drop_removes sum own segment s t (Err (errors.Missing n)) is log = absurd is
drop_removes sum own segment s t (Err (errors.Short n)) is log = absurd is
drop_removes sum own segment s t (Err (errors.AnotherDigest n)) is log = absurd is
drop_removes sum own segment s t (Err (errors.Outdated n)) is log = absurd is
drop_removes sum own segment s t (Err errors.Manifest) is log = absurd is
drop_removes sum own segment s t (Err errors.NumbersExhausted) is log = absurd is
drop_removes sum own segment s t (Err (errors.NoFrame its byte)) is log = absurd is
drop_removes sum own segment s t (Err (errors.Unmarked n)) is log = absurd is
