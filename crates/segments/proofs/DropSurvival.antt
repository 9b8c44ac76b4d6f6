-- What comes back of a log after a crash in a drop.
use Rattle.std.specs.Prelude.{◌≡◌, ◌≤◌, ◌++◌, ◌||◌, ℕ, Bool, true, false, if◌then◌else◌, List, [], ◌∷◌, length, nat_lt, Some, None, Option, IfSome}
use Rattle.std.proofs.Common.{ap, sym, ◌∙◌, refl, subst, inl, inr, arith}
use Rattle.std.proofs.lemmas.Bool.Decides.{nat_tests}
use Rattle.disk.specs.Disk.{Disk, Life}
use Rattle.crash.specs.Kept.{Through}
use Rattle.crash.specs.Moments.{through_start, through_then}
use Rattle.page.specs.Page.{text}
use Rattle.paged.proofs.Owing.{through_both}
use Rattle.writer_state.specs.WriterState.{WriterState}
use Rattle.writer_state.specs.Sound.{content}
use Rattle.journal.specs.Frame.{records}
use Rattle.journal.specs.Journal.{Commits, OnlyRecords, records_in}
use Rattle.journal.proofs.Journals.{brings_back}
use Rattle.segments.specs.declared.entry.Entry.TheVariants.{Starts}
use Rattle.segments.specs.Manifest.{ListingState, entry_bytes, entry_in, listed_in, listed_with, open_in}
use Rattle.segments.specs.Owned.{IsOwnedJournal, KeepsRecords, OwnedState, records_of}
use Rattle.segments.specs.Log.{IsLog, Lists, LogState, Tries, listing_from}
use Rattle.segments.specs.Crash.{DropSurvives, LogDropped, records_by}
use Rattle.segments.proofs.Listings.{listed_more}
use Rattle.segments.proofs.Rotating.{only_some}
use Rattle.segments.proofs.Surviving.{left_of}
use Rattle.segments.proofs.Turning.{two_cases}

started : (P segment : ℕ) (l m : ListingState) → listed_with P (Starts segment P) l ≡ Some m → m ≡ listing_from segment l
started P segment l m is = only_some ((nat_lt segment l.first || nat_lt (open_in l) segment) || nat_lt P P || nat_lt P P) (listing_from segment l) m is

-- and the segment is one of those that are listed
no_test : (b : Bool) (l m : ListingState) → (if b then None else Some l) ≡ Some m → b ≡ false
no_test true l m is = absurd (cc is)
no_test false l m is = refl

within : (P segment : ℕ) (l m : ListingState) → listed_with P (Starts segment P) l ≡ Some m → (l.first ≤ segment) × (segment ≤ open_in l)
within P segment l m is =
    let none = no_test ((nat_lt segment l.first || nat_lt (open_in l) segment) || nat_lt P P || nat_lt P P) (listing_from segment l) m is in
    let first : l.first ≤ segment = grind (arith, nat_tests, none) in
    let last : segment ≤ open_in l = grind (arith, nat_tests, none) in
    (first, last)

-- at one moment the entry is there, or it isn't
dropped_at : (sum own : List ℕ → ℕ) (P segment : ℕ) (l m : ListingState) (rs : List (List ℕ)) (told : List ℕ)
    → listed_in P rs ≡ Some l → listed_in P (rs ++ entry_bytes (Starts segment P) ∷ []) ≡ Some m → m ≡ listing_from segment l → (l.first ≤ segment) × (segment ≤ open_in l) → records own told ≡ rs
    → (e : Disk) → Commits sum own P told (length rs) e → OnlyRecords sum own P (rs ++ entry_bytes (Starts segment P) ∷ []) e
    → LogDropped sum own P l segment e
dropped_at sum own P segment l m rs told lists lists_more made listed has e commits only manifest image free held file =
    let back = records own (text sum P manifest) in
    let long = (brings_back sum own P e manifest image told (length rs) commits).0 in
    let first = only.only manifest image free in
    elim (two_cases rs (entry_bytes (Starts segment P)) back long first.0 first.1) [
      | inl same ↦ inl (ap (λ rs. records_by sum own P held file (listed_in P rs)) same ∙ ap (λ o. records_by sum own P held file o) lists)
      | inr same ↦ inr (
        listed.0,
        listed.1,
        ap (λ rs. records_by sum own P held file (listed_in P rs)) same ∙ ap (λ o. records_by sum own P held file o) lists_more
            ∙ ap (λ (m : ListingState). records_by sum own P held file (Some m)) made,
      )
    ]

drop_by : (sum own : List ℕ → ℕ) (P segment : ℕ) (l m : ListingState) (j : Option WriterState) (old new : Life)
    → entry_in (entry_bytes (Starts segment P)) ≡ Some (Starts segment P) → listed_with P (Starts segment P) l ≡ Some m
    → IfSome j (λ w. Lists sum own P l w old)
    → IfSome j (λ w. KeepsRecords sum own P (records_of own j old ++ entry_bytes (Starts segment P) ∷ []) old new)
    → IfSome j (λ w. Through (LogDropped sum own P l segment) old new)
drop_by sum own P segment l m None old new told follows lists keeps = tt
drop_by sum own P segment l m (Some w) old new told follows lists keeps =
    let rs = records_in own w old in
    let held = content w old.present.readable in
    let entry = entry_bytes (Starts segment P) in
    through_then (λ e. Commits sum own P held (length rs) e × OnlyRecords sum own P (rs ++ entry ∷ []) e) (LogDropped sum own P l segment) old new
    (λ e both. dropped_at sum own P segment l m rs held lists.told (listed_more P rs entry (Starts segment P) l m lists.told told follows) (started P segment l m follows) (within P segment l m follows) refl e both.0 both.1)
    (through_both (Commits sum own P held (length rs)) (OnlyRecords sum own P (rs ++ entry ∷ [])) old new (keeps.kept held (length rs) lists.committed) keeps.only)

still_by : (sum own : List ℕ → ℕ) (segment : ℕ) (s : LogState) (j : Option WriterState) → s.manifest.page_size ≡ s.page_size
    → IfSome j (λ m. IsOwnedJournal sum own s.manifest m) → IfSome j (λ m. Lists sum own s.page_size s.listing m s.manifest.life)
    → IfSome j (λ m. Through (LogDropped sum own s.page_size s.listing segment) s.manifest.life s.manifest.life)
still_by sum own segment s None pages owned lists = tt
still_by sum own segment s (Some m) pages owned lists =
    through_start (LogDropped sum own s.page_size s.listing segment) s.manifest.life
    (λ manifest image free held file. inl (left_of sum own held file s m pages owned lists manifest image))

-- the manifest wasn't touched
pub drop_still : (sum own : List ℕ → ℕ) (segment : ℕ) (s t : LogState) → IsLog sum own s → t.manifest ≡ s.manifest → DropSurvives sum own segment s t
drop_still sum own segment s t log same =
    subst (λ (o : OwnedState). IfSome s.manifest.journal (λ m. Through (LogDropped sum own s.page_size s.listing segment) s.manifest.life o.life)) (sym same)
    (still_by sum own segment s s.manifest.journal log.manifest_pages log.manifest.1 log.lists)

-- the manifest got the entry, or wasn't touched
pub drop_tries : (sum own : List ℕ → ℕ) (segment : ℕ) (s m t : LogState) → IsLog sum own s → Tries sum own (Starts segment s.page_size) s m → t.manifest ≡ m.manifest
    → DropSurvives sum own segment s t
drop_tries sum own segment s m t log tries same = elim tries [
  | inl none ↦ drop_still sum own segment s t log (same ∙ none)
  | inr tried ↦
      subst (λ (o : OwnedState). IfSome s.manifest.journal (λ w. Through (LogDropped sum own s.page_size s.listing segment) s.manifest.life o.life)) (sym same)
      (drop_by sum own s.page_size segment s.listing tried.listing s.manifest.journal s.manifest.life m.manifest.life tried.told tried.follows log.lists tried.keeps)
]
