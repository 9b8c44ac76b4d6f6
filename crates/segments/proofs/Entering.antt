-- An entry that is added to a manifest.
use Rattle.std.specs.Prelude.{◌≡◌, ◌+◌, ◌++◌, ℕ, List, [], ◌∷◌, length, Some, None, Option, IfSome, Ok, Err}
use Rattle.std.proofs.Common.{ap, sym, ◌∙◌, refl, subst, inr}
use Rattle.disk.specs.Disk.{Life}
use Rattle.crash.specs.Moments.{through_start}
use Rattle.writer_state.specs.WriterState.{WriterState}
use Rattle.journal.specs.Journal.{Commits, records_in}
use Rattle.journal.proofs.Journals.{between_of, leaves_still}
use Rattle.segments.specs.declared.entry.Entry.{Entry}
use Rattle.segments.specs.declared.error.Error.{Error}
use Rattle.segments.specs.declared.error.Error.TheVariants as errors
use Rattle.segments.specs.Manifest.{ListingState, entry_in, listed_in, listed_with}
use Rattle.segments.specs.Owned.{HasJournal, IsAdded, IsOwned, IsOwnedJournal, KeepsJournal, KeepsRecords, OwnedAddGoes, OwnedAddKeeps, OwnedState, owned_size, records_now, records_of}
use Rattle.segments.specs.Log.{EnterRefused, HasKept, IsEntered, IsLog, IsNotEntered, Lists, LogState, Tries, entered_bytes, known_with}
use Rattle.segments.proofs.Listings.{listed_more}

lists_by : (sum own : List ℕ → ℕ) (P : ℕ) (entry : Entry) (bytes : List ℕ) (l m : ListingState) (j k : Option WriterState) (old new : Life)
    → entry_in bytes ≡ Some entry → listed_with P entry l ≡ Some m → IfSome j (λ w. Lists sum own P l w old)
    → KeepsJournal j k (λ w now. IsAdded sum own P bytes w old now new)
    → IfSome k (λ w. Lists sum own P m w new)
lists_by sum own P entry bytes l m None k old new told with lists is = absurd is
lists_by sum own P entry bytes l m (Some w) None old new told with lists is = tt
lists_by sum own P entry bytes l m (Some w) (Some now) old new told with lists is = record {
  told = ap (λ rs. listed_in P rs) is.records ∙ listed_more P (records_in own w old) bytes entry l m lists.told told with;
  committed = is.committed;
  durable = is.durable;
}

lists_if : (sum own : List ℕ → ℕ) (P : ℕ) (m : ListingState) (k : Option WriterState) (new : Life) → k ≡ None → IfSome k (λ w. Lists sum own P m w new)
lists_if sum own P m k new none = subst (λ (k : Option WriterState). IfSome k (λ w. Lists sum own P m w new)) (sym none) tt

-- an append and a commit that failed leave no journal
no_journal : (sum own : List ℕ → ℕ) (bytes : List ℕ) (s t : OwnedState) (e : Error) → OwnedAddGoes sum own bytes s t (Err e) → t.journal ≡ None
no_journal sum own bytes s t (errors.Layer e) is = none_of s.journal t.journal is where
  none_of : (j k : Option WriterState) → HasJournal j (λ w. k ≡ None) → k ≡ None
  none_of None k is = absurd is
  none_of (Some w) k is = is
no_journal sum own bytes s t errors.Closed is = ap (λ (o : OwnedState). o.journal) is.1 ∙ is.0
no_journal sum own bytes s t (errors.System e) is = absurd is
no_journal sum own bytes s t (errors.Unsynced e) is = absurd is
no_journal sum own bytes s t (errors.Damaged n) is = absurd is
no_journal sum own bytes s t (errors.Unlisted n) is = absurd is
no_journal sum own bytes s t (errors.Missing n) is = absurd is
no_journal sum own bytes s t (errors.Short n) is = absurd is
no_journal sum own bytes s t (errors.AnotherDigest n) is = absurd is
no_journal sum own bytes s t (errors.Outdated n) is = absurd is
no_journal sum own bytes s t errors.Manifest is = absurd is
no_journal sum own bytes s t (errors.NoSegment n) is = absurd is
no_journal sum own bytes s t errors.NumbersExhausted is = absurd is
no_journal sum own bytes s t (errors.NoFrame its byte) is = absurd is
no_journal sum own bytes s t (errors.Unmarked n) is = absurd is

-- the log stands with an entry more
pub enter_ready : (sum own : List ℕ → ℕ) (entry : Entry) (bytes : List ℕ) (s : LogState) (m : ListingState) (manifest : OwnedState) (known : ℕ) (u : Unit {0})
    → IsLog sum own s → IsOwned sum own manifest → manifest.page_size ≡ s.manifest.page_size
    → entry_in bytes ≡ Some entry → listed_with s.page_size entry s.listing ≡ Some m
    → OwnedAddGoes sum own bytes s.manifest manifest (Ok u) → IsLog sum own (record s { manifest = manifest; listing = m; known = known })
enter_ready sum own entry bytes s m manifest known u log owned pages told with is = record {
  manifest = owned;
  current = log.current;
  manifest_pages = pages ∙ log.manifest_pages;
  current_pages = log.current_pages;
  lists = subst (λ P. IfSome manifest.journal (λ w. Lists sum own P m w manifest.life)) log.manifest_pages
      (lists_by sum own s.manifest.page_size entry bytes s.listing m s.manifest.journal manifest.journal s.manifest.life manifest.life told
      (subst (λ P. listed_with P entry s.listing ≡ Some m) (sym log.manifest_pages) with)
      (subst (λ P. IfSome s.manifest.journal (λ w. Lists sum own P s.listing w s.manifest.life)) (sym log.manifest_pages) log.lists) is);
  reading = log.reading;
}

-- the log stands without it, and its manifest has no journal
pub enter_failed : (sum own : List ℕ → ℕ) (bytes : List ℕ) (s : LogState) (manifest : OwnedState) (e : Error)
    → IsLog sum own s → IsOwned sum own manifest → manifest.page_size ≡ s.manifest.page_size
    → OwnedAddGoes sum own bytes s.manifest manifest (Err e) → IsLog sum own (record s { manifest = manifest })
enter_failed sum own bytes s manifest e log owned pages is = record {
  manifest = owned;
  current = log.current;
  manifest_pages = pages ∙ log.manifest_pages;
  current_pages = log.current_pages;
  lists = lists_if sum own s.page_size s.listing manifest.journal manifest.life (no_journal sum own bytes s.manifest manifest e is);
  reading = log.reading;
}

refused_by : (sum own : List ℕ → ℕ) (entry : Entry) (bytes : List ℕ) (s : LogState) (manifest : OwnedState) (e : Error) → OwnedAddGoes sum own bytes s.manifest manifest (Err e) → EnterRefused entry s e
refused_by sum own entry bytes s manifest (errors.Layer e) is = tt
refused_by sum own entry bytes s manifest errors.Closed is = is.0
refused_by sum own entry bytes s manifest (errors.System e) is = absurd is
refused_by sum own entry bytes s manifest (errors.Unsynced e) is = absurd is
refused_by sum own entry bytes s manifest (errors.Damaged n) is = absurd is
refused_by sum own entry bytes s manifest (errors.Unlisted n) is = absurd is
refused_by sum own entry bytes s manifest (errors.Missing n) is = absurd is
refused_by sum own entry bytes s manifest (errors.Short n) is = absurd is
refused_by sum own entry bytes s manifest (errors.AnotherDigest n) is = absurd is
refused_by sum own entry bytes s manifest (errors.Outdated n) is = absurd is
refused_by sum own entry bytes s manifest errors.Manifest is = absurd is
refused_by sum own entry bytes s manifest (errors.NoSegment n) is = absurd is
refused_by sum own entry bytes s manifest errors.NumbersExhausted is = absurd is
refused_by sum own entry bytes s manifest (errors.NoFrame its byte) is = absurd is
refused_by sum own entry bytes s manifest (errors.Unmarked n) is = absurd is

-- the entry is refused where the manifest's call failed
pub not_entered : (sum own : List ℕ → ℕ) (entry : Entry) (bytes : List ℕ) (view s : LogState) (manifest : OwnedState) (e : Error) → view ≡ s
    → OwnedAddGoes sum own bytes view.manifest manifest (Err e) → IsNotEntered entry s (record view { manifest = manifest }) e
not_entered sum own entry bytes view s manifest e same is =
    subst (λ (s : LogState). IsNotEntered entry s (record view { manifest = manifest }) e) same (record {
      listing = refl;
      asked = refl;
      known = refl;
      left = inr (no_journal sum own bytes view.manifest manifest e is);
      refused = refused_by sum own entry bytes view manifest e is;
    })

keeps_none : (sum own : List ℕ → ℕ) (P : ℕ) (s : OwnedState) (more : List (List ℕ)) (j : Option WriterState) → IfSome j (λ w. IsOwnedJournal sum own s w) → s.page_size ≡ P
    → IfSome j (λ w. KeepsRecords sum own P (records_of own j s.life ++ more) s.life s.life)
keeps_none sum own P s more None owned page = tt
keeps_none sum own P s more (Some w) owned page =
    subst (λ P. KeepsRecords sum own P (records_in own w s.life ++ more) s.life s.life) (owned.page_size ∙ page) (record {
      kept = λ held n commits. through_start (Commits sum own w.page_size held n) s.life commits;
      only = leaves_still sum own w (records_in own w s.life ++ more) s.life (between_of sum w s.cache s.life owned.journal).only (more, refl);
    })

-- where nothing was done, all is kept
pub keeps_still : (sum own : List ℕ → ℕ) (P : ℕ) (s : OwnedState) (more : List (List ℕ)) → IsOwned sum own s → s.page_size ≡ P
    → IfSome s.journal (λ w. KeepsRecords sum own P (records_now own s ++ more) s.life s.life)
keeps_still sum own P s more owned page = keeps_none sum own P s more s.journal owned.1 page

added_keeps : (sum own : List ℕ → ℕ) (P : ℕ) (bytes : List ℕ) (j : Option WriterState) (old new : Life)
    → IfSome j (λ w. KeepsRecords sum own P (records_in own w old ++ bytes ∷ []) old new)
    → IfSome j (λ w. KeepsRecords sum own P (records_of own j old ++ bytes ∷ []) old new)
added_keeps sum own P bytes None old new keeps = tt
added_keeps sum own P bytes (Some w) old new keeps = keeps

pub entered_keeps : (sum own : List ℕ → ℕ) (P : ℕ) (bytes these : List ℕ) (s t : OwnedState) → s.page_size ≡ P → bytes ≡ these
    → IfSome s.journal (λ w. KeepsRecords sum own s.page_size (records_in own w s.life ++ bytes ∷ []) s.life t.life)
    → IfSome s.journal (λ w. KeepsRecords sum own P (records_now own s ++ these ∷ []) s.life t.life)
entered_keeps sum own P bytes these s t page same keeps =
    subst (λ these. IfSome s.journal (λ w. KeepsRecords sum own P (records_now own s ++ these ∷ []) s.life t.life)) same
    (subst (λ P. IfSome s.journal (λ w. KeepsRecords sum own P (records_now own s ++ bytes ∷ []) s.life t.life)) page
    (added_keeps sum own s.page_size bytes s.journal s.life t.life keeps))

-- an entry that was asked for
pub entry_tried : (sum own : List ℕ → ℕ) (entry : Entry) (bytes : List ℕ) (view s t : LogState) (m : ListingState) (manifest : OwnedState) → t.manifest ≡ manifest → view ≡ s → bytes ≡ entered_bytes entry view
    → entry_in bytes ≡ Some entry → listed_with view.page_size entry view.listing ≡ Some m → view.manifest.page_size ≡ view.page_size
    → OwnedAddKeeps sum own bytes view.manifest manifest → Tries sum own entry s t
entry_tried sum own entry bytes view s t m manifest now is same told follows pages keeps = subst (λ s. Tries sum own entry s t) is (inr (record {
  listing = m;
  told = subst (λ bytes. entry_in bytes ≡ Some entry) same told;
  follows = follows;
  keeps = entered_keeps sum own view.page_size bytes (entered_bytes entry view) view.manifest t.manifest pages same
      (subst (λ (o : OwnedState). OwnedAddKeeps sum own bytes view.manifest o) (sym now) keeps);
}))

-- ---- an entry that was added

added_there : (P : WriterState → WriterState → Type 0) (j k : Option WriterState) → KeepsJournal j k P → HasJournal k (λ w. Unit {0})
added_there P None k is = absurd is
added_there P (Some w) None is = absurd is
added_there P (Some w) (Some now) is = tt

added_records : (sum own : List ℕ → ℕ) (P : ℕ) (bytes : List ℕ) (j k : Option WriterState) (old new : Life) → KeepsJournal j k (λ w now. IsAdded sum own P bytes w old now new)
    → records_of own k new ≡ records_of own j old ++ bytes ∷ []
added_records sum own P bytes None k old new is = absurd is
added_records sum own P bytes (Some w) None old new is = absurd is
added_records sum own P bytes (Some w) (Some now) old new is = is.records

added_size : (sum own : List ℕ → ℕ) (P : ℕ) (bytes : List ℕ) (j k : Option WriterState) (old new : Life) → KeepsJournal j k (λ w now. IsAdded sum own P bytes w old now new)
    → owned_size k ≡ owned_size j + (length bytes + 7)
added_size sum own P bytes None k old new is = absurd is
added_size sum own P bytes (Some w) None old new is = absurd is
added_size sum own P bytes (Some w) (Some now) old new is = is.size

-- and then a copy of the manifest was to be kept
pub entered_goes : (sum own : List ℕ → ℕ) (entry : Entry) (bytes : List ℕ) (view s t : LogState) (l : ListingState) (manifest : OwnedState) (known : ℕ) → view ≡ s → bytes ≡ entered_bytes entry view
    → listed_with view.page_size entry view.listing ≡ Some l → OwnedAddGoes sum own bytes view.manifest manifest (Ok tt) → known ≡ known_with entry view.known
    → HasKept (record view { manifest = manifest; listing = l; known = known }) t → IsEntered own entry s t
entered_goes sum own entry bytes view s t l manifest known is same follows goes counts has =
    let now : t.manifest ≡ manifest = ap (λ (t : LogState). t.manifest) has.rest in
    let P = view.manifest.page_size in
    let j = view.manifest.journal in
    let k = manifest.journal in
    subst (λ s. IsEntered own entry s t) is (record {
      listing = follows ∙ ap (λ (l : ListingState). Some l) (sym (ap (λ (t : LogState). t.listing) has.rest));
      there = subst (λ (o : OwnedState). HasJournal o.journal (λ w. Unit {0})) (sym now) (added_there _ j k goes);
      records = ap (λ (o : OwnedState). records_now own o) now ∙ added_records sum own P bytes j k view.manifest.life manifest.life goes
          ∙ ap (λ (b : List ℕ). records_now own view.manifest ++ b ∷ []) same;
      size = ap (λ (o : OwnedState). owned_size o.journal) now ∙ added_size sum own P bytes j k view.manifest.life manifest.life goes
          ∙ ap (λ (b : List ℕ). owned_size j + (length b + 7)) same;
      known = ap (λ (t : LogState). t.known) has.rest ∙ counts;
      kept = has.kept;
    })
