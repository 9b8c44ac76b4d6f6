-- A log that begins.
use Rattle.std.specs.Prelude.{◌≡◌, ◌-◌, ◌++◌, ℕ, List, [], ◌∷◌, drop, ◌==◌, max, Bool, true, false, if◌then◌else◌, Option, Some, None, Result, Ok, Err, IfOk, IfSome}
use Rattle.std.proofs.Common.{ap, sym, ◌∙◌, refl, subst, arith, append_assoc, eq-eqb, eqb-true, true≢false}
use Rattle.disk.specs.Disk.{Life}
use Rattle.page.specs.Page.{text}
use Rattle.writer_state.specs.WriterState.{WriterState}
use Rattle.journal.specs.Frame.{records}
use Rattle.journal.specs.Journal.{CommitsAll, OnlyRecords}
use Rattle.segments.specs.declared.error.Error.{Error}
use Rattle.segments.specs.declared.call.FolderCall.TheVariants as calls
use Rattle.segments.specs.FolderEvents.{FolderEvent, opening_with}
use Rattle.segments.specs.Manifest.{ListingState, listed_in, open_in}
use Rattle.segments.specs.Owned.{HasJournal, OwnedState, content_now, owned_size, records_now}
use Rattle.segments.specs.Log.{AreParts, HasKept, events_for, most_for, IsLog, IsStartedFrom, Lists, LogState, ReadingState, StartFromGoes, closed_records, listing_from, log_records}
use Rattle.segments.specs.PagedReads.{PagedSegmentState}
use Rattle.segments.specs.Crash.{AsksForLog, HasOpenedFiles, IsOpenedLog, records_by, records_left}
use Rattle.segments.proofs.Recents.{pages_none}

from_first : (first : ℕ) (l : ListingState) → first ≡ l.first → listing_from first l ≡ l
from_first first l is =
    ap (λ n. listing_from n l) is ∙ ap (λ n. record { first = l.first; closed = drop n l.closed }) (none l.first) where
      none : (n : ℕ) → n - n ≡ 0
      none n = omega arith

-- the records of an opened log are those that are left by its files' bytes
pub left_by : (sum own : List ℕ → ℕ) (manifest bytes : List ℕ) (s : LogState) → listed_in s.page_size (records own (text sum s.page_size manifest)) ≡ Some s.listing
    → records_now own s.current ≡ records own (text sum s.page_size bytes)
    → (held file : ℕ → List ℕ) → file (open_in s.listing) ≡ bytes → records_left sum own s.page_size held file manifest ≡ Some (log_records own held s)
left_by sum own manifest bytes s listed told held file same =
    let before = closed_records own held s.listing.first s.listing.closed in
    ap (λ o. records_by sum own s.page_size held file o) listed
    ∙ ap (λ b. Some (before ++ records own (text sum s.page_size b))) same
    ∙ ap (λ rs. Some (before ++ rs)) (sym told)

opened : (sum own : List ℕ → ℕ) (first : ℕ) (before : List FolderEvent) (s t : LogState) → HasOpenedFiles sum own before s.asked s → first ≡ s.listing.first → IsStartedFrom first s t
    → HasOpenedFiles sum own before s.asked t
opened sum own first before s t log is started =
    let same : t.listing ≡ s.listing = started.listing ∙ from_first first s.listing is in
    let pages = sym started.rest.page_size in
    let current = sym started.rest.current in
    let listed = ap (λ P. listed_in P (records own (text sum P log.manifest))) started.rest.page_size ∙ log.listed ∙ ap (λ (l : ListingState). Some l) (sym same) in
    let told = ap (λ (o : OwnedState). records_now own o) started.rest.current ∙ log.records ∙ ap (λ P. records own (text sum P log.bytes)) pages in
    record {
      manifest = log.manifest;
      bytes = log.bytes;
      asked = subst (λ l. AsksForLog log.manifest (open_in l) log.bytes before s.asked) (sym same) log.asked;
      listed = listed;
      left = left_by sum own log.manifest log.bytes t listed told;
      there = subst (λ (o : OwnedState). HasJournal o.journal (λ w. Unit {0})) current log.there;
      records = told;
      committed = subst (λ P. CommitsAll sum own P (content_now t.current) t.current.life.present) pages
          (subst (λ (o : OwnedState). CommitsAll sum own s.page_size (content_now o) o.life.present) current log.committed);
      only = subst (λ P. OnlyRecords sum own P (records_now own t.current) t.current.life.present) pages
          (subst (λ (o : OwnedState). OnlyRecords sum own s.page_size (records_now own o) o.life.present) current log.only);
      known = started.known ∙ log.known ∙ ap (λ (o : OwnedState). owned_size o.journal) current;
    }

pub begin_opened : (sum own : List ℕ → ℕ) (first : ℕ) (before : List FolderEvent) (view s t : LogState) (result : Result (Unit {0}) Error) → view ≡ s → HasOpenedFiles sum own before s.asked s
    → first ≡ view.listing.first → StartFromGoes first s t result → IfOk result (λ u. IsOpenedLog sum own before t)
begin_opened sum own first before view s t (Ok u) same log is started =
    record { calls = s.asked; files = opened sum own first before s t log (is ∙ ap (λ (l : LogState). l.listing.first) same) started; kept = started.kept }
begin_opened sum own first before view s t (Err e) same log is started = tt

-- a log over the manifest and the segment that were opened
pub parts_open : (sum own : List ℕ → ℕ) (P most known : ℕ) (before after : List FolderEvent) (manifest current : OwnedState) (l : ListingState) (reading : ReadingState) → AreParts sum own P manifest current l before after
    → known ≡ owned_size current.journal → HasOpenedFiles sum own before after
    (record { manifest = manifest; current = current; listing = l; asked = after; reading = reading; page_size = P; most = most; known = known })
parts_open sum own P most known before after manifest current l reading parts all =
    let s : LogState = record { manifest = manifest; current = current; listing = l; asked = after; reading = reading; page_size = P; most = most; known = known } in
    let first = opening_with calls.OpensManifest parts.lists.bytes in
    let events = events_for (open_in l) parts.stands.bytes in
    record {
      manifest = parts.lists.bytes;
      bytes = parts.stands.bytes;
      asked = parts.stands.asked ∙ ap (λ es. es ++ events) parts.lists.asked ∙ append_assoc before (first ∷ []) events;
      listed = parts.lists.told;
      left = left_by sum own parts.lists.bytes parts.stands.bytes s parts.lists.told parts.stands.told;
      there = parts.stands.there;
      records = parts.stands.told;
      committed = parts.stands.committed;
      only = parts.stands.only;
      known = all;
    }

same_files : (sum own : List ℕ → ℕ) (before calls asked : List FolderEvent) (s : LogState) → HasOpenedFiles sum own before calls s → HasOpenedFiles sum own before calls (record s { asked = asked })
same_files sum own before calls asked s files = record {
  manifest = files.manifest;
  bytes = files.bytes;
  asked = files.asked;
  listed = files.listed;
  left = files.left;
  there = files.there;
  records = files.records;
  committed = files.committed;
  only = files.only;
  known = files.known;
}

-- the log of a manifest that has entries, once a copy was to be kept
pub begin_kept : (sum own : List ℕ → ℕ) (before : List FolderEvent) (s t : LogState) → HasOpenedFiles sum own before s.asked s → HasKept s t → IsOpenedLog sum own before t
begin_kept sum own before s t files has =
    record { calls = s.asked; files = subst (λ t. HasOpenedFiles sum own before s.asked t) (sym has.rest) (same_files sum own before s.asked t.asked s files); kept = has.kept }

if_some : (sum own : List ℕ → ℕ) (P : ℕ) (l : ListingState) (j : Option WriterState) (life : Life) → HasJournal j (λ w. Lists sum own P l w life) → IfSome j (λ w. Lists sum own P l w life)
if_some sum own P l None life is = absurd is
if_some sum own P l (Some w) life is = is

-- it is a log
pub parts_log : (sum own : List ℕ → ℕ) (P most known : ℕ) (before after : List FolderEvent) (manifest current : OwnedState) (l : ListingState) (recent : List PagedSegmentState)
    → AreParts sum own P manifest current l before after → recent ≡ []
    → IsLog sum own (record { manifest = manifest; current = current; listing = l; asked = after; reading = record { whole = None; paged = recent }; page_size = P; most = most; known = known })
parts_log sum own P most known before after manifest current l recent parts none = record {
  manifest = parts.lists.owned;
  current = parts.stands.owned;
  manifest_pages = parts.lists.page_size;
  current_pages = parts.stands.page_size;
  lists = if_some sum own P l manifest.journal manifest.life parts.lists.lists;
  reading = record { whole = tt; paged = pages_none P recent none };
}

at_least : (n : ℕ) (b : Bool) → (n == 0) ≡ b → max n 1 ≡ (if b then 1 else n)
at_least n true is = let none : n ≡ 0 = eqb-true n 0 is in omega (arith, none)
at_least n false is = let some : n ≡ 0 → ⊥ = λ none. true≢false (sym (eq-eqb n 0 none) ∙ is) in omega (arith, some)

pub most_is : (n : ℕ) → max n 1 ≡ most_for n
most_is n = at_least n (n == 0) refl
