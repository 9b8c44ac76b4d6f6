-- A journal that is sealed: its records are committed, its content is digested, and it is closed.
use Rattle.std.specs.Prelude.{◌≡◌, ◌⊎◌, ℕ, List, length, Some, None, Option, IfSome, Result, Ok, Err}
use Rattle.std.specs.Result.{IsErrAnd}
use Rattle.std.proofs.Common.{ap, sym, ◌∙◌, subst, inl, inr}
use Rattle.disk.specs.Disk.{Disk, Life}
use Rattle.cache.specs.CacheState.{CacheState}
use Rattle.crash.specs.Looks.{Looked}
use Rattle.page.specs.Page.{text}
use Rattle.paged.specs.Recovery.{IsDurable}
use Rattle.writer_state.specs.WriterState.{WriterState}
use Rattle.journal.specs.Frame.{records}
use Rattle.journal.specs.Journal.{CommitGoes, IsCommitted, RecordReadRefused, records_in}
use Rattle.journal.specs.Calls.{JournalCallLeaves, RecordReadLeaves}
use Rattle.page_digests.specs.Seals.{TellsApart}
use Rattle.segments.specs.declared.closed.Closed.{Closed}
use Rattle.segments.specs.declared.closed.Fingerprint.TheVariants.{Paged}
use Rattle.segments.specs.declared.closed.PagedSeal.{PagedSeal}
use Rattle.segments.specs.declared.error.Error.{Error}
use Rattle.segments.specs.declared.error.Error.TheVariants as errors
use Rattle.segments.specs.declared.segment_digesting.SegmentLevels.{SegmentLevels}
use Rattle.segments.specs.SegmentLevels.{AreSegmentLevels}
use Rattle.segments.specs.Owned.{HasJournal, IsOwned, IsOwnedJournal, IsShut, IsUndigested, KeepsJournal, KeepsRecords, LevelsGo, OwnedCommitGoes, OwnedKeeps, OwnedLeaves, OwnedReadLeaves, OwnedSealGoes, OwnedState, content_now, content_of, owned_size, records_now, records_of, without_journal}
use Rattle.segments.specs.Log.{IsLog, IsClosedAs, LogState}
use Rattle.segments.proofs.Adding.{keeps_joins}
use Rattle.segments.proofs.Closing.{keeps_by, pages_of, shut_by}
use Rattle.segments.proofs.Digested.{size_now}
use Rattle.segments.proofs.Joining.{looked_bytes}
use Rattle.segments.proofs.Surviving.{image_of}

has_then : (P Q : WriterState → Type 0) (j : Option WriterState) → ((w : WriterState) → P w → Q w) → HasJournal j P → HasJournal j Q
has_then P Q None then is = is
has_then P Q (Some w) then is = then w is

-- ---- the commit failed

-- so nothing was digested
pub seal_refused : (d : List ℕ → List ℕ) (sum own : List ℕ → ℕ) (s t : OwnedState) (e : Error) (result : Result SegmentLevels Error) → IsErrAnd result (λ x. x ≡ e)
    → OwnedCommitGoes sum own s t (Err e) → OwnedSealGoes d sum own s t result
seal_refused d sum own s t e (Ok levels) is goes = absurd is
seal_refused d sum own s t e (Err x) is goes = refused x (subst (λ (y : Error). OwnedCommitGoes sum own s t (Err y)) (sym is) goes) where
  refused : (x : Error) → OwnedCommitGoes sum own s t (Err x) → OwnedSealGoes d sum own s t (Err x)
  refused (errors.Layer e) is = has_then _ _ s.journal (λ w is. inl is.1) is
  refused errors.Closed is = is
  refused (errors.System e) is = is
  refused (errors.Unsynced e) is = is
  refused (errors.Damaged n) is = is
  refused (errors.Unlisted n) is = is
  refused (errors.Missing n) is = is
  refused (errors.Short n) is = is
  refused (errors.AnotherDigest n) is = is
  refused (errors.Outdated n) is = is
  refused errors.Manifest is = is
  refused (errors.NoSegment n) is = is
  refused errors.NumbersExhausted is = is
  refused (errors.NoFrame its byte) is = is
  refused (errors.Unmarked n) is = is

none_of : (P : WriterState → Type 0) (j k : Option WriterState) → HasJournal j (λ w. (k ≡ None) × P w) → k ≡ None
none_of P None k is = absurd is
none_of P (Some w) k is = is.0

-- and there is no journal
pub seal_none : (sum own : List ℕ → ℕ) (s t : OwnedState) (e : Error) → OwnedCommitGoes sum own s t (Err e) → t.journal ≡ None
seal_none sum own s t (errors.Layer e) is = none_of _ s.journal t.journal is
seal_none sum own s t errors.Closed is = ap (λ (o : OwnedState). o.journal) is.1 ∙ is.0
seal_none sum own s t (errors.System e) is = absurd is
seal_none sum own s t (errors.Unsynced e) is = absurd is
seal_none sum own s t (errors.Damaged n) is = absurd is
seal_none sum own s t (errors.Unlisted n) is = absurd is
seal_none sum own s t (errors.Missing n) is = absurd is
seal_none sum own s t (errors.Short n) is = absurd is
seal_none sum own s t (errors.AnotherDigest n) is = absurd is
seal_none sum own s t (errors.Outdated n) is = absurd is
seal_none sum own s t errors.Manifest is = absurd is
seal_none sum own s t (errors.NoSegment n) is = absurd is
seal_none sum own s t errors.NumbersExhausted is = absurd is
seal_none sum own s t (errors.NoFrame its byte) is = absurd is
seal_none sum own s t (errors.Unmarked n) is = absurd is

-- ---- after the commit the content was read

seen_durable : (old new : Life) → Looked old new → IsDurable old.present → IsDurable new.present
seen_durable old new looked durable =
    subst (λ (x : Disk). IsDurable x) (sym looked.same) (record { since = durable.since; base = durable.base })

shut_seen : (sum own : List ℕ → ℕ) (P : ℕ) (all : List (List ℕ)) (old new : Life) → Looked old new → IsShut sum own P all old → IsShut sum own P all new
shut_seen sum own P all old new looked shut = record {
  durable = seen_durable old new looked shut.durable;
  tells = ap (λ (bytes : List ℕ). records own (text sum P bytes)) (looked_bytes old new looked) ∙ shut.tells;
}

shut_after : (sum own : List ℕ → ℕ) (P : ℕ) (j k : Option WriterState) (cache after later : CacheState) (old mid new : Life)
    → IfSome j (λ w. w.page_size ≡ P)
    → KeepsJournal j k (λ w now. IsCommitted sum own w after old mid now)
    → IfSome j (λ w. JournalCallLeaves sum own w (records_of own j old) cache after old mid)
    → IfSome k (λ now. RecordReadLeaves sum own now after later mid new)
    → HasJournal j (λ w. IsShut sum own P (records_in own w old) new)
shut_after sum own P None k cache after later old mid new page is leaves reads = is
shut_after sum own P (Some w) None cache after later old mid new page is leaves reads = absurd is
shut_after sum own P (Some w) (Some now) cache after later old mid new page is leaves reads =
    subst (λ P. IsShut sum own P (records_in own w old) new) page
    (shut_seen sum own w.page_size (records_in own w old) mid new reads.looked
    (shut_by sum own w now cache after old mid (image_of mid.present is.durable) is leaves))

-- all records were committed, and all is durable still
sealed_shut : (sum own : List ℕ → ℕ) (s m r : OwnedState) (u : Unit {0}) → IsOwned sum own s → OwnedLeaves sum own (records_now own s) s m → OwnedCommitGoes sum own s m (Ok u)
    → OwnedReadLeaves sum own m r → HasJournal s.journal (λ w. IsShut sum own s.page_size (records_in own w s.life) r.life)
sealed_shut sum own s m r u owned leaves is reads =
    shut_after sum own s.page_size s.journal m.journal s.cache m.cache r.cache s.life m.life r.life (pages_of sum own s s.journal owned.1) is leaves reads.call

held_by : (sum own : List ℕ → ℕ) (j k : Option WriterState) (after : CacheState) (old new : Life) → KeepsJournal j k (λ w now. IsCommitted sum own w after old new now)
    → content_of k new ≡ content_of j old
held_by sum own None k after old new is = absurd is
held_by sum own (Some w) None after old new is = absurd is
held_by sum own (Some w) (Some now) after old new is = is.holds

-- a commit leaves the content
pub content_committed : (sum own : List ℕ → ℕ) (s m : OwnedState) (u : Unit {0}) → OwnedCommitGoes sum own s m (Ok u) → content_now m ≡ content_now s
content_committed sum own s m u is = held_by sum own s.journal m.journal m.cache s.life m.life is

none_kept : (j k : Option WriterState) (P : WriterState → WriterState → Type 0) → KeepsJournal j k P → k ≡ None → ⊥
none_kept None k P is none = is
none_kept (Some w) k P is none = subst (λ (k : Option WriterState). HasJournal k (λ now. P w now)) none is

cause_of : (X : Type 0) (j : Option WriterState) → HasJournal j (λ w. X) → X
cause_of X None is = absurd is
cause_of X (Some w) is = is

pub seal_goes : (d : List ℕ → List ℕ) (sum own : List ℕ → ℕ) (s m r : OwnedState) (u : Unit {0}) (result : Result SegmentLevels Error)
    → IsOwned sum own s → OwnedLeaves sum own (records_now own s) s m → OwnedCommitGoes sum own s m (Ok u) → m.page_size ≡ s.page_size
    → OwnedReadLeaves sum own m r → LevelsGo d m r result → OwnedSealGoes d sum own s (without_journal r) result
seal_goes d sum own s m r u (Ok levels) owned leaves is pages reads goes =
    let held = content_committed sum own s m u is in (
      sealed_shut sum own s m r u owned leaves is reads,
      subst (λ (bytes : List ℕ). AreSegmentLevels d s.page_size bytes levels) held (subst (λ P. AreSegmentLevels d P (content_now m) levels) pages goes.1),
      subst (λ (bytes : List ℕ). TellsApart d s.page_size bytes levels.content.root) held (subst (λ P. TellsApart d P (content_now m) levels.content.root) pages goes.2),
    )
seal_goes d sum own s m r u (Err (errors.Layer e)) owned leaves is pages reads goes =
    let cause = cause_of ((mid : Life) × RecordReadRefused mid r.life e) m.journal goes in
    has_then (λ w. IsShut sum own s.page_size (records_in own w s.life) r.life)
    (λ w. CommitGoes sum own w r.cache s.life r.life (Err e) ⊎ IsUndigested sum own s.page_size w s.life r.life e) s.journal
    (λ w shut. inr (record { shut = shut; cause = cause })) (sealed_shut sum own s m r u owned leaves is reads)
seal_goes d sum own s m r u (Err errors.Closed) owned leaves is pages reads goes = absurd (none_kept s.journal m.journal _ is goes)
seal_goes d sum own s m r u (Err (errors.System e)) owned leaves is pages reads goes = goes
seal_goes d sum own s m r u (Err (errors.Unsynced e)) owned leaves is pages reads goes = goes
seal_goes d sum own s m r u (Err (errors.Damaged n)) owned leaves is pages reads goes = goes
seal_goes d sum own s m r u (Err (errors.Unlisted n)) owned leaves is pages reads goes = goes
seal_goes d sum own s m r u (Err (errors.Missing n)) owned leaves is pages reads goes = goes
seal_goes d sum own s m r u (Err (errors.Short n)) owned leaves is pages reads goes = goes
seal_goes d sum own s m r u (Err (errors.AnotherDigest n)) owned leaves is pages reads goes = goes
seal_goes d sum own s m r u (Err (errors.Outdated n)) owned leaves is pages reads goes = goes
seal_goes d sum own s m r u (Err errors.Manifest) owned leaves is pages reads goes = goes
seal_goes d sum own s m r u (Err (errors.NoSegment n)) owned leaves is pages reads goes = goes
seal_goes d sum own s m r u (Err errors.NumbersExhausted) owned leaves is pages reads goes = goes
seal_goes d sum own s m r u (Err (errors.NoFrame its byte)) owned leaves is pages reads goes = goes
seal_goes d sum own s m r u (Err (errors.Unmarked n)) owned leaves is pages reads goes = goes

-- ---- what is kept

its_records : (sum own : List ℕ → ℕ) (P : ℕ) (j : Option WriterState) (old new : Life)
    → IfSome j (λ w. KeepsRecords sum own P (records_of own j old) old new)
    → IfSome j (λ w. KeepsRecords sum own P (records_in own w old) old new)
its_records sum own P None old new keeps = keeps
its_records sum own P (Some w) old new keeps = keeps

-- what the commit kept
pub commit_keeps : (sum own : List ℕ → ℕ) (s m : OwnedState) → IsOwned sum own s → OwnedLeaves sum own (records_now own s) s m → OwnedKeeps sum own s m
commit_keeps sum own s m owned leaves =
    its_records sum own s.page_size s.journal s.life m.life
    (keeps_by sum own s.page_size s.journal (records_now own s) s.cache m.cache s.life m.life (pages_of sum own s s.journal owned.1) leaves)

keeps_after : (sum own : List ℕ → ℕ) (P : ℕ) (j k : Option WriterState) (after later : CacheState) (old mid new : Life)
    → IfSome j (λ w. w.page_size ≡ P)
    → KeepsJournal j k (λ w now. IsCommitted sum own w after old mid now)
    → IfSome k (λ now. RecordReadLeaves sum own now after later mid new)
    → IfSome j (λ w. KeepsRecords sum own P (records_in own w old) old mid)
    → IfSome j (λ w. KeepsRecords sum own P (records_in own w old) old new)
keeps_after sum own P None k after later old mid new page is reads first = tt
keeps_after sum own P (Some w) None after later old mid new page is reads first = absurd is
keeps_after sum own P (Some w) (Some now) after later old mid new page is reads first =
    let same : now.page_size ≡ P = is.same.page_size ∙ page in
    let all : records_in own now mid ≡ records_in own w old = ap (λ (bytes : List ℕ). records own bytes) is.holds in
    let second : KeepsRecords sum own P (records_in own w old) mid new =
    subst (λ P. KeepsRecords sum own P (records_in own w old) mid new) same
    (subst (λ (all : List (List ℕ)). KeepsRecords sum own now.page_size all mid new) all (record { kept = reads.call.kept; only = reads.call.only })) in
    keeps_joins sum own P (records_in own w old) old mid new first second

-- what the commit and the reads kept
pub seal_keeps : (sum own : List ℕ → ℕ) (s m r : OwnedState) (u : Unit {0}) → IsOwned sum own s → OwnedLeaves sum own (records_now own s) s m → OwnedCommitGoes sum own s m (Ok u)
    → OwnedReadLeaves sum own m r → OwnedKeeps sum own s (without_journal r)
seal_keeps sum own s m r u owned leaves is reads =
    keeps_after sum own s.page_size s.journal m.journal m.cache r.cache s.life m.life r.life (pages_of sum own s s.journal owned.1) is reads.call
    (commit_keeps sum own s m owned leaves)

-- ---- the open segment of a log

there_by : (P : WriterState → Type 0) (j : Option WriterState) → HasJournal j P → HasJournal j (λ w. Unit {0})
there_by P None is = is
there_by P (Some w) is = tt

all_by : (sum own : List ℕ → ℕ) (P : ℕ) (j : Option WriterState) (old new : Life) → HasJournal j (λ w. IsShut sum own P (records_in own w old) new)
    → IsShut sum own P (records_of own j old) new
all_by sum own P None old new is = absurd is
all_by sum own P (Some w) old new is = is

counted_by : (sum own : List ℕ → ℕ) (s : OwnedState) (j : Option WriterState) → HasJournal j (λ w. Unit {0}) → IfSome j (λ w. IsOwnedJournal sum own s w)
    → s.records ≡ length (records_of own j s.life)
counted_by sum own s None there owned = absurd there
counted_by sum own s (Some w) there owned = owned.counts

-- what is kept of a segment that was sealed, with the levels of its content
pub sealed_of : (sum own : List ℕ → ℕ) (d : List ℕ → List ℕ) (s t : LogState) (kept : Closed) (seal : PagedSeal) (levels : SegmentLevels) → IsLog sum own s
    → OwnedSealGoes d sum own s.current t.current (Ok levels) → kept.fingerprint ≡ Paged seal → kept.records ≡ s.current.records
    → seal.seal.len ≡ owned_size s.current.journal → seal.seal.root ≡ levels.content.root → seal.marks ≡ Some levels.marks.root
    → IsClosedAs sum own d s t.current.life kept levels
sealed_of sum own d s t kept seal levels log is by counts len root marks =
    let held = content_now s.current in
    let pages = log.current_pages in
    let there = there_by _ s.current.journal is.0 in
    let are : AreSegmentLevels d s.page_size held levels = subst (λ P. AreSegmentLevels d P held levels) pages is.1 in
    let apart : TellsApart d s.page_size held levels.content.root = subst (λ P. TellsApart d P held levels.content.root) pages is.2 in
    record {
      closed = record {
        was_open = there;
        shut = subst (λ P. IsShut sum own P (records_now own s.current) t.current.life) pages (all_by sum own s.current.page_size s.current.journal s.current.life t.current.life is.0);
        of = record {
          seal = seal;
          is = by;
          of = record { len = len ∙ size_now sum own s.current log.current; root = root ∙ are.of.root };
          apart = subst (λ (root : List ℕ). TellsApart d s.page_size held root) (sym root) apart;
          marks = marks ∙ ap Some (are.marks.root ∙ ap d are.marks.top);
        };
        counts = counts ∙ counted_by sum own s.current s.current.journal there log.current.1;
      };
      levels = are;
    }
