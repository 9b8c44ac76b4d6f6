-- Reads, one after another.
use Rattle.std.specs.Prelude.{◌≡◌, ◌⊎◌, ℕ, List, [], Some, None, Option, IfSome}
use Rattle.std.proofs.Common.{ap, sym, ◌∙◌, subst, inl, inr, refl, append-nil}
use Rattle.disk.specs.Disk.{Disk, Life}
use Rattle.cache.specs.CacheState.{CacheState}
use Rattle.cache.specs.Pages.{IsFresh}
use Rattle.crash.specs.Looks.{Looked, looked_joins, looked_start}
use Rattle.crash.specs.Moments.{through_end, through_joins, through_start}
use Rattle.writer_state.specs.WriterState.{WriterState}
use Rattle.writer_state.specs.Sound.{content}
use Rattle.journal.specs.Frame.{records}
use Rattle.journal.specs.Journal.{Commits, OnlyRecords, records_in}
use Rattle.journal.specs.Calls.{JournalCallLeaves, RecordReadLeaves}
use Rattle.journal.proofs.Journals.{between_of, leaves_still}
use Rattle.segments.specs.Owned.{IsOwned, IsOwnedJournal, OwnedReadLeaves, OwnedState, content_of}
use Rattle.segments.specs.Log.{IsSameButCurrent, LeavesReading, LogState}

-- two calls of a journal, as one
call_joins : (sum own : List ℕ → ℕ) (w : WriterState) (all : List (List ℕ)) (cache mid after : CacheState) (old half new : Life)
    → JournalCallLeaves sum own w all cache mid old half → JournalCallLeaves sum own w all mid after half new → JournalCallLeaves sum own w all cache after old new
call_joins sum own w all cache mid after old half new first second = record {
  fresh = second.fresh;
  readers = λ r below reader.
      let one = first.readers r below reader in
      let two = second.readers r below one.reader in
      record { reader = two.reader; holds = two.holds ∙ one.holds };
  others = λ sum other life apart is. second.others sum other life apart (first.others sum other life apart is);
  their_readers = λ sum r life apart is. second.their_readers sum r life apart (first.their_readers sum r life apart is);
  kept = λ held n commits. through_joins (Commits sum own w.page_size held n) old half new (first.kept held n commits)
      (second.kept held n (through_end (Commits sum own w.page_size held n) old half (first.kept held n commits)));
  only = through_joins (OnlyRecords sum own w.page_size all) old half new first.only second.only;
}

-- a read leaves the bytes
pub looked_bytes : (old new : Life) → Looked old new → new.present.readable ≡ old.present.readable
looked_bytes old new looked = ap (λ (d : Disk). d.readable) looked.same

read_joins : (sum own : List ℕ → ℕ) (w : WriterState) (cache mid after : CacheState) (old half new : Life)
    → RecordReadLeaves sum own w cache mid old half → RecordReadLeaves sum own w mid after half new → RecordReadLeaves sum own w cache after old new
read_joins sum own w cache mid after old half new first second = record {
  looked = looked_joins old half new first.looked second.looked;
  call = call_joins sum own w (records_in own w old) cache mid after old half new first.call
      (subst (λ (bytes : List ℕ). JournalCallLeaves sum own w (records own (content w bytes)) mid after half new) (looked_bytes old half first.looked) second.call);
}

start_by : (sum own : List ℕ → ℕ) (s : OwnedState) (j : Option WriterState) → IsFresh s.cache → IfSome j (λ w. IsOwnedJournal sum own s w) → IfSome j (λ w. RecordReadLeaves sum own w s.cache s.cache s.life s.life)
start_by sum own s None fresh owned = tt
start_by sum own s (Some w) fresh owned = record {
  looked = looked_start s.life;
  call = record {
    fresh = fresh;
    readers = λ r below reader. record { reader = reader; holds = refl };
    others = λ sum other life apart is. is;
    their_readers = λ sum r life apart is. is;
    kept = λ held n commits. through_start (Commits sum own w.page_size held n) s.life commits;
    only = leaves_still sum own w (records_in own w s.life) s.life (between_of sum w s.cache s.life owned.journal).only ([], sym (append-nil (records_in own w s.life)));
  };
}

-- before any read
pub reads_start : (sum own : List ℕ → ℕ) (s : OwnedState) → IsOwned sum own s → OwnedReadLeaves sum own s s
reads_start sum own s owned = record { journal = refl; page_size = refl; records = refl; call = start_by sum own s s.journal owned.0 owned.1 }

reads_by : (sum own : List ℕ → ℕ) (j : Option WriterState) (cache mid after : CacheState) (old half new : Life)
    → IfSome j (λ w. RecordReadLeaves sum own w cache mid old half) → IfSome j (λ w. RecordReadLeaves sum own w mid after half new)
    → IfSome j (λ w. RecordReadLeaves sum own w cache after old new)
reads_by sum own None cache mid after old half new first second = tt
reads_by sum own (Some w) cache mid after old half new first second = read_joins sum own w cache mid after old half new first second

pub owned_joins : (sum own : List ℕ → ℕ) (s m t : OwnedState) → OwnedReadLeaves sum own s m → OwnedReadLeaves sum own m t → OwnedReadLeaves sum own s t
owned_joins sum own s m t first second = record {
  journal = second.journal ∙ first.journal;
  page_size = second.page_size ∙ first.page_size;
  records = second.records ∙ first.records;
  call = reads_by sum own s.journal s.cache m.cache t.cache s.life m.life t.life first.call
      (subst (λ j. IfSome j (λ w. RecordReadLeaves sum own w m.cache t.cache m.life t.life)) first.journal second.call);
}

pub leaves_joins : (sum own : List ℕ → ℕ) (s m t : LogState) → LeavesReading sum own s m → LeavesReading sum own m t → LeavesReading sum own s t
leaves_joins sum own s m t first second = record {
  manifest = second.manifest ∙ first.manifest;
  listing = second.listing ∙ first.listing;
  asked = second.asked ∙ first.asked;
  page_size = second.page_size ∙ first.page_size;
  most = second.most ∙ first.most;
  known = second.known ∙ first.known;
  current = elim (first.current) [
    | inl same ↦ subst (λ o. (t.current ≡ o) ⊎ OwnedReadLeaves sum own o t.current) same second.current
    | inr one ↦ elim (second.current) [
      | inl same ↦ inr (subst (λ o. OwnedReadLeaves sum own s.current o) (sym same) one)
      | inr two ↦ inr (owned_joins sum own s.current m.current t.current one two)
    ]
  ];
  holds = second.holds ∙ first.holds;
  journal = second.journal ∙ first.journal;
}

-- what no read leaves
pub leaves_start : (sum own : List ℕ → ℕ) (s : LogState) → LeavesReading sum own s s
leaves_start sum own s = record {
  manifest = refl;
  listing = refl;
  asked = refl;
  page_size = refl;
  most = refl;
  known = refl;
  current = inl refl;
  holds = refl;
  journal = refl;
}

-- a read of the open segment leaves its content
pub content_by : (sum own : List ℕ → ℕ) (j : Option WriterState) (cache after : CacheState) (old new : Life)
    → IfSome j (λ w. RecordReadLeaves sum own w cache after old new) → content_of j new ≡ content_of j old
content_by sum own None cache after old new leaves = refl
content_by sum own (Some w) cache after old new leaves = ap (λ (bytes : List ℕ). content w bytes) (looked_bytes old new leaves.looked)

-- what a read of the open segment leaves of the log
pub leaves_current : (sum own : List ℕ → ℕ) (s t : LogState) → IsSameButCurrent s t → OwnedReadLeaves sum own s.current t.current → LeavesReading sum own s t
leaves_current sum own s t rest leaves = record {
  manifest = rest.manifest;
  listing = rest.listing;
  asked = rest.asked;
  page_size = rest.page_size;
  most = rest.most;
  known = rest.known;
  current = inr leaves;
  holds = ap (λ j. content_of j t.current.life) leaves.journal ∙ content_by sum own s.current.journal s.current.cache t.current.cache s.current.life t.current.life leaves.call;
  journal = leaves.journal;
}
