-- A record that is appended and committed.
use Rattle.std.specs.Prelude.{◌≡◌, ◌++◌, ℕ, List, [], ◌∷◌, length, Some, None, Option, IfSome, Result, Ok, Err}
use Rattle.std.proofs.Common.{ap, ◌∙◌, refl, subst, arith, length-append}
use Rattle.disk.specs.Disk.{Life}
use Rattle.cache.specs.CacheState.{CacheState}
use Rattle.crash.specs.Moments.{through_joins}
use Rattle.writer_state.specs.WriterState.{WriterState}
use Rattle.writer_state.specs.Sound.{content}
use Rattle.journal.specs.Frame.{frame, records}
use Rattle.journal.specs.Journal.{Commits, CommitsAll, IsAppended, IsCommitted, IsJournal, OnlyRecords, records_in}
use Rattle.journal.proofs.Frames.{length-frame}
use Rattle.journal.proofs.Journals.{between_of}
use Rattle.paged.specs.Reads.{size_of}
use Rattle.journal.specs.Calls.{JournalCallLeaves}
use Rattle.segments.proofs.Closing.{pages_of}
use Rattle.segments.specs.declared.error.Error.{Error}
use Rattle.segments.specs.declared.error.Error.TheVariants as errors
use Rattle.segments.specs.Owned.{HasJournal, IsAdded, IsOwned, IsOwnedJournal, KeepsJournal, KeepsRecords, OwnedAddGoes, OwnedAddKeeps, OwnedAppendGoes, OwnedCommitGoes, OwnedLeaves, OwnedState, records_now, records_of}

-- what is kept in one stretch of a life and in the next is kept in both
pub keeps_joins : (sum own : List ℕ → ℕ) (P : ℕ) (all : List (List ℕ)) (old mid new : Life)
    → KeepsRecords sum own P all old mid → KeepsRecords sum own P all mid new → KeepsRecords sum own P all old new
keeps_joins sum own P all old mid new first second = record {
  kept = λ held n commits. through_joins (Commits sum own P held n) old mid new (first.kept held n commits)
      (second.kept held n (Rattle.crash.specs.Moments.through_end (Commits sum own P held n) old mid (first.kept held n commits)));
  only = through_joins (OnlyRecords sum own P all) old mid new first.only second.only;
}

-- a writer's size is how many bytes its content has
sized : (sum : List ℕ → ℕ) (w : WriterState) (cache : CacheState) (life : Life) → IsJournal sum w cache life → size_of w ≡ length (content w life.present.readable)
sized sum w cache life journal = (between_of sum w cache life journal).size

added_by : (sum own : List ℕ → ℕ) (P : ℕ) (bytes : List ℕ) (w mid now : WriterState) (cache after later : CacheState) (old half new : Life) (offset : ℕ)
    → w.page_size ≡ P → IsJournal sum w cache old → IsAppended sum own w bytes after old half mid offset → IsCommitted sum own mid later half new now
    → IsAdded sum own P bytes w old now new
added_by sum own P bytes w mid now cache after later old half new offset page journal appended committed = record {
  records = ap (λ held. records own held) committed.holds ∙ appended.added;
  size =
      let before = sized sum w cache old journal in
      let after_it = sized sum now later new committed.journal in
      let grown = ap length committed.holds ∙ ap length appended.holds ∙ length-append (content w old.present.readable) (frame own bytes) in
      let framed = length-frame own bytes in
      omega (arith, before, after_it, grown, framed);
  committed = subst (λ P. CommitsAll sum own P (content now new.present.readable) new.present) (committed.same.page_size ∙ appended.same.page_size ∙ page) committed.all;
  durable = committed.durable;
}

goes_by : (sum own : List ℕ → ℕ) (P : ℕ) (bytes : List ℕ) (s : OwnedState) (j k l : Option WriterState) (after later : CacheState) (half new : Life) (offset : ℕ)
    → IfSome j (λ w. w.page_size ≡ P) → IfSome j (λ w. IsOwnedJournal sum own s w)
    → KeepsJournal j k (λ w mid. IsAppended sum own w bytes after s.life half mid offset) → KeepsJournal k l (λ mid now. IsCommitted sum own mid later half new now)
    → KeepsJournal j l (λ w now. IsAdded sum own P bytes w s.life now new)
goes_by sum own P bytes s None k l after later half new offset page owned is committed = absurd is
goes_by sum own P bytes s (Some w) None l after later half new offset page owned is committed = absurd is
goes_by sum own P bytes s (Some w) (Some mid) None after later half new offset page owned is committed = absurd committed
goes_by sum own P bytes s (Some w) (Some mid) (Some now) after later half new offset page owned is committed =
    added_by sum own P bytes w mid now s.cache after later s.life half new offset page owned.journal is committed

failed_by : (j k l : Option WriterState) (P : WriterState → WriterState → Type 0) (Q : WriterState → Type 0) → KeepsJournal j k P → HasJournal k (λ w. (l ≡ None) × Q w)
    → HasJournal j (λ w. l ≡ None)
failed_by None k l P Q is failed = absurd is
failed_by (Some w) None l P Q is failed = absurd is
failed_by (Some w) (Some mid) l P Q is failed = failed.0

none_kept : (j k : Option WriterState) (P : WriterState → WriterState → Type 0) → KeepsJournal j k P → k ≡ None → ⊥
none_kept j None P is none = not_kept j is where
  not_kept : (j : Option WriterState) → KeepsJournal j None P → ⊥
  not_kept None is = is
  not_kept (Some w) is = is
none_kept j (Some w) P is none = absurd (cc none)

-- an append, and then a commit, by its answer
pub add_goes : (sum own : List ℕ → ℕ) (bytes : List ℕ) (s m t : OwnedState) (offset : ℕ) (result : Result (Unit {0}) Error) → IsOwned sum own s
    → OwnedAppendGoes sum own bytes s m (Ok offset) → OwnedCommitGoes sum own m t result → OwnedAddGoes sum own bytes s t result
add_goes sum own bytes s m t offset (Ok u) owned is committed =
    goes_by sum own s.page_size bytes s s.journal m.journal t.journal m.cache t.cache m.life t.life offset (pages_of sum own s s.journal owned.1) owned.1 is committed
add_goes sum own bytes s m t offset (Err (errors.Layer e)) owned is failed = failed_by s.journal m.journal t.journal _ _ is failed
add_goes sum own bytes s m t offset (Err errors.Closed) owned is failed = absurd (none_kept s.journal m.journal _ is failed.0)
add_goes sum own bytes s m t offset (Err (errors.System e)) owned is failed = failed
add_goes sum own bytes s m t offset (Err (errors.Unsynced e)) owned is failed = failed
add_goes sum own bytes s m t offset (Err (errors.Damaged n)) owned is failed = failed
add_goes sum own bytes s m t offset (Err (errors.Unlisted n)) owned is failed = failed
add_goes sum own bytes s m t offset (Err (errors.Missing n)) owned is failed = failed
add_goes sum own bytes s m t offset (Err (errors.Short n)) owned is failed = failed
add_goes sum own bytes s m t offset (Err (errors.AnotherDigest n)) owned is failed = failed
add_goes sum own bytes s m t offset (Err (errors.Outdated n)) owned is failed = failed
add_goes sum own bytes s m t offset (Err errors.Manifest) owned is failed = failed
add_goes sum own bytes s m t offset (Err (errors.NoSegment n)) owned is failed = failed
add_goes sum own bytes s m t offset (Err errors.NumbersExhausted) owned is failed = failed
add_goes sum own bytes s m t offset (Err (errors.NoFrame its byte)) owned is failed = failed
add_goes sum own bytes s m t offset (Err (errors.Unmarked n)) owned is failed = failed

leaves_keep : (sum own : List ℕ → ℕ) (P : ℕ) (w : WriterState) (all these : List (List ℕ)) (cache after : CacheState) (old new : Life)
    → w.page_size ≡ P → all ≡ these → JournalCallLeaves sum own w all cache after old new → KeepsRecords sum own P these old new
leaves_keep sum own P w all these cache after old new page same leaves =
    subst (λ P. KeepsRecords sum own P these old new) page
    (subst (λ these. KeepsRecords sum own w.page_size these old new) same (record { kept = leaves.kept; only = leaves.only }))

add_by : (sum own : List ℕ → ℕ) (P : ℕ) (bytes : List ℕ) (j k : Option WriterState) (cache after later : CacheState) (old half new : Life) (offset : ℕ)
    → IfSome j (λ w. w.page_size ≡ P) → KeepsJournal j k (λ w now. IsAppended sum own w bytes after old half now offset)
    → IfSome j (λ w. JournalCallLeaves sum own w (records_of own j old ++ bytes ∷ []) cache after old half)
    → IfSome k (λ w. JournalCallLeaves sum own w (records_of own k half) after later half new)
    → IfSome j (λ w. KeepsRecords sum own P (records_in own w old ++ bytes ∷ []) old new)
add_by sum own P bytes None k cache after later old half new offset page is first second = tt
add_by sum own P bytes (Some w) None cache after later old half new offset page is first second = absurd is
add_by sum own P bytes (Some w) (Some now) cache after later old half new offset page is first second =
    let all = records_in own w old ++ bytes ∷ [] in
    keeps_joins sum own P all old half new (leaves_keep sum own P w all all cache after old half page refl first)
    (leaves_keep sum own P now (records_in own now half) all after later half new (is.same.page_size ∙ page) is.added second)

pub add_keeps : (sum own : List ℕ → ℕ) (bytes : List ℕ) (s m t : OwnedState) (offset : ℕ) → IsOwned sum own s → OwnedAppendGoes sum own bytes s m (Ok offset)
    → OwnedLeaves sum own (records_now own s ++ bytes ∷ []) s m → OwnedLeaves sum own (records_now own m) m t
    → OwnedAddKeeps sum own bytes s t
add_keeps sum own bytes s m t offset owned is first second =
    add_by sum own s.page_size bytes s.journal m.journal s.cache m.cache t.cache s.life m.life t.life offset (pages_of sum own s s.journal owned.1) is first second
