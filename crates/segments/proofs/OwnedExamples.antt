-- Each definition of a blob with a journal and a cache of its own: what it holds of, and what it
-- refuses. The journal has one record, "c", or none. That it is a journal between two calls is a
-- premise.
use Rattle.std.specs.Prelude.{◌≡◌, ◌≤◌, ◌+◌, ℕ, List, [], ◌∷◌, length, Some, None, Ok, Err}
use Rattle.std.proofs.Common.{refl, sym, ap, arith, ◌∙◌, lit≤}
use Rattle.disk.specs.Disk.{Life, Write, next}
use Rattle.disk.specs.declared.error.Error.TheVariants.{OutOfMemory}
use Rattle.disk.specs.declared.started_sync.StartedSync.TheVariants.{Named}
use Rattle.page.specs.Sums.{add_sum}
use Rattle.cache.specs.CacheState.{CacheState}
use Rattle.crash.specs.Moments.{through_end, through_start}
use Rattle.writer_state.specs.WriterState.{WriterState}
use Rattle.writer_state.specs.declared.sync_state.SyncState.TheVariants.{Clean, Pending}
use Rattle.paged_read.specs.Failures.{none_failed_start}
use Rattle.journal.specs.Calls.{JournalCallLeaves, JournalRecoverGoes, RecordReadLeaves}
use Rattle.journal.specs.Frame.{frames, is_record, record_len, record_of, records}
use Rattle.journal.specs.Journal.{Commits, CommitsAll, IsJournal, OnlyRecords}
use Rattle.segments.specs.declared.segment_digesting.SegmentLevels.{SegmentLevels}
use Rattle.segments.specs.declared.error.Error.TheVariants as errors
use Rattle.segments.specs.Owned.{HasJournal, IsAdded, IsOwned, IsOwnedJournal, IsShut, KeepsJournal, KeepsRecords, OwnedAddGoes, OwnedAddKeeps, OwnedAppendGoes, OwnedCommitGoes, OwnedKeeps, OwnedLeaves, OwnedReadGoes, OwnedReadLeaves, OwnedRecoverGoes, OwnedSealGoes, OwnedStartGoes, OwnedState, OwnedWaitGoes, content_now, content_of, owned_size, records_now, records_of, without_journal}
use Rattle.segments.proofs.BytesExamples.{bare_cache, bare_is_fresh, c, c_frame, c_is_lost, c_is_told, c_life, c_page, c_stays, changed_life, d, d_page, life_of, not_only, only_of, resting, rests, with_c, with_none, writer}

-- ---- what it has

pub its_records : records_now add_sum with_c ≡ c ∷ []
unfolding record_len is_record record_of frames records
its_records = refl

pub the_journals_records : records_of add_sum (Some (writer c_frame)) c_life ≡ c ∷ []
unfolding record_len is_record record_of frames records
the_journals_records = refl

pub records_of_none : (own : List ℕ → ℕ) → records_of own None c_life ≡ []
records_of_none own = refl

pub its_content : content_now with_c ≡ c_frame
its_content = refl

pub the_journals_content : content_of (Some (writer c_frame)) c_life ≡ c_frame
the_journals_content = refl

pub content_of_none : content_of None c_life ≡ []
content_of_none = refl

pub its_size : owned_size (Some (writer c_frame)) ≡ 8
its_size = refl

pub size_of_none : owned_size None ≡ 0
size_of_none = refl

-- the journal is gone since a call failed; the blob and the count stay
abbrev closed : OwnedState
closed = record { cache = bare_cache; life = c_life; journal = None; page_size = 18; records = 1; digested = 0 }

pub it_was_closed : without_journal with_c ≡ closed
it_was_closed = refl

pub there_is_one : HasJournal with_c.journal (λ w. length w.tip ≡ 8)
there_is_one = refl

-- a closed one has no journal, whatever is asked of it
pub there_is_none : HasJournal closed.journal (λ w. Unit {0}) → ⊥
there_is_none is = is

pub it_stays_open : KeepsJournal with_none.journal with_c.journal (λ w now. length now.tip ≡ length w.tip + 8)
it_stays_open = refl

pub it_was_lost : KeepsJournal with_c.journal closed.journal (λ w now. Unit {0}) → ⊥
it_was_lost is = is

pub it_came_from_nowhere : KeepsJournal closed.journal with_c.journal (λ w now. Unit {0}) → ⊥
it_came_from_nowhere is = is

-- ---- between two calls

pub its_journal : IsJournal add_sum (writer c_frame) bare_cache c_life → IsOwnedJournal add_sum add_sum with_c (writer c_frame)
unfolding record_len is_record record_of frames records
its_journal is = record { journal = is; page_size = refl; counts = refl }

-- a journal of one record that is said to have two
abbrev miscounted : OwnedState
miscounted = record { cache = bare_cache; life = c_life; journal = Some (writer c_frame); page_size = 18; records = 2; digested = 0 }

pub another_count : IsOwnedJournal add_sum add_sum miscounted (writer c_frame) → ⊥
unfolding record_len is_record record_of frames records
another_count is = let same : ◌≡◌ {A = ℕ} 2 1 = is.counts in omega (arith, same)

pub it_is_one : IsJournal add_sum (writer c_frame) bare_cache c_life → IsOwned add_sum add_sum with_c
it_is_one is = (bare_is_fresh, its_journal is)

-- a closed one needs no journal
pub a_closed_one : (sum own : List ℕ → ℕ) → IsOwned sum own closed
a_closed_one sum own = (bare_is_fresh, tt)

pub it_is_miscounted : IsOwned add_sum add_sum miscounted → ⊥
it_is_miscounted is = another_count (is.1)

-- the cache holds a page of a blob that has no id yet
pub it_is_not_fresh : (sum own : List ℕ → ℕ) (page : List ℕ) → IsOwned sum own (record closed { cache = record bare_cache { pages = ((5, 0), page) ∷ [] } }) → ⊥
it_is_not_fresh sum own page is = let held : Some page ≡ None = is.0 (5, 0) (lit≤ tt) in absurd (cc held)

pub all_is_durable : IsShut add_sum add_sum 18 (c ∷ []) c_life
all_is_durable = record { durable = rests c_page; tells = c_is_told }

-- its bytes were written, and not synced
pub not_synced : (sum own : List ℕ → ℕ) (all : List (List ℕ))
    → IsShut sum own 18 all (record { present = record (resting c_page) { base = []; since = Write 0 c_page ∷ [] }; past = [] }) → ⊥
not_synced sum own all is = let none : Write 0 c_page ∷ [] ≡ [] = is.durable.since in absurd (cc none)

-- its bytes lack the second record
pub one_is_missing : IsShut add_sum add_sum 18 (c ∷ d ∷ []) c_life → ⊥
one_is_missing is = let same : c ∷ [] ≡ c ∷ d ∷ [] = sym c_is_told ∙ is.tells in omega (arith, ap length same)

pub nothing_was_done : KeepsRecords add_sum add_sum 18 (c ∷ []) c_life c_life
nothing_was_done = record { kept = λ content n commits. through_start (Commits add_sum add_sum 18 content n) c_life commits; only = c_stays }

pub another_record : KeepsRecords add_sum add_sum 18 (c ∷ []) c_life changed_life → ⊥
another_record keeps = c_is_lost keeps.only

-- ---- calls

pub an_append_to_a_closed_one : (sum own : List ℕ → ℕ) → OwnedAppendGoes sum own c closed closed (Err errors.Closed)
an_append_to_a_closed_one sum own = (refl, refl)

pub no_memory_for_an_append : (sum own : List ℕ → ℕ) → OwnedAppendGoes sum own c with_c closed (Err (errors.Layer OutOfMemory))
no_memory_for_an_append sum own = (refl, ([], refl, tt))

-- after an error of the layer there is no journal
pub open_after_an_error : (sum own : List ℕ → ℕ) → OwnedAppendGoes sum own c with_c with_c (Err (errors.Layer OutOfMemory)) → ⊥
open_after_an_error sum own is = absurd (cc (is.0))

-- the record begins where the content ended, at 8
pub at_another_offset : (sum own : List ℕ → ℕ) (now : WriterState) (life : Life) → OwnedAppendGoes sum own c with_c (record with_c { life = life; journal = Some now }) (Ok 9) → ⊥
at_another_offset sum own now life is = let same : ◌≡◌ {A = ℕ} 9 8 = is.at in omega (arith, same)

pub no_memory_for_a_commit : (sum own : List ℕ → ℕ) → OwnedCommitGoes sum own with_c closed (Err (errors.Layer OutOfMemory))
no_memory_for_a_commit sum own = (refl, ([], refl, tt))

-- what was committed is durable
pub it_was_not_synced : (sum own : List ℕ → ℕ)
    → OwnedCommitGoes sum own with_none (record with_c { life = next (life_of []) (record (resting c_page) { base = []; since = Write 0 c_page ∷ [] }) }) (Ok tt) → ⊥
it_was_not_synced sum own is = let none : Write 0 c_page ∷ [] ≡ [] = is.durable.since in absurd (cc none)

pub no_memory_for_a_start : (sum own : List ℕ → ℕ) → OwnedStartGoes sum own with_c closed (Err (errors.Layer OutOfMemory))
no_memory_for_a_start sum own = (refl, ([], refl, tt))

-- a sync was started, and the journal doesn't wait for it
pub it_does_not_wait : (sum own : List ℕ → ℕ) → OwnedStartGoes sum own with_c with_c (Ok (Named 0)) → ⊥
it_does_not_wait sum own is = let same : Clean ≡ Pending 0 = is.sync in absurd (cc same)

-- the journal waits for the sync that was started first
abbrev waiting : OwnedState
waiting = record { cache = bare_cache; life = c_life; journal = Some (record (writer c_frame) { sync = Pending 0 }); page_size = 18; records = 1; digested = 0 }

pub a_wait_of_a_closed_one : (sum own : List ℕ → ℕ) → OwnedWaitGoes sum own closed closed (Err errors.Closed)
a_wait_of_a_closed_one sum own = (refl, refl)

-- once it was waited for, the journal waits no more
pub it_waits_still : (sum own : List ℕ → ℕ) → OwnedWaitGoes sum own waiting waiting (Ok tt) → ⊥
it_waits_still sum own is = let same : Pending 0 ≡ Clean = ap (λ (w : WriterState). w.sync) is.state in absurd (cc same)

pub what_a_call_leaves : (sum own : List ℕ → ℕ) (all : List (List ℕ)) (after : CacheState) (new : Life) → JournalCallLeaves sum own (writer c_frame) all bare_cache after c_life new
    → OwnedLeaves sum own all with_c (record with_c { cache = after; life = new })
what_a_call_leaves sum own all after new leaves = leaves

pub a_call_changed_it : OwnedLeaves add_sum add_sum (c ∷ []) with_c (record with_c { life = changed_life }) → ⊥
a_call_changed_it leaves = c_is_lost leaves.only

pub none_at_the_end : (own : List ℕ → ℕ) → OwnedReadGoes own 8 with_c with_c (Ok None)
none_at_the_end own = (refl, (lit≤ tt, none_failed_start (resting c_page)))

-- a record stands at 0
pub none_at_the_start : (own : List ℕ → ℕ) → OwnedReadGoes own 0 with_c with_c (Ok None) → ⊥
none_at_the_start own is = let few : 8 ≤ 0 = is.1.0 in omega (arith, few)

pub what_a_read_leaves : (after : CacheState) (new : Life) → RecordReadLeaves add_sum add_sum (writer c_frame) bare_cache after c_life new
    → OwnedReadLeaves add_sum add_sum with_c (record with_c { cache = after; life = new })
what_a_read_leaves after new leaves = record { journal = refl; page_size = refl; records = refl; call = leaves }

-- a read doesn't change how many records there are
pub a_read_counted : (sum own : List ℕ → ℕ) → OwnedReadLeaves sum own with_c miscounted → ⊥
a_read_counted sum own is = let same : ◌≡◌ {A = ℕ} 2 1 = is.records in omega (arith, same)

pub a_refused_recovery : (sum own : List ℕ → ℕ) (capacity : ℕ) → JournalRecoverGoes sum own bare_cache bare_cache capacity c_life c_life (Err OutOfMemory)
    → OwnedRecoverGoes sum own capacity closed closed (Err OutOfMemory)
a_refused_recovery sum own capacity goes = (refl, goes)

pub open_after_a_refused_one : (sum own : List ℕ → ℕ) (capacity : ℕ) → OwnedRecoverGoes sum own capacity closed with_c (Err OutOfMemory) → ⊥
open_after_a_refused_one sum own capacity is = absurd (cc (is.0))

-- of the two records that it had, one is left
pub one_is_left : (digest : List ℕ → List ℕ) (levels : SegmentLevels) (w : WriterState) → records_of add_sum (Some w) c_life ≡ c ∷ d ∷ []
    → OwnedSealGoes digest add_sum add_sum (record with_c { journal = Some w }) closed (Ok levels) → ⊥
one_is_left digest levels w had is = let same : c ∷ [] ≡ c ∷ d ∷ [] = sym c_is_told ∙ is.0.tells ∙ had in omega (arith, ap length same)

pub it_keeps_all : OwnedKeeps add_sum add_sum with_c with_c
unfolding record_len is_record record_of frames records
it_keeps_all = nothing_was_done

pub it_keeps_none : OwnedKeeps add_sum add_sum with_c (record with_c { life = changed_life }) → ⊥
unfolding record_len is_record record_of frames records
it_keeps_none keeps = another_record keeps

pub it_was_added : CommitsAll add_sum add_sum 18 c_frame (resting c_page) → IsAdded add_sum add_sum 18 c (writer []) (life_of []) (writer c_frame) c_life
unfolding record_len is_record record_of frames records
it_was_added all = record { records = refl; size = refl; committed = all; durable = rests c_page }

-- the journal has no more records than before
pub it_was_not_added : IsAdded add_sum add_sum 18 d (writer c_frame) c_life (writer c_frame) c_life → ⊥
unfolding record_len is_record record_of frames records
it_was_not_added is = let same : c ∷ [] ≡ c ∷ d ∷ [] = is.records in omega (arith, ap length same)

pub it_goes : CommitsAll add_sum add_sum 18 c_frame (resting c_page) → OwnedAddGoes add_sum add_sum c with_none with_c (Ok tt)
it_goes all = it_was_added all

pub it_does_not_go : OwnedAddGoes add_sum add_sum d with_c with_c (Ok tt) → ⊥
it_does_not_go is = it_was_not_added is

-- an append and a commit that did nothing leave only the first of the records, and of the new one
pub it_may_come : OwnedAddKeeps add_sum add_sum c with_none with_none
unfolding record_len is_record record_of frames records
it_may_come = record {
  kept = λ content n commits. through_start (Commits add_sum add_sum 18 content n) (life_of []) commits;
  only = through_start (OnlyRecords add_sum add_sum 18 (c ∷ [])) (life_of []) (only_of [] (c ∷ []) (c ∷ [], refl));
}

-- not another record than the new one
pub another_one_came : OwnedAddKeeps add_sum add_sum c with_none (record with_none { life = next (life_of []) (resting d_page) }) → ⊥
unfolding record_len is_record record_of frames records
another_one_came keeps =
    not_only (through_end (OnlyRecords add_sum add_sum 18 (c ∷ [])) (life_of []) (next (life_of []) (resting d_page)) keeps.only)
