-- A blob in memory that can fail and crash: what its fields stand for, and how they fit together.
use Rattle.std.specs.Prelude.{◌≡◌, ◌≤◌, ◌<◌, ◌≢◌, ◌⊎◌, ℕ, ◌+◌, List, [], ◌∷◌}
use Rattle.std.specs.Prelude.{length, take, drop, reverse}
use Rattle.std.specs.List.{enumerate_from}
use Rattle.std.specs.Prelude.{Bool, true, false, Result, Ok, Err, if◌then◌else◌, ◌++◌, suc, zero}
use Rattle.std.specs.Prelude.{Option, Some, None, slice_get, max, map}
use Rattle.disk.specs.Disk.{Entry, Started, Delivers, IsWithin, bytes_of, failures, had_failed}
use Rattle.disk.specs.declared.action.Event.{Event}
use Rattle.disk.specs.declared.action.Call.{Call}
use Rattle.disk.specs.declared.error.Error.{Error}
use Rattle.disk.specs.declared.started_sync.StartedSync.{StartedSync}
use Rattle.disk.specs.declared.started_sync.StartedSync.TheVariants.{Done, Named}
use Rattle.disk.specs.declared.error.Error.TheVariants.{SyncFailed, BlobInsufficientLength}
use Rattle.disk.specs.declared.error.Error.TheVariants.{OutOfMemory, OffsetOverflow}
use Rattle.disk.specs.History.{History, life_of, request_of, replayed, operations_of}
use Rattle.disk.specs.History.{names_in, with_action}
use Rattle.disk.specs.declared.action.Action.{Action}
use Rattle.disk.specs.declared.action.Action.TheVariants as actions
use Rattle.disk.specs.declared.action.Start.{Start}

-- none of these started syncs failed
abbrev pub AreWell : List Started → Type 0
AreWell [] = Unit {0}
AreWell (s ∷ ss) = (s.failed ≡ false) × AreWell ss

-- the log's entries for calls, with whether each failed
abbrev pub entries_of : List Call → List Bool → List Entry
entries_of [] failed = []
entries_of (call ∷ calls) [] = []
entries_of (call ∷ calls) (fault ∷ failed) =
    record { request = request_of call; failed = fault } ∷ entries_of calls failed

-- the history of these fields: so many of the calls were made in earlier lives
abbrev pub history_of : List ℕ → ℕ → List Call → List Bool → List Event → ℕ → Bool → History
history_of first earlier calls failed events failing backwards =
    record {
      first = first;
      earlier = entries_of (take earlier calls) (take earlier failed);
      events = events;
      failing = failing;
      backwards = backwards;
    }

-- what was set of a blob stays: which device call is to fail, and in which order several ranges are
-- delivered
pub record KeepsSettings (old new : History) : Type 0 where
  pub failing : new.failing ≡ old.failing
  pub backwards : new.backwards ≡ old.backwards

-- a started sync of a history, which was started after so many of its events
abbrev pub started_by : History → Start → Started
started_by h s =
    let before = take s.events h.events in
    record {
      covers = length (operations_of before);
      bytes = replayed before h.first;
      failed = s.failed;
    }

-- each of these syncs was started after at most so many events
abbrev pub AreWithin : ℕ → List Start → Type 0
AreWithin n [] = Unit {0}
AreWithin n (s ∷ ss) = (s.events ≤ n) × AreWithin n ss

-- the fields agree with the history
pub record TellsHistory (h : History) (readable : List ℕ) (calls : List Call) (failed : List Bool)
    (faults earlier settled : ℕ) (starts : List Start) : Type 0 where
  pub bytes : readable ≡ (life_of h).present.readable
  -- the events up to here are durable, and no later one made anything so
  pub base : (life_of h).present.base ≡ replayed (take settled h.events) h.first
  pub since : (life_of h).present.since ≡ operations_of (drop settled h.events)
  pub count : (life_of h).present.settled ≡ length (operations_of (take settled h.events))
  pub within : settled ≤ length h.events
  pub started : (life_of h).present.started ≡ map (started_by h) starts
  pub covers : AreWithin (length h.events) starts
  pub names : length starts ≡ names_in (life_of h).present.log
  pub log : entries_of calls failed ≡ (life_of h).present.log
  pub outcomes : length failed ≡ length calls
  pub before : earlier ≤ length calls
  pub failures : faults ≡ failures (life_of h).present.log

-- how many events are settled, which means durable, once this sync was waited for
abbrev pub settled_for : Option Start → ℕ → ℕ
settled_for None settled = settled
settled_for (Some s) settled = if s.failed then settled else max settled s.events

-- how many events are settled after one more, before which there were so many
abbrev pub settled_after : Action → (failed : Bool) → List Start → (settled events : ℕ) → ℕ
settled_after action true starts settled events = settled
settled_after (actions.Read offset len) false starts settled events = settled
settled_after (actions.ReadMany ranges) false starts settled events = settled
settled_after (actions.StartReadMany ranges) false starts settled events = settled
settled_after (actions.Write offset bytes sync) false starts settled events =
    if sync then events + 1 else settled
settled_after (actions.Resize len) false starts settled events = settled
settled_after actions.Sync false starts settled events = events + 1
settled_after actions.StartSync false starts settled events = settled
settled_after (actions.WaitSync name) false starts settled events =
    settled_for (slice_get starts name) settled

-- these started syncs, of which the one of this name has failed
abbrev pub failing_at : ℕ → List Start → List Start
failing_at name [] = []
failing_at zero (s ∷ ss) = record s { failed = true } ∷ ss
failing_at (suc name) (s ∷ ss) = s ∷ failing_at name ss

-- the started syncs after one event more
abbrev pub starts_after : Action → (failed : Bool) → List Start → (events : ℕ) → List Start
starts_after actions.StartSync failed starts events =
    starts ++ record { events = events; failed = failed } ∷ []
starts_after (actions.WaitSync name) true starts events = failing_at name starts
starts_after (actions.WaitSync name) false starts events = starts
starts_after (actions.Read offset len) failed starts events = starts
starts_after (actions.ReadMany ranges) failed starts events = starts
starts_after (actions.StartReadMany ranges) failed starts events = starts
starts_after (actions.Write offset bytes sync) failed starts events = starts
starts_after (actions.Resize len) failed starts events = starts
starts_after actions.Sync failed starts events = starts

-- the device is asked for this action, and fails just where the call is the one that is to fail; a
-- call that fails before the device is asked changes nothing, and doesn't count
abbrev pub Asks : {T : Type 0} → Action → History → History → Result T Error → Type 0
Asks action old new (Ok _) = (old.failing ≢ 1) × (new ≡ with_action action old)
Asks action old new (Err BlobInsufficientLength) = new ≡ old
Asks action old new (Err OffsetOverflow) = new ≡ old
Asks action old new (Err OutOfMemory) = new ≡ old
Asks action old new (Err _) = (old.failing ≡ 1) × (new ≡ with_action action old)

-- a start of a sync counts as a device call, and fails just where it is the one that is to fail:
-- its answer is `Ok` then too, and the wait fails
abbrev pub AsksStart : {T : Type 0} → History → History → Result T Error → Type 0
AsksStart old new (Ok _) = new ≡ with_action actions.StartSync old
AsksStart old new (Err _) = new ≡ old

-- a wait counts as a device call, and fails just where it is the one that is to fail, or the sync
-- had failed
abbrev pub AsksWait : StartedSync → (had_failed : Bool) → History → History
    → Result (Unit {0}) Error → Type 0
AsksWait Done had_failed old new result = new ≡ old
AsksWait (Named name) had_failed old new (Ok _) =
    (old.failing ≢ 1) × (new ≡ with_action (actions.WaitSync name) old)
AsksWait (Named name) had_failed old new (Err SyncFailed) =
    ((old.failing ≡ 1) ⊎ (had_failed ≡ true)) × (new ≡ with_action (actions.WaitSync name) old)
AsksWait (Named name) had_failed old new (Err _) = new ≡ old

-- the bytes of a range; or the range passes the end; or memory was refused for a range within
abbrev pub IsRange : ℕ → ℕ → List ℕ → Result (List ℕ) Error → Type 0
IsRange offset len readable (Ok bytes) =
    (offset + len ≤ length readable) × (bytes ≡ take len (drop offset readable))
IsRange offset len readable (Err BlobInsufficientLength) = length readable < offset + len
IsRange offset len readable (Err OutOfMemory) = offset + len ≤ length readable
IsRange offset len readable (Err _) = ⊥

-- the bytes of several ranges, each with its number, in rising order, or backwards in falling order
abbrev pub delivery : (backwards : Bool) → List (ℕ × ℕ) → List ℕ → List (ℕ × List ℕ)
delivery false ranges readable = enumerate_from 0 (bytes_of ranges readable)
delivery true ranges readable = reverse (enumerate_from 0 (bytes_of ranges readable))

-- the bytes of several ranges; or a range passes the end; or memory was refused for ranges within
abbrev pub AreRanges : List (ℕ × ℕ) → List ℕ → List (ℕ × List ℕ) → Result (Unit {0}) Error → Type 0
AreRanges ranges readable out (Ok _) = IsWithin ranges readable × Delivers ranges readable out
AreRanges ranges readable out (Err BlobInsufficientLength) = IsWithin ranges readable → ⊥
AreRanges ranges readable out (Err OutOfMemory) = IsWithin ranges readable
AreRanges ranges readable out (Err _) = ⊥

-- the bytes of several ranges in the order of the ranges; or a range passes the end; or memory was
-- refused where all are within
abbrev pub AreRangesInOrder : List (ℕ × ℕ) → List ℕ → Result (List (List ℕ)) Error → Type 0
AreRangesInOrder ranges readable (Ok bufs) =
    IsWithin ranges readable × (bufs ≡ bytes_of ranges readable)
AreRangesInOrder ranges readable (Err BlobInsufficientLength) = IsWithin ranges readable → ⊥
AreRangesInOrder ranges readable (Err OutOfMemory) = IsWithin ranges readable
AreRangesInOrder ranges readable (Err _) = ⊥

-- whether a wait for what the start of a sync answered can only fail
abbrev pub waits_in_vain : StartedSync → List Started → Bool
waits_in_vain Done started = false
waits_in_vain (Named name) started = had_failed started name
