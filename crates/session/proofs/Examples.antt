-- Examples of the standing before and after steps, of replies, and of what a run promises.
use Rattle.std.proofs.Common.{lit<, ◌≡◌, ◌⊎◌, ◌+◌, ◌<◌, ℕ, zero, suc, Vec, List, [], ◌∷◌, ◌++◌, length, length-append, take, drop, refl, sym, ap, subst, ◌∙◌, inl, inr, arith, true, false}
use Rattle.std.specs.Prelude.{Some, None, if◌then◌else◌}
use Rattle.std.specs.List.{flat_map}
use Rattle.std.specs.declared.alloc.Global.{Global}
use Rattle.std.proofs.lemmas.Bool.{le-leb, false≢true}
use Rattle.std.proofs.lemmas.Bool.Decides.{nat_tests}
use Rattle.disk.specs.Disk.{Disk, Entry, SomeFailed}
use Rattle.disk.specs.declared.started_sync.StartedSync.TheVariants.{Done as AllDone, Named}
use Rattle.disk.specs.declared.error.Error.{Error}
use Rattle.disk.specs.declared.error.Error.TheVariants.{ReadFailed, WriteFailed, ResizeFailed, SyncFailed, InvalidChecksum, BlobInsufficientLength, OffsetOverflow, OutOfMemory, IdsExhausted}
use Rattle.page.specs.Geometry.{EndWithin}
use Rattle.page.specs.Page.{text}
use Rattle.page.specs.Sums.{add_sum}
use Rattle.crash.proofs.DistinctLaws.{distinct_at_rest, vouched_at_rest}
use Rattle.crash.specs.Kept.{AllOnly}
use Rattle.crash.proofs.CutLaws.{rest_only}
use Rattle.crash.proofs.Disks.{base_is_image}
use Rattle.writer_state.proofs.Examples.{durable, six, all_keep}
use Rattle.std.specs.declared.num.NonZeroUsize.{NonZeroUsize}
use Rattle.session.specs.declared.steps.Step.{Step}
use Rattle.session.specs.declared.steps.Step.TheVariants.{Append, Owned, TryAppend, Sync, StartSync, Wait, WaitSync, Needs, Size, Read, ReadUpTo, TryRead, ReadRanges, TryReadRanges, Begin, Truncate, Snapshot, TrySnapshot, Snap, Seal, Replay, Ensure, Take, Seek, DropSnapshot, DropReplay, Scan}
use Rattle.session.specs.declared.steps.Reply.TheVariants.{At, Nothing, Done, Length, Bytes, Fault, Closed, NotRecovering, NoSuch, Served, Missed, BadRanges, Taken, Sealed, NotAppending}
use Rattle.session.specs.Run.{HasEnsured, needs_no_device, passed, RunReplay, replaying, rewritten, RunState, buffered_after, awaited_after, appended, after_sync, starting, truncated, noted, flushed, left_by_seal, sealed_by, snapshot_at, after_wait, at_step, needs_sync, raised, answer_of_start, ended, fit_together, turned_away, without_replay, without_snapshot, Accepts, HasCause, awaited_name, RefusesStep, TakesStep, FaultsComeFirst, RiseBelow, AnswersStep, use_of_step, Ran}
use Rattle.session.specs.Run.DeviceUse.{Leaves, Looks, Changes}
use Rattle.session.specs.Promise.{Crashes, fresh}

-- a writer of "abcdef", all of which every crash keeps: "ef" is buffered, of eight bytes
abbrev pub six_stand : RunState
six_stand = record {
  has_writer = true;
  recovering = true;
  content = six;
  floor = 6;
  otherwise = six;
  capacity = 8;
  buffered = 2;
  written = true;
  awaited = None;
  covers = [];
  snapshots = [];
  replays = [];
}

-- `six_stand` with nothing synced yet, and all of it buffered
abbrev pub none_synced : RunState
none_synced = record six_stand { floor = 0; buffered = 6; written = false }

-- a started sync of all of it, which isn't complete
abbrev pub six_started : RunState
six_started = starting 4 (Named 0) none_synced

-- what a recovery of "abcdef" begins with
pub a_fresh_session : fresh 4 8 six ≡ six_stand
a_fresh_session = refl

-- after a sync all of it is kept, and what is left after the full page is buffered
pub a_sync_step : after_sync 4 none_synced ≡ six_stand
a_sync_step = refl

-- a refused sync takes the writer, and what was kept still is
pub a_refused_sync : RefusesStep Sync WriteFailed durable durable six_stand (record six_stand { has_writer = false })
a_refused_sync = refl

-- a refused read takes nothing
pub a_refused_read : RefusesStep (Read 4 3) BlobInsufficientLength durable durable six_stand six_stand
a_refused_read = refl

-- a refused try takes nothing either
pub a_refused_try : (bytes : Vec ℕ Global) → RefusesStep (TryAppend bytes) OutOfMemory durable durable six_stand six_stand
a_refused_try bytes = refl

-- where there is no writer, a step that needs one is turned away
pub a_closed_session : turned_away Sync (ended six six_stand) ≡ Some Closed
a_closed_session = refl

-- a name that the session was given can be waited for in a closed session too
pub a_name_in_a_closed_session : turned_away (WaitSync 0) (ended six six_started) ≡ None
a_name_in_a_closed_session = refl

-- another name can't, even if there is a writer
pub no_other_name : turned_away (WaitSync 1) six_started ≡ Some NoSuch
no_other_name = refl

-- six bytes fit what is buffered, and then it is full
pub a_full_buffer : buffered_after 4 six_stand 6 ≡ 8
a_full_buffer = refl

-- seven bytes don't fit, and one is left after the two pages that are written
pub a_drained_buffer : buffered_after 4 six_stand 7 ≡ 1
a_drained_buffer = refl

-- appending no byte changes nothing
pub an_empty_append : appended 4 [] six_stand ≡ six_stand
an_empty_append = refl

-- a byte is something to sync
pub a_byte_to_sync : (appended 4 (103 ∷ []) six_stand).written ≡ false
a_byte_to_sync = refl

-- with nothing to sync, a sync asks the device nothing
pub an_idle_sync : use_of_step 4 Sync six_stand ≡ Leaves
an_idle_sync = refl

pub a_busy_sync : use_of_step 4 Sync none_synced ≡ Changes 2
a_busy_sync = refl

-- so an idle sync isn't refused
pub no_idle_fault : HasCause 4 Sync six_stand durable durable OutOfMemory → ⊥
no_idle_fault none = absurd (false≢true none)

-- where the log stayed, no call failed
none_failed : (fault : Error) (log more : List Entry) → log ≡ log ++ more → SomeFailed fault more → ⊥
none_failed fault log [] is failed = failed
none_failed fault log (e ∷ es) is failed = omega (arith, ap length is, length-append log (e ∷ es))

-- ---- started syncs

-- what is buffered once a sync was started is less than a page, and that sync is awaited
pub a_started_sync : six_started ≡ record six_stand { floor = 0; awaited = Some 0; covers = (0, 6) ∷ [] }
a_started_sync = refl

-- where all was durable, starting one is a sync
pub a_sync_at_once : starting 4 AllDone none_synced ≡ after_sync 4 none_synced
a_sync_at_once = refl

-- a start with nothing appended since answers the name of the sync that was started
pub started_once : answer_of_start six_started durable ≡ Named 0
started_once = refl

pub nothing_to_start : answer_of_start six_stand durable ≡ AllDone
nothing_to_start = refl

-- a start of something that isn't written gives a new name
pub started_anew : answer_of_start none_synced durable ≡ Named 0
started_anew = refl

-- once a sync was started a sync has something to do: it waits; after that wait it has nothing to
-- do
pub a_sync_that_waits : use_of_step 4 Sync six_started ≡ Changes 1
a_sync_that_waits = refl

pub needs_a_sync : needs_sync six_started ≡ true
needs_a_sync = refl

pub needs_none : needs_sync (after_wait six_started) ≡ false
needs_none = refl

-- a start where nothing was appended since asks the device nothing
pub an_idle_start : use_of_step 4 StartSync six_started ≡ Leaves
an_idle_start = refl

pub a_busy_start : use_of_step 4 StartSync none_synced ≡ Changes 3
a_busy_start = refl

-- a wait where nothing is awaited asks the device nothing either
pub an_idle_wait : use_of_step 4 Wait none_synced ≡ Leaves
an_idle_wait = refl

pub a_busy_wait : use_of_step 4 Wait six_started ≡ Changes 1
a_busy_wait = refl

-- an append that is buffered waits for nothing, and another for the started sync
pub no_wait_to_buffer : awaited_after six_started 6 ≡ Some 0
no_wait_to_buffer = refl

pub a_wait_to_flush : awaited_after six_started 7 ≡ None
a_wait_to_flush = refl

pub nothing_awaited : (bytes : Vec ℕ Global) → bytes.items ≡ 103 ∷ [] → awaited_name 4 (Append bytes) six_started ≡ None
nothing_awaited bytes is = rw is refl

pub a_name_awaited : awaited_name 4 (WaitSync 0) six_stand ≡ Some 0
a_name_awaited = refl

-- before the started sync has completed the floor is as it was, and then it is what the sync covers
abbrev pending : Disk
pending = record durable { settled = 1; started = record { covers = 2; bytes = []; failed = false } ∷ [] }

pub not_yet_a_floor : (raised pending six_started).floor ≡ 0
not_yet_a_floor = refl

pub then_a_floor : (raised (record pending { settled = 2 }) six_started).floor ≡ 6
then_a_floor = refl

-- a wait answers Ok only once the sync has completed
pub no_wait_before : Accepts add_sum 4 Wait Done pending pending six_started (after_wait six_started) → ⊥
no_wait_before accepts = absurd (false≢true accepts.0)

pub a_wait_done : Accepts add_sum 4 (WaitSync 0) Done pending (record pending { settled = 2 }) six_started six_started
a_wait_done = (refl, refl)

-- a wait is refused where its own sync had failed, not because another had
pub a_wait_of_a_failed_sync : HasCause 4 Wait six_started (record pending { started = record { covers = 2; bytes = []; failed = true } ∷ [] }) pending SyncFailed
a_wait_of_a_failed_sync = ((0, lit< tt, refl), inr refl)

pub no_fault_of_another : HasCause 4 Wait six_started pending pending SyncFailed → ⊥
no_fault_of_another (listed, inl (more, is, failed)) = none_failed SyncFailed pending.log more is failed
no_fault_of_another (listed, inr had) = absurd (false≢true had)

-- where there is no memory for a name, nothing is done
pub no_room_for_a_name : RefusesStep StartSync OutOfMemory durable durable six_stand six_stand
no_room_for_a_name = inr (refl, refl, refl)

-- the end of a recovery
pub a_recovery_ends : Accepts add_sum 4 Begin Done durable durable six_stand (record six_stand { recovering = false })
a_recovery_ends = refl

-- ---- truncates

-- of "abcdef" two bytes are left, all durable and buffered
abbrev two_stand : RunState
two_stand = record six_stand {
  content = 97 ∷ 98 ∷ [];
  floor = 2;
  otherwise = 97 ∷ 98 ∷ [];
}

pub a_truncate : truncated 4 2 six_stand ≡ two_stand
a_truncate = refl

-- `two_stand` by steps: six bytes, a sync, and a truncate
pub a_truncate_after_a_sync : truncated 4 2 (at_step (Truncate 2) (after_sync 4 (appended 4 six (fresh 4 8 [])))) ≡ two_stand
a_truncate_after_a_sync = refl

-- as a truncate begins, the floor and what a started sync covers are lowered
pub a_floor_is_lowered : at_step (Truncate 2) six_stand ≡ record six_stand { floor = 2 }
a_floor_is_lowered = refl

pub a_cover_is_lowered : at_step (Truncate 2) six_started ≡ record six_started { covers = (0, 2) ∷ [] }
a_cover_is_lowered = refl

-- a truncate past the end raises no floor
pub no_floor_is_raised : at_step (Truncate 7) six_stand ≡ six_stand
no_floor_is_raised = refl

-- other steps begin with what stands
pub a_sync_begins : at_step Sync six_stand ≡ six_stand
a_sync_begins = refl

-- a truncate answers the size that is left, which isn't what it was asked for where there was less
pub a_truncate_done : Accepts add_sum 4 (Truncate 2) (Length 2) durable durable six_stand two_stand
a_truncate_done = (refl, refl)

pub a_truncate_above : Accepts add_sum 4 (Truncate 7) (Length 6) durable durable none_synced six_stand
a_truncate_above = (refl, refl)

pub no_size_before : TakesStep add_sum 4 (Truncate 2) (Length 6) durable durable six_stand two_stand → ⊥
no_size_before takes = omega (arith, takes.0)

-- after a sync and a truncate a started sync that completes raises no floor past what is left
pub a_cut_cover : (raised (record pending { settled = 2 }) (truncated 4 2 (at_step (Truncate 2) six_started))).floor ≡ 2
a_cut_cover = refl

-- a refused truncate takes the writer, and leaves the content or the bytes that it was to leave: no
-- more than these is kept
pub a_refused_truncate : RefusesStep (Truncate 2) WriteFailed durable durable (at_step (Truncate 2) six_stand) (record six_stand { has_writer = false; floor = 2; otherwise = 97 ∷ 98 ∷ [] })
a_refused_truncate = refl

-- a truncate isn't taken once the recovery has ended, and then nothing is lowered
pub no_truncate_appending : turned_away (Truncate 2) (record six_stand { recovering = false }) ≡ Some NotRecovering
no_truncate_appending = refl

pub nothing_lowered : at_step (Truncate 2) (record six_stand { recovering = false }) ≡ record six_stand { recovering = false }
nothing_lowered = refl

-- where there is no writer, `Closed` comes before `NotRecovering`
pub closed_first : turned_away (Truncate 2) (record six_stand { has_writer = false; recovering = false }) ≡ Some Closed
closed_first = refl

-- a truncate that cuts may make eight calls, and one that cuts nothing those of a sync
pub a_busy_truncate : use_of_step 4 (Truncate 2) six_stand ≡ Changes 8
a_busy_truncate = refl

pub a_truncate_that_syncs : use_of_step 4 (Truncate 6) six_stand ≡ Changes 2
a_truncate_that_syncs = refl

-- ---- replies

pub a_size_reply : Accepts add_sum 4 Size (Length 6) durable durable six_stand six_stand
a_size_reply = (refl, refl)

-- a read of three bytes from the fifth on passes the end
pub a_read_past_the_end : HasCause 4 (Read 4 3) six_stand durable durable BlobInsufficientLength
a_read_past_the_end = (omega arith, omega arith)

-- a read within the size doesn't pass the end
pub no_end_within : HasCause 4 (Read 4 2) six_stand durable durable BlobInsufficientLength → ⊥
no_end_within cause = omega (arith, cause.1)

-- where a range passes the end, no other fault is answered
pub the_end_is_told : AnswersStep add_sum 4 (Read 4 3) (Fault OutOfMemory) durable durable six_stand six_stand → ⊥
the_end_is_told answers = let is : Fault OutOfMemory ≡ Fault BlobInsufficientLength = answers.1.1 a_read_past_the_end in cc

-- bytes that fit what is buffered stand after the content
pub a_try : (bytes : Vec ℕ Global) → length bytes.items ≡ 6 → Accepts add_sum 4 (TryAppend bytes) (At 6) durable durable six_stand (appended 4 bytes.items six_stand)
a_try bytes long = (le-leb (2 + length bytes.items) 8 (omega (arith, long)), refl, refl)

-- bytes that don't fit the buffer change nothing
pub a_try_that_does_not_fit : (bytes : Vec ℕ Global) → length bytes.items ≡ 7 → Accepts add_sum 4 (TryAppend bytes) Nothing durable durable six_stand six_stand
a_try_that_does_not_fit bytes long = let passes : 8 < 2 + length bytes.items = omega (arith, long) in (grind (arith, nat_tests, passes), refl)

-- a try whose bytes fit doesn't answer `Nothing`
pub no_nothing_that_fits : (bytes : Vec ℕ Global) (after : RunState) → length bytes.items ≡ 6 → Accepts add_sum 4 (TryAppend bytes) Nothing durable durable six_stand after → ⊥
no_nothing_that_fits bytes after long accepts = absurd (false≢true (sym accepts.0 ∙ le-leb (2 + length bytes.items) 8 (omega (arith, long))))

-- no other step answers `Nothing`, except a read that asks no device, and a snapshot that writes
-- nothing
pub nothing_is_of_a_try : (sum : List ℕ → ℕ) (P : ℕ) (step : Step) (from to : Disk) (before after : RunState) → Accepts sum P step Nothing from to before after
    → ((bytes : Vec ℕ Global) × (step ≡ TryAppend bytes)) ⊎ (((offset len : ℕ) × (step ≡ TryRead offset len)) ⊎ (step ≡ TrySnapshot))
nothing_is_of_a_try sum P (TryAppend bytes) from to before after accepts = inl (bytes, refl)
nothing_is_of_a_try sum P (TryRead offset len) from to before after accepts = inr (inl (offset, len, refl))
nothing_is_of_a_try sum P TrySnapshot from to before after accepts = inr (inr refl)
nothing_is_of_a_try sum P Snapshot from to before after accepts = absurd accepts
nothing_is_of_a_try sum P (Snap index offset len) from to before after accepts = absurd accepts
nothing_is_of_a_try sum P Seal from to before after accepts = absurd accepts
nothing_is_of_a_try sum P (Replay buffer_size) from to before after accepts = absurd accepts
nothing_is_of_a_try sum P (Ensure index count) from to before after accepts = absurd accepts
nothing_is_of_a_try sum P (Take index count) from to before after accepts = absurd accepts
nothing_is_of_a_try sum P (Seek index offset) from to before after accepts = absurd accepts
nothing_is_of_a_try sum P (DropSnapshot index) from to before after accepts = absurd accepts
nothing_is_of_a_try sum P (DropReplay index) from to before after accepts = absurd accepts
nothing_is_of_a_try sum P (Scan proven most buffer_size) from to before after accepts = absurd accepts
nothing_is_of_a_try sum P (Append bytes) from to before after accepts = absurd accepts
nothing_is_of_a_try sum P (Owned bytes) from to before after accepts = absurd accepts
nothing_is_of_a_try sum P Sync from to before after accepts = absurd accepts
nothing_is_of_a_try sum P StartSync from to before after accepts = absurd accepts
nothing_is_of_a_try sum P Wait from to before after accepts = absurd accepts
nothing_is_of_a_try sum P (WaitSync name) from to before after accepts = absurd accepts
nothing_is_of_a_try sum P Needs from to before after accepts = absurd accepts
nothing_is_of_a_try sum P Size from to before after accepts = absurd accepts
nothing_is_of_a_try sum P (Read offset len) from to before after accepts = absurd accepts
nothing_is_of_a_try sum P (ReadUpTo offset len) from to before after accepts = absurd accepts
nothing_is_of_a_try sum P (ReadRanges ranges) from to before after accepts = absurd accepts
nothing_is_of_a_try sum P (TryReadRanges ranges) from to before after accepts = absurd accepts
nothing_is_of_a_try sum P Begin from to before after accepts = absurd accepts
nothing_is_of_a_try sum P (Truncate n) from to before after accepts = absurd accepts

-- of ten bytes from the fifth on the two that there are
pub up_to_the_end : (bytes : Vec ℕ Global) → bytes.items ≡ 101 ∷ 102 ∷ [] → Accepts add_sum 4 (ReadUpTo 4 10) (Bytes bytes) durable durable six_stand six_stand
up_to_the_end bytes is = ((inr (omega arith), is), refl)

-- zero bytes may be read at any offset
pub none_up_to_anywhere : HasCause 4 (ReadUpTo 7 0) six_stand durable durable BlobInsufficientLength → ⊥
none_up_to_anywhere cause = cause.0 refl

pub some_up_to_at_the_end : HasCause 4 (ReadUpTo 6 1) six_stand durable durable BlobInsufficientLength
some_up_to_at_the_end = (λ is. cc is, omega arith)

-- a read that asks no device leaves it alone, and only memory is refused
pub a_try_read_asks_nothing : use_of_step 4 (TryRead 0 4) six_stand ≡ Leaves
a_try_read_asks_nothing = refl

-- ranges that touch can be read in one call, and an empty one at the end of the last
pub touching_ranges : fit_together ((0, 4) ∷ (4, 4) ∷ (8, 0) ∷ []) ≡ true
touching_ranges = refl

-- ranges that overlap, or are out of order, can't be read in one call
pub overlapping_ranges : fit_together ((0, 4) ∷ (3, 4) ∷ []) ≡ false
overlapping_ranges = refl

pub ranges_out_of_order : fit_together ((4, 4) ∷ (0, 4) ∷ []) ≡ false
ranges_out_of_order = refl

-- neither can ranges of which one ends past the greatest offset
pub far_ranges : fit_together ((18446744073709551615, 2) ∷ (18446744073709551615, 0) ∷ []) ≡ false
far_ranges = refl

-- nor can ranges for which no buffer has room
pub long_ranges : fit_together ((0, 9223372036854775808) ∷ (9223372036854775808, 9223372036854775808) ∷ []) ≡ false
long_ranges = refl

-- such ranges are turned away with `BadRanges`, or with `Closed` where there is no writer
pub bad_ranges : (ranges : Vec (ℕ × ℕ) Global) → ranges.items ≡ (0, 4) ∷ (3, 4) ∷ [] → turned_away (ReadRanges ranges) six_stand ≡ Some BadRanges
bad_ranges ranges is = ap (λ (rs : List (ℕ × ℕ)). if fit_together rs then None else Some BadRanges) is

pub closed_before_bad_ranges : (ranges : Vec (ℕ × ℕ) Global) → turned_away (TryReadRanges ranges) (record six_stand { has_writer = false }) ≡ Some Closed
closed_before_bad_ranges ranges = refl

-- the second byte and the last two
abbrev pub two_ranges : List (ℕ × ℕ)
two_ranges = (1, 1) ∷ (4, 2) ∷ []

two_within : EndWithin 6 two_ranges
two_within zero range lt = omega (arith, lt)
two_within (suc zero) range lt = omega (arith, lt)
two_within (suc (suc k)) range lt = absurd (omega (arith, lt))

pub bytes_of_ranges : (ranges : Vec (ℕ × ℕ) Global) (bytes : Vec ℕ Global) → ranges.items ≡ two_ranges → bytes.items ≡ 98 ∷ 101 ∷ 102 ∷ [] → Accepts add_sum 4 (ReadRanges ranges) (Served 2 bytes) durable durable six_stand six_stand
bytes_of_ranges ranges bytes is are = (
  (subst (λ (rs : List (ℕ × ℕ)). EndWithin 6 rs) (sym is) two_within, are ∙ ap (λ (rs : List (ℕ × ℕ)). flat_map (λ (range : ℕ × ℕ). take range.1 (drop range.0 six)) rs) (sym is)),
  omega (arith, ap length is),
  refl,
)

-- no reply counts more ranges that needed no device than there are
pub no_third_range : (ranges : Vec (ℕ × ℕ) Global) (bytes : Vec ℕ Global) → ranges.items ≡ two_ranges → Accepts add_sum 4 (ReadRanges ranges) (Served 3 bytes) durable durable six_stand six_stand → ⊥
no_third_range ranges bytes is accepts = omega (arith, ap length is, accepts.1)

-- the first range that can't be read decides, and then nothing else is answered
pub the_first_decides : (ranges : Vec (ℕ × ℕ) Global) → ranges.items ≡ (0, 2) ∷ (5, 2) ∷ (18446744073709551615, 1) ∷ [] → HasCause 4 (ReadRanges ranges) six_stand durable durable BlobInsufficientLength
the_first_decides ranges is = ((0, 2) ∷ [], (18446744073709551615, 1) ∷ [], ((5, 2), is, first, (omega arith, omega arith)))
  where
    first : EndWithin 6 ((0, 2) ∷ [])
    first zero range lt = omega (arith, lt)
    first (suc k) range lt = absurd (omega (arith, lt))

pub and_alone : (ranges : Vec (ℕ × ℕ) Global) → ranges.items ≡ (0, 2) ∷ (5, 2) ∷ (18446744073709551615, 1) ∷ [] → TakesStep add_sum 4 (ReadRanges ranges) (Fault OffsetOverflow) durable durable six_stand six_stand × FaultsComeFirst 4 (ReadRanges ranges) (Fault OffsetOverflow) six_stand → ⊥
and_alone ranges is takes = let other : Fault OffsetOverflow ≡ Fault BlobInsufficientLength = takes.1.1 (the_first_decides ranges is) in cc other

-- the numbers of missed ranges rise, and are those of ranges
pub no_number_twice : (ranges : Vec (ℕ × ℕ) Global) (numbers : Vec ℕ Global) → numbers.items ≡ 0 ∷ 0 ∷ [] → Accepts add_sum 4 (TryReadRanges ranges) (Missed numbers) durable durable six_stand six_stand → ⊥
no_number_twice ranges numbers is accepts = let rise = subst (λ (ns : List ℕ). RiseBelow 0 (length ranges.items) ns) is accepts.0.0 in omega (arith, rise.2.0)

pub no_number_of_none : (ranges : Vec (ℕ × ℕ) Global) (numbers : Vec ℕ Global) → ranges.items ≡ two_ranges → numbers.items ≡ 2 ∷ [] → Accepts add_sum 4 (TryReadRanges ranges) (Missed numbers) durable durable six_stand six_stand → ⊥
no_number_of_none ranges numbers is are accepts = let rise = subst (λ (ns : List ℕ). RiseBelow 0 (length ranges.items) ns) are accepts.0.0 in omega (arith, rise.1, ap length is)

-- a read of ranges only reads, and a question for them leaves the device alone
pub a_read_of_ranges_looks : (ranges : Vec (ℕ × ℕ) Global) → use_of_step 4 (ReadRanges ranges) six_stand ≡ Looks
a_read_of_ranges_looks ranges = refl

pub a_question_leaves : (ranges : Vec (ℕ × ℕ) Global) → use_of_step 4 (TryReadRanges ranges) six_stand ≡ Leaves
a_question_leaves ranges = refl

-- a size has no error
pub no_fault_of_a_size : (e : Error) → HasCause 4 Size six_stand durable durable e → ⊥
no_fault_of_a_size ReadFailed ((k, lt, is), failed) = omega (arith, lt)
no_fault_of_a_size WriteFailed ((k, lt, is), failed) = omega (arith, lt)
no_fault_of_a_size ResizeFailed ((k, lt, is), failed) = omega (arith, lt)
no_fault_of_a_size SyncFailed ((k, lt, is), failed) = omega (arith, lt)
no_fault_of_a_size InvalidChecksum cause = cause
no_fault_of_a_size BlobInsufficientLength cause = cause
no_fault_of_a_size OffsetOverflow cause = cause
no_fault_of_a_size OutOfMemory cause = cause
no_fault_of_a_size IdsExhausted cause = cause

-- so a sync answers no device fault if no call failed
pub no_fault_of_its_own : HasCause 4 Sync none_synced durable durable SyncFailed → ⊥
no_fault_of_its_own (listed, inl (more, is, failed)) = none_failed SyncFailed durable.log more is failed
no_fault_of_its_own (listed, inr had) = absurd had

-- nor does a sync ever overflow
pub no_overflow : HasCause 4 Sync none_synced durable durable OffsetOverflow → ⊥
no_overflow cause = cause

-- the floor of a run comes of its syncs: a refused sync raises none
pub a_floor_of_a_run : (ended six (after_sync 4 none_synced)).floor ≡ 6
a_floor_of_a_run = refl

-- the blob holds nothing else
six_only : AllOnly add_sum 4 six six durable
six_only = record {
  only = λ image is_image free.
      let says : text add_sum 4 image ≡ six = rest_only add_sum 4 six durable image refl refl is_image in
      inl (says ∙ sym (ap (λ (l : List ℕ). take (length l) six) says));
  vouched = vouched_at_rest add_sum 4 durable refl;
}

-- a run of one step: the size
pub a_run_of_one : Ran add_sum 4 (Size ∷ []) (Length 6 ∷ []) durable [] six_stand six_stand
a_run_of_one = (
  all_keep,
  six_only,
  [],
  [],
  refl,
  six_stand,
  record { answer = (((refl, refl), (λ none. absurd none, λ none. absurd none))); touches = refl; stopped = λ away. refl; kept = (all_keep, tt); covered = (λ k x lt. absurd (omega (arith, lt)), tt); only = (six_only, tt); within = omega arith },
  (refl, refl, all_keep, six_only),
)

-- another size isn't answered
pub no_other_size : Accepts add_sum 4 Size (Length 7) durable durable six_stand six_stand → ⊥
no_other_size accepts = omega (arith, accepts.0)

-- ---- snapshots

-- `six_stand` with a snapshot, of a writer that appends
abbrev six_noted : RunState
six_noted = noted (record six_stand { recovering = false })

pub a_snapshot_tells_the_content : six_noted.snapshots ≡ Some six ∷ []
a_snapshot_tells_the_content = refl

-- another snapshot has the next number
pub a_second_snapshot : Accepts add_sum 4 TrySnapshot (Taken 1) durable durable six_noted (noted six_noted)
a_second_snapshot = (omega arith, refl, refl)

-- no snapshot is made without a write while a full page is buffered, and one with a write leaves
-- "ef" buffered
pub none_while_a_page_is_buffered : Accepts add_sum 4 TrySnapshot Nothing durable durable none_synced none_synced
none_while_a_page_is_buffered = (omega arith, refl)

pub a_flushed_snapshot : noted (flushed 4 none_synced) ≡ record none_synced { buffered = 2; snapshots = Some six ∷ [] }
a_flushed_snapshot = refl

pub a_snapshot_that_writes : use_of_step 4 Snapshot none_synced ≡ Changes 2
a_snapshot_that_writes = refl

pub a_snapshot_that_does_not : use_of_step 4 Snapshot six_stand ≡ Leaves
a_snapshot_that_does_not = refl

-- a snapshot isn't made in recovery, or where there is no writer
pub no_snapshot_recovering : turned_away Snapshot six_stand ≡ Some NotAppending
no_snapshot_recovering = refl

pub no_seal_recovering : turned_away Seal six_stand ≡ Some NotAppending
no_seal_recovering = refl

pub no_seal_closed : turned_away Seal (ended six six_stand) ≡ Some Closed
no_seal_closed = refl

-- a seal of what is written has nothing to start, and closes the session
pub an_idle_seal : Accepts add_sum 4 Seal (Sealed 1 AllDone) durable durable six_noted (record six_noted { has_writer = false; snapshots = Some six ∷ Some six ∷ [] })
an_idle_seal = (refl, refl, refl)

pub a_seal_that_leaves_the_disk : use_of_step 4 Seal six_noted ≡ Leaves
a_seal_that_leaves_the_disk = refl

-- a seal of what isn't written starts a sync of its own, which covers all
pub a_busy_seal : left_by_seal 4 (Named 0) none_synced ≡ record six_started { has_writer = false; snapshots = Some six ∷ [] }
a_busy_seal = refl

pub a_seal_that_starts : use_of_step 4 Seal none_synced ≡ Changes 3
a_seal_that_starts = refl

pub it_is_named : sealed_by none_synced durable ≡ Named 0
it_is_named = refl

-- a snapshot is read in a closed session too: of "abcdef" two bytes from the fourth on are "de"
pub a_snap_closed : (bytes : Vec ℕ Global) → bytes.items ≡ 100 ∷ 101 ∷ [] → Accepts add_sum 4 (Snap 0 3 2) (Bytes bytes) durable durable (ended six six_noted) (ended six six_noted)
a_snap_closed bytes is = ((omega arith, is), refl)

pub a_snap_is_taken : turned_away (Snap 0 3 2) (ended six six_noted) ≡ None
a_snap_is_taken = refl

-- no snapshot has another number
pub no_such_snapshot : turned_away (Snap 1 3 2) six_noted ≡ Some NoSuch
no_such_snapshot = refl

-- what is appended after a snapshot isn't in it
pub it_does_not_move : snapshot_at (appended 4 (103 ∷ []) six_noted) 0 ≡ six
it_does_not_move = refl

-- a snapshot that was let go is gone, also for a second such step, and the other stays; the next
-- snapshot has the next number
abbrev second_left : RunState
second_left = without_snapshot 0 (noted six_noted)

pub a_snapshot_is_let_go : Accepts add_sum 4 (DropSnapshot 0) Done durable durable (noted six_noted) second_left
a_snapshot_is_let_go = refl

pub a_snapshot_is_gone : turned_away (Snap 0 3 2) second_left ≡ Some NoSuch
a_snapshot_is_gone = refl

pub not_a_second_time : turned_away (DropSnapshot 0) second_left ≡ Some NoSuch
not_a_second_time = refl

pub the_second_stands : snapshot_at second_left 1 ≡ six
the_second_stands = refl

pub the_third_snapshot : Accepts add_sum 4 TrySnapshot (Taken 2) durable durable second_left (noted second_left)
the_third_snapshot = (omega arith, refl, refl)

-- ---- scans

-- a scan of no bytes asks no device, and any other scan only reads
pub a_scan_of_none : (proven : ℕ) (buffer_size : NonZeroUsize) → use_of_step 4 (Scan proven 0 buffer_size) six_stand ≡ Leaves
a_scan_of_none proven buffer_size = refl

pub a_scan_looks : (proven : ℕ) (buffer_size : NonZeroUsize) → use_of_step 4 (Scan proven 100 buffer_size) six_stand ≡ Looks
a_scan_looks proven buffer_size = refl

-- of the six bytes of the blob a scan counts at most three if it is to count no more
pub six_are_counted : (buffer_size : NonZeroUsize) → Accepts add_sum 4 (Scan 0 100 buffer_size) (Length 6) durable durable six_stand six_stand
six_are_counted buffer_size = (refl, refl)

pub three_are_counted : (buffer_size : NonZeroUsize) → Accepts add_sum 4 (Scan 0 3 buffer_size) (Length 3) durable durable six_stand six_stand
three_are_counted buffer_size = (refl, refl)

-- ---- replays

-- a replay of "abcdef" in pages of four bytes, with a buffer of four pages: a page is read at once,
-- and four bytes are in full pages
abbrev six_replayed : RunReplay
six_replayed = record { content = six; whole = 4; position = 0; hand = 0; batch = 4 }

pub a_replay_begins : (replaying 4 64 six_stand).replays ≡ Some six_replayed ∷ []
a_replay_begins = refl

-- all is written before a replay, and "ef" stays buffered; a replay makes nothing durable
pub a_replay_that_writes : rewritten 4 none_synced ≡ record none_synced { buffered = 2 }
a_replay_that_writes = refl

pub it_writes : (buffer_size : NonZeroUsize) → use_of_step 4 (Replay buffer_size) none_synced ≡ Changes 2
it_writes buffer_size = refl

pub it_leaves_what_is_written : (buffer_size : NonZeroUsize) → use_of_step 4 (Replay buffer_size) six_stand ≡ Leaves
it_leaves_what_is_written buffer_size = refl

-- three bytes are taken of the six at hand, and of two at hand no more than two
pub three_are_passed : passed 3 (record six_replayed { hand = 6 }) ≡ record six_replayed { position = 3; hand = 3 }
three_are_passed = refl

pub two_are_passed : passed 3 (record six_replayed { hand = 2 }) ≡ record six_replayed { position = 2; hand = 0 }
two_are_passed = refl

-- an `Ensure` with a page at hand answers that one byte is at hand, and can't answer that none is
pub one_is_at_hand : HasEnsured six_replayed 1 true (record six_replayed { hand = 4 })
one_is_at_hand = record {
  fetched = record { stays = refl; more = omega arith; within = omega arith };
  exact = refl;
  enough = λ yes. omega arith;
  rest = λ no. absurd (false≢true (sym no));
  most = omega arith;
}

pub none_is_not_said : (now : RunReplay) → HasEnsured six_replayed 1 false now → ⊥
none_is_not_said now says = false≢true says.exact

-- an `Ensure` may not fetch the whole blob for one byte
pub not_all_is_fetched : HasEnsured six_replayed 1 true (record six_replayed { hand = 6 }) → ⊥
not_all_is_fetched says = absurd (omega (arith, says.most))

-- where all that is left is after the full pages, no device is asked
pub the_rest_is_had : needs_no_device (Some (record six_replayed { position = 4 })) 2 ≡ true
the_rest_is_had = refl

pub a_page_is_not : needs_no_device (Some six_replayed) 1 ≡ false
a_page_is_not = refl

-- an offset past the end is refused, and the end is not
pub past_the_end : HasCause 4 (Seek 0 7) (replaying 4 64 six_stand) durable durable BlobInsufficientLength
past_the_end = lit< tt

-- a truncate that is called forgets the replay, whose number isn't given again
pub a_cut_forgets : (at_step (Truncate 2) (replaying 4 64 six_stand)).replays ≡ None ∷ []
a_cut_forgets = refl

pub it_is_gone : turned_away (Ensure 0 1) (at_step (Truncate 2) (replaying 4 64 six_stand)) ≡ Some NoSuch
it_is_gone = refl

pub no_such_replay : turned_away (Take 0 1) six_stand ≡ Some NoSuch
no_such_replay = refl

-- a replay that was let go is gone, also for a second such step, and the next one has the next
-- number
abbrev six_dropped : RunState
six_dropped = without_replay 0 (replaying 4 64 six_stand)

pub it_is_let_go : Accepts add_sum 4 (DropReplay 0) Done durable durable (replaying 4 64 six_stand) six_dropped
it_is_let_go = refl

pub it_was_let_go : turned_away (Take 0 1) six_dropped ≡ Some NoSuch
it_was_let_go = refl

pub not_twice : turned_away (DropReplay 0) six_dropped ≡ Some NoSuch
not_twice = refl

pub the_next_replay : (replaying 4 64 six_dropped).replays ≡ None ∷ Some six_replayed ∷ []
the_next_replay = refl

-- a replay goes on in a closed session
pub it_goes_on_closed : turned_away (Ensure 0 1) (ended six (replaying 4 64 six_stand)) ≡ None
it_goes_on_closed = refl

-- a crash of a blob in which all is durable may leave it as it is, and that is fair
pub a_crash : Crashes add_sum 4 true durable durable
a_crash = record {
  crashed = record { image = base_is_image durable; durable = record { since = refl; base = refl } };
  free = λ fair. distinct_at_rest add_sum 4 durable durable.base refl (base_is_image durable);
}
