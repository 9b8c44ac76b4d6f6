-- Examples of the parts of a standing, of the bytes that a read answers, and of the causes of an error. The writer of `six_stand` has
-- "abcdef", of which "ef" is buffered, of eight bytes.
use Rattle.std.proofs.Common.{◌≡◌, ◌<◌, ℕ, zero, suc, Vec, List, [], ◌∷◌, ◌++◌, refl, sym, ap, inl, inr, arith, true, false}
use Rattle.std.specs.Prelude.{Some, None, get_or}
use Rattle.std.specs.declared.alloc.Global.{Global}
use Rattle.std.proofs.lemmas.Bool.{false≢true}
use Rattle.disk.specs.Disk.{Disk, failed_at}
use Rattle.disk.specs.declared.error.Error.TheVariants.{WriteFailed, BlobInsufficientLength, OffsetOverflow, OutOfMemory}
use Rattle.page.specs.Geometry.{EndWithin}
use Rattle.page.specs.Sums.{add_sum}
use Rattle.writer_state.specs.declared.sync_state.SyncState.TheVariants.{Clean, Dirty, Pending}
use Rattle.writer_state.proofs.Examples.{durable, six, seven, flush_started, all_is_covered, rewritten}
use Rattle.paged_read.specs.Tail.{Tail}
use Rattle.paged_read.specs.Replay.{new_replay}
use Rattle.session.specs.declared.steps.Step.TheVariants.{Append, Sync, Size, Read, Seek, Truncate}
use Rattle.session.specs.declared.steps.Reply.TheVariants.{Length, Fault, Closed, NotAppending}
use Rattle.session.specs.Run.{RunReplay, RunState, fits_buffer, written_after, moved, forgetting, raised_floor, lowered, has_name, count_open, numbered, has_snapshot_at, has_replay_at, replay_size, in_order_from, unless_appending, ended}
use Rattle.session.specs.Run.{is_complete, NamesFit, RiseBelow, FaultsComeFirst, StepFaults, HasCause, faults, no_faults, replaying, RefusesStep, TakesStep, AnswersStep}
use Rattle.session.specs.Run.{IsSlice, SlicesUpTo, SlicesAll, NumbersSome, HasFetched, HasCompleted, AwaitedSyncFailed, HadNoRoom, content_after, other_content, AllCover, pending_in, WriterFits, replay_in_run}
use Rattle.session.specs.Promise.{fresh}
use Rattle.session.proofs.Examples.{six_stand, none_synced, six_started}
use Rattle.session.proofs.ComesBackExamples.{ab, saved, ab_writer}
use Rattle.session.proofs.PromiseExamples.{ab_writer_stands}
use Rattle.session.proofs.RefusedExamples.{started, complete}

-- ---- the buffer

pub six_bytes_more_fit : fits_buffer six_stand 6 ≡ true
six_bytes_more_fit = refl

pub seven_do_not : fits_buffer six_stand 7 ≡ false
seven_do_not = refl

pub no_byte_leaves_all_written : written_after [] true ≡ true
no_byte_leaves_all_written = refl

pub a_byte_does_not : written_after (103 ∷ []) true ≡ false
a_byte_does_not = refl

-- ---- floors, and what started syncs cover

-- a started sync raises the floor once it is complete, and not before
pub a_complete_sync_raises_it : raised_floor complete ((0, 2) ∷ []) 0 ≡ 2
a_complete_sync_raises_it = refl

pub a_started_one_does_not : raised_floor started ((0, 2) ∷ []) 0 ≡ 0
a_started_one_does_not = refl

-- the floor never falls by a started sync
pub it_does_not_fall : raised_floor complete ((0, 2) ∷ []) 5 ≡ 5
it_does_not_fall = refl

-- a cut lowers the floor, and what is covered, to what is left
pub a_cut_lowers_both : lowered 4 (record six_started { floor = 6 }) ≡ record six_started { floor = 4; covers = (0, 4) ∷ [] }
a_cut_lowers_both = refl

pub a_cut_past_the_end_does_not : lowered 7 six_stand ≡ six_stand
a_cut_past_the_end_does_not = refl

pub a_complete_sync : HasCompleted (Some 0) complete
a_complete_sync = refl

pub none_to_complete : HasCompleted None started
none_to_complete = tt

pub not_yet_complete : HasCompleted (Some 0) started → ⊥
not_yet_complete is = absurd (false≢true is)

pub it_is_complete : is_complete complete 0 ≡ true
it_is_complete = refl

pub no_other_is : is_complete complete 1 ≡ false
no_other_is = refl

-- a sync that was started after "abcdefg" was written covers it; one that wasn't started covers nothing
pub all_seven_are_covered : AllCover add_sum 4 seven ((0, 7) ∷ []) flush_started
all_seven_are_covered zero c lt = all_is_covered
all_seven_are_covered (suc k) c lt = absurd (omega (arith, lt))

pub no_cover_without_a_start : AllCover add_sum 4 seven ((0, 7) ∷ []) rewritten → ⊥
no_cover_without_a_start cover = absurd (cc ((cover 0 (0, 7) (omega arith)).named))

-- ---- names, snapshots and replays

pub its_name : has_name six_started 0 ≡ true
its_name = refl

pub no_second_name : has_name six_started 1 ≡ false
no_second_name = refl

-- a session that was given that name fits, and one that was given another doesn't
pub the_name_fits : NamesFit (0 ∷ []) six_started.covers
the_name_fits = λ name. refl

pub another_name_does_not : NamesFit (1 ∷ []) six_started.covers → ⊥
another_name_does_not fit = absurd (false≢true (fit 0))

pub the_first_of_two : numbered (Some ab ∷ None ∷ []) 0 ≡ Some ab
the_first_of_two = refl

pub the_second_was_let_go : numbered (Some ab ∷ None ∷ []) 1 ≡ None
the_second_was_let_go = refl

pub there_is_no_third : numbered (Some ab ∷ None ∷ []) 2 ≡ None
there_is_no_third = refl

-- of three one was let go
pub two_are_open : count_open (Some ab ∷ None ∷ Some ab ∷ []) ≡ 2
two_are_open = refl

pub it_has_a_snapshot : has_snapshot_at (record six_stand { snapshots = Some ab ∷ None ∷ [] }) 0 ≡ true
it_has_a_snapshot = refl

pub it_has_let_one_go : has_snapshot_at (record six_stand { snapshots = Some ab ∷ None ∷ [] }) 1 ≡ false
it_has_let_one_go = refl

-- a replay of "abcdef" with two bytes at hand
abbrev pub two_at_hand : RunReplay
two_at_hand = record { content = six; whole = 4; position = 0; hand = 2; batch = 4 }

abbrev pub with_replays : RunState
with_replays = record six_stand { replays = Some two_at_hand ∷ None ∷ [] }

pub it_has_a_replay : has_replay_at with_replays 0 ≡ true
it_has_a_replay = refl

pub it_has_forgotten_one : has_replay_at with_replays 1 ≡ false
it_has_forgotten_one = refl

pub it_goes_over_six : replay_size with_replays 0 ≡ 6
it_goes_over_six = refl

pub none_goes_over_nothing : replay_size with_replays 1 ≡ 0
none_goes_over_nothing = refl

pub all_are_forgotten : (forgetting with_replays).replays ≡ None ∷ None ∷ []
all_are_forgotten = refl

pub the_first_moves : (moved 0 (record two_at_hand { position = 2; hand = 0 }) with_replays).replays ≡ Some (record two_at_hand { position = 2; hand = 0 }) ∷ None ∷ []
the_first_moves = refl

-- two bytes more are at hand; none is lost, and none past the end comes to hand
pub two_more : HasFetched two_at_hand (record two_at_hand { hand = 4 })
two_more = record { stays = refl; more = omega arith; within = omega arith }

pub none_is_given_up : HasFetched two_at_hand (record two_at_hand { hand = 1 }) → ⊥
none_is_given_up has = omega (arith, has.more)

pub none_past_the_end : HasFetched two_at_hand (record two_at_hand { hand = 7 }) → ⊥
none_past_the_end has = omega (arith, has.within)

pub it_does_not_move : HasFetched two_at_hand (record two_at_hand { position = 1; hand = 2 }) → ⊥
it_does_not_move has = omega (arith, ap (λ (r : RunReplay). r.position) has.stays)

-- a replay of "abcdef" as a session has it, of four bytes in a full page and two in memory
abbrev six_tail : Tail
six_tail = record { page_size = 4; id = 0; full_pages = 1; bytes = 101 ∷ 102 ∷ [] }

pub a_replay_is_told : replay_in_run durable.readable (record (new_replay six_tail 64) { batch = 1 }) ≡ record two_at_hand { hand = 0 }
a_replay_is_told = refl

-- ---- phases

pub no_snapshot_yet : unless_appending six_stand ≡ Some NotAppending
no_snapshot_yet = refl

pub it_appends : unless_appending (record six_stand { recovering = false }) ≡ None
it_appends = refl

pub it_is_closed : unless_appending (record six_stand { has_writer = false }) ≡ Some Closed
it_is_closed = refl

pub a_clean_writer_awaits_none : pending_in Clean ≡ None
a_clean_writer_awaits_none = refl

pub nor_does_a_dirty_one : pending_in Dirty ≡ None
nor_does_a_dirty_one = refl

pub one_with_a_name_does : pending_in (Pending 3) ≡ Some 3
one_with_a_name_does = refl

pub a_writer_fits : WriterFits 4 (Some ab_writer) (fresh 4 8 ab) saved
a_writer_fits = ab_writer_stands

pub no_writer_does_not : WriterFits 4 None (fresh 4 8 ab) saved → ⊥
no_writer_does_not fits = absurd (false≢true (sym fits))

-- ---- slices

-- two ranges touch
pub touching : in_order_from 2 ((2, 2) ∷ (4, 0) ∷ []) ≡ true
touching = refl

pub one_begins_too_early : in_order_from 3 ((2, 2) ∷ []) ≡ false
one_begins_too_early = refl

pub three_of_six : IsSlice six 2 3 (99 ∷ 100 ∷ 101 ∷ [])
three_of_six = (omega arith, refl)

pub none_past_six : (bytes : List ℕ) → IsSlice six 5 2 bytes → ⊥
none_past_six bytes slices = omega (arith, slices.0)

pub not_the_next_three : IsSlice six 2 3 (100 ∷ 101 ∷ 102 ∷ []) → ⊥
not_the_next_three slices = omega (arith, ap (λ (l : List ℕ). get_or l 0 0) slices.1)

-- the last byte, where four are asked for; and no byte, where none is asked for
pub the_last_byte : SlicesUpTo six 5 4 (102 ∷ [])
the_last_byte = (inr (omega arith), refl)

pub none_of_none : SlicesUpTo six 9 0 []
none_of_none = (inl refl, refl)

pub none_at_the_end : SlicesUpTo six 6 1 [] → ⊥
none_at_the_end slices = elim slices.0 [ inl none ↦ omega (arith, none) | inr before ↦ omega (arith, before) ]

abbrev a_and_ef : List (ℕ × ℕ)
a_and_ef = (0, 1) ∷ (4, 2) ∷ []

both_within : EndWithin 6 a_and_ef
both_within zero range lt = omega (arith, lt)
both_within (suc zero) range lt = omega (arith, lt)
both_within (suc (suc k)) range lt = absurd (omega (arith, lt))

pub one_and_two : SlicesAll six a_and_ef (97 ∷ 101 ∷ 102 ∷ [])
one_and_two = (both_within, refl)

pub not_the_other_way : SlicesAll six a_and_ef (101 ∷ 102 ∷ 97 ∷ []) → ⊥
not_the_other_way slices = omega (arith, ap (λ (l : List ℕ). get_or l 0 0) slices.1)

-- numbers of three ranges rise; none comes twice, and none is past them
pub two_numbers_rise : RiseBelow 0 3 (0 ∷ 2 ∷ [])
two_numbers_rise = (omega arith, omega arith, (omega arith, omega arith, tt))

pub none_comes_twice : RiseBelow 0 3 (1 ∷ 1 ∷ []) → ⊥
none_comes_twice rise = omega (arith, rise.2.0)

pub none_is_past_them : RiseBelow 0 3 (3 ∷ []) → ⊥
none_is_past_them rise = omega (arith, rise.1)

pub the_second_is_missed : NumbersSome six a_and_ef (1 ∷ [])
the_second_is_missed = ((omega arith, omega arith, tt), inl both_within)

pub there_is_no_third_to_miss : NumbersSome six a_and_ef (2 ∷ []) → ⊥
there_is_no_third_to_miss numbers = omega (arith, numbers.0.1)

-- ---- causes

pub past_all_numbers : HasCause 4 (Read 18446744073709551615 1) six_stand durable durable OffsetOverflow
past_all_numbers = omega arith

pub within_the_numbers : HasCause 4 (Read 0 6) six_stand durable durable OffsetOverflow → ⊥
within_the_numbers over = omega (arith, over)

-- three bytes from the fifth on pass the end, and two end there
pub three_pass_the_end : HasCause 4 (Read 4 3) six_stand durable durable BlobInsufficientLength
three_pass_the_end = (omega arith, omega arith)

pub two_do_not : HasCause 4 (Read 4 2) six_stand durable durable BlobInsufficientLength → ⊥
two_do_not passes = omega (arith, passes.1)

-- so the standing alone gives the fault, which comes before any other reply
pub the_end_is_foretold : FaultsComeFirst 4 (Read 4 3) (Fault BlobInsufficientLength) six_stand
the_end_is_foretold = (λ over. absurd (omega (arith, over)), λ passes. refl)

pub no_other_fault_is : FaultsComeFirst 4 (Read 4 3) (Fault OutOfMemory) six_stand → ⊥
no_other_fault_is foretold = let is : Fault OutOfMemory ≡ Fault BlobInsufficientLength = foretold.1 three_pass_the_end in absurd (cc is)

-- a sync that has something to do may ask for memory
pub a_sync_allocates : HasCause 4 Sync none_synced durable durable OutOfMemory
a_sync_allocates = refl

-- a seek asks no device, and its one error is the end
abbrev pub faults_of_a_seek : StepFaults
faults_of_a_seek = record { device = []; overflow = ⊥; end = 6 < 7; memory = ⊥ }

pub a_seek_has_one_fault : faults 4 (Seek 0 7) (replaying 4 64 six_stand) ≡ faults_of_a_seek
a_seek_has_one_fault = refl

pub a_size_has_none : faults 4 Size six_stand ≡ no_faults
a_size_has_none = refl

-- a refused read doesn't end the writer, and a refused sync does
pub a_read_ends_nothing : RefusesStep (Read 4 3) BlobInsufficientLength durable durable six_stand (ended six six_stand) → ⊥
a_read_ends_nothing is = absurd (false≢true (ap (λ (s : RunState). s.has_writer) is))

pub a_sync_ends_the_writer : RefusesStep Sync WriteFailed durable durable six_stand six_stand → ⊥
a_sync_ends_the_writer is = absurd (false≢true (sym (ap (λ (s : RunState). s.has_writer) is)))

-- ---- replies

pub a_size_is_taken : TakesStep add_sum 4 Size (Length 6) durable durable six_stand six_stand
a_size_is_taken = (refl, refl)

pub and_answered : AnswersStep add_sum 4 Size (Length 6) durable durable six_stand six_stand
and_answered = ((refl, refl), (λ over. absurd over, λ passes. absurd passes))

-- where there is no writer a step for the size is turned away
pub or_turned_away : AnswersStep add_sum 4 Size Closed durable durable (ended six six_stand) (ended six six_stand)
or_turned_away = (refl, refl)

pub and_not_answered : AnswersStep add_sum 4 Size (Length 6) durable durable (ended six six_stand) (ended six six_stand) → ⊥
and_not_answered answers = absurd (cc answers.0)

-- ---- failures

-- the started sync, after a wait for it failed
abbrev pub failed_sync : Disk
failed_sync = record started { started = failed_at 0 started.started }

pub it_had_failed : AwaitedSyncFailed (Some 0) failed_sync
it_had_failed = refl

pub it_had_not : AwaitedSyncFailed (Some 0) started → ⊥
it_had_not failed = absurd (false≢true failed)

pub none_had_failed : AwaitedSyncFailed None failed_sync → ⊥
none_had_failed failed = failed

pub no_room : HadNoRoom OutOfMemory durable durable six_stand six_stand
no_room = (refl, refl, refl)

pub no_other_error : HadNoRoom WriteFailed durable durable six_stand six_stand → ⊥
no_other_error had = absurd (cc had.0)

pub nothing_else_is_done : HadNoRoom OutOfMemory durable durable six_stand none_synced → ⊥
nothing_else_is_done had = omega (arith, ap (λ (s : RunState). s.buffered) had.2)

-- ---- the other content

pub two_are_left : content_after (Truncate 2) six ≡ ab
two_are_left = refl

pub they_stand_behind : (bytes : Vec ℕ Global) → content_after (Append bytes) six ≡ six ++ bytes.items
they_stand_behind bytes = refl

pub a_sync_leaves_it : content_after Sync six ≡ six
a_sync_leaves_it = refl

-- while a truncate goes on a crash may leave its content, and after a refused truncate too
pub it_may_be_cut : other_content (Truncate 2) six_stand ≡ ab
it_may_be_cut = refl

pub it_may_have_been : other_content Sync (ended ab six_stand) ≡ ab
it_may_have_been = refl
