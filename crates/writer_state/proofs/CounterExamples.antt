-- What the words of a disk, of pages, of a crash and of a sound writer don't hold of, though it is
-- nearly right; and an example for each word that had none. Pages have 4 bytes, and the checksum is
-- their sum.
use Rattle.std.proofs.Common.{◌≡◌, inl, inr, ℕ, List, [], ◌∷◌, ◌++◌, length, refl, ap, arith, Ok, Err}
use Rattle.std.specs.Prelude.{Some, None, get_or, true, false}
use Rattle.disk.specs.Disk.{IsWhole, LogGrows, SomeFailed, HasFailed, logged, next}
use Rattle.disk.specs.Disk.Operation.{Write}
use Rattle.disk.specs.Disk.Request.{ReadAt, WriteAt}
use Rattle.disk.specs.declared.error.Error.TheVariants.{ReadFailed, WriteFailed, SyncFailed, BlobInsufficientLength}
use Rattle.page.specs.Geometry.{EndWithin, RangeGoes, RangesGo}
use Rattle.page.specs.Sums.{add_sum}
use Rattle.page.specs.declared.slot.Slot.TheVariants.{First, Second}
use Rattle.page.specs.declared.slot.ActiveChecksum.{ActiveChecksum}
use Rattle.page.proofs.Examples.{abcd_page, ef_page, efg_page}
use Rattle.crash.specs.Built.{kept_len}
use Rattle.crash.specs.Guard.{Fixed, IsPinned, SlotGuard, TipGuard, Guards}
use Rattle.crash.specs.Distinct.{IsCutZero, IsGood, PageIsGood, IsGoodFrom, DurableTells}
use Rattle.crash.specs.Kept.{AllKeep, AllOnly, Each, Moments, Through}
use Rattle.crash.specs.Stays.{KeepsFloors, LeavesOnly}
use Rattle.crash.specs.Started.{AllSettled}
use Rattle.crash.specs.Moments.{through_end}
use Rattle.crash.proofs.Disks.{base_is_image, fixed_at_rest, whole_is_image}
use Rattle.crash.proofs.Promise.{guarded_is_kept, whole_is_chance_free}
use Rattle.writer_state.specs.Sound.{HasTipPage, TipPage, StateFits, StartsFit, IsWrittenOut, IsRepeated, IsSafe, IsSound, LeavesItsContent}
use Rattle.writer_state.specs.declared.sync_state.SyncState.TheVariants.{Clean, Dirty, Pending}
use Rattle.writer_state.proofs.Examples.{at_rest, durable, rewritten, six, seven, ef_slot, with_g, before, after, all_keep, a_lost_floor, a_sound_writer, an_unsound_writer, it_stands, it_is_pending, new_slot_moves, cut_page, was_read, flush_started, ef_holds}
use Rattle.writer_state.proofs.PartExamples.{torn_page}

-- ---- disks

-- a write of two bytes of which one was done is no whole state
pub no_torn_whole : IsWhole (1 ∷ 2 ∷ []) (Write 0 (8 ∷ 9 ∷ []) ∷ []) (8 ∷ 2 ∷ []) → ⊥
no_torn_whole (inl old) = omega (arith, ap (λ (l : List ℕ). get_or l 0 0) old)
no_torn_whole (inr new) = omega (arith, ap (λ (l : List ℕ). get_or l 1 0) new)

pub a_write_failed : SomeFailed WriteFailed (record { request = ReadAt 0 16; failed = false } ∷ record { request = WriteAt 0 16 false; failed = true } ∷ [])
a_write_failed = inr (inl (refl, refl))

-- a write that failed isn't a sync that failed: each call has its own error
pub no_sync_failed : SomeFailed SyncFailed (record { request = WriteAt 0 16 false; failed = true } ∷ []) → ⊥
no_sync_failed (inl (failed, is)) = absurd (cc is)
no_sync_failed (inr none) = none

-- a write that didn't fail has no error
pub no_write_failed : SomeFailed WriteFailed (record { request = WriteAt 0 16 false; failed = false } ∷ []) → ⊥
no_write_failed (inl (failed, is)) = absurd (cc failed)
no_write_failed (inr none) = none

pub a_read_failed : HasFailed ReadFailed durable (logged (ReadAt 0 16) true durable)
a_read_failed = (record { request = ReadAt 0 16; failed = true } ∷ [], refl, inl (refl, refl))

-- a read that failed before a moment didn't fail after it
pub no_read_failed_since : HasFailed ReadFailed (logged (ReadAt 0 16) true durable) (logged (ReadAt 0 16) true durable) → ⊥
no_read_failed_since ([], is, some) = some
no_read_failed_since (e ∷ es, is, some) = absurd (omega (arith, ap length is))

-- a log keeps its calls
pub no_log_shrinks : LogGrows was_read durable → ⊥
no_log_shrinks (more, is) = omega (arith, ap length is)

-- ---- ranges

pub no_range_past_the_end : EndWithin 6 ((0, 2) ∷ (4, 3) ∷ []) → ⊥
no_range_past_the_end ends = absurd (omega (arith, ends 1 (4, 3) (omega arith)))

-- a range up to the end gives no error, and one past it can't be read
pub no_error_at_the_end : RangeGoes 6 (4, 2) (Err BlobInsufficientLength) → ⊥
no_error_at_the_end goes = omega (arith, goes.1)

pub no_read_past_the_end : RangeGoes 6 (4, 3) (Ok tt) → ⊥
no_read_past_the_end goes = omega (arith, goes)

pub not_all_are_read : RangesGo 6 ((0, 2) ∷ (4, 3) ∷ []) (Ok tt) → ⊥
not_all_are_read goes = no_range_past_the_end goes

-- ---- slots

-- a zero that a cut leaves is a zero, and stands within the base
pub a_one_is_no_zero : IsCutZero cut_page 0 1 → ⊥
a_one_is_no_zero is = omega (arith, is.0)

pub no_zero_behind_the_base : IsCutZero cut_page 16 0 → ⊥
no_zero_behind_the_base is = omega (arith, is.1)

-- a slot with length 3 that verifies over nothing isn't good, nor is its page, nor is a blob of
-- that page
pub it_is_bad : IsGood add_sum 4 Second torn_page → ⊥
it_is_bad good = omega (arith, good (omega arith) (omega arith))

pub its_page_is_bad : PageIsGood add_sum 4 0 torn_page → ⊥
its_page_is_bad good = it_is_bad (good torn_page refl Second)

pub all_is_good_from_the_second_on : IsGoodFrom add_sum 4 1 durable
all_is_good_from_the_second_on = a_sound_writer.good

pub not_all_is_good : IsGoodFrom add_sum 4 0 (at_rest torn_page) → ⊥
not_all_is_good good = its_page_is_bad (good torn_page refl 0 (omega arith))

-- "ef" has the checksum in its slot, and not the checksum 204
pub it_tells_ef : DurableTells add_sum (101 ∷ 102 ∷ 103 ∷ []) (Some ef_slot)
it_tells_ef = refl

pub it_tells_no_other : DurableTells add_sum (101 ∷ 102 ∷ 103 ∷ []) (Some (record { slot = First; len = 2; crc = 204 })) → ⊥
it_tells_no_other tells = omega (arith, tells)

-- ---- what a crash keeps

-- all of a blob with nothing unsynced is fixed
pub ef_is_fixed : Fixed durable 16 (101 ∷ 102 ∷ [])
ef_is_fixed = fixed_at_rest durable 16 (101 ∷ 102 ∷ []) refl (omega arith) refl

-- the slot of "efg", which isn't synced, guards nothing
abbrev pub efg_slot : ActiveChecksum
efg_slot = record { slot = Second; len = 3; crc = 306 }

pub efg_is_not_held : IsPinned add_sum 4 rewritten 1 Second (0 ∷ 3 ∷ 0 ∷ 0 ∷ 1 ∷ 50 ∷ []) (101 ∷ 102 ∷ 103 ∷ []) → ⊥
efg_is_not_held held = new_slot_moves held.fixed_slot

pub ef_guards : SlotGuard add_sum 4 six durable 1 ef_slot
ef_guards = ef_holds.guard

pub efg_does_not_guard : SlotGuard add_sum 4 seven rewritten 1 efg_slot → ⊥
efg_does_not_guard guard = efg_is_not_held guard.held

pub the_tip_is_guarded : TipGuard add_sum 4 six durable 1 (Some ef_slot)
the_tip_is_guarded = ef_holds.guard

pub no_slot_asks_nothing : TipGuard add_sum 4 seven rewritten 1 None
no_slot_asks_nothing = tt

pub the_new_tip_is_not : TipGuard add_sum 4 seven rewritten 1 (Some efg_slot) → ⊥
the_new_tip_is_not guard = efg_does_not_guard guard

-- so "g" isn't guarded
pub g_is_not_guarded : Guards add_sum 4 seven 7 rewritten → ⊥
g_is_not_guarded guards = a_lost_floor ((guarded_is_kept add_sum 4 seven 7 rewritten guards (omega arith)).kept (abcd_page ++ ef_page) (base_is_image rewritten))

-- a crash may leave "g": "abcdef" isn't all that there is
pub g_may_be_left : AllOnly add_sum 4 six six rewritten → ⊥
g_may_be_left all = elim (all.only rewritten.readable (whole_is_image rewritten rewritten.readable (inr refl)) (whole_is_chance_free add_sum 4 rewritten rewritten.readable (inr refl))) [
  | inl is ↦ omega (arith, ap length is)
  | inr is ↦ omega (arith, ap length is)
]

-- ---- at each moment

pub not_at_each : Each (λ d. length d.base ≡ 32) (durable ∷ at_rest [] ∷ []) → ⊥
not_at_each each = omega (arith, each.1.0)

pub the_moments : Moments (λ d. length d.base ≡ 32) before after
the_moments = record { moments = rewritten ∷ []; goes = refl; start = refl; each = (refl, tt) }

-- nothing was unsynced as the flush began, and something is after it
pub not_all_through : Through (λ d. d.since ≡ []) before after → ⊥
not_all_through through = omega (arith, ap length (through_end (λ d. d.since ≡ []) before after through))

pub not_at_all_moments : Moments (λ d. d.since ≡ []) before after → ⊥
unfolding Through
not_at_all_moments moments = not_all_through moments

-- a call that leaves an empty blob keeps no floor
pub no_floor_is_kept : KeepsFloors add_sum 4 six before (next before (at_rest [])) → ⊥
no_floor_is_kept keeps =
    let kept : AllKeep add_sum 4 six 6 (at_rest []) = through_end (AllKeep add_sum 4 six 6) before (next before (at_rest [])) (keeps 6 (omega arith) all_keep) in
    omega (arith, ap length (kept.kept [] (base_is_image (at_rest []))))

-- the flush of "g" may leave more than "abcdef"
pub it_leaves_more : LeavesOnly add_sum 4 six six before after → ⊥
it_leaves_more leaves = g_may_be_left (through_end (AllOnly add_sum 4 six six) before after leaves)

-- ---- started syncs

pub none_was_started : AllSettled rewritten
none_was_started = λ name c is. absurd (cc is)

pub one_is_not_settled : AllSettled flush_started → ⊥
one_is_not_settled all = omega (arith, all 0 (1, abcd_page ++ efg_page) refl)

-- ---- writers

-- the page of "ef" isn't that of a tip of "ex"
pub no_page_of_ex : HasTipPage add_sum 4 1 (101 ∷ 120 ∷ []) (abcd_page ++ ef_page) ef_slot → ⊥
no_page_of_ex has = omega (arith, ap (λ (l : List ℕ). get_or l 1 0) has.begins)

pub ef_is_the_tips_page : TipPage add_sum 4 1 (101 ∷ 102 ∷ 103 ∷ []) (abcd_page ++ ef_page) (Some ef_slot)
ef_is_the_tips_page = it_stands.tip_page

-- the blob has the page of "ef", so a tip of which nothing was written doesn't fit it
pub it_has_a_page : TipPage add_sum 4 1 (101 ∷ 102 ∷ 103 ∷ []) (abcd_page ++ ef_page) None → ⊥
it_has_a_page none = omega (arith, none)

pub clean_at_rest : StateFits durable Clean
clean_at_rest = (refl, refl)

-- a clean writer doesn't fit a disk once something is unsynced
pub not_clean_since : StateFits rewritten Clean → ⊥
not_clean_since fits = omega (arith, ap length fits.0)

pub one_is_pending : StartsFit flush_started (Pending 0)
one_is_pending = it_is_pending

-- a dirty writer has no started sync that isn't settled
pub a_dirty_one_has_none : StartsFit flush_started Dirty → ⊥
a_dirty_one_has_none fits = one_is_not_settled fits

-- where something is unsynced a flush repeats the durable slot, and not the one that was written
-- last
pub it_repeats_ef : IsRepeated Dirty (Some efg_slot) (Some ef_slot) (Some ef_slot)
it_repeats_ef = refl

pub it_does_not_repeat_efg : IsRepeated Dirty (Some efg_slot) (Some ef_slot) (Some efg_slot) → ⊥
it_does_not_repeat_efg is = omega (arith, ap kept_len is)

-- a writer with an empty tip over the page of "ef" doesn't fit what is readable, and isn't sound
pub it_does_not_stand : IsWrittenOut add_sum (record with_g { tip = []; flushed = None; durable = None }) durable → ⊥
it_does_not_stand stands = let size : 32 ≡ 16 = stands.tip_page in omega (arith, size)

pub it_is_sound : IsSound add_sum with_g durable
unfolding IsSound
it_is_sound = a_sound_writer

pub it_is_not_sound : IsSound add_sum (record with_g { tip = []; flushed = None; durable = None }) durable → ⊥
unfolding IsSound
it_is_not_sound sound = an_unsound_writer sound

-- a writer that takes nothing for durable isn't safe where "abcdef" is durable
pub it_is_not_safe : IsSafe add_sum (record with_g { full_pages = 0; flushed = None; durable = None }) seven durable → ⊥
it_is_not_safe safe = elim safe.position [
  | inl (few, none) ↦ omega (arith, safe.base, few, ap kept_len none)
  | inr (at, is) ↦ omega (arith, safe.base, at, ap kept_len is)
]

-- a crash may leave more than the content of a writer that forgot "f"
pub f_is_left : LeavesItsContent add_sum (record with_g { tip = 101 ∷ [] }) durable → ⊥
f_is_left leaves = elim (leaves.only durable.readable (base_is_image durable) (whole_is_chance_free add_sum 4 durable durable.readable refl)) [
  | inl is ↦ omega (arith, ap length is)
  | inr is ↦ omega (arith, ap length is)
]
