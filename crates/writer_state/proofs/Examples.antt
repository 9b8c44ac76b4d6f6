-- Each definition that the promise rests on, at a few bytes. Pages have 4 bytes, and the checksum
-- is their sum, where it isn't said otherwise.
use Rattle.std.proofs.Common.{◌≡◌, ◌⊎◌, inl, inr, ℕ, zero, suc, ◌+◌, ◌*◌, ◌<◌, ◌≤◌, List, [], ◌∷◌, ◌++◌, length, take, drop, refl, sym, ◌∙◌, ap, subst, arith, length-take-le, lit<}
use Rattle.std.specs.Prelude.{Some, None, Ok, true, false, slice_get, get_or}
use Rattle.std.proofs.lemmas.Option.{same_Some}
use Rattle.disk.specs.Images.{only_image}
use Rattle.disk.specs.Disk.{Disk, Operation, HasOperated, Request, Life, IsWhole, IsImage, LeavesNoMore, IsPartial, applied, failures, logged, next, life_after, settled_disk, disk_settled_to, starts}
use Rattle.disk.specs.Disk.Operation.{Write, Resize}
use Rattle.disk.specs.Disk.Request.{ReadAt, WriteAt, SyncAll}
use Rattle.disk.proofs.Lists.{joined_element, taken_element, slice_get-drop}
use Rattle.page.specs.Page.{slot_of, slot_len, slot_crc, text, pages, verified_len}
use Rattle.page.specs.Sums.{add_sum, small_add_sum, const_sum}
use Rattle.page.specs.declared.slot.Slot.{Slot}
use Rattle.page.specs.declared.slot.Slot.TheVariants.{First, Second}
use Rattle.page.specs.declared.slot.ActiveChecksum.{ActiveChecksum}
use Rattle.page.proofs.Examples.{abcd_page, ef_page, efg_page}
use Rattle.writer_state.specs.WriterState.{WriterState, after_write}
use Rattle.writer_state.specs.declared.sync_state.SyncState.TheVariants.{Clean, Dirty, Pending}
use Rattle.crash.specs.Full.{AreFull}
use Rattle.crash.specs.Built.{built}
use Rattle.crash.specs.Guard.{Fixed, IsPinned, Guards, IsTruthful, IsChanceFree}
use Rattle.crash.specs.Distinct.{IsCutZero, IsDistinct, IsGood, PageIsGood, SlotIsDistinct}
use Rattle.crash.specs.Kept.{ImageKeeps, AllKeep, AllOnly, Each, Through}
use Rattle.crash.specs.Stays.{Stays, StaysThrough, KeepsFloors, KeepsAllFloors, LeavesOnly, KeepsAll}
use Rattle.writer_state.proofs.FloorLaws.{floors_of_sound}
use Rattle.crash.specs.Looks.{SameButLog, Looked}
use Rattle.crash.specs.Shrink.{staged, published, cleared, HeldBy, HoldsText, SaysText, CutStays}
use Rattle.crash.specs.Moments.{through_end}
use Rattle.writer_state.proofs.ShortenLaws.{holds_at_rest, holds_keeps, stage_holds}
use Rattle.crash.proofs.ShrinkLaws.{held_stays_cut}
use Rattle.crash.proofs.Promise.{guards_less, keeps_at_rest, keeps_same, guards_at_rest, whole_is_chance_free}
use Rattle.crash.specs.Contents.{latest, stored}
use Rattle.writer_state.specs.Sound.{content, HasTipPage, IsWrittenOut, guard_slot, Consistency, IsConsistent, IsIntact, IsSafe, Soundness, IsSound, LeavesItsContent, IsPending}
use Rattle.crash.specs.Started.{WouldKeep, CoversStay, StartsCanBeAwaited}
use Rattle.crash.specs.Below.{SamePages, PagesStay}
use Rattle.crash.proofs.Disks.{whole_is_image, torn_is_image, base_is_image, partial_whole, fixed_at_rest}
use Rattle.crash.proofs.Moments.{stays_itself, kept_through, only_through}
use Rattle.crash.proofs.Spared.{held_through_flush}
use Rattle.writer_state.proofs.Soundness.{sound_leaves, page_consistent, page_sound, empty_sound, operated_stays, operated_consistent, consistent_of, sound_of}
use Rattle.writer_state.proofs.StartedLaws.{start_consistent, settle_covers}
use Rattle.writer_state.proofs.StandLaws.{starts_stand}
use Rattle.crash.proofs.BelowLaws.{pages_one}

-- ---- disks

-- these bytes are readable and durable
abbrev pub at_rest : List ℕ → Disk
at_rest bytes = record { readable = bytes; base = bytes; since = []; settled = 0; started = []; log = [] }

-- a disk on which one more operation was done that isn't durable
abbrev pub and_then : Operation → Request → Disk → Disk
and_then o request d = record d { readable = applied o d.readable; since = d.since ++ o ∷ []; log = d.log ++ record { request = request; failed = false } ∷ [] }

-- a write after the end: the gap is filled with zeros
pub a_write_after : applied (Write 3 (9 ∷ 9 ∷ [])) (1 ∷ []) ≡ 1 ∷ 0 ∷ 0 ∷ 9 ∷ 9 ∷ []
a_write_after = refl

-- a write within
pub a_write_within : applied (Write 1 (9 ∷ 9 ∷ [])) (1 ∷ 2 ∷ 3 ∷ 4 ∷ []) ≡ 1 ∷ 9 ∷ 9 ∷ 4 ∷ []
a_write_within = refl

-- a resize to fewer bytes cuts
pub a_cut : applied (Resize 2) (1 ∷ 2 ∷ 3 ∷ []) ≡ 1 ∷ 2 ∷ []
a_cut = refl

-- a resize to more bytes adds zeros
pub an_extension : applied (Resize 3) (1 ∷ []) ≡ 1 ∷ 0 ∷ 0 ∷ []
an_extension = refl

-- both of two operations are done
pub the_latest : latest (1 ∷ 2 ∷ []) (Write 1 (9 ∷ []) ∷ Resize 3 ∷ []) ≡ 1 ∷ 9 ∷ 0 ∷ []
the_latest = refl

-- a write that isn't synced makes two whole states; the old bytes are one
pub the_old_whole : IsWhole (1 ∷ 2 ∷ []) (Write 0 (9 ∷ []) ∷ []) (1 ∷ 2 ∷ [])
the_old_whole = inl refl

-- the new bytes are the other
pub the_new_whole : IsWhole (1 ∷ 2 ∷ []) (Write 0 (9 ∷ []) ∷ []) (9 ∷ 2 ∷ [])
the_new_whole = inr refl

-- of two calls one failed
pub one_failure : failures (record { request = WriteAt 0 2 false; failed = true } ∷ record { request = SyncAll; failed = false } ∷ []) ≡ 1
one_failure = refl

-- a list's first bytes and the rest of another one have a byte of either list at each offset
spliced : (k : ℕ) (front back : List ℕ) → k ≤ length front → (at byte : ℕ) → slice_get (take k front ++ drop k back) at ≡ Some byte → (slice_get front at ≡ Some byte) ⊎ (slice_get back at ≡ Some byte)
spliced k front back le at byte is = elim (joined_element (take k front) (drop k back) at byte is) [
  | inl first ↦ inl (taken_element k front at byte first)
  | inr second ↦ inr (
      let there : at ≡ k + second.0 = second.1 ∙ ap (λ (n : ℕ). n + second.0) (length-take-le k front le) in
      subst (λ (n : ℕ). slice_get back n ≡ Some byte) (sym there) (sym (slice_get-drop k back second.0) ∙ second.2))
]

-- a write of three bytes of which only the first is done
pub a_torn_write : IsPartial (Write 0 (7 ∷ 8 ∷ 9 ∷ [])) (1 ∷ 2 ∷ 3 ∷ []) (7 ∷ 2 ∷ 3 ∷ [])
a_torn_write = record {
  length = inl (omega arith, omega arith);
  each = λ at byte is. elim (spliced 1 (7 ∷ 8 ∷ 9 ∷ []) (1 ∷ 2 ∷ 3 ∷ []) (omega arith) at byte is) [ inl new ↦ inr new | inr old ↦ inl old ];
}

-- a cut from three bytes to one that stopped at two
pub a_torn_cut : IsPartial (Resize 1) (1 ∷ 2 ∷ 3 ∷ []) (1 ∷ 2 ∷ [])
a_torn_cut = record {
  length = inr (omega arith, omega arith);
  each = λ at byte is. inl (taken_element 2 (1 ∷ 2 ∷ 3 ∷ []) at byte is);
}

-- an extension from one byte to three that stopped at two
pub a_torn_extension : IsPartial (Resize 3) (1 ∷ []) (1 ∷ 0 ∷ [])
a_torn_extension = record {
  length = inl (omega arith, omega arith);
  each = λ at byte is. inr (taken_element 2 (1 ∷ 0 ∷ 0 ∷ []) at byte is);
}

-- of three bytes the first was rewritten without a sync: a crash may leave it old
pub an_old_image : IsImage (and_then (Write 0 (7 ∷ [])) (WriteAt 0 1 false) (at_rest (1 ∷ 2 ∷ 3 ∷ []))) (1 ∷ 2 ∷ 3 ∷ [])
an_old_image = base_is_image (and_then (Write 0 (7 ∷ [])) (WriteAt 0 1 false) (at_rest (1 ∷ 2 ∷ 3 ∷ [])))

-- three bytes were rewritten without a sync: a crash may leave the first one new and the others old
pub a_torn_image : IsImage (and_then (Write 0 (7 ∷ 8 ∷ 9 ∷ [])) (WriteAt 0 3 false) (at_rest (1 ∷ 2 ∷ 3 ∷ []))) (7 ∷ 2 ∷ 3 ∷ [])
a_torn_image = torn_is_image (and_then (Write 0 (7 ∷ 8 ∷ 9 ∷ [])) (WriteAt 0 3 false) (at_rest (1 ∷ 2 ∷ 3 ∷ []))) (7 ∷ 2 ∷ 3 ∷ []) (7 ∷ 2 ∷ 3 ∷ [], a_torn_write, refl)

-- a crash leaves no byte that is neither durable nor written there since
pub no_other_byte : IsImage (at_rest (1 ∷ [])) (2 ∷ []) → ⊥
no_other_byte is_image = elim (is_image.each 0 2 refl) [
  | inl base ↦ absurd (omega (arith, same_Some 1 2 base))
  | inr (inl written) ↦ written
  | inr (inr zero_byte) ↦ absurd (omega (arith, zero_byte.0))
]

-- ---- what a crash keeps

-- a durable blob: "abcd" and "ef"
abbrev pub durable : Disk
durable = at_rest (abcd_page ++ ef_page)

-- "abcdef"
abbrev pub six : List ℕ
six = 97 ∷ 98 ∷ 99 ∷ 100 ∷ 101 ∷ 102 ∷ []

-- "abcdefg"
abbrev pub seven : List ℕ
seven = 97 ∷ 98 ∷ 99 ∷ 100 ∷ 101 ∷ 102 ∷ 103 ∷ []

-- the page of "ef" was then rewritten as "efg", without a sync
abbrev pub rewritten : Disk
rewritten = and_then (Write 16 efg_page) (WriteAt 16 16 false) durable

-- the six bytes of these two pages begin with the first five of "abcdefg"
pub a_kept_floor : ImageKeeps add_sum 4 seven 5 (abcd_page ++ ef_page)
a_kept_floor = refl

-- the seven bytes aren't all there
pub a_lost_floor : ImageKeeps add_sum 4 seven 7 (abcd_page ++ ef_page) → ⊥
a_lost_floor keeps = omega (arith, ap length keeps)

-- every image of the durable blob has "abcdef" as its text
pub all_keep : AllKeep add_sum 4 six 6 durable
all_keep = keeps_at_rest add_sum 4 durable refl

-- the payloads of the first page
pub the_stored : stored 4 1 (abcd_page ++ ef_page) ≡ 97 ∷ 98 ∷ 99 ∷ 100 ∷ []
the_stored = refl

-- the first page is full, by its four bytes
pub are_full : AreFull add_sum 4 (abcd_page ∷ [])
are_full = (refl, tt)

-- the second page isn't full
pub are_not_full : AreFull add_sum 4 (ef_page ∷ []) → ⊥
are_not_full full = omega (arith, full.0)

-- ---- why

-- the slot of "ef", as its writer knows it
abbrev pub ef_slot : ActiveChecksum
ef_slot = record { slot = First; len = 2; crc = 203 }

-- page 1 of the durable blob is pinned by its first slot: "ef", its six bytes and the page's end
-- are fixed
pub ef_is_held : IsPinned add_sum 4 durable 1 First (0 ∷ 2 ∷ 0 ∷ 0 ∷ 0 ∷ 203 ∷ []) (101 ∷ 102 ∷ [])
ef_is_held = record {
  some = omega arith;
  fits = omega arith;
  payload = fixed_at_rest durable 16 (101 ∷ 102 ∷ []) refl (omega arith) refl;
  is_slot = record { size = refl; len = refl; crc = refl };
  fixed_slot = fixed_at_rest durable 20 (0 ∷ 2 ∷ 0 ∷ 0 ∷ 0 ∷ 203 ∷ []) refl (omega arith) refl;
  end = fixed_at_rest durable 32 [] refl (omega arith) refl;
}

-- each page that the first six bytes touch is guarded
pub six_are_guarded : Guards add_sum 4 six 6 durable
six_are_guarded = guards_at_rest add_sum 4 durable (omega arith) refl

-- ---- writers

-- the writer of that blob once "g" was appended: one full page, a tip of "efg", of which "ef" was
-- written
abbrev pub with_g : WriterState
with_g = record { page_size = 4; id = 0; capacity = 8; full_pages = 1; tip = 101 ∷ 102 ∷ 103 ∷ []; flushed = Some ef_slot; durable = Some ef_slot; sync = Clean }

-- the content of that writer is "abcdefg"
pub the_content : content with_g (abcd_page ++ ef_page) ≡ seven
the_content = refl

-- a clean writer's flush repeats the flushed slot
pub the_guard_slot : guard_slot Clean (Some ef_slot) None ≡ Some ef_slot
the_guard_slot = refl

-- a dirty writer's flush repeats the durable slot, here none
pub the_dirty_guard_slot : guard_slot Dirty (Some ef_slot) None ≡ None
the_dirty_guard_slot = refl

-- what the flush of that writer writes: the old slot stays in its place
pub the_flush : built add_sum 4 (Some ef_slot) 1 (101 ∷ 102 ∷ 103 ∷ []) ≡ efg_page
the_flush = refl

-- the blob has the page of that writer's tip
has_ef : HasTipPage add_sum 4 1 (101 ∷ 102 ∷ 103 ∷ []) (abcd_page ++ ef_page) ef_slot
has_ef = record { size = refl; some = omega arith; there = omega arith; part = omega arith; crc = refl; value = refl; begins = refl; slot = refl }

-- neither slot of the page of "ef" is bad
ef_good : (s : Slot) → IsGood add_sum 4 s ef_page
ef_good First = λ some fits. refl
ef_good Second = λ some fits. absurd (omega (arith, some))

pub ef_is_good : PageIsGood add_sum 4 1 (abcd_page ++ ef_page)
ef_is_good page is s = subst (λ (l : List ℕ). IsGood add_sum 4 s l) (same_Some ef_page page is) (ef_good s)

-- that writer is sound
pub a_sound_writer : Soundness add_sum with_g durable
a_sound_writer = page_sound add_sum with_g durable refl refl (omega arith) (lit< tt) (refl, tt) refl (λ name c is. absurd (cc is)) small_add_sum ef_slot refl has_ef ef_is_good

-- that writer fits what is readable
pub it_stands : IsWrittenOut add_sum with_g durable
it_stands = a_sound_writer.stands

-- the durable bytes of that writer are guarded
pub it_is_safe : IsSafe add_sum with_g seven durable
it_is_safe = a_sound_writer.safe

-- each slot of the blob that verifies does so over bytes of "abcdefg"
pub it_is_truthful : IsTruthful add_sum 4 seven durable
it_is_truthful = a_sound_writer.truthful

-- a writer with an empty tip over a page of two bytes isn't sound: it would write over them
pub an_unsound_writer : Soundness add_sum (record with_g { tip = []; flushed = None; durable = None }) durable → ⊥
an_unsound_writer sound = let size : 32 ≡ 16 = sound.stands.tip_page in omega (arith, size)

-- the page below that writer's tip is full
pub it_is_intact : IsIntact add_sum with_g durable
it_is_intact = a_sound_writer.full

-- a page of zeros
abbrev pub zero_page : List ℕ
zero_page = 0 ∷ 0 ∷ 0 ∷ 0 ∷ 0 ∷ 0 ∷ 0 ∷ 0 ∷ 0 ∷ 0 ∷ 0 ∷ 0 ∷ 0 ∷ 0 ∷ 0 ∷ 0 ∷ []

-- over a page of zeros, which has no value, the same writer is consistent: its content has the
-- zeros
abbrev pub damaged : Disk
damaged = at_rest (zero_page ++ ef_page)

has_ef_after_zeros : HasTipPage add_sum 4 1 (101 ∷ 102 ∷ 103 ∷ []) (zero_page ++ ef_page) ef_slot
has_ef_after_zeros = record { size = refl; some = omega arith; there = omega arith; part = omega arith; crc = refl; value = refl; begins = refl; slot = refl }

ef_is_good_after_zeros : PageIsGood add_sum 4 1 (zero_page ++ ef_page)
ef_is_good_after_zeros page is s = subst (λ (l : List ℕ). IsGood add_sum 4 s l) (same_Some ef_page page is) (ef_good s)

pub a_consistent_writer : Consistency add_sum with_g damaged
a_consistent_writer = page_consistent add_sum with_g damaged refl refl (omega arith) (lit< tt) refl (λ name c is. absurd (cc is)) small_add_sum ef_slot refl has_ef_after_zeros ef_is_good_after_zeros

pub it_is_consistent : IsConsistent add_sum with_g damaged
unfolding IsConsistent
it_is_consistent = a_consistent_writer

pub it_holds_the_zeros : content with_g damaged.readable ≡ 0 ∷ 0 ∷ 0 ∷ 0 ∷ 101 ∷ 102 ∷ 103 ∷ []
it_holds_the_zeros = refl

-- over that page it isn't sound
pub zeros_are_not_intact : IsIntact add_sum with_g damaged → ⊥
zeros_are_not_intact full = omega (arith, full.0)

pub a_damaged_one_is_not_sound : IsSound add_sum with_g damaged → ⊥
unfolding IsSound
a_damaged_one_is_not_sound sound = zeros_are_not_intact sound.full

-- a writer with an empty tip over a page of two bytes isn't consistent either
pub an_inconsistent_writer : IsConsistent add_sum (record with_g { tip = []; flushed = None; durable = None }) durable → ⊥
unfolding IsConsistent
an_inconsistent_writer holds = let size : 32 ≡ 16 = holds.stands.tip_page in omega (arith, size)

-- the writer of an empty blob is sound
pub an_empty_writer : Soundness add_sum (record { page_size = 4; id = 0; capacity = 8; full_pages = 0; tip = []; flushed = None; durable = None; sync = Clean }) (at_rest [])
an_empty_writer = empty_sound add_sum (record { page_size = 4; id = 0; capacity = 8; full_pages = 0; tip = []; flushed = None; durable = None; sync = Clean }) (at_rest []) refl refl refl (omega arith) (lit< tt) refl refl refl (λ name c is. absurd (cc is))

-- ---- a flush that a crash tears

-- the flush of that writer is a write that isn't durable
flush_is_done : HasOperated (Write 16 efg_page) (WriteAt 16 16 false) false durable rewritten
flush_is_done = record { readable = partial_whole (Write 16 efg_page) (abcd_page ++ ef_page); done = λ fine. refl; rest = refl }

-- the writer after it is sound
pub a_sound_dirty_writer : Soundness add_sum (after_write add_sum with_g 0 true) rewritten
a_sound_dirty_writer =
    sound_of add_sum (after_write add_sum with_g 0 true) rewritten
    (operated_consistent add_sum with_g durable rewritten 0 true efg_page small_add_sum (consistent_of add_sum with_g durable a_sound_writer) refl (omega arith, omega arith) refl (WriteAt 16 16 false) flush_is_done)
    (refl, tt)

-- in the midst of the flush each floor that was kept before it is kept, and there is only content
pub it_stays : Stays add_sum 4 seven durable rewritten
it_stays = operated_stays add_sum with_g durable rewritten 0 true efg_page small_add_sum (consistent_of add_sum with_g durable a_sound_writer) refl (omega arith, omega arith) refl (WriteAt 16 16 false) false flush_is_done

-- the old slot of "ef" is repeated, so page 1 is pinned by that slot in the midst of the flush
pub ef_stays_held : IsPinned add_sum 4 rewritten 1 First (0 ∷ 2 ∷ 0 ∷ 0 ∷ 0 ∷ 203 ∷ []) (101 ∷ 102 ∷ [])
ef_stays_held = held_through_flush add_sum 4 1 durable rewritten ef_slot 1 (101 ∷ 102 ∷ 103 ∷ []) (101 ∷ 102 ∷ []) refl refl refl ef_is_held

-- the new slot isn't fixed until a sync
pub new_slot_moves : Fixed rewritten 26 (0 ∷ 3 ∷ 0 ∷ 0 ∷ 1 ∷ 50 ∷ []) → ⊥
new_slot_moves fixed = omega (arith, same_Some 0 3 (fixed.base 1 3 refl))

-- a life that begins with the durable blob
abbrev pub before : Life
before = record { present = durable; past = [] }

-- that life with this flush
abbrev pub after : Life
after = next before rewritten

-- the flush is one moment
pub one_moment : after ≡ life_after before (rewritten ∷ [])
one_moment = refl

-- what is promised of a disk, here that its base is 32 bytes long, at each disk of a list
pub at_each : Each (λ d. length d.base ≡ 32) (durable ∷ rewritten ∷ [])
at_each = (refl, (refl, tt))

-- what holds at each moment of a life from one on, here that the base is 32 bytes long
pub all_through : Through (λ d. length d.base ≡ 32) before after
unfolding Through
all_through = record { moments = rewritten ∷ []; goes = refl; start = refl; each = (refl, tt) }

-- nothing was unsynced before the flush, so it stays at its start too
stays_at_start : Stays add_sum 4 seven durable durable
stays_at_start = stays_itself add_sum 4 seven durable it_is_truthful a_sound_writer.vouched

-- `Stays` holds at each moment of the flush
pub it_stays_through : StaysThrough add_sum 4 seven before after
unfolding Through
it_stays_through = record { moments = rewritten ∷ []; goes = refl; start = stays_at_start; each = (it_stays, tt) }

-- so the flush keeps each floor up to the seven bytes that every image kept, that is to six
pub keeps_floors : KeepsFloors add_sum 4 seven before after
keeps_floors = kept_through add_sum 4 seven before after it_stays_through

-- the six bytes of a content of seven are kept
six_of_seven : AllKeep add_sum 4 seven 6 durable
six_of_seven = keeps_same add_sum 4 six seven 6 durable refl all_keep

-- in the midst of the flush, whatever a crash tears off, it leaves "abcdef" at least
pub six_are_kept : Through (AllKeep add_sum 4 seven 6) before after
six_are_kept = keeps_floors 6 (omega arith) six_of_seven

-- the flush keeps each floor of any other content too, since the writer was sound: that content can
-- only begin as "abcdef" does
pub keeps_all_floors : KeepsAllFloors add_sum 4 before after
unfolding IsSound
keeps_all_floors = floors_of_sound add_sum with_g before after a_sound_writer keeps_floors

-- each chance-free image of the blob before the flush has as its text a prefix of the writer's
-- content
pub leaves_its_content : LeavesItsContent add_sum with_g durable
unfolding IsSound
leaves_its_content = sound_leaves add_sum with_g durable a_sound_writer

-- a crash that did nothing of the flush left `durable`, of which a later one leaves nothing else
pub leaves_no_more : LeavesNoMore rewritten durable
leaves_no_more = λ image is_image. subst (IsImage rewritten) (sym (only_image durable image refl is_image)) (base_is_image rewritten)

-- the flush may leave what was not there before it
pub leaves_more : LeavesNoMore durable rewritten → ⊥
leaves_more less =
    let flushed = less rewritten.readable (whole_is_image rewritten rewritten.readable (inr refl)) in
    let same = only_image durable rewritten.readable refl flushed in
    let byte : 103 ≡ 0 = ap (λ (l : List ℕ). get_or l 18 0) same in
    omega (arith, byte)

-- each chance-free image at each moment of the flush has as its text a prefix of "abcdefg", the
-- content on both sides of it
pub leaves_only : LeavesOnly add_sum 4 seven seven before after
leaves_only = only_through add_sum 4 seven seven before after it_stays_through

-- each chance-free image in the midst of the flush has as its text a prefix of "abcdefg"
pub all_only : AllOnly add_sum 4 seven seven rewritten
all_only = record { only = λ image is_image free. inl (it_stays.only image is_image free); vouched = it_stays.vouched }

-- a sync of the flush makes all of it durable: from then on every image keeps "abcdefg"
pub keeps_all : KeepsAll add_sum 4 seven (next after (settled_disk (logged SyncAll false rewritten)))
keeps_all = keeps_at_rest add_sum 4 (settled_disk (logged SyncAll false rewritten)) refl

-- ---- chance

-- a blob of one page has that page alone, in front
only_page : (x page : List ℕ) (p : ℕ) → slice_get (x ∷ []) p ≡ Some page → (x ≡ page) × (p ≡ 0)
only_page x page zero is = (same_Some x page is, refl)
only_page x page (suc p) is = absurd (cc is)

-- "ef" was rewritten as "efg", without a sync
abbrev pub one_page : Disk
one_page = and_then (Write 0 efg_page) (WriteAt 0 16 false) (at_rest ef_page)

-- the rewrite torn before its last byte: the new slot has another checksum, 256
abbrev pub torn_page : List ℕ
torn_page = 101 ∷ 102 ∷ 103 ∷ 0 ∷ 0 ∷ 2 ∷ 0 ∷ 0 ∷ 0 ∷ 203 ∷ 0 ∷ 3 ∷ 0 ∷ 0 ∷ 1 ∷ 0 ∷ []

-- the new slot doesn't verify, so the image's text still is "ef"
pub a_torn_text : text add_sum 4 torn_page ≡ 101 ∷ 102 ∷ []
a_torn_text = refl

-- each slot of the torn page that verifies did so in the durable page
says_before : (s : Slot) → 0 < verified_len add_sum 4 s torn_page
    → (whole held : List ℕ) × IsWhole ef_page (Write 0 efg_page ∷ []) whole × (slice_get (pages 4 whole) 0 ≡ Some held) × (verified_len add_sum 4 s held ≡ verified_len add_sum 4 s torn_page) × (take (verified_len add_sum 4 s torn_page) held ≡ take (verified_len add_sum 4 s torn_page) torn_page)
says_before First some = (ef_page, ef_page, inl refl, refl, refl, refl)
says_before Second some = absurd (omega (arith, some))

-- so the torn page is chance-free
pub a_chance_free_image : IsChanceFree add_sum 4 one_page torn_page
a_chance_free_image = λ p page is.
    let one = only_page torn_page page p is in
    subst (λ (n : ℕ). (s : Slot) → 0 < verified_len add_sum 4 s page
    → (whole held : List ℕ) × IsWhole ef_page (Write 0 efg_page ∷ []) whole × (slice_get (pages 4 whole) n ≡ Some held) × (verified_len add_sum 4 s held ≡ verified_len add_sum 4 s page) × (take (verified_len add_sum 4 s page) held ≡ take (verified_len add_sum 4 s page) page)) (sym one.1)
    (subst (λ (l : List ℕ). (s : Slot) → 0 < verified_len add_sum 4 s l
    → (whole held : List ℕ) × IsWhole ef_page (Write 0 efg_page ∷ []) whole × (slice_get (pages 4 whole) 0 ≡ Some held) × (verified_len add_sum 4 s held ≡ verified_len add_sum 4 s l) × (take (verified_len add_sum 4 s l) held ≡ take (verified_len add_sum 4 s l) l)) one.0 says_before)

-- each whole state is chance-free, here the durable one
pub a_whole_image : IsChanceFree add_sum 4 one_page ef_page
a_whole_image = whole_is_chance_free add_sum 4 one_page ef_page (inl refl)

-- a page of "ef" under a sum that is always 0
abbrev pub weak_ef : List ℕ
weak_ef = 101 ∷ 102 ∷ 0 ∷ 0 ∷ 0 ∷ 2 ∷ 0 ∷ 0 ∷ 0 ∷ 0 ∷ 0 ∷ 0 ∷ 0 ∷ 0 ∷ 0 ∷ 0 ∷ []

-- the rewrite of that page as "efg"
abbrev pub weak_efg : List ℕ
weak_efg = 101 ∷ 102 ∷ 103 ∷ 0 ∷ 0 ∷ 2 ∷ 0 ∷ 0 ∷ 0 ∷ 0 ∷ 0 ∷ 3 ∷ 0 ∷ 0 ∷ 0 ∷ 0 ∷ []

-- of the rewrite only the new slot is done
abbrev pub weak_torn : List ℕ
weak_torn = 101 ∷ 102 ∷ 0 ∷ 0 ∷ 0 ∷ 2 ∷ 0 ∷ 0 ∷ 0 ∷ 0 ∷ 0 ∷ 3 ∷ 0 ∷ 0 ∷ 0 ∷ 0 ∷ []

-- "ef" was rewritten so, without a sync
abbrev pub weak_page : Disk
weak_page = and_then (Write 0 weak_efg) (WriteAt 0 16 false) (at_rest weak_ef)

-- a crash may leave the page of which only the new slot is done
pub weak_torn_is_image : IsImage weak_page weak_torn
weak_torn_is_image = torn_is_image weak_page weak_torn (
  weak_torn,
  record {
    length = inl (omega arith, omega arith);
    each = λ at byte is. spliced 10 weak_ef weak_efg (omega arith) at byte is;
  },
  refl,
)

-- its text is "ef" and a zero, which nobody appended
pub a_chance_text : text const_sum 4 weak_torn ≡ 101 ∷ 102 ∷ 0 ∷ []
a_chance_text = refl

-- the one page of a blob of one page
held_is : (x whole held : List ℕ) → whole ≡ x → slice_get (pages 4 x) 0 ≡ Some x → slice_get (pages 4 whole) 0 ≡ Some held → x ≡ held
held_is x whole held same is there = same_Some x held (sym is ∙ ap (λ (l : List ℕ). slice_get (pages 4 l) 0) (sym same) ∙ there)

-- that image isn't chance-free: "ef" and a zero stand under a slot of three bytes in no whole state
pub not_chance_free : IsChanceFree const_sum 4 weak_page weak_torn → ⊥
not_chance_free free =
    let was = free 0 weak_torn refl Second (omega arith) in
    elim was.2 [
      | inl old ↦
          let e : 0 ≡ 3 = ap (λ (l : List ℕ). verified_len const_sum 4 Second l) (held_is weak_ef was.0 was.1 old refl was.3) ∙ was.4 in absurd (omega (arith, e))
      | inr new ↦
          let e : 103 ≡ 0 = ap (λ (l : List ℕ). get_or (take 3 l) 2 0) (held_is weak_efg was.0 was.1 new refl was.3) ∙ ap (λ (l : List ℕ). get_or l 2 0) was.5 in absurd (omega (arith, e))
    ]

-- ---- what a checksum must distinguish

-- no checksum collides in the torn rewrite: the one slot that verifies is the durable one, over the
-- bytes that it had
begins_with_ef : (i byte : ℕ) → slice_get (take 2 torn_page) i ≡ Some byte → slice_get ef_page (0 * 16 + i) ≡ Some byte
begins_with_ef zero byte here = here
begins_with_ef (suc zero) byte here = here
begins_with_ef (suc (suc i)) byte here = absurd (cc here)

told_before : (s : Slot) → 0 < verified_len add_sum 4 s torn_page → SlotIsDistinct add_sum 4 one_page 0 torn_page s (verified_len add_sum 4 s torn_page)
told_before First some = record {
  whole = ef_page;
  held = ef_page;
  is_whole = inl refl;
  there = refl;
  same = refl;
  apart = λ verified sums. refl;
  uncut = λ each. begins_with_ef;
}
told_before Second some = absurd (omega (arith, some))

pub a_distinct_image : IsDistinct add_sum 4 one_page torn_page
a_distinct_image = λ p page is.
    let one = only_page torn_page page p is in
    subst (λ (n : ℕ). (s : Slot) → 0 < verified_len add_sum 4 s page → SlotIsDistinct add_sum 4 one_page n page s (verified_len add_sum 4 s page)) (sym one.1)
    (subst (λ (l : List ℕ). (s : Slot) → 0 < verified_len add_sum 4 s l → SlotIsDistinct add_sum 4 one_page 0 l s (verified_len add_sum 4 s l)) one.0 told_before)

-- a page `01 00` whose second slot is an old one, of one byte; then `09` was added, without a sync
abbrev pub two_bytes : List ℕ
two_bytes = 1 ∷ 0 ∷ 0 ∷ 0 ∷ 0 ∷ 2 ∷ 0 ∷ 0 ∷ 0 ∷ 1 ∷ 0 ∷ 1 ∷ 0 ∷ 0 ∷ 0 ∷ 1 ∷ []

abbrev pub three_bytes : List ℕ
three_bytes = 1 ∷ 0 ∷ 9 ∷ 0 ∷ 0 ∷ 2 ∷ 0 ∷ 0 ∷ 0 ∷ 1 ∷ 0 ∷ 3 ∷ 0 ∷ 0 ∷ 0 ∷ 10 ∷ []

abbrev pub longer : Disk
longer = and_then (Write 0 three_bytes) (WriteAt 0 16 false) (at_rest two_bytes)

-- of that write only the slot's length is done: the second slot has the new length and the old
-- checksum
abbrev pub mixed : List ℕ
mixed = 1 ∷ 0 ∷ 0 ∷ 0 ∷ 0 ∷ 2 ∷ 0 ∷ 0 ∷ 0 ∷ 1 ∷ 0 ∷ 3 ∷ 0 ∷ 0 ∷ 0 ∷ 1 ∷ []

pub mixed_is_image : IsImage longer mixed
mixed_is_image = torn_is_image longer mixed (
  mixed,
  record {
    length = inl (omega arith, omega arith);
    each = λ at byte is. elim (spliced 12 (take 10 two_bytes ++ drop 10 three_bytes) two_bytes (omega arith) at byte is) [
      | inl front ↦ spliced 10 two_bytes three_bytes (omega arith) at byte front
      | inr back ↦ inl back
    ];
  },
  refl,
)

-- its text has a zero that nobody appended
pub a_mixed_text : text add_sum 4 mixed ≡ 1 ∷ 0 ∷ 0 ∷ []
a_mixed_text = refl

-- in no whole state the slot held these six bytes
pub no_slot_of_two_writes : SlotIsDistinct add_sum 4 longer 0 mixed Second 3 → ⊥
no_slot_of_two_writes was =
    elim was.is_whole [
      | inl old ↦
          let e : 1 ≡ 3 = ap (λ (l : List ℕ). slot_len (slot_of 4 Second l)) (held_is two_bytes was.whole was.held old refl was.there) ∙ ap slot_len was.same in
          absurd (omega (arith, e))
      | inr new ↦
          let e : 10 ≡ 1 = ap (λ (l : List ℕ). slot_crc (slot_of 4 Second l)) (held_is three_bytes was.whole was.held new refl was.there) ∙ ap slot_crc was.same in
          absurd (omega (arith, e))
    ]

-- so a checksum collides in that image
pub a_slot_of_two_writes : IsDistinct add_sum 4 longer mixed → ⊥
a_slot_of_two_writes distinct = no_slot_of_two_writes (distinct 0 mixed refl Second (omega arith))

-- a checksum collides in the image of "ef" and a zero: its slot was written, over "efg", which has
-- the same sum
pub two_strings_of_one_sum : IsDistinct const_sum 4 weak_page weak_torn → ⊥
two_strings_of_one_sum distinct =
    let was = distinct 0 weak_torn refl Second (omega arith) in
    elim was.is_whole [
      | inl old ↦
          let e : 0 ≡ 3 = ap (λ (l : List ℕ). slot_len (slot_of 4 Second l)) (held_is weak_ef was.whole was.held old refl was.there) ∙ ap slot_len was.same in
          absurd (omega (arith, e))
      | inr new ↦
          let page : weak_efg ≡ was.held = held_is weak_efg was.whole was.held new refl was.there in
          let some : 0 < verified_len const_sum 4 Second was.held = subst (λ (l : List ℕ). 0 < verified_len const_sum 4 Second l) page (omega arith) in
          let e : 0 ≡ 103 = ap (λ (l : List ℕ). get_or l 2 0) (was.apart some refl) ∙ ap (λ (l : List ℕ). get_or (take 3 l) 2 0) (sym page) in
          absurd (omega (arith, e))
    ]

-- a page `01` whose second slot is bad: it has the sum 1 of `01 02`; then the page was cut, without
-- a sync
abbrev pub bad_page : List ℕ
bad_page = 1 ∷ 2 ∷ 0 ∷ 0 ∷ 0 ∷ 1 ∷ 0 ∷ 0 ∷ 0 ∷ 1 ∷ 0 ∷ 2 ∷ 0 ∷ 0 ∷ 0 ∷ 1 ∷ []

abbrev pub cut_page : Disk
cut_page = record (at_rest bad_page) { readable = []; since = Resize 0 ∷ [] }

-- a crash may leave one byte as a zero, and the others as they were
abbrev pub zeroed : List ℕ
zeroed = 1 ∷ 0 ∷ 0 ∷ 0 ∷ 0 ∷ 1 ∷ 0 ∷ 0 ∷ 0 ∷ 1 ∷ 0 ∷ 2 ∷ 0 ∷ 0 ∷ 0 ∷ 1 ∷ []

zeroed_byte : (at byte : ℕ) → slice_get zeroed at ≡ Some byte → (slice_get bad_page at ≡ Some byte) ⊎ IsCutZero cut_page at byte
zeroed_byte zero byte is = inl is
zeroed_byte (suc zero) byte is = inr (sym (same_Some 0 byte is), omega arith, ([], inr refl, omega arith))
zeroed_byte (suc (suc at)) byte is = inl is

pub zeroed_is_image : IsImage cut_page zeroed
zeroed_is_image = record {
  no_shorter = ([], inr refl, omega arith);
  no_longer = (bad_page, inl refl, omega arith);
  each = λ at byte is. elim (zeroed_byte at byte is) [
    | inl same ↦ inl same
    | inr cut ↦ inr (inr (cut.0, cut.2))
  ];
}

-- its text has a zero that nobody appended
pub a_zeroed_text : text add_sum 4 zeroed ≡ 1 ∷ 0 ∷ []
a_zeroed_text = refl

begins_zeroed : (i byte : ℕ) → slice_get (take 2 zeroed) i ≡ Some byte → (slice_get bad_page (0 * 16 + i) ≡ Some byte) ⊎ IsCutZero cut_page (0 * 16 + i) byte
begins_zeroed zero byte is = inl is
begins_zeroed (suc zero) byte is = zeroed_byte 1 byte is
begins_zeroed (suc (suc i)) byte is = absurd (cc is)

-- `IsDistinct` doesn't hold of it: the zero of the cut is what the bad slot lacked
pub a_zero_of_a_cut : IsDistinct add_sum 4 cut_page zeroed → ⊥
a_zero_of_a_cut distinct =
    let was = distinct 0 zeroed refl Second (omega arith) in
    absurd (omega (arith, same_Some 2 0 (was.uncut begins_zeroed 1 0 refl)))

-- a blob whose text is "ef" isn't truthful of the content "xy"
pub not_truthful : IsTruthful add_sum 4 (120 ∷ 121 ∷ []) (at_rest ef_page) → ⊥
not_truthful truthful = let e : 101 ≡ 120 = ap (λ (l : List ℕ). get_or l 0 0) (truthful ef_page refl 0 ef_page refl First) in omega (arith, e)

-- ---- a read

-- a read of the first page was made
abbrev pub was_read : Disk
was_read = logged (ReadAt 0 16) false durable

-- the disk is the same, except for its log
pub same_but_log : SameButLog durable was_read
same_but_log = refl

-- the disk is the same at each moment of the read, except for its log
pub a_look : Looked before (next before was_read)
unfolding Through
a_look = record {
  same = refl;
  log = (record { request = ReadAt 0 16; failed = false } ∷ [], refl);
  through = record { moments = was_read ∷ []; goes = refl; start = refl; each = (refl, tt) };
}

-- ---- started syncs

-- after the flush a sync is started
abbrev pub flush_started : Disk
flush_started = starts false rewritten

-- that sync covers all that isn't durable, the flush, and has the bytes that are readable
pub it_is_pending : IsPending 0 flush_started
it_is_pending = record { covers = (1, abcd_page ++ efg_page); named = refl; all = refl; bytes = refl; others = λ other c is. other_name other c is }
  where
    other_name : (other : ℕ) (c : ℕ × List ℕ) → slice_get ((1, abcd_page ++ efg_page) ∷ []) other ≡ Some c → (c.0 ≤ 0) ⊎ (other ≡ 0)
    other_name zero c is = inr refl
    other_name (suc other) c is = absurd (cc is)

-- no sync is pending where none was started
pub none_is_pending : IsPending 0 rewritten → ⊥
none_is_pending pending = absurd (cc (pending.named))

-- were that sync complete, every image would have the text "abcdefg"
pub all_is_covered : WouldKeep add_sum 4 seven 0 7 flush_started
all_is_covered = record { covers = (1, abcd_page ++ efg_page); named = refl; keeps = keeps_at_rest add_sum 4 (disk_settled_to (1, abcd_page ++ efg_page) flush_started) refl }

-- a sync that was started before the flush covers "abcdef" alone: a crash may leave the flush
-- undone
pub g_is_not_covered : WouldKeep add_sum 4 seven 0 7 (and_then (Write 16 efg_page) (WriteAt 16 16 false) (starts false durable)) → ⊥
g_is_not_covered would =
    let d = and_then (Write 16 efg_page) (WriteAt 16 16 false) (starts false durable) in
    let covers : (0, abcd_page ++ ef_page) ≡ would.covers = same_Some (0, abcd_page ++ ef_page) would.covers would.named in
    let keeps : AllKeep add_sum 4 seven 7 (disk_settled_to (0, abcd_page ++ ef_page) d) = subst (λ (c : ℕ × List ℕ). AllKeep add_sum 4 seven 7 (disk_settled_to c d)) (sym covers) would.keeps in
    a_lost_floor (keeps.kept (abcd_page ++ ef_page) (base_is_image d))

-- a sync of the blob keeps what the started sync covers
pub covers_stay : CoversStay add_sum 4 seven flush_started (settled_disk (logged SyncAll false flush_started))
covers_stay =
    settle_covers add_sum (record (after_write add_sum with_g 0 true) { sync = Pending 0 }) flush_started
    (start_consistent add_sum (after_write add_sum with_g 0 true) rewritten false (consistent_of add_sum (after_write add_sum with_g 0 true) rewritten a_sound_dirty_writer) (λ name c is. absurd (cc is)))
    (settled_disk (logged SyncAll false flush_started)) (record { readable = refl; base = refl; since = refl; settled = refl; covers = refl })

-- a device that forgot the started sync wouldn't
pub covers_are_lost : CoversStay add_sum 4 seven flush_started rewritten → ⊥
covers_are_lost stay = absurd (cc ((stay 0 7 (omega arith) all_is_covered).named))

-- a wait for that sync, also where the writer is gone, makes nothing durable that a crash might not
-- have left
pub it_stands_so : StartsCanBeAwaited flush_started
it_stands_so = starts_stand flush_started (Pending 0) refl it_is_pending

-- a wait for a sync with other bytes might: here it would leave an empty blob
pub it_stands_not_so : StartsCanBeAwaited (record rewritten { started = record { covers = 1; bytes = []; failed = false } ∷ [] }) → ⊥
it_stands_not_so stands = elim (stands 0 (1, []) refl) [
  | inl settled ↦ absurd (omega (arith, settled))
  | inr all ↦ absurd (omega (arith, ap length all.1))
]

-- ---- pages that stay

-- the flush leaves the first page
pub the_first_page_stays : SamePages 4 1 durable rewritten
the_first_page_stays = refl

-- the flush rewrites the second page
pub the_second_page_goes : SamePages 4 2 durable rewritten → ⊥
the_second_page_goes same = let byte : 103 ≡ 0 = ap (λ (l : List ℕ). get_or l 18 0) same in omega (arith, byte)

-- the first page stays at each moment of the flush
pub pages_stay : PagesStay 4 1 before after
pages_stay = pages_one 4 1 before after rewritten refl the_first_page_stays

-- ---- a value that is cut short

-- page 1 is to have fewer bytes than its first slot says: the second slot gets the checksum with
-- length 0, and then the length; and the first slot is emptied
pub a_staged_slot : staged 4 1 First 203 ≡ Write 26 (0 ∷ 0 ∷ 0 ∷ 0 ∷ 0 ∷ 203 ∷ [])
a_staged_slot = refl

pub a_published_slot : published 4 1 First 2 ≡ Write 26 (0 ∷ 2 ∷ [])
a_published_slot = refl

pub a_cleared_slot : cleared 4 1 First ≡ Write 20 (0 ∷ 0 ∷ 0 ∷ 0 ∷ 0 ∷ 0 ∷ [])
a_cleared_slot = refl

-- a crash keeps the page before that one, and of that page what its first slot verifies over
pub ef_holds : HeldBy add_sum 4 six 1 ef_slot durable
ef_holds = record {
  pages = guards_less add_sum 4 six 6 4 durable (omega arith) six_are_guarded;
  guard = record { there = omega arith; held = ef_is_held };
}

-- each slot of the blob that verifies does so over bytes of "abcdef"
six_are_truthful : IsTruthful add_sum 4 six durable
six_are_truthful =
    let page : HasTipPage add_sum 4 1 (101 ∷ 102 ∷ []) (abcd_page ++ ef_page) ef_slot = record { size = refl; some = omega arith; there = omega arith; part = omega arith; crc = refl; value = refl; begins = refl; slot = refl } in
    (page_sound add_sum (record with_g { tip = 101 ∷ 102 ∷ [] }) durable refl refl (omega arith) (lit< tt) (refl, tt) refl (λ name c is. absurd (cc is)) small_add_sum ef_slot refl page ef_is_good).truthful

-- so `CutStays` for a cut to six bytes holds at a moment at which that slot holds
pub a_cut_that_owes_nothing : CutStays add_sum 4 six 6 durable durable
a_cut_that_owes_nothing = held_stays_cut add_sum 4 six 6 1 ef_slot durable durable (omega arith) ef_holds six_are_truthful a_sound_writer.vouched

-- ---- what a moment of a cut holds

-- a blob whose text is "ef", with a page after it that no reader comes to
abbrev pub ef_and_more : Disk
ef_and_more = at_rest (ef_page ++ abcd_page)

pub its_text_ends : text add_sum 4 (ef_page ++ abcd_page) ≡ 101 ∷ 102 ∷ []
its_text_ends = refl

-- a crash keeps "ef", and leaves nothing else that a recovery would keep
pub ef_is_all : HoldsText add_sum 4 (101 ∷ 102 ∷ []) 2 ef_and_more
ef_is_all = holds_at_rest add_sum 4 (ef_page ++ abcd_page) 2 ef_and_more (omega arith) refl refl (omega arith)

-- the page after may hold anything, though it isn't of "ef"
pub it_says_ef : SaysText add_sum 4 (101 ∷ 102 ∷ []) ef_and_more
it_says_ef = ef_is_all.says

pub it_says_more : IsTruthful add_sum 4 (101 ∷ 102 ∷ []) ef_and_more → ⊥
it_says_more truthful = let none : 4 ≡ 0 = ap length (truthful (ef_page ++ abcd_page) refl 1 abcd_page refl First) in absurd (omega (arith, none))

-- a blob whose text is "ef" doesn't have the text "xy"
pub it_says_ef_alone : SaysText add_sum 4 (120 ∷ 121 ∷ []) (at_rest ef_page) → ⊥
it_says_ef_alone says = let e : 101 ≡ 120 = ap (λ (l : List ℕ). get_or l 0 0) (says ef_page refl 0 ef_page refl (omega arith) First) in omega (arith, e)

-- no floor is longer than the text
pub no_more_than_ef : HoldsText add_sum 4 (101 ∷ 102 ∷ []) 3 ef_and_more → ⊥
no_more_than_ef holds = absurd (omega (arith, holds.within))

-- a floor that a crash may lose isn't held
pub g_is_not_held : HoldsText add_sum 4 seven 7 rewritten → ⊥
g_is_not_held holds = a_lost_floor ((holds_keeps add_sum 4 seven 7 rewritten holds 7 (omega arith)).kept (abcd_page ++ ef_page) (base_is_image rewritten))

-- the first of the three writes was done, and isn't durable
abbrev pub one_staged : Disk
one_staged = and_then (staged 4 1 First 203) (WriteAt 26 6 false) durable

-- "abcdef" is held after that write
pub six_are_held : HoldsText add_sum 4 six 6 one_staged
six_are_held =
    let o = staged 4 1 First 203 in
    through_end (HoldsText add_sum 4 six 6) before (next before one_staged)
    (stage_holds add_sum 4 six 6 1 ef_slot 203 false before (next before one_staged) (Ok tt)
    (one_staged, refl, record { readable = partial_whole o durable.readable; done = λ is. refl; rest = refl })
    (omega arith) refl (inr (ef_slot, ef_holds, refl, omega arith)) (holds_at_rest add_sum 4 (abcd_page ++ ef_page) 6 durable (omega arith) refl refl (omega arith)))
