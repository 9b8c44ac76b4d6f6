-- Examples of the parts by which pages, slots, operations and what a crash keeps are defined. Pages
-- have 4 bytes, and the checksum is their sum.
use Rattle.std.proofs.Common.{◌≡◌, inl, inr, ℕ, ◌+◌, ◌<◌, List, [], ◌∷◌, ◌++◌, refl, arith, true, false}
use Rattle.std.specs.Prelude.{Some, None}
use Rattle.std.proofs.lemmas.Option.{same_Some}
use Rattle.disk.specs.Disk.{Started, Writes, SomeWrites, fault_of, is_failed, had_failed, failed_at}
use Rattle.disk.specs.Disk.Operation.{Write, Resize}
use Rattle.disk.specs.Disk.Request.{ReadAt, ReadMany, StartReadMany, WriteAt, ResizeTo, SyncAll, StartSync, WaitSync}
use Rattle.disk.specs.declared.error.Error.TheVariants.{ReadFailed, WriteFailed, ResizeFailed, SyncFailed}
use Rattle.page.specs.Page.{slot_bytes, pieces, slot_verifies, is_clear, value_slot, bad_beside, bad_slot, text_of_pages}
use Rattle.page.specs.Slot.{slot_offset, other}
use Rattle.page.specs.Sums.{add_sum}
use Rattle.page.specs.declared.slot.Slot.TheVariants.{First, Second}
use Rattle.page.proofs.Examples.{abcd_page, ef_page, efg_page}
use Rattle.crash.specs.Built.{footer, kept_len}
use Rattle.crash.specs.Shrink.{slot_write}
use Rattle.crash.specs.Guard.{IsSlotFor, IsGuarded}
use Rattle.crash.specs.Distinct.{IsOld, IsVouched}
use Rattle.crash.specs.Kept.{AreHeld}
use Rattle.crash.proofs.DistinctLaws.{vouched_at_rest}
use Rattle.writer_state.proofs.Examples.{at_rest, and_then, durable, rewritten, six, ef_slot, six_are_guarded}

-- ---- pages and slots

-- a shorter rest is no piece
pub two_pieces : pieces 2 2 (1 ∷ 2 ∷ 3 ∷ 4 ∷ 5 ∷ []) ≡ (1 ∷ 2 ∷ []) ∷ (3 ∷ 4 ∷ []) ∷ []
two_pieces = refl

pub a_slot_that_verifies : slot_verifies add_sum 4 (slot_bytes 2 203) ef_page ≡ true
a_slot_that_verifies = refl

pub another_checksum : slot_verifies add_sum 4 (slot_bytes 2 204) ef_page ≡ false
another_checksum = refl

-- a slot verifies neither over no byte nor over more than a page has
pub no_byte : slot_verifies add_sum 4 (slot_bytes 0 0) ef_page ≡ false
no_byte = refl

pub five_of_four : slot_verifies add_sum 4 (slot_bytes 5 203) ef_page ≡ false
five_of_four = refl

pub an_empty_slot_is_clear : is_clear (slot_bytes 0 0) ≡ true
an_empty_slot_is_clear = refl

-- a slot with a length or a checksum alone isn't all zero
pub a_length_is_not : is_clear (slot_bytes 2 0) ≡ false
a_length_is_not = refl

pub a_checksum_is_not : is_clear (slot_bytes 0 203) ≡ false
a_checksum_is_not = refl

-- the value is under the slot that verifies over more
pub ef_is_under_the_first : value_slot add_sum 4 ef_page ≡ First
ef_is_under_the_first = refl

pub efg_is_under_the_second : value_slot add_sum 4 efg_page ≡ Second
efg_is_under_the_second = refl

pub first_and_second : other First ≡ Second
first_and_second = refl

pub second_and_first : other Second ≡ First
second_and_first = refl

pub the_first_is_in_front : slot_offset First ≡ 0
the_first_is_in_front = refl

pub the_second_is_six_bytes_after : slot_offset Second ≡ 6
the_second_is_six_bytes_after = refl

-- "ef", and in the second slot the length 3 with another sum than that of three bytes
abbrev pub torn_page : List ℕ
torn_page = 101 ∷ 102 ∷ 0 ∷ 0 ∷ 0 ∷ 2 ∷ 0 ∷ 0 ∷ 0 ∷ 203 ∷ 0 ∷ 3 ∷ 0 ∷ 0 ∷ 1 ∷ 50 ∷ []

pub its_second_slot_is_bad : bad_slot add_sum 4 torn_page ≡ Some Second
its_second_slot_is_bad = refl

-- an empty slot isn't bad, nor is one that verifies over less than the value
pub an_empty_one_is_not : bad_slot add_sum 4 ef_page ≡ None
an_empty_one_is_not = refl

pub an_older_one_is_not : bad_slot add_sum 4 efg_page ≡ None
an_older_one_is_not = refl

-- there is a bad slot beside a value, and only there
pub beside_ef : bad_beside add_sum 4 torn_page (Some ef_slot) ≡ Some Second
beside_ef = refl

pub beside_no_value : bad_beside add_sum 4 torn_page None ≡ None
beside_no_value = refl

-- what stands after a page that isn't full isn't of the text
pub it_ends_with_ef : text_of_pages add_sum 4 (abcd_page ∷ ef_page ∷ abcd_page ∷ []) ≡ six
it_ends_with_ef = refl

-- ---- operations, and the errors of calls

pub it_writes_there : Writes (Write 3 (9 ∷ [])) 3 9
it_writes_there = (omega arith, refl)

pub not_in_front : Writes (Write 3 (9 ∷ [])) 2 9 → ⊥
not_in_front writes = omega (arith, writes.0)

pub not_behind : Writes (Write 3 (9 ∷ [])) 4 9 → ⊥
not_behind writes = absurd (cc writes.1)

pub not_another_byte : Writes (Write 3 (9 ∷ [])) 3 8 → ⊥
not_another_byte writes = omega (arith, same_Some 9 8 writes.1)

pub a_cut_writes_none : Writes (Resize 2) 0 9 → ⊥
a_cut_writes_none writes = writes

pub the_second_does : SomeWrites (Resize 2 ∷ Write 0 (7 ∷ []) ∷ []) 0 7
the_second_does = inr (inl (omega arith, refl))

pub none_of_none_does : SomeWrites [] 0 7 → ⊥
none_of_none_does writes = writes

-- two started syncs, of which the second failed
abbrev pub two_started : List Started
two_started = record { covers = 1; bytes = 7 ∷ []; failed = false } ∷ record { covers = 2; bytes = 8 ∷ []; failed = true } ∷ []

pub the_first_had_not_failed : had_failed two_started 0 ≡ false
the_first_had_not_failed = refl

pub the_second_had_failed : had_failed two_started 1 ≡ true
the_second_had_failed = refl

pub it_fails_now : had_failed (failed_at 0 two_started) 0 ≡ true
it_fails_now = refl

-- a sync that was never started counts as one that failed
pub nothing_was_started : is_failed None ≡ true
nothing_was_started = refl

pub reads_fail : fault_of (ReadAt 0 1) ∷ fault_of (ReadMany []) ∷ fault_of (StartReadMany []) ∷ [] ≡ ReadFailed ∷ ReadFailed ∷ ReadFailed ∷ []
reads_fail = refl

pub writes_fail : fault_of (WriteAt 0 1 true) ∷ fault_of (ResizeTo 1) ∷ [] ≡ WriteFailed ∷ ResizeFailed ∷ []
writes_fail = refl

pub syncs_fail : fault_of SyncAll ∷ fault_of StartSync ∷ fault_of (WaitSync 0) ∷ [] ≡ SyncFailed ∷ SyncFailed ∷ SyncFailed ∷ []
syncs_fail = refl

-- ---- what a page is written with

pub none_is_kept_of_a_new_page : kept_len None ≡ 0
none_is_kept_of_a_new_page = refl

pub ef_is_kept : kept_len (Some ef_slot) ≡ 2
ef_is_kept = refl

-- the durable slot stays in its place, and the new one stands in the other
pub the_new_one_second : footer First (slot_bytes 2 203) (slot_bytes 3 306) ≡ slot_bytes 2 203 ++ slot_bytes 3 306
the_new_one_second = refl

pub the_new_one_first : footer Second (slot_bytes 2 203) (slot_bytes 3 306) ≡ slot_bytes 3 306 ++ slot_bytes 2 203
the_new_one_first = refl

-- the second slot of the second page stands at 26: that page begins at 16, and has four bytes and
-- the first slot before it
pub the_second_slot_of_the_second_page : slot_write 4 1 Second (slot_bytes 0 0) ≡ Write 26 (slot_bytes 0 0)
the_second_slot_of_the_second_page = refl

-- ---- what a crash keeps

pub the_slot_of_ef : IsSlotFor add_sum (101 ∷ 102 ∷ []) (slot_bytes 2 203)
the_slot_of_ef = record { size = refl; len = refl; crc = refl }

pub not_of_another_sum : IsSlotFor add_sum (101 ∷ 102 ∷ []) (slot_bytes 2 204) → ⊥
not_of_another_sum is = omega (arith, is.crc)

pub not_of_another_length : IsSlotFor add_sum (101 ∷ 102 ∷ []) (slot_bytes 3 203) → ⊥
not_of_another_length is = omega (arith, is.len)

pub the_second_page_is : IsGuarded add_sum 4 six 6 durable 1
the_second_page_is = six_are_guarded 1 (omega arith)

-- an empty blob guards nothing
pub nothing_is_guarded : IsGuarded add_sum 4 six 6 (at_rest []) 0 → ⊥
nothing_is_guarded is = omega (arith, is.held.some, is.held.payload.within [] refl)

pub six_are_held : AreHeld add_sum 4 six 6 durable
six_are_held = record { told = six; within = omega arith; same = refl; guards = six_are_guarded }

pub none_are_held : AreHeld add_sum 4 six 6 (at_rest []) → ⊥
none_are_held are = let is : IsGuarded add_sum 4 are.told 6 (at_rest []) 0 = are.guards 0 (omega arith) in omega (arith, is.held.some, is.held.payload.within [] refl)

-- the first page is as it was, since no operation writes there
pub the_first_page_is_old : IsOld 4 rewritten 0 First abcd_page
the_first_page_is_old = record { old = abcd_page; there = refl; same = refl; unwritten = λ i byte below writes. not_there i byte below writes }
  where
    not_there : (i byte : ℕ) → i < 4 → SomeWrites rewritten.since (0 + i) byte → ⊥
    not_there i byte below (inl writes) = omega (arith, below, writes.0)
    not_there i byte below (inr none) = none

-- the slots of the second page aren't old, as it was rewritten
pub the_second_page_is_not : IsOld 4 rewritten 1 First efg_page → ⊥
the_second_page_is_not is = is.unwritten 0 101 (omega arith) (inl (omega arith, refl))

-- a blob with nothing unsynced is vouched for
pub all_is_vouched : IsVouched add_sum 4 durable
all_is_vouched = vouched_at_rest add_sum 4 durable refl

-- a slot of another sum that was written is bad, and new, so such a blob isn't vouched for
pub a_bad_slot_is_not : IsVouched add_sum 4 (and_then (Write 0 torn_page) (WriteAt 0 16 false) (at_rest [])) → ⊥
a_bad_slot_is_not vouched = elim (vouched torn_page (inr refl) 0 torn_page refl Second) [
  | inl good ↦ omega (arith, good (omega arith) (omega arith))
  | inr old ↦ absurd (cc old.there)
]
