-- Examples of the definitions of the parts of a recovery and of its calls. Pages have 4 bytes, and
-- the checksum is their sum.
use Rattle.std.proofs.Common.{◌≡◌, ◌^◌, ℕ, List, [], ◌∷◌, refl}
use Rattle.std.specs.Prelude.{Some, None}
use Rattle.cache.specs.CacheState.{ids_given}
use Rattle.page.specs.Sums.{add_sum}
use Rattle.page.specs.declared.slot.Slot.TheVariants.{Second}
use Rattle.page.proofs.Examples.{ef_page}
use Rattle.writer_state.specs.declared.sync_state.SyncState.TheVariants.{Clean, Dirty, Pending}
use Rattle.writer_state.proofs.Examples.{durable, six, ef_slot}
use Rattle.writer_state.proofs.PartExamples.{torn_page}
use Rattle.paged_read.specs.Prefix.{value_and_slot, partial_pages, tip_of, bad_beside_value}
use Rattle.paged_read.specs.Tail.{logical_bytes}
use Rattle.paged.specs.Calls.{wait_calls, unstarted_calls}
use Rattle.paged.specs.Recovery.{emptied, slot_of_tip}

-- ---- the page in which the text ends

-- the value of the page, and its slot, if there is one
abbrev pub ef : List ℕ
ef = 101 ∷ 102 ∷ []

pub ef_and_its_slot : value_and_slot (Some ef_slot) ef_page ≡ Some (ef, ef_slot)
ef_and_its_slot = refl

pub no_value_without_a_slot : value_and_slot None ef_page ≡ None
no_value_without_a_slot = refl

pub one_partial_page : partial_pages (Some (ef, ef_slot)) ≡ 1
one_partial_page = refl

pub no_partial_page : partial_pages None ≡ 0
no_partial_page = refl

pub its_bytes_are_the_tip : tip_of (Some (ef, ef_slot)) ≡ ef
its_bytes_are_the_tip = refl

pub nothing_is_the_tip : tip_of None ≡ []
nothing_is_the_tip = refl

pub its_slot_is_the_tips : slot_of_tip (Some (ef, ef_slot)) ≡ Some ef_slot
its_slot_is_the_tips = refl

pub no_slot_of_no_tip : slot_of_tip None ≡ None
no_slot_of_no_tip = refl

-- where the page is torn, the other slot is bad, and is emptied
pub a_bad_slot_beside_it : bad_beside_value add_sum 4 torn_page (Some (ef, ef_slot)) ≡ Some Second
a_bad_slot_beside_it = refl

pub none_beside_no_value : bad_beside_value add_sum 4 torn_page None ≡ None
none_beside_no_value = refl

pub the_second_is_emptied : emptied 4 0 (Some Second) torn_page ≡ ef_page
the_second_is_emptied = refl

pub nothing_is_emptied : emptied 4 0 None torn_page ≡ torn_page
nothing_is_emptied = refl

-- ---- what is read

-- the payload of the full page, and the bytes in memory
pub six_are_told : logical_bytes (record { page_size = 4; id = 0; full_pages = 1; bytes = ef }) durable.readable ≡ six
six_are_told = refl

-- without a full page, the bytes in memory alone
pub two_are_told : logical_bytes (record { page_size = 4; id = 0; full_pages = 0; bytes = ef }) durable.readable ≡ ef
two_are_told = refl

-- ---- calls

-- only a sync that was started is waited for
pub a_wait : wait_calls (Pending 3) ≡ 1
a_wait = refl

pub no_wait : wait_calls Clean ∷ wait_calls Dirty ∷ [] ≡ 0 ∷ 0 ∷ []
no_wait = refl

-- a sync is started only where something isn't covered
pub a_start : unstarted_calls Dirty ≡ 1
a_start = refl

pub no_start : unstarted_calls Clean ∷ unstarted_calls (Pending 3) ∷ [] ≡ 0 ∷ 0 ∷ []
no_start = refl

-- a cache that has given its last id has given all of 64 bits
pub three_ids : ids_given (Some 3) ≡ 3
three_ids = refl

pub all_ids : ids_given None ≡ 2 ^ 64
all_ids = refl
