-- What a truncate leaves of a few bytes. Pages have 4 bytes, and the checksum is their sum.
use Rattle.std.proofs.Common.{◌≡◌, ℕ, List, [], ◌∷◌, ◌++◌, refl}
use Rattle.std.specs.Prelude.{Some, None}
use Rattle.page.specs.Sums.{add_sum}
use Rattle.page.proofs.Examples.{abcd_page}
use Rattle.page.specs.declared.slot.Slot.TheVariants.{Second}
use Rattle.page.specs.declared.slot.ActiveChecksum.{ActiveChecksum}
use Rattle.writer_state.specs.WriterState.{WriterState}
use Rattle.writer_state.specs.declared.sync_state.SyncState.TheVariants.{Clean, Dirty}
use Rattle.paged.specs.Truncate.{shortened_slot, shortened, shortened_writer, cut_bytes, cut_writer, shorten_calls, truncate_calls}

-- "efgh", in the first slot, and "efg" in the second
abbrev efgh_page : List ℕ
efgh_page = 101 ∷ 102 ∷ 103 ∷ 104 ∷ 0 ∷ 4 ∷ 0 ∷ 0 ∷ 1 ∷ 154 ∷ 0 ∷ 3 ∷ 0 ∷ 0 ∷ 1 ∷ 50 ∷ []

-- cut to six bytes, the second page keeps "ef" by its second slot, and zeros are in the first
pub a_cut_inside : shortened add_sum 4 6 (abcd_page ++ efgh_page)
    ≡ abcd_page ++ 101 ∷ 102 ∷ 103 ∷ 104 ∷ 0 ∷ 0 ∷ 0 ∷ 0 ∷ 0 ∷ 0 ∷ 0 ∷ 2 ∷ 0 ∷ 0 ∷ 0 ∷ 203 ∷ []
a_cut_inside = refl

pub a_slot_of_it : shortened_slot add_sum 4 6 (abcd_page ++ efgh_page) ≡ Some (record { slot = Second; len = 2; crc = 203 })
a_slot_of_it = refl

-- cut to four, the first page is left as it is
pub a_cut_after : shortened add_sum 4 4 (abcd_page ++ efgh_page) ≡ abcd_page
a_cut_after = refl

pub no_slot_of_it : shortened_slot add_sum 4 4 (abcd_page ++ efgh_page) ≡ None
no_slot_of_it = refl

-- the writer of both pages
abbrev two_pages : WriterState
two_pages = record { page_size = 4; id = 0; capacity = 8; full_pages = 2; tip = []; flushed = None; durable = None; sync = Dirty }

abbrev slot_of_ef : ActiveChecksum
slot_of_ef = record { slot = Second; len = 2; crc = 203 }

-- once it is cut the writer stands after the first page, with a tip of "ef"
pub a_writer_of_it : shortened_writer add_sum two_pages 6 (abcd_page ++ efgh_page)
    ≡ record { page_size = 4; id = 0; capacity = 8; full_pages = 1; tip = 101 ∷ 102 ∷ []; flushed = Some slot_of_ef; durable = Some slot_of_ef; sync = Clean }
a_writer_of_it = refl

-- where there is no more, nothing is cut
pub nothing_to_cut : cut_bytes add_sum two_pages 8 (abcd_page ++ efgh_page) ≡ abcd_page ++ efgh_page
nothing_to_cut = refl

pub a_writer_that_stays : cut_writer add_sum two_pages 9 (abcd_page ++ efgh_page) ≡ record two_pages { sync = Clean }
a_writer_that_stays = refl

-- a cut inside a page takes a read and three writes, with a resize and a sync where a page goes,
-- and these alone at the end of a page
pub calls_inside : shorten_calls 4 8 6 ≡ 4
calls_inside = refl

pub calls_before : shorten_calls 4 8 2 ≡ 6
calls_before = refl

pub calls_after : shorten_calls 4 8 4 ≡ 2
calls_after = refl

-- a truncate takes a sync before them
pub calls_of_a_truncate : truncate_calls two_pages 2 ≡ 7
calls_of_a_truncate = refl

pub calls_of_a_sync_alone : truncate_calls two_pages 8 ≡ 1
calls_of_a_sync_alone = refl
