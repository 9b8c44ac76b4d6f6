-- Each definition of pages, computed on a few bytes. Pages have 4 bytes, and the checksum is the
-- sum of the bytes.
use Rattle.std.proofs.Common.{◌≡◌, ◌%◌, ◌^◌, ◌+◌, ◌*◌, ◌<◌, ◌≤◌, ℕ, zero, suc, arith, List, [], ◌∷◌, ◌++◌, length, refl, lit<, lit≤}
use Rattle.std.specs.Prelude.{Some, None, Ok, Err, true, false, replicate, nat_le}
use Rattle.std.specs.Int.{w16, to_be_bytes}
use Rattle.page.specs.Page.{slot_bytes, slot_of, slot_len, slot_crc, verifies, verified_len, value_len, value, active, pages, text}
use Rattle.page.specs.Footer.{footer_bytes, footer_of, longer_slot}
use Rattle.page.specs.Geometry.{adjusted, is_too_big, EndWithin, RangeGoes, RangesGo}
use Rattle.disk.specs.declared.error.Error.TheVariants.{OffsetOverflow, BlobInsufficientLength}
use Rattle.page.specs.Sums.{add_sum, const_sum}
use Rattle.page.specs.Tip.{Tip, tip_size, joined, full_len, drained, grown_limit, page_limit, kept_limit, TipAppendGoes, TipTryAppendGoes, TipDrainGoes}
use Rattle.page.specs.declared.slot.Slot.TheVariants.{First, Second}
use Rattle.page.proofs.Chunks.{All-single}

-- the full page "abcd": four bytes, the slot of length 4 and sum 394, and an empty slot
abbrev pub abcd_page : List ℕ
abcd_page = 97 ∷ 98 ∷ 99 ∷ 100 ∷ 0 ∷ 4 ∷ 0 ∷ 0 ∷ 1 ∷ 138 ∷ 0 ∷ 0 ∷ 0 ∷ 0 ∷ 0 ∷ 0 ∷ []

-- the partial page "ef": two bytes, two zeros, the slot of length 2 and sum 203, and an empty slot
abbrev pub ef_page : List ℕ
ef_page = 101 ∷ 102 ∷ 0 ∷ 0 ∷ 0 ∷ 2 ∷ 0 ∷ 0 ∷ 0 ∷ 203 ∷ 0 ∷ 0 ∷ 0 ∷ 0 ∷ 0 ∷ 0 ∷ []

-- "ef" rewritten as "efg": the old slot stands, and the second one has length 3 and sum 306
abbrev pub efg_page : List ℕ
efg_page = 101 ∷ 102 ∷ 103 ∷ 0 ∷ 0 ∷ 2 ∷ 0 ∷ 0 ∷ 0 ∷ 203 ∷ 0 ∷ 3 ∷ 0 ∷ 0 ∷ 1 ∷ 50 ∷ []

-- the slot of length 4 and sum 394
pub a_slots_bytes : slot_bytes 4 394 ≡ 0 ∷ 4 ∷ 0 ∷ 0 ∷ 1 ∷ 138 ∷ []
a_slots_bytes = refl

-- that slot stands first after the four bytes of "abcd"
pub the_first_slot : slot_of 4 First abcd_page ≡ slot_bytes 4 394
the_first_slot = refl

-- the second slot of "efg" stands six bytes after the first
pub the_second_slot : slot_of 4 Second efg_page ≡ slot_bytes 3 306
the_second_slot = refl

-- the length of the second slot of "efg"
pub a_slots_length : slot_len (slot_of 4 Second efg_page) ≡ 3
a_slots_length = refl

-- the checksum of the second slot of "efg"
pub a_slots_checksum : slot_crc (slot_of 4 Second efg_page) ≡ 306
a_slots_checksum = refl

-- the slot over "ef" verifies
pub a_true_slot : verifies add_sum 4 First ef_page ≡ true
a_true_slot = refl

-- an empty slot doesn't verify, though the sum of no bytes is 0
pub an_empty_slot : verifies add_sum 4 Second ef_page ≡ false
an_empty_slot = refl

-- the first slot of "efg" verifies over 2 bytes, and the second over 3
pub lengths_that_verify : verified_len add_sum 4 First efg_page ∷ verified_len add_sum 4 Second efg_page ∷ [] ≡ 2 ∷ 3 ∷ []
lengths_that_verify = refl

-- so the value of "efg" has 3 bytes
pub the_greater_length : value_len add_sum 4 efg_page ≡ 3
the_greater_length = refl

-- that value is "efg"
pub the_value : value add_sum 4 efg_page ≡ 101 ∷ 102 ∷ 103 ∷ []
the_value = refl

-- its slot is the second
pub the_active_slot : active add_sum 4 efg_page ≡ Some (record { slot = Second; len = 3; crc = 306 })
the_active_slot = refl

-- with the third byte torn off the second slot fails, and the first one still gives "ef"
pub the_other_slot : active add_sum 4 (101 ∷ 102 ∷ 0 ∷ 0 ∷ 0 ∷ 2 ∷ 0 ∷ 0 ∷ 0 ∷ 203 ∷ 0 ∷ 3 ∷ 0 ∷ 0 ∷ 1 ∷ 50 ∷ []) ≡ Some (record { slot = First; len = 2; crc = 203 })
the_other_slot = refl

-- sixteen zeros have no value
pub no_slot : active add_sum 4 (0 ∷ 0 ∷ 0 ∷ 0 ∷ 0 ∷ 0 ∷ 0 ∷ 0 ∷ 0 ∷ 0 ∷ 0 ∷ 0 ∷ 0 ∷ 0 ∷ 0 ∷ 0 ∷ []) ≡ None
no_slot = refl

-- bytes that are all ones have no value, under either sum, nor have fewer bytes than a footer has
pub ones_have_no_value : active add_sum 4 (replicate 16 255) ≡ None
ones_have_no_value = refl

pub nor_by_chance : active const_sum 4 (replicate 16 255) ≡ None
nor_by_chance = refl

pub no_room_for_a_footer : active const_sum 0 (replicate 11 255) ≡ None
no_room_for_a_footer = refl

-- a full page under a sum that is always 0
pub a_full_page : active const_sum 4 (replicate 4 255 ++ slot_bytes 4 0 ++ slot_bytes 0 0) ≡ Some (record { slot = First; len = 4; crc = 0 })
a_full_page = refl

-- of two slots of the same length the first gives the value
pub the_first_of_two : active const_sum 4 (0 ∷ 0 ∷ 0 ∷ 0 ∷ 0 ∷ 3 ∷ 0 ∷ 0 ∷ 0 ∷ 0 ∷ 0 ∷ 3 ∷ 0 ∷ 0 ∷ 0 ∷ 0 ∷ []) ≡ Some (record { slot = First; len = 3; crc = 0 })
the_first_of_two = refl

-- a length past the page doesn't verify
pub no_length_past_the_page : active const_sum 4 (0 ∷ 0 ∷ 0 ∷ 0 ∷ 0 ∷ 4 ∷ 0 ∷ 0 ∷ 0 ∷ 0 ∷ 0 ∷ 5 ∷ 0 ∷ 0 ∷ 0 ∷ 0 ∷ []) ≡ Some (record { slot = First; len = 4; crc = 0 })
no_length_past_the_page = refl

-- "fallback data", and its sum
abbrev fallback : List ℕ
fallback = 102 ∷ 97 ∷ 108 ∷ 108 ∷ 98 ∷ 97 ∷ 99 ∷ 107 ∷ 32 ∷ 100 ∷ 97 ∷ 116 ∷ 97 ∷ []

pub the_sum_of_text : add_sum fallback ≡ 1258
the_sum_of_text = refl

pub the_sum_of_nothing : add_sum [] ≡ 0
the_sum_of_nothing = refl

pub the_constant_sum : const_sum fallback ≡ 0
the_constant_sum = refl

-- a longer slot that fails gives way to a shorter one
pub a_slot_gives_way : active add_sum 52 (fallback ++ replicate 39 0 ++ slot_bytes 23 195894762 ++ slot_bytes 13 1258) ≡ Some (record { slot = Second; len = 13; crc = 1258 })
a_slot_gives_way = refl

-- numbers in a footer are big-endian
pub a_footer : footer_bytes (record { len1 = 258; crc1 = 50595078; len2 = 1800; crc2 = 151653132 }) ≡ 1 ∷ 2 ∷ 3 ∷ 4 ∷ 5 ∷ 6 ∷ 7 ∷ 8 ∷ 9 ∷ 10 ∷ 11 ∷ 12 ∷ []
a_footer = refl

pub a_footer_back : footer_of (1 ∷ 2 ∷ 3 ∷ 4 ∷ 5 ∷ 6 ∷ 7 ∷ 8 ∷ 9 ∷ 10 ∷ 11 ∷ 12 ∷ []) ≡ record { len1 = 258; crc1 = 50595078; len2 = 1800; crc2 = 151653132 }
a_footer_back = refl

pub a_length_alone : to_be_bytes w16 258 ≡ 1 ∷ 2 ∷ []
a_length_alone = refl

-- the slot of the greater length leads, and the first on equal lengths
pub the_first_of_equals : longer_slot (record { len1 = 100; crc1 = 1; len2 = 100; crc2 = 2 }) ≡ First
the_first_of_equals = refl

pub the_longer_second : longer_slot (record { len1 = 100; crc1 = 1; len2 = 200; crc2 = 2 }) ≡ Second
the_longer_second = refl

pub the_longer_first : longer_slot (record { len1 = 200; crc1 = 1; len2 = 100; crc2 = 2 }) ≡ First
the_longer_first = refl

-- two pages and a rest of one byte, which is no page
pub two_pages : pages 4 (abcd_page ++ ef_page ++ 255 ∷ []) ≡ abcd_page ∷ ef_page ∷ []
two_pages = refl

-- the text of those pages is "abcdef"
pub the_text : text add_sum 4 (abcd_page ++ ef_page ++ 255 ∷ []) ≡ 97 ∷ 98 ∷ 99 ∷ 100 ∷ 101 ∷ 102 ∷ []
the_text = refl

-- the text ends with the first page that isn't full: after "ef" no page counts
pub the_text_ends : text add_sum 4 (ef_page ++ abcd_page) ≡ 101 ∷ 102 ∷ []
the_text_ends = refl

-- under a sum that is always 0 a slot with any length and a zero checksum verifies
pub a_slot_by_chance : value const_sum 4 (101 ∷ 102 ∷ 0 ∷ 0 ∷ 0 ∷ 2 ∷ 0 ∷ 0 ∷ 0 ∷ 0 ∷ 0 ∷ 3 ∷ 0 ∷ 0 ∷ 0 ∷ 0 ∷ []) ≡ 101 ∷ 102 ∷ 0 ∷ []
a_slot_by_chance = refl

-- a sum of 2 to the power of 32 doesn't fit a slot: the slot that is written for one byte has 0
-- there, and doesn't verify
pub a_great_sum : verifies (λ bytes. 4294967296) 1 First (7 ∷ slot_bytes 1 4294967296 ++ slot_bytes 0 0) ≡ false
a_great_sum = refl

-- the slot of the greatest sum that fits verifies
pub a_greatest_sum : verifies (λ bytes. 4294967295) 1 First (7 ∷ slot_bytes 1 4294967295 ++ slot_bytes 0 0) ≡ true
a_greatest_sum = refl

-- a capacity of 5 bytes is rounded up to two pages of 4
pub a_capacity : adjusted 5 4 ≡ 8
a_capacity = refl

pub two_pages_at_least : adjusted 10 64 ≡ 128
two_pages_at_least = refl

pub a_capacity_of_pages : adjusted 200 64 ≡ 256
a_capacity_of_pages = refl

-- the greatest capacity, rounded up, passes its type
pub no_capacity : nat_le (2 ^ 64) (adjusted 18446744073709551615 64) ≡ true
no_capacity = refl

-- after 2 buffered bytes, 6 are not too big for 8
pub too_big : is_too_big 2 8 6 4 ≡ false
too_big = refl

-- after 3 bytes, 5 fit; 6 leave a whole page after the one that they fill; after 7, 4 don't
pub not_past_the_capacity : is_too_big 3 8 5 4 ≡ false
not_past_the_capacity = refl

pub a_page_is_left : is_too_big 3 8 6 4 ≡ true
a_page_is_left = refl

pub no_page_is_left : is_too_big 7 8 4 4 ≡ false
no_page_is_left = refl

-- page 2 of 4 logical bytes stands at byte 32 and has 16 bytes; the last page that has an offset,
-- and the first that has none
pub a_physical_page : (2 * (4 + 12) ≡ 32) × (4 + 12 ≡ 16)
a_physical_page = (refl, refl)

pub the_last_page : 1152921504606846974 * (4 + 12) ≡ 18446744073709551584
the_last_page = refl

pub it_ends_within : (1152921504606846974 + 1) * (4 + 12) < 2 ^ 64
it_ends_within = lit< tt

pub the_next_passes : 2 ^ 64 ≤ (1152921504606846975 + 1) * (4 + 12)
the_next_passes = lit≤ tt

-- so many bytes more pass the greatest offset, whatever the capacity
pub too_big_to_count : 2 ^ 64 ≤ 1 + 18446744073709551615
too_big_to_count = lit≤ tt

-- a range whose end passes the greatest offset, and one that passes a size of 16
pub an_overflow : RangeGoes 16 (18446744073709551615, 4) (Err OffsetOverflow)
an_overflow = lit≤ tt

pub past_the_end : RangeGoes 16 (14, 4) (Err BlobInsufficientLength)
past_the_end = (lit< tt, lit< tt)

pub up_to_the_end : RangeGoes 16 (12, 4) (Ok tt)
up_to_the_end = lit≤ tt

-- the first range that can't be read decides, though the next one's end passes the greatest offset
pub the_first_decides : RangesGo 16 ((0, 4) ∷ (14, 4) ∷ (18446744073709551615, 4) ∷ []) (Err BlobInsufficientLength)
the_first_decides = ((0, 4) ∷ [], (18446744073709551615, 4) ∷ [], ((14, 4), refl, first, past_the_end))
  where
    first : EndWithin 16 ((0, 4) ∷ [])
    first zero range lt = omega (arith, lt)
    first (suc k) range lt = absurd (omega (arith, lt))

-- seven bytes after offset 10, in pages of 8 bytes, with a capacity of 64
abbrev pub seven : Tip
seven = record { page_size = 8; capacity = 64; offset = 10; bytes = 1 ∷ 1 ∷ 1 ∷ 1 ∷ 1 ∷ 1 ∷ 1 ∷ [] }

-- the blob has 17 bytes
pub a_tips_size : tip_size seven ≡ 17
a_tips_size = refl

-- with two bytes more that tip has a page and a byte
abbrev pub nine : Tip
nine = joined seven (2 ∷ 2 ∷ [])

pub whole_pages_of_a_tip : full_len nine ≡ 8
whole_pages_of_a_tip = refl

-- handed out, the page leaves one byte after it
pub a_drained_tip : drained nine ≡ record { page_size = 8; capacity = 64; offset = 18; bytes = 2 ∷ [] }
a_drained_tip = refl

-- an append within the capacity answers that it isn't passed
pub an_append : TipAppendGoes seven (2 ∷ 2 ∷ []) nine (Ok false)
an_append = (lit< tt, refl, refl)

-- an append of two bytes that fit answers the offset of the first, after the seven
pub a_try : TipTryAppendGoes seven (2 ∷ 2 ∷ []) nine (Ok (Some 17))
a_try = (lit< tt, lit≤ tt, refl, refl)

-- the page that is handed out is one chunk
pub a_drain : TipDrainGoes nine (drained nine) (Ok ((1 ∷ 1 ∷ 1 ∷ 1 ∷ 1 ∷ 1 ∷ 1 ∷ 2 ∷ []) ∷ []))
a_drain = (refl, All-single (λ chunk. length chunk % 8 ≡ 0) _ refl, refl)

-- after one page, 17 bytes need three pages
pub room_for_what_is_needed : grown_limit 8 17 64 8 ≡ 24
room_for_what_is_needed = refl

-- a chunk is as long as those before it together
pub room_for_as_much_again : grown_limit 32 8 512 8 ≡ 32
room_for_as_much_again = refl

-- a chunk doesn't pass the capacity
pub room_within_the_capacity : grown_limit 48 1 64 8 ≡ 16
room_within_the_capacity = refl

-- a tail that begins with a byte has room for a page, and one without a byte has none
pub room_for_a_page : page_limit (2 ∷ []) 8 ≡ 8
room_for_a_page = refl

pub no_room : page_limit [] 8 ≡ 0
no_room = refl

-- a byte after a page in a chunk of two pages moves to a page of its own
pub room_that_is_kept : kept_limit nine.bytes 16 8 ≡ 8
room_that_is_kept = refl
