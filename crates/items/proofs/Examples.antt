-- Each definition of items, computed on a few bytes. Pages have 4 bytes, and the checksum is their sum.
use Rattle.std.proofs.Common.{◌≡◌, ℕ, zero, suc, ◌<◌, List, [], ◌∷◌, ◌++◌, take, refl, sym, ap, subst, arith, true, false, lit<, lit≤, Some, None, Ok, Err}
use Rattle.std.specs.Prelude.{All, get_or, slice_get}
use Rattle.std.proofs.lemmas.List.{append_cancel_left}
use Rattle.std.proofs.lemmas.Option.{same_Some}
use Rattle.disk.specs.Disk.{Entry, Life, ReadAt}
use Rattle.disk.specs.declared.error.Error.TheVariants.{BlobInsufficientLength, OffsetOverflow, OutOfMemory}
use Rattle.cache.specs.CacheState.{CacheState}
use Rattle.page.specs.Page.{text}
use Rattle.page.specs.Sums.{add_sum}
use Rattle.page.proofs.Examples.{abcd_page, ef_page}
use Rattle.crash.proofs.Disks.{base_is_image}
use Rattle.crash.proofs.Promise.{keeps_less}
use Rattle.paged_read.specs.Failures.{AreAnswered, NoneFailed, none_failed_start}
use Rattle.writer_state.proofs.Examples.{a_lost_floor, all_is_covered, all_keep, before, durable, flush_started, seven, six, with_g}
use Rattle.items.specs.Items.{items, item, item_floor, AreDurable, AreFirst, BringsItemsBack, WouldBeDurable}
use Rattle.items.specs.State.{ItemsReplayState, ItemsState}
use Rattle.items.specs.Standing.{AreItems, count, items_content, items_of}
use Rattle.items.specs.Calls.{AreRising, ItemIsAt, FirstRefused, GetGoes, HasRoomFor, IsThere, PassesOffsets, TryPushGoes, item_ranges}
use Rattle.items.specs.Readers.{NextItemRefused}
use Rattle.items.specs.Run.{SameSizes, SaysPushed, TellsLength}
use Rattle.items.specs.declared.run.ItemReply.TheVariants.{BadItem, Closed, Done, Length}
use Rattle.items.proofs.Laws.{brings_back, durable_of}
use Rattle.items.proofs.Standing.{stand}

-- ---- items of bytes

-- of the seven bytes of "abcdefg" those of three bytes are "abc" and "def"
pub two_items : items 3 seven ≡ (97 ∷ 98 ∷ 99 ∷ []) ∷ (100 ∷ 101 ∷ 102 ∷ []) ∷ []
two_items = refl

-- the rest, "g", is no item
pub the_rest_is_none : slice_get (items 3 seven) 2 ≡ Some (103 ∷ []) → ⊥
the_rest_is_none is = absurd (cc is)

-- fewer bytes than an item has are no item
pub no_item : items 3 (97 ∷ 98 ∷ []) ≡ []
no_item = refl

-- "def" is number 1
pub an_item : item 3 seven 1 ≡ 100 ∷ 101 ∷ 102 ∷ []
an_item = refl

-- seven durable bytes hold two items of three bytes whole
pub a_floor_of_items : item_floor 3 7 ≡ 2
a_floor_of_items = refl

pub are_first : AreFirst ((97 ∷ []) ∷ []) ((97 ∷ []) ∷ (98 ∷ []) ∷ [])
are_first = refl

-- an item that is second among these isn't the first of them
pub is_not_first : AreFirst ((98 ∷ []) ∷ []) ((97 ∷ []) ∷ (98 ∷ []) ∷ []) → ⊥
is_not_first first = omega (arith, ap (λ (l : List (List ℕ)). get_or (get_or l 0 []) 0 0) first)

-- ---- what a crash keeps

-- every image of the durable blob has "abc" and "def"
pub two_are_durable : AreDurable add_sum 4 3 six 2 durable
two_are_durable = durable_of add_sum 4 3 six 2 durable (omega arith) (omega arith) all_keep

-- and so "abcd", an item of four bytes
pub one_is_durable : AreDurable add_sum 4 4 six 1 durable
one_is_durable = durable_of add_sum 4 4 six 1 durable (omega arith) (omega arith) (keeps_less add_sum 4 six 6 4 durable (omega arith) all_keep)

-- an item of seven bytes isn't durable where six of them are
pub seven_are_not : AreDurable add_sum 4 7 seven 1 durable → ⊥
seven_are_not one = a_lost_floor (one.bytes.kept (abcd_page ++ ef_page) (base_is_image durable))

-- three items of three bytes aren't durable, since there are no such
pub there_is_no_third : AreDurable add_sum 4 3 seven 3 durable → ⊥
there_is_no_third three = omega (arith, three.within)

-- an item of seven bytes would be durable once the started sync completed
pub it_would_be : WouldBeDurable add_sum 4 7 seven 1 0 flush_started
it_would_be = record { within = omega arith; keeps = all_is_covered }

-- what comes back of the durable blob begins with both items
pub both_come_back : BringsItemsBack add_sum 4 3 durable (items 3 (text add_sum 4 (abcd_page ++ ef_page)))
both_come_back = brings_back add_sum 4 3 durable (abcd_page ++ ef_page) (omega arith) (base_is_image durable)

-- so one item isn't enough
pub one_is_too_few : BringsItemsBack add_sum 4 3 durable ((97 ∷ 98 ∷ 99 ∷ []) ∷ []) → ⊥
one_is_too_few back = omega (arith, (back six 2 two_are_durable).0)

-- ---- items between two calls

-- "abcdefg" as one item of seven bytes
abbrev pub one_of_seven : ItemsState
one_of_seven = record { writer = with_g; size = 7 }

pub its_bytes : items_content one_of_seven before ≡ seven
its_bytes = refl

pub its_item : items_of one_of_seven before ≡ seven ∷ []
its_item = refl

pub its_count : count one_of_seven ≡ 1
its_count = refl

-- a writer whose content ends inside an item is no items
pub not_whole : (cache : CacheState) → AreItems add_sum (record { writer = with_g; size = 3 }) cache before → ⊥
not_whole cache are = omega (arith, (stand add_sum (record { writer = with_g; size = 3 }) cache before are).whole)

-- ---- where items are

-- of two items of three bytes, number 1 begins at 3
pub found : ItemIsAt 3 2 1 (Ok 3)
found = (refl, omega arith, omega arith)

pub the_last_is_there : IsThere 3 2 1
the_last_is_there = (omega arith, omega arith)

-- a number one past the last is refused
pub past_the_last : ItemIsAt 3 2 2 (Err BlobInsufficientLength)
past_the_last = (omega arith, omega arith)

pub two_is_none : ItemIsAt 3 2 2 (Ok 6) → ⊥
two_is_none finds = omega (arith, finds.2)

-- the item of this number would begin at the greatest number of 64 bits, and end past it
pub past_all_offsets : ItemIsAt 3 2 6148914691236517205 (Err OffsetOverflow)
past_all_offsets = (omega arith, omega arith)

-- the item of the number before it would end at that greatest number, so it is only missing
pub the_last_offset : ItemIsAt 3 2 6148914691236517204 (Err BlobInsufficientLength)
the_last_offset = (omega arith, omega arith)

pub the_ranges : item_ranges 3 (0 ∷ 2 ∷ []) ≡ (0, 3) ∷ (6, 3) ∷ []
the_ranges = refl

-- ---- reads

pub a_get : (life : Life) → GetGoes 3 seven 1 (100 ∷ 101 ∷ 102 ∷ []) life life (Ok tt)
a_get life = (refl, none_failed_start life.present)

-- another item's bytes aren't an answer
pub another_item : (life : Life) → GetGoes 3 seven 1 (97 ∷ 98 ∷ 99 ∷ []) life life (Ok tt) → ⊥
another_item life gets =
    let same : 100 ∷ 101 ∷ 102 ∷ [] ≡ 97 ∷ 98 ∷ 99 ∷ [] = same_Some (100 ∷ 101 ∷ 102 ∷ []) (97 ∷ 98 ∷ 99 ∷ []) gets.0 in
    omega (arith, ap (λ (l : List ℕ). get_or l 0 0) same)

-- number 2 is refused, and not for its offset
pub no_get : (life : Life) → GetGoes 3 seven 2 [] life life (Err BlobInsufficientLength)
no_get life = (refl, omega arith, omega arith)

pub no_overflow : (life : Life) → GetGoes 3 seven 2 [] life life (Err OffsetOverflow) → ⊥
no_overflow life gets = omega (arith, gets.1)

-- the blob after a read of the device that failed
abbrev pub failed_read : Entry
failed_read = record { request = ReadAt 0 16; failed = true }

abbrev pub after_failed_read : Life → Life
after_failed_read life = record { present = record life.present { log = life.present.log ++ failed_read ∷ [] }; past = life.past }

it_failed : (life : Life) → NoneFailed life.present (after_failed_read life).present → ⊥
it_failed life (more, is, answered) =
    let same : failed_read ∷ [] ≡ more = append_cancel_left life.present.log (failed_read ∷ []) more is in
    let told : true ≡ false = (subst (λ (es : List Entry). AreAnswered es) (sym same) answered).0 in
    absurd (cc told)

-- a failed read isn't answered as OutOfMemory, for an item or for a replay to which nothing came
pub no_want_of_memory : (life : Life) → GetGoes 3 seven 1 [] life (after_failed_read life) (Err OutOfMemory) → ⊥
no_want_of_memory life gets = it_failed life gets.1

pub no_want_in_a_replay : (r : ItemsReplayState) (life : Life) → NextItemRefused r r life (after_failed_read life) OutOfMemory → ⊥
no_want_in_a_replay r life refused = it_failed life (refused refl)

pub they_rise : AreRising (0 ∷ 2 ∷ 5 ∷ [])
they_rise = (omega arith, (omega arith, (omega arith, tt)))

-- a number that comes twice doesn't rise
pub twice_is_no_rise : AreRising (2 ∷ 2 ∷ []) → ⊥
twice_is_no_rise rise = omega (arith, rise.1.0)

-- of two items, number 2 is the first of these that is refused
pub the_first_decides : FirstRefused 3 2 (2 ∷ 6148914691236517205 ∷ []) BlobInsufficientLength
the_first_decides = record { at = 0; there = omega arith; before = λ k d below. absurd (omega (arith, below)); refused = past_the_last }

-- so a later one, which is refused otherwise, doesn't decide
pub a_later_does_not : FirstRefused 3 2 (2 ∷ 6148914691236517205 ∷ []) OffsetOverflow → ⊥
a_later_does_not first = none_such first.at first.there first.before first.refused
  where
    none_such : (at : ℕ) → at < 2 → All (IsThere 3 2) (take at (2 ∷ 6148914691236517205 ∷ [])) → ItemIsAt 3 2 (get_or (2 ∷ 6148914691236517205 ∷ []) at 0) (Err OffsetOverflow) → ⊥
    none_such zero there before refused = omega (arith, refused.0)
    none_such (suc zero) there before refused = omega (arith, (before 0 0 (omega arith)).1)
    none_such (suc (suc at)) there before refused = omega (arith, there)

-- ---- pushes and runs

-- a tip of three bytes and a buffer of eight have room for five bytes more, and so none for seven
pub no_room_for_seven : TryPushGoes add_sum one_of_seven seven one_of_seven (Ok None)
no_room_for_seven = (lit< tt, omega arith, refl)

-- it has room for the three bytes of an item, and would answer `None` for none of them
pub room_for_three : HasRoomFor one_of_seven (97 ∷ 98 ∷ 99 ∷ [])
room_for_three = (lit< tt, omega arith)

pub room_is_used : (now : ItemsState) → TryPushGoes add_sum one_of_seven (97 ∷ 98 ∷ 99 ∷ []) now (Ok None) → ⊥
room_is_used now tries = omega (arith, tries.1)

-- behind the last page that has an offset there is no room, whatever the buffer holds
abbrev at_the_end : ItemsState
at_the_end = record one_of_seven { writer = record one_of_seven.writer { full_pages = 1152921504606846975 } }

pub passes_offsets : PassesOffsets at_the_end (97 ∷ 98 ∷ 99 ∷ [])
passes_offsets = lit≤ tt

-- so a push that asks no device may neither answer that the item doesn't fit the buffer, nor that
-- memory is wanted
pub not_none : (now : ItemsState) → TryPushGoes add_sum at_the_end seven now (Ok None) → ⊥
not_none now tries = omega (arith, tries.0)

pub not_out_of_memory : (now : ItemsState) → TryPushGoes add_sum at_the_end (97 ∷ 98 ∷ 99 ∷ []) now (Err OutOfMemory) → ⊥
not_out_of_memory now tries = omega (arith, tries.0.0)

-- a session without items is closed to each step
pub closed : (life : Life) (cache : CacheState) → SaysPushed add_sum seven None None cache life life Closed
closed life cache = (refl, refl)

-- bytes of another size change nothing
pub another_size : (life : Life) (cache : CacheState) → SaysPushed add_sum six (Some one_of_seven) (Some one_of_seven) cache life life BadItem
another_size life cache = (λ same. omega (arith, same), refl, refl)

-- an item of the size isn't bad
pub not_bad : (life : Life) (cache : CacheState) → SaysPushed add_sum seven (Some one_of_seven) (Some one_of_seven) cache life life BadItem → ⊥
not_bad life cache says = says.0 refl

-- a push isn't answered as a sync is
pub no_done : (life : Life) (cache : CacheState) → SaysPushed add_sum seven (Some one_of_seven) (Some one_of_seven) cache life life Done → ⊥
no_done life cache says = says

pub a_length : TellsLength (Some one_of_seven) (Length 1)
a_length = refl

-- a refusal may end items; nothing brings them back
pub ended : SameSizes (Some one_of_seven) None
ended = tt

pub not_again : SameSizes None (Some one_of_seven) → ⊥
not_again sizes = sizes
