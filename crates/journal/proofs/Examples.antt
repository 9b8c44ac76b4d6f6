-- Each definition of frames, computed on a few bytes. The checksum is the sum of the bytes.
use Rattle.std.proofs.Common.{◌≡◌, ℕ, List, [], ◌∷◌, ◌++◌, refl, sym, subst, true, Ok, Err}
use Rattle.std.specs.Prelude.{Some, None, false}
use Rattle.std.proofs.lemmas.List.{append_cancel_left}
use Rattle.disk.specs.Disk.{Entry, Life, ReadAt}
use Rattle.disk.specs.declared.error.Error.TheVariants.{OutOfMemory}
use Rattle.page.specs.Sums.{add_sum, const_sum}
use Rattle.paged_read.specs.Failures.{AreAnswered, NoneFailed, none_failed_start}
use Rattle.paged_read.specs.Tail.{Tail}
use Rattle.journal.specs.declared.frame.Found.{Found}
use Rattle.journal.specs.Journal.{FillsFromContent, ReadContentGoes, ReadRecordGoes}
use Rattle.journal.specs.Costs.{after_frames, frame_calls, frame_range, frames_calls, pages_met}
use Rattle.journal.specs.Frame.{frame, record_len, frame_len, is_record, record_of, frames, records, whole_frames, AreWholeFrames, IsPrefix}

-- the frame of "ab": its length, its bytes, their sum 195, and the mark
abbrev pub ab_frame : List ℕ
ab_frame = 0 ∷ 2 ∷ 97 ∷ 98 ∷ 0 ∷ 0 ∷ 0 ∷ 195 ∷ 1 ∷ []

-- the frame of "c"
abbrev pub c_frame : List ℕ
c_frame = 0 ∷ 1 ∷ 99 ∷ 0 ∷ 0 ∷ 0 ∷ 99 ∷ 1 ∷ []

-- the frame of "ab" with another checksum and no mark
abbrev pub bad_frame : List ℕ
bad_frame = 0 ∷ 2 ∷ 97 ∷ 98 ∷ 0 ∷ 0 ∷ 0 ∷ 0 ∷ 0 ∷ []

-- the frame of "ab" without its last four bytes
abbrev pub half_frame : List ℕ
half_frame = 0 ∷ 2 ∷ 97 ∷ 98 ∷ 0 ∷ []

pub a_frame : frame add_sum (97 ∷ 98 ∷ []) ≡ ab_frame
unfolding frame
a_frame = refl

pub an_empty_frame : frame add_sum [] ≡ 0 ∷ 0 ∷ 0 ∷ 0 ∷ 0 ∷ 0 ∷ 1 ∷ []
unfolding frame
an_empty_frame = refl

pub a_length : record_len (1 ∷ 2 ∷ 97 ∷ []) ≡ 258
unfolding record_len
a_length = refl

-- a length of which the second byte is missing
pub a_cut_length : record_len (1 ∷ []) ≡ 256
unfolding record_len
a_cut_length = refl

pub a_frames_length : frame_len ab_frame ≡ 9
unfolding record_len
a_frames_length = refl

pub a_record : record_of add_sum (ab_frame ++ c_frame) ≡ Some (97 ∷ 98 ∷ [])
unfolding record_len is_record record_of
a_record = refl

-- a frame whose mark is 0 is no record
pub no_record : record_of const_sum bad_frame ≡ None
unfolding record_len is_record record_of
no_record = refl

-- a frame whose checksum is another is no record
pub another_sum : is_record add_sum (0 ∷ 1 ∷ 99 ∷ 0 ∷ 0 ∷ 0 ∷ 98 ∷ 1 ∷ []) ≡ false
unfolding record_len is_record
another_sum = refl

pub two_frames : frames (ab_frame ++ c_frame) ≡ ab_frame ∷ c_frame ∷ []
unfolding record_len frames
two_frames = refl

-- the second frame is cut short
pub a_cut_frame : frames (ab_frame ++ 0 ∷ 1 ∷ 99 ∷ []) ≡ ab_frame ∷ (0 ∷ 1 ∷ 99 ∷ []) ∷ []
unfolding record_len frames
a_cut_frame = refl

pub two_records : records add_sum (ab_frame ++ c_frame) ≡ (97 ∷ 98 ∷ []) ∷ (99 ∷ []) ∷ []
unfolding record_len is_record record_of frames records
two_records = refl

-- a whole frame that is no record is passed over, and what was appended after it is there
pub passed_over : records add_sum (ab_frame ++ bad_frame ++ c_frame) ≡ (97 ∷ 98 ∷ []) ∷ (99 ∷ []) ∷ []
unfolding record_len is_record record_of frames records
passed_over = refl

-- such a frame is whole
pub whole_is_kept : whole_frames (ab_frame ++ bad_frame) ≡ ab_frame ++ bad_frame
unfolding record_len frames whole_frames
whole_is_kept = refl

-- a frame that is cut short isn't whole
pub half_is_left_out : whole_frames (ab_frame ++ bad_frame ++ half_frame) ≡ ab_frame ++ bad_frame
unfolding record_len frames whole_frames
half_is_left_out = refl

-- a frame of whose length one byte is left isn't whole
pub a_byte_is_left_out : whole_frames (c_frame ++ 0 ∷ []) ≡ c_frame
unfolding record_len frames whole_frames
a_byte_is_left_out = refl

pub a_whole : AreWholeFrames (ab_frame ++ c_frame)
unfolding record_len frames whole_frames
a_whole = refl

pub a_prefix : IsPrefix ((97 ∷ 98 ∷ []) ∷ []) ((97 ∷ 98 ∷ []) ∷ (99 ∷ []) ∷ [])
a_prefix = ((99 ∷ []) ∷ [], refl)

-- the blob after a read of the device that failed
abbrev pub failed_read : Entry
failed_read = record { request = ReadAt 0 16; failed = true }

abbrev pub after_failed_read : Life → Life
after_failed_read life = record { present = record life.present { log = life.present.log ++ failed_read ∷ [] }; past = life.past }

it_failed : (life : Life) → NoneFailed life.present (after_failed_read life).present → ⊥
it_failed life (more, is, answered) =
    let same : failed_read ∷ [] ≡ more = append_cancel_left life.present.log (failed_read ∷ []) more is in
    let told : true ≡ false = (subst (λ (es : List Entry). AreAnswered es) (sym same) answered).0 in
    absurd (cc told)

-- a failed read isn't answered as OutOfMemory, though memory may have been asked for after it
pub no_want_of_memory : (own : List ℕ → ℕ) (life : Life) → ReadRecordGoes own ab_frame 0 life (after_failed_read life) (Err OutOfMemory) → ⊥
no_want_of_memory own life refused = it_failed life refused

-- a failed read gives no record
pub no_record_after : (own : List ℕ → ℕ) (life : Life) (found : Found) → ReadRecordGoes own ab_frame 0 life (after_failed_read life) (Ok (Some found)) → ⊥
no_record_after own life found goes = it_failed life goes.1

-- a buffer of two bytes gets those of the content from 2 on, which are "ab"
pub two_are_filled : (life : Life) → FillsFromContent ab_frame 2 (5 ∷ 5 ∷ []) (97 ∷ 98 ∷ []) life life (Ok tt)
two_are_filled life = (refl, none_failed_start life.present)

pub they_go_so : (life : Life) → ReadContentGoes ab_frame 2 (5 ∷ 5 ∷ []) (97 ∷ 98 ∷ []) life life (Ok tt)
they_go_so life = record { answers = two_are_filled life; size = refl }

-- not one byte further on
pub none_further_on : (life : Life) → FillsFromContent ab_frame 1 (5 ∷ 5 ∷ []) (97 ∷ 98 ∷ []) life life (Ok tt) → ⊥
none_further_on life fills = absurd (cc (fills.0))

-- not without a read
pub not_as_it_was : (life : Life) → FillsFromContent ab_frame 2 (5 ∷ 5 ∷ []) (5 ∷ 5 ∷ []) life life (Ok tt) → ⊥
not_as_it_was life fills = absurd (cc (fills.0))

-- a failed read fills none
pub none_after_it_failed : (life : Life) → FillsFromContent ab_frame 2 (5 ∷ 5 ∷ []) (97 ∷ 98 ∷ []) life (after_failed_read life) (Ok tt) → ⊥
none_after_it_failed life fills = it_failed life fills.1

-- no buffer gets longer, though the bytes are the content's
pub no_longer : (life : Life) → ReadContentGoes ab_frame 2 (5 ∷ []) (97 ∷ 98 ∷ []) life life (Ok tt) → ⊥
no_longer life goes = absurd (cc (goes.size))

-- two frames, of 9 bytes and of 8, in pages of 4: the first 16 bytes are in full pages, and one is after them
abbrev pub two : List ℕ
two = ab_frame ++ c_frame

abbrev pub in_pages : Tail
in_pages = record { page_size = 4; id = 0; full_pages = 4; bytes = 1 ∷ [] }

-- the bytes from 3 to before 9 are in three pages; those from 15 to before 17 in one
pub three_met : pages_met in_pages (3, 6) ≡ 3
three_met = refl

pub one_met : pages_met in_pages (15, 2) ≡ 1
one_met = refl

pub none_met : pages_met in_pages (3, 0) ≡ 0
none_met = refl

-- where the second frame lies
pub where_it_is : frame_range two 9 ≡ (9, 8)
unfolding record_len
where_it_is = refl

-- where a frame lies of which five bytes are missing
pub where_it_ends : frame_range (0 ∷ 2 ∷ 97 ∷ 98 ∷ []) 0 ≡ (0, 4)
unfolding record_len
where_it_ends = refl

-- the first frame has bytes of three pages, and its length is in one of them; the second begins in
-- the third
pub calls_of_the_first : frame_calls in_pages two 0 ≡ 4
unfolding record_len
calls_of_the_first = refl

pub calls_of_both : frames_calls in_pages two 0 2 ≡ 7
unfolding record_len
calls_of_both = refl

pub after_both : after_frames two 0 2 ≡ 17
unfolding record_len
after_both = refl
