-- Pages that are passed of two frames, which begin at the bytes 0 and 7 and end at byte 15.
use Rattle.std.proofs.Common.{◌≡◌, ◌≢◌, ◌⊎◌, ◌<◌, ◌≤◌, ◌+◌, ◌*◌, ◌∷◌, [], length, length-append, ap, refl, inl, inr, arith, lit<, lit≤}
use Rattle.std.specs.Prelude.{Some, None, Ok, Err}
use Rattle.journal.specs.Frame.{record_len}
use Rattle.page_digests.specs.declared.error.Error.{Error}
use Rattle.page_digests.specs.declared.error.Error.TheVariants.{Damaged, OutOfMemory, System}
use Rattle.page_digests.specs.Seals.{HasSecondPreimage}
use Rattle.page_digests.specs.Sources.{EndsWithRead, SourceRead, gave}
use Rattle.page_digests.proofs.PageExamples.{first}
use Rattle.segments.specs.MarkReads.{HasMarksPreimage, MarksState}
use Rattle.segments.specs.Passing.{IsPassedTo, PassPageAnswers, PassPageGoes, PassedFrames, frames_passed, next_page}
use Rattle.segments.specs.Seeks.{BehindFails}
use Rattle.segments.proofs.MarkExamples.{two_frames}
use Rattle.segments.proofs.MarkReadExamples.{it_has_no_twin, it_is_its_seal, its_marks_are, no_other_marks, of_two, unopened}
use Rattle.segments.proofs.PassedPages.{last_passed}

pub behind_its_page : next_page 4 5 ≡ 8
behind_its_page = refl

-- the page of the offset isn't passed
pub at_its_page : next_page 4 4 ≡ 4 → ⊥
at_its_page is = omega (arith, is)

-- the second frame is the first behind page 0
pub on_to_the_second : IsPassedTo 4 two_frames 1 7
unfolding record_len
on_to_the_second = refl

-- none begins behind the last page, so one goes on at the end
pub on_to_the_end : IsPassedTo 4 two_frames 13 15
unfolding record_len
on_to_the_end = refl

-- the page itself isn't where one goes on
pub on_to_its_page : IsPassedTo 4 two_frames 1 4 → ⊥
unfolding record_len
on_to_its_page is = let e : 4 ≡ 7 = is in omega (arith, e)

pub the_second_is_passed : frames_passed 4 two_frames 4 ≡ 1
unfolding record_len
the_second_is_passed = refl

-- none is counted that would begin at the end
pub both_are_passed : frames_passed 32 two_frames 0 ≡ 2
unfolding record_len
both_are_passed = refl

-- the first begins before the offset
pub the_first_is_passed : frames_passed 4 two_frames 1 ≡ 1 → ⊥
unfolding record_len
the_first_is_passed is = let e : 0 ≡ 1 = is in omega (arith, e)

-- nothing is read of the last page
pub unknown_in_the_last : PassedFrames first 0 of_two of_two unopened unopened None
unknown_in_the_last = inl (lit≤ tt, refl, refl)

none_was_last : (r : SourceRead) → EndsWithRead [] [] r → ⊥
none_was_last r (more, none) = omega (arith, ap length none, length-append more (r ∷ []))

-- by pages of four bytes
abbrev pub by_fours : MarksState
by_fours = record of_two { bytes = record of_two.bytes { page_size = 4 } }

-- what isn't read doesn't fail
nothing_fails : (e : Error) → e ≢ OutOfMemory → BehindFails first 0 by_fours by_fours unopened unopened e → ⊥
nothing_fails Damaged other (inl (i, least, (j, touched, (bytes, last, len, differ)))) = none_was_last (gave (64 + j * 4) bytes) last
nothing_fails (System x) other (inl (i, least, (j, touched, last))) = none_was_last _ last
nothing_fails Damaged other (inr (b, page, told, (at, least, most, fails))) = omega (arith, most)
nothing_fails (System x) other (inr (b, page, told, (at, least, most, fails))) = omega (arith, most)
nothing_fails OutOfMemory other fails = other refl

-- it isn't the last page, and nothing was read
pub not_even_tried : PassedFrames first 0 by_fours by_fours unopened unopened None → ⊥
not_even_tried (inl (last, same, still)) = let e : 15 ≤ 4 = last in omega (arith, e)
not_even_tried (inr (e, other, fails)) = nothing_fails e other fails

-- one frame too many
pub three_are_passed : PassedFrames first 0 of_two of_two unopened unopened (Some 3) → ⊥
unfolding record_len
three_are_passed is = by_case (is two_frames it_is_its_seal its_marks_are)
  where
    by_case : (3 ≡ frames_passed 32 two_frames 0) ⊎ HasSecondPreimage first 32 two_frames ⊎ HasMarksPreimage first 32 two_frames → ⊥
    by_case (inl same) = let e : 3 ≡ 2 = same in omega (arith, e)
    by_case (inr (inl twin)) = it_has_no_twin twin
    by_case (inr (inr twin)) = no_other_marks twin

pub the_last_page_goes : PassPageGoes first 0 of_two of_two unopened unopened (Ok (record { to = 15; frames = None }))
the_last_page_goes = last_passed first 0 15 of_two unopened (lit< tt) refl refl (lit≤ tt)

pub the_last_page_answers : PassPageAnswers first 0 of_two of_two unopened unopened (Ok (record { to = 15; frames = None }))
the_last_page_answers = the_last_page_goes.answers

-- one stays where one is
pub not_forward : PassPageAnswers first 0 of_two of_two unopened unopened (Ok (record { to = 0; frames = None })) → ⊥
not_forward is = let e : 0 < 0 = is.0 in omega (arith, e)

-- behind the end
pub too_far : PassPageGoes first 0 of_two of_two unopened unopened (Ok (record { to = 16; frames = None })) → ⊥
too_far is = let e : 16 ≤ 15 = is.answers.1 in omega (arith, e)

-- nothing was read that could be damaged
pub refused_unread : PassPageAnswers first 0 by_fours by_fours unopened unopened (Err Damaged) → ⊥
refused_unread (inl (i, behind, (j, touched, (bytes, last, len, differ)))) = none_was_last (gave (64 + j * 4) bytes) last
refused_unread (inr (is, fails)) = cc is
