-- Two frames, of 7 and of 8 bytes, by pages of four bytes.
use Rattle.std.proofs.Common.{◌≡◌, ◌<◌, ◌≤◌, ◌+◌, ◌-◌, [], ◌∷◌, get_or, ℕ, zero, suc, List, length, replicate, take, true, false, refl, ap, arith, lit<, lit≤}
use Rattle.std.specs.Prelude.{Ok, Err}
use Rattle.journal.specs.Frame.{record_len}
use Rattle.segments.specs.Marks.{begins_before, frame_begin, mark_at, mark_bytes, marks, marks_of}
use Rattle.segments.specs.Marking.{FinishesMarks, IsMarked, IsMarkedTo, IsMarking, MarkingState, FramesBegin, PassesPage, PushesPage, TakesMarkedPage, if_cut}
use Rattle.segments.proofs.Pushes.{ends_whole, marks_done, page_pushed, page_taken, pass_begins, pass_more}

-- a record of no byte, and one of a byte
abbrev pub two_frames : List ℕ
two_frames = 0 ∷ 0 ∷ 9 ∷ 9 ∷ 9 ∷ 9 ∷ 1 ∷ 0 ∷ 1 ∷ 5 ∷ 9 ∷ 9 ∷ 9 ∷ 9 ∷ 1 ∷ []

-- the first page, which is in the first frame
abbrev pub its_front : List ℕ
its_front = 0 ∷ 0 ∷ 9 ∷ 9 ∷ []

pub the_second_begins : frame_begin two_frames 1 ≡ 7
unfolding record_len
the_second_begins = refl

-- and there a third one would
pub the_end : frame_begin two_frames 2 ≡ 15
unfolding record_len
the_end = refl

-- the length of a frame that is cut short counts too
pub behind_a_cut_frame : frame_begin (take 10 two_frames) 2 ≡ 15
unfolding record_len
behind_a_cut_frame = refl

pub one_before_the_second : begins_before two_frames 7 ≡ 1
unfolding record_len
one_before_the_second = refl

pub two_behind_its_begin : begins_before two_frames 8 ≡ 2
unfolding record_len
two_behind_its_begin = refl

pub the_second_mark : mark_at 4 two_frames 1 ≡ record { before = 1; skip = 3 }
unfolding record_len
the_second_mark = refl

-- no frame begins in the midst of the second one
pub the_third_mark : mark_at 4 two_frames 2 ≡ record { before = 2; skip = 4 }
unfolding record_len
the_third_mark = refl

-- the content's end counts as a begin
pub the_last_mark : mark_at 4 two_frames 3 ≡ record { before = 2; skip = 3 }
unfolding record_len
the_last_mark = refl

pub its_bytes : mark_bytes (record { before = 258; skip = 772 }) ≡ 2 ∷ 1 ∷ 0 ∷ 0 ∷ 0 ∷ 0 ∷ 4 ∷ 3 ∷ []
its_bytes = refl

pub no_marks_yet : marks 4 two_frames 0 ≡ []
no_marks_yet = refl

pub its_marks : marks_of 4 two_frames
    ≡ 0 ∷ 0 ∷ 0 ∷ 0 ∷ 0 ∷ 0 ∷ 0 ∷ 0 ∷ 1 ∷ 0 ∷ 0 ∷ 0 ∷ 0 ∷ 0 ∷ 3 ∷ 0 ∷ 2 ∷ 0 ∷ 0 ∷ 0 ∷ 0 ∷ 0 ∷ 4 ∷ 0 ∷ 2 ∷ 0 ∷ 0 ∷ 0 ∷ 0 ∷ 0 ∷ 3 ∷ 0 ∷ []
unfolding record_len
its_marks = refl

-- ---- page by page

abbrev pub unmarked : MarkingState
unmarked = record { page_size = 4; pages = 0; marks = []; before = 0; skip = 0; is_cut = false }

abbrev pub after_one : MarkingState
after_one = record { page_size = 4; pages = 1; marks = replicate 8 0; before = 1; skip = 3; is_cut = false }

-- the second page has the first byte of the second frame's length
abbrev pub after_two : MarkingState
after_two = record { page_size = 4; pages = 2; marks = marks 4 two_frames 2; before = 2; skip = 6; is_cut = true }

pub a_byte_of_a_cut_length : if_cut true 9 ≡ 9
a_byte_of_a_cut_length = refl

pub two_are_marked : IsMarkedTo two_frames 8 after_two
unfolding record_len
two_are_marked = record { marks = refl; before = refl; next = refl }

-- a frame isn't counted
pub one_is_not_counted : IsMarkedTo two_frames 8 (record after_two { before = 1 }) → ⊥
unfolding record_len
one_is_not_counted is = omega (arith, is.before)

pub they_are_marked : IsMarked two_frames after_two
they_are_marked = record { within = lit≤ tt; marked = two_are_marked }

-- a content that ends before the second page does
pub not_so_many : IsMarked (take 7 two_frames) after_two → ⊥
not_so_many is = let w : 8 ≤ 7 = is.within in omega arith

pub no_sum_overflows : IsMarking after_two
no_sum_overflows = record { positive = lit< tt; small = lit< tt; near = lit≤ tt; few = lit≤ tt }

-- more frames than the pages have room for
pub too_many_frames : IsMarking (record after_two { before = 9 }) → ⊥
too_many_frames is = let w : 63 ≤ 14 = is.few in omega arith

pub one_begins_there : FramesBegin two_frames 4 0 1 7
unfolding record_len
one_begins_there = record { next = refl; begun = begun }
  where
    begun : (m : ℕ) → 0 ≤ m → m < 1 → frame_begin two_frames m < 4
    begun zero least most = lit< tt
    begun (suc m) least most = absurd (omega (arith, most))

-- the second begins behind the page
pub two_do_not : FramesBegin two_frames 4 0 2 15 → ⊥
unfolding record_len
two_do_not is = let w : 7 < 4 = is.begun 1 (lit≤ tt) (lit< tt) in omega arith

pub its_front_is_passed : PassesPage its_front 0 1 (λ content end. end + 7 - 4)
unfolding record_len
its_front_is_passed = (pass_more its_front 0 0 0 0 (lit< tt) refl (lit< tt) (pass_begins its_front 0 (lit≤ tt))).passed

-- not without a frame
pub none_begins_there : PassesPage its_front 0 0 (λ content end. end) → ⊥
none_begins_there is = let e : 0 ≡ 4 = (is two_frames 0 4 0 refl refl).next in omega (arith, e)

pub its_end : PassesPage its_front 0 1 (λ content end. end + 3 + if_cut false (get_or content end 0))
its_end = ends_whole its_front 0 1 7 3 (lit≤ tt) refl its_front_is_passed

pub it_is_pushed : PushesPage {E = ℕ} its_front unmarked after_one (Ok tt)
it_is_pushed = (refl, refl, λ content marked paged. page_pushed content its_front unmarked after_one 0 1 3 false refl (lit< tt) its_end refl refl refl refl refl refl marked paged)

-- of no byte nothing is marked
pub none_is_marked : (content : List ℕ) → IsMarked content unmarked
none_is_marked content = record { within = omega arith; marked = record { marks = refl; before = refl; next = refl } }

-- a page isn't counted that has no mark
pub without_its_mark : PushesPage {E = ℕ} its_front unmarked (record after_one { marks = [] }) (Ok tt) → ⊥
without_its_mark pushes = omega (arith, ap length ((pushes.2 two_frames (none_is_marked two_frames) refl).marks))

pub it_is_taken : TakesMarkedPage {E = ℕ} its_front unmarked after_one (Ok tt)
it_is_taken = (
  refl,
  refl,
  λ content marked paged.
      page_taken content its_front unmarked after_one refl refl refl paged (lit< tt) marked (it_is_pushed.2 content marked paged),
)

pub it_is_not_taken : TakesMarkedPage {E = ℕ} its_front unmarked unmarked (Err 0)
it_is_not_taken = refl

-- nothing is counted of a page that isn't taken
pub counted_all_the_same : TakesMarkedPage {E = ℕ} its_front unmarked after_one (Err 0) → ⊥
counted_all_the_same same = omega (arith, ap (λ (s : MarkingState). s.pages) same)

pub nothing_has_no_marks : FinishesMarks [] unmarked []
nothing_has_no_marks content is rests = marks_done content [] unmarked refl (lit< tt) is rests

-- a page that is shorter has a mark too
pub no_mark_of_the_last : FinishesMarks (take 3 two_frames) unmarked [] → ⊥
no_mark_of_the_last finishes = omega (arith, ap length (finishes (take 3 two_frames) (none_is_marked (take 3 two_frames)) refl))
