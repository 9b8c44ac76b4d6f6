-- The marks of two frames by pages of 32 bytes: one mark of zeros. So their top, which is its
-- digest, and their root are zeros.
use Rattle.std.proofs.Common.{◌≡◌, ◌⊎◌, ◌<◌, ◌≤◌, ◌+◌, ◌*◌, ◌^◌, ◌↔◌, ◌∷◌, [], ℕ, zero, suc, List, length, replicate, get_or, subst}
use Rattle.std.proofs.Common.{refl, ap, sym, inl, inr, arith, length-append, lit<, lit≤, true, false}
use Rattle.std.specs.Prelude.{IsTrue, Some, None, Ok}
use Rattle.std.proofs.lemmas.Bool.{cases_lt}
use Rattle.std.proofs.lemmas.Nat.{pow_below}
use Rattle.journal.specs.Frame.{record_len}
use Rattle.page_digests.specs.declared.error.Error.TheVariants.{Damaged, OutOfMemory}
use Rattle.page_digests.specs.declared.seal.Seal.{Seal}
use Rattle.page_digests.specs.Contents.{PagedState, unread}
use Rattle.page_digests.specs.Pages.{list_of}
use Rattle.page_digests.specs.Seals.{EachIsByte, HasSecondPreimage, IsSealOf}
use Rattle.page_digests.specs.Sources.{EndsWithRead, SourceRead, gave}
use Rattle.page_digests.proofs.PageExamples.{first, flat}
use Rattle.page_digests.proofs.ReadExamples.{zeros}
use Rattle.page_digests.proofs.SealExamples.{no_page_twin, no_short_twin}
use Rattle.segments.specs.Marking.{FramesBegin}
use Rattle.segments.specs.Marks.{begins_before, frame_begin, mark_at, marks_of}
use Rattle.segments.specs.MarkReads.{AreMarks, AreOpenedMarks, AreSameMarks, FirstAnswers, FirstGoes, HalvesRead, HasMarks, HasMarksPreimage, IsCountStart, IsFirstFrom, IsOfMarks, IsPageOfNth, MarkAnswers, MarkFails, MarkGoes, MarksState, NthAnswers, NthGoes, ReadsMarks, MarkedStartAnswers, MarkedStartGoes, mark_reads, marks_len, marks_root_of, marks_start}
use Rattle.segments.specs.Seeks.{AsksForOnePage, BeforeFails, BehindAnswers, BehindFails, BehindGoes, CountAnswers, CountFails, CountGoes, CountsTo, IsBegin, IsBeginAnswers, IsBeginGoes, IsFirstBehind, IsOfMarked, LengthFails, PassAnswers, PassGoes, PassesTo}
use Rattle.segments.specs.declared.mark.Mark.{Mark}
use Rattle.segments.proofs.Behind.{begin_told, passing_none}
use Rattle.segments.proofs.MarkExamples.{two_frames}
use Rattle.segments.proofs.NthBegins.{counting_begins, counting_ends}

-- ---- their root

pub its_root : marks_root_of first 32 two_frames ≡ zeros
its_root = refl

-- a root has 32 bytes
pub no_root_at_all : marks_root_of first 32 two_frames ≡ [] → ⊥
no_root_at_all is = omega (arith, ap length is)

pub its_marks_are : HasMarks first 32 two_frames 15 zeros
its_marks_are = record { len = refl; root = refl }

-- of a content that is longer
pub a_byte_too_many : HasMarks first 32 two_frames 16 zeros → ⊥
a_byte_too_many is = omega (arith, is.len)

pub zeros_are_bytes : (n : ℕ) → EachIsByte (replicate n 0)
zeros_are_bytes zero i = lit< tt
zeros_are_bytes (suc n) zero = lit< tt
zeros_are_bytes (suc n) (suc i) = zeros_are_bytes n i

one_is_a_byte : (n : ℕ) → EachIsByte (1 ∷ replicate n 0)
one_is_a_byte n zero = lit< tt
one_is_a_byte n (suc i) = zeros_are_bytes n i

pub another_list_of_marks : HasMarksPreimage flat 32 two_frames
another_list_of_marks = inl (
  1 ∷ replicate 31 0,
  record { small = one_is_a_byte 31; differ = λ same. omega (arith, ap (λ (l : List ℕ). get_or l 0 0) same); len = refl; digest = refl },
)

pub no_other_marks : HasMarksPreimage first 32 two_frames → ⊥
no_other_marks (inl (other, twin)) = no_short_twin other (list_of first 32 (marks_of 32 two_frames)) (lit≤ tt) twin
no_other_marks (inr twin) = no_page_twin (marks_of 32 two_frames) twin

pub four_marks : marks_len 4 15 ≡ 32
four_marks = refl

pub not_a_byte_each : marks_len 4 15 ≡ 4 → ⊥
not_a_byte_each is = omega (arith, is)

-- behind a list of 32 bytes and a top of 32
pub behind_two_levels : marks_start 32 15 ≡ 64
behind_two_levels = refl

pub not_behind_the_list : marks_start 32 15 ≡ 32 → ⊥
not_behind_the_list is = omega (arith, is)

pub in_two_pages : mark_reads 4084 ≡ 2
in_two_pages = refl

-- a page of four bytes has half a mark
pub in_more_pages : mark_reads 4 ≡ 2 → ⊥
in_more_pages is = omega (arith, is)

-- ---- reads of them

abbrev pub of_two : MarksState
of_two = record {
  len = 15;
  root = zeros;
  bytes = record { start = 64; len = 8; page_size = 32; top = zeros; cached = None; page = []; held = []; reads = [] };
}

abbrev pub its_mark : List ℕ
its_mark = replicate 8 0

abbrev pub once_read : MarksState
once_read = record of_two { bytes = record of_two.bytes { cached = Some 0; page = its_mark; reads = gave 64 its_mark ∷ [] } }

-- another page was read
abbrev pub once_damaged : MarksState
once_damaged = record of_two { bytes = record of_two.bytes { reads = gave 64 (replicate 8 1) ∷ [] } }

pub they_are_marks : AreMarks first 32 of_two
they_are_marks = record { page_size = refl; positive = lit< tt; small = lit< tt; fits = lit< tt; len = refl; top = refl; bytes = zeros_are_bytes 32; root = refl }

-- a root that isn't the digest of the top
pub by_another_root : AreMarks first 32 (record of_two { root = [] }) → ⊥
by_another_root is = omega (arith, ap length is.root)

pub they_are_opened : AreOpenedMarks first 32 15 zeros [] (record of_two { bytes = record of_two.bytes { reads = gave 72 zeros ∷ [] } })
they_are_opened = record {
  len = refl;
  root = refl;
  bytes = record { start = refl; len = refl; page_size = refl; cached = refl; held = refl; reads = refl; top = refl; bytes = zeros_are_bytes 32; root = refl };
}

-- their top isn't read
pub opened_unread : AreOpenedMarks first 32 15 zeros [] of_two → ⊥
opened_unread is = omega (arith, ap length is.bytes.reads)

pub one_more_read : AreSameMarks of_two once_read
one_more_read = record { len = refl; root = refl; bytes = record { start = refl; len = refl; page_size = refl; top = refl; reads = (gave 64 its_mark ∷ [], refl) } }

pub of_another_content : AreSameMarks of_two (record once_read { len = 16 }) → ⊥
of_another_content is = omega (arith, is.len)

pub its_mark_is_told : IsOfMarks first of_two (λ P content. mark_at P content 0 ≡ record { before = 0; skip = 0 })
its_mark_is_told content its = inl refl

pub another_mark : IsOfMarks first of_two (λ P content. mark_at P content 0 ≡ record { before = 0; skip = 1 }) → ⊥
another_mark is = by_case (is two_frames its_marks_are)
  where
    by_case : (mark_at 32 two_frames 0 ≡ record { before = 0; skip = 1 }) ⊎ HasMarksPreimage first 32 two_frames → ⊥
    by_case (inl same) = omega (arith, ap (λ (m : Mark). m.skip) same)
    by_case (inr twin) = no_other_marks twin

pub it_fails : MarkFails first 0 of_two once_damaged Damaged
it_fails = (0, (lit< tt, lit< tt), (replicate 8 1, ([], refl), refl, λ same. omega (arith, ap (λ (l : List ℕ). get_or l 0 0) same)))

none_was_last : (r : SourceRead) → EndsWithRead [] [] r → ⊥
none_was_last r (more, none) = omega (arith, ap length none, length-append more (r ∷ []))

-- nothing was read
pub unread_it_does_not : (i : ℕ) → MarkFails first i of_two of_two Damaged → ⊥
unread_it_does_not i (j, touched, (bytes, last, len, differ)) = none_was_last (gave (64 + j * 32) bytes) last

pub it_is_answered : MarkAnswers first 0 of_two once_read (Ok (record { before = 0; skip = 0 }))
it_is_answered = (lit< tt, lit< tt, λ content its. inl refl)

pub another_is_answered : MarkAnswers first 0 of_two once_read (Ok (record { before = 0; skip = 1 })) → ⊥
another_is_answered is = another_mark (λ content its. elim (is.2 content its) [
  | inl same ↦ inl (sym same)
  | inr twin ↦ inr twin
])

pub it_goes : MarkGoes first 0 of_two once_read (Ok (record { before = 0; skip = 0 }))
it_goes = record { same = one_more_read; calls = lit≤ tt; answers = it_is_answered }

-- a page is read twice
pub read_twice : MarkGoes first 0 of_two (record of_two { bytes = record of_two.bytes { reads = gave 64 its_mark ∷ gave 64 its_mark ∷ [] } }) (Ok (record { before = 0; skip = 0 })) → ⊥
read_twice is = let calls : 2 ≤ 1 = is.calls in omega (arith, calls)

-- ---- the first frame from a page on

pub the_first_begins : (content : List ℕ) → IsFirstFrom 32 content 0 (record { number = 0; offset = 0 })
the_first_begins content = record { number = refl; offset = omega arith }

-- the second page has no frame's first byte but the second frame's
pub the_second_from_there : IsFirstFrom 4 two_frames 1 (record { number = 1; offset = 7 })
unfolding record_len
the_second_from_there = record { number = refl; offset = refl }

-- a frame that begins before the page
pub not_the_first : IsFirstFrom 4 two_frames 1 (record { number = 0; offset = 0 }) → ⊥
unfolding record_len
not_the_first is = let e : 0 ≡ 1 = is.number in omega (arith, e)

pub first_answered : FirstAnswers first 0 of_two once_read (Ok (record { number = 0; offset = 0 }))
first_answered = (lit< tt, lit≤ tt, lit≤ tt, λ content its. inl (the_first_begins content))

-- page 1 begins behind it
pub first_before_its_page : FirstAnswers first 1 of_two once_read (Ok (record { number = 0; offset = 0 })) → ⊥
first_before_its_page is = let e : 32 ≤ 0 = is.1 in omega (arith, e)

pub first_goes : FirstGoes first 0 of_two once_read (Ok (record { number = 0; offset = 0 }))
first_goes = record { same = one_more_read; answers = first_answered }

pub first_is_not_1 : FirstGoes first 0 of_two once_read (Ok (record { number = 1; offset = 0 })) → ⊥
first_is_not_1 is = by_case (is.answers.3 two_frames its_marks_are)
  where
    by_case : IsFirstFrom 32 two_frames 0 (record { number = 1; offset = 0 }) ⊎ HasMarksPreimage first 32 two_frames → ⊥
    by_case (inl told) = let e : 1 ≡ 0 = told.number in omega (arith, e)
    by_case (inr twin) = no_other_marks twin

-- ---- the nth frame

pub the_second_in_page_1 : IsPageOfNth 4 two_frames 1 1
unfolding record_len
the_second_in_page_1 = record { least = lit≤ tt; most = λ more. lit< tt }

-- there is no tenth frame
pub no_tenth : IsPageOfNth 4 two_frames 9 3
unfolding record_len
no_tenth = record { least = lit≤ tt; most = λ more. absurd (omega (arith, more)) }

pub not_in_page_0 : IsPageOfNth 4 two_frames 1 0 → ⊥
unfolding record_len
not_in_page_0 is = let e : 7 < 4 = is.most (lit< tt) in omega (arith, e)

pub nth_answered : NthAnswers first 0 of_two of_two (Ok 0)
nth_answered = (lit< tt, λ content its. inl (record { least = omega arith; most = λ more. absurd (omega (arith, more, its.len)) }))

pub a_page_too_many : NthAnswers first 0 of_two of_two (Ok 1) → ⊥
a_page_too_many is = let e : 32 < 15 = is.0 in omega (arith, e)

-- one mark was asked for, and two pages at most have bytes of it
pub of_one_mark : ReadsMarks 1 of_two once_read
of_one_mark = lit≤ tt

pub of_none : ReadsMarks 0 of_two once_read → ⊥
of_none is = let e : 1 ≤ 0 = is in omega (arith, e)

pub by_halves : HalvesRead of_two once_read
by_halves = record { marks = 1; few = lit≤ tt; reads = lit≤ tt }

-- of one page one mark is read
pub too_many_marks : HalvesRead of_two (record of_two { bytes = record of_two.bytes { reads = replicate 3 (gave 64 its_mark) } }) → ⊥
too_many_marks is = elim (cases_lt 1 is.marks) [
  | inl more ↦ let few : 2 ^ 1 < 2 ^ is.marks = pow_below 1 is.marks more in let had : 2 ^ is.marks ≤ 2 = is.few in omega arith
  | inr few ↦ let reads : 3 ≤ 0 + is.marks * 2 = is.reads in omega arith
]

pub nth_goes : NthGoes first 0 of_two of_two (Ok 0)
nth_goes = record {
  same = record { len = refl; root = refl; bytes = record { start = refl; len = refl; page_size = refl; top = refl; reads = ([], refl) } };
  calls = record { marks = 0; few = lit≤ tt; reads = lit≤ tt };
  answers = nth_answered;
}

pub nth_in_another_page : NthGoes first 0 of_two of_two (Ok 1) → ⊥
nth_in_another_page is = a_page_too_many is.answers

-- ---- frames that are passed

abbrev pub its_seal : Seal
its_seal = record { len = 15; root = first two_frames }

pub it_is_its_seal : IsSealOf first 32 two_frames its_seal
it_is_its_seal = record { len = refl; root = refl }

pub it_has_no_twin : HasSecondPreimage first 32 two_frames → ⊥
it_has_no_twin (inl (other, twin)) = no_short_twin other (list_of first 32 (list_of first 32 two_frames)) (lit≤ tt) twin
it_has_no_twin (inr (inl twin)) = no_page_twin (list_of first 32 two_frames) twin
it_has_no_twin (inr (inr twin)) = no_page_twin two_frames twin

abbrev pub unopened : PagedState
unopened = unread 32 its_seal [] []

-- no frame is before the offset
pub none_is_passed : PassesTo first 32 its_seal 7 7 0 7
none_is_passed = (passing_none first 7 7 unopened (lit≤ tt)).answers.2

-- the second one begins at the offset
pub two_are_passed : PassesTo first 32 its_seal 0 7 2 15 → ⊥
unfolding record_len
two_are_passed passes = by_case (passes two_frames it_is_its_seal)
  where
    by_case : ((n : ℕ) → frame_begin two_frames n ≡ 0 → FramesBegin two_frames 7 n 2 15) ⊎ HasSecondPreimage first 32 two_frames → ⊥
    by_case (inl all) = let e : 7 < 7 = (all 0 refl).begun 1 (lit≤ tt) (lit< tt) in omega (arith, e)
    by_case (inr twin) = it_has_no_twin twin

pub no_memory_for_a_length : LengthFails first 0 7 unopened unopened OutOfMemory
no_memory_for_a_length = (0, lit≤ tt, lit< tt, tt)

-- there is no such frame
pub none_begins_between : LengthFails first 7 7 unopened unopened OutOfMemory → ⊥
none_begins_between (at, least, most, fails) = omega (arith, least, most)

pub pass_answered : PassAnswers first 7 7 unopened unopened (Ok (0, 7))
pass_answered = (lit≤ tt, lit≤ tt, none_is_passed)

-- the next frame begins before the offset
pub not_so_far : PassAnswers first 0 7 unopened unopened (Ok (0, 0)) → ⊥
not_so_far is = let e : 7 ≤ 0 = is.0 in omega (arith, e)

abbrev pub read_twice_over : PagedState
read_twice_over = record unopened { reads = gave 0 two_frames ∷ gave 0 two_frames ∷ [] }

pub one_page_asked : AsksForOnePage 0 7 unopened (record unopened { reads = gave 0 two_frames ∷ [] })
one_page_asked page low high = lit≤ tt

-- it is asked for twice
pub asked_twice : AsksForOnePage 0 7 unopened read_twice_over → ⊥
asked_twice asks = let e : 2 ≤ 1 = asks 0 (lit≤ tt) (lit< tt) in omega (arith, e)

pub pass_goes : PassGoes first 7 7 unopened unopened (Ok (0, 7))
pass_goes = passing_none first 7 7 unopened (lit≤ tt)

pub pass_stops : PassGoes first 0 7 unopened unopened (Ok (0, 0)) → ⊥
pass_stops is = not_so_far is.answers

-- ---- the first frame behind an offset

pub the_second_behind_1 : IsFirstBehind 4 two_frames 1 (record { number = 1; offset = 7 })
unfolding record_len
the_second_behind_1 = record { number = refl; there = refl }

-- the first one begins before it
pub not_the_one_before : IsFirstBehind 4 two_frames 1 (record { number = 0; offset = 0 }) → ⊥
unfolding record_len
not_the_one_before is = let e : 0 ≡ 1 = is.number in omega (arith, e)

pub a_frame_begins : IsBegin two_frames 7
unfolding record_len
a_frame_begins = (1, refl)

-- nor in its midst
pub none_begins_behind_it : IsBegin two_frames 8 → ⊥
unfolding record_len
none_begins_behind_it is = let e : 15 ≡ 8 = begin_told two_frames 8 is in omega (arith, e)

pub of_each_content : IsOfMarked first its_seal of_two (λ P content. length content ≡ 15)
of_each_content content sealed its = inl (sym its.len)

pub of_no_content : IsOfMarked first its_seal of_two (λ P content. length content ≡ 16) → ⊥
of_no_content is = by_case (is two_frames it_is_its_seal its_marks_are)
  where
    by_case : (length two_frames ≡ 16) ⊎ HasSecondPreimage first 32 two_frames ⊎ HasMarksPreimage first 32 two_frames → ⊥
    by_case (inl same) = omega (arith, same)
    by_case (inr (inl twin)) = it_has_no_twin twin
    by_case (inr (inr twin)) = no_other_marks twin

pub by_its_mark : BehindFails first 7 of_two once_damaged unopened unopened Damaged
by_its_mark = inl (0, lit≤ tt, it_fails)

-- the length of the first frame, in the page that has the second one's begin
pub before_the_second : BeforeFails first 7 of_two unopened unopened OutOfMemory
before_the_second = (record { number = 0; offset = 0 }, lit≤ tt, (λ content its. inl (the_first_begins content)), no_memory_for_a_length)

-- nothing was read
pub unread_no_length_fails : BeforeFails first 7 of_two unopened unopened Damaged → ⊥
unread_no_length_fails (b, page, told, (at, least, most, (i, touched, inl (bytes, last, len, wrong)))) = none_was_last (gave (i * 44) bytes) last
unread_no_length_fails (b, page, told, (at, least, most, (i, touched, inr (j, touches, (bytes, last, len, wrong))))) = none_was_last (gave (j * 32) bytes) last

-- nothing was read
pub unread_none_fails : BehindFails first 7 of_two of_two unopened unopened Damaged → ⊥
unread_none_fails (inl (i, least, fails)) = unread_it_does_not i fails
unread_none_fails (inr before) = unread_no_length_fails before

begins_behind : (content : List ℕ) → IsFirstBehind 32 content 0 (record { number = 0; offset = 0 })
begins_behind content = record { number = refl; there = omega arith }

pub behind_answered : BehindAnswers first 0 of_two once_read unopened unopened (Ok (record { number = 0; offset = 0 }))
behind_answered content sealed its = inl (begins_behind content)

pub not_behind_it : BehindAnswers first 0 of_two once_read unopened unopened (Ok (record { number = 1; offset = 7 })) → ⊥
not_behind_it is = by_case (is two_frames it_is_its_seal its_marks_are)
  where
    by_case : IsFirstBehind 32 two_frames 0 (record { number = 1; offset = 7 }) ⊎ HasSecondPreimage first 32 two_frames ⊎ HasMarksPreimage first 32 two_frames → ⊥
    by_case (inl told) = let e : 1 ≡ 0 = told.number in omega (arith, e)
    by_case (inr (inl twin)) = it_has_no_twin twin
    by_case (inr (inr twin)) = no_other_marks twin

pub behind_goes : BehindGoes first 0 of_two once_read unopened unopened (Ok (record { number = 0; offset = 0 }))
behind_goes = record { same = one_more_read; content = pass_goes.same; calls = lit≤ tt; answers = behind_answered }

pub behind_goes_wrong : BehindGoes first 0 of_two once_read unopened unopened (Ok (record { number = 1; offset = 7 })) → ⊥
behind_goes_wrong is = not_behind_it is.answers

pub begin_answered : IsBeginAnswers first 0 of_two once_read unopened unopened (Ok true)
begin_answered content sealed its = inl ((λ yes. (0, refl)), (λ begins. refl))

-- the first frame isn't seen
pub no_begin_answered : IsBeginAnswers first 0 of_two once_read unopened unopened (Ok false) → ⊥
no_begin_answered is = by_case (is two_frames it_is_its_seal its_marks_are)
  where
    by_case : (IsTrue false ↔ IsBegin two_frames 0) ⊎ HasSecondPreimage first 32 two_frames ⊎ HasMarksPreimage first 32 two_frames → ⊥
    by_case (inl told) = cc (told.1 (0, refl))
    by_case (inr (inl twin)) = it_has_no_twin twin
    by_case (inr (inr twin)) = no_other_marks twin

pub begin_goes : IsBeginGoes first 0 of_two once_read unopened unopened (Ok true)
begin_goes = record { same = one_more_read; content = pass_goes.same; calls = lit≤ tt; answers = begin_answered }

pub begin_goes_wrong : IsBeginGoes first 0 of_two once_read unopened unopened (Ok false) → ⊥
begin_goes_wrong is = no_begin_answered is.answers

-- ---- where the nth frame begins

pub none_is_counted : CountsTo first 32 its_seal 7 0 7
none_is_counted = (counting_begins first 7 0 unopened).counts

-- behind the first frame the second begins
pub counted_wrong : CountsTo first 32 its_seal 0 1 8 → ⊥
unfolding record_len
counted_wrong counts = by_case (counts two_frames it_is_its_seal)
  where
    by_case : ((n : ℕ) → frame_begin two_frames n ≡ 0 → frame_begin two_frames (n + 1) ≡ 8) ⊎ HasSecondPreimage first 32 two_frames → ⊥
    by_case (inl all) = let e : 7 ≡ 8 = all 0 refl in omega (arith, e)
    by_case (inr twin) = it_has_no_twin twin

pub count_answered : CountAnswers first 7 0 unopened unopened (Ok (0, 7))
count_answered = (lit≤ tt, lit≤ tt, (λ more. absurd (omega (arith, more))), none_is_counted)

-- one is left, though the content goes on
pub one_is_left : CountAnswers first 7 1 unopened unopened (Ok (1, 7)) → ⊥
one_is_left is = let e : 15 ≤ 8 = is.2 (lit< tt) in omega (arith, e)

pub count_goes : CountGoes first 7 0 unopened unopened (Ok (0, 7))
count_goes = counting_ends first 7 0 unopened unopened 0 7 (λ more. absurd (omega (arith, more))) (counting_begins first 7 0 unopened)

pub count_stops : CountGoes first 7 1 unopened unopened (Ok (1, 7)) → ⊥
count_stops is = one_is_left is.answers

pub no_memory_to_count : CountFails first 7 unopened unopened OutOfMemory
no_memory_to_count = (7, lit≤ tt, tt)

-- nothing was read
pub unread_none_is_lost : CountFails first 0 unopened unopened Damaged → ⊥
unread_none_is_lost (at, least, (i, touched, inl (bytes, last, len, wrong))) = none_was_last (gave (i * 44) bytes) last
unread_none_is_lost (at, least, (i, touched, inr (j, touches, (bytes, last, len, wrong)))) = none_was_last (gave (j * 32) bytes) last

-- ---- from where the nth frame is counted

pub its_start : IsCountStart 32 two_frames 0 0 (record { number = 0; offset = 0 })
its_start = record { page = record { least = lit≤ tt; most = λ more. absurd (omega (arith, more)) }; first = the_first_begins two_frames }

-- the first frame begins in that page
pub not_its_start : IsCountStart 32 two_frames 1 0 (record { number = 1; offset = 7 }) → ⊥
not_its_start is = let e : 1 ≡ 0 = is.first.number in omega (arith, e)

pub start_answered : MarkedStartAnswers first 0 of_two once_read (Ok (record { number = 0; offset = 0 }))
start_answered = (0, λ content its. inl (record { page = record { least = omega arith; most = λ more. absurd (omega (arith, more, its.len)) }; first = the_first_begins content }))

pub start_answered_wrong : MarkedStartAnswers first 0 of_two once_read (Ok (record { number = 1; offset = 7 })) → ⊥
start_answered_wrong (i, told) = by_case (told two_frames its_marks_are)
  where
    by_case : IsCountStart 32 two_frames 0 i (record { number = 1; offset = 7 }) ⊎ HasMarksPreimage first 32 two_frames → ⊥
    by_case (inl start) =
        let least : i * 32 ≤ 0 = start.page.least in
        let zero : i * 32 ≡ 0 = omega (arith, least) in
        let e : 1 ≡ 0 = subst (λ (k : ℕ). 1 ≡ begins_before two_frames k) zero start.first.number in
        omega (arith, e)
    by_case (inr twin) = no_other_marks twin

pub start_goes : MarkedStartGoes first 0 of_two once_read (Ok (record { number = 0; offset = 0 }))
start_goes = record { positive = lit< tt; same = one_more_read; answers = start_answered }

pub start_goes_wrong : MarkedStartGoes first 0 of_two once_read (Ok (record { number = 1; offset = 7 })) → ⊥
start_goes_wrong is = start_answered_wrong is.answers
