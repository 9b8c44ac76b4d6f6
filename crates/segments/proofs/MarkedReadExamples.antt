-- A closed segment that is read by its marks: what each of these definitions holds of, and what it
-- refuses, of segment 7, whose content is the two frames that `MarkReadExamples` has.
use Rattle.std.specs.Prelude.{◌≡◌, ◌⊎◌, ◌<◌, ◌≤◌, ℕ, zero, suc, List, [], ◌∷◌, ◌++◌, length, replicate, get_or, Bool, false, true, Option, Some, None, Result, Ok, Err}
use Rattle.std.proofs.Common.{refl, sym, ap, subst, inl, inr, arith, length-append, lit<, lit≤}
use Rattle.page_digests.specs.Contents.{PagedState}
use Rattle.page_digests.specs.Seals.{EachIsByte, HasSecondPreimage, TellsApart}
use Rattle.page_digests.specs.Sources.{EndsWithRead, SourceRead, gave}
use Rattle.page_digests.specs.declared.error.Error as pages
use Rattle.page_digests.specs.declared.error.Error.TheVariants as causes
use Rattle.page_digests.specs.declared.paged_bytes.UnopenedBytes.{UnopenedBytes}
use Rattle.page_digests.proofs.PageExamples.{first, sized_first}
use Rattle.page_digests.proofs.Bytes.{bytes_joined}
use Rattle.page_digests.proofs.Twins.{told_apart}
use Rattle.page_digests.proofs.ReadExamples.{given_bytes, zeros}
use Rattle.journal.specs.declared.frame.Found.{Found}
use Rattle.journal.specs.Frame.{record_len}
use Rattle.segments.specs.declared.closed.FileDigest.{FileDigest}
use Rattle.segments.specs.declared.closed.Fingerprint.TheVariants.{Whole, Paged}
use Rattle.segments.specs.declared.closed.PagedSeal.{PagedSeal}
use Rattle.segments.specs.declared.error.Error.{Error}
use Rattle.segments.specs.declared.error.Error.TheVariants as errors
use Rattle.segments.specs.declared.passing.PassedPage.{PassedPage}
use Rattle.segments.specs.declared.passing_damage.Passed.{Passed}
use Rattle.segments.specs.declared.place.Place.{Place}
use Rattle.segments.specs.MarkReads.{HasMarksPreimage, MarksState}
use Rattle.segments.specs.Nth.{placed}
use Rattle.segments.specs.PagedReads.{AreItsMarks, AreUnopened, CanCountFrom, IsBeginBy, CheckAnswers, CheckGoes, CountStartAnswers, CountStartGoes, FindAnswers, FindGoes, FoundBegins, HasFailedCheck, HasMarksRoot, HasNoMarks, HasOpenedMarks, HasSameMarks, HasTakenMarks, IfMarked, IsAnswerOf, IsKeptPaged, IsMidst, IsNthOffset, IsOfFile, IsOfFingerprint, IsOfKept, IsOfSegment, IsPagedSegment, IsToldAs, IsUnmarked, LeavesMarks, MarkedReadGoes, MarksFail, MarksPaged, OpensMarks, PagedSegmentState, PassesIn, SegmentNthAnswers, SegmentNthGoes, SegmentPassAnswers, SegmentRefuses, TakesMarks}
use Rattle.segments.specs.PassingDamage.{passed_by, passed_to}
use Rattle.segments.specs.Seeks.{BehindFails, IsBegin}
use Rattle.segments.proofs.MarkExamples.{two_frames}
use Rattle.segments.proofs.MarkReadExamples.{it_fails, it_has_no_twin, it_is_its_seal, its_marks_are, its_seal, no_other_marks, none_begins_behind_it, nth_goes, of_two, once_damaged, once_read, one_more_read, they_are_opened, unopened, unread_none_is_lost, zeros_are_bytes}
use Rattle.segments.proofs.SegmentMarks.{same_some}
use Rattle.segments.proofs.SegmentReads.{content_same}

abbrev pub segment : PagedSegmentState
segment = record { number = 7; content = unopened; is_settled = false; marks_root = Some zeros; marks = Some of_two; ended = 0 }

-- a version before 0.13 closed it
abbrev pub unmarked : PagedSegmentState
unmarked = record segment { marks_root = None; marks = None }

abbrev pub kept : PagedSeal
kept = record { number = 1; seal = its_seal; marks = Some zeros }

-- what is so of each content with its seal and its marks is so of the two frames
pub of_them : (is : List ℕ → Type 0) → IsOfKept first 32 its_seal zeros is → is two_frames
of_them is of = by_case (of two_frames it_is_its_seal its_marks_are)
  where
    by_case : is two_frames ⊎ HasSecondPreimage first 32 two_frames ⊎ HasMarksPreimage first 32 two_frames → is two_frames
    by_case (inl it) = it
    by_case (inr (inl twin)) = absurd (it_has_no_twin twin)
    by_case (inr (inr twin)) = absurd (no_other_marks twin)

-- ---- what was kept

pub it_has_marks : HasMarksRoot (Some zeros) (Paged kept)
it_has_marks = refl

pub a_file_has_none : (f : FileDigest) → HasMarksRoot None (Whole f) → ⊥
a_file_has_none f is = is

pub it_is_kept_so : IsKeptPaged kept (Paged kept)
it_is_kept_so = refl

pub it_is_not_kept_whole : (f : FileDigest) → IsKeptPaged kept (Whole f) → ⊥
it_is_not_kept_whole f is = cc is

pub a_file_has_no_marks : (f : FileDigest) → HasNoMarks (Whole f)
a_file_has_no_marks f = tt

pub it_has_some : HasNoMarks (Paged kept) → ⊥
it_has_some is = cc is

pub of_its_length : IsOfKept first 32 its_seal zeros (λ content. length content ≡ 15)
of_its_length content sealed its = inl (sym its.len)

pub of_another_length : IsOfKept first 32 its_seal zeros (λ content. length content ≡ 16) → ⊥
of_another_length is = omega (arith, of_them (λ content. length content ≡ 16) is)

pub of_its_fingerprint : IsOfFingerprint first 32 (λ content. length content ≡ 15) (Paged kept)
of_its_fingerprint = (zeros, refl, of_its_length)

pub of_no_fingerprint : IsOfFingerprint first 32 (λ content. length content ≡ 15) (Paged (record kept { marks = None })) → ⊥
of_no_fingerprint is = cc is.1

pub of_none_nothing_is_said : IfMarked first 32 (λ content. length content ≡ 16) (Paged (record kept { marks = None }))
of_none_nothing_is_said = λ root is. cc is

pub of_it_that_is_false : IfMarked first 32 (λ content. length content ≡ 16) (Paged kept) → ⊥
of_it_that_is_false is = of_another_length (is zeros refl)

-- ---- where a frame begins

pub begins_first : IsOfSegment first segment (λ content. IsBegin content 0)
begins_first root has content sealed its = inl (0, refl)

pub it_has_15_bytes : IsOfSegment first segment (λ content. length content ≡ 0) → ⊥
it_has_15_bytes is = let e : 15 ≡ 0 = of_them (λ content. length content ≡ 0) (is zeros refl) in omega (arith, e)

pub its_first_begins : IsBeginBy first 0 segment
its_first_begins = inl begins_first

-- in the midst of the second
pub none_begins_at_8 : IsBeginBy first 8 segment → ⊥
none_begins_at_8 (inl is) = none_begins_behind_it (of_them (λ content. IsBegin content 8) (is zeros refl))
none_begins_at_8 (inr none) = cc none

abbrev AreSmall : List ℕ → Type 0
AreSmall [] = Unit {0}
AreSmall (b ∷ bytes) = (b < 256) × AreSmall bytes

small_are_bytes : (bytes : List ℕ) → AreSmall bytes → EachIsByte bytes
small_are_bytes [] small i = lit< tt
small_are_bytes (b ∷ bytes) small zero = small.0
small_are_bytes (b ∷ bytes) small (suc i) = small_are_bytes bytes small.1 i

they_are_bytes : EachIsByte two_frames
they_are_bytes = small_are_bytes two_frames (lit< tt, (lit< tt, (lit< tt, (lit< tt, (lit< tt, (lit< tt, (lit< tt, (lit< tt, (lit< tt, (lit< tt, (lit< tt, (lit< tt, (lit< tt, (lit< tt, (lit< tt, tt)))))))))))))))

its_digest_is_bytes : EachIsByte (first two_frames)
its_digest_is_bytes = bytes_joined two_frames (replicate 17 0) they_are_bytes (zeros_are_bytes 17)

its_seal_tells : TellsApart first 32 two_frames (first two_frames)
its_seal_tells = told_apart first sized_first 32 two_frames (first two_frames) they_are_bytes its_digest_is_bytes its_digest_is_bytes (lit< tt) refl

-- in the midst of the second
pub it_is_a_midst : IsMidst first 8 segment
it_is_a_midst = (
  zeros,
  refl,
  λ content sealed its. elim (its_seal_tells content (sym sealed.len) (sym sealed.root)) [
    | inl same ↦ inl (λ begins. none_begins_behind_it (subst (λ (c : List ℕ). IsBegin c 8) same begins))
    | inr twin ↦ inr (inl twin)
  ],
)

-- a frame begins there
pub it_is_no_midst : IsMidst first 0 segment → ⊥
it_is_no_midst (root, has, none) =
    of_them (λ content. IsBegin content 0 → ⊥) (subst (λ (b : List ℕ). IsOfKept first 32 its_seal b (λ content. IsBegin content 0 → ⊥)) (sym (same_some zeros root has)) none) (0, refl)

-- nothing is known without marks
pub nor_without_marks : IsMidst first 8 unmarked → ⊥
nor_without_marks (root, has, none) = cc has

abbrev pub after_damage : PagedSegmentState
after_damage = record segment { marks = Some once_damaged }

pub its_check_failed : HasFailedCheck first 0 after_damage causes.Damaged
its_check_failed = record {
  before = of_two;
  after = once_damaged;
  old = unopened;
  marks = refl;
  same = record { len = refl; root = refl; bytes = record { start = refl; len = refl; page_size = refl; top = refl; reads = (once_damaged.bytes.reads, refl) } };
  content = content_same unopened;
  fails = inl (0, lit≤ tt, it_fails);
}

-- nothing was asked for
pub no_check_failed : (e : pages.Error) → HasFailedCheck first 0 unmarked e → ⊥
no_check_failed e is = cc is.marks

pub a_file_is_at_fault : IsOfFile causes.Damaged
a_file_is_at_fault = tt

pub memory_is_no_file : IsOfFile causes.OutOfMemory → ⊥
memory_is_no_file is = is

pub its_marks_fail : MarksFail first 0 after_damage
its_marks_fail = inr (causes.Damaged, tt, its_check_failed)

pub without_marks_they_fail : MarksFail first 0 unmarked
without_marks_they_fail = inl refl

pub a_begin_is_found : (f : Found) → FoundBegins first 0 segment segment (Ok (Some f))
a_begin_is_found f = inl begins_first

ended : (old : List SourceRead) (r : SourceRead) → EndsWithRead old [] r → ⊥
ended old r (more, none) = omega (arith, ap length none, length-append (old ++ more) (r ∷ []))

-- nothing was read, neither of the marks nor of the content
none_was_read : (before : MarksState) (old : PagedState) (e : pages.Error) → IsOfFile e → BehindFails first 8 before of_two old unopened e → ⊥
none_was_read before old causes.Damaged file (inl (i, least, (j, touched, (bytes, last, len, differ)))) = ended before.bytes.reads _ last
none_was_read before old (causes.System x) file (inl (i, least, (j, touched, last))) = ended before.bytes.reads _ last
none_was_read before old causes.Damaged file (inr (b, page, told, (at, least, most, (i, touched, inl (bytes, last, len, wrong))))) = ended old.reads _ last
none_was_read before old causes.Damaged file (inr (b, page, told, (at, least, most, (i, touched, inr (j, touches, (bytes, last, len, wrong)))))) = ended old.list_reads _ last
none_was_read before old (causes.System x) file (inr (b, page, told, (at, least, most, (i, touched, inl last)))) = ended old.reads _ last
none_was_read before old (causes.System x) file (inr (b, page, told, (at, least, most, (i, touched, inr (j, touches, last))))) = ended old.list_reads _ last
none_was_read before old causes.OutOfMemory file fails = file

pub unread_they_do_not_fail : MarksFail first 8 segment → ⊥
unread_they_do_not_fail (inl none) = cc none
unread_they_do_not_fail (inr (e, file, failed)) =
    none_was_read failed.before failed.old e file (subst (λ (m : MarksState). BehindFails first 8 failed.before m failed.old unopened e) (sym (it_is failed.after failed.marks)) failed.fails)
  where
    or_it : Option MarksState → MarksState
    or_it None = of_two
    or_it (Some m) = m

    it_is : (m : MarksState) → Some of_two ≡ Some m → of_two ≡ m
    it_is m same = ap or_it same

-- in the midst of the second
pub a_midst_is_found : (f : Found) → FoundBegins first 8 segment segment (Ok (Some f)) → ⊥
a_midst_is_found f (inl begins) = none_begins_at_8 (inl begins)
a_midst_is_found f (inr fails) = unread_they_do_not_fail fails

pub it_is_told_to_begin : CheckAnswers first 0 segment segment (Ok true)
it_is_told_to_begin = its_first_begins

pub another_is_told : CheckAnswers first 8 segment segment (Ok true) → ⊥
another_is_told is = none_begins_at_8 is

-- a frame begins there, and so it isn't refused
pub it_is_refused_wrongly : (d : List ℕ → List ℕ) (t : PagedSegmentState) → SegmentRefuses first 0 segment t (errors.NoFrame 8 0) → ⊥
it_is_refused_wrongly d t (inl midst) = it_is_no_midst midst.1
it_is_refused_wrongly d t (inr fails) = by_cause fails.cause fails.told
  where
    by_cause : (cause : pages.Error) → IsToldAs 7 cause (errors.NoFrame 8 0) → ⊥
    by_cause causes.Damaged told = cc told
    by_cause (causes.System x) (inl told) = cc told.1
    by_cause (causes.System x) (inr told) = cc told.1
    by_cause causes.OutOfMemory told = cc told

pub its_check_goes : CheckGoes first 0 segment segment (Ok true)
its_check_goes = record { rest = refl; content = content_same unopened; marks = nth_goes.same; answers = its_first_begins }

-- a check is no read of a frame
pub its_check_moves_its_end : (result : Result Bool pages.Error) → CheckGoes first 0 segment (record segment { ended = 7 }) result → ⊥
its_check_moves_its_end result is = let e : ◌≡◌ {A = ℕ} 7 0 = ap (λ (p : PagedSegmentState). p.ended) is.rest in omega (arith, e)

-- a read finds none at its end, and asks for nothing
pub none_is_at_its_end : (own : List ℕ → ℕ) → MarkedReadGoes first own 15 segment segment (Ok None)
none_is_at_its_end own = record {
  same = record { number = refl; of = refl; page_size = refl };
  root = refl;
  marks = nth_goes.same;
  stays = λ is. is;
  rebuilt = λ is. inl is;
  answers = record { forward = tt; within = tt; none = λ is. lit≤ tt; reads = λ content is. inl (omega (arith, is.len)) };
  begins = tt;
}

pub none_begins_in_a_midst : (own : List ℕ → ℕ) → MarkedReadGoes first own 8 segment segment (Err (errors.NoFrame 7 8))
none_begins_in_a_midst own = record {
  same = record { number = refl; of = refl; page_size = refl };
  root = refl;
  marks = nth_goes.same;
  stays = λ is. is;
  rebuilt = λ is. inl is;
  answers = inl (refl, it_is_a_midst);
  begins = tt;
}

-- its marks are gone then
pub a_read_takes_its_marks : (own : List ℕ → ℕ) (result : Result (Option Found) Error) → MarkedReadGoes first own 15 segment (record segment { marks = None }) result → ⊥
a_read_takes_its_marks own result is = is.marks

-- two frames are there
pub none_is_at_its_begin : (own : List ℕ → ℕ) (t : PagedSegmentState) → MarkedReadGoes first own 0 segment t (Ok None) → ⊥
none_is_at_its_begin own t is = omega (arith, is.answers.none refl)

pub a_midst_is_refused : (found : Option Found) → IsAnswerOf 7 8 (Ok false) found (Err (errors.NoFrame 7 8))
a_midst_is_refused found = refl

-- where the marks are damaged the frame is still answered
pub it_is_answered_all_the_same : (found : Option Found) → IsAnswerOf 7 8 (Err causes.Damaged) found (Ok found)
it_is_answered_all_the_same found = refl

pub a_midst_is_answered : (found : Option Found) → IsAnswerOf 7 8 (Ok false) found (Ok found) → ⊥
a_midst_is_answered found is = cc is

-- ---- its marks

pub they_are_its_own : AreItsMarks first segment of_two
they_are_its_own = record { len = refl; page_size = refl; root = refl; ended = inr begins_first }

-- of a content of another length
pub they_are_of_another : AreItsMarks first segment (record of_two { len = 16 }) → ⊥
they_are_of_another is = let e : ◌≡◌ {A = ℕ} 16 15 = is.len in omega (arith, e)

-- no read ended in the midst of a frame
pub it_ended_in_a_midst : AreItsMarks first (record segment { ended = 8 }) of_two → ⊥
it_ended_in_a_midst is = by_case is.ended
  where
    by_case : (15 ≤ 8) ⊎ IsOfSegment first segment (λ content. IsBegin content 8) → ⊥
    by_case (inl over) = omega (arith, over)
    by_case (inr begins) = none_begins_at_8 (inl begins)

pub it_has_its_own : IsPagedSegment first segment
it_has_its_own = they_are_its_own

pub without_marks_it_has_none : IsPagedSegment first unmarked
without_marks_it_has_none = tt

pub it_has_those_of_another : IsPagedSegment first (record segment { marks = Some (record of_two { len = 16 }) }) → ⊥
it_has_those_of_another is = let e : ◌≡◌ {A = ℕ} 16 15 = is.len in omega (arith, e)

-- their top was read
abbrev pub as_opened : MarksState
as_opened = record of_two { bytes = record of_two.bytes { reads = gave 72 zeros ∷ [] } }

pub they_are_opened_in_it : HasOpenedMarks {S = List SourceRead} {E = ℕ} first (λ reads. reads) 32 15 zeros (Ok []) (Some as_opened) None
they_are_opened_in_it = they_are_opened

-- their top isn't read
pub they_are_opened_unread : HasOpenedMarks {S = List SourceRead} {E = ℕ} first (λ reads. reads) 32 15 zeros (Ok []) (Some of_two) None → ⊥
they_are_opened_unread is = omega (arith, ap length is.bytes.reads)

-- nor are those of another root
pub of_another_root : HasOpenedMarks {S = List SourceRead} {E = ℕ} first (λ reads. reads) 32 15 [] (Ok []) (Some as_opened) None → ⊥
of_another_root is = omega (arith, ap length is.root)

-- no file is there
pub in_no_file : HasOpenedMarks {S = List SourceRead} {E = ℕ} first (λ reads. reads) 32 15 zeros (Err 0) (Some as_opened) None → ⊥
in_no_file is = is

-- another top was read
abbrev pub another_top : UnopenedBytes (List SourceRead)
another_top = record { error = causes.Damaged; file = gave 72 (replicate 32 1) ∷ [] }

-- their top is another
pub they_are_not_opened : AreUnopened first 32 15 zeros [] another_top
they_are_not_opened = record {
  of = tt;
  fails = (replicate 32 1, ([], refl), refl, λ same. omega (arith, ap (λ (l : List ℕ). get_or l 0 0) same));
}

-- nothing was read of the file
pub unread_they_are_not_opened : AreUnopened first 32 15 zeros [] (record another_top { file = [] }) → ⊥
unread_they_are_not_opened is = ended [] _ is.fails.1

-- their top is theirs
pub by_their_top_they_are : AreUnopened first 32 15 zeros [] (record another_top { file = gave 72 zeros ∷ [] }) → ⊥
by_their_top_they_are is = is.fails.3 (subst (λ (bytes : List ℕ). first bytes ≡ zeros) (given_bytes 72 zeros is.fails.0 72 is.fails.1) refl)

pub then_there_are_none : HasOpenedMarks {S = List SourceRead} {E = ℕ} first (λ reads. reads) 32 15 zeros (Ok []) None (Some another_top)
then_there_are_none = they_are_not_opened

-- the file is there, and isn't given back
pub they_are_not_tried : HasOpenedMarks {S = List SourceRead} {E = ℕ} first (λ reads. reads) 32 15 zeros (Ok []) None None → ⊥
they_are_not_tried is = is

pub opening_answers : OpensMarks {S = List SourceRead} {E = ℕ} first (λ reads. reads) 32 15 zeros (Ok []) (Ok (Some as_opened, None))
opening_answers = they_are_opened_in_it

-- a file that is refused is no error: there are no marks then
pub opening_is_refused : OpensMarks {S = List SourceRead} {E = ℕ} first (λ reads. reads) 32 15 zeros (Ok []) (Err (errors.Damaged 7)) → ⊥
opening_is_refused is = cc is

abbrev marked_anew : PagedSegmentState
marked_anew = record unmarked { marks_root = Some zeros; marks = Some as_opened }

pub it_takes_them : HasTakenMarks {S = List SourceRead} {E = ℕ} first (λ reads. reads) zeros (Ok []) unmarked marked_anew None
it_takes_them = record { rest = refl; opens = they_are_opened_in_it }

-- it reads another segment then
pub another_takes_them : HasTakenMarks {S = List SourceRead} {E = ℕ} first (λ reads. reads) zeros (Ok []) unmarked (record marked_anew { number = 8 }) None → ⊥
another_takes_them is = let e : ◌≡◌ {A = ℕ} 8 7 = ap (λ (p : PagedSegmentState). p.number) is.rest in omega (arith, e)

pub taking_answers : TakesMarks {S = List SourceRead} {E = ℕ} first (λ reads. reads) zeros (Ok []) unmarked (Ok (marked_anew, None))
taking_answers = it_takes_them

-- it has no marks, and the file isn't given back
pub it_takes_none : (p : PagedSegmentState) → p.marks ≡ None → HasTakenMarks {S = List SourceRead} {E = ℕ} first (λ reads. reads) zeros (Ok []) unmarked p None → ⊥
it_takes_none p none is = subst (λ (k : Option MarksState). HasOpenedMarks {S = List SourceRead} {E = ℕ} first (λ reads. reads) 32 15 zeros (Ok []) k None) none is.opens

pub taking_is_refused : TakesMarks {S = List SourceRead} {E = ℕ} first (λ reads. reads) zeros (Ok []) unmarked (Err (errors.Damaged 7)) → ⊥
taking_is_refused is = cc is

pub it_stays_its_segment : MarksPaged unmarked (Ok segment)
it_stays_its_segment = record { number = refl; of = refl; page_size = refl }

pub it_is_another_segment : MarksPaged unmarked (Ok (record segment { number = 8 })) → ⊥
it_is_another_segment is = let e : ◌≡◌ {A = ℕ} 8 7 = is.number in omega (arith, e)

pub they_are_the_same : HasSameMarks (Some of_two) (Some once_read)
they_are_the_same = one_more_read

pub they_are_let_go : HasSameMarks (Some of_two) None → ⊥
they_are_let_go is = is

pub they_are_left : LeavesMarks segment (record segment { is_settled = true })
they_are_left = record { root = refl; marks = refl; ended = refl }

pub another_end_is_kept : LeavesMarks segment (record segment { ended = 7 }) → ⊥
another_end_is_kept is = let e : ◌≡◌ {A = ℕ} 7 0 = is.ended in omega (arith, e)

pub it_has_none_yet : IsUnmarked unmarked
it_has_none_yet = record { root = refl; marks = refl; ended = refl }

pub it_has_them : IsUnmarked segment → ⊥
it_has_them is = cc is.root

-- ---- the nth frame

pub the_second_is_at_7 : IsNthOffset two_frames 1 (Some 7)
unfolding record_len
the_second_is_at_7 = (refl, lit< tt)

pub the_second_is_the_first : IsNthOffset two_frames 1 (Some 0) → ⊥
unfolding record_len
the_second_is_the_first is = let e : 0 ≡ 7 = is.0 in omega (arith, e)

pub from_the_first : CanCountFrom two_frames 1 (record { number = 0; offset = 0 })
from_the_first = (lit≤ tt, inl refl)

pub not_from_behind : CanCountFrom two_frames 0 (record { number = 1; offset = 7 }) → ⊥
not_from_behind is = let e : 1 ≤ 0 = is.0 in omega (arith, e)

-- its marks can't be used, or they can
pub count_start_answered : CountStartAnswers first 0 segment (Ok (record { number = 0; offset = 0 }))
count_start_answered = λ root has content sealed its. inl (lit≤ tt, inl refl)

pub count_start_answered_wrong : CountStartAnswers first 0 segment (Ok (record { number = 1; offset = 7 })) → ⊥
count_start_answered_wrong is = not_from_behind (of_them (λ content. CanCountFrom content 0 (record { number = 1; offset = 7 })) (is zeros refl))

pub its_count_starts : CountStartGoes first 0 segment segment (Ok (record { number = 0; offset = 0 }))
its_count_starts = record { rest = refl; marks = nth_goes.same; answers = count_start_answered }

pub its_count_starts_behind : (t : PagedSegmentState) → CountStartGoes first 0 segment t (Ok (record { number = 1; offset = 7 })) → ⊥
its_count_starts_behind t is = count_start_answered_wrong is.answers

-- marks that can't be used are no error
pub its_marks_are_missed : (t : PagedSegmentState) → CountStartGoes first 0 segment t (Err causes.Damaged) → ⊥
its_marks_are_missed t is = cc is.answers

pub its_first_is_told : FindAnswers first 0 segment segment (Ok (Some 0))
its_first_is_told = λ root has content sealed its. inl (refl, (let len = its.len in omega (arith, len)))

pub its_first_is_told_behind : (t : PagedSegmentState) → FindAnswers first 0 segment t (Ok (Some 7)) → ⊥
its_first_is_told_behind t is =
    let told : IsNthOffset two_frames 0 (Some 7) = of_them (λ content. IsNthOffset content 0 (Some 7)) (is zeros refl) in
    let e : 7 ≡ 0 = told.0 in omega (arith, e)

-- nothing was read
pub unread_it_is_lost : FindAnswers first 0 segment segment (Err causes.Damaged) → ⊥
unread_it_is_lost is = elim is [
  | inl lost ↦ unread_none_is_lost lost
  | inr memory ↦ cc memory
]

pub its_first_is_found : FindGoes first 0 segment segment (Ok (Some 0))
its_first_is_found = record { rest = refl; content = content_same unopened; marks = nth_goes.same; answers = its_first_is_told }

pub it_is_found_behind : (t : PagedSegmentState) → FindGoes first 0 segment t (Ok (Some 7)) → ⊥
it_is_found_behind t is = its_first_is_told_behind t is.answers

pub the_first_is_answered : SegmentNthAnswers first 0 segment segment (Ok (Some 0))
the_first_is_answered = (zeros, refl, λ content sealed its. inl (refl, (let len = its.len in omega (arith, len))))

pub it_has_no_marks : SegmentNthAnswers first 0 unmarked unmarked (Err (errors.Unmarked 7))
it_has_no_marks = inl (refl, refl)

pub its_search_goes : SegmentNthGoes first 0 segment segment (Ok (Some 0))
its_search_goes = record {
  same = record { number = refl; of = refl; page_size = refl };
  root = refl;
  marks = nth_goes.same;
  stays = λ is. is;
  rebuilt = λ is. inl is;
  answers = the_first_is_answered;
}

-- without marks nothing is answered
pub nothing_is_found : (found : Option ℕ) → SegmentNthAnswers first 0 unmarked unmarked (Ok found) → ⊥
nothing_is_found found (root, has, of) = cc has

pub a_place_of_it : placed 7 (Some 0) ≡ Some (record { segment = 7; offset = 0 })
a_place_of_it = refl

pub no_place : placed 7 None ≡ Some (record { segment = 7; offset = 0 }) → ⊥
no_place is = cc is

-- ---- a page that is passed

abbrev pub nothing : PassedPage
nothing = record { to = 15; frames = Some 0 }

pub at_its_end_nothing_is : PassesIn first 15 segment segment nothing
at_its_end_nothing_is = (λ none. cc none, inl (lit≤ tt, refl))

-- it must go on
pub it_stays_there : PassesIn first 0 segment segment (record { to = 0; frames = Some 0 }) → ⊥
it_stays_there (some, inl is) = omega (arith, is.0)
it_stays_there (some, inr is) = omega (arith, is.0)

pub it_can_not_be_passed : SegmentPassAnswers first 0 unmarked unmarked (Err (errors.Unmarked 7))
it_can_not_be_passed = inl (refl, refl)

pub it_is_passed_all_the_same : (p : PassedPage) → SegmentPassAnswers first 0 unmarked unmarked (Ok p) → ⊥
it_is_passed_all_the_same p is = is.0 refl

pub eight_bytes_are_passed : passed_by 7 nothing ≡ record { frames = Some 0; bytes = 8 }
eight_bytes_are_passed = refl

pub not_all_of_them : passed_by 7 nothing ≡ record { frames = Some 0; bytes = 15 } → ⊥
not_all_of_them is = let e : ◌≡◌ {A = ℕ} 8 15 = ap (λ (p : Passed). p.bytes) is in omega (arith, e)

pub within_it : passed_to 7 7 15 ≡ record { segment = 7; offset = 7 }
within_it = refl

pub at_its_end_the_next_follows : passed_to 7 15 15 ≡ record { segment = 8; offset = 0 }
at_its_end_the_next_follows = refl

pub not_its_end : passed_to 7 15 15 ≡ record { segment = 7; offset = 15 } → ⊥
not_its_end is = let e : ◌≡◌ {A = ℕ} 8 7 = ap (λ (p : Place). p.segment) is in omega (arith, e)
