-- Damage that is passed, in the log that `NthExamples` has: its closed segment 7 holds two frames,
-- which begin at the bytes 0 and 7 and end at byte 15, in one page.
use Rattle.std.specs.Prelude.{◌≡◌, ◌⊎◌, ◌-◌, ℕ, List, [], ◌∷◌, replicate, get_or, Some, None, Ok, Err}
use Rattle.std.proofs.Common.{refl, sym, ap, subst, inl, inr, arith, lit<, lit≤}
use Rattle.journal.specs.Frame.{record_len}
use Rattle.page_digests.specs.declared.error.Error as pages
use Rattle.page_digests.specs.declared.error.Error.TheVariants as causes
use Rattle.page_digests.specs.declared.seal.Seal.{Seal}
use Rattle.page_digests.specs.Seals.{HasSecondPreimage}
use Rattle.page_digests.proofs.PageExamples.{first}
use Rattle.page_digests.proofs.ReadExamples.{zeros}
use Rattle.segments.specs.declared.closed.FileDigest.{FileDigest}
use Rattle.segments.specs.declared.closed.Fingerprint.TheVariants.{Whole, Paged}
use Rattle.segments.specs.declared.error.Error.{Error}
use Rattle.segments.specs.declared.error.Error.TheVariants as errors
use Rattle.segments.specs.declared.passing.PassedPage.{PassedPage}
use Rattle.segments.specs.declared.passing_damage.Passed.{Passed}
use Rattle.segments.specs.declared.place.Place.{Place}
use Rattle.segments.specs.Log.{IsReadLast, LogState}
use Rattle.segments.specs.MarkReads.{HasMarks, HasMarksPreimage}
use Rattle.segments.specs.PagedReads.{CountsPassed, HasFailedPass, IsOfSegment, PagedSegmentState, PassFails, PassesIn}
use Rattle.segments.specs.Passing.{IsPassedTo, frames_passed}
use Rattle.segments.specs.PassingDamage.{HasDamagedPass, HasPassedPage, IsNonePassed, IsPassDamaged, IsDamagePassed, IsPassedIn, LogPassGoes, PassByMarksGoes, PassInClosedGoes}
use Rattle.segments.proofs.LogExamples.{by_pages, small}
use Rattle.segments.proofs.MarkReadExamples.{of_two, once_damaged}
use Rattle.segments.proofs.MarkedReadExamples.{after_damage, kept, of_them, segment, unmarked}
use Rattle.segments.proofs.NthExamples.{at, its_marks_were_not_opened, log, none_was_read_last, of_listed, unopened_log, unread_log}
use Rattle.segments.proofs.PassedExamples.{the_last_page_answers, unknown_in_the_last}
use Rattle.segments.proofs.SegmentMarks.{same_some}
use Rattle.segments.proofs.SegmentReadExamples.{told_of}

-- ---- of a segment

-- of the last page nothing is read
pub they_are_not_counted : CountsPassed first 0 segment segment None
they_are_not_counted = (of_two, of_two, refl, refl, unknown_in_the_last)

-- without marks nothing was tried
pub not_even_by_marks : CountsPassed first 0 unmarked unmarked None → ⊥
not_even_by_marks is = cc is.2

-- there are two
pub three_are_counted : CountsPassed first 0 segment segment (Some 3) → ⊥
unfolding record_len
three_are_counted is = let e : 3 ≡ 2 = of_them (λ content. 3 ≡ frames_passed 32 content 0) (is zeros refl) in omega (arith, e)

to_its_end : IsOfSegment first segment (λ content. IsPassedTo 32 content 0 15)
to_its_end root has content sealed its = by_case (the_last_page_answers.2 content (subst (λ (b : List ℕ). HasMarks first 32 content 15 b) (sym (same_some zeros root has)) its))
  where
    by_case : IsPassedTo 32 content 0 15 ⊎ HasMarksPreimage first 32 content → IsPassedTo 32 content 0 15 ⊎ HasSecondPreimage first 32 content ⊎ HasMarksPreimage first 32 content
    by_case (inl is) = inl is
    by_case (inr twin) = inr (inr twin)

abbrev pub page : PassedPage
page = record { to = 15; frames = None }

pub it_is_passed : PassesIn first 0 segment segment page
it_is_passed = (λ none. cc none, inr (lit< tt, lit≤ tt, to_its_end, they_are_not_counted))

-- the mark of the next page is in the page of the marks that is another
pub its_pass_failed : HasFailedPass first 0 segment after_damage causes.Damaged
its_pass_failed = record {
  before = of_two;
  after = once_damaged;
  old_marks = refl;
  new_marks = refl;
  fails = inl (1, lit< tt, (0, (lit< tt, lit< tt), (replicate 8 1, ([], refl), refl, λ same. omega (arith, ap (λ (l : List ℕ). get_or l 0 0) same))));
}

pub none_was_passed : (offset : ℕ) (e : pages.Error) → HasFailedPass first offset unmarked unmarked e → ⊥
none_was_passed offset e is = cc is.old_marks

pub it_is_told : PassFails first 0 segment after_damage (errors.Damaged 7)
it_is_told = inr (causes.Damaged, its_pass_failed, refl)

pub another_is_told : (t : PagedSegmentState) → PassFails first 0 segment t (errors.Damaged 8) → ⊥
another_is_told t (inl is) = cc is.0
another_is_told t (inr (cause, fails, told)) = told_of cause told

-- ---- by what was kept of it

-- a read of its marks failed
abbrev pub damaged_log : LogState
damaged_log = record log { reading = record { whole = None; paged = after_damage ∷ [] } }

pub it_was_read_last : IsReadLast 7 after_damage damaged_log
it_was_read_last = record { before = []; there = refl; number = refl }

pub its_damage : HasDamagedPass first 32 kept 0 7 damaged_log
its_damage = record { old = segment; new = after_damage; of = refl; page_size = refl; marks = refl; error = causes.Damaged; fails = its_pass_failed; damage = tt; last = it_was_read_last }

-- none was read
pub it_is_damaged_unread : HasDamagedPass first 32 kept 0 7 unread_log → ⊥
it_is_damaged_unread is = none_was_read_last is.new is.last

pub damaged_by_its_pass : IsPassDamaged first 32 0 damaged_log 7 (Paged kept)
damaged_by_its_pass = inr (inl its_damage)

pub damaged_by_its_marks : IsPassDamaged first 32 0 unopened_log 7 (Paged kept)
damaged_by_its_marks = inr (inr its_marks_were_not_opened)

-- one that is known by its file has no pages to pass
pub a_file_is_not_passed : (f : FileDigest) → IsPassDamaged first 32 0 log 7 (Whole f) → ⊥
a_file_is_not_passed f is = is

pub its_page_was_passed_last : HasPassedPage first 32 kept 0 page 7 log
its_page_was_passed_last = record { old = segment; new = segment; of = refl; page_size = refl; marks = refl; passes = it_is_passed; last = record { before = []; there = refl; number = refl } }

-- none was read
pub it_is_passed_unread : HasPassedPage first 32 kept 0 page 7 unread_log → ⊥
it_is_passed_unread is = none_was_read_last is.new is.last

pub its_page_is_passed : IsPassedIn first 32 0 page 15 7 log (Paged kept)
its_page_is_passed = (refl, its_page_was_passed_last)

-- one goes on behind the offset
goes_further : (p : PassedPage) (t : LogState) → HasPassedPage first 32 kept 0 p 7 t → 0 ≡ p.to - 0 → ⊥
goes_further p t is none = by_case is.old is.new is.of is.passes
  where
    by_case : (old new : PagedSegmentState) → old.content.seal ≡ kept.seal → PassesIn first 0 old new p → ⊥
    by_case old new of (some, inl is) = omega (arith, is.0, ap (λ (x : Seal). x.len) of)
    by_case old new of (some, inr is) = omega (arith, is.0, none)

pub it_is_passed_in_place : IsPassedIn first 32 0 (record { to = 0; frames = Some 0 }) 15 7 log (Paged kept) → ⊥
it_is_passed_in_place is = goes_further (record { to = 0; frames = Some 0 }) log is.1 refl

pub of_another_length : (p : PassedPage) (t : LogState) → IsPassedIn first 32 0 p 16 7 t (Paged kept) → ⊥
of_another_length p t is = let e : ◌≡◌ {A = ℕ} 16 15 = is.0 in omega (arith, e)

-- ---- of a closed segment

pub it_goes : PassInClosedGoes first log log 7 0 (Ok (page, 15))
it_goes = (by_pages kept, refl, its_page_is_passed)

pub it_is_damaged : PassInClosedGoes first log damaged_log 7 0 (Err (errors.Damaged 7))
it_is_damaged = (refl, (by_pages kept, refl, damaged_by_its_pass))

pub another_is_damaged : (t : LogState) → PassInClosedGoes first log t 7 0 (Err (errors.Damaged 8)) → ⊥
another_is_damaged t is = let e : ◌≡◌ {A = ℕ} 8 7 = is.0 in omega (arith, e)

-- it is listed
pub it_is_not_there : (t : LogState) → PassInClosedGoes first log t 7 0 (Err (errors.NoSegment 7)) → ⊥
it_is_not_there t is = cc is.1

pub it_goes_by_its_marks : PassByMarksGoes first log log 7 15 0 (Ok page)
it_goes_by_its_marks = it_goes

pub it_goes_too_far : (t : LogState) → PassByMarksGoes first log t 7 16 0 (Ok page) → ⊥
it_goes_too_far t is = of_another_length page t (of_listed (IsPassedIn first 32 0 page 16 7 t) is)

-- ---- at a place

-- the page was the last one, so one goes on in the next segment
abbrev next : Place
next = record { segment = 8; offset = 0 }

pub its_page_was_passed : IsDamagePassed first log log (at 0) next (record { frames = None; bytes = 15 })
its_page_was_passed = record { page = page; len = 15; closed = is_closed; passes = it_goes; moves = refl; says = refl }
  where
    is_closed : ◌≡◌ {A = ℕ} 7 8 → ⊥
    is_closed same = omega (arith, same)

-- fifteen bytes were
pub no_bytes_were : (t : LogState) (new : Place) → IsDamagePassed first log t (at 0) new (record { frames = None; bytes = 0 }) → ⊥
no_bytes_were t new is =
    let told = of_listed (IsPassedIn first 32 0 is.page is.len 7 t) is.passes in
    goes_further is.page t told.1 (ap (λ (p : Passed). p.bytes) is.says)

abbrev in_the_open_one : Place
in_the_open_one = record { segment = 0; offset = 3 }

abbrev nothing : Passed
nothing = record { frames = Some 0; bytes = 0 }

pub it_stays_in_the_open_one : IsNonePassed small in_the_open_one in_the_open_one nothing
it_stays_in_the_open_one = record { is_open = refl; stays = refl; says = refl }

pub it_moves_in_the_open_one : IsNonePassed small in_the_open_one (record { segment = 0; offset = 4 }) nothing → ⊥
it_moves_in_the_open_one is = let e : ◌≡◌ {A = ℕ} 4 3 = ap (λ (p : Place). p.offset) is.stays in omega (arith, e)

-- of the open segment no page is passed
pub a_page_of_the_open_one : (t : LogState) (new : Place) (passed : Passed) → IsDamagePassed first small t in_the_open_one new passed → ⊥
a_page_of_the_open_one t new passed is = is.closed refl

pub damage_is_passed : LogPassGoes first log log (at 0) next (Ok (record { frames = None; bytes = 15 }))
damage_is_passed = inr its_page_was_passed

pub nothing_is_passed : LogPassGoes first small small in_the_open_one in_the_open_one (Ok nothing)
nothing_is_passed = inl it_stays_in_the_open_one

-- after an error the place is where it was
pub it_moves_all_the_same : (t : LogState) (e : Error) → LogPassGoes first log t (at 0) (at 15) (Err e) → ⊥
it_moves_all_the_same t e is = let same : ◌≡◌ {A = ℕ} 15 0 = ap (λ (p : Place). p.offset) is.0 in omega (arith, same)
