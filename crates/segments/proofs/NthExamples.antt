-- A log whose closed segment 7 is read by its marks, as `MarkedReadExamples` has it, and whose open
-- segment is 8; and `small`, of which segment 0 is open and holds one frame: where the nth frame
-- begins, and what a read finds.
use Rattle.std.specs.Prelude.{◌≡◌, ◌⊎◌, ◌≤◌, ◌++◌, ℕ, List, [], ◌∷◌, length, Option, Some, None, Ok, Err}
use Rattle.std.proofs.Common.{refl, sym, ap, subst, inl, inr, arith, lit<, length-append}
use Rattle.disk.specs.declared.error.Error as layer
use Rattle.disk.specs.declared.error.Error.TheVariants as layers
use Rattle.paged_read.specs.Failures.{none_failed_start}
use Rattle.page.specs.Sums.{add_sum}
use Rattle.journal.specs.declared.frame.Found.{Found}
use Rattle.journal.specs.Journal.{ReadRecordGoes}
use Rattle.writer_state.specs.Sound.{content}
use Rattle.page_digests.proofs.PageExamples.{first}
use Rattle.page_digests.proofs.ReadExamples.{zeros}
use Rattle.page_digests.proofs.SealExamples.{its_seal as abc_seal}
use Rattle.segments.specs.declared.closed.Closed.{Closed}
use Rattle.segments.specs.declared.closed.FileDigest.{FileDigest}
use Rattle.segments.specs.declared.closed.PagedSeal.{PagedSeal}
use Rattle.segments.specs.declared.closed.Fingerprint.{Fingerprint}
use Rattle.segments.specs.declared.closed.Fingerprint.TheVariants.{Whole, Paged}
use Rattle.segments.specs.declared.error.Error.TheVariants as errors
use Rattle.segments.specs.declared.place.Place.{Place}
use Rattle.segments.specs.Log.{HasDamagedLast, IsDamagedBy, IsKeptAs, IsReadLast, LastMarksFail, LogReadBegins, LogState}
use Rattle.segments.specs.Nth.{IsSearchDamaged, LogNthGoes, NthOfClosedGoes, NthOfOpenGoes, OpenReadFails}
use Rattle.segments.specs.Owned.{HasJournal, OwnedReadGoes, OwnedState, without_journal}
use Rattle.segments.specs.PagedReads.{IfMarked, IsNthOffset, IsOfFingerprint, IsOfKept, MarksFail, PagedSegmentState}
use Rattle.segments.specs.PassingDamage.{LastIsUnopened}
use Rattle.segments.specs.Seeks.{CountFails, IsBegin}
use Rattle.segments.proofs.BytesExamples.{c_page, resting, with_c}
use Rattle.segments.proofs.LogExamples.{by_pages, it_was_only_read, small}
use Rattle.segments.proofs.MarkExamples.{two_frames}
use Rattle.segments.proofs.MarkReadExamples.{its_seal, none_begins_behind_it}
use Rattle.segments.proofs.MarkedReadExamples.{begins_first, kept, of_them, segment, unread_they_do_not_fail}
use Rattle.segments.proofs.ReadingExamples.{in_pages}
use Rattle.segments.proofs.SegmentMarks.{same_some}
use Rattle.segments.proofs.SegmentReadExamples.{damaged_segment, it_fails, its_search_fails}

-- ---- the log

abbrev pub log : LogState
log = record small { listing = record { first = 7; closed = by_pages kept ∷ [] }; reading = record { whole = None; paged = segment ∷ [] }; page_size = 32 }

abbrev pub without_marks : PagedSegmentState
without_marks = record segment { marks = None }

-- its marks couldn't be opened
abbrev pub unopened_log : LogState
unopened_log = record log { reading = record { whole = None; paged = without_marks ∷ [] } }

-- no closed segment was read
abbrev pub unread_log : LogState
unread_log = record log { reading = record { whole = None; paged = [] } }

abbrev pub at : (offset : ℕ) → Place
at offset = record { segment = 7; offset = offset }

none_is_last : (before : List PagedSegmentState) (last : PagedSegmentState) → [] ≡ before ++ last ∷ [] → ⊥
none_is_last before last is = omega (arith, ap length is, length-append before (last ∷ []))

abbrev first_or : PagedSegmentState → List PagedSegmentState → PagedSegmentState
first_or p [] = p
first_or p (q ∷ qs) = q

only_one : (p : PagedSegmentState) (before : List PagedSegmentState) (last : PagedSegmentState) → p ∷ [] ≡ before ++ last ∷ [] → p ≡ last
only_one p [] last is = ap (first_or p) is
only_one p (b ∷ bs) last is = absurd (omega (arith, ap length is, length-append bs (last ∷ [])))

-- what was kept of segment 7
pub of_listed : (is : Fingerprint → Type 0) → IsKeptAs log.listing 7 is → is (Paged kept)
of_listed is (closed, listed, told) = subst (λ (c : Closed). is c.fingerprint) (sym (it_is closed listed)) told
  where
    or_it : Option Closed → Closed
    or_it None = by_pages kept
    or_it (Some c) = c

    it_is : (c : Closed) → Some (by_pages kept) ≡ Some c → by_pages kept ≡ c
    it_is c same = ap or_it same

-- what is so of each content that was kept is so of the two frames
of_kept : (is : List ℕ → Type 0) → IsOfFingerprint first 32 is (Paged kept) → is two_frames
of_kept is (root, has, told) = of_them is (subst (λ (b : List ℕ). IsOfKept first 32 its_seal b is) (sym (same_some zeros root has)) told)

pub its_marks_were_not_opened : LastIsUnopened 7 unopened_log
its_marks_were_not_opened = record { before = []; last = without_marks; there = refl; number = refl; kept = λ none. cc none; unopened = refl }

pub its_marks_were : LastIsUnopened 7 log → ⊥
its_marks_were is = cc (ap (λ (p : PagedSegmentState). p.marks) (only_one segment is.before is.last is.there), is.unopened)

-- ---- the nth frame of a closed segment

-- its content is "abc", and its page was wrong
abbrev pub abc_kept : PagedSeal
abc_kept = record { number = 1; seal = abc_seal; marks = Some zeros }

abbrev pub abc_log : LogState
abc_log = record log { listing = record { first = 7; closed = by_pages abc_kept ∷ [] }; reading = record { whole = None; paged = in_pages ∷ [] } }

abbrev pub damaged_log : LogState
damaged_log = record abc_log { reading = record { whole = None; paged = damaged_segment ∷ [] } }

pub it_was_read_last : IsReadLast 7 damaged_segment damaged_log
it_was_read_last = record { before = []; there = refl; number = refl }

pub none_was_read_last : (p : PagedSegmentState) → IsReadLast 7 p unread_log → ⊥
none_was_read_last p is = none_is_last is.before p is.there

-- it was searched, and then its page was wrong
pub its_damage : HasDamagedLast first (CountFails first 0) 32 abc_seal 7 damaged_log
its_damage = record { old = in_pages; new = damaged_segment; of = record { number = refl; of = refl; page_size = refl }; fails = its_search_fails; last = it_was_read_last }

-- none was read
pub it_is_damaged_unread : HasDamagedLast first (CountFails first 0) 32 abc_seal 7 unread_log → ⊥
it_is_damaged_unread is = none_was_read_last is.new is.last

-- so does a read
pub damaged_by_its_frame : IsDamagedBy first 32 0 7 damaged_log (Paged abc_kept)
damaged_by_its_frame = inr (record { old = in_pages; new = damaged_segment; of = record { number = refl; of = refl; page_size = refl }; fails = it_fails; last = it_was_read_last })

pub damaged_by_its_search : IsSearchDamaged first 32 damaged_log 7 (Paged abc_kept)
damaged_by_its_search = inr its_damage

-- one that is known by its file has no marks to search by
pub a_file_is_not_searched : (f : FileDigest) → IsSearchDamaged first 32 log 7 (Whole f) → ⊥
a_file_is_not_searched f is = is

pub its_first_is_found : NthOfClosedGoes first log log 7 0 (Ok (Some 0))
its_first_is_found = (by_pages kept, refl, (zeros, refl, λ content sealed its. inl (refl, (let len = its.len in omega (arith, len)))))

-- the second begins there
pub it_is_found_elsewhere : (t : LogState) → NthOfClosedGoes first log t 7 0 (Ok (Some 7)) → ⊥
it_is_found_elsewhere t is =
    let told : IsNthOffset two_frames 0 (Some 7) = of_kept (λ content. IsNthOffset content 0 (Some 7)) (of_listed (IsOfFingerprint first 32 (λ content. IsNthOffset content 0 (Some 7))) is) in
    let e : 7 ≡ 0 = told.0 in omega (arith, e)

pub it_is_damaged : NthOfClosedGoes first abc_log damaged_log 7 0 (Err (errors.Damaged 7))
it_is_damaged = (refl, (by_pages abc_kept, refl, damaged_by_its_search))

pub another_is_damaged : (t : LogState) → NthOfClosedGoes first log t 7 0 (Err (errors.Damaged 8)) → ⊥
another_is_damaged t is = let e : ◌≡◌ {A = ℕ} 8 7 = is.0 in omega (arith, e)

-- it is listed
pub it_is_not_there : (t : LogState) → NthOfClosedGoes first log t 7 0 (Err (errors.NoSegment 7)) → ⊥
it_is_not_there t is = cc is.1

-- a closed segment is searched, whether or not the log is closed
pub the_log_is_closed : (t : LogState) → NthOfClosedGoes first log t 7 0 (Err errors.Closed) → ⊥
the_log_is_closed t is = is

-- ---- of the open one

pub no_memory_for_it : OpenReadFails add_sum add_sum small small layers.OutOfMemory
no_memory_for_it = record { mid = small; at = 0; before = it_was_only_read add_sum add_sum; fails = (refl, none_failed_start (resting c_page)) }

no_journal_reads : (own : List ℕ → ℕ) (at : ℕ) (o u : OwnedState) (e : layer.Error) → o.journal ≡ None → OwnedReadGoes own at o u (Err (errors.Layer e)) → ⊥
no_journal_reads own at o u e none goes =
    subst (λ j. HasJournal j (λ w. (u.journal ≡ Some w) × ReadRecordGoes own (content w o.life.present.readable) at o.life u.life (Err e))) none goes

abbrev closed_small : LogState
closed_small = record small { current = without_journal with_c }

-- where there is no journal nothing is read
pub without_a_journal : (sum own : List ℕ → ℕ) (t : LogState) (e : layer.Error) → OpenReadFails sum own closed_small t e → ⊥
without_a_journal sum own t e is = no_journal_reads own is.at is.mid.current t.current e is.before.journal is.fails

pub its_frame_is_found : (sum own : List ℕ → ℕ) (t : LogState) → NthOfOpenGoes sum own small t 0 (Ok (Some 0))
its_frame_is_found sum own t = (tt, (refl, lit< tt))

pub none_is_found : (sum own : List ℕ → ℕ) (t : LogState) → NthOfOpenGoes sum own small t 0 (Ok None) → ⊥
none_is_found sum own t is = let e : 8 ≤ 0 = is.1 in omega (arith, e)

pub it_is_closed : (sum own : List ℕ → ℕ) (t : LogState) → NthOfOpenGoes sum own closed_small t 0 (Err errors.Closed)
it_is_closed sum own t = refl

pub it_is_called_closed : (sum own : List ℕ → ℕ) (t : LogState) → NthOfOpenGoes sum own small t 0 (Err errors.Closed) → ⊥
it_is_called_closed sum own t is = cc is

-- ---- of either

pub in_the_open_one : (sum own : List ℕ → ℕ) (t : LogState) → LogNthGoes sum own first small t 0 0 (Ok (Some (record { segment = 0; offset = 0 })))
in_the_open_one sum own t = (Some 0, refl, inl (refl, its_frame_is_found sum own t))

pub in_the_closed_one : (sum own : List ℕ → ℕ) → LogNthGoes sum own first log log 7 0 (Ok (Some (at 0)))
in_the_closed_one sum own = (Some 0, refl, inr (is_closed, its_first_is_found))
  where
    is_closed : ◌≡◌ {A = ℕ} 7 8 → ⊥
    is_closed same = omega (arith, same)

-- segment 7 isn't the open one
pub the_closed_one_is_closed : (sum own : List ℕ → ℕ) (t : LogState) → LogNthGoes sum own first log t 7 0 (Err errors.Closed) → ⊥
the_closed_one_is_closed sum own t (inl is) = let e : ◌≡◌ {A = ℕ} 7 8 = is.0 in omega (arith, e)
the_closed_one_is_closed sum own t (inr is) = is.1

-- ---- where a read begins

pub the_marks_of_it_fail : LastMarksFail first 7 0 unopened_log
the_marks_of_it_fail = record { before = []; last = without_marks; there = refl; number = refl; fails = inl refl }

pub unread_they_do_not : (offset : ℕ) → LastMarksFail first 7 offset unread_log → ⊥
unread_they_do_not offset is = none_is_last is.before is.last is.there

-- none was read for it
pub nor_if_they_are_open : LastMarksFail first 7 8 log → ⊥
nor_if_they_are_open is = unread_they_do_not_fail (subst (λ (p : PagedSegmentState). MarksFail first 8 p) (sym (only_one segment is.before is.last is.there)) is.fails)

pub a_begin_is_read : (f : Found) → LogReadBegins first log (at 0) (Ok (Some f))
a_begin_is_read f other closed listed = inl (subst (λ (c : Closed). IfMarked first 32 (λ content. IsBegin content 0) c.fingerprint) (it_is closed listed) begins_first)
  where
    or_it : Option Closed → Closed
    or_it None = by_pages kept
    or_it (Some c) = c

    it_is : (c : Closed) → Some (by_pages kept) ≡ Some c → by_pages kept ≡ c
    it_is c same = ap or_it same

-- in the midst of the second frame, and the marks don't fail
pub a_midst_is_read : (f : Found) → LogReadBegins first log (at 8) (Ok (Some f)) → ⊥
a_midst_is_read f is = by_case (is is_closed (by_pages kept) refl)
  where
    is_closed : ◌≡◌ {A = ℕ} 7 8 → ⊥
    is_closed same = omega (arith, same)

    by_case : IfMarked first 32 (λ content. IsBegin content 8) (Paged kept) ⊎ LastMarksFail first 7 8 log → ⊥
    by_case (inl told) = none_begins_behind_it (of_them (λ content. IsBegin content 8) (told zeros refl))
    by_case (inr fails) = nor_if_they_are_open fails
