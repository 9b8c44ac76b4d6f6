-- A reader of a closed segment: what each of these definitions holds of, and what it refuses, of
-- the segment 7 that `ReadingExamples` has, which held "abc", and of the one that
-- `MarkedReadExamples` has, which has marks.
use Rattle.std.specs.Prelude.{◌≡◌, ℕ, List, [], ◌∷◌, true, Option, Some, None, Result, Ok, Err}
use Rattle.std.proofs.Common.{refl, ap, arith, inl, inr}
use Rattle.page.specs.Sums.{add_sum}
use Rattle.journal.specs.declared.frame.Found.{Found}
use Rattle.page_digests.proofs.ContentExamples.{damaged, read}
use Rattle.page_digests.proofs.PageExamples.{first}
use Rattle.segments.specs.declared.closed.Fingerprint.TheVariants.{Paged}
use Rattle.segments.specs.declared.closed_segment.SegmentBytes.TheVariants.{InMemory, ByPages}
use Rattle.segments.specs.declared.error.Error.{Error}
use Rattle.segments.specs.declared.error.Error.TheVariants as errors
use Rattle.segments.specs.declared.passing.PassedPage.{PassedPage}
use Rattle.segments.specs.ClosedSegments.{ClosedReadGoes, ClosedSegmentState, IsSegmentReader, IsReaderIn, IsReaderOf, IsDamagedAtOpening, OpenReaderGoes, ReadFrom, FromMemory, FromPages, ReaderAnswers, ReaderBegins, ReaderFails, ReaderNthAnswers, ReaderNthGoes, ReaderPageAnswers, ReaderPageGoes, ReaderPassGoes}
use Rattle.segments.specs.Log.{LoadedState, LogState}
use Rattle.segments.specs.PagedReads.{MarkedReadAnswers, PagedSegmentState, SegmentNthGoes, SegmentPassGoes, SegmentRefuses}
use Rattle.segments.specs.Readers.{from_fields}
use Rattle.segments.proofs.LogExamples.{by_pages, small}
use Rattle.segments.proofs.MarkReadExamples.{nth_goes, unopened}
use Rattle.segments.proofs.MarkedReadExamples.{a_begin_is_found, at_its_end_nothing_is, it_is_a_midst, it_is_refused_wrongly, its_search_goes, kept, nothing, segment}
use Rattle.segments.proofs.PagedFrameExamples.{it_is_its_frame, its_frame}
use Rattle.segments.proofs.PagedReading.{paged_closed}
use Rattle.segments.proofs.ReadingExamples.{abc_is_passed_over, in_pages, its_file_is_damaged, no_file_is_damaged, none_seal, sealed}
use Rattle.segments.proofs.SegmentReadExamples.{it_fails}
use Rattle.segments.proofs.SegmentReads.{content_same}

abbrev reader : ClosedSegmentState
reader = record { number = 7; kept = by_pages sealed; page_size = 32; from = FromPages in_pages }

abbrev after : ClosedSegmentState
after = record reader { from = FromPages (record in_pages { content = read }) }

abbrev its_pages : ReadFrom
its_pages = FromPages in_pages

pub it_reads_pages : from_fields {S = ℕ} {H = ℕ} {R = ℕ} {D = ℕ} (ByPages in_pages) ≡ its_pages
it_reads_pages = refl

pub it_reads_in_memory : (l : LoadedState) → from_fields {S = ℕ} {H = ℕ} {R = ℕ} {D = ℕ} (InMemory l) ≡ FromMemory l
it_reads_in_memory l = refl

pub it_has_its_number : (sum own : List ℕ → ℕ) → IsReaderOf sum own 32 7 (Paged sealed) (FromPages in_pages)
it_has_its_number sum own = (record { number = refl; of = refl; page_size = refl }, refl, refl)

pub it_has_another_number : (sum own : List ℕ → ℕ) → IsReaderOf sum own 32 8 (Paged sealed) (FromPages in_pages) → ⊥
it_has_another_number sum own is = let same : ◌≡◌ {A = ℕ} 7 8 = is.0.number in omega (arith, same)

pub it_is_a_reader : (sum own : List ℕ → ℕ) → IsSegmentReader sum own reader
it_is_a_reader sum own = it_has_its_number sum own

pub by_another_page_size : (sum own : List ℕ → ℕ) → IsSegmentReader sum own (record reader { page_size = 16 }) → ⊥
by_another_page_size sum own is = let same : ◌≡◌ {A = ℕ} 32 16 = is.0.page_size in omega (arith, same)

-- ---- a read

pub its_pages_fail : ReaderFails first 0 (FromPages in_pages) (FromPages (record in_pages { content = damaged; is_settled = true })) (errors.Damaged 7)
its_pages_fail = inr it_fails

-- what is in memory was compared
pub memory_is_damaged : (d : List ℕ → List ℕ) (l : LoadedState) → ReaderFails d 0 (FromMemory l) (FromMemory l) (errors.Damaged 7) → ⊥
memory_is_damaged d l is = is

pub its_frame_is_answered : (sum : List ℕ → ℕ) → ReaderAnswers sum add_sum first 0 reader after (Ok (Some its_frame))
its_frame_is_answered sum = paged_closed sum add_sum first 32 sealed.seal (by_pages sealed) 0 (Some its_frame) refl (it_is_its_frame add_sum)

pub none_is_answered : (sum own : List ℕ → ℕ) (t : ClosedSegmentState) → ReaderAnswers sum own first 0 reader t (Ok None) → ⊥
none_is_answered sum own t is = abc_is_passed_over sum own is

pub it_goes_well : (sum : List ℕ → ℕ) → ClosedReadGoes sum add_sum first 0 reader after (Ok (Some its_frame))
it_goes_well sum = record { same = refl; answers = its_frame_is_answered sum; begins = inr (inl refl) }

-- it reads another segment then
pub it_becomes_another : (sum own : List ℕ → ℕ) (found : Option Found) → ClosedReadGoes sum own first 0 reader (record after { number = 8 }) (Ok found) → ⊥
it_becomes_another sum own found is = let same : ◌≡◌ {A = ℕ} 8 7 = ap (λ (r : ClosedSegmentState). r.number) is.same in omega (arith, same)

-- ---- by its marks

abbrev marked_reader : ClosedSegmentState
marked_reader = record reader { kept = by_pages kept; from = FromPages segment }

pub its_read_begins : (f : Found) → ReaderBegins first 0 (FromPages segment) (FromPages segment) (Ok (Some f))
its_read_begins f = a_begin_is_found f

-- its pages aren't kept then
pub its_pages_are_gone : (l : LoadedState) (result : Result (Option Found) Error) → ReaderBegins first 0 (FromPages segment) (FromMemory l) result → ⊥
its_pages_are_gone l result is = is

pub its_search_takes_its_marks : (n : ℕ) (result : Result (Option ℕ) Error) → SegmentNthGoes first n segment (record segment { marks = None }) result → ⊥
its_search_takes_its_marks n result is = is.marks

pub its_pass_goes : SegmentPassGoes first 15 segment segment (Ok nothing)
its_pass_goes = record { rest = refl; content = content_same unopened; marks = nth_goes.same; answers = at_its_end_nothing_is }

pub its_pass_takes_its_marks : (offset : ℕ) (result : Result PassedPage Error) → SegmentPassGoes first offset segment (record segment { marks = None }) result → ⊥
its_pass_takes_its_marks offset result is = is.marks

pub its_midst_is_refused : SegmentRefuses first 8 segment segment (errors.NoFrame 7 8)
its_midst_is_refused = inl (refl, it_is_a_midst)

pub its_midst_is_answered : (own : List ℕ → ℕ) → MarkedReadAnswers first own 8 segment segment (Err (errors.NoFrame 7 8))
its_midst_is_answered own = its_midst_is_refused

pub its_begin_is_refused : (own : List ℕ → ℕ) (t : PagedSegmentState) → MarkedReadAnswers first own 0 segment t (Err (errors.NoFrame 8 0)) → ⊥
its_begin_is_refused own t is = it_is_refused_wrongly first t is

pub its_first_is_found : ReaderNthGoes first 0 marked_reader marked_reader (Ok (Some 0))
its_first_is_found = record {
  same = refl;
  answers = its_search_goes;
}

pub of_a_file_none_is_found : (l : LoadedState) → ReaderNthAnswers first 0 7 (FromMemory l) (FromMemory l) (Err (errors.Unmarked 7))
of_a_file_none_is_found l = (refl, refl)

-- a reader in memory stays one
pub of_a_file_by_pages_none_is_found : (l : LoadedState) (p : PagedSegmentState) → ReaderNthAnswers first 0 7 (FromMemory l) (FromPages p) (Err (errors.Unmarked 7)) → ⊥
of_a_file_by_pages_none_is_found l p is = is

pub its_search_lets_it_go : (l : LoadedState) (n : ℕ) (result : Result (Option ℕ) Error) → ReaderNthGoes first n marked_reader (record marked_reader { from = FromMemory l }) result → ⊥
its_search_lets_it_go l n result is = is.answers

-- it searches another segment then
pub its_search_is_of_another : (n : ℕ) (result : Result (Option ℕ) Error) → ReaderNthGoes first n marked_reader (record marked_reader { number = 8 }) result → ⊥
its_search_is_of_another n result is = let same : ◌≡◌ {A = ℕ} 8 7 = ap (λ (r : ClosedSegmentState). r.number) is.same in omega (arith, same)

pub none_is_passed : ReaderPageGoes first 15 marked_reader marked_reader (Ok nothing)
none_is_passed = record {
  same = refl;
  answers = record { rest = refl; content = content_same unopened; marks = nth_goes.same; answers = at_its_end_nothing_is };
}

pub of_a_file_none_is_passed : (l : LoadedState) → ReaderPageAnswers first 0 7 (FromMemory l) (FromMemory l) (Err (errors.Unmarked 7))
of_a_file_none_is_passed l = (refl, refl)

pub of_a_file_by_pages_none_is_passed : (l : LoadedState) (p : PagedSegmentState) → ReaderPageAnswers first 0 7 (FromMemory l) (FromPages p) (Err (errors.Unmarked 7)) → ⊥
of_a_file_by_pages_none_is_passed l p is = is

pub its_pass_lets_it_go : (l : LoadedState) (offset : ℕ) (result : Result PassedPage Error) → ReaderPageGoes first offset marked_reader (record marked_reader { from = FromMemory l }) result → ⊥
its_pass_lets_it_go l offset result is = is.answers

pub at_its_end_it_stays : ReaderPassGoes first 15 15 marked_reader marked_reader (Ok (record { frames = Some 0; bytes = 0 }))
at_its_end_it_stays = (nothing, none_is_passed, refl, refl)

-- after an error the offset is where it was
pub it_moves_all_the_same : (t : ClosedSegmentState) (e : Error) → ReaderPassGoes first 0 15 marked_reader t (Err e) → ⊥
it_moves_all_the_same t e is = let same : ◌≡◌ {A = ℕ} 15 0 = is.0 in omega (arith, same)

-- ---- an opening

pub its_file_shows_it : IsDamagedAtOpening first 32 (Paged sealed)
its_file_shows_it = its_file_is_damaged

pub no_file_shows_it : (d : List ℕ → List ℕ) → IsDamagedAtOpening d 32 (Paged (record sealed { seal = none_seal d })) → ⊥
no_file_shows_it d is = no_file_is_damaged d is

abbrev log : LogState
log = record small { listing = record { first = 7; closed = by_pages sealed ∷ [] }; page_size = 32 }

pub it_is_listed_so : IsReaderIn log 7 reader
it_is_listed_so = record { number = refl; listed = refl; page_size = refl }

pub of_the_next_segment : IsReaderIn log 8 reader → ⊥
of_the_next_segment is = let same : ◌≡◌ {A = ℕ} 7 8 = is.number in omega (arith, same)

pub its_reader_opens : OpenReaderGoes first log 7 (Ok reader)
its_reader_opens = it_is_listed_so

-- a closed segment can be read, whether or not the log is closed
pub the_log_is_closed : (d : List ℕ → List ℕ) → OpenReaderGoes d log 7 (Err errors.Closed) → ⊥
the_log_is_closed d is = is
