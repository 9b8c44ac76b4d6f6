-- A read of a closed segment by its pages: what each of these definitions holds of, and what it
-- refuses, of the segment 7 that `ReadingExamples` has, which held "abc".
use Rattle.std.specs.Prelude.{◌≡◌, ◌⊎◌, ◌<◌, ℕ, suc, List, [], ◌∷◌, length, false, true, Option, Some, None, Result, Ok, Err}
use Rattle.std.proofs.Common.{refl, ap, inl, inr, arith, length-append, lit<, lit≤}
use Rattle.page.specs.Sums.{add_sum}
use Rattle.journal.specs.declared.frame.Found.{Found}
use Rattle.page_digests.specs.Contents.{PagedState}
use Rattle.page_digests.specs.Rebuilds.{RebuildGoes}
use Rattle.page_digests.specs.Sources.{SourceRead, gave}
use Rattle.page_digests.specs.declared.error.Error as pages
use Rattle.page_digests.specs.declared.error.Error.TheVariants as causes
use Rattle.page_digests.specs.declared.levels.Levels.{Levels}
use Rattle.page_digests.specs.declared.seal.Seal.{Seal}
use Rattle.page_digests.proofs.ContentExamples.{damaged, its_page_is_wrong, opened, read}
use Rattle.page_digests.proofs.PageExamples.{first}
use Rattle.page_digests.proofs.RebuildExamples.{xyz_has_another_root}
use Rattle.page_digests.proofs.SealExamples.{its_seal, xyz}
use Rattle.segments.specs.declared.error.Error.{Error}
use Rattle.segments.specs.declared.error.Error.TheVariants as errors
use Rattle.segments.specs.PagedReads.{HasFailedRebuild, HasFailedSince, IsDamage, IsRebuilt, IsSettling, IsToldAs, PagedSegmentState, ReadsGoOn, SearchFails, SegmentFails, SegmentFailsSo, SegmentNthGoes, SegmentReadAnswers, SegmentReadGoes, SettlesGoes}
use Rattle.segments.specs.PagedFrames.{FrameFails}
use Rattle.segments.specs.Seeks.{CountFails}
use Rattle.segments.proofs.PagedFrameExamples.{it_is_its_frame, it_is_read, its_frame, its_page_is_another, none_is_before_its_end}
use Rattle.segments.proofs.ReadingExamples.{in_pages}
use Rattle.segments.proofs.SegmentReads.{content_same, frame_was_read, not_built}

-- ---- reads

pub xyz_was_read_since : ReadsGoOn [] (gave 0 xyz ∷ [])
xyz_was_read_since = (gave 0 xyz ∷ [], refl)

-- reads aren't taken back
pub it_was_taken_back : ReadsGoOn (gave 0 xyz ∷ []) [] → ⊥
it_was_taken_back (more, same) = let none : ◌≡◌ {A = ℕ} 0 (suc (length more)) = ap length same in omega (arith, none)

pub damage_settles : IsSettling {T = ℕ} (Err causes.Damaged)
damage_settles = tt

-- another try may help
pub a_refusal_settles : IsSettling {T = ℕ} (Err causes.OutOfMemory) → ⊥
a_refusal_settles is = is

-- ---- a rebuild

-- all of the file was read, which has "xyz"
abbrev xyz_read : PagedState
xyz_read = record opened { reads = gave 0 xyz ∷ [] }

pub it_was_rebuilt : IsRebuilt first opened xyz_read
it_was_rebuilt = record {
  before = [];
  after = gave 0 xyz ∷ [];
  answered = Err causes.Damaged;
  since = ([], refl);
  goes = xyz_has_another_root;
  settles = tt;
  until = ([], refl);
}

-- its page was to be read
reads_it : (before after : List SourceRead) (answered : Result Levels pages.Error) → RebuildGoes first 32 its_seal before after answered → IsSettling answered → length before < length after
reads_it before after (Ok levels) (bytes, gives, root, are) settles = let more = simp length-append at (ap length gives.reads) in omega (arith, more)
reads_it before after (Err causes.Damaged) (bytes, gives, differ) settles = let more = simp length-append at (ap length gives.reads) in omega (arith, more)
reads_it before after (Err (causes.System e)) (i, within, (more, same)) settles = let longer = simp length-append at (ap length same) in omega (arith, longer)
reads_it before after (Err causes.OutOfMemory) goes settles = absurd settles

-- nothing was read
pub without_a_read : IsRebuilt first opened opened → ⊥
without_a_read is =
    let some = reads_it is.before is.after is.answered is.goes is.settles in
    let all = simp length-append at (ap length is.until.1) in
    omega (arith, some, all)

pub it_can_not_be_rebuilt : HasFailedRebuild first opened xyz_read causes.Damaged
it_can_not_be_rebuilt = record { before = []; after = gave 0 xyz ∷ []; since = ([], refl); fails = xyz_has_another_root; until = ([], refl) }

pub it_was_not_tried : HasFailedRebuild first opened opened causes.Damaged → ⊥
it_was_not_tried is =
    let some = reads_it is.before is.after (Err causes.Damaged) is.fails tt in
    let all = simp length-append at (ap length is.until.1) in
    omega (arith, some, all)

abbrev after_xyz : PagedSegmentState
after_xyz = record in_pages { content = xyz_read; is_settled = true }

pub it_is_settled : SettlesGoes first in_pages after_xyz (Err causes.Damaged)
it_is_settled = not_built first in_pages (gave 0 xyz ∷ []) true causes.Damaged xyz_has_another_root (λ is. tt, λ is. refl)

pub it_is_not_settled : SettlesGoes first in_pages in_pages (Ok tt) → ⊥
it_is_not_settled is = cc (is.settled.1 tt)

-- ---- a frame

pub its_frame_failed : HasFailedSince first (FrameFails first 0) opened damaged causes.Damaged
its_frame_failed = record { old = opened; since = inl (content_same opened); of = refl; page_size = refl; fails = its_page_is_another }

-- at the end there is none that could fail
pub none_failed : (d : List ℕ → List ℕ) (t : PagedState) (e : pages.Error) → HasFailedSince d (FrameFails d 3) opened t e → ⊥
none_failed d t e is = omega (arith, is.fails.begins, ap (λ (s : Seal). s.len) is.of)

pub it_fails : SegmentFails first 0 in_pages (record in_pages { content = damaged; is_settled = true }) (errors.Damaged 7)
it_fails = record { cause = causes.Damaged; fails = inl its_frame_failed; told = refl; settled = λ is. refl }

too_early : (cause : pages.Error) → IsToldAs 7 cause (errors.Damaged 7) → (IsDamage cause → false ≡ true) → ⊥
too_early causes.Damaged told settled = cc (settled tt)
too_early (causes.System x) (inl told) settled = cc (settled told.0)
too_early (causes.System x) (inr told) settled = cc told.1
too_early causes.OutOfMemory told settled = cc told

-- no rebuild was tried
pub it_fails_too_early : SegmentFails first 0 in_pages (record in_pages { content = damaged }) (errors.Damaged 7) → ⊥
it_fails_too_early is = too_early is.cause is.told is.settled

-- ---- a search

-- the length of a frame can't be read, at the begin
pub its_length_is_lost : CountFails first 0 opened damaged causes.Damaged
its_length_is_lost = (0, lit≤ tt, (0, (lit< tt, lit< tt), its_page_is_wrong))

abbrev pub damaged_segment : PagedSegmentState
damaged_segment = record in_pages { content = damaged; is_settled = true }

pub it_fails_so : SegmentFailsSo first (CountFails first 0) in_pages damaged_segment (errors.Damaged 7)
it_fails_so = record { cause = causes.Damaged; fails = inl (record { old = opened; since = inl (content_same opened); of = refl; page_size = refl; fails = its_length_is_lost }); told = refl; settled = λ is. refl }

-- no rebuild was tried
pub it_fails_so_too_early : SegmentFailsSo first (CountFails first 0) in_pages (record in_pages { content = damaged }) (errors.Damaged 7) → ⊥
it_fails_so_too_early is = too_early is.cause is.told is.settled

pub its_search_fails : SearchFails first in_pages damaged_segment (errors.Damaged 7)
its_search_fails = it_fails_so

-- damage is never told of another segment
pub told_of : (cause : pages.Error) → IsToldAs 7 cause (errors.Damaged 8) → ⊥
told_of causes.Damaged told = cc told
told_of (causes.System x) (inl told) = cc told.1
told_of (causes.System x) (inr told) = cc told.1
told_of causes.OutOfMemory told = cc told

pub another_is_told : (t : PagedSegmentState) → SearchFails first in_pages t (errors.Damaged 8) → ⊥
another_is_told t is = told_of is.cause is.told

-- its levels are settled by a rebuild alone
pub a_search_settles : (result : Result (Option ℕ) Error) → SegmentNthGoes first 0 in_pages (record in_pages { is_settled = true }) result → ⊥
a_search_settles result is = elim (is.rebuilt refl) [
  | inl before ↦ cc before
  | inr anew ↦ without_a_read anew
]

pub its_answer_is_read : SegmentReadAnswers first add_sum 0 in_pages (record in_pages { content = read }) (Ok (Some its_frame))
its_answer_is_read = it_is_its_frame add_sum

pub it_ends_too_early : (own : List ℕ → ℕ) (t : PagedSegmentState) → SegmentReadAnswers first own 2 in_pages t (Ok None) → ⊥
it_ends_too_early own t is = none_is_before_its_end own is

pub it_was_read_by_its_page : SegmentReadGoes first add_sum 0 in_pages (record in_pages { content = read }) (Ok (Some its_frame))
it_was_read_by_its_page = frame_was_read first add_sum 0 in_pages read (Some its_frame) (it_is_read add_sum)

-- it counts as settled, and nothing was read
pub it_is_called_settled : (own : List ℕ → ℕ) (result : Result (Option Found) Error) → SegmentReadGoes first own 0 in_pages (record in_pages { is_settled = true }) result → ⊥
it_is_called_settled own result is = by_case (is.rebuilt refl)
  where
    by_case : (false ≡ true) ⊎ IsRebuilt first opened opened → ⊥
    by_case (inl before) = cc before
    by_case (inr anew) = without_a_read anew
