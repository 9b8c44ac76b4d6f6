-- The levels of a segment: what each definition holds of, and what it refuses. The content is that of two frames, 15 bytes,
-- by pages of 4 bytes, or one page of 18. The digest of a string is its first 32 bytes, filled up with zeros, or the same
-- for all strings.
use Rattle.std.specs.Prelude.{◌≡◌, ◌*◌, ◌++◌, ℕ, List, [], ◌∷◌, length, drop, get_or, replicate, Ok, Err}
use Rattle.std.proofs.Common.{refl, ap, ap₂, sym, subst, arith, lit<, lit≤, ◌∙◌}
use Rattle.journal.specs.Frame.{record_len}
use Rattle.page_digests.specs.Growing.{DigestingState, DigestsPage}
use Rattle.page_digests.specs.Seals.{AreLevelsOf, AreLevelsOver, TellsApart}
use Rattle.page_digests.proofs.Growth.{page_taken}
use Rattle.page_digests.proofs.PageExamples.{first, flat}
use Rattle.segments.specs.Marks.{marks_of}
use Rattle.segments.specs.declared.segment_digesting.SegmentLevels.{SegmentLevels}
use Rattle.segments.specs.SegmentLevels.{AreSegmentLevels, FinishesSegment, GoesOnWith, IsSegmentDigested, SegmentDigestingState, TakesSegmentPage, levels_bytes, list_file_of}
use Rattle.segments.proofs.MarkExamples.{after_one, it_is_taken, its_front, none_is_marked, two_frames, unmarked}
use Rattle.segments.proofs.SegmentDigests.{goes_on, page_digests, page_marked}

-- ---- page by page

abbrev none_yet : SegmentDigestingState
none_yet = record { digested = record { pages = 0; list = [] }; marked = unmarked }

-- memory was refused for the digest of the first page
abbrev half : SegmentDigestingState
half = record none_yet { marked = after_one }

abbrev one : SegmentDigestingState
one = record { digested = record { pages = 1; list = first its_front }; marked = after_one }

-- its page was marked before that, and once more
abbrev twice : SegmentDigestingState
twice = record one { marked = record after_one { pages = 2; marks = replicate 16 0 } }

pub nothing_is_digested : (content : List ℕ) → IsSegmentDigested first 4 content none_yet
nothing_is_digested content = record { page_size = refl; digested = record { list = refl; within = omega arith }; marked = none_is_marked content; ahead = lit≤ tt }

-- a page that is digested is marked
pub without_its_mark : IsSegmentDigested first 4 two_frames (record one { marked = unmarked }) → ⊥
without_its_mark is = omega (arith, is.ahead)

its_digest : DigestsPage first its_front none_yet.digested one.digested
its_digest = page_taken first its_front none_yet.digested one.digested refl refl

pub marked_alone : GoesOnWith first its_front none_yet half
marked_alone = page_marked {E = ℕ} first its_front none_yet.digested unmarked after_one (Ok tt) (lit≤ tt) it_is_taken

pub digested_then : GoesOnWith first its_front half one
digested_then = page_digests first its_front half half one.digested (goes_on first its_front half) refl (λ few. lit≤ tt) refl its_digest

pub digested_at_once : GoesOnWith first its_front none_yet one
digested_at_once = page_digests first its_front none_yet half one.digested marked_alone refl (λ few. lit≤ tt) refl its_digest

half_is : IsSegmentDigested first 4 two_frames half
half_is = marked_alone 4 two_frames (nothing_is_digested two_frames) refl (lit≤ tt)

-- a page isn't marked again once its digest is made
pub marked_twice : GoesOnWith first its_front half twice → ⊥
unfolding record_len
marked_twice goes =
    let now = goes 4 two_frames half_is refl (lit≤ tt) in
    let same : ◌≡◌ {A = ℕ} 0 1 = ap (λ (l : List ℕ). get_or l 8 0) now.marked.marked.marks in
    omega (arith, same)

pub it_was_taken : TakesSegmentPage {E = ℕ} first its_front none_yet one (Ok tt)
it_was_taken = (refl, refl, digested_at_once)

-- not without its digest
pub it_was_not_digested : TakesSegmentPage {E = ℕ} first its_front none_yet half (Ok tt) → ⊥
it_was_not_digested takes = omega (arith, takes.0)

pub memory_was_refused : TakesSegmentPage {E = ℕ} first its_front none_yet half (Err 0)
memory_was_refused = (refl, refl, marked_alone)

-- then no page is counted
pub counted_all_the_same : TakesSegmentPage {E = ℕ} first its_front none_yet one (Err 0) → ⊥
counted_all_the_same takes = omega (arith, ap (λ (x : DigestingState). x.pages) takes.0)

-- ---- levels

-- no page of 18 bytes yet
abbrev wide : SegmentDigestingState
wide = record none_yet { marked = record unmarked { page_size = 18 } }

nothing_is_wide : (content : List ℕ) → IsSegmentDigested first 18 content wide
nothing_is_wide content = record {
  page_size = refl;
  digested = record { list = refl; within = omega arith };
  marked = record { within = omega arith; marked = record { marks = refl; before = refl; next = refl } };
  ahead = lit≤ tt;
}

module _ (l : SegmentLevels) where
  pub its_levels : AreLevelsOf first 18 two_frames l.content → AreLevelsOver first 18 (marks_of 18 two_frames) l.marks → AreSegmentLevels first 18 two_frames l
  its_levels are over = record { of = are; marks = over }

  -- its one page has a mark
  pub no_marks_of_it : l.marks.list.items ≡ [] → AreSegmentLevels first 18 two_frames l → ⊥
  no_marks_of_it is are = let few : ◌≡◌ {A = ℕ} 0 8 = ap length (sym is ∙ are.marks.list) in omega (arith, few)

  pub it_is_finished : AreSegmentLevels first 18 two_frames l → TellsApart first 18 two_frames l.content.root → FinishesSegment first two_frames wide l
  it_is_finished are apart = λ P content is rests short.
      let none : 0 * P ≡ 0 = omega arith in
      let all : two_frames ≡ content = rests ∙ ap (λ (k : ℕ). drop k content) none in (
        subst (λ (p : ℕ). AreSegmentLevels first p content l) is.page_size (subst (λ (c : List ℕ). AreSegmentLevels first 18 c l) all are),
        λ bytes. subst (λ (p : ℕ). TellsApart first p content l.content.root) is.page_size (subst (λ (c : List ℕ). TellsApart first 18 c l.content.root) all apart),
      )

  -- not without marks
  pub not_without_marks : l.marks.list.items ≡ [] → FinishesSegment first two_frames wide l → ⊥
  not_without_marks is finishes = no_marks_of_it is (finishes 18 two_frames (nothing_is_wide two_frames) refl (lit< tt)).0

  pub its_bytes : levels_bytes l ≡ l.content.list.items ++ l.content.top.items ++ l.marks.list.items ++ l.marks.top.items
  its_bytes = refl

  -- the marks are among the bytes
  pub without_the_marks : l.content.list.items ≡ [] → l.content.top.items ≡ [] → l.marks.list.items ≡ 7 ∷ [] → levels_bytes l ≡ [] → ⊥
  without_the_marks list top marks is =
      let all : levels_bytes l ≡ 7 ∷ l.marks.top.items =
      ap (λ (a : List ℕ). a ++ l.marks.top.items) (ap₂ (λ (a b : List ℕ). a ++ b) (ap₂ (λ (a b : List ℕ). a ++ b) list top) marks) in
      omega (arith, ap length (sym is ∙ all))

pub its_file : list_file_of flat 18 two_frames ≡ flat [] ++ (flat [] ++ flat []) ++ replicate 8 0 ++ flat []
its_file = refl

pub not_the_list_and_the_top : list_file_of flat 18 two_frames ≡ flat [] ++ (flat [] ++ flat []) → ⊥
not_the_list_and_the_top is = omega (arith, ap length is)
