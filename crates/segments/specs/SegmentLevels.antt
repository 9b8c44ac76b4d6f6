-- The levels of a segment: those of its content, and those of its marks.
use Rattle.std.specs.Prelude.{◌≡◌, ◌≤◌, ◌<◌, ◌*◌, ◌+◌, ◌++◌, ℕ, List, length, drop, Result, Ok, Err}
use Rattle.page_digests.specs.Growing.{DigestingState, IsDigested}
use Rattle.page_digests.specs.Pages.{content_page, list_of, top_of}
use Rattle.page_digests.specs.Seals.{AreLevelsOf, AreLevelsOver, EachIsByte, TellsApart}
use Rattle.segments.specs.Marks.{marks_of}
use Rattle.segments.specs.Marking.{IsMarked, MarkingState}
use Rattle.segments.specs.declared.segment_digesting.SegmentLevels.{SegmentLevels}

-- how far a content is digested, and how far it is marked
pub record SegmentDigestingState : Type 0 where
  pub digested : DigestingState
  pub marked : MarkingState

-- the first pages of a content are digested, each a whole one, and each of these is marked; more
-- pages may be marked
pub record IsSegmentDigested (d : List ℕ → List ℕ) (P : ℕ) (content : List ℕ)
    (s : SegmentDigestingState) : Type 0 where
  pub page_size : s.marked.page_size ≡ P
  pub digested : IsDigested d P content s.digested
  pub marked : IsMarked content s.marked
  pub ahead : s.digested.pages ≤ s.marked.pages

-- whatever content is digested and marked so far, and whose next page this is, a whole one: it is
-- so then
abbrev pub GoesOnWith : (d : List ℕ → List ℕ) → (page : List ℕ) → (s t : SegmentDigestingState)
    → Type 0
GoesOnWith d page s t = (P : ℕ) (content : List ℕ) → IsSegmentDigested d P content s
    → page ≡ content_page P s.digested.pages content
    → s.digested.pages * P + P ≤ length content → IsSegmentDigested d P content t

-- a page is taken, by the answer. After an error no page more is digested, and this one may be
-- marked
abbrev pub TakesSegmentPage : {E : Type 0} → (d : List ℕ → List ℕ) → (page : List ℕ)
    → (s t : SegmentDigestingState) → Result (Unit {0}) E → Type 0
TakesSegmentPage d page s t (Ok _) = (t.digested.pages ≡ s.digested.pages + 1)
    × (t.marked.page_size ≡ s.marked.page_size) × GoesOnWith d page s t
TakesSegmentPage d page s t (Err _) = (t.digested ≡ s.digested)
    × (t.marked.page_size ≡ s.marked.page_size) × GoesOnWith d page s t

-- the levels of a segment with this content: those of the content, and those over its marks
pub record AreSegmentLevels (d : List ℕ → List ℕ) (P : ℕ) (content : List ℕ)
    (l : SegmentLevels) : Type 0 where
  pub of : AreLevelsOf d P content l.content
  pub marks : AreLevelsOver d P (marks_of P content) l.marks

-- whatever content is digested and marked so far except for this rest, which is shorter than a
-- page: these are its levels, and no other content has their root, unless a second preimage is at
-- hand
abbrev pub FinishesSegment : (d : List ℕ → List ℕ) → (rest : List ℕ) → SegmentDigestingState
    → SegmentLevels → Type 0
FinishesSegment d rest s l = (P : ℕ) (content : List ℕ) → IsSegmentDigested d P content s
    → rest ≡ drop (s.digested.pages * P) content → length rest < P
    → AreSegmentLevels d P content l
    × (EachIsByte content → TellsApart d P content l.content.root)

-- the bytes of the list's file with these levels: the content's list and its top, the marks, and
-- the digests of their pages
abbrev pub levels_bytes : SegmentLevels → List ℕ
levels_bytes l =
    l.content.list.items ++ l.content.top.items ++ l.marks.list.items ++ l.marks.top.items

-- the bytes of the list's file of a segment with this content
abbrev pub list_file_of : (d : List ℕ → List ℕ) → (P : ℕ) → List ℕ → List ℕ
list_file_of d P content = list_of d P content ++ top_of d P content
    ++ marks_of P content ++ list_of d P (marks_of P content)
