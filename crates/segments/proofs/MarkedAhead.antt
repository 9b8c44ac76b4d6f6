-- Pages of a content that grows, which are marked ahead. What the marks of its first pages are says
-- nothing of the byte behind them, so it is kept of whatever the content goes on to: an append
-- keeps it.
use Rattle.std.proofs.Common.{◌≡◌, ◌≤◌, ◌*◌, ◌++◌, ◌∙◌, ℕ, suc, List, [], length, drop, append-nil, sym, subst}
use Rattle.std.specs.Prelude.{Ok}
use Rattle.std.proofs.lemmas.List.{append_assoc}
use Rattle.page_digests.specs.Pages.{content_page}
use Rattle.page_digests.proofs.Growth.{page-grown}
use Rattle.segments.specs.Marks.{marks_of}
use Rattle.segments.specs.Marking.{FinishesMarks, IsMarked, MarkingState, TakesMarkedPage}

-- more is appended
pub ahead_grown : (content more : List ℕ) (s : MarkingState) → ((rest : List ℕ) → IsMarked (content ++ rest) s) → (rest : List ℕ) → IsMarked ((content ++ more) ++ rest) s
ahead_grown content more s ahead rest = subst (λ (c : List ℕ). IsMarked c s) (sym (append_assoc content more rest)) (ahead (more ++ rest))

-- the next page is taken, which is whole
pub ahead_taken : (E : Type 0) (content page : List ℕ) (s t : MarkingState) → suc s.pages * s.page_size ≤ length content → page ≡ content_page s.page_size s.pages content
    → ((rest : List ℕ) → IsMarked (content ++ rest) s) → TakesMarkedPage {E = E} page s t (Ok tt) → (rest : List ℕ) → IsMarked (content ++ rest) t
ahead_taken E content page s t within is ahead takes rest =
    takes.2 (content ++ rest) (ahead rest) (is ∙ sym (page-grown s.page_size content rest s.pages within))

-- the content ends
pub ahead_finished : (content rest bytes : List ℕ) (s : MarkingState) → rest ≡ drop (s.pages * s.page_size) content → ((more : List ℕ) → IsMarked (content ++ more) s) → FinishesMarks rest s bytes
    → bytes ≡ marks_of s.page_size content
ahead_finished content rest bytes s is ahead finishes = finishes content (subst (λ (c : List ℕ). IsMarked c s) (append-nil content) (ahead [])) is
