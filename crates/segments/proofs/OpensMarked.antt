-- A closed segment gets its marks as it is opened.
use Rattle.std.specs.Prelude.{◌≡◌, ◌<◌, ◌^◌, ℕ, List, IfSome, Option, Some, None, Result, Ok, Err}
use Rattle.std.proofs.Common.{refl, sym, ◌∙◌, ap, subst}
use Rattle.page_digests.specs.Sources.{SourceRead}
use Rattle.page_digests.specs.declared.paged_bytes.UnopenedBytes.{UnopenedBytes}
use Rattle.page_digests.specs.declared.seal.Seal.{Seal}
use Rattle.segments.specs.declared.error.Error.{Error}
use Rattle.segments.specs.MarkReads.{MarksState}
use Rattle.segments.specs.PagedReads.{HasOpenedMarks, MarksPaged, OpensPaged, PagedSegmentState, TakesMarks}

pub opens_marked : {S E : Type 0} (d : List ℕ → List ℕ) (reads : S → List SourceRead) (root : List ℕ) (file : Result S E) (s p : PagedSegmentState) (u : Option (UnopenedBytes (List SourceRead))) → TakesMarks d reads root file s (Ok (p, u)) → MarksPaged s (Ok p)
opens_marked d reads root file s p u takes = record {
  number = ap (λ (q : PagedSegmentState). q.number) takes.rest;
  of = ap (λ (q : PagedSegmentState). q.content.seal) takes.rest;
  page_size = ap (λ (q : PagedSegmentState). q.content.page_size) takes.rest;
}

pub has_root : {S E : Type 0} (d : List ℕ → List ℕ) (reads : S → List SourceRead) (root : List ℕ) (file : Result S E) (s p : PagedSegmentState) (u : Option (UnopenedBytes (List SourceRead))) (k : Option (List ℕ)) → k ≡ Some root
    → TakesMarks d reads root file s (Ok (p, u)) → p.marks_root ≡ k
has_root d reads root file s p u k is takes = ap (λ (q : PagedSegmentState). q.marks_root) takes.rest ∙ sym is

-- marks that were opened are of this content, with this root
pub they_are_of : {S E : Type 0} (d : List ℕ → List ℕ) (reads : S → List SourceRead) (P count : ℕ) (root : List ℕ) (file : Result S E) (k : Option MarksState) (u : Option (UnopenedBytes (List SourceRead))) → HasOpenedMarks d reads P count root file k u
    → IfSome k (λ m. (m.len ≡ count) × (m.root ≡ root) × (m.bytes.page_size ≡ P))
they_are_of d reads P count root (Ok f) (Some m) None is = (is.len, is.root, is.bytes.page_size)
they_are_of d reads P count root (Ok f) (Some m) (Some u) is = absurd is
they_are_of d reads P count root (Err e) (Some m) None is = absurd is
they_are_of d reads P count root (Err e) (Some m) (Some u) is = absurd is
they_are_of d reads P count root file None u is = tt

-- what was opened has its marks
pub opens_so : (d : List ℕ → List ℕ) (P number : ℕ) (seal : Seal) (s : PagedSegmentState) (r : Result PagedSegmentState Error) → OpensPaged d P seal number (Ok s) → MarksPaged s r → OpensPaged d P seal number r
opens_so d P number seal s (Ok p) is marks = record { number = marks.number ∙ is.number; of = marks.of ∙ is.of; page_size = marks.page_size ∙ is.page_size }
opens_so d P number seal s (Err e) is marks = subst (λ (x : Error). OpensPaged d P seal number (Err x)) (sym marks) refl

pub opens_within : (d : List ℕ → List ℕ) (P number : ℕ) (seal : Seal) (s : PagedSegmentState) → seal.len < 2 ^ 50 → OpensPaged d P seal number (Ok s) → s.content.seal.len < 2 ^ 50
opens_within d P number seal s limit is = subst (λ (l : Seal). l.len < 2 ^ 50) (sym is.of) limit

pub opens_paged : (d : List ℕ → List ℕ) (P number : ℕ) (seal : Seal) (s : PagedSegmentState) → OpensPaged d P seal number (Ok s) → s.content.page_size ≡ P
opens_paged d P number seal s is = is.page_size
