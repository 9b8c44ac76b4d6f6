use Rattle.std.specs.List.{AllWithin}
use Rattle.page_digests.specs.HeldPages.{IsPageWith, PageState}
use Rattle.page_digests.proofs.held_pages.HeldPages.place_of.Given as goal

abbrev pub invariant-loop-place : goal.invariant-loop-place
invariant-loop-place g l = AllWithin (λ (p : PageState). IsPageWith l.digest l.len p → ⊥) l.self 0 l.place
