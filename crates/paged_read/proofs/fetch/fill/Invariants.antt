use Rattle.std.proofs.Common.{◌≡◌, ℕ, List, take}
use Rattle.std.specs.Prelude.{All}
use Rattle.paged_read.specs.Parts.{with_told}
use Rattle.paged_read.specs.Batch.{IsTold, pieces_in}
use Rattle.paged_read.proofs.fetch.fill.Given as goal

abbrev pub invariant-loop-lack : goal.invariant-loop-lack
invariant-loop-lack l =
    (P : ℕ) (content : List ℕ) → All (IsTold P content l.at l.out) l.lacks → l.buf ≡ with_told P content (pieces_in (take l.lack-index l.lacks)) l.initial.buf
