use Rattle.std.proofs.Common.{◌≡◌, ◌*◌, ℕ, take, map}
use Rattle.paged_read.proofs.fetch.fetch.Given as goal

abbrev pub invariant-loop-page : goal.invariant-loop-page
invariant-loop-page g l = l.ranges.items ≡ map (λ (page : ℕ). (page * l.size, l.size)) (take l.page-index l.pages)
