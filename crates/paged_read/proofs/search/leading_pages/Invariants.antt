use Rattle.std.specs.Int.NonZero.{non_zero_u16_get}
use Rattle.page.specs.Page.{pages}
use Rattle.paged_read.specs.Prefix.{prefix_of}
use Rattle.paged_read.proofs.Prefixes.{StandsAt}
use Rattle.paged_read.proofs.search.leading_pages.Given as goal

abbrev pub invariant-loop-page : goal.invariant-loop-page
invariant-loop-page g l =
    let sum = g.H.Sum.sum_of in
    let P = non_zero_u16_get l.page_size in
    StandsAt sum P (prefix_of sum P (pages P l.bytes)) l.count l.page l.bytes
