use Rattle.std.proofs.Common.{◌≡◌, ◌++◌, drop}
use Rattle.paged.specs.Flush.{TellsFirstPage, footers_of, with_footers}
use Rattle.paged.proofs.build.copied_pages.Given as goal

abbrev pub invariant-loop-page : goal.invariant-loop-page
invariant-loop-page g l =
    let sum = g.H.Sum.sum_of in
    let rest = drop l.page-index l.pages in
    record {
      bytes : l.out.items ++ with_footers rest (footers_of sum l.durable rest) ≡ with_footers l.pages (footers_of sum l.initial.durable l.pages);
      known : TellsFirstPage sum l.known rest;
    }
