use Rattle.std.proofs.Common.{◌≡◌, ◌++◌, drop}
use Rattle.paged.specs.Flush.{TellsFirstPage, footers_of}
use Rattle.paged.proofs.build.footers_of.Given as goal

abbrev pub invariant-loop-page : goal.invariant-loop-page
invariant-loop-page g l = record {
  bytes : l.out.items ++ footers_of g.H.Sum.sum_of l.durable (drop l.page-index l.pages) ≡ footers_of g.H.Sum.sum_of l.initial.durable l.pages;
  known : TellsFirstPage g.H.Sum.sum_of l.known (drop l.page-index l.pages);
}
