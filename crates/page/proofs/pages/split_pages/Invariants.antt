use Rattle.std.proofs.Common.{◌≡◌, take}
use Rattle.std.specs.List.{concat}
use Rattle.page.specs.Tip.{ArePages}
use Rattle.page.proofs.pages.split_pages.Given as goal

abbrev pub invariant-loop-chunk : goal.invariant-loop-chunk
invariant-loop-chunk l = record {
  bytes : concat l.pages.items ≡ concat (take l.chunk-index l.chunk-items);
  pages : ArePages l.page_size l.pages.items;
}
