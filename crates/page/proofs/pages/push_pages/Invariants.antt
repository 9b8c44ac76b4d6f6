use Rattle.std.proofs.Common.{◌≡◌, ◌*◌, ◌++◌, take}
use Rattle.std.specs.List.{concat}
use Rattle.page.specs.Tip.{ArePages}
use Rattle.page.proofs.pages.push_pages.Given as goal

abbrev pub invariant-loop-page : goal.invariant-loop-page
invariant-loop-page l = record {
  bytes : concat l.pages.items ≡ concat l.initial.pages.items ++ take (l.page * l.page_size) l.chunk;
  pages : ArePages l.page_size l.pages.items;
}
