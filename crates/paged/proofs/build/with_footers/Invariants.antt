use Rattle.std.proofs.Common.{◌≡◌, ◌+◌, ◌*◌, ◌++◌, length, drop}
use Rattle.std.specs.List.{concat}
use Rattle.std.specs.Vec.Iter.{into_iter_items}
use Rattle.paged.specs.Flush.{with_footers}
use Rattle.paged.proofs.build.with_footers.Given as goal

abbrev pub invariant-loop-page : goal.invariant-loop-page
invariant-loop-page l = record {
  left : length l.footers ≡ l.at + 12 * length (into_iter_items l.page-iterator);
  bytes : concat l.bufs ++ with_footers (into_iter_items l.page-iterator) (drop l.at l.footers) ≡ with_footers l.fn.pages.items l.footers;
}
