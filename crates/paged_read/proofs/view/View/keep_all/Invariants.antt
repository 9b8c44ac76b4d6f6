use Rattle.std.proofs.Common.{◌≡◌, ℕ, ◌<◌, List, length, take, get_or}
use Rattle.disk.specs.Disk.{Life, Delivers}
use Rattle.page.specs.Page.{value_len}
use Rattle.paged_read.specs.Puts.{PutsPages, delivered_pages}
use Rattle.paged_read.specs.Tail.{tail_at, logical_bytes, CanRead}
use Rattle.paged_read.specs.Ranges.{page_ranges}
use Rattle.paged_read.specs.Batch.{AreMarked}
use Rattle.paged_read.proofs.view.View.keep_all.Given as goal

abbrev pub invariant-loop-index : goal.invariant-loop-index
invariant-loop-index g l =
    let t = tail_at l.self.page_size l.self.id l.self.tip.now in
    record {
      puts : (life : Life) → CanRead t l.initial.cache life.present → Delivers (page_ranges t.page_size l.pages) life.present.readable l.out → PutsPages t.id (logical_bytes t life.present.readable) (delivered_pages l.pages (take l.index l.out)) l.initial.cache l.cache;
      size : l.cache.page_size ≡ t.page_size;
      full : (k : ℕ) (d : ℕ × List ℕ) → k < l.index → value_len g.H.Sum.sum_of t.page_size (get_or l.out k d).1 ≡ t.page_size;
      marked : AreMarked l.at.items l.out l.index;
      long : length l.at.items ≡ length l.pages;
    }
