use Rattle.std.proofs.Common.{◌≡◌, take, sum_by}
use Rattle.disk.specs.Disk.{Disk}
use Rattle.paged_read.specs.Tail.{tail_at, logical_bytes, CanRead}
use Rattle.paged_read.specs.Ranges.{missed_from, HasServed}
use Rattle.paged_read.proofs.view.View.try_each.Given as goal

abbrev pub invariant-loop-index : goal.invariant-loop-index
invariant-loop-index g l =
    let t = tail_at l.self.page_size l.self.id l.self.tip.now in
    let ranges = take l.index l.ranges in
    record {
      buf_offset : l.buf_offset ≡ sum_by (λ range. range.1) ranges;
      missed : l.missed.items ≡ missed_from 0 l.cache t ranges;
      served : (d : Disk) → CanRead t l.cache d → HasServed l.cache t ranges (logical_bytes t d.readable) (take l.buf_offset l.buf);
    }
