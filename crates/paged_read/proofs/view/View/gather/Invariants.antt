use Rattle.std.proofs.Common.{◌≡◌, ◌≤◌, take, sum_by}
use Rattle.paged_read.specs.Tail.{tail_at}
use Rattle.paged_read.specs.Ranges.{served_ranges}
use Rattle.paged_read.specs.Batch.{Gathered}
use Rattle.paged_read.proofs.view.View.gather.Given as goal

abbrev pub invariant-loop-offset : goal.invariant-loop-offset
invariant-loop-offset g l =
    let t = tail_at l.self.page_size l.self.id l.self.tip.now in
    let ranges = take l.offset-index l.ranges in
    record {
      buf_offset : l.buf_offset ≡ sum_by (λ range. range.1) ranges;
      gathered : Gathered l.cache t ranges l.buf_offset l.batch.pages.items l.batch.lacks.items l.buf;
      served : l.batch.served ≡ served_ranges l.cache t ranges;
      few : l.batch.served ≤ l.offset-index;
    }
