use Rattle.std.proofs.Common.{◌≡◌, ◌-◌, drop}
use Rattle.paged_read.specs.Failures.{NoneFailed}
use Rattle.paged_read.specs.Tail.{logical_bytes, tail_size}
use Rattle.journal.specs.Frame.{records}
use Rattle.journal.specs.Reader.{OnlyLooks}
use Rattle.journal.proofs.Costs.{HasPassed}
use Rattle.journal.proofs.reader.find_record.Given as goal

abbrev pub invariant-frames : goal.invariant-frames
invariant-frames g l =
    let old = g.B.Blob.life l.fn.blob in
    let held = logical_bytes l.snapshot old.present.readable in
    record {
      looks : OnlyLooks g.H.Sum.sum_of l.snapshot l.fn.cache l.cache old (g.B.Blob.life l.blob);
      none_failed : NoneFailed old.present (g.B.Blob.life l.blob).present;
      so_far : records g.R.Sum.sum_of (drop l.fn.from held) ≡ records g.R.Sum.sum_of (drop l.offset held);
      passed : HasPassed g.R.Sum.sum_of l.snapshot held l.fn.from l.offset l.fn.cache l.cache old (g.B.Blob.life l.blob);
    }

abbrev pub decreases-frames : goal.decreases-frames
decreases-frames g l = tail_size l.snapshot - l.offset
