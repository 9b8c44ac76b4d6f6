use Rattle.std.proofs.Common.{◌≡◌, ◌≤◌, ◌<◌, ◌+◌, ◌^◌, length, drop}
use Rattle.paged_read.specs.Hand.{payloads_at, IsCursor}
use Rattle.paged_read.proofs.hand.Cursor.passed.Given as goal

abbrev pub invariant-loop-at : goal.invariant-loop-at
invariant-loop-at l =
    let P = l.page_size in
    let all = l.runs.items in
    let from = l.initial.at in
    record {
      run : l.at.run ≤ length all;
      cursor : IsCursor (drop l.at.run all) l.at.start l.at.left;
      fits : l.at.start + l.at.left < 2 ^ 64;
      there : l.more ≤ length (payloads_at P all l.at.run l.at.start l.at.left);
      bytes : drop l.more (payloads_at P all l.at.run l.at.start l.at.left)
          ≡ drop l.initial.more (payloads_at P all from.run from.start from.left);
    }

abbrev pub decreases-loop-at : goal.decreases-loop-at
decreases-loop-at l = l.more
