use Rattle.std.proofs.Common.{◌≡◌, ◌≤◌, ◌+◌, ◌-◌, ◌++◌, length, drop}
use Rattle.journal.specs.Frame.{records, whole_frames}
use Rattle.journal.proofs.walk.records_of.Given as goal

abbrev pub invariant-loop-offset : goal.invariant-loop-offset
invariant-loop-offset g l =
    let held = l.fn.content.bytes in
    let own = g.R.Sum.sum_of in
    record {
      rest : l.content.bytes ≡ drop l.offset held;
      found : l.found.items ++ records own (drop l.offset held) ≡ records own held;
      whole : l.offset + length (whole_frames (drop l.offset held)) ≡ length (whole_frames held);
      within : l.offset ≤ length held;
    }

abbrev pub decreases-loop-offset : goal.decreases-loop-offset
decreases-loop-offset g l = l.size - l.offset
