use Rattle.std.proofs.Common.{◌≡◌, ◌≤◌, ◌-◌, length, drop, take}
use Rattle.paged_read.proofs.hand.Hand.try_copy_to_slice.Given as goal

abbrev pub invariant-loop-done : goal.invariant-loop-done
invariant-loop-done l = record {
  page_size : l.self.page_size ≡ l.initial.self.page_size;
  size : length l.out ≡ length l.initial.out;
  within : l.done ≤ length l.out;
  enough : length l.out ≤ length l.initial.self.bytes;
  rest : l.self.bytes ≡ drop l.done l.initial.self.bytes;
  copied : take l.done l.out ≡ take l.done l.initial.self.bytes;
}

abbrev pub decreases-loop-done : goal.decreases-loop-done
decreases-loop-done l = length l.initial.out - l.done
