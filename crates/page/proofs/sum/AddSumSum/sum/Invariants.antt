use Rattle.std.proofs.Common.{◌≡◌, ◌^◌, ◌%◌, sum, take}
use Rattle.page.proofs.sum.AddSumSum.sum.Given as goal

abbrev pub invariant-loop-byte : goal.invariant-loop-byte
invariant-loop-byte l = l.total ≡ sum (take l.byte-index l.bytes) % 2 ^ 32
