use Rattle.std.proofs.Common.{◌≡◌, ◌+◌, ◌-◌, ◌^◌, min, sum_by, take}
use Rattle.disk.proofs.counted.with_lengths.Given as goal

-- the lengths so far are added
abbrev pub invariant-loop-len : goal.invariant-loop-len
invariant-loop-len l = l.sum ≡ min (l.count + sum_by (λ r. r.1) (take l.len-index l.ranges)) (2 ^ 64 - 1)
