use Rattle.std.proofs.Common.{◌≡◌, ◌*◌, map, take}
use Rattle.std.specs.Int.NonZero.{non_zero_usize_get}
use Rattle.items.proofs.locate.offsets_of.Given as goal

abbrev pub invariant-loop-i : goal.invariant-loop-i
invariant-loop-i l = l.offsets.items ≡ map (λ i. i * non_zero_usize_get l.fn.size) (take l.i-index l.indices)
