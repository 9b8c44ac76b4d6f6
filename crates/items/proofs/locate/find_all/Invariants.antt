use Rattle.std.proofs.Common.{take}
use Rattle.std.specs.Prelude.{All}
use Rattle.std.specs.Int.NonZero.{non_zero_usize_get}
use Rattle.items.specs.Calls.{IsThere}
use Rattle.items.proofs.locate.find_all.Given as goal

abbrev pub invariant-loop-i : goal.invariant-loop-i
invariant-loop-i l = All (IsThere (non_zero_usize_get l.size) l.count) (take l.i-index l.indices)
