use Rattle.std.proofs.Common.{◌*◌, drop}
use Rattle.digest.proofs.Sums.{IsSummed}
use Rattle.digest.proofs.poly.with_words.Given as goal

abbrev pub invariant-loop-k : goal.invariant-loop-k
invariant-loop-k l = IsSummed l.total (drop l.first l.table) l.bytes (8 * l.k) l.sum

abbrev pub invariant-loop-i : goal.invariant-loop-i
invariant-loop-i l = IsSummed l.total (drop l.first l.table) l.bytes l.i l.sum

abbrev pub invariant-others : goal.invariant-others
invariant-others l = IsSummed l.total (drop l.first l.table) l.bytes l.i l.sum
