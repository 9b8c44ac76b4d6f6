use Rattle.std.proofs.Common.{◌<◌, ◌+◌, ◌^◌, length}
use Rattle.std.specs.List.{sum}
use Rattle.protocol.specs.Together.{lengths_in}
use Rattle.protocol.proofs.Lengths.{Writing}
use Rattle.protocol.proofs.together.write_starts.Given as goal

abbrev pub invariant-loop-length : goal.invariant-loop-length
invariant-loop-length g l = record {
  writing : Writing l.fn.first l.lengths l.at l.rest (g.W.Write.contents l.fn.out) (g.W.Write.contents l.out);
  small : l.at + sum (lengths_in l.rest) < 2 ^ 64;
}

abbrev pub decreases-loop-length : goal.decreases-loop-length
decreases-loop-length g l = length l.rest
