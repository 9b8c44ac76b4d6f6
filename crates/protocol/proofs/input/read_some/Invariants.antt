use Rattle.std.proofs.Common.{◌≤◌, length}
use Rattle.std.specs.Io.KnownBytes.{Consumes}
use Rattle.protocol.specs.Input.{AreBytes}
use Rattle.protocol.proofs.input.read_some.Given as goal

abbrev pub invariant-loop : goal.invariant-loop
invariant-loop g l = record {
  within : length l.bytes.items ≤ l.count;
  bytes : AreBytes l.bytes.items;
  takes : Consumes (g.R.Read.remaining l.initial.input) (g.R.Read.remaining l.input) l.bytes.items;
}
