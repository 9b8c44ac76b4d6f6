use Rattle.std.proofs.Common.{◌≡◌, ◌≤◌, length, take}
use Rattle.std.specs.Io.KnownBytes.{Consumes}
use Rattle.protocol.proofs.input.read_front.Given as goal

abbrev pub invariant-loop : goal.invariant-loop
invariant-loop g l = record {
  size : length l.room ≡ length l.initial.room;
  within : l.count ≤ length l.room;
  takes : Consumes (g.R.Read.remaining l.initial.input) (g.R.Read.remaining l.input) (take l.count l.room);
}
