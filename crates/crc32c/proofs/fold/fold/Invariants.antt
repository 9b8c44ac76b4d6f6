use Rattle.std.proofs.Common.{◌≡◌, ◌+◌, ◌%◌, ◌≤◌, length}
use lib.Lanes.{chunk}
use Rattle.crc32c.specs.Crc.{after_bytes}
use Rattle.crc32c.specs.Division.{remaining, far}
use Rattle.crc32c.proofs.fold.fold.Given as goal

abbrev pub invariant-loop-rest : goal.invariant-loop-rest
invariant-loop-rest l = record {
  lanes : length l.rest % 32 ≡ 0;
  long : 320 ≤ length l.rest;
  within : l.at ≤ 2048;
  room : length l.quotient ≡ 2658;
  same : after_bytes 0 (remaining far (chunk l.at 290 l.quotient) l.rest) ≡ after_bytes l.fn.state l.bytes;
}

abbrev pub decreases-loop-rest : goal.decreases-loop-rest
decreases-loop-rest l = length l.rest

-- at most three steps more
abbrev pub invariant-loop-rest-2 : goal.invariant-loop-rest-2
invariant-loop-rest-2 l = record {
  lanes : length l.rest % 32 ≡ 0;
  long : 320 ≤ length l.rest;
  within : l.at + length l.rest ≤ 2368;
  room : length l.quotient ≡ 2658;
  same : after_bytes 0 (remaining far (chunk l.at 290 l.quotient) l.rest) ≡ after_bytes l.fn.state l.bytes;
}

abbrev pub decreases-loop-rest-2 : goal.decreases-loop-rest-2
decreases-loop-rest-2 l = length l.rest
