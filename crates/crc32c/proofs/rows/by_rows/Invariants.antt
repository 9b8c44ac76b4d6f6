use Rattle.std.proofs.Common.{◌≡◌, ◌%◌, ◌<◌, ◌++◌, length}
use Rattle.std.specs.Int.Bits.{bit_xor}
use Rattle.crc32c.specs.Crc.{after_bytes}
use Rattle.crc32c.specs.Rows.{leaves}
use Rattle.crc32c.proofs.rows.by_rows.Given as goal

abbrev pub invariant-loop-rest : goal.invariant-loop-rest
invariant-loop-rest l = record {
  whole : length l.rest % 16 ≡ 0;
  tables : length l.rest < 640;
  same : bit_xor (leaves l.a l.b l.c l.d) (after_bytes 0 (l.row ++ l.rest)) ≡ after_bytes l.state l.bytes;
}

abbrev pub decreases-loop-rest : goal.decreases-loop-rest
decreases-loop-rest l = length l.rest
