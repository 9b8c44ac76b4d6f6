use Rattle.std.proofs.Common.{◌≡◌, drop, length}
use Rattle.crc32c.specs.Crc.{after_bytes}
use Rattle.crc32c.proofs.tables.by_tables.Given as goal

-- the bytes that are left lead to the same state
abbrev pub invariant-loop-chunk : goal.invariant-loop-chunk
invariant-loop-chunk l = after_bytes l.state l.rest ≡ after_bytes l.fn.state l.bytes

abbrev pub decreases-loop-chunk : goal.decreases-loop-chunk
decreases-loop-chunk l = length l.rest

abbrev pub invariant-loop-byte : goal.invariant-loop-byte
invariant-loop-byte l = after_bytes l.state (drop l.byte-index l.byte-items) ≡ after_bytes l.fn.state l.bytes
