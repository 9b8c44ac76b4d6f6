use Rattle.std.proofs.Common.{◌≡◌, take}
use Rattle.page_digests.proofs.past.ByteList.of.Given as goal

-- the bytes so far are listed
abbrev pub invariant-loop-byte : goal.invariant-loop-byte
invariant-loop-byte l = l.listed.value ≡ take l.byte-index l.bytes
