use Rattle.std.proofs.Common.{◌-◌, length}
use Rattle.page_digests.specs.PagedBytes.{IsCopying}
use Rattle.page_digests.proofs.paged_bytes.PagedBytes.read.Given as goal

abbrev pub decreases-loop-done : goal.decreases-loop-done
decreases-loop-done g l = length l.bytes - l.done

abbrev pub invariant-loop-done : goal.invariant-loop-done
invariant-loop-done g l = IsCopying g.D.Digest.digest_of l.at (length l.fn.bytes) l.fn.self l.self l.done l.bytes
