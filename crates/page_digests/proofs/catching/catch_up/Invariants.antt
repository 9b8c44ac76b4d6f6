use Rattle.std.proofs.Common.{◌≡◌}
use Rattle.page_digests.specs.Growing.{DigestsPayloads}
use Rattle.page_digests.proofs.catching.catch_up.Given as goal

abbrev pub invariant-loop-n : goal.invariant-loop-n
invariant-loop-n g l = (l.digesting.pages ≡ l.n) × DigestsPayloads g.D.Digest.digest_of l.page_size l.full l.physical l.fn.digesting l.digesting
