use Rattle.std.proofs.Common.{◌≡◌}
use Rattle.page_digests.specs.Pages.{digests}
use Rattle.page_digests.proofs.pages.list_of.Given as goal

abbrev pub invariant-loop-i : goal.invariant-loop-i
invariant-loop-i g l = l.list.items ≡ digests g.D.Digest.digest_of l.page_size l.bytes l.i
