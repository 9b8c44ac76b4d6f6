use Rattle.std.proofs.Common.{◌≡◌, ℕ, List}
use Rattle.page_digests.specs.Pages.{digests}
use Rattle.page_digests.specs.Rebuilds.{GivesPages}
use Rattle.page_digests.proofs.rebuilding.read_list.Given as goal

-- the pages so far gave some bytes, whose digests are in the list
abbrev pub invariant-loop-i : goal.invariant-loop-i
invariant-loop-i g l = (bytes : List ℕ) × GivesPages l.page_size l.len (g.F.Source.reads l.fn.file) (g.F.Source.reads l.file) l.i bytes
    × (l.list.items ≡ digests g.D.Digest.digest_of l.page_size bytes l.i)
