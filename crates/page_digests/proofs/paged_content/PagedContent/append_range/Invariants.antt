use Rattle.std.proofs.Common.{◌-◌}
use Rattle.page_digests.specs.Steps.{IsAppending}
use Rattle.page_digests.proofs.paged_content.PagedContent.append_range.Given as goal

abbrev pub decreases-loop-done : goal.decreases-loop-done
decreases-loop-done g l = l.len - l.done

abbrev pub invariant-loop-done : goal.invariant-loop-done
invariant-loop-done g l = IsAppending g.D.Digest.digest_of l.offset l.len l.fn.self l.self l.done l.fn.bytes.items l.bytes.items
