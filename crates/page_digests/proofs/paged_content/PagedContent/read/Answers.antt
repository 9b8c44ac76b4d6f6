use Rattle.page_digests.proofs.ContentReads.{range_read}
use Rattle.page_digests.proofs.paged_content.PagedContent.read.Goals as goal

pub returns : goal.returns
returns g c =
    range_read g.D.Digest.digest_of c.args.offset c.args.len c.args.self.now c.append_range.new.self _ c.append_range.new.bytes c.in_ok-bytes.ensures.items c.in_ok-append_range.ensures
