use Rattle.page_digests.specs.declared.held_pages.TheConstants.{HELD}
use Rattle.page_digests.proofs.Loading.{turned}
use Rattle.page_digests.proofs.paged_bytes.PagedBytes.turn_to.Goals as goal

pub returns : goal.returns
returns g c =
    turned HELD c.args.number c.args.digest.now c.args.len _ c.args.self.now c.put_away.new.self _ c.take-held.new.self c.in-Some.page c.into_bytes.result.items c.self.view_is
    c.in-Some.ensures c.in_ok-put_away.ensures c.self-2.view_is c.into_bytes.ensures.bytes
