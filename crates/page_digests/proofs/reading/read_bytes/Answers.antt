use Rattle.page_digests.proofs.Filled.{filled}
use Rattle.page_digests.proofs.reading.read_bytes.Goals as goal

pub returns : goal.returns
returns g c =
    filled c.args.offset _ _ c.args.len _ _ c.fill.new.bytes _ c.fill.result c.fill.auto.bytes c.deref_mut.ensures.len c.in_ok-resize.ensures.len c.fill.ensures
