use Rattle.paged_read.specs.Tail.{tail_at}
use Rattle.paged_read.proofs.BelowReads.{cached_tries}
use Rattle.paged_read.proofs.view.View.copy_held.Goals as goal

pub returns-clause-tries : goal.returns-clause-tries
returns-clause-tries g c =
    let t = tail_at c.args.self.page_size c.args.self.id c.args.self.tip.now in
    cached_tries t c.args.cache.now c.args.offset c.args.buf.now c.read_cached.new.buf c.read_cached.result c.args.self.page_size.ok c.read_cached.ensures c.requires.page_size c.requires.view.fits c.requires.below
