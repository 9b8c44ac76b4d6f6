use Rattle.paged.proofs.Waits.{settled_owes, settled_pages, settled_asks}
use Rattle.paged.proofs.writer.Writer.settle.Goals as goal

pub returns : goal.returns
returns g c =
    let w = c.args.self.now in
    let now = c.settle_blob.new.self in
    let old = g.B.Blob.life c.args.blob.now in
    let new = g.B.Blob.life c.settle_blob.new.blob in
    let result = c.settle_blob.result in
    let goes = c.settle_blob.ensures.goes in
    let owes = settled_owes g.H.Sum.sum_of w now old new result g.met.H.Sum.small c.requires.holds goes c.settle_blob.ensures.state in
    record {
      settles = owes.settles;
      pages = settled_pages w.page_size w.full_pages w.sync old new result goes;
      covers = owes.covers;
      calls = settled_asks w.sync old new result goes;
      idle = owes.idle;
      unwritten = goes;
      starts = owes.starts;
    }
