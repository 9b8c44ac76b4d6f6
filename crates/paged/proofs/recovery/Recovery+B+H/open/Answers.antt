use Rattle.paged.proofs.Opened.{opens_usable}
use Rattle.paged.proofs.recovery.Recovery+B+H.open.Goals as goal

pub returns-clause-goes : goal.returns-clause-goes
returns-clause-goes g c =
    let is = c.open_all.ensures in
    record {
      answers = is.opens;
      overflow = is.overflow;
      ids = is.ids;
      there = is.there;
      within = is.within;
      as_opened = is.as_opened;
      mended = is.mended;
      usable = λ durable fresh. opens_usable g.H.Sum.sum_of c.args.cache.now c.open_all.new.cache c.args.capacity (g.B.Blob.life c.args.blob.now) (g.B.Blob.life c.open_all.new.blob) c.open_all.result is.opens (is.can_read fresh) (is.fresh_ids fresh) durable;
    }

pub returns-clause-owes : goal.returns-clause-owes
returns-clause-owes g c =
    let is = c.open_all.ensures in
    record { floors = is.floors; kept = is.kept; only = is.only; others = is.others; fresh = is.fresh_ids }
