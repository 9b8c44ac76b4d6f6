use Rattle.paged.proofs.Refused.{puts_none}
use Rattle.std.proofs.Common.{refl, sym, ◌∙◌, arith}
use Rattle.paged.proofs.Caching.{settled_nothing}
use Rattle.paged.specs.Flush.{with_value}
use Rattle.paged.proofs.Flushes.{sync_settles, settle_none, sync_due}
use Rattle.paged.proofs.writer.Writer.sync_all.Goals as goal

pub returns-then-has_flush_work : goal.returns-then-has_flush_work
returns-then-has_flush_work g c =
    let work = sym c.has_flush_work.ensures.work ∙ c.if-has_flush_work.true in
    record {
      puts = c.sync_pages.ensures.puts;
      refused = c.sync_pages.ensures.refused;
      idle_cache = λ none. absurd (cc (work, none));
      syncs = c.sync_pages.ensures.syncs;
      room = c.has_flush_work.ensures.room;
      pages = c.sync_pages.ensures.pages;
      covers = c.sync_pages.ensures.covers;
      calls = c.sync_pages.ensures.calls;
      idle = λ none. absurd (sync_due c.args.self.now work none);
      unwritten = λ none. absurd (cc (work, none));
      starts = c.sync_pages.ensures.starts;
    }

pub returns-else-has_flush_work : goal.returns-else-has_flush_work
returns-else-has_flush_work g c =
    let old = g.B.Blob.life c.args.blob.now in
    let new = g.B.Blob.life c.settle.new.blob in
    let none_due = sym c.has_flush_work.ensures.work ∙ c.if-has_flush_work.false in
    record {
      puts = settled_nothing g.H.Sum.sum_of c.args.self.now c.settle.new.self c.args.self.now.tip c.args.cache.now old new c.settle.result c.settle.ensures.settles;
      refused = λ _. puts_none c.args.cache.now c.settle.result;
      idle_cache = λ _. refl;
      syncs = sync_settles g.H.Sum.sum_of c.args.self.now old new (with_value c.settle.new.self c.settle.result) c.requires.holds none_due c.settle.ensures.settles;
      room = c.has_flush_work.ensures.room;
      pages = c.settle.ensures.pages;
      covers = c.settle.ensures.covers;
      calls = omega (arith, c.settle.ensures.calls);
      idle = λ none. c.settle.ensures.idle (settle_none c.args.self.now none);
      unwritten = λ none. c.settle.ensures.unwritten;
      starts = c.settle.ensures.starts;
    }
