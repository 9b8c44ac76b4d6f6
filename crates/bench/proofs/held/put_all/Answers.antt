use Rattle.std.proofs.Common.{◌∙◌}
use Rattle.cache.proofs.CacheLaws.{put_weakly}
use Rattle.bench.proofs.held.put_all.Goals as goal

pub loop-i-preserved : goal.loop-i-preserved
loop-i-preserved c =
    (put_weakly (0, c.saturating_add.result) c.args.page.now c.loop-i.cache c.keep.new.self
    c.keep.ensures.puts).settings.page_size
    ∙ c.loop-i.invariant
