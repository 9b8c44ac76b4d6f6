use Rattle.paged.proofs.Waits.{wait_leaves_writers, wait_covers_all}
use Rattle.paged_read.proofs.OutlivingReplays.{alike_replays}
use Rattle.paged_read.proofs.Outliving.{alike_tails}
use Rattle.paged.proofs.Snapshotting.{waits_readable}
use Rattle.paged.proofs.start.wait_sync.Goals as goal

pub returns-clause-writers : goal.returns-clause-writers
returns-clause-writers g c = wait_leaves_writers g.H.Sum.sum_of c.args.started (g.B.Blob.life c.args.blob.now) (g.B.Blob.life c.wait_sync.new.self) c.wait_sync.result g.met.H.Sum.small c.wait_sync.ensures.goes

pub returns-clause-durable : goal.returns-clause-durable
returns-clause-durable g c = wait_covers_all g.H.Sum.sum_of c.args.started (g.B.Blob.life c.args.blob.now) (g.B.Blob.life c.wait_sync.new.self) c.wait_sync.result c.wait_sync.ensures.goes

pub returns-clause-tails : goal.returns-clause-tails
returns-clause-tails g c = λ cache.
    alike_tails g.H.Sum.sum_of cache (g.B.Blob.life c.args.blob.now)
    (g.B.Blob.life c.wait_sync.new.self)
    (waits_readable c.args.started (g.B.Blob.life c.args.blob.now)
    (g.B.Blob.life c.wait_sync.new.self) c.wait_sync.result c.wait_sync.ensures.goes)

pub returns-clause-all_replays : goal.returns-clause-all_replays
returns-clause-all_replays g c =
    alike_replays (g.B.Blob.life c.args.blob.now) (g.B.Blob.life c.wait_sync.new.self)
    (waits_readable c.args.started (g.B.Blob.life c.args.blob.now)
    (g.B.Blob.life c.wait_sync.new.self) c.wait_sync.result c.wait_sync.ensures.goes)
