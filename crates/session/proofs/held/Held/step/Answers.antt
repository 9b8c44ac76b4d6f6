use Rattle.session.proofs.Below.{leaves_tried}
use Rattle.session.proofs.held.Held.step.Goals as goal

pub returns-in-Wait-clause-tails : goal.returns-in-Wait-clause-tails
returns-in-Wait-clause-tails g c = c.wait_for_sync.ensures.tails c.args.cache.now c.requires.cached

pub returns-in-Scan-clause-cached : goal.returns-in-Scan-clause-cached
returns-in-Scan-clause-cached g c = c.scan.ensures.cached c.args.cache.now c.requires.cached

pub returns-in-Scan-clause-tails : goal.returns-in-Scan-clause-tails
returns-in-Scan-clause-tails g c = c.scan.ensures.tails c.args.cache.now

pub returns-in-TryAppend-clause-tails : goal.returns-in-TryAppend-clause-tails
returns-in-TryAppend-clause-tails g c = leaves_tried g.H.Sum.sum_of c.args.self.now c.try_append.new.self c.deref-in-TryAppend.result.now c.args.cache.now (g.B.Blob.life c.args.blob.now) c.try_append.result c.try_append.ensures.goes
