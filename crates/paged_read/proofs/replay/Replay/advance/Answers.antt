use Rattle.std.proofs.Common.{◌+◌, arith}
use Rattle.paged_read.specs.Replay.{ReplayState}
use Rattle.paged_read.proofs.Replays.{moved_replays}
use Rattle.paged_read.proofs.replay.Replay.advance.Goals as goal

pub returns-clause-replays : goal.returns-clause-replays
returns-clause-replays g c =
    let was : ReplayState = record {
      tail = c.self.inside.sealed;
      batch = c.self.inside.batches.batch;
      position = c.self.inside.position;
      hand = c.self.inside.hand.bytes;
      queue = c.self.inside.queue.items;
      exhausted = c.self.inside.exhausted;
    } in
    moved_replays c.args.count c.args.self.now was (c.self.inside.position + c.min.result) c.advance.new.self.bytes
    c.self.view_is (omega (arith, c.min.ensures, c.remaining.ensures)) c.advance.ensures.bytes
