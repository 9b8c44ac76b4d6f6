use Rattle.paged_read.specs.Replay.{ReplayState}
use Rattle.paged_read.proofs.Replays.{cleared_replays}
use Rattle.paged_read.proofs.replay.Replay.seek_to.Goals as goal

pub returns-clause-replays : goal.returns-clause-replays
returns-clause-replays g c =
    let was : ReplayState = record {
      tail = c.self.inside.sealed;
      batch = c.self.inside.batches.batch;
      position = c.self.inside.position;
      hand = c.self.inside.hand.bytes;
      queue = c.self.inside.queue.items;
      exhausted = c.self.inside.exhausted;
    } in
    cleared_replays c.args.self.now was c.args.offset c.clear.new.self.bytes c.self.view_is
    c.clear.ensures.bytes
