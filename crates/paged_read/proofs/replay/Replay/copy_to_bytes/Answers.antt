use Rattle.std.proofs.Common.{Ok, rules, ◌+◌, ap, arith, length}
use Rattle.paged_read.specs.Replay.{ReplayState}
use Rattle.paged_read.proofs.Replays.{copies_bytes, moved_replays}
use Rattle.paged_read.proofs.replay.Replay.copy_to_bytes.Goals as goal

pub returns-clause-replays : goal.returns-clause-replays
returns-clause-replays g c =
    let was : ReplayState = record {
      tail = c.self.inside.sealed;
      batch = c.self.inside.batches.batch;
      position = c.self.inside.position;
      hand = c.self.inside.hand.bytes;
      queue = c.self.inside.queue.items;
      exhausted = c.self.inside.exhausted;
    } in
    moved_replays c.args.count c.args.self.now was (c.self.inside.position + c.args.count) c.copy_to_bytes.new.self.bytes
    c.self.view_is (omega (arith, c.requires, ap (λ (r : ReplayState). length r.hand) c.self.view_is)) c.in_ok-bytes.ensures.bytes

pub returns-in_err-bytes-clause-goes : goal.returns-in_err-bytes-clause-goes
returns-in_err-bytes-clause-goes g c =
    copies_bytes c.args.self.now c.args.count _ c.from_residual.result c.requires (search rules) (search rules) (search rules) (search rules)

pub returns-clause-goes : goal.returns-clause-goes
returns-clause-goes g c =
    copies_bytes c.args.self.now c.args.count _ (Ok c.in_ok-bytes.bytes) c.requires (search rules) (search rules) (search rules) (search rules)
