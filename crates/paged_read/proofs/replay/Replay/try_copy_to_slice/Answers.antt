use Rattle.std.proofs.Common.{Ok, rules, ◌+◌, arith, length}
use Rattle.paged_read.specs.Replay.{ReplayState}
use Rattle.paged_read.proofs.Replays.{copies_to_slice, moved_replays}
use Rattle.paged_read.proofs.replay.Replay.try_copy_to_slice.Goals as goal

pub returns-clause-replays : goal.returns-clause-replays
returns-clause-replays g c =
    let was : ReplayState = record {
      tail = c.self.inside.sealed;
      batch = c.self.inside.batches.batch;
      position = c.self.inside.position;
      hand = c.self.inside.hand.bytes;
      queue = c.self.inside.queue.items;
      exhausted = c.self.inside.exhausted;
    } in
    moved_replays (length c.args.out.now) c.args.self.now was (c.self.inside.position + length c.args.out.now) c.try_copy_to_slice.new.self.bytes
    c.self.view_is (omega (arith, c.in_ok-try_copy_to_slice.ensures.enough)) c.in_ok-try_copy_to_slice.ensures.bytes

pub returns-in_err-try_copy_to_slice-clause-goes : goal.returns-in_err-try_copy_to_slice-clause-goes
returns-in_err-try_copy_to_slice-clause-goes g c =
    copies_to_slice c.args.self.now _ c.args.out.now _ c.from_residual.result (search rules) (search rules) (search rules) (search rules) (search rules)

pub returns-clause-goes : goal.returns-clause-goes
returns-clause-goes g c =
    copies_to_slice c.args.self.now _ c.args.out.now _ (Ok tt) (search rules) (search rules) (search rules) (search rules) (search rules)
