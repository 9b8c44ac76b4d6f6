use Rattle.std.proofs.Common.{refl}
use Rattle.session.proofs.DropLaws.{drop_replay_takes, drop_snapshot_takes}
use Rattle.session.proofs.OtherLaws.{begin_others, cut_others, drop_others, others_idle, others_taken, replay_others, replayed_others, seal_others, snapshot_others, try_snapshot_others}
use Rattle.session.proofs.ReplayLaws.{all_can_go_on, ensure_takes, replay_takes, seek_takes, take_takes}
use Rattle.session.proofs.SnapshotLaws.{snapshot_takes, try_snapshot_takes, seal_takes, snap_takes}
use Rattle.session.proofs.WholeLaws.{begin_takes, cut_takes, name_takes, taken_call, writer_takes}
use Rattle.session.proofs.sessions.Session.step.Goals as goal

pub returns-in-WaitSync-clause-goes : goal.returns-in-WaitSync-clause-goes
returns-in-WaitSync-clause-goes g c =
    let is = c.wait_sync.ensures in
    rw c.in-WaitSync.is (name_takes g.H.Sum.sum_of c.args.self.now c.args.cache.now c.in-WaitSync.name (g.B.Blob.life c.args.blob.now) (g.B.Blob.life c.wait_sync.new.blob) c.wait_sync.result g.met.H.Sum.small c.requires.ready c.requires.cached is.goes is.can_read is.tails is.replays).0

pub returns-in-WaitSync-clause-cached : goal.returns-in-WaitSync-clause-cached
returns-in-WaitSync-clause-cached g c =
    let is = c.wait_sync.ensures in
    (name_takes g.H.Sum.sum_of c.args.self.now c.args.cache.now c.in-WaitSync.name (g.B.Blob.life c.args.blob.now) (g.B.Blob.life c.wait_sync.new.blob) c.wait_sync.result g.met.H.Sum.small c.requires.ready c.requires.cached is.goes is.can_read is.tails is.replays).1

pub returns-in-Begin-clause-goes : goal.returns-in-Begin-clause-goes
returns-in-Begin-clause-goes g c =
    let is = c.begin.ensures in
    rw c.in-Begin.is (begin_takes g.H.Sum.sum_of c.args.self.now c.begin.new.self c.args.cache.now (g.B.Blob.life c.args.blob.now) c.begin.result c.requires.ready c.requires.cached is.goes).0

pub returns-in-Begin-clause-cached : goal.returns-in-Begin-clause-cached
returns-in-Begin-clause-cached g c =
    let is = c.begin.ensures in
    (begin_takes g.H.Sum.sum_of c.args.self.now c.begin.new.self c.args.cache.now (g.B.Blob.life c.args.blob.now) c.begin.result c.requires.ready c.requires.cached is.goes).1

pub returns-in-Truncate-clause-goes : goal.returns-in-Truncate-clause-goes
returns-in-Truncate-clause-goes g c =
    let is = c.truncate.ensures in
    rw c.in-Truncate.is (cut_takes g.H.Sum.sum_of c.args.self.now c.truncate.new.self c.args.cache.now c.truncate.new.cache c.in-Truncate.size (g.B.Blob.life c.args.blob.now) (g.B.Blob.life c.truncate.new.blob) c.truncate.result c.requires.ready c.requires.cached is.goes is.rest is.cached is.turned).0

pub returns-in-Truncate-clause-cached : goal.returns-in-Truncate-clause-cached
returns-in-Truncate-clause-cached g c =
    let is = c.truncate.ensures in
    (cut_takes g.H.Sum.sum_of c.args.self.now c.truncate.new.self c.args.cache.now c.truncate.new.cache c.in-Truncate.size (g.B.Blob.life c.args.blob.now) (g.B.Blob.life c.truncate.new.blob) c.truncate.result c.requires.ready c.requires.cached is.goes is.rest is.cached is.turned).1

pub returns-in-Snapshot-clause-goes : goal.returns-in-Snapshot-clause-goes
returns-in-Snapshot-clause-goes g c =
    let is = c.snapshot.ensures in
    rw c.in-Snapshot.is (snapshot_takes g.H.Sum.sum_of c.args.self.now c.snapshot.new.self c.args.cache.now c.snapshot.new.cache (g.B.Blob.life c.args.blob.now) (g.B.Blob.life c.snapshot.new.blob) c.snapshot.result c.requires.ready c.requires.cached is.cached is.tails is.goes).0

pub returns-in-Snapshot-clause-cached : goal.returns-in-Snapshot-clause-cached
returns-in-Snapshot-clause-cached g c =
    let is = c.snapshot.ensures in
    (snapshot_takes g.H.Sum.sum_of c.args.self.now c.snapshot.new.self c.args.cache.now c.snapshot.new.cache (g.B.Blob.life c.args.blob.now) (g.B.Blob.life c.snapshot.new.blob) c.snapshot.result c.requires.ready c.requires.cached is.cached is.tails is.goes).1

pub returns-in-TrySnapshot-clause-goes : goal.returns-in-TrySnapshot-clause-goes
returns-in-TrySnapshot-clause-goes g c =
    let is = c.try_snapshot.ensures in
    rw c.in-TrySnapshot.is (try_snapshot_takes g.H.Sum.sum_of c.args.self.now c.try_snapshot.new.self c.args.cache.now (g.B.Blob.life c.args.blob.now) c.try_snapshot.result c.requires.ready c.requires.cached is).0

pub returns-in-TrySnapshot-clause-cached : goal.returns-in-TrySnapshot-clause-cached
returns-in-TrySnapshot-clause-cached g c =
    let is = c.try_snapshot.ensures in
    (try_snapshot_takes g.H.Sum.sum_of c.args.self.now c.try_snapshot.new.self c.args.cache.now (g.B.Blob.life c.args.blob.now) c.try_snapshot.result c.requires.ready c.requires.cached is).1

pub returns-in-Snap-clause-goes : goal.returns-in-Snap-clause-goes
returns-in-Snap-clause-goes g c =
    let is = c.snap.ensures in
    rw c.in-Snap.is (snap_takes g.H.Sum.sum_of c.args.self.now c.args.cache.now c.snap.new.cache c.in-Snap.index c.in-Snap.offset c.in-Snap.len (g.B.Blob.life c.args.blob.now) (g.B.Blob.life c.snap.new.blob) c.snap.result c.requires.ready c.requires.cached is.goes is.writers is.tails is.replays is.can_read).0

pub returns-in-Snap-clause-cached : goal.returns-in-Snap-clause-cached
returns-in-Snap-clause-cached g c =
    let is = c.snap.ensures in
    (snap_takes g.H.Sum.sum_of c.args.self.now c.args.cache.now c.snap.new.cache c.in-Snap.index c.in-Snap.offset c.in-Snap.len (g.B.Blob.life c.args.blob.now) (g.B.Blob.life c.snap.new.blob) c.snap.result c.requires.ready c.requires.cached is.goes is.writers is.tails is.replays is.can_read).1

pub returns-in-Seal-clause-goes : goal.returns-in-Seal-clause-goes
returns-in-Seal-clause-goes g c =
    let is = c.seal.ensures in
    rw c.in-Seal.is (seal_takes g.H.Sum.sum_of c.args.self.now c.seal.new.self c.args.cache.now c.seal.new.cache (g.B.Blob.life c.args.blob.now) (g.B.Blob.life c.seal.new.blob) c.seal.result c.requires.ready c.requires.cached is.cached is.tails is.goes).0

pub returns-in-Seal-clause-cached : goal.returns-in-Seal-clause-cached
returns-in-Seal-clause-cached g c =
    let is = c.seal.ensures in
    (seal_takes g.H.Sum.sum_of c.args.self.now c.seal.new.self c.args.cache.now c.seal.new.cache (g.B.Blob.life c.args.blob.now) (g.B.Blob.life c.seal.new.blob) c.seal.result c.requires.ready c.requires.cached is.cached is.tails is.goes).1

pub returns-in_default : goal.returns-in_default
returns-in_default g c =
    let is = c.step_writer.ensures in
    let old = g.B.Blob.life c.args.blob.now in
    let new = g.B.Blob.life c.step_writer.new.blob in
    let takes = writer_takes g.H.Sum.sum_of c.args.step.now c.args.self.now c.step_writer.new.self c.args.cache.now c.step_writer.new.cache old new c.step_writer.result c.requires.ready c.requires.cached is.goes is.rest is.cached is.tails in
    record {
      goes = takes.0;
      calls = taken_call g.H.Sum.sum_of c.args.step.now c.args.self.now c.step_writer.new.self c.args.cache.now c.step_writer.new.cache old new c.step_writer.result is.goes is.rest;
      cached = takes.1;
      fresh_ids = is.fresh_ids;
      others = others_taken c.args.self.now c.step_writer.new.self c.args.cache.now c.step_writer.new.cache is.rest is.tails.others;
    }

pub returns-in-Replay-clause-goes : goal.returns-in-Replay-clause-goes
returns-in-Replay-clause-goes g c =
    let is = c.replay.ensures in
    rw c.in-Replay.is (replay_takes g.H.Sum.sum_of c.args.self.now c.replay.new.self c.args.cache.now c.replay.new.cache c.in-Replay.buffer_size (g.B.Blob.life c.args.blob.now) (g.B.Blob.life c.replay.new.blob) c.replay.result c.requires.ready c.requires.cached is.cached is.tails is.rest is.goes).0

pub returns-in-Replay-clause-cached : goal.returns-in-Replay-clause-cached
returns-in-Replay-clause-cached g c =
    let is = c.replay.ensures in
    (replay_takes g.H.Sum.sum_of c.args.self.now c.replay.new.self c.args.cache.now c.replay.new.cache c.in-Replay.buffer_size (g.B.Blob.life c.args.blob.now) (g.B.Blob.life c.replay.new.blob) c.replay.result c.requires.ready c.requires.cached is.cached is.tails is.rest is.goes).1

pub returns-in-Ensure-clause-goes : goal.returns-in-Ensure-clause-goes
returns-in-Ensure-clause-goes g c =
    let is = c.ensure.ensures in
    rw c.in-Ensure.is (ensure_takes g.H.Sum.sum_of c.args.self.now c.ensure.new.self c.args.cache.now c.in-Ensure.index c.in-Ensure.count (g.B.Blob.life c.args.blob.now) (g.B.Blob.life c.ensure.new.blob) c.ensure.result c.requires.ready c.requires.cached is.looked is.goes is.rest).0

pub returns-in-Ensure-clause-cached : goal.returns-in-Ensure-clause-cached
returns-in-Ensure-clause-cached g c =
    let is = c.ensure.ensures in
    (ensure_takes g.H.Sum.sum_of c.args.self.now c.ensure.new.self c.args.cache.now c.in-Ensure.index c.in-Ensure.count (g.B.Blob.life c.args.blob.now) (g.B.Blob.life c.ensure.new.blob) c.ensure.result c.requires.ready c.requires.cached is.looked is.goes is.rest).1

pub returns-in-Take-clause-goes : goal.returns-in-Take-clause-goes
returns-in-Take-clause-goes g c =
    let life = g.B.Blob.life c.args.blob.now in
    rw c.in-Take.is (take_takes g.H.Sum.sum_of c.args.self.now c.take.new.self c.args.cache.now c.in-Take.index c.in-Take.count life c.take.result c.requires.ready c.requires.cached c.take.ensures.goes c.take.ensures.rest).0

pub returns-in-Take-clause-cached : goal.returns-in-Take-clause-cached
returns-in-Take-clause-cached g c =
    let life = g.B.Blob.life c.args.blob.now in
    (take_takes g.H.Sum.sum_of c.args.self.now c.take.new.self c.args.cache.now c.in-Take.index c.in-Take.count life c.take.result c.requires.ready c.requires.cached c.take.ensures.goes c.take.ensures.rest).1

pub returns-in-Seek-clause-goes : goal.returns-in-Seek-clause-goes
returns-in-Seek-clause-goes g c =
    let life = g.B.Blob.life c.args.blob.now in
    rw c.in-Seek.is (seek_takes g.H.Sum.sum_of c.args.self.now c.seek.new.self c.args.cache.now c.in-Seek.index c.in-Seek.offset life c.seek.result c.requires.ready c.requires.cached c.seek.ensures.goes c.seek.ensures.rest).0

pub returns-in-Seek-clause-cached : goal.returns-in-Seek-clause-cached
returns-in-Seek-clause-cached g c =
    let life = g.B.Blob.life c.args.blob.now in
    (seek_takes g.H.Sum.sum_of c.args.self.now c.seek.new.self c.args.cache.now c.in-Seek.index c.in-Seek.offset life c.seek.result c.requires.ready c.requires.cached c.seek.ensures.goes c.seek.ensures.rest).1

pub returns-in-DropReplay-clause-goes : goal.returns-in-DropReplay-clause-goes
returns-in-DropReplay-clause-goes g c =
    let life = g.B.Blob.life c.args.blob.now in
    rw c.in-DropReplay.is (drop_replay_takes g.H.Sum.sum_of c.args.self.now c.drop_replay.new.self c.args.cache.now c.in-DropReplay.index life c.drop_replay.result c.requires.ready c.requires.cached c.drop_replay.ensures.goes c.drop_replay.ensures.rest).0

pub returns-in-DropReplay-clause-cached : goal.returns-in-DropReplay-clause-cached
returns-in-DropReplay-clause-cached g c =
    let life = g.B.Blob.life c.args.blob.now in
    (drop_replay_takes g.H.Sum.sum_of c.args.self.now c.drop_replay.new.self c.args.cache.now c.in-DropReplay.index life c.drop_replay.result c.requires.ready c.requires.cached c.drop_replay.ensures.goes c.drop_replay.ensures.rest).1

pub returns-in-DropSnapshot-clause-goes : goal.returns-in-DropSnapshot-clause-goes
returns-in-DropSnapshot-clause-goes g c =
    let life = g.B.Blob.life c.args.blob.now in
    rw c.in-DropSnapshot.is (drop_snapshot_takes g.H.Sum.sum_of c.args.self.now c.drop_snapshot.new.self c.args.cache.now c.in-DropSnapshot.index life c.drop_snapshot.result c.requires.ready c.requires.cached c.drop_snapshot.ensures.goes c.drop_snapshot.ensures.rest).0

pub returns-in-DropSnapshot-clause-cached : goal.returns-in-DropSnapshot-clause-cached
returns-in-DropSnapshot-clause-cached g c =
    let life = g.B.Blob.life c.args.blob.now in
    (drop_snapshot_takes g.H.Sum.sum_of c.args.self.now c.drop_snapshot.new.self c.args.cache.now c.in-DropSnapshot.index life c.drop_snapshot.result c.requires.ready c.requires.cached c.drop_snapshot.ensures.goes c.drop_snapshot.ensures.rest).1

pub ensure-requires : goal.ensure-requires
ensure-requires g c = record { can = all_can_go_on g.H.Sum.sum_of c.args.self.now (g.B.Blob.life c.args.blob.now).present c.requires.ready }

pub returns-in-WaitSync-clause-others : goal.returns-in-WaitSync-clause-others
returns-in-WaitSync-clause-others g c = others_idle c.args.self.now c.args.self.now c.args.cache.now refl refl

pub returns-in-Begin-clause-others : goal.returns-in-Begin-clause-others
returns-in-Begin-clause-others g c = begin_others c.args.self.now c.begin.new.self c.args.cache.now c.begin.result c.begin.ensures.goes

pub returns-in-Truncate-clause-others : goal.returns-in-Truncate-clause-others
returns-in-Truncate-clause-others g c = cut_others c.args.self.now c.truncate.new.self c.args.cache.now c.truncate.new.cache c.truncate.ensures.rest c.truncate.ensures.others

pub returns-in-Snapshot-clause-others : goal.returns-in-Snapshot-clause-others
returns-in-Snapshot-clause-others g c = snapshot_others g.H.Sum.sum_of c.args.self.now c.snapshot.new.self c.args.cache.now c.snapshot.new.cache (g.B.Blob.life c.args.blob.now) (g.B.Blob.life c.snapshot.new.blob) c.snapshot.result c.snapshot.ensures.tails.others c.snapshot.ensures.goes

pub returns-in-TrySnapshot-clause-others : goal.returns-in-TrySnapshot-clause-others
returns-in-TrySnapshot-clause-others g c = try_snapshot_others c.args.self.now c.try_snapshot.new.self c.args.cache.now c.try_snapshot.result c.try_snapshot.ensures

pub returns-in-Snap-clause-others : goal.returns-in-Snap-clause-others
returns-in-Snap-clause-others g c = c.snap.ensures.others

pub returns-in-Seal-clause-others : goal.returns-in-Seal-clause-others
returns-in-Seal-clause-others g c = seal_others g.H.Sum.sum_of c.args.self.now c.seal.new.self c.args.cache.now c.seal.new.cache (g.B.Blob.life c.args.blob.now) (g.B.Blob.life c.seal.new.blob) c.seal.result c.seal.ensures.tails.others c.seal.ensures.goes

pub returns-in-DropSnapshot-clause-others : goal.returns-in-DropSnapshot-clause-others
returns-in-DropSnapshot-clause-others g c = drop_others c.args.self.now c.drop_snapshot.new.self c.args.cache.now c.in-DropSnapshot.index c.drop_snapshot.result c.drop_snapshot.ensures.goes c.drop_snapshot.ensures.rest

pub returns-in-Replay-clause-others : goal.returns-in-Replay-clause-others
returns-in-Replay-clause-others g c = replay_others c.args.self.now c.replay.new.self c.args.cache.now c.replay.new.cache c.replay.ensures.rest c.replay.ensures.tails.others

pub returns-in-Ensure-clause-others : goal.returns-in-Ensure-clause-others
returns-in-Ensure-clause-others g c = replayed_others c.args.self.now c.ensure.new.self c.args.cache.now c.ensure.ensures.rest

pub returns-in-Take-clause-others : goal.returns-in-Take-clause-others
returns-in-Take-clause-others g c = replayed_others c.args.self.now c.take.new.self c.args.cache.now c.take.ensures.rest

pub returns-in-Seek-clause-others : goal.returns-in-Seek-clause-others
returns-in-Seek-clause-others g c = replayed_others c.args.self.now c.seek.new.self c.args.cache.now c.seek.ensures.rest

pub returns-in-DropReplay-clause-others : goal.returns-in-DropReplay-clause-others
returns-in-DropReplay-clause-others g c = replayed_others c.args.self.now c.drop_replay.new.self c.args.cache.now c.drop_replay.ensures.rest

pub returns-in-WaitSync-clause-calls : goal.returns-in-WaitSync-clause-calls
returns-in-WaitSync-clause-calls g c = rw c.in-WaitSync.is (c.wait_sync.ensures.goes, refl, refl)

pub returns-in-Begin-clause-calls : goal.returns-in-Begin-clause-calls
returns-in-Begin-clause-calls g c = rw c.in-Begin.is (c.begin.ensures.goes, refl, refl)

pub returns-in-Truncate-clause-calls : goal.returns-in-Truncate-clause-calls
returns-in-Truncate-clause-calls g c = rw c.in-Truncate.is (c.truncate.ensures.goes, c.truncate.ensures.rest)

pub returns-in-Snapshot-clause-calls : goal.returns-in-Snapshot-clause-calls
returns-in-Snapshot-clause-calls g c = rw c.in-Snapshot.is c.snapshot.ensures.goes

pub returns-in-TrySnapshot-clause-calls : goal.returns-in-TrySnapshot-clause-calls
returns-in-TrySnapshot-clause-calls g c = rw c.in-TrySnapshot.is (c.try_snapshot.ensures, refl, refl)

pub returns-in-Snap-clause-calls : goal.returns-in-Snap-clause-calls
returns-in-Snap-clause-calls g c = rw c.in-Snap.is (c.snap.ensures.goes, refl)

pub returns-in-Seal-clause-calls : goal.returns-in-Seal-clause-calls
returns-in-Seal-clause-calls g c = rw c.in-Seal.is c.seal.ensures.goes

pub returns-in-DropSnapshot-clause-calls : goal.returns-in-DropSnapshot-clause-calls
returns-in-DropSnapshot-clause-calls g c = rw c.in-DropSnapshot.is (c.drop_snapshot.ensures.goes, c.drop_snapshot.ensures.rest, refl, refl)

pub returns-in-Replay-clause-calls : goal.returns-in-Replay-clause-calls
returns-in-Replay-clause-calls g c = rw c.in-Replay.is (c.replay.ensures.goes, c.replay.ensures.rest)

pub returns-in-Ensure-clause-calls : goal.returns-in-Ensure-clause-calls
returns-in-Ensure-clause-calls g c = rw c.in-Ensure.is (c.ensure.ensures.goes, c.ensure.ensures.rest, refl)

pub returns-in-Take-clause-calls : goal.returns-in-Take-clause-calls
returns-in-Take-clause-calls g c = rw c.in-Take.is (c.take.ensures.goes, c.take.ensures.rest, refl, refl)

pub returns-in-Seek-clause-calls : goal.returns-in-Seek-clause-calls
returns-in-Seek-clause-calls g c = rw c.in-Seek.is (c.seek.ensures.goes, c.seek.ensures.rest, refl, refl)

pub returns-in-DropReplay-clause-calls : goal.returns-in-DropReplay-clause-calls
returns-in-DropReplay-clause-calls g c = rw c.in-DropReplay.is (c.drop_replay.ensures.goes, c.drop_replay.ensures.rest, refl, refl)
