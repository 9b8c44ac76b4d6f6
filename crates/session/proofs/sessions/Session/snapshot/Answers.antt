use Rattle.std.proofs.Common.{rules, ◌≡◌, inl, Some, None, Ok, Err, arith}
use Rattle.std.proofs.lemmas.Grind.{common_steps}
use Rattle.session.specs.Calls.{SnapshotSays}
use Rattle.session.proofs.Below.{can_in, leaves_on, leaves_gone, sound_in}
use Rattle.session.proofs.sessions.Session.snapshot.Goals as goal

pub snapshot-requires : goal.snapshot-requires
snapshot-requires g c =
    let at : c.args.self.now.writer ≡ Some c.in-Some.writer = search rules in
    let d = (g.B.Blob.life c.args.blob.now).present in
    record { ready = inl (record { sound = sound_in g.H.Sum.sum_of c.args.self.now.writer c.in-Some.writer d at c.requires.sound; can = can_in c.args.self.now.writer c.in-Some.writer c.args.cache.now d at c.requires.cached; fresh = c.requires.fresh }) }

pub returns-in-Ok-clause-goes : goal.returns-in-Ok-clause-goes
returns-in-Ok-clause-goes g c =
    let at : c.args.self.now.writer ≡ Some c.in-Some.writer = search rules in
    let is = c.in-Ok.ensures in
    let says : SnapshotSays g.H.Sum.sum_of c.in-Some.writer c.args.cache.now c.snapshot.new.cache (g.B.Blob.life c.args.blob.now) (g.B.Blob.life c.snapshot.new.blob) (Ok (c.in-Ok.writer, c.in-Ok.snapshot)) = record { goes = is.goes; owes = is.owes; costs = is.costs } in
    let whole = is.ready.0 (record { sound = sound_in g.H.Sum.sum_of c.args.self.now.writer c.in-Some.writer (g.B.Blob.life c.args.blob.now).present at c.requires.sound; can = can_in c.args.self.now.writer c.in-Some.writer c.args.cache.now (g.B.Blob.life c.args.blob.now).present at c.requires.cached; fresh = c.requires.fresh }) in
    let stands = is.goes.stands (sound_in g.H.Sum.sum_of c.args.self.now.writer c.in-Some.writer (g.B.Blob.life c.args.blob.now).present at c.requires.sound) in
    search rules

pub returns-in-Err-clause-goes : goal.returns-in-Err-clause-goes
returns-in-Err-clause-goes g c =
    let at : c.args.self.now.writer ≡ Some c.in-Some.writer = search rules in
    let is = c.in-Err.ensures in
    let says : SnapshotSays g.H.Sum.sum_of c.in-Some.writer c.args.cache.now c.snapshot.new.cache (g.B.Blob.life c.args.blob.now) (g.B.Blob.life c.snapshot.new.blob) (Err c.in-Err.error) = record { goes = is.goes; owes = is.owes; costs = is.costs } in
    search rules

pub returns-in-Ok-clause-tails : goal.returns-in-Ok-clause-tails
returns-in-Ok-clause-tails g c =
    let old = g.B.Blob.life c.args.blob.now in
    let new = g.B.Blob.life c.snapshot.new.blob in
    let at : c.args.self.now.writer ≡ Some c.in-Some.writer = search rules in
    leaves_on g.H.Sum.sum_of c.args.self.now.writer c.in-Some.writer c.in-Ok.writer c.args.cache.now c.snapshot.new.cache old new at c.in-Ok.ensures.goes.holds.same c.in-Ok.ensures.owes.tails c.in-Ok.ensures.owes.replays c.in-Ok.ensures.owes.others c.in-Ok.ensures.owes.cached.settings

pub returns-in-Err-clause-tails : goal.returns-in-Err-clause-tails
returns-in-Err-clause-tails g c =
    let old = g.B.Blob.life c.args.blob.now in
    let new = g.B.Blob.life c.snapshot.new.blob in
    let at : c.args.self.now.writer ≡ Some c.in-Some.writer = search rules in
    let none : c.take.new.self ≡ None = search rules in
    leaves_gone g.H.Sum.sum_of c.args.self.now.writer c.take.new.self c.in-Some.writer c.args.cache.now c.snapshot.new.cache old new at none c.in-Err.ensures.owes.tails c.in-Err.ensures.owes.replays c.in-Err.ensures.owes.others c.in-Err.ensures.owes.cached.settings

pub returns-in-Err-clause-cached : goal.returns-in-Err-clause-cached
returns-in-Err-clause-cached c = grind (arith, common_steps)

pub returns-in-Ok-clause-cached : goal.returns-in-Ok-clause-cached
returns-in-Ok-clause-cached c = grind (arith, common_steps)
