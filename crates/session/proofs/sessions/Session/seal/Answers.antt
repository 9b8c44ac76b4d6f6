use Rattle.std.proofs.Common.{rules, ◌≡◌, inl, Some, None, Ok, Err, arith}
use Rattle.std.proofs.lemmas.Grind.{common_steps}
use Rattle.session.specs.Calls.{SealSays}
use Rattle.session.proofs.Below.{can_in, leaves_gone, sound_in}
use Rattle.session.proofs.sessions.Session.seal.Goals as goal

pub seal-requires : goal.seal-requires
seal-requires g c =
    let at : c.args.self.now.writer ≡ Some c.in-Some.writer = search rules in
    let d = (g.B.Blob.life c.args.blob.now).present in
    record { ready = inl (record { sound = sound_in g.H.Sum.sum_of c.args.self.now.writer c.in-Some.writer d at c.requires.sound; can = can_in c.args.self.now.writer c.in-Some.writer c.args.cache.now d at c.requires.cached; fresh = c.requires.fresh }) }

pub returns-after-started-clause-goes : goal.returns-after-started-clause-goes
returns-after-started-clause-goes g c =
    let at : c.args.self.now.writer ≡ Some c.in-Some.writer = search rules in
    let is = c.in-Ok.ensures in
    let says : SealSays g.H.Sum.sum_of c.in-Some.writer c.args.cache.now c.seal.new.cache (g.B.Blob.life c.args.blob.now) (g.B.Blob.life c.seal.new.blob) (Ok (c.in-Ok.snapshot, c.in-Ok.started)) = record { goes = is.goes; owes = is.owes; costs = is.costs } in
    let stands = is.goes.stands (sound_in g.H.Sum.sum_of c.args.self.now.writer c.in-Some.writer (g.B.Blob.life c.args.blob.now).present at c.requires.sound) in
    search rules

pub returns-in-Err-clause-goes : goal.returns-in-Err-clause-goes
returns-in-Err-clause-goes g c =
    let at : c.args.self.now.writer ≡ Some c.in-Some.writer = search rules in
    let is = c.in-Err.ensures in
    let says : SealSays g.H.Sum.sum_of c.in-Some.writer c.args.cache.now c.seal.new.cache (g.B.Blob.life c.args.blob.now) (g.B.Blob.life c.seal.new.blob) (Err c.in-Err.error) = record { goes = is.goes; owes = is.owes; costs = is.costs } in
    search rules

pub returns-after-started-clause-tails : goal.returns-after-started-clause-tails
returns-after-started-clause-tails g c =
    let at : c.args.self.now.writer ≡ Some c.in-Some.writer = search rules in
    let none : c.match-started.self.writer ≡ None = search rules in
    leaves_gone g.H.Sum.sum_of c.args.self.now.writer c.match-started.self.writer c.in-Some.writer c.args.cache.now c.seal.new.cache (g.B.Blob.life c.args.blob.now) (g.B.Blob.life c.seal.new.blob) at none c.in-Ok.ensures.owes.tails c.in-Ok.ensures.owes.replays c.in-Ok.ensures.owes.others c.in-Ok.ensures.owes.cached.settings

pub returns-in-Err-clause-tails : goal.returns-in-Err-clause-tails
returns-in-Err-clause-tails g c =
    let old = g.B.Blob.life c.args.blob.now in
    let new = g.B.Blob.life c.seal.new.blob in
    let at : c.args.self.now.writer ≡ Some c.in-Some.writer = search rules in
    let none : c.take.new.self ≡ None = search rules in
    leaves_gone g.H.Sum.sum_of c.args.self.now.writer c.take.new.self c.in-Some.writer c.args.cache.now c.seal.new.cache old new at none c.in-Err.ensures.owes.tails c.in-Err.ensures.owes.replays c.in-Err.ensures.owes.others c.in-Err.ensures.owes.cached.settings

pub returns-in-Err-clause-cached : goal.returns-in-Err-clause-cached
returns-in-Err-clause-cached c = grind (arith, common_steps)
