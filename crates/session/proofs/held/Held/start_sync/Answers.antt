use Rattle.std.proofs.Common.{rules, ◌≡◌, inl, Some, None, Ok, sym, subst}
use Rattle.std.specs.Prelude.{Option}
use Rattle.writer_state.specs.WriterState.{WriterState}
use Rattle.session.specs.declared.steps.Reply.TheVariants.{Fault}
use Rattle.session.specs.Calls.{DidStartSync, StartSays}
use Rattle.session.proofs.Below.{can_in, leaves_on, leaves_gone, sound_in}
use Rattle.session.proofs.held.Held.start_sync.Goals as goal

pub start_sync-requires : goal.start_sync-requires
start_sync-requires g c =
    let at : c.args.self.now ≡ Some c.in-Some.writer = search rules in
    let d = (g.B.Blob.life c.args.blob.now).present in
    record { ready = inl (record { sound = sound_in g.H.Sum.sum_of c.args.self.now c.in-Some.writer d at c.requires.sound; can = can_in c.args.self.now c.in-Some.writer c.args.cache.now d at c.requires.cached; fresh = c.requires.fresh }) }

pub returns-after-started-clause-goes : goal.returns-after-started-clause-goes
returns-after-started-clause-goes g c =
    let at : c.args.self.now ≡ Some c.in-Some.writer = search rules in
    let is = c.in-Ok.ensures in
    let old = g.B.Blob.life c.args.blob.now in
    let new = g.B.Blob.life c.start_sync.new.blob in
    let whole = is.ready.0 (record { sound = sound_in g.H.Sum.sum_of c.args.self.now c.in-Some.writer (g.B.Blob.life c.args.blob.now).present at c.requires.sound; can = can_in c.args.self.now c.in-Some.writer c.args.cache.now (g.B.Blob.life c.args.blob.now).present at c.requires.cached; fresh = c.requires.fresh }) in
    let says : StartSays g.H.Sum.sum_of c.in-Some.writer c.args.cache.now c.start_sync.new.cache old new (Ok (c.in-Ok.writer, c.in-Ok.started)) = record { goes = is.goes; owes = is.owes; costs = is.costs } in
    search rules

pub returns-in-Err-clause-goes : goal.returns-in-Err-clause-goes
returns-in-Err-clause-goes g c =
    let at : c.args.self.now ≡ Some c.in-Some.writer = search rules in
    let none : c.take.new.self ≡ None = search rules in
    let is = c.in-Err.ensures in
    let old = g.B.Blob.life c.args.blob.now in
    let new = g.B.Blob.life c.start_sync.new.blob in
    subst (λ (o : Option WriterState). DidStartSync g.H.Sum.sum_of o c.take.new.self c.args.names.now.items c.make_room.new.self.items c.args.cache.now c.start_sync.new.cache old new (Fault c.in-Err.error)) (sym at)
    (inl (none, search rules, record { goes = is.goes; owes = is.owes; costs = is.costs }))

pub returns-after-started-clause-tails : goal.returns-after-started-clause-tails
returns-after-started-clause-tails g c =
    let at : c.args.self.now ≡ Some c.in-Some.writer = search rules in
    leaves_on g.H.Sum.sum_of c.args.self.now c.in-Some.writer c.in-Ok.writer c.args.cache.now c.start_sync.new.cache (g.B.Blob.life c.args.blob.now) (g.B.Blob.life c.start_sync.new.blob) at c.in-Ok.ensures.goes.goes.holds.same c.in-Ok.ensures.owes.tails c.in-Ok.ensures.owes.replays c.in-Ok.ensures.owes.others c.in-Ok.ensures.owes.cached.settings

pub returns-in-Err-clause-tails : goal.returns-in-Err-clause-tails
returns-in-Err-clause-tails g c =
    let at : c.args.self.now ≡ Some c.in-Some.writer = search rules in
    let none : c.take.new.self ≡ None = search rules in
    leaves_gone g.H.Sum.sum_of c.args.self.now c.take.new.self c.in-Some.writer c.args.cache.now c.start_sync.new.cache (g.B.Blob.life c.args.blob.now) (g.B.Blob.life c.start_sync.new.blob) at none c.in-Err.ensures.owes.tails c.in-Err.ensures.owes.replays c.in-Err.ensures.owes.others c.in-Err.ensures.owes.cached.settings

pub returns-after-started-clause-cached : goal.returns-after-started-clause-cached
returns-after-started-clause-cached g c =
    let at : c.args.self.now ≡ Some c.in-Some.writer = search rules in
    let ready = c.in-Ok.ensures.ready.0 (record { sound = sound_in g.H.Sum.sum_of c.args.self.now c.in-Some.writer (g.B.Blob.life c.args.blob.now).present at c.requires.sound; can = can_in c.args.self.now c.in-Some.writer c.args.cache.now (g.B.Blob.life c.args.blob.now).present at c.requires.cached; fresh = c.requires.fresh }) in
    let can = ready.can in
    search rules
