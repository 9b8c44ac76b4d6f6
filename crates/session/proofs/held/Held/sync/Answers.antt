use Rattle.std.proofs.Common.{rules, ◌≡◌, inl, Some, None, refl, sym, subst}
use Rattle.std.specs.Prelude.{Option}
use Rattle.writer_state.specs.WriterState.{WriterState}
use Rattle.session.specs.declared.steps.Reply.TheVariants.{Done, Fault}
use Rattle.session.specs.Calls.{DidSync}
use Rattle.session.proofs.Below.{can_in, leaves_on, leaves_gone, sound_in}
use Rattle.session.proofs.held.Held.sync.Goals as goal

pub sync-requires : goal.sync-requires
sync-requires g c =
    let at : c.args.self.now ≡ Some c.in-Some.writer = search rules in
    let d = (g.B.Blob.life c.args.blob.now).present in
    record { ready = inl (record { sound = sound_in g.H.Sum.sum_of c.args.self.now c.in-Some.writer d at c.requires.sound; can = can_in c.args.self.now c.in-Some.writer c.args.cache.now d at c.requires.cached; fresh = c.requires.fresh }) }

pub returns-in-Ok-clause-goes : goal.returns-in-Ok-clause-goes
returns-in-Ok-clause-goes g c =
    let at : c.args.self.now ≡ Some c.in-Some.writer = search rules in
    let is = c.in-Ok.ensures in
    let old = g.B.Blob.life c.args.blob.now in
    let new = g.B.Blob.life c.sync.new.blob in
    subst (λ (o : Option WriterState). DidSync g.H.Sum.sum_of o (Some c.in-Ok.writer) c.args.cache.now c.sync.new.cache old new Done) (sym at) (
      c.in-Ok.writer,
      refl,
      is.ready.0 (record { sound = sound_in g.H.Sum.sum_of c.args.self.now c.in-Some.writer (g.B.Blob.life c.args.blob.now).present at c.requires.sound; can = can_in c.args.self.now c.in-Some.writer c.args.cache.now (g.B.Blob.life c.args.blob.now).present at c.requires.cached; fresh = c.requires.fresh }),
      record { goes = is.goes; owes = is.owes; costs = is.costs },
    )

pub returns-in-Err-clause-goes : goal.returns-in-Err-clause-goes
returns-in-Err-clause-goes g c =
    let at : c.args.self.now ≡ Some c.in-Some.writer = search rules in
    let none : c.take.new.self ≡ None = search rules in
    let is = c.in-Err.ensures in
    let old = g.B.Blob.life c.args.blob.now in
    let new = g.B.Blob.life c.sync.new.blob in
    subst (λ (o : Option WriterState). DidSync g.H.Sum.sum_of o c.take.new.self c.args.cache.now c.sync.new.cache old new (Fault c.in-Err.error)) (sym at) (
      none,
      record { goes = is.goes; owes = is.owes; costs = is.costs },
    )

pub returns-in-Ok-clause-tails : goal.returns-in-Ok-clause-tails
returns-in-Ok-clause-tails g c =
    let at : c.args.self.now ≡ Some c.in-Some.writer = search rules in
    leaves_on g.H.Sum.sum_of c.args.self.now c.in-Some.writer c.in-Ok.writer c.args.cache.now c.sync.new.cache (g.B.Blob.life c.args.blob.now) (g.B.Blob.life c.sync.new.blob) at c.in-Ok.ensures.goes.holds.same c.in-Ok.ensures.owes.tails c.in-Ok.ensures.owes.replays c.in-Ok.ensures.owes.others c.in-Ok.ensures.owes.cached.settings

pub returns-in-Err-clause-tails : goal.returns-in-Err-clause-tails
returns-in-Err-clause-tails g c =
    let at : c.args.self.now ≡ Some c.in-Some.writer = search rules in
    let none : c.take.new.self ≡ None = search rules in
    leaves_gone g.H.Sum.sum_of c.args.self.now c.take.new.self c.in-Some.writer c.args.cache.now c.sync.new.cache (g.B.Blob.life c.args.blob.now) (g.B.Blob.life c.sync.new.blob) at none c.in-Err.ensures.owes.tails c.in-Err.ensures.owes.replays c.in-Err.ensures.owes.others c.in-Err.ensures.owes.cached.settings

pub returns-in-Ok-clause-cached : goal.returns-in-Ok-clause-cached
returns-in-Ok-clause-cached g c =
    let at : c.args.self.now ≡ Some c.in-Some.writer = search rules in
    let ready = c.in-Ok.ensures.ready.0 (record { sound = sound_in g.H.Sum.sum_of c.args.self.now c.in-Some.writer (g.B.Blob.life c.args.blob.now).present at c.requires.sound; can = can_in c.args.self.now c.in-Some.writer c.args.cache.now (g.B.Blob.life c.args.blob.now).present at c.requires.cached; fresh = c.requires.fresh }) in
    let can = ready.can in
    search rules
