use Rattle.std.proofs.Common.{rules, ◌≡◌, inl, Some, None, refl, sym, subst}
use Rattle.std.specs.Prelude.{Option}
use Rattle.writer_state.specs.WriterState.{WriterState}
use Rattle.session.specs.declared.steps.Reply.TheVariants.{Done, Fault}
use Rattle.session.specs.Calls.{Waits}
use Rattle.session.proofs.Below.{can_in, leaves_on, leaves_gone, sound_in}
use Rattle.session.proofs.OtherWriters.{settings_same}
use Rattle.session.proofs.WordLaws.{wait_reads}
use Rattle.session.proofs.held.Held.wait_for_sync.Goals as goal

pub wait_for_sync-requires : goal.wait_for_sync-requires
wait_for_sync-requires g c =
    let at : c.args.self.now ≡ Some c.in-Some.writer = search rules in
    record { sound = inl (sound_in g.H.Sum.sum_of c.args.self.now c.in-Some.writer (g.B.Blob.life c.args.blob.now).present at c.requires.sound) }

pub returns-in-Ok-clause-goes : goal.returns-in-Ok-clause-goes
returns-in-Ok-clause-goes g c =
    let at : c.args.self.now ≡ Some c.in-Some.writer = search rules in
    let is = c.in-Ok.ensures in
    let old = g.B.Blob.life c.args.blob.now in
    let new = g.B.Blob.life c.wait_for_sync.new.blob in
    subst (λ (o : Option WriterState). Waits g.H.Sum.sum_of o (Some c.in-Ok.writer) old new Done) (sym at)
    (c.in-Ok.writer, refl, record { goes = is.goes; owes = is.owes; costs = is.costs })

pub returns-in-Err-clause-goes : goal.returns-in-Err-clause-goes
returns-in-Err-clause-goes g c =
    let at : c.args.self.now ≡ Some c.in-Some.writer = search rules in
    let none : c.take.new.self ≡ None = search rules in
    let is = c.in-Err.ensures in
    let old = g.B.Blob.life c.args.blob.now in
    let new = g.B.Blob.life c.wait_for_sync.new.blob in
    subst (λ (o : Option WriterState). Waits g.H.Sum.sum_of o c.take.new.self old new (Fault c.in-Err.error)) (sym at)
    (none, record { goes = is.goes; owes = is.owes; costs = is.costs })

pub returns-in-Ok-clause-cached : goal.returns-in-Ok-clause-cached
returns-in-Ok-clause-cached g c =
    let at : c.args.self.now ≡ Some c.in-Some.writer = search rules in
    λ cache fits. wait_reads g.H.Sum.sum_of c.in-Some.writer (g.B.Blob.life c.args.blob.now) (g.B.Blob.life c.wait_for_sync.new.blob) c.in-Ok.writer c.in-Ok.ensures.goes cache (can_in c.args.self.now c.in-Some.writer cache (g.B.Blob.life c.args.blob.now).present at fits)

pub returns-in-Ok-clause-tails : goal.returns-in-Ok-clause-tails
returns-in-Ok-clause-tails g c =
    let at : c.args.self.now ≡ Some c.in-Some.writer = search rules in
    λ cache fits.
    leaves_on g.H.Sum.sum_of c.args.self.now c.in-Some.writer c.in-Ok.writer cache cache (g.B.Blob.life c.args.blob.now) (g.B.Blob.life c.wait_for_sync.new.blob) at c.in-Ok.ensures.goes.holds.same
    (c.in-Ok.ensures.owes.tails cache (can_in c.args.self.now c.in-Some.writer cache (g.B.Blob.life c.args.blob.now).present at fits).page_size) c.in-Ok.ensures.owes.replays (λ t d other can. can) (settings_same cache)

pub returns-in-Err-clause-tails : goal.returns-in-Err-clause-tails
returns-in-Err-clause-tails g c =
    let at : c.args.self.now ≡ Some c.in-Some.writer = search rules in
    let none : c.take.new.self ≡ None = search rules in
    λ cache fits.
    leaves_gone g.H.Sum.sum_of c.args.self.now c.take.new.self c.in-Some.writer cache cache (g.B.Blob.life c.args.blob.now) (g.B.Blob.life c.wait_for_sync.new.blob) at none
    (c.in-Err.ensures.owes.tails cache (can_in c.args.self.now c.in-Some.writer cache (g.B.Blob.life c.args.blob.now).present at fits).page_size) c.in-Err.ensures.owes.replays (λ t d other can. can) (settings_same cache)
