use Rattle.std.proofs.Common.{rules, ◌≡◌, true, Some, None, refl, sym, subst}
use Rattle.std.specs.Prelude.{Option}
use Rattle.writer_state.specs.WriterState.{WriterState}
use Rattle.session.specs.declared.steps.Reply.TheVariants.{Length, Fault}
use Rattle.session.specs.Calls.{DidTruncate}
use Rattle.session.proofs.Below.{sound_in, can_in}
use Rattle.session.proofs.OtherWriters.{others_gone, others_on}
use Rattle.session.proofs.held.Held+B+H+Recovering.truncate.Goals as goal

pub returns-in-Ok-clause-goes : goal.returns-in-Ok-clause-goes
returns-in-Ok-clause-goes g c =
    let at : c.args.self.now ≡ Some c.in-Some.writer = search rules in
    let is = c.in-Ok.ensures in
    subst (λ (o : Option WriterState). DidTruncate g.H.Sum.sum_of true o (Some c.in-Ok.writer) c.args.size c.args.cache.now c.truncate.new.cache (g.B.Blob.life c.args.blob.now) (g.B.Blob.life c.truncate.new.blob) (Length c.size-size.result)) (sym at)
    (c.in-Ok.writer, refl, search rules, record { goes = is.goes; owes = is.owes; costs = is.costs })

pub returns-in-Err-clause-goes : goal.returns-in-Err-clause-goes
returns-in-Err-clause-goes g c =
    let at : c.args.self.now ≡ Some c.in-Some.writer = search rules in
    let none : c.take.new.self ≡ None = search rules in
    let is = c.in-Err.ensures in
    subst (λ (o : Option WriterState). DidTruncate g.H.Sum.sum_of true o c.take.new.self c.args.size c.args.cache.now c.truncate.new.cache (g.B.Blob.life c.args.blob.now) (g.B.Blob.life c.truncate.new.blob) (Fault c.in-Err.error)) (sym at)
    (none, record { goes = is.goes; owes = is.owes; costs = is.costs })

pub returns-in-Ok-clause-cached : goal.returns-in-Ok-clause-cached
returns-in-Ok-clause-cached g c =
    let at : c.args.self.now ≡ Some c.in-Some.writer = search rules in
    c.in-Ok.ensures.goes.reads (can_in c.args.self.now c.in-Some.writer c.args.cache.now (g.B.Blob.life c.args.blob.now).present at c.requires.cached)

pub returns-in-Ok-clause-fresh_ids : goal.returns-in-Ok-clause-fresh_ids
returns-in-Ok-clause-fresh_ids g c =
    let at : c.args.self.now ≡ Some c.in-Some.writer = search rules in
    c.in-Ok.ensures.owes.fresh (can_in c.args.self.now c.in-Some.writer c.args.cache.now (g.B.Blob.life c.args.blob.now).present at c.requires.cached).given

pub returns-in-Err-clause-fresh_ids : goal.returns-in-Err-clause-fresh_ids
returns-in-Err-clause-fresh_ids g c =
    let at : c.args.self.now ≡ Some c.in-Some.writer = search rules in
    c.in-Err.ensures.owes.fresh (can_in c.args.self.now c.in-Some.writer c.args.cache.now (g.B.Blob.life c.args.blob.now).present at c.requires.cached).given

pub returns-in-Ok-clause-others : goal.returns-in-Ok-clause-others
returns-in-Ok-clause-others g c =
    let at : c.args.self.now ≡ Some c.in-Some.writer = search rules in
    let sound = sound_in g.H.Sum.sum_of c.args.self.now c.in-Some.writer (g.B.Blob.life c.args.blob.now).present at c.requires.sound in
    let is = c.in-Ok.ensures in
    others_on c.args.self.now c.in-Some.writer c.in-Ok.writer c.args.cache.now c.truncate.new.cache at is.goes.answers.same.id is.owes.others (is.owes.cached sound).settings

pub returns-in-Err-clause-others : goal.returns-in-Err-clause-others
returns-in-Err-clause-others g c =
    let at : c.args.self.now ≡ Some c.in-Some.writer = search rules in
    let none : c.take.new.self ≡ None = search rules in
    let sound = sound_in g.H.Sum.sum_of c.args.self.now c.in-Some.writer (g.B.Blob.life c.args.blob.now).present at c.requires.sound in
    let is = c.in-Err.ensures in
    others_gone c.args.self.now c.take.new.self c.in-Some.writer c.args.cache.now c.truncate.new.cache at none is.owes.others (is.owes.cached sound).settings
