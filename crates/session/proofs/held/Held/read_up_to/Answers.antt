use Rattle.std.proofs.Common.{sym, ◌∙◌, subst}
use Rattle.std.specs.Prelude.{Option}
use Rattle.writer_state.specs.WriterState.{WriterState}
use Rattle.paged.specs.Caches.{tail_of}
use Rattle.session.specs.declared.steps.Reply.TheVariants.{Bytes, Fault}
use Rattle.session.specs.Run.{FitsWriter}
use Rattle.session.specs.Calls.{DidReadUpTo}
use Rattle.session.proofs.Below.{can_in, leaves_same}
use Rattle.session.proofs.held.Held.read_up_to.Goals as goal

pub returns-in-Ok-clause-tails : goal.returns-in-Ok-clause-tails
returns-in-Ok-clause-tails g c =
    leaves_same g.H.Sum.sum_of c.args.self.now c.in-Some.writer c.args.cache.now c.read_up_to.new.cache (g.B.Blob.life c.args.blob.now) (g.B.Blob.life c.read_up_to.new.blob) (sym c.self.view_is ∙ c.in-Some.is) (λ t content under stands. c.in-Ok.ensures.leaves.tails t content stands) c.in-Ok.ensures.leaves.replays c.in-Ok.ensures.leaves.others c.in-Ok.ensures.leaves.cached.settings

pub returns-in-Err-clause-tails : goal.returns-in-Err-clause-tails
returns-in-Err-clause-tails g c =
    leaves_same g.H.Sum.sum_of c.args.self.now c.in-Some.writer c.args.cache.now c.read_up_to.new.cache (g.B.Blob.life c.args.blob.now) (g.B.Blob.life c.read_up_to.new.blob) (sym c.self.view_is ∙ c.in-Some.is) (λ t content under stands. c.in-Err.ensures.leaves.tails t content stands) c.in-Err.ensures.leaves.replays c.in-Err.ensures.leaves.others c.in-Err.ensures.leaves.cached.settings

pub returns-in-Ok-clause-goes : goal.returns-in-Ok-clause-goes
returns-in-Ok-clause-goes g c =
    let sum = g.H.Sum.sum_of in
    let old = g.B.Blob.life c.args.blob.now in
    let new = g.B.Blob.life c.read_up_to.new.blob in
    let at = sym c.self.view_is ∙ c.in-Some.is in
    let is = c.in-Ok.ensures in
    subst (λ (o : Option WriterState). DidReadUpTo sum o c.args.cache.now c.read_up_to.new.cache c.args.offset c.args.len old new (Bytes c.in-Ok.bytes)) (sym at)
    (record { reads = (c.in-Ok.field-0-1, record { goes = is.goes; costs = is.costs }); looked = is.leaves.looked })

pub returns-in-Ok-clause-cached : goal.returns-in-Ok-clause-cached
returns-in-Ok-clause-cached g c =
    let at = sym c.self.view_is ∙ c.in-Some.is in
    subst (λ (o : Option WriterState). FitsWriter o c.read_up_to.new.cache (g.B.Blob.life c.read_up_to.new.blob).present) (sym at)
    (c.in-Ok.ensures.leaves.can_read (tail_of c.in-Some.writer) (can_in c.args.self.now c.in-Some.writer c.args.cache.now (g.B.Blob.life c.args.blob.now).present at c.requires.cached))

pub returns-in-Err-clause-goes : goal.returns-in-Err-clause-goes
returns-in-Err-clause-goes g c =
    let sum = g.H.Sum.sum_of in
    let old = g.B.Blob.life c.args.blob.now in
    let new = g.B.Blob.life c.read_up_to.new.blob in
    let at = sym c.self.view_is ∙ c.in-Some.is in
    let is = c.in-Err.ensures in
    subst (λ (o : Option WriterState). DidReadUpTo sum o c.args.cache.now c.read_up_to.new.cache c.args.offset c.args.len old new (Fault c.in-Err.error)) (sym at)
    (record { reads = record { goes = is.goes; costs = is.costs }; looked = is.leaves.looked })

pub returns-in-Err-clause-cached : goal.returns-in-Err-clause-cached
returns-in-Err-clause-cached g c =
    let at = sym c.self.view_is ∙ c.in-Some.is in
    subst (λ (o : Option WriterState). FitsWriter o c.read_up_to.new.cache (g.B.Blob.life c.read_up_to.new.blob).present) (sym at)
    (c.in-Err.ensures.leaves.can_read (tail_of c.in-Some.writer) (can_in c.args.self.now c.in-Some.writer c.args.cache.now (g.B.Blob.life c.args.blob.now).present at c.requires.cached))
