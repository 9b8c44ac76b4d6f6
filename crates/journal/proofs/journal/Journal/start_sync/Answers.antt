use Rattle.std.proofs.Common.{Ok, Err, subst, sym}
use Rattle.writer_state.specs.Sound.{content}
use Rattle.writer_state.specs.WriterState.{WriterState}
use Rattle.paged.specs.Owes.{Owes}
use Rattle.paged.specs.Costs.{StartSyncCosts}
use Rattle.paged.specs.Goes.{StartSyncGoes}
use Rattle.journal.proofs.journal.Journal.start_sync.Goals as goal

pub returns-in-Err-clause-owes : goal.returns-in-Err-clause-owes
returns-in-Err-clause-owes g c =
    let old = g.B.Blob.life c.args.blob.now in
    subst (λ (w : WriterState). Owes g.H.Sum.sum_of w (content w old.present.readable) c.args.cache.now c.start_sync.new.cache old (g.B.Blob.life c.start_sync.new.blob)) c.self.view_is c.start_sync.ensures.owes

pub returns-in-Ok-clause-owes : goal.returns-in-Ok-clause-owes
returns-in-Ok-clause-owes g c =
    let old = g.B.Blob.life c.args.blob.now in
    subst (λ (w : WriterState). Owes g.H.Sum.sum_of w (content w old.present.readable) c.args.cache.now c.start_sync.new.cache old (g.B.Blob.life c.start_sync.new.blob)) c.self.view_is c.start_sync.ensures.owes

pub returns-in-Ok-clause-goes : goal.returns-in-Ok-clause-goes
returns-in-Ok-clause-goes g c =
    let old = g.B.Blob.life c.args.blob.now in
    let new = g.B.Blob.life c.start_sync.new.blob in
    let started = c.in-Ok.started in
    subst (λ (w : WriterState). StartSyncGoes g.H.Sum.sum_of w old new (Ok (c.new.result, started))) c.self.view_is
    (subst (λ (v : WriterState). StartSyncGoes g.H.Sum.sum_of c.self.inside.writer old new (Ok (v, started))) (sym c.new.ensures) c.in-Ok.ensures.goes)

pub returns-in-Err-clause-costs : goal.returns-in-Err-clause-costs
returns-in-Err-clause-costs g c =
    subst (λ (w : WriterState). StartSyncCosts w c.args.cache.now c.start_sync.new.cache (g.B.Blob.life c.args.blob.now) (g.B.Blob.life c.start_sync.new.blob) (Err c.in-Err.error)) c.self.view_is c.in-Err.ensures.costs

pub returns-in-Ok-clause-costs : goal.returns-in-Ok-clause-costs
returns-in-Ok-clause-costs g c =
    let old = g.B.Blob.life c.args.blob.now in
    let new = g.B.Blob.life c.start_sync.new.blob in
    let started = c.in-Ok.started in
    subst (λ (w : WriterState). StartSyncCosts w c.args.cache.now c.start_sync.new.cache old new (Ok (c.new.result, started))) c.self.view_is
    (subst (λ (v : WriterState). StartSyncCosts c.self.inside.writer c.args.cache.now c.start_sync.new.cache old new (Ok (v, started))) (sym c.new.ensures) c.in-Ok.ensures.costs)
