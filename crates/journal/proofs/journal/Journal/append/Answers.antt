use Rattle.std.proofs.Common.{◌++◌, subst, sym, Err, Ok}
use Rattle.writer_state.specs.Sound.{content}
use Rattle.writer_state.specs.WriterState.{WriterState}
use Rattle.paged.specs.Owes.{Owes}
use Rattle.paged.specs.Costs.{AppendCosts}
use Rattle.paged.specs.Goes.{AppendGoes}
use Rattle.journal.proofs.journal.Journal.append.Goals as goal

pub returns-in-Err-clause-goes : goal.returns-in-Err-clause-goes
returns-in-Err-clause-goes g c =
    subst (λ (w : WriterState). AppendGoes g.H.Sum.sum_of w c.args.bytes.now (g.B.Blob.life c.args.blob.now) (g.B.Blob.life c.append.new.blob) (Err c.in-Err.error)) c.self.view_is c.in-Err.ensures.goes

pub returns-in-Err-clause-owes : goal.returns-in-Err-clause-owes
returns-in-Err-clause-owes g c =
    let old = g.B.Blob.life c.args.blob.now in
    subst (λ (w : WriterState). Owes g.H.Sum.sum_of w (content w old.present.readable ++ c.args.bytes.now) c.args.cache.now c.append.new.cache old (g.B.Blob.life c.append.new.blob)) c.self.view_is c.append.ensures.owes

pub returns-in-Ok-clause-owes : goal.returns-in-Ok-clause-owes
returns-in-Ok-clause-owes g c =
    let old = g.B.Blob.life c.args.blob.now in
    subst (λ (w : WriterState). Owes g.H.Sum.sum_of w (content w old.present.readable ++ c.args.bytes.now) c.args.cache.now c.append.new.cache old (g.B.Blob.life c.append.new.blob)) c.self.view_is c.append.ensures.owes

pub returns-in-Err-clause-costs : goal.returns-in-Err-clause-costs
returns-in-Err-clause-costs g c =
    subst (λ (w : WriterState). AppendCosts w c.args.bytes.now c.args.cache.now c.append.new.cache (g.B.Blob.life c.args.blob.now) (g.B.Blob.life c.append.new.blob) (Err c.in-Err.error)) c.self.view_is c.in-Err.ensures.costs

pub returns-in-Ok-clause-costs : goal.returns-in-Ok-clause-costs
returns-in-Ok-clause-costs g c =
    let old = g.B.Blob.life c.args.blob.now in
    let new = g.B.Blob.life c.append.new.blob in
    let offset = c.in-Ok.offset in
    subst (λ (w : WriterState). AppendCosts w c.args.bytes.now c.args.cache.now c.append.new.cache old new (Ok (c.new.result, offset))) c.self.view_is
    (subst (λ (v : WriterState). AppendCosts c.self.inside.writer c.args.bytes.now c.args.cache.now c.append.new.cache old new (Ok (v, offset))) (sym c.new.ensures) c.in-Ok.ensures.costs)
