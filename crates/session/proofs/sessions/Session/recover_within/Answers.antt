use Rattle.std.proofs.Common.{ℕ, List, Err}
use Rattle.std.proofs.lemmas.Result.{err_from_is_err_and}
use Rattle.disk.specs.Disk.{Life}
use Rattle.cache.specs.CacheState.{CacheState}
use Rattle.paged.specs.declared.within.Refusal.{Refusal}
use Rattle.paged.specs.declared.within.Refusal.TheVariants.{WouldCut, Failed}
use Rattle.paged.specs.Within.{GivesIdWithin as WriterGivesIdWithin, RecoversWithin}
use Rattle.session.specs.Within.{BeginsWithin, GivesSessionIdWithin}
use Rattle.session.proofs.OtherLaws.{begun_apart}
use Rattle.session.proofs.PromiseLaws.{begun, gives_back, attempts_through}
use Rattle.session.proofs.sessions.Session.recover_within.Goals as goal

-- a refusal, by which it is
begins_within : (sum : List ℕ → ℕ) (cache : CacheState) (capacity allowed : ℕ) (old new : Life) (e : Refusal) → RecoversWithin sum cache capacity allowed old new (Err e) → BeginsWithin sum cache capacity allowed old new (Err e)
begins_within sum cache capacity allowed old new (WouldCut cut) recovers = recovers
begins_within sum cache capacity allowed old new (Failed e) recovers = recovers

gives_within : (e : Refusal) (cache after : CacheState) → WriterGivesIdWithin (Err e) cache after → GivesSessionIdWithin (Err e) cache after
gives_within (WouldCut cut) cache after gives = gives
gives_within (Failed e) cache after gives = gives

pub returns-in_err-writer-clause-goes : goal.returns-in_err-writer-clause-goes
returns-in_err-writer-clause-goes g c =
    let is = c.in_err-writer.ensures.goes in
    let old = g.B.Blob.life c.args.blob.now in
    let new = g.B.Blob.life c.recover_within.new.blob in
    let p = err_from_is_err_and c.from_residual.result c.from_residual.ensures.1 in
    rw (p.1, p.2) (record {
      begins = begins_within g.H.Sum.sum_of c.args.cache.now c.args.capacity c.args.allowed old new c.in_err-writer.field-0.0 is.answers;
      overflow = λ over. cc (is.overflow over);
      ids = gives_within c.in_err-writer.field-0.0 c.args.cache.now c.recover_within.new.cache is.ids;
      steps = tt;
      apart = tt;
      gives = tt;
    })

pub returns-in_err-writer-clause-ready : goal.returns-in_err-writer-clause-ready
returns-in_err-writer-clause-ready g c =
    let p = err_from_is_err_and c.from_residual.result c.from_residual.ensures.1 in
    rw (p.1) (λ fresh. tt)

pub returns-in_err-writer-clause-owes : goal.returns-in_err-writer-clause-owes
returns-in_err-writer-clause-owes g c =
    let is = c.recover_within.ensures.owes in
    record {
      attempts = attempts_through g.H.Sum.sum_of c.args.cache.now.page_size (g.B.Blob.life c.args.blob.now) (g.B.Blob.life c.recover_within.new.blob) (g.met.B.Blob.readable_is_image c.args.blob.now) is.floors is.only;
      fresh = is.fresh;
      others = is.others;
    }

pub returns-clause-goes : goal.returns-clause-goes
returns-clause-goes g c =
    let w = c.in_ok-writer.ensures.goes in
    let old = g.B.Blob.life c.args.blob.now in
    let new = g.B.Blob.life c.recover_within.new.blob in
    record {
      begins = (w.answers.0, begun g.H.Sum.sum_of c.in_ok-writer.writer c.new.result c.args.cache.now c.args.capacity old new c.new.ensures.writer w.answers.1 w.writer.within w.durable);
      overflow = λ over. absurd (cc (w.overflow over));
      ids = w.ids;
      steps = c.new.ensures.ready new.present w.answers.1.sound;
      apart = begun_apart c.in_ok-writer.writer c.new.result c.args.cache.now c.new.ensures.writer w.writer.id;
      gives = gives_back g.H.Sum.sum_of c.in_ok-writer.writer c.args.cache.now c.args.capacity old new (g.met.B.Blob.readable_is_image c.args.blob.now) w.answers.1;
    }

pub returns-clause-ready : goal.returns-clause-ready
returns-clause-ready g c = λ fresh.
    let ready = c.in_ok-writer.ensures.ready fresh in
    let d = (g.B.Blob.life c.recover_within.new.blob).present in
    record { steps = c.new.ensures.ready d ready.sound; cached = c.new.ensures.cached c.recover_within.new.cache d ready.can; fresh = ready.fresh }

pub returns-clause-owes : goal.returns-clause-owes
returns-clause-owes g c =
    let is = c.recover_within.ensures.owes in
    record {
      attempts = attempts_through g.H.Sum.sum_of c.args.cache.now.page_size (g.B.Blob.life c.args.blob.now) (g.B.Blob.life c.recover_within.new.blob) (g.met.B.Blob.readable_is_image c.args.blob.now) is.floors is.only;
      fresh = is.fresh;
      others = is.others;
    }
