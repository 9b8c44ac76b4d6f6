use Rattle.std.proofs.lemmas.Result.{err_from_is_err_and}
use Rattle.session.proofs.OtherLaws.{begun_apart}
use Rattle.session.proofs.PromiseLaws.{begun, gives_back, attempts_through}
use Rattle.session.proofs.sessions.Session.recover.Goals as goal

pub returns-in_err-writer-clause-goes : goal.returns-in_err-writer-clause-goes
returns-in_err-writer-clause-goes g c =
    let is = c.in_err-writer.ensures.goes in
    let old = g.B.Blob.life c.args.blob.now in
    let new = g.B.Blob.life c.recover.new.blob in
    let p = err_from_is_err_and c.from_residual.result c.from_residual.ensures.1 in
    rw (p.1, p.2) (record {
      begins = is.answers;
      overflow = λ over. cc (is.overflow over);
      ids = is.ids;
      steps = tt;
      apart = tt;
      gives = tt;
    })

pub returns-in_err-writer-clause-ready : goal.returns-in_err-writer-clause-ready
returns-in_err-writer-clause-ready g c =
    let p = err_from_is_err_and c.from_residual.result c.from_residual.ensures.1 in
    rw (p.1) (λ fresh. tt)

pub returns-in_err-writer-clause-owes : goal.returns-in_err-writer-clause-owes
returns-in_err-writer-clause-owes g c =
    let is = c.recover.ensures.owes in
    record {
      attempts = attempts_through g.H.Sum.sum_of c.args.cache.now.page_size (g.B.Blob.life c.args.blob.now) (g.B.Blob.life c.recover.new.blob) (g.met.B.Blob.readable_is_image c.args.blob.now) is.floors is.only;
      fresh = is.fresh;
      others = is.others;
    }

pub returns-clause-goes : goal.returns-clause-goes
returns-clause-goes g c =
    let w = c.in_ok-writer.ensures.goes in
    let old = g.B.Blob.life c.args.blob.now in
    let new = g.B.Blob.life c.recover.new.blob in
    record {
      begins = begun g.H.Sum.sum_of c.in_ok-writer.writer c.new.result c.args.cache.now c.args.capacity old new c.new.ensures.writer w.answers w.writer.within w.durable;
      overflow = λ over. absurd (cc (w.overflow over));
      ids = w.ids;
      steps = c.new.ensures.ready new.present w.answers.sound;
      apart = begun_apart c.in_ok-writer.writer c.new.result c.args.cache.now c.new.ensures.writer w.writer.id;
      gives = gives_back g.H.Sum.sum_of c.in_ok-writer.writer c.args.cache.now c.args.capacity old new (g.met.B.Blob.readable_is_image c.args.blob.now) w.answers;
    }

pub returns-clause-ready : goal.returns-clause-ready
returns-clause-ready g c = λ fresh.
    let ready = c.in_ok-writer.ensures.ready fresh in
    let d = (g.B.Blob.life c.recover.new.blob).present in
    record { steps = c.new.ensures.ready d ready.sound; cached = c.new.ensures.cached c.recover.new.cache d ready.can; fresh = ready.fresh }

pub returns-clause-owes : goal.returns-clause-owes
returns-clause-owes g c =
    let is = c.recover.ensures.owes in
    record {
      attempts = attempts_through g.H.Sum.sum_of c.args.cache.now.page_size (g.B.Blob.life c.args.blob.now) (g.B.Blob.life c.recover.new.blob) (g.met.B.Blob.readable_is_image c.args.blob.now) is.floors is.only;
      fresh = is.fresh;
      others = is.others;
    }
