use Rattle.std.proofs.Common.{rules, inl, inr, refl}
use Rattle.std.proofs.lemmas.Result.{err_from_is_err_and}
use Rattle.disk.specs.History.{life_of}
use Rattle.disk.specs.Torn.{torn}
use Rattle.session.proofs.OtherLaws.{others_anew, others_closed, others_unchanged}
use Rattle.session.proofs.PromiseLaws.{left_back, crashed_leads}
use Rattle.session.proofs.recoveries.Session+MemBlob+H.crash_and_recover.Goals as goal

pub returns-in_err-crash-clause-goes : goal.returns-in_err-crash-clause-goes
returns-in_err-crash-clause-goes g c =
    let is = c.in_err-crash.ensures in
    let p = err_from_is_err_and c.from_residual.result c.from_residual.ensures.1 in
    rw (p.1, p.2) (record { stands = tt; steps = tt; gives = tt; refused = inl (is.err, is.same.0, is.same.1, refl) })

pub returns-in_err-self-inside-clause-goes : goal.returns-in_err-self-inside-clause-goes
returns-in_err-self-inside-clause-goes g c =
    let is = c.in_ok-crash.ensures in
    let p = err_from_is_err_and c.from_residual-in_err-self-inside.result c.from_residual-in_err-self-inside.ensures.1 in
    rw (p.1, p.2) (record { stands = tt; steps = tt; gives = tt; refused = inr (is.closed, (life_of c.crash.new.blob, is.crashed, is.left, c.in_err-self-inside.ensures.goes.begins)) })

pub returns-in_err-self-inside-clause-later : goal.returns-in_err-self-inside-clause-later
returns-in_err-self-inside-clause-later g c =
    let d = (life_of c.args.blob.now).present in
    crashed_leads g.H.Sum.sum_of c.args.cache.now.page_size d (torn c.args.keep.now d.since d.base) (life_of c.crash.new.blob) (life_of c.recover.new.blob) c.in_ok-crash.ensures.crashed c.in_ok-crash.ensures.left
    c.recover.ensures.owes.attempts

pub returns-clause-goes : goal.returns-clause-goes
returns-clause-goes g c =
    let d = (life_of c.args.blob.now).present in
    let begun = c.in_ok-self-inside.ensures.goes.begins in
    record {
      stands = search rules;
      steps = search rules;
      gives = left_back g.H.Sum.sum_of c.args.cache.now.page_size d (life_of c.crash.new.blob).present (torn c.args.keep.now d.since d.base) c.in_ok-crash.ensures.crashed c.in_ok-crash.ensures.left
          c.in_ok-self-inside.ensures.goes.gives.recovered;
      refused = tt;
    }

pub returns-clause-later : goal.returns-clause-later
returns-clause-later g c =
    let d = (life_of c.args.blob.now).present in
    crashed_leads g.H.Sum.sum_of c.args.cache.now.page_size d (torn c.args.keep.now d.since d.base) (life_of c.crash.new.blob) (life_of c.recover.new.blob) c.in_ok-crash.ensures.crashed c.in_ok-crash.ensures.left
    c.recover.ensures.owes.attempts

pub returns-in_err-crash-clause-others_anew : goal.returns-in_err-crash-clause-others_anew
returns-in_err-crash-clause-others_anew g c = others_unchanged c.args.self.now c.crash.new.self c.args.cache.now c.in_err-crash.ensures.same.0

pub returns-in_err-self-inside-clause-others_anew : goal.returns-in_err-self-inside-clause-others_anew
returns-in_err-self-inside-clause-others_anew g c = others_closed c.args.self.now c.crash.new.self c.args.cache.now c.recover.new.cache c.in_ok-crash.ensures.closed c.recover.ensures.owes.others

pub returns-clause-others_anew : goal.returns-clause-others_anew
returns-clause-others_anew g c =
    let leaves = others_anew c.args.self.now c.in_ok-self-inside.field-0 c.args.cache.now c.recover.new.cache c.in_ok-self-inside.ensures.goes.apart c.recover.ensures.owes.others in
    search rules
