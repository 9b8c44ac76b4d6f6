use Rattle.std.proofs.Common.{List, ℕ, subst}
use Rattle.session.specs.Calls.{AppendSays}
use Rattle.session.proofs.held.append_copy.Goals as goal

pub returns-in-Ok-clause-says : goal.returns-in-Ok-clause-says
returns-in-Ok-clause-says g c =
    let is = c.append_owned.ensures in
    let old = g.B.Blob.life c.args.blob.now in
    let new = g.B.Blob.life c.append_owned.new.blob in
    subst (λ (l : List ℕ). AppendSays g.H.Sum.sum_of c.args.writer l c.args.cache.now c.append_owned.new.cache old new c.append_owned.result) c.in-Ok.ensures.ok (record { goes = is.goes; owes = is.owes; costs = is.costs })

pub returns-in-Err-clause-says : goal.returns-in-Err-clause-says
returns-in-Err-clause-says g c = let is = c.append.ensures in record { goes = is.goes; owes = is.owes; costs = is.costs }
