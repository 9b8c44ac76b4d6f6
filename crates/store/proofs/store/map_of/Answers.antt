use Rattle.store.proofs.Changes.{map_refused}
use Rattle.store.proofs.store.map_of.Goals as goal

pub returns-in_err-set : goal.returns-in_err-set
returns-in_err-set c = map_refused c.args.records.now c.from_residual.result c.in_err-set.field-0.0 c.from_residual.ensures.1 c.in_err-set.ensures.err
