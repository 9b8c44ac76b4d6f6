use Rattle.std.specs.Int.NonZero.{non_zero_u16_get}
use Rattle.std.proofs.Common.{◌∙◌, subst}
use Rattle.segments.specs.Log.{HasOpened, LeavesOpened}
use Rattle.segments.proofs.Opened.{opened_has, opened_leaves}
use Rattle.segments.proofs.opening.recover.Goals as goal

pub returns-in-Ok-clause-leaves : goal.returns-in-Ok-clause-leaves
returns-in-Ok-clause-leaves g c =
    let sum = g.H.Sum.sum_of in
    let own = g.R.Sum.sum_of in
    let P = non_zero_u16_get c.args.options.page_size in
    subst (λ old. LeavesOpened sum own P old c.recover.new.self) c.in_ok-owned.ensures.life
    (opened_leaves sum own P c.in_ok-owned.owned.cache c.recover.new.self.cache c.in_ok-owned.owned.life c.recover.new.self.life c.in_ok-owned.ensures.cache c.recover.ensures.leaves)

pub returns-in-Ok-clause-has : goal.returns-in-Ok-clause-has
returns-in-Ok-clause-has g c =
    let sum = g.H.Sum.sum_of in
    let own = g.R.Sum.sum_of in
    let P = non_zero_u16_get c.args.options.page_size in
    subst (λ old. HasOpened sum own P old c.recover.new.self c.in-Ok.records.items) c.in_ok-owned.ensures.life
    (opened_has sum own P c.in_ok-owned.owned.cache c.args.options.capacity c.in_ok-owned.owned.life c.recover.new.self c.in-Ok.records c.in_ok-owned.ensures.cache c.recover.ensures.ready
    (c.recover.ensures.page_size ∙ c.in_ok-owned.ensures.page_size) c.in-Ok.ensures.goes)
