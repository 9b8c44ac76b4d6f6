use Rattle.std.proofs.Common.{ap, ap₂, ◌∙◌}
use Rattle.std.specs.FinMap as map
use Rattle.store.proofs.Maps.{inserted}
use Rattle.store.proofs.map.Map.insert.Goals as goal

pub returns-clause-insert : goal.returns-clause-insert
returns-clause-insert c =
    inserted c.self.inside.entries c.insert.new.self c.in_ok-key.key c.in_ok-value.value c.in_ok-insert.ensures.updates
    ∙ ap (λ m. map.insert m c.in_ok-key.key.items c.in_ok-value.value.items) c.self.view_is
    ∙ ap₂ (map.insert c.args.self.now) c.in_ok-key.ensures.items c.in_ok-value.ensures.items
