use Rattle.std.proofs.Common.{ap, ◌∙◌}
use Rattle.std.specs.FinMap as map
use Rattle.store.proofs.Maps.{removed}
use Rattle.store.proofs.map.Map.remove.Goals as goal

pub returns : goal.returns
returns c =
    removed c.self.inside.entries c.remove.new.self c.args.key.now c.remove.ensures.updates
    ∙ ap (λ m. map.remove m c.args.key.now) c.self.view_is
