use Rattle.std.proofs.Common.{refl}
use Rattle.segments.proofs.Removals.{well_more}
use Rattle.segments.proofs.dropping.remove_before.Goals as goal

pub returns-in-Ok-sync-clause-ends : goal.returns-in-Ok-sync-clause-ends
returns-in-Ok-sync-clause-ends g c =
    ((_, c.in-Ok-sync.ensures.asked), well_more _ _ _ _ c.in-Ok.ensures.done c.in-Ok-sync.ensures.asked refl)
