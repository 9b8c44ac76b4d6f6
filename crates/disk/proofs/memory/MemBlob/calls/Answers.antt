use Rattle.std.proofs.Common.{◌∙◌, ap, map}
use Rattle.disk.proofs.Histories.{requests_of_entries}
use Rattle.disk.proofs.memory.MemBlob.calls.Goals as goal

pub returns : goal.returns
returns c =
    rw (c.deref.ensures.value, ← c.self.view_is) (requests_of_entries c.self.inside.calls.items c.self.inside.failed.items c.self.invariant.outcomes ∙ ap (map (λ e. e.request)) c.self.invariant.log)
