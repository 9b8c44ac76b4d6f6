use Rattle.std.proofs.Common.{◌≡◌, drop}
use Rattle.disk.specs.History.{operations_of}
use Rattle.disk.specs.Torn.{torn}
use Rattle.disk.proofs.action.tear.Given as goal

-- the events that are left, with the flags that are left, lead to the same image
abbrev pub invariant-loop-event : goal.invariant-loop-event
invariant-loop-event l =
    torn l.rest (operations_of (drop l.event-index l.events)) l.image.items ≡ torn l.keep (operations_of l.events) l.fn.image.items
