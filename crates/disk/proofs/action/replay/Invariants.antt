use Rattle.std.proofs.Common.{◌≡◌, drop}
use Rattle.disk.specs.History.{replayed}
use Rattle.disk.proofs.action.replay.Given as goal

-- the events that are left lead to the same bytes
abbrev pub invariant-loop-event : goal.invariant-loop-event
invariant-loop-event l = replayed (drop l.event-index l.events) l.bytes.items ≡ replayed l.events l.first
