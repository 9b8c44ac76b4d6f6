use Rattle.std.proofs.Common.{◌≡◌, ◌++◌, take, drop, map}
use Rattle.std.specs.Prelude.{None}
use Rattle.session.proofs.replays.forget.Given as goal

abbrev pub invariant-loop-index : goal.invariant-loop-index
invariant-loop-index g l = l.replays.items ≡ map (λ o. None) (take l.index l.initial.replays.items) ++ drop l.index l.initial.replays.items
