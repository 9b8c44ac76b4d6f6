use Rattle.std.specs.Prelude.{◌≡◌, ◌≤◌}
use Rattle.segments.proofs.Recents.{IsTurned}
use Rattle.segments.proofs.recent.Recent.let_go_before.Given as goal

abbrev pub invariant-loop-turn : goal.invariant-loop-turn
invariant-loop-turn g l = (8 ≤ l.self-inside.segments.cap) × (l.first ≡ l.initial.first)
    × IsTurned l.first l.initial.self-inside.segments.items l._turn l.self-inside.segments.items
