use Rattle.std.specs.Prelude.{◌≡◌, ◌<◌, ◌≤◌, ◌+◌, length}
use Rattle.std.proofs.Common.{◌∙◌, ap, arith, refl, subst, sym}
use Rattle.std.proofs.lemmas.Bool.{le-leb, lt-leb}
use Rattle.segments.specs.Recent.{kept_from}
use Rattle.segments.proofs.Recents.{IsTurned, all_turned, front_there, turned_off, turned_on}
use Rattle.segments.proofs.recent.Recent.let_go_before.Goals as goal
use Rattle.segments.proofs.recent.Recent.let_go_before.Goals.{then-first-number, else-first-number}

pub remove-segment-requires : goal.remove-segment-requires
remove-segment-requires g c =
    let old = c.self.inside.segments.items in
    let more : c.loop-turn._turn < length old = omega (arith, c.loop-turn-test.true, c.len-turn-end.ensures) in
    let some = front_there c.args.first old c.loop-turn._turn c.loop-turn.self-inside.segments.items more c.loop-turn.invariant.2 in
    omega (arith, some)

pub loop-turn-preserved : goal.loop-turn-preserved
loop-turn-preserved g c =
    let old = c.self.inside.segments.items in
    let now = c.loop-turn.self-inside.segments.items in
    let more : c.loop-turn._turn < length old = omega (arith, c.loop-turn-test.true, c.len-turn-end.ensures) in
    let front = c.remove-segment.ensures.value in
    let left = c.remove-segment.ensures.by_index.2 in
    elim c.if-first-number.branch [
      | then-first-number w ↦
          let turned = turned_on c.args.first old c.loop-turn._turn now c.remove-segment.new.self.items w.push_reserved.new.self.items c.remove-segment.result more c.loop-turn.invariant.2 front left (le-leb c.args.first c.remove-segment.result.number (omega (arith, w.if-first-number.true, c.number.ensures))) w.push_reserved.ensures.items in
          subst (λ s. (8 ≤ s.segments.cap) × (c.args.first ≡ c.args.first) × IsTurned c.args.first old (c.loop-turn._turn + 1) s.segments.items) (sym w.self-inside-is)
          (omega (arith, c.loop-turn.invariant.0, c.remove-segment.ensures.capacity, w.push_reserved.ensures.capacity), refl, turned)
      | else-first-number w ↦
          let turned = turned_off c.args.first old c.loop-turn._turn now c.remove-segment.new.self.items c.remove-segment.result more c.loop-turn.invariant.2 front left (lt-leb c.args.first c.remove-segment.result.number (omega (arith, w.if-first-number.false, c.number.ensures))) in
          subst (λ s. (8 ≤ s.segments.cap) × (c.args.first ≡ c.args.first) × IsTurned c.args.first old (c.loop-turn._turn + 1) s.segments.items) (sym w.self-inside-is)
          (omega (arith, c.loop-turn.invariant.0, c.remove-segment.ensures.capacity), refl, turned)
    ]

pub returns : goal.returns
returns g c =
    all_turned c.args.first c.self.inside.segments.items c.loop-turn._turn c.loop-turn.self-inside.segments.items (omega (arith, c.loop-turn-test.false, c.len-turn-end.ensures)) c.loop-turn.invariant.2
    ∙ ap (λ l. kept_from c.args.first l) c.self.view_is
