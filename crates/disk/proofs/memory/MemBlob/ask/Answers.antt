use Rattle.std.proofs.Common.{arith, ◌≡◌, ◌≤◌, ◌+◌, ◌==◌, ◌++◌, ◌∷◌, [], ℕ, List, length, ap, ap₂, ◌∙◌}
use Rattle.disk.specs.History.{redone}
use Rattle.disk.specs.Memory.{settled_after, starts_after}
use Rattle.disk.specs.declared.action.Start.{Start}
use Rattle.disk.proofs.Histories.{kept_next, told_next, faults_le, one_at_most}
use Rattle.disk.proofs.memory.MemBlob.ask.Goals as goal

pub overflow_add-self : goal.overflow_add-self
overflow_add-self c =
    let inside = c.self.inside in
    let calls = inside.calls in
    let few = faults_le _ _ _ _ _ _ _ _ c.self.invariant in
    let one : c.faults.result ≤ 1 = rw c.faults.ensures (one_at_most (inside.failing == 1)) in
    omega (arith, few, calls.ok, calls.small)

pub invariant_of-self-2 : goal.invariant_of-self-2
invariant_of-self-2 c =
    let inside = c.self.inside in
    let room = c.prepare.ensures in
    let events = c.prepare.new.events in
    let count : c.len.result ≡ length inside.events.items = c.len.ensures ∙ events.ok.0 ∙ ap length room.events in
    kept_next inside.first.items inside.readable.items c.redo.new.bytes.items inside.calls.items c.push_reserved.new.self.items inside.failed.items c.push_reserved-2.new.self.items inside.events.items c.push_reserved-3.new.self.items inside.earlier inside.settled c.settled_after-self-inside.result inside.failures (inside.failures + c.faults.result) inside.failing c.saturating_sub-self-inside.result inside.backwards inside.starts.items c.record_start.new.starts.items c.args.action c.in_ok-call.call c.self.invariant c.in_ok-call.ensures.call
    (c.push_reserved.ensures.items ∙ ap (λ v. v ++ c.in_ok-call.call ∷ []) room.calls)
    (c.push_reserved-2.ensures.items ∙ ap (λ v. v ++ (inside.failing == 1) ∷ []) room.failed)
    (c.push_reserved-3.ensures.items ∙ ap (λ v. v ++ record { action = c.args.action; failed = inside.failing == 1 } ∷ []) room.events)
    (c.in_ok-redo.ensures.ok ∙ ap (redone (record { action = c.args.action; failed = inside.failing == 1 })) c.prepare.ensures.readable)
    c.saturating_sub-self-inside.ensures
    (ap (λ n. inside.failures + n) c.faults.ensures)
    (c.settled_after-self-inside.ensures ∙ ap₂ (λ (starts : List Start) (n : ℕ). settled_after c.args.action (inside.failing == 1) starts inside.settled n) (c.deref.ensures.value ∙ c.prepare.ensures.starts) count)
    (c.record_start.ensures ∙ ap₂ (λ (starts : List Start) (n : ℕ). starts_after c.args.action (inside.failing == 1) starts n) (c.prepare.ensures.starts) (c.len-2.ensures ∙ events.ok.0 ∙ ap length room.events))

pub returns-clause-told : goal.returns-clause-told
returns-clause-told c =
    let inside = c.self.inside in
    let room = c.prepare.ensures in
    told_next inside.first.items inside.calls.items c.push_reserved.new.self.items inside.failed.items c.push_reserved-2.new.self.items inside.events.items c.push_reserved-3.new.self.items inside.earlier inside.failing c.saturating_sub-self-inside.result inside.backwards c.args.action c.in_ok-call.call c.args.self.now c.self.invariant.before c.self.invariant.outcomes c.self.view_is
    (c.push_reserved.ensures.items ∙ ap (λ v. v ++ c.in_ok-call.call ∷ []) room.calls)
    (c.push_reserved-2.ensures.items ∙ ap (λ v. v ++ (inside.failing == 1) ∷ []) room.failed)
    (c.push_reserved-3.ensures.items ∙ ap (λ v. v ++ record { action = c.args.action; failed = inside.failing == 1 } ∷ []) room.events)
    c.saturating_sub-self-inside.ensures
