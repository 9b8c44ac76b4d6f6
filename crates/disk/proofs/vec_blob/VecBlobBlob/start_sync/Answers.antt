use Rattle.std.proofs.Common.{◌≡◌, ◌+◌, ℕ, sym, ap, ◌∙◌, subst, arith, refl, length}
use Rattle.std.specs.Prelude.{vec_capacity}
use Rattle.disk.specs.declared.action.Action.TheVariants as actions
use Rattle.disk.specs.History.{life_of}
use Rattle.disk.specs.VecBlob.{IsPlain, VecState}
use Rattle.disk.proofs.Starts.{plain_starts}
use Rattle.disk.proofs.Stops.{lives_on}
use Rattle.disk.proofs.vec_blob.VecBlobBlob.start_sync.Goals as goal

pub returns-clause-goes : goal.returns-clause-goes
returns-clause-goes c =
    let stopped = c.self.inside.stopped in
    let names = ap (λ (s : VecState). length (life_of s.history).present.started) c.self.view_is in
    (sym c.self.invariant.names ∙ names, stopped, lives_on actions.StartSync stopped stopped c.self.inside.past.value (vec_capacity c.self.inside.bytes) c.args.self.now c.args.self.now.history c.start_sync.result.value c.self.view_is refl refl c.start_sync.ensures)

pub invariant_of-self : goal.invariant_of-self
invariant_of-self c =
    let next : c.self.inside.starts + 1 ≡ c.in-Some.starts = omega (arith, c.in-Some.ensures.1) in
    subst (λ (n : ℕ). IsPlain (life_of c.start_sync.result.value).present c.self.inside.bytes.items n c.self.inside.stopped) next
    (plain_starts c.self.inside.stopped c.self.inside.past.value c.start_sync.result.value c.self.inside.bytes.items c.self.inside.starts c.start_sync.ensures c.self.invariant)
