use Rattle.std.proofs.Common.{ℕ, List, true, false, refl, ap, ◌∙◌, subst}
use Rattle.disk.specs.declared.action.Action.TheVariants as actions
use Rattle.disk.specs.History.{life_of}
use Rattle.disk.specs.VecBlob.{VecState}
use Rattle.disk.proofs.Starts.{plain_went, same_bytes}
use Rattle.disk.proofs.Stops.{lives_on}
use Rattle.std.specs.Prelude.{vec_capacity}
use Rattle.disk.specs.Disk.{IsWithin, Delivers}
use Rattle.disk.proofs.vec_blob.VecBlobBlob.read_many.Goals as goal

pub invariant_of-self : goal.invariant_of-self
invariant_of-self c =
    let a = actions.ReadMany c.args.ranges.now in
    plain_went a c.self.inside.stopped c.self.inside.past.value c.read_many.result.value c.self.inside.bytes.items c.self.inside.bytes.items c.self.inside.starts (λ life. refl) c.read_many.ensures c.self.invariant (same_bytes a c.self.inside.stopped c.self.inside.bytes.items refl)

pub invariant_of-self-2 : goal.invariant_of-self-2
invariant_of-self-2 c =
    let a = actions.ReadMany c.args.ranges.now in
    plain_went a c.self.inside.stopped c.self.inside.past.value c.read_many.result.value c.self.inside.bytes.items c.self.inside.bytes.items c.self.inside.starts (λ life. refl) c.read_many.ensures c.self.invariant (same_bytes a c.self.inside.stopped c.self.inside.bytes.items refl)

pub returns-then-self-clause-goes : goal.returns-then-self-clause-goes
returns-then-self-clause-goes c =
    let a = actions.ReadMany c.args.ranges.now in
    lives_on a c.self.inside.stopped true c.self.inside.past.value (vec_capacity c.self.inside.bytes) c.args.self.now c.args.self.now.history c.read_many.result.value c.self.view_is refl c.if-self.true c.read_many.ensures

pub returns-clause-goes : goal.returns-clause-goes
returns-clause-goes c =
    let ranges = c.args.ranges.now in
    let a = actions.ReadMany ranges in
    let copied = c.in_ok-copy_ranges.ensures.ranges in
    let same = c.deref.ensures.value ∙ c.self.invariant.reads ∙ ap (λ (s : VecState). (life_of s.history).present.readable) c.self.view_is in (
      subst (λ (l : List ℕ). IsWithin ranges l) same copied.0,
      subst (λ (l : List ℕ). Delivers ranges l c.copy_ranges.new.out.items) same copied.1,
      lives_on a c.self.inside.stopped false c.self.inside.past.value (vec_capacity c.self.inside.bytes) c.args.self.now c.args.self.now.history c.read_many.result.value c.self.view_is refl c.if-self.false c.read_many.ensures,
    )
