use Rattle.std.proofs.Common.{◌≡◌, ◌++◌, ◌-◌, take, replicate, true, false, refl, sym, ap, ◌∙◌, subst}
use Rattle.std.specs.Prelude.{vec_capacity, Bool}
use Rattle.disk.specs.declared.action.Action.TheVariants as actions
use Rattle.disk.specs.History.{life_of}
use Rattle.disk.specs.Past.{history_with}
use Rattle.disk.specs.VecBlob.{IsPlain}
use Rattle.disk.proofs.Device.{resize_fails, resize_goes}
use Rattle.disk.proofs.Starts.{plain_went}
use Rattle.disk.proofs.Stops.{lives_on}
use Rattle.disk.proofs.vec_blob.VecBlobBlob.resize.Goals as goal

pub invariant_of-self : goal.invariant_of-self
invariant_of-self c =
    let a = actions.Resize c.args.len in
    let bytes = c.self.inside.bytes.items in
    let past = c.self.inside.past.value in
    let new = c.resize.result.value in
    let plain : IsPlain (life_of past).present bytes c.self.inside.starts true = subst (λ (b : Bool). IsPlain (life_of past).present bytes c.self.inside.starts b) c.if-self.true c.self.invariant in
    subst (λ (b : Bool). IsPlain (life_of new).present bytes c.self.inside.starts b) (sym c.if-self.true)
    (plain_went a true past new bytes bytes c.self.inside.starts (λ life. refl) c.resize.ensures plain refl)

pub returns-then-self-clause-goes : goal.returns-then-self-clause-goes
returns-then-self-clause-goes c =
    let a = actions.Resize c.args.len in
    let is : c.resize.result.value ≡ history_with a c.self.inside.stopped c.self.inside.past.value = c.resize.ensures ∙ ap (λ b. history_with a b c.self.inside.past.value) (sym c.if-self.true) in
    resize_fails c.args.len (life_of c.args.self.now.history) (life_of c.resize.result.value)
    (lives_on a c.self.inside.stopped true c.self.inside.past.value (vec_capacity c.self.inside.bytes) c.reserve.new.self c.args.self.now.history c.resize.result.value c.self.view_is c.in_ok-reserve.ensures.0 c.if-self.true is)

pub invariant_of-self-2 : goal.invariant_of-self-2
invariant_of-self-2 c =
    let a = actions.Resize c.args.len in
    let bytes = c.self.inside.bytes in
    let past = c.self.inside.past.value in
    let new = c.resize-3.result.value in
    let after = c.resize-2.new.self.items in
    let plain : IsPlain (life_of past).present bytes.items c.self.inside.starts false = subst (λ (b : Bool). IsPlain (life_of past).present bytes.items c.self.inside.starts b) c.if-self.false c.self.invariant in
    subst (λ (b : Bool). IsPlain (life_of new).present after c.self.inside.starts b) (sym c.if-self.false)
    (plain_went a false past new bytes.items after c.self.inside.starts (λ life. refl) c.resize-3.ensures plain
    (c.in_ok-resize.ensures.items ∙ ap (λ n. take c.args.len bytes.items ++ replicate (c.args.len - n) 0) bytes.ok.0))

pub returns-clause-goes : goal.returns-clause-goes
returns-clause-goes c =
    let a = actions.Resize c.args.len in
    let is : c.resize-3.result.value ≡ history_with a c.self.inside.stopped c.self.inside.past.value = c.resize-3.ensures ∙ ap (λ b. history_with a b c.self.inside.past.value) (sym c.if-self.false) in
    resize_goes c.args.len (life_of c.args.self.now.history) (life_of c.resize-3.result.value)
    (lives_on a c.self.inside.stopped false c.self.inside.past.value (vec_capacity c.self.inside.bytes) c.reserve.new.self c.args.self.now.history c.resize-3.result.value c.self.view_is c.in_ok-reserve.ensures.0 c.if-self.false is)
