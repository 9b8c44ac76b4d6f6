use Rattle.std.proofs.Common.{◌≡◌, ◌+◌, ◌-◌, ◌++◌, ℕ, List, length, take, drop, replicate, true, false, refl, sym, ap, ◌∙◌, subst}
use Rattle.std.specs.Prelude.{vec_capacity, Bool}
use Rattle.std.specs.List.{concat}
use Rattle.disk.specs.declared.action.Action.TheVariants as actions
use Rattle.disk.specs.History.{life_of}
use Rattle.disk.specs.Past.{history_with}
use Rattle.disk.specs.VecBlob.{IsPlain}
use Rattle.disk.proofs.Device.{write_fails, write_goes}
use Rattle.disk.proofs.Starts.{plain_went, write_keeps}
use Rattle.disk.proofs.Stops.{lives_on}
use Rattle.disk.proofs.Writes.{written_after}
use Rattle.disk.proofs.vec_blob.VecBlobBlob.write_at.Goals as goal

pub invariant_of-self : goal.invariant_of-self
invariant_of-self c =
    let sync = c.args.options.sync in
    let new = concat c.args.bufs.now in
    let a = actions.Write c.args.offset new sync in
    let bytes = c.self.inside.bytes.items in
    let past = c.self.inside.past.value in
    let after = c.write.result.value in
    let plain : IsPlain (life_of past).present bytes c.self.inside.starts true = subst (λ (b : Bool). IsPlain (life_of past).present bytes c.self.inside.starts b) c.if-self.true c.self.invariant in
    subst (λ (b : Bool). IsPlain (life_of after).present bytes c.self.inside.starts b) (sym c.if-self.true)
    (plain_went a true past after bytes bytes c.self.inside.starts (write_keeps c.args.offset new sync true) c.write.ensures plain refl)

pub returns-then-self-clause-goes : goal.returns-then-self-clause-goes
returns-then-self-clause-goes c =
    let bytes = concat c.args.bufs.now in
    let a = actions.Write c.args.offset bytes c.args.options.sync in
    let is : c.write.result.value ≡ history_with a c.self.inside.stopped c.self.inside.past.value = c.write.ensures ∙ ap (λ b. history_with a b c.self.inside.past.value) (sym c.if-self.true) in
    write_fails c.args.offset bytes c.args.options.sync (life_of c.args.self.now.history) (life_of c.write.result.value)
    (lives_on a c.self.inside.stopped true c.self.inside.past.value (vec_capacity c.self.inside.bytes) c.reserve.new.self c.args.self.now.history c.write.result.value c.self.view_is c.in_ok-reserve.ensures.0 c.if-self.true is)

-- the bytes that there are before the write, up to its offset
grown : (old new : List ℕ) (offset : ℕ) (now : List ℕ) → now ≡ old ++ replicate (offset - length old) 0
    → take offset now ++ new ++ drop (offset + length new) now ≡ take offset old ++ replicate (offset - length old) 0 ++ new ++ drop (offset + length new) old
grown old new offset now is = ap (λ (b : List ℕ). take offset b ++ new ++ drop (offset + length new) b) is ∙ written_after old new offset

pub invariant_of-self-2 : goal.invariant_of-self-2
invariant_of-self-2 c =
    let sync = c.args.options.sync in
    let offset = c.args.offset in
    let new = concat c.args.bufs.now in
    let a = actions.Write offset new sync in
    let old = c.self.inside.bytes.items in
    let past = c.self.inside.past.value in
    let after = c.write-2.result.value in
    let written = c.put_all.new.bytes.items in
    let plain : IsPlain (life_of past).present old c.self.inside.starts false = subst (λ (b : Bool). IsPlain (life_of past).present old c.self.inside.starts b) c.if-self.false c.self.invariant in
    subst (λ (b : Bool). IsPlain (life_of after).present written c.self.inside.starts b) (sym c.if-self.false)
    (plain_went a false past after old written c.self.inside.starts (write_keeps offset new sync false) c.write-2.ensures plain
    (c.in_ok-put_all.ensures.ok ∙ grown old new offset c.grow.new.bytes.items c.in_ok-grow.ensures.ok))

pub returns-clause-goes : goal.returns-clause-goes
returns-clause-goes c =
    let bytes = concat c.args.bufs.now in
    let a = actions.Write c.args.offset bytes c.args.options.sync in
    let is : c.write-2.result.value ≡ history_with a c.self.inside.stopped c.self.inside.past.value = c.write-2.ensures ∙ ap (λ b. history_with a b c.self.inside.past.value) (sym c.if-self.false) in
    write_goes c.args.offset bytes c.args.options.sync (life_of c.args.self.now.history) (life_of c.write-2.result.value)
    (lives_on a c.self.inside.stopped false c.self.inside.past.value (vec_capacity c.self.inside.bytes) c.reserve.new.self c.args.self.now.history c.write-2.result.value c.self.view_is c.in_ok-reserve.ensures.0 c.if-self.false is)
