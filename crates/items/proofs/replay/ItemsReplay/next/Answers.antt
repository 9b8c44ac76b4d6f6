use Rattle.std.proofs.Common.{length-drop, ◌≡◌, ◌∙◌, ◌+◌, ◌∷◌, ℕ, true, take, drop, length, Ok, Err, Some, None, ap, ap₂, refl, subst, sym, arith}
use Rattle.std.specs.Int.NonZero.{non_zero_usize_get}
use Rattle.std.proofs.lemmas.Bool.{leb-true}
use Rattle.std.proofs.lemmas.Result.{err_from_is_err_and}
use Rattle.std.proofs.Math.Nat.{min-eq_left}
use Rattle.disk.specs.declared.error.Error.TheVariants.{OutOfMemory}
use Rattle.paged_read.specs.Replay.{IsReplayOf, ReplayState}
use Rattle.paged_read.specs.Tail.{tail_size}
use Rattle.items.specs.State.{ItemsReplayState}
use Rattle.items.specs.Standing.{IsItemsReplay, ReplayReadLeaves, ReplaysItems, bytes_along, items_left}
use Rattle.items.specs.Readers.{HoldsAlong, NextItemGoes}
use Rattle.items.proofs.Standing.{along, only_reads_on}
use Rattle.items.proofs.Readers.{copy_refused, copy_unasked, fill_refused, holds_along, gave, had_none, not_there, stays_there}
use Rattle.items.proofs.replay.ItemsReplay.next.Given.{Over}
use Rattle.items.proofs.replay.ItemsReplay.next.Goals as goal
use Rattle.items.proofs.replay.ItemsReplay.next.Goals.{After-ensure}

-- the replay inside
abbrev inside : (g : Over) (c : After-ensure g) → ItemsReplayState
inside g c = record { replay = c.self.inside.replay; size = non_zero_usize_get c.self.inside.size }

was : (g : Over) (c : After-ensure g) → ReplaysItems g.H.Sum.sum_of (inside g c) (g.B.Blob.life c.args.blob.now)
was g c =
    let sum = g.H.Sum.sum_of in
    let old = g.B.Blob.life c.args.blob.now in
    along sum (inside g c) old (subst (λ (v : ItemsReplayState). IsItemsReplay sum v old) (sym c.self.view_is) c.requires.replay)

pub ensure-requires : goal.ensure-requires
ensure-requires g c =
    let sum = g.H.Sum.sum_of in
    let old = g.B.Blob.life c.args.blob.now in
    let r : ItemsReplayState = record { replay = c.self.inside.replay; size = non_zero_usize_get c.self.inside.size } in
    record { can = (along sum r old (subst (λ (v : ItemsReplayState). IsItemsReplay sum v old) (sym c.self.view_is) c.requires.replay)).gives.can }

-- what the fill leaves
left : (g : Over) (c : After-ensure g) → ReplayReadLeaves g.H.Sum.sum_of (g.B.Blob.life c.args.blob.now) (g.B.Blob.life c.ensure.new.blob)
left g c =
    let goes = c.ensure.ensures in
    only_reads_on g.H.Sum.sum_of (g.B.Blob.life c.args.blob.now) (g.B.Blob.life c.ensure.new.blob) goes.leaves.looked goes.leaves.tails goes.leaves.replays

-- the replay gives what it gave
gives : (g : Over) (c : After-ensure g) → IsReplayOf g.H.Sum.sum_of c.ensure.new.self (bytes_along (inside g c) (g.B.Blob.life c.args.blob.now)) (g.B.Blob.life c.ensure.new.blob).present
gives g c = c.ensure.ensures.goes.replays g.H.Sum.sum_of (bytes_along (inside g c) (g.B.Blob.life c.args.blob.now)) (was g c).gives

-- where the replay stands as it stood
still : (g : Over) (c : After-ensure g) → c.ensure.new.self.tail ≡ c.self.inside.replay.tail → c.ensure.new.self.position ≡ c.self.inside.replay.position
    → IsItemsReplay g.H.Sum.sum_of (record { replay = c.ensure.new.self; size = non_zero_usize_get c.self.inside.size }) (g.B.Blob.life c.ensure.new.blob)
    × (items_left (record { replay = c.ensure.new.self; size = non_zero_usize_get c.self.inside.size }) (g.B.Blob.life c.ensure.new.blob) ≡ items_left (inside g c) (g.B.Blob.life c.args.blob.now))
still g c tail position =
    stays_there g.H.Sum.sum_of (inside g c) (g.B.Blob.life c.args.blob.now) (g.B.Blob.life c.ensure.new.blob) (was g c) (record { replay = c.ensure.new.self; size = non_zero_usize_get c.self.inside.size }) refl tail position (gives g c)

-- ---- a fill that is refused

pub returns-in_err-ensure-clause-goes : goal.returns-in_err-ensure-clause-goes
returns-in_err-ensure-clause-goes g c =
    let at = (goal.at.returns-in_err-ensure-clause-goes g c).After-ensure in
    let old = g.B.Blob.life c.args.blob.now in
    let new = g.B.Blob.life c.ensure.new.blob in
    let now : ItemsReplayState = record { replay = c.ensure.new.self; size = non_zero_usize_get c.self.inside.size } in
    let e = c.in_err-ensure.field-0.0 in
    let fetches = c.in_err-ensure.ensures.goes.answers in
    let error = err_from_is_err_and c.from_residual.result c.from_residual.ensures.1 in
    rw (error.1, error.2) (subst (λ (v : ItemsReplayState). NextItemGoes v now old new (Err e)) c.self.view_is
    ((still g at fetches.0.tail fetches.0.position).1, fill_refused g.H.Sum.sum_of (inside g at) old new (was g at) now e fetches.1 fetches.5))

pub returns-in_err-ensure-clause-ready : goal.returns-in_err-ensure-clause-ready
returns-in_err-ensure-clause-ready g c =
    let fills = c.in_err-ensure.ensures.goes.answers.0 in (
      (still g (goal.at.returns-in_err-ensure-clause-ready g c).After-ensure fills.tail fills.position).0,
      ap (λ (v : ItemsReplayState). v.size) c.self.view_is,
      fills.tail ∙ ap (λ (v : ItemsReplayState). v.replay.tail) c.self.view_is,
    )

pub returns-in_err-ensure-clause-leaves : goal.returns-in_err-ensure-clause-leaves
returns-in_err-ensure-clause-leaves g c = left g (goal.at.returns-in_err-ensure-clause-leaves g c).After-ensure

-- ---- no item is left

pub returns-then-not-branch-clause-goes : goal.returns-then-not-branch-clause-goes
returns-then-not-branch-clause-goes g c =
    let at = (goal.at.returns-then-not-branch-clause-goes g c).After-ensure in
    let old = g.B.Blob.life c.args.blob.now in
    let new = g.B.Blob.life c.ensure.new.blob in
    let now : ItemsReplayState = record { replay = c.ensure.new.self; size = non_zero_usize_get c.self.inside.size } in
    let fetches = c.in_ok-ensure.ensures.goes.answers in
    let past = not_there c.self.inside.replay.position c.get-size.result (tail_size c.self.inside.replay.tail) (sym c.if-not-branch.true ∙ fetches.1) in
    let none = had_none g.H.Sum.sum_of (inside g at) old new (was g at) (omega (arith, past, c.get-size.ensures.value)) in
    subst (λ (v : ItemsReplayState). NextItemGoes v now old new (Ok None)) c.self.view_is (none, (still g at fetches.0.tail fetches.0.position).1 ∙ none)

pub returns-then-not-branch-clause-ready : goal.returns-then-not-branch-clause-ready
returns-then-not-branch-clause-ready g c =
    let fills = c.in_ok-ensure.ensures.goes.answers.0 in (
      (still g (goal.at.returns-then-not-branch-clause-ready g c).After-ensure fills.tail fills.position).0,
      ap (λ (v : ItemsReplayState). v.size) c.self.view_is,
      fills.tail ∙ ap (λ (v : ItemsReplayState). v.replay.tail) c.self.view_is,
    )

pub returns-then-not-branch-clause-leaves : goal.returns-then-not-branch-clause-leaves
returns-then-not-branch-clause-leaves g c = left g (goal.at.returns-then-not-branch-clause-leaves g c).After-ensure

-- ---- memory for the item is refused

pub returns-in_err-item-clause-goes : goal.returns-in_err-item-clause-goes
returns-in_err-item-clause-goes g c =
    let at = (goal.at.returns-in_err-item-clause-goes g c).After-ensure in
    let old = g.B.Blob.life c.args.blob.now in
    let new = g.B.Blob.life c.ensure.new.blob in
    let size = non_zero_usize_get c.self.inside.size in
    let fetches = c.in_ok-ensure.ensures.goes.answers in
    let refused = copy_refused c.ensure.new.self c.copy_to_bytes.new.self c.get-size.result c.in_err-item.field-0.0 c.in_err-item.ensures.goes in
    let mid : ItemsReplayState = record { replay = c.ensure.new.self; size = size } in
    let is : NextItemGoes (inside g at) mid old new (Err OutOfMemory) =
    ((still g at fetches.0.tail fetches.0.position).1, copy_unasked (inside g at) mid c.get-size.result old new (fetches.2 c.if-not-branch.false) c.in_ok-ensure.ensures.costs.idle) in
    let error = err_from_is_err_and c.from_residual-in_err-item.result c.from_residual-in_err-item.ensures.1 in
    rw (error.1, error.2, refused.0) (subst (λ (v : ItemsReplayState). NextItemGoes v (record { replay = c.copy_to_bytes.new.self; size = size }) old new (Err OutOfMemory)) c.self.view_is
    (subst (λ (x : ReplayState). NextItemGoes (inside g at) (record { replay = x; size = size }) old new (Err OutOfMemory)) (sym refused.1) is))

pub returns-in_err-item-clause-ready : goal.returns-in_err-item-clause-ready
returns-in_err-item-clause-ready g c =
    let fills = c.in_ok-ensure.ensures.goes.answers.0 in
    let same = (copy_refused c.ensure.new.self c.copy_to_bytes.new.self c.get-size.result c.in_err-item.field-0.0 c.in_err-item.ensures.goes).1 in (
      subst (λ (x : ReplayState). IsItemsReplay g.H.Sum.sum_of (record { replay = x; size = non_zero_usize_get c.self.inside.size }) (g.B.Blob.life c.ensure.new.blob)) (sym same)
          (still g (goal.at.returns-in_err-item-clause-ready g c).After-ensure fills.tail fills.position).0,
      ap (λ (v : ItemsReplayState). v.size) c.self.view_is,
      ap (λ (x : ReplayState). x.tail) same ∙ fills.tail ∙ ap (λ (v : ItemsReplayState). v.replay.tail) c.self.view_is,
    )

pub returns-in_err-item-clause-leaves : goal.returns-in_err-item-clause-leaves
returns-in_err-item-clause-leaves g c = left g (goal.at.returns-in_err-item-clause-leaves g c).After-ensure

-- ---- the item

-- the item is given, and the replay goes on after it
given : (g : Over) (c : goal.In_ok-item g) → IsItemsReplay g.H.Sum.sum_of (record { replay = c.copy_to_bytes.new.self; size = non_zero_usize_get c.self.inside.size }) (g.B.Blob.life c.ensure.new.blob)
    × (items_left (record { replay = c.self.inside.replay; size = non_zero_usize_get c.self.inside.size }) (g.B.Blob.life c.args.blob.now)
    ≡ c.in_ok-item.item ∷ items_left (record { replay = c.copy_to_bytes.new.self; size = non_zero_usize_get c.self.inside.size }) (g.B.Blob.life c.ensure.new.blob))
given g c =
    let at = (goal.at.returns-clause-goes g c).After-ensure in
    let sum = g.H.Sum.sum_of in
    let old = g.B.Blob.life c.args.blob.now in
    let new = g.B.Blob.life c.ensure.new.blob in
    let r = inside g at in
    let now : ItemsReplayState = record { replay = c.copy_to_bytes.new.self; size = non_zero_usize_get c.self.inside.size } in
    let fetches = c.in_ok-ensure.ensures.goes.answers in
    let fills = fetches.0 in
    let copied = c.in_ok-item.ensures in
    let held = bytes_along r old in
    let answered : c.in_ok-ensure.field-0 ≡ true = c.if-not-branch.false in
    let value : c.get-size.result ≡ r.size = c.get-size.ensures.value in
    let least = min-eq_left (fetches.2 answered) in
    let at_item : c.ensure.new.self.position ≡ r.replay.position = fills.position in
    let after : now.replay.position ≡ r.replay.position + r.size = ap (λ (x : ReplayState). x.position) copied.goes.moves ∙ ap₂ (λ (p n : ℕ). p + n) at_item (least ∙ value) in
    let there = leb-true (r.replay.position + c.get-size.result) (tail_size r.replay.tail) (sym fetches.1 ∙ answered) in
    gave sum r old new (was g at) now c.in_ok-item.item refl
    (ap (λ (x : ReplayState). x.tail) copied.goes.moves ∙ fills.tail) after (copied.replays.1 sum held new.present (gives g at)) (omega (arith, there, value))
    (copied.goes.gives sum held new.present (gives g at) ∙ ap₂ (λ (n p : ℕ). take n (drop p held)) (copied.goes.size ∙ value) at_item)

pub returns-clause-goes : goal.returns-clause-goes
returns-clause-goes g c =
    let now : ItemsReplayState = record { replay = c.copy_to_bytes.new.self; size = non_zero_usize_get c.self.inside.size } in
    subst (λ (v : ItemsReplayState). NextItemGoes v now (g.B.Blob.life c.args.blob.now) (g.B.Blob.life c.ensure.new.blob) (Ok (Some c.in_ok-item.item))) c.self.view_is (given g c).1

pub returns-clause-ready : goal.returns-clause-ready
returns-clause-ready g c = (
  (given g c).0,
  ap (λ (v : ItemsReplayState). v.size) c.self.view_is,
  ap (λ (x : ReplayState). x.tail) c.in_ok-item.ensures.goes.moves ∙ c.in_ok-ensure.ensures.goes.answers.0.tail ∙ ap (λ (v : ItemsReplayState). v.replay.tail) c.self.view_is,
)

pub returns-clause-leaves : goal.returns-clause-leaves
returns-clause-leaves g c = left g (goal.at.returns-clause-leaves g c).After-ensure

-- ---- what is at hand

pub returns-then-not-branch-clause-held : goal.returns-then-not-branch-clause-held
returns-then-not-branch-clause-held g c =
    let r = inside g (goal.at.returns-then-not-branch-clause-held g c).After-ensure in
    let fetches = c.in_ok-ensure.ensures.goes.answers in
    subst (λ (v : ItemsReplayState). HoldsAlong v (record { replay = c.ensure.new.self; size = r.size })) c.self.view_is
    (holds_along r c.ensure.new.self c.ensure.new.self c.get-size.result c.get-size.ensures.value fetches.0.batch fetches.4 refl (omega arith))

pub returns-clause-held : goal.returns-clause-held
returns-clause-held g c =
    let r = inside g (goal.at.returns-clause-held g c).After-ensure in
    let fetches = c.in_ok-ensure.ensures.goes.answers in
    let taken = c.in_ok-item.ensures.goes.moves in
    let hand = ap (λ (x : ReplayState). length x.hand) taken in
    subst (λ (v : ItemsReplayState). HoldsAlong v (record { replay = c.copy_to_bytes.new.self; size = r.size })) c.self.view_is
    (holds_along r c.ensure.new.self c.copy_to_bytes.new.self c.get-size.result c.get-size.ensures.value fetches.0.batch fetches.4 (ap (λ (x : ReplayState). x.batch) taken) (omega (arith, hand, length-drop c.get-size.result c.ensure.new.self.hand)))
