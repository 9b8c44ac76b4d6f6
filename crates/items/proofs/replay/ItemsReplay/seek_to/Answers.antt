use Rattle.std.proofs.Common.{◌∙◌, ◌*◌, ◌<◌, ◌^◌, ℕ, ap, subst}
use Rattle.std.specs.Int.NonZero.{non_zero_usize_get}
use Rattle.items.specs.State.{ItemsReplayState}
use Rattle.items.specs.Readers.{SeekItemGoes}
use Rattle.items.proofs.Readers.{seeks_item}
use Rattle.items.proofs.replay.ItemsReplay.seek_to.Goals as goal

pub returns-clause-goes : goal.returns-clause-goes
returns-clause-goes g c =
    let sum = g.H.Sum.sum_of in
    let i = c.args.i in
    let r : ItemsReplayState = record { replay = c.self.inside.replay; size = non_zero_usize_get c.self.inside.size } in
    let now : ItemsReplayState = record { replay = c.seek_to.new.self; size = non_zero_usize_get c.self.inside.size } in
    let found = c.in-Some.ensures in
    let value = ap (λ (n : ℕ). i * n) c.get.ensures.value in
    subst (λ (v : ItemsReplayState). SeekItemGoes sum v i now c.seek_to.result) c.self.view_is
    (seeks_item sum r c.seek_to.new.self i c.in-Some.offset c.seek_to.result (found.1 ∙ value) (subst (λ (n : ℕ). n < 2 ^ 64) value found.0) c.seek_to.ensures.seeks c.seek_to.ensures.replays)
