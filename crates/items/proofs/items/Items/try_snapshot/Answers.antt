use Rattle.std.proofs.Common.{Ok, Some, subst, sym}
use Rattle.std.specs.Prelude.{Option}
use Rattle.std.specs.Int.NonZero.{non_zero_usize_get}
use Rattle.paged_read.specs.Tail.{Tail}
use Rattle.paged.specs.Snapshots.{TriesSnapshot}
use Rattle.items.specs.State.{ItemsSnapshotState, ItemsState}
use Rattle.items.specs.Readers.{TriesItemsSnapshot}
use Rattle.items.proofs.Readers.{tried_snapshot}
use Rattle.items.proofs.items.Items.try_snapshot.Goals as goal

pub returns-in-Ok-Some : goal.returns-in-Ok-Some
returns-in-Ok-Some g c =
    let sum = g.H.Sum.sum_of in
    let s : ItemsState = record { writer = c.self.inside.writer; size = non_zero_usize_get c.self.inside.size } in
    let t = c.in-Ok-Some.snapshot in
    let tried : TriesSnapshot s.writer (Ok (Some t)) = subst (λ (o : Option Tail). TriesSnapshot s.writer (Ok o)) c.in-Ok-Some.field-0-is c.in-Ok-Some.ensures in
    subst (λ (r : ItemsSnapshotState). TriesItemsSnapshot sum c.args.self.now (Ok (Some r))) (sym c.new.ensures)
    (subst (λ (v : ItemsState). TriesItemsSnapshot sum v (Ok (Some (record { tail = t; size = s.size })))) c.self.view_is (tried_snapshot sum s t tried))
