use Rattle.std.proofs.Common.{◌≡◌, ◌∙◌, length, ap, sym, subst, arith, Some}
use Rattle.std.specs.Prelude.{Option}
use Rattle.std.specs.Vec.{with_items}
use Rattle.std.proofs.lemmas.List.{with_items_is}
use Rattle.paged_read.specs.Tail.{Tail}
use Rattle.session.specs.Run.{SessionState}
use Rattle.session.specs.Calls.{DidSnap}
use Rattle.crash.specs.Looks.{looked_start}
use Rattle.paged_read.proofs.Outliving.{look_leaves_writers}
use Rattle.session.specs.declared.steps.Reply.TheVariants.{Bytes, Fault}
use Rattle.session.proofs.Below.{at_offset}
use Rattle.session.proofs.Numbered.{stands_at}
use Rattle.session.proofs.OtherLaws.{snap_others}
use Rattle.session.proofs.SizeLaws.{read_says, read_fails, room_refused}
use Rattle.session.proofs.sessions.Session.snap.Goals as goal

pub returns-in_default-clause-writers : goal.returns-in_default-clause-writers
returns-in_default-clause-writers g c = let life = g.B.Blob.life c.args.blob.now in look_leaves_writers g.H.Sum.sum_of life life (looked_start life)

pub returns-in-Err-clause-writers : goal.returns-in-Err-clause-writers
returns-in-Err-clause-writers g c = let life = g.B.Blob.life c.args.blob.now in look_leaves_writers g.H.Sum.sum_of life life (looked_start life)

pub returns-in-Err-clause-goes : goal.returns-in-Err-clause-goes
returns-in-Err-clause-goes g c =
    let sum = g.H.Sum.sum_of in
    let life = g.B.Blob.life c.args.blob.now in
    let at = at_offset c.deref.result.now c.args.self.now.snapshots c.args.index c.in-Some-Some.field-0.now (c.deref.ensures.value ∙ ap (λ (s : SessionState). s.snapshots) c.self.view_is) c.in-Some-Some.ensures.lookup.0 c.in-Some-Some.ensures.lookup.1
    ∙ ap Some c.in-Some-Some.field-0-is in
    subst (λ (o : Option Tail). DidSnap sum o c.args.cache.now c.args.cache.now c.args.offset c.args.len life life (Fault c.in-Err.error)) (sym (stands_at c.args.self.now.snapshots c.args.index c.in-Some-Some.snapshot at))
    (room_refused sum c.in-Some-Some.snapshot c.args.cache.now c.args.offset c.args.len c.size.result life c.in-Err.error c.size.ensures c.size.type_inv c.in-Err.ensures.err)

pub returns-in-Ok-read_into-clause-goes : goal.returns-in-Ok-read_into-clause-goes
returns-in-Ok-read_into-clause-goes g c =
    let sum = g.H.Sum.sum_of in
    let old = g.B.Blob.life c.args.blob.now in
    let new = g.B.Blob.life c.read_into.new.blob in
    let at = at_offset c.deref.result.now c.args.self.now.snapshots c.args.index c.in-Some-Some.field-0.now (c.deref.ensures.value ∙ ap (λ (s : SessionState). s.snapshots) c.self.view_is) c.in-Some-Some.ensures.lookup.0 c.in-Some-Some.ensures.lookup.1
    ∙ ap Some c.in-Some-Some.field-0-is in
    let t = c.in-Some-Some.snapshot in
    let is = c.in-Ok-read_into.ensures in
    let buf = c.read_into.new.buf in
    let bytes = with_items c.in-Ok.bytes buf in
    let room : length c.deref_mut.result.now ≡ c.args.len = omega (arith, ap length c.deref_mut.ensures.value, c.in-Ok.ensures.len) in
    let long : length buf ≡ c.in-Ok.bytes.len = omega (arith, is.goes.size, ap length c.deref_mut.ensures.value, c.in-Ok.bytes.ok.0) in
    subst (λ (o : Option Tail). DidSnap sum o c.args.cache.now c.read_into.new.cache c.args.offset c.args.len old new (Bytes bytes)) (sym (stands_at c.args.self.now.snapshots c.args.index t at))
    (read_says sum t c.args.cache.now c.read_into.new.cache c.args.offset c.args.len c.size.result old new c.deref_mut.result.now buf bytes c.size.ensures c.size.type_inv (with_items_is c.in-Ok.bytes buf long) room is.goes is.costs is.leaves.looked)

pub returns-in-Err-read_into-clause-goes : goal.returns-in-Err-read_into-clause-goes
returns-in-Err-read_into-clause-goes g c =
    let sum = g.H.Sum.sum_of in
    let old = g.B.Blob.life c.args.blob.now in
    let new = g.B.Blob.life c.read_into.new.blob in
    let at = at_offset c.deref.result.now c.args.self.now.snapshots c.args.index c.in-Some-Some.field-0.now (c.deref.ensures.value ∙ ap (λ (s : SessionState). s.snapshots) c.self.view_is) c.in-Some-Some.ensures.lookup.0 c.in-Some-Some.ensures.lookup.1
    ∙ ap Some c.in-Some-Some.field-0-is in
    let t = c.in-Some-Some.snapshot in
    let is = c.in-Err-read_into.ensures in
    let room : length c.deref_mut.result.now ≡ c.args.len = omega (arith, ap length c.deref_mut.ensures.value, c.in-Ok.ensures.len) in
    subst (λ (o : Option Tail). DidSnap sum o c.args.cache.now c.read_into.new.cache c.args.offset c.args.len old new (Fault c.in-Err-read_into.error)) (sym (stands_at c.args.self.now.snapshots c.args.index t at))
    (read_fails sum t c.args.cache.now c.read_into.new.cache c.args.offset c.args.len old new c.deref_mut.result.now c.read_into.new.buf c.in-Err-read_into.error room is.goes is.costs is.leaves.looked)

pub returns-in-Ok-read_into-clause-fresh_ids : goal.returns-in-Ok-read_into-clause-fresh_ids
returns-in-Ok-read_into-clause-fresh_ids g c = c.in-Ok-read_into.ensures.leaves.fresh

pub returns-in-Ok-read_into-clause-writers : goal.returns-in-Ok-read_into-clause-writers
returns-in-Ok-read_into-clause-writers g c = c.in-Ok-read_into.ensures.leaves.writers

pub returns-in-Ok-read_into-clause-tails : goal.returns-in-Ok-read_into-clause-tails
returns-in-Ok-read_into-clause-tails g c = c.in-Ok-read_into.ensures.leaves.tails

pub returns-in-Ok-read_into-clause-replays : goal.returns-in-Ok-read_into-clause-replays
returns-in-Ok-read_into-clause-replays g c = c.in-Ok-read_into.ensures.leaves.replays

pub returns-in-Ok-read_into-clause-can_read : goal.returns-in-Ok-read_into-clause-can_read
returns-in-Ok-read_into-clause-can_read g c = c.in-Ok-read_into.ensures.leaves.can_read

pub returns-in-Err-read_into-clause-fresh_ids : goal.returns-in-Err-read_into-clause-fresh_ids
returns-in-Err-read_into-clause-fresh_ids g c = c.in-Err-read_into.ensures.leaves.fresh

pub returns-in-Err-read_into-clause-writers : goal.returns-in-Err-read_into-clause-writers
returns-in-Err-read_into-clause-writers g c = c.in-Err-read_into.ensures.leaves.writers

pub returns-in-Err-read_into-clause-tails : goal.returns-in-Err-read_into-clause-tails
returns-in-Err-read_into-clause-tails g c = c.in-Err-read_into.ensures.leaves.tails

pub returns-in-Err-read_into-clause-replays : goal.returns-in-Err-read_into-clause-replays
returns-in-Err-read_into-clause-replays g c = c.in-Err-read_into.ensures.leaves.replays

pub returns-in-Err-read_into-clause-can_read : goal.returns-in-Err-read_into-clause-can_read
returns-in-Err-read_into-clause-can_read g c = c.in-Err-read_into.ensures.leaves.can_read

pub returns-in-Ok-read_into-clause-others : goal.returns-in-Ok-read_into-clause-others
returns-in-Ok-read_into-clause-others g c =
    let at = at_offset c.deref.result.now c.args.self.now.snapshots c.args.index c.in-Some-Some.field-0.now (c.deref.ensures.value ∙ ap (λ (s : SessionState). s.snapshots) c.self.view_is) c.in-Some-Some.ensures.lookup.0 c.in-Some-Some.ensures.lookup.1
    ∙ ap Some c.in-Some-Some.field-0-is in
    let is = c.in-Ok-read_into.ensures in
    snap_others c.args.self.now c.args.index c.in-Some-Some.snapshot c.args.cache.now c.read_into.new.cache at is.leaves.others is.leaves.cached.settings

pub returns-in-Err-read_into-clause-others : goal.returns-in-Err-read_into-clause-others
returns-in-Err-read_into-clause-others g c =
    let at = at_offset c.deref.result.now c.args.self.now.snapshots c.args.index c.in-Some-Some.field-0.now (c.deref.ensures.value ∙ ap (λ (s : SessionState). s.snapshots) c.self.view_is) c.in-Some-Some.ensures.lookup.0 c.in-Some-Some.ensures.lookup.1
    ∙ ap Some c.in-Some-Some.field-0-is in
    let is = c.in-Err-read_into.ensures in
    snap_others c.args.self.now c.args.index c.in-Some-Some.snapshot c.args.cache.now c.read_into.new.cache at is.leaves.others is.leaves.cached.settings
