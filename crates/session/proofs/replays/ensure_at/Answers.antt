use Rattle.std.proofs.Common.{refl}
use Rattle.crash.specs.Looks.{looked_start}
use Rattle.session.specs.Calls.{ReplayCanGoOn}
use Rattle.session.proofs.Below.{at_offset, of_each}
use Rattle.std.proofs.lemmas.Option.{slice_get_past}
use Rattle.session.proofs.Numbered.{at_none, at_some}
use Rattle.session.proofs.replays.ensure_at.Goals as goal

pub ensure_of-requires : goal.ensure_of-requires
ensure_of-requires g c =
    let xs = c.args.replays.now.items in
    let d = (g.B.Blob.life c.args.blob.now).present in
    record { can = of_each (λ o. ReplayCanGoOn o d) xs c.args.index c.in-Some.replay.now (at_offset xs xs c.args.index c.in-Some.replay.now refl c.in-Some.ensures.item.0 c.in-Some.ensures.value) c.requires.can }

pub returns-in-Some-clause-goes : goal.returns-in-Some-clause-goes
returns-in-Some-clause-goes g c =
    let xs = c.args.replays.now.items in
    let found = c.in-Some.ensures in
    at_some c.args.index xs c.in-Some.replay.now c.ensure_of.new.replay c.ensure_of.result _ _ (at_offset xs xs c.args.index c.in-Some.replay.now refl found.item.0 found.value) c.ensure_of.ensures.goes

pub returns-in-None-clause-goes : goal.returns-in-None-clause-goes
returns-in-None-clause-goes g c = let found = c.in-None.ensures in at_none c.args.index c.args.replays.now.items _ _ (slice_get_past c.args.replays.now.items c.args.index found.item.3) refl

pub returns-in-None-clause-looked : goal.returns-in-None-clause-looked
returns-in-None-clause-looked g c = looked_start (g.B.Blob.life c.args.blob.now)
