use Rattle.std.proofs.Common.{refl}
use Rattle.session.proofs.Below.{at_offset}
use Rattle.std.proofs.lemmas.Option.{slice_get_past}
use Rattle.session.proofs.Numbered.{at_none, at_some}
use Rattle.session.proofs.replays.take_at.Goals as goal

pub returns-in-Some : goal.returns-in-Some
returns-in-Some g c =
    let xs = c.args.replays.now.items in
    let found = c.in-Some.ensures in
    at_some c.args.index xs c.in-Some.replay.now c.take_of.new.replay c.take_of.result _ _ (at_offset xs xs c.args.index c.in-Some.replay.now refl found.item.0 found.value) c.take_of.ensures

pub returns-in-None : goal.returns-in-None
returns-in-None g c = let found = c.in-None.ensures in at_none c.args.index c.args.replays.now.items _ _ (slice_get_past c.args.replays.now.items c.args.index found.item.3) tt
