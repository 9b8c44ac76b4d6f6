use Rattle.crash.specs.Looks.{looked_start}
use Rattle.session.proofs.replays.ensure_of.Goals as goal

pub returns-in_default-clause-looked : goal.returns-in_default-clause-looked
returns-in_default-clause-looked g c = looked_start (g.B.Blob.life c.args.blob.now)
