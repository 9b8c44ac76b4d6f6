use Rattle.std.proofs.Common.{sym, ◌∙◌}
use Rattle.session.proofs.Below.{leaves_same}
use Rattle.session.proofs.held.Held.read_ranges.Goals as goal

pub returns-in-Some-Some-clause-tails : goal.returns-in-Some-Some-clause-tails
returns-in-Some-Some-clause-tails g c =
    leaves_same g.H.Sum.sum_of c.args.self.now c.in-Some-Some.writer c.args.cache.now c.read_fitting.new.cache (g.B.Blob.life c.args.blob.now) (g.B.Blob.life c.read_fitting.new.blob) (sym c.self.view_is ∙ c.in-Some-Some.is-0) c.read_fitting.ensures.tails c.read_fitting.ensures.replays c.read_fitting.ensures.others c.read_fitting.ensures.leaves.cached.settings
