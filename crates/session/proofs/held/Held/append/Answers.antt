use Rattle.std.proofs.Common.{rules, ◌≡◌, Some, None, refl}
use Rattle.session.proofs.Below.{leaves_on, leaves_gone}
use Rattle.session.proofs.held.Held.append.Goals as goal

pub returns-in-Ok-clause-tails : goal.returns-in-Ok-clause-tails
returns-in-Ok-clause-tails g c =
    let at : c.args.self.now ≡ Some c.in-Some.writer = search rules in
    leaves_on g.H.Sum.sum_of c.args.self.now c.in-Some.writer c.append_lent.new.self c.args.cache.now c.append_lent.new.cache (g.B.Blob.life c.args.blob.now) (g.B.Blob.life c.append_lent.new.blob) at c.in-Ok.ensures.goes.answers.holds.same c.in-Ok.ensures.owes.tails c.in-Ok.ensures.owes.replays c.in-Ok.ensures.owes.others c.in-Ok.ensures.owes.cached.settings

pub returns-in-Err-clause-tails : goal.returns-in-Err-clause-tails
returns-in-Err-clause-tails g c =
    let at : c.args.self.now ≡ Some c.in-Some.writer = search rules in
    leaves_gone g.H.Sum.sum_of c.args.self.now None c.in-Some.writer c.args.cache.now c.append_lent.new.cache (g.B.Blob.life c.args.blob.now) (g.B.Blob.life c.append_lent.new.blob) at refl c.in-Err.ensures.owes.tails c.in-Err.ensures.owes.replays c.in-Err.ensures.owes.others c.in-Err.ensures.owes.cached.settings
