use Rattle.std.proofs.Common.{rules, ◌≡◌, Some, None}
use Rattle.session.proofs.Below.{leaves_on, leaves_gone}
use Rattle.session.proofs.held.Held.append_owned.Goals as goal

pub returns-in-Ok-clause-cached : goal.returns-in-Ok-clause-cached
returns-in-Ok-clause-cached g c = c.in-Ok.ensures.ready.can

pub returns-in-Ok-clause-fresh_ids : goal.returns-in-Ok-clause-fresh_ids
returns-in-Ok-clause-fresh_ids g c = λ fresh. c.in-Ok.ensures.ready.fresh

pub returns-in-Err-clause-fresh_ids : goal.returns-in-Err-clause-fresh_ids
returns-in-Err-clause-fresh_ids g c = λ fresh. c.in-Err.ensures.says.owes.fresh

pub returns-in-Ok-clause-tails : goal.returns-in-Ok-clause-tails
returns-in-Ok-clause-tails g c =
    let at : c.args.self.now ≡ Some c.in-Some.writer = search rules in
    let owes = c.in-Ok.ensures.says.owes in
    leaves_on g.H.Sum.sum_of c.args.self.now c.in-Some.writer c.in-Ok.writer c.args.cache.now c.append_copy.new.cache (g.B.Blob.life c.args.blob.now) (g.B.Blob.life c.append_copy.new.blob) at c.in-Ok.ensures.says.goes.answers.holds.same owes.tails owes.replays owes.others owes.cached.settings

pub returns-in-Err-clause-tails : goal.returns-in-Err-clause-tails
returns-in-Err-clause-tails g c =
    let at : c.args.self.now ≡ Some c.in-Some.writer = search rules in
    let none : c.take.new.self ≡ None = search rules in
    let owes = c.in-Err.ensures.says.owes in
    leaves_gone g.H.Sum.sum_of c.args.self.now c.take.new.self c.in-Some.writer c.args.cache.now c.append_copy.new.cache (g.B.Blob.life c.args.blob.now) (g.B.Blob.life c.append_copy.new.blob) at none owes.tails owes.replays owes.others owes.cached.settings
