use Rattle.std.proofs.Common.{subst, arith}
use Rattle.std.proofs.lemmas.Grind.{common_steps}
use Rattle.segments.specs.Owned.{OwnedAppendGoes}
use Rattle.segments.proofs.Adding.{add_goes, add_keeps}
use Rattle.segments.proofs.owned.OwnedJournal.add.Goals as goal

pub returns-in-Ok-clause-added : goal.returns-in-Ok-clause-added
returns-in-Ok-clause-added g c =
    add_keeps g.H.Sum.sum_of g.R.Sum.sum_of c.args.bytes.now c.args.self.now c.append.new.self c.commit.new.self c.in-Ok.field-0 c.requires.owned
    (subst (λ r. OwnedAppendGoes g.H.Sum.sum_of g.R.Sum.sum_of c.args.bytes.now c.args.self.now c.append.new.self r) c.in-Ok.is c.append.ensures.goes) c.append.ensures.leaves c.commit.ensures.leaves

pub returns-in-Ok-clause-goes : goal.returns-in-Ok-clause-goes
returns-in-Ok-clause-goes g c =
    add_goes g.H.Sum.sum_of g.R.Sum.sum_of c.args.bytes.now c.args.self.now c.append.new.self c.commit.new.self c.in-Ok.field-0 c.commit.result c.requires.owned
    (subst (λ r. OwnedAppendGoes g.H.Sum.sum_of g.R.Sum.sum_of c.args.bytes.now c.args.self.now c.append.new.self r) c.in-Ok.is c.append.ensures.goes) c.commit.ensures.goes

pub returns-in-Err-clause-added : goal.returns-in-Err-clause-added
returns-in-Err-clause-added g c = grind (arith, common_steps)
