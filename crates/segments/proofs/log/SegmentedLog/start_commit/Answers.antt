use Rattle.std.proofs.Common.{arith}
use Rattle.std.proofs.lemmas.Grind.{common_steps}
use Rattle.segments.proofs.Surviving.{survives_call}
use Rattle.segments.proofs.log.SegmentedLog.start_commit.Goals as goal

pub returns-clause-lasts : goal.returns-clause-lasts
returns-clause-lasts g c =
    survives_call g.H.Sum.sum_of g.R.Sum.sum_of _ c.args.self.now c.start_commit.new.self c.self.view_is c.requires.log c.start_commit.ensures.leaves

pub returns-clause-keeps : goal.returns-clause-keeps
returns-clause-keeps c = grind (arith, common_steps)
