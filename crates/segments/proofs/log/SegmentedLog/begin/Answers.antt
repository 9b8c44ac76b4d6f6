use Rattle.segments.proofs.Beginning.{begin_kept, begin_opened}
use Rattle.segments.proofs.OfDigest.{of_kept, of_started}
use Rattle.segments.proofs.log.SegmentedLog.begin.Goals as goal

pub returns-clause-opens : goal.returns-clause-opens
returns-clause-opens g c = λ before opens.
    begin_opened g.H.Sum.sum_of g.R.Sum.sum_of c.first-first.result before _ c.args.self.now c.start_from.new.self c.start_from.result c.self.view_is opens c.first-first.ensures c.start_from.ensures.goes

pub returns-then-not-is_new-clause-opens : goal.returns-then-not-is_new-clause-opens
returns-then-not-is_new-clause-opens g c = λ before opens.
    begin_kept g.H.Sum.sum_of g.R.Sum.sum_of before c.args.self.now c.keep.new.self opens c.keep.ensures.has

pub returns-clause-digest : goal.returns-clause-digest
returns-clause-digest g c = λ are.
    of_started _ c.first-first.result _ c.start_from.new.self c.start_from.result c.start_from.ensures.goes are

pub returns-then-not-is_new-clause-digest : goal.returns-then-not-is_new-clause-digest
returns-then-not-is_new-clause-digest g c = λ are. of_kept _ c.args.self.now c.keep.new.self c.keep.ensures.has are
