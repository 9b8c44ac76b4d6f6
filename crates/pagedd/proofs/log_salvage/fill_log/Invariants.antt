use Rattle.segments.specs.Log.{IsLog}
use Rattle.pagedd.proofs.log_salvage.fill_log.Given as goal

abbrev pub invariant-loop-number : goal.invariant-loop-number
invariant-loop-number g l = IsLog g.H.Sum.sum_of g.H.Sum.sum_of l.log
