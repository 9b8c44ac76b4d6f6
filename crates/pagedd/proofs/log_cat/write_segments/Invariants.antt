use Rattle.segments.specs.Log.{IsLog}
use Rattle.pagedd.proofs.log_cat.write_segments.Given as goal

abbrev pub invariant-loop-segment : goal.invariant-loop-segment
invariant-loop-segment g l = IsLog g.H.Sum.sum_of g.H.Sum.sum_of l.log
