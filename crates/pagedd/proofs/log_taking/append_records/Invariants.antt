use Rattle.segments.specs.Log.{IsLog}
use Rattle.pagedd.proofs.log_taking.append_records.Given as goal

abbrev pub invariant-loop-length : goal.invariant-loop-length
invariant-loop-length g l = IsLog g.H.Sum.sum_of g.H.Sum.sum_of l.log
