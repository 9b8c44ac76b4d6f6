use Rattle.segments.specs.Log.{IsLog}
use Rattle.pagedd.proofs.log_salvage.append_text.Given as goal

abbrev pub invariant-loop-stretch : goal.invariant-loop-stretch
invariant-loop-stretch g l = IsLog g.H.Sum.sum_of g.H.Sum.sum_of l.log
