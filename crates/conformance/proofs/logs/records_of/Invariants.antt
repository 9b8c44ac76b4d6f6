use Rattle.segments.specs.Log.{IsLog}
use Rattle.conformance.proofs.logs.records_of.Given as goal

-- the log stays one
abbrev pub invariant-loop : goal.invariant-loop
invariant-loop g l = IsLog g.H.Sum.sum_of g.H.Sum.sum_of l.log
