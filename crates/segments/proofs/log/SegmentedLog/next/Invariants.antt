use Rattle.std.specs.Prelude.{◌≡◌, []}
use Rattle.segments.specs.Log.{IsLog, LeavesReading}
use Rattle.segments.specs.Scan.{IsFrom, StandBetween, far_from}
use Rattle.segments.proofs.log.SegmentedLog.next.Given as goal

abbrev pub invariant-loop-bytes : goal.invariant-loop-bytes
invariant-loop-bytes g l = record {
  ready : IsLog g.H.Sum.sum_of g.R.Sum.sum_of l.self;
  leaves : LeavesReading g.H.Sum.sum_of g.R.Sum.sum_of l.fn.self l.self;
  so_far : StandBetween g.H.Sum.sum_of g.R.Sum.sum_of g.D.Digest.digest_of l.fn.self [] l.fn.place l.at;
  further : IsFrom l.fn.self l.fn.place l.at;
  same : l.place ≡ l.fn.place;
}

abbrev pub decreases-loop-bytes : goal.decreases-loop-bytes
decreases-loop-bytes g l = far_from l.fn.self l.at
