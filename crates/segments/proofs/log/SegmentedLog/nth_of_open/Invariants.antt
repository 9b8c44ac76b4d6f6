use Rattle.segments.specs.Log.{IsLog, LeavesReading}
use Rattle.segments.specs.Owned.{content_now}
use Rattle.segments.proofs.OpenWalks.{IsWalking}
use Rattle.segments.proofs.log.SegmentedLog.nth_of_open.Given as goal

abbrev pub invariant-loop-found : goal.invariant-loop-found
invariant-loop-found g l = record {
  ready : IsLog g.H.Sum.sum_of g.R.Sum.sum_of l.self;
  leaves : LeavesReading g.H.Sum.sum_of g.R.Sum.sum_of l.fn.self l.self;
  walking : IsWalking (content_now l.fn.self.current) l.fn.n l.left l.at;
}

abbrev pub decreases-loop-found : goal.decreases-loop-found
decreases-loop-found g l = l.left
