use Rattle.std.specs.Prelude.{◌≡◌}
use Rattle.segments.specs.Log.{IsLog, LeavesReading}
use Rattle.segments.specs.Scan.{far_from}
use Rattle.segments.proofs.Following.{SoFar}
use Rattle.segments.proofs.log.SegmentedLog.next_many.Given as goal

abbrev pub invariant-records : goal.invariant-records
invariant-records g l = record {
  ready : IsLog g.H.Sum.sum_of g.R.Sum.sum_of l.self;
  leaves : LeavesReading g.H.Sum.sum_of g.R.Sum.sum_of l.fn.self l.self;
  so_far : SoFar g.H.Sum.sum_of g.R.Sum.sum_of g.D.Digest.digest_of l.fn.most l.room l.fn.self l.fn.place l.behind l.found.items;
  same : l.place ≡ l.fn.place;
}

abbrev pub decreases-records : goal.decreases-records
decreases-records g l = far_from l.fn.self l.behind
