use Rattle.std.specs.Prelude.{drop}
use Rattle.segments.specs.Kept.{AreOfDigest}
use Rattle.segments.proofs.listing.Listing.other_digest.Given as goal

abbrev pub invariant-loop-closed : goal.invariant-loop-closed
invariant-loop-closed l = AreOfDigest l.number (drop l.closed-index l.closed-items) → AreOfDigest l.number l.closed-items
