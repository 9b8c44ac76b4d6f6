use Rattle.std.specs.Prelude.{◌≡◌, ◌+◌, ◌<◌, drop}
use Rattle.segments.specs.Manifest.{closed_count}
use Rattle.segments.proofs.listing.Listing.records.Given as goal

abbrev pub invariant-loop-closed : goal.invariant-loop-closed
invariant-loop-closed l = record {
  counted : l.count + closed_count (drop l.closed-index l.closed-items) ≡ closed_count l.closed-items;
  fits : l.count < 18446744073709551616;
}
