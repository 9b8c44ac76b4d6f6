use Rattle.std.specs.Prelude.{◌≡◌, Some, drop}
use Rattle.segments.specs.Manifest.{listed_after, listed_in}
use Rattle.segments.proofs.listing.listed.Given as goal

abbrev pub invariant-loop-record : goal.invariant-loop-record
invariant-loop-record l = listed_after l.page_size (Some l.listing) (drop l.record-index l.records) ≡ listed_in l.page_size l.records
