use Rattle.std.proofs.Common.{ap, arith, ◌∙◌}
use Rattle.segments.specs.Manifest.{ListingState}
use Rattle.segments.proofs.Listings.{all_counted}
use Rattle.segments.proofs.listing.Listing.records.Goals as goal

pub returns : goal.returns
returns c =
    all_counted c.deref-closed-items.result.now c.args.self.now.closed c.loop-closed.count c.loop-closed.closed-index c.loop-closed.invariant.counted
    (omega (arith, c.loop-closed-test.false, c.loop-closed.auto.closed-index-end))
    (c.deref-closed-items.ensures.value ∙ ap (λ (l : ListingState). l.closed) c.self.view_is) c.loop-closed.invariant.fits
