use Rattle.std.specs.Prelude.{◌≡◌, ℕ}
use Rattle.std.proofs.Common.{refl}
use Rattle.std.specs.Int.NonZero.{non_zero_u16_get}
use Rattle.segments.specs.ClosedSegments.{FromMemory, FromPages}
use Rattle.segments.specs.Readers.{from_fields}
use Rattle.segments.proofs.SegmentReaders.{memory_read, pages_read}
use Rattle.segments.proofs.closed_segment.ClosedSegment.read.Goals as goal
use Rattle.segments.proofs.closed_segment.ClosedSegment.read.Goals.{in-InMemory, in-ByPages}

pub returns : goal.returns
returns g c =
    let i = c.self.inside in
    let P : ℕ = non_zero_u16_get i.page_size in
    elim c.match-self.branch [
      | in-InMemory w ↦
          let from : from_fields i.bytes ≡ FromMemory w.in-InMemory.loaded = rw w.in-InMemory.is refl in
          rw (w.self-inside-is, w.result-is) (memory_read g.H.Sum.sum_of g.R.Sum.sum_of g.D.Digest.digest_of c.args.offset i.number P i.closed c.args.self.now (from_fields i.bytes) w.in-InMemory.loaded w.read.new.self w.read.result
          c.self.view_is from c.self.invariant (w.read.ensures.goes g.D.Digest.digest_of))
      | in-ByPages w ↦
          let from : from_fields i.bytes ≡ FromPages w.in-ByPages.segment = rw w.in-ByPages.is refl in
          rw (w.self-inside-is, w.result-is) (pages_read g.H.Sum.sum_of g.R.Sum.sum_of g.D.Digest.digest_of c.args.offset i.number P i.closed c.args.self.now (from_fields i.bytes) w.in-ByPages.segment w.read-in-ByPages.new.self w.read-in-ByPages.result
          c.self.view_is from c.self.invariant w.read-in-ByPages.ensures)
    ]
