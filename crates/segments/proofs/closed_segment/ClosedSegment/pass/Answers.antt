use Rattle.std.specs.Prelude.{◌≡◌, ℕ}
use Rattle.std.proofs.Common.{refl}
use Rattle.std.specs.Int.NonZero.{non_zero_u16_get}
use Rattle.segments.specs.ClosedSegments.{FromMemory, FromPages}
use Rattle.segments.specs.Readers.{from_fields}
use Rattle.segments.proofs.SegmentReaders.{pass_by_pages, kept_not_in_memory}
use Rattle.segments.proofs.closed_segment.ClosedSegment.pass.Goals as goal
use Rattle.segments.proofs.closed_segment.ClosedSegment.pass.Goals.{in-InMemory, in-ByPages}

pub returns : goal.returns
returns g c =
    let i = c.self.inside in
    let P : ℕ = non_zero_u16_get i.page_size in
    elim c.match-self.branch [
      | in-InMemory w ↦
          let from : from_fields i.bytes ≡ FromMemory w.in-InMemory.field-0 = rw w.in-InMemory.is refl in
          rw (w.self-inside-is, w.result-is) (kept_not_in_memory g.D.Digest.digest_of c.args.offset i.number P i.closed c.args.self.now (from_fields i.bytes) w.in-InMemory.field-0 c.self.view_is from)
      | in-ByPages w ↦
          let from : from_fields i.bytes ≡ FromPages w.in-ByPages.segment = rw w.in-ByPages.is refl in
          rw (w.self-inside-is, w.result-is) (pass_by_pages g.D.Digest.digest_of c.args.offset i.number P i.closed c.args.self.now (from_fields i.bytes) w.in-ByPages.segment w.pass.new.self w.pass.result c.self.view_is from w.pass.ensures)
    ]
