-- What a reader of a closed segment reads from, by its fields.
use Rattle.segments.specs.declared.closed_segment.SegmentBytes.{SegmentBytes}
use Rattle.segments.specs.declared.closed_segment.SegmentBytes.TheVariants.{InMemory, ByPages}
use Rattle.segments.specs.ClosedSegments.{ReadFrom, FromMemory, FromPages}

-- what it reads from
abbrev pub from_fields : {S H R D : Type 0} → SegmentBytes S H R D → ReadFrom
from_fields (InMemory loaded) = FromMemory loaded
from_fields (ByPages segment) = FromPages segment
