-- What a folder was asked for.
use Rattle.std.specs.Prelude.{List, [], ◌∷◌, ◌++◌}
use Rattle.disk.specs.Disk.{Life}
use Rattle.segments.specs.declared.past.Last.{Last}
use Rattle.segments.specs.declared.past.Last.TheVariants.{Nothing, After, Opened, Kept, Closed}
use Rattle.segments.specs.declared.past.Last.TheVariants.{Wrote}
use Rattle.segments.specs.FolderEvents.{FolderEvent, closing_event, keeping_event}
use Rattle.segments.specs.FolderEvents.{opening_with, plain_event, writing_event}
use Rattle.segments.specs.SegmentLevels.{levels_bytes}

-- a ghost past as a list of calls, the oldest first
abbrev pub events_of : {B : Type 0} → (B → Life) → Last B → List FolderEvent
events_of life Nothing = []
events_of life (After before call failed) = before.value.value ++ plain_event call failed ∷ []
events_of life (Opened before call blob) =
    before.value.value ++ opening_with call (life blob.value).present.readable ∷ []
events_of life (Kept before segment len manifest failed) =
    let bytes = (life manifest.value).present.readable in
    before.value.value ++ keeping_event segment len bytes failed ∷ []
events_of life (Closed before segment blob manifest) =
    let bytes = (life manifest.value).present.readable in
    before.value.value ++ closing_event segment (life blob.value) bytes ∷ []
events_of life (Wrote before segment levels failed) =
    let bytes = levels_bytes levels.value in
    before.value.value ++ writing_event segment bytes failed ∷ []
