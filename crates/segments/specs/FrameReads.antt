-- What a read of a frame finds in a content.
use Rattle.std.specs.Prelude.{◌<◌, ◌≤◌, ℕ, List, length, Option, Some, None}
use Rattle.journal.specs.declared.frame.Found.{Found}
use Rattle.journal.specs.Journal.{IsFound}

-- a read of the frame at an offset of a content
abbrev pub IsReadOf : (own : List ℕ → ℕ) → List ℕ → ℕ → Option Found → Type 0
IsReadOf own held offset None = length held ≤ offset
IsReadOf own held offset (Some f) = IsFound own held offset f.bytes f.end

-- a frame that is found ends behind its offset
abbrev pub EndsBehind : ℕ → Option Found → Type 0
EndsBehind offset None = Unit {0}
EndsBehind offset (Some f) = offset < f.end
