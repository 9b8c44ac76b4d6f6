-- What a walk through a journal's content passes, frame by frame.
use Rattle.std.specs.Prelude.{◌≡◌, ◌<◌, ◌≤◌, ◌+◌, ℕ, List, length, drop, Option, Some, None}
use Rattle.std.specs.Prelude.{Result, Ok, Err}
use Rattle.disk.specs.declared.error.Error.{Error}
use Rattle.journal.specs.declared.frame.Found.{Found}
use Rattle.journal.specs.Frame.{frame_len, record_of}

-- the whole frame that begins at an offset of a content: its record, if it is one, and the offset
-- after it, from which on the rest is left
pub record IsPassed (own : List ℕ → ℕ) (content : List ℕ) (offset : ℕ) (left : List ℕ)
    (bytes : Option (List ℕ)) (end : ℕ) : Type 0 where
  pub rest : left ≡ drop end content
  pub held : bytes ≡ record_of own (drop offset content)
  pub after : end ≡ offset + frame_len (drop offset content)
  pub within : end ≤ length content

-- the next frame; none if the content ends before the frame does
abbrev pub PassesFrame : (own : List ℕ → ℕ) → List ℕ → (offset : ℕ) → (left : List ℕ)
    → Result (Option Found) Error → Type 0
PassesFrame own content offset left (Ok None) =
    length content < offset + frame_len (drop offset content)
PassesFrame own content offset left (Ok (Some f)) =
    IsPassed own content offset left f.bytes f.end
PassesFrame own content offset left (Err e) = Unit {0}
