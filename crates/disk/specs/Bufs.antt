-- Lists of buffers.
use Rattle.std.specs.Prelude.{ℕ, List, [], ◌∷◌, ◌++◌}

-- a list with one buffer more, unless that buffer is empty
abbrev pub with_buf : List (List ℕ) → List ℕ → List (List ℕ)
with_buf bufs [] = bufs
with_buf bufs (byte ∷ bytes) = bufs ++ (byte ∷ bytes) ∷ []
