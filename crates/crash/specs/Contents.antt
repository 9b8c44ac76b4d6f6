-- What is readable once every operation is done, and the payloads of the pages in it.
use Rattle.std.specs.Prelude.{ℕ, List, [], ◌∷◌, take}
use Rattle.std.specs.List.{flat_map}
use Rattle.disk.specs.Disk.{Operation, applied}
use Rattle.page.specs.Page.{pages}

-- the last whole state: the bytes after every operation is done
abbrev pub latest : List ℕ → List Operation → List ℕ
latest base [] = base
latest base (o ∷ os) = latest (applied o base) os

-- the payloads of the first pages, joined
abbrev pub stored : ℕ → ℕ → List ℕ → List ℕ
stored P full readable = flat_map (take P) (take full (pages P readable))
