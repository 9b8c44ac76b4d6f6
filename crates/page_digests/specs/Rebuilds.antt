-- The levels of a content, built again from its file.
use Rattle.std.specs.Prelude.{◌≡◌, ◌≢◌, ◌<◌, ◌*◌, ◌++◌, ◌∷◌, [], ℕ, zero, suc, List, length, min}
use Rattle.std.specs.Prelude.{Vec}
use Rattle.std.specs.Prelude.{Result, Ok, Err}
use Rattle.std.specs.declared.alloc.Global.{Global}
use Rattle.page_digests.specs.Pages.{list_of, content_page, pages_of_len, page_len, root_of}
use Rattle.page_digests.specs.Reads.{PageIsRefused, page_offset}
use Rattle.page_digests.specs.Seals.{AreLevelsOf, EachIsByte}
use Rattle.page_digests.specs.Sources.{EndsWithRead, SourceRead, gave, refused}
use Rattle.page_digests.specs.declared.error.Error.{Error}
use Rattle.page_digests.specs.declared.error.Error.TheVariants.{Damaged, OutOfMemory, System}
use Rattle.page_digests.specs.declared.levels.Levels.{Levels}
use Rattle.page_digests.specs.declared.seal.Seal.{Seal}

-- the reads of the first n pages of some bytes, each in its place, that gave just these pages
abbrev pub page_reads : (P : ℕ) → List ℕ → (n : ℕ) → List SourceRead
page_reads P bytes zero = []
page_reads P bytes (suc n) =
    page_reads P bytes n ++ gave (page_offset P n) (content_page P n bytes) ∷ []

-- since then all pages of so many bytes were read once, in order, and gave these bytes
pub record GivesAll (P count : ℕ) (old new : List SourceRead) (bytes : List ℕ) : Type 0 where
  pub len : length bytes ≡ count
  pub are_bytes : EachIsByte bytes
  pub reads : new ≡ old ++ page_reads P bytes (pages_of_len P count)

-- the pages were read up to page i
pub record GivesPages (P count : ℕ) (old new : List SourceRead) (i : ℕ) (bytes : List ℕ)
    : Type 0 where
  pub len : length bytes ≡ min (i * P) count
  pub are_bytes : EachIsByte bytes
  pub reads : new ≡ old ++ page_reads P bytes i

-- the list is built, by the answer
abbrev pub ListReadGoes : (List ℕ → List ℕ) → (P len : ℕ) → (old new : List SourceRead)
    → Result (Vec ℕ Global) Error → Type 0
ListReadGoes d P len old new (Ok list) =
    (bytes : List ℕ) × GivesAll P len old new bytes × (list.items ≡ list_of d P bytes)
ListReadGoes d P len old new (Err Damaged) = ⊥
ListReadGoes d P len old new (Err (System e)) = (i : ℕ) × (i * P < len)
    × EndsWithRead old new (refused (page_offset P i) (page_len P len i))
ListReadGoes d P len old new (Err OutOfMemory) = Unit {0}

-- the levels are built again, by the answer: they are those of the bytes that the file gives, if
-- these have the root that was kept
abbrev pub RebuildGoes : (List ℕ → List ℕ) → (P : ℕ) → Seal → (old new : List SourceRead)
    → Result Levels Error → Type 0
RebuildGoes d P seal old new (Ok l) = (bytes : List ℕ) × GivesAll P seal.len old new bytes
    × (root_of d P bytes ≡ seal.root) × AreLevelsOf d P bytes l
RebuildGoes d P seal old new (Err Damaged) = (bytes : List ℕ) × GivesAll P seal.len old new bytes
    × (root_of d P bytes ≢ seal.root)
RebuildGoes d P seal old new (Err (System e)) =
    (i : ℕ) × (i * P < seal.len) × PageIsRefused P seal i old new
RebuildGoes d P seal old new (Err OutOfMemory) = Unit {0}
