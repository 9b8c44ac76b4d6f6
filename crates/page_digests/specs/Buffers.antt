-- What the reads into a buffer do: no public clause reaches these.
use Rattle.std.specs.Prelude.{◌≡◌, ◌↔◌, ◌++◌, ◌∷◌, [], ℕ, List, length, Bool, true, Result, Ok, Err}
use Rattle.page_digests.specs.Seals.{EachIsByte}
use Rattle.page_digests.specs.Sources.{SourceRead, gave, refused}
use Rattle.page_digests.specs.declared.error.Error.{Error}
use Rattle.page_digests.specs.declared.error.Error.TheVariants.{Damaged, OutOfMemory, System}

-- a read into a buffer, by its answer
abbrev pub FillsGoes : (offset len : ℕ) → (old new : List SourceRead) → (bytes : List ℕ)
    → Result (Unit {0}) Error → Type 0
FillsGoes offset len old new bytes (Ok _) =
    (new ≡ old ++ gave offset bytes ∷ []) × (length bytes ≡ len) × EachIsByte bytes
FillsGoes offset len old new bytes (Err Damaged) = ⊥
FillsGoes offset len old new bytes (Err (System e)) = new ≡ old ++ refused offset len ∷ []
FillsGoes offset len old new bytes (Err OutOfMemory) = new ≡ old

-- a read into a buffer that is compared with a digest, by its answer
abbrev pub ComparesGoes : (List ℕ → List ℕ) → (offset len : ℕ) → (digest : List ℕ)
    → (old new : List SourceRead) → (bytes : List ℕ) → Result Bool Error → Type 0
ComparesGoes d offset len digest old new bytes (Ok is_same) =
    (new ≡ old ++ gave offset bytes ∷ []) × (length bytes ≡ len) × EachIsByte bytes
    × ((is_same ≡ true) ↔ (d bytes ≡ digest))
ComparesGoes d offset len digest old new bytes (Err Damaged) = ⊥
ComparesGoes d offset len digest old new bytes (Err (System e)) =
    new ≡ old ++ refused offset len ∷ []
ComparesGoes d offset len digest old new bytes (Err OutOfMemory) = new ≡ old
