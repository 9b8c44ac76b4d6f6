-- Reads into a buffer.
use Rattle.std.proofs.Common.{◌≡◌, ◌∙◌, ℕ, List, ◌++◌, length, take, sym, subst}
use Rattle.std.specs.Prelude.{Result}
use Rattle.std.proofs.lemmas.List.{take_at}
use Rattle.page_digests.specs.Buffers.{FillsGoes}
use Rattle.page_digests.specs.Sources.{SourceRead}
use Rattle.page_digests.specs.declared.error.Error.{Error}

-- a buffer that was filled whole
pub filled : (offset k m n : ℕ) (old new : List SourceRead) (bytes rest : List ℕ) (result : Result (Unit {0}) Error)
    → length bytes ≡ k → k ≡ m → m ≡ n → FillsGoes offset k old new bytes result → FillsGoes offset n old new (take m (bytes ++ rest)) result
filled offset k m n old new bytes rest result len same all goes =
    subst (λ (z : ℕ). FillsGoes offset z old new (take m (bytes ++ rest)) result) (same ∙ all)
    (subst (λ (l : List ℕ). FillsGoes offset k old new l result) (sym (take_at bytes rest m (len ∙ same))) goes)
