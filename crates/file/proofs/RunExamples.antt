-- How runs go out, at a few bytes.
use Rattle.std.proofs.Common.{◌≡◌, [], ◌∷◌, false, refl}
use Rattle.disk.specs.declared.action.Action.TheVariants as actions
use Rattle.file.specs.Runs.{writes_of}

-- three bytes in runs of two and of one byte, from offset 10 on: the second run stands where the
-- first ends
pub two_runs : writes_of 10 ((97 ∷ 98 ∷ []) ∷ (99 ∷ []) ∷ []) ≡ actions.Write 10 (97 ∷ 98 ∷ []) false ∷ actions.Write 12 (99 ∷ []) false ∷ []
two_runs = refl

-- no run is no write
pub no_run : writes_of 10 [] ≡ []
no_run = refl
