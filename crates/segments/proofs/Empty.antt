-- A blob of no bytes has no record.
use Rattle.std.specs.Prelude.{◌≡◌, ◌+◌, ℕ, List, [], ◌∷◌, length}
use Rattle.std.proofs.Common.{ap, ◌∙◌, refl, arith}
use Rattle.page.specs.Page.{pieces, text, text_of_pages}
use Rattle.std.proofs.Math.Nat.{zero-div}
use Rattle.journal.specs.Frame.{records, frames}

no_bytes : (bytes : List ℕ) → length bytes ≡ 0 → bytes ≡ []
no_bytes [] few = refl
no_bytes (b ∷ bytes) few = absurd (omega (arith, few))

nothing : (own : List ℕ → ℕ) → records own [] ≡ []
unfolding records frames
nothing own = refl

pub no_record : (sum own : List ℕ → ℕ) (P : ℕ) (bytes : List ℕ) → length bytes ≡ 0 → records own (text sum P bytes) ≡ []
no_record sum own P bytes few =
    ap (λ bytes. records own (text sum P bytes)) (no_bytes bytes few)
    ∙ ap (λ n. records own (text_of_pages sum P (pieces n (P + 12) []))) (zero-div (P + 12)) ∙ nothing own
