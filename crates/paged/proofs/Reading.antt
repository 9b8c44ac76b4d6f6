-- Bytes of a page that was read.
use Rattle.std.proofs.Common.{◌≡◌, ◌∙◌, ◌+◌, ◌*◌, ◌-◌, ◌≤◌, ℕ, List, take, drop, ap, arith}
use Rattle.std.proofs.lemmas.List.{drop-drop}
use Rattle.std.specs.Prelude.{slice_range}
use Rattle.crash.proofs.Lists.{within_take}

-- some bytes of a page are those of the blob
pub within_page : (P page skip len : ℕ) (bytes readable : List ℕ) → bytes ≡ take (P + 12) (drop (page * (P + 12)) readable) → skip + len ≤ P
    → slice_range bytes skip (skip + len) ≡ take len (drop (page * (P + 12) + skip) readable)
within_page P page skip len bytes readable is fits =
    let n : skip + len - skip ≡ len = omega arith in
    ap (λ n. take n (drop skip bytes)) n ∙ ap (λ b. take len (drop skip b)) is
    ∙ within_take len skip (P + 12) (drop (page * (P + 12)) readable) (omega arith)
    ∙ ap (λ b. take len b) (drop-drop skip (page * (P + 12)) readable)
