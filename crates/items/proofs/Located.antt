-- Where items of one size stand, by their numbers.
use Rattle.std.proofs.Common.{ℕ, ◌+◌, ◌*◌, ◌^◌, ◌<◌, ◌≤◌, List, length, take, get_or, sym, subst, arith, inl, inr}
use Rattle.std.specs.Prelude.{All}
use Rattle.std.proofs.lemmas.Bool.{cases_lt}
use Rattle.std.proofs.lemmas.List.{take_more}
use Rattle.std.proofs.lemmas.List.Elements.{All-push}
use Rattle.std.proofs.Math.Nat.{mul-le-mul_right}
use Rattle.items.specs.Calls.{IsThere}

-- a number whose item would end past the greatest `u64` is no item's
pub no_item : (s n i : ℕ) → n * s < 2 ^ 64 → 2 ^ 64 ≤ i * s + s → n ≤ i
no_item s n i fits passes = elim (cases_lt i n) [
  | inl less ↦ let up : i + 1 ≤ n = omega (arith, less) in let least : (i + 1) * s ≤ n * s = mul-le-mul_right s up in absurd (omega (arith, least, fits, passes))
  | inr more ↦ more
]

-- one more number is an item's
pub one_more_there : (s n : ℕ) (indices : List ℕ) (k : ℕ) → k < length indices → All (IsThere s n) (take k indices) → IsThere s n (get_or indices k 0) → All (IsThere s n) (take (k + 1) indices)
one_more_there s n indices k less all here =
    subst (λ (l : List ℕ). All (IsThere s n) l) (sym (take_more indices k 0 less)) (All-push (IsThere s n) (take k indices) (get_or indices k 0) all here)
