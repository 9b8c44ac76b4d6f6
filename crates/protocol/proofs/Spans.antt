-- Ranges, one after another.
use Rattle.std.proofs.Common.{◌≡◌, ◌≤◌, ◌+◌, ◌^◌, ◌∙◌, ℕ, List, [], ◌∷◌, ◌++◌, length, take, drop, refl, sym, ap, arith}
use Rattle.std.specs.Prelude.{Bool, true, false, nat_lt, ◌&&◌}
use Rattle.std.specs.Int.{w64, from_le_bytes}
use Rattle.std.proofs.lemmas.Bool.{le-ltb}
use Rattle.std.specs.List.{sum_by}
use Rattle.std.proofs.lemmas.List.Sums.{sum_by-cons, sum_by-append}
use Rattle.protocol.specs.Together.{ranges_in}

-- the first sixteen bytes encode a range
ranges_first : (bytes : List ℕ) → 16 ≤ length bytes → ranges_in bytes ≡ (from_le_bytes w64 (take 8 bytes), from_le_bytes w64 (take 8 (drop 8 bytes))) ∷ ranges_in (drop 8 (drop 8 bytes))
ranges_first (a ∷ b ∷ c ∷ d ∷ e ∷ f ∷ g ∷ h ∷ i ∷ j ∷ k ∷ l ∷ m ∷ n ∷ o ∷ p ∷ rest) some = refl
ranges_first bytes some = absurd (omega (arith, some))

-- the first range, and what is left
pub first_range : (rest first mid second after : List ℕ) (offset len : ℕ) → first ≡ take 8 rest → mid ≡ drop 8 rest → length mid + 8 ≡ length rest
    → second ≡ take 8 mid → after ≡ drop 8 mid → length after + 8 ≡ length mid → offset ≡ from_le_bytes w64 first → len ≡ from_le_bytes w64 second
    → ranges_in rest ≡ (offset, len) ∷ ranges_in after
first_range rest first mid second after offset len is then long is_second then_after longer told told_len =
    ranges_first rest (omega (arith, long, longer)) ∙ cc (is, then, is_second, then_after, told, told_len)

-- an empty list of bytes encodes no ranges
pub no_ranges : (bytes : List ℕ) → length bytes ≡ 0 → ranges_in bytes ≡ []
no_ranges [] none = refl
no_ranges (a ∷ bytes) none = absurd (omega (arith, none))

-- the bytes that ranges ask for, with one range more
pub size_more : (ranges : List (ℕ × ℕ)) (range : ℕ × ℕ) → sum_by (λ r. r.1) (ranges ++ range ∷ []) ≡ sum_by (λ r. r.1) ranges + range.1
size_more ranges range = sum_by-append (λ (r : ℕ × ℕ). r.1) ranges (range ∷ []) ∙ ap (λ (n : ℕ). sum_by (λ (r : ℕ × ℕ). r.1) ranges + n) (sum_by-cons (λ (r : ℕ × ℕ). r.1) range [] ∙ omega arith)

-- so many bytes don't fit an answer
pub not_fitting : (whole : Bool) (size : ℕ) → 2 ^ 32 ≤ size + 9 → false ≡ (whole && nat_lt (size + 9) (2 ^ 32))
not_fitting false size many = refl
not_fitting true size many = sym (le-ltb (size + 9) (2 ^ 32) many)

-- the bytes of what was read, of one more, and of what is left
pub size_of_all : (ranges : List (ℕ × ℕ)) (range : ℕ × ℕ) (rest after all : List ℕ) → ranges_in rest ≡ range ∷ ranges_in after → ranges ++ ranges_in rest ≡ ranges_in all
    → sum_by (λ r. r.1) (ranges_in all) ≡ sum_by (λ r. r.1) ranges + range.1 + sum_by (λ r. r.1) (ranges_in after)
size_of_all ranges range rest after all is told =
    let snd : ℕ × ℕ → ℕ = λ r. r.1 in
    let front : sum_by snd (ranges_in all) ≡ sum_by snd ranges + sum_by snd (ranges_in rest) = ap (sum_by snd) (sym told) ∙ sum_by-append snd ranges (ranges_in rest) in
    let more : sum_by snd (ranges_in rest) ≡ range.1 + sum_by snd (ranges_in after) = ap (sum_by snd) is ∙ sum_by-cons snd range (ranges_in after) in
    omega (arith, front, more)
