-- Flags as digits.
use Rattle.std.proofs.Common.{◌≡◌, ◌≢◌, ◌⊎◌, inl, inr, ℕ, zero, suc, ◌<◌, Bool, true, false, List, [], ◌∷◌, length, map, get_or, codes, refl, sym, subst, arith}
use Rattle.scripts.specs.Script.{flag_digit, flags_text}

abbrev IsFlagDigit : ℕ → Type 0
IsFlagDigit digit = (digit ≡ 48) ⊎ (digit ≡ 49)

digit-is : (flag : Bool) → IsFlagDigit (flag_digit flag)
digit-is false = inl refl
digit-is true = inr refl

map-digit : (flags : List Bool) (i : ℕ) → i < length (map flag_digit flags) → IsFlagDigit (get_or (map flag_digit flags) i 0)
map-digit [] i below = absurd (omega arith)
map-digit (flag ∷ flags) zero below = digit-is flag
map-digit (flag ∷ flags) (suc i) below = map-digit flags i (omega arith)

-- each byte of a word of flags is one of the two digits
pub flags_text-digit : (word : List ℕ) (flags : List Bool) (i : ℕ) → word ≡ flags_text flags → word ≢ codes "-" → i < length word → (get_or word i 0 ≡ 48) ⊎ (get_or word i 0 ≡ 49)
flags_text-digit word [] i same other below = absurd (other same)
flags_text-digit word (flag ∷ flags) i same other below =
    subst (λ (bytes : List ℕ). i < length bytes → IsFlagDigit (get_or bytes i 0)) (sym same) (map-digit (flag ∷ flags) i) below
