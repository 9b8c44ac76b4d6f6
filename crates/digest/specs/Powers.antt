-- A value as one sum, in which each word is multiplied by a power of the point.
use Rattle.std.specs.Prelude.{ℕ, zero, suc, ◌+◌, ◌*◌, ◌%◌, List, [], ◌∷◌, drop}
use Rattle.digest.specs.Poly.{prime, word}

-- a power of x, modulo the prime
unfoldable pub power : (x n : ℕ) → ℕ
power x zero = 1
power x (suc n) = power x n * x % prime

-- the n lowest powers of x, the highest first
unfoldable pub powers : (x n : ℕ) → List ℕ
powers x zero = []
powers x (suc n) = power x n ∷ powers x n

-- the sum of the products of these factors with the words of some bytes
abbrev pub dot : List ℕ → List ℕ → ℕ
dot [] bytes = 0
dot (factor ∷ factors) bytes = word bytes * factor + dot factors (drop 7 bytes)
