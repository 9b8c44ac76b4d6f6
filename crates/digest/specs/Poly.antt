-- The value of a string as a polynomial, modulo a prime.
use Rattle.std.specs.Prelude.{◌≡◌, refl, ℕ, zero, suc, ◌+◌, ◌*◌, ◌%◌, List, ◌++◌}
use Rattle.std.specs.Prelude.{length, drop, replicate}
use Rattle.std.specs.Int.{w64, div_ceil, from_le_bytes, to_le_bytes}

-- the prime 2 ^ 61 - 1
abbrev pub prime : ℕ
prime = 2305843009213693951

-- the number of the first seven bytes, the lowest byte first: the lower 56 bits of the first eight;
-- a byte that is missing counts as 0
unfoldable pub word : List ℕ → ℕ
word bytes = from_le_bytes w64 bytes % 72057594037927936

-- the value at x of the polynomial whose coefficients are h and then n words of these bytes, that
-- of the highest power first
unfoldable pub poly_value : (x h n : ℕ) → List ℕ → ℕ
poly_value x h zero bytes = h
poly_value x h (suc n) bytes = poly_value x ((h * x + word bytes) % prime) n (drop 7 bytes)

-- the value of a string at x: its length is the first coefficient, and its words are the others
abbrev pub poly_value_of : (x : ℕ) → List ℕ → ℕ
poly_value_of x bytes = poly_value x (length bytes) (div_ceil (length bytes) 7) bytes

-- the first point: the first 64 bits of the fraction of pi, modulo the prime
abbrev pub point_a : ℕ
point_a = 306080434274633940

-- the second point: the first 64 bits of the fraction of e, modulo the prime
abbrev pub point_b : ℕ
point_b = 1720746016311683695

-- the digest: the values at both points, eight bytes each, and sixteen zeros
unfoldable pub poly_digest : List ℕ → List ℕ
poly_digest bytes =
    to_le_bytes w64 (poly_value_of point_a bytes)
    ++ to_le_bytes w64 (poly_value_of point_b bytes) ++ replicate 16 0

-- a digest has 32 bytes
pub length-poly_digest : (bytes : List ℕ) → length (poly_digest bytes) ≡ 32
unfolding poly_digest
length-poly_digest bytes = refl
