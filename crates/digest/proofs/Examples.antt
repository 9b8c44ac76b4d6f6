-- Each definition of the digests, computed on a few bytes, and refuted of another result. The
-- program of docs/DIGEST.md computed the digests.
use Rattle.std.proofs.Common.{◌≡◌, ◌+◌, ◌*◌, ◌%◌, ◌^◌, ℕ, List, [], ◌∷◌, get_or, replicate, refl, ap, arith}
use Rattle.digest.specs.Poly.{point_a, point_b, poly_digest, prime, poly_value, poly_value_of, word}
use Rattle.digest.specs.Powers.{dot, power, powers}

-- 2 ^ 61 - 1
pub one_below_a_power : prime + 1 ≡ 2 ^ 61
one_below_a_power = refl

pub not_that_power : prime ≡ 2 ^ 61 → ⊥
not_that_power is = omega (arith, is)

-- the first 64 bits of the fraction of pi, modulo the prime
pub a_point_of_pi : point_a ≡ 0x243F6A8885A308D3 % prime
a_point_of_pi = refl

-- those of e
pub a_point_of_e : point_b ≡ 0xB7E151628AED2A6A % prime
a_point_of_e = refl

pub not_one_point : point_a ≡ point_b → ⊥
not_one_point is = omega (arith, is)

-- ---- words

-- the first byte is the lowest one, and the eighth isn't counted
pub seven_bytes : word (1 ∷ 2 ∷ 0 ∷ 0 ∷ 0 ∷ 0 ∷ 0 ∷ 9 ∷ []) ≡ 1 + 2 * 256
unfolding word
seven_bytes = refl

-- a byte that is missing counts as 0
pub one_byte : word (5 ∷ []) ≡ 5
unfolding word
one_byte = refl

pub not_the_first_byte_last : word (1 ∷ 2 ∷ []) ≡ 2 + 1 * 256 → ⊥
unfolding word
not_the_first_byte_last is = omega (arith, is)

pub not_eight_bytes : word (0 ∷ 0 ∷ 0 ∷ 0 ∷ 0 ∷ 0 ∷ 0 ∷ 9 ∷ []) ≡ 9 * 2 ^ 56 → ⊥
unfolding word
not_eight_bytes is = omega (arith, is)

-- ---- values

-- from 3, after the words 4 and 5, at the point 10
pub two_words : poly_value 10 3 2 (4 ∷ 0 ∷ 0 ∷ 0 ∷ 0 ∷ 0 ∷ 0 ∷ 5 ∷ []) ≡ 345
unfolding poly_value word
two_words = refl

pub not_the_last_word_first : poly_value 10 3 2 (4 ∷ 0 ∷ 0 ∷ 0 ∷ 0 ∷ 0 ∷ 0 ∷ 5 ∷ []) ≡ 354 → ⊥
unfolding poly_value word
not_the_last_word_first is = omega (arith, is)

-- 2 ^ 61 is 1 modulo the prime
pub a_remainder : poly_value 2 (2 ^ 60) 1 (0 ∷ []) ≡ 1
unfolding poly_value word
a_remainder = refl

pub not_without_the_prime : poly_value 2 (2 ^ 60) 1 (0 ∷ []) ≡ 2 ^ 61 → ⊥
unfolding poly_value word
not_without_the_prime is = omega (arith, is)

-- the string has 8 bytes, which are the words 4 and 5
pub of_eight_bytes : poly_value_of 10 (4 ∷ 0 ∷ 0 ∷ 0 ∷ 0 ∷ 0 ∷ 0 ∷ 5 ∷ []) ≡ 845
unfolding poly_value word
of_eight_bytes = refl

pub not_without_its_length : poly_value_of 10 (4 ∷ 0 ∷ 0 ∷ 0 ∷ 0 ∷ 0 ∷ 0 ∷ 5 ∷ []) ≡ 45 → ⊥
unfolding poly_value word
not_without_its_length is = omega (arith, is)

-- ---- digests

pub of_nothing : poly_digest [] ≡ replicate 32 0
unfolding poly_digest poly_value word
of_nothing = refl

-- "a"
pub of_a_byte : poly_digest (97 ∷ []) ≡ 53 ∷ 9 ∷ 163 ∷ 133 ∷ 136 ∷ 106 ∷ 63 ∷ 4 ∷ 208 ∷ 42 ∷ 237 ∷ 138 ∷ 98 ∷ 81 ∷ 225 ∷ 23 ∷ replicate 16 0
unfolding poly_digest poly_value word
of_a_byte = refl

-- "abcdefgh": the last byte is a word of its own
pub of_a_word_and_a_byte : poly_digest (97 ∷ 98 ∷ 99 ∷ 100 ∷ 101 ∷ 102 ∷ 103 ∷ 104 ∷ [])
    ≡ 152 ∷ 104 ∷ 221 ∷ 229 ∷ 56 ∷ 112 ∷ 160 ∷ 31 ∷ 226 ∷ 248 ∷ 190 ∷ 173 ∷ 212 ∷ 14 ∷ 115 ∷ 12 ∷ replicate 16 0
unfolding poly_digest poly_value word
of_a_word_and_a_byte = refl

-- 225 bytes of 1, a block and a byte
pub of_a_block_and_a_byte : poly_digest (replicate 225 1)
    ≡ 201 ∷ 192 ∷ 245 ∷ 43 ∷ 249 ∷ 28 ∷ 137 ∷ 23 ∷ 73 ∷ 138 ∷ 5 ∷ 23 ∷ 250 ∷ 33 ∷ 30 ∷ 16 ∷ replicate 16 0
unfolding poly_digest poly_value word
of_a_block_and_a_byte = refl

-- a zero after "a" changes the digest
pub not_the_digest_of_a_byte : poly_digest (97 ∷ 0 ∷ []) ≡ poly_digest (97 ∷ []) → ⊥
unfolding poly_digest poly_value word
not_the_digest_of_a_byte is = omega (arith, ap (λ (l : List ℕ). get_or l 0 0) is)

-- ---- sums of products

-- 5 ^ 3
pub a_power : power 5 3 ≡ 125
unfolding power
a_power = refl

pub not_a_product : power 5 3 ≡ 15 → ⊥
unfolding power
not_a_product is = omega (arith, is)

-- the highest first
pub three_powers : powers 5 3 ≡ 25 ∷ 5 ∷ 1 ∷ []
unfolding powers power
three_powers = refl

pub not_the_lowest_first : powers 5 3 ≡ 1 ∷ 5 ∷ 25 ∷ [] → ⊥
unfolding powers power
not_the_lowest_first is = omega (arith, ap (λ (l : List ℕ). get_or l 0 0) is)

-- 4 * 10 + 5 * 2
pub two_products : dot (10 ∷ 2 ∷ []) (4 ∷ 0 ∷ 0 ∷ 0 ∷ 0 ∷ 0 ∷ 0 ∷ 5 ∷ []) ≡ 50
unfolding word
two_products = refl

pub not_one_word_twice : dot (10 ∷ 2 ∷ []) (4 ∷ 0 ∷ 0 ∷ 0 ∷ 0 ∷ 0 ∷ 0 ∷ 5 ∷ []) ≡ 48 → ⊥
unfolding word
not_one_word_twice is = omega (arith, is)
