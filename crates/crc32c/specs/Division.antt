-- Long division by a sparse multiple of the polynomial, whose exponents count bytes.
use Rattle.std.specs.Prelude.{ℕ, List, [], ◌∷◌, drop}
use Rattle.std.specs.Int.Bits.{bit_xor}
use Rattle.std.specs.Simd.Lanes.{zip2, chunk}

-- the exponents, below its degree 290, of the far multiple:
-- x ^ 290 + x ^ 136 + x ^ 113 + x ^ 107 + x ^ 32 + 1
abbrev pub far : List ℕ
far = 0 ∷ 32 ∷ 107 ∷ 113 ∷ 136 ∷ []

-- the next n bytes of the quotient: those of the message, to which n bytes of the window from each
-- exponent on are added; the window holds the bytes of the quotient before, as many as the degree
abbrev pub next_quotient : ℕ → List ℕ → List ℕ → List ℕ → List ℕ
next_quotient n [] window bytes = bytes
next_quotient n (exponent ∷ exponents) window bytes =
    zip2 bit_xor (next_quotient n exponents window bytes) (chunk exponent n window)

-- the bytes with others added to the first of them, without carry
abbrev pub xored : List ℕ → List ℕ → List ℕ
xored [] more = []
xored (byte ∷ bytes) [] = byte ∷ bytes
xored (byte ∷ bytes) (other ∷ more) = bit_xor byte other ∷ xored bytes more

-- what is left of the message's bytes once the quotient up to the window is taken off: the window's
-- bytes from each exponent on are added to the first of the message's
abbrev pub remaining : List ℕ → List ℕ → List ℕ → List ℕ
remaining [] window bytes = bytes
remaining (exponent ∷ exponents) window bytes =
    xored (remaining exponents window bytes) (drop exponent window)
