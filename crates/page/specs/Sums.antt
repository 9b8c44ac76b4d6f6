-- The checksum functions of tests and of the program.
use Rattle.std.specs.Prelude.{ℕ, ◌%◌, ◌<◌, ◌^◌, List, sum}
use Rattle.std.proofs.Common.{lit<}
use Rattle.std.proofs.Math.Nat.{mod-lt}

-- the sum of the bytes, modulo 2 to the power of 32
abbrev pub add_sum : List ℕ → ℕ
add_sum bytes = sum bytes % 2 ^ 32

-- the sum of the bytes fits 32 bits
pub small_add_sum : (bytes : List ℕ) → add_sum bytes < 2 ^ 32
small_add_sum bytes = mod-lt (sum bytes) (lit< tt)

-- 0, whatever the bytes
abbrev pub const_sum : List ℕ → ℕ
const_sum bytes = 0

-- the constant fits 32 bits
pub small_const_sum : (bytes : List ℕ) → const_sum bytes < 2 ^ 32
small_const_sum bytes = lit< tt
