-- States whose bytes are apart.
use Rattle.std.specs.Prelude.{◌/◌, ◌%◌, ◌^◌, ℕ, List}
use Rattle.std.specs.Int.Bits.{bit_xor}
use Rattle.crc32c.specs.Crc.{after_bits, after_bytes}

-- byte `index` of the state that a number leaves once so many bits are shifted out
abbrev pub state_byte : ℕ → ℕ → ℕ → ℕ
state_byte bits index n = after_bits bits n / 256 ^ index % 256

-- the state that four messages leave together, each one byte after the one before; they are the
-- first bytes of some states, their second, their third and their fourth ones
abbrev pub leaves : List ℕ → List ℕ → List ℕ → List ℕ → ℕ
leaves a b c d =
    let two = bit_xor (after_bits 8 (after_bytes 0 a)) (after_bytes 0 b) in
    let three = bit_xor (after_bits 8 two) (after_bytes 0 c) in
    bit_xor (after_bits 8 three) (after_bytes 0 d)
