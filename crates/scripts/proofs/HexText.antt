-- Hexadecimal text, written and read.
use Rattle.std.proofs.Common.{◌≡◌, ℕ, ◌+◌, ◌-◌, ◌^◌, ◌<◌, false, List, [], ◌++◌, length, take, get_or, Some, sym, ap, ◌∙◌}
use Rattle.std.proofs.lemmas.List.{take_more, flat_map_more}
use Rattle.std.proofs.lemmas.Fmt.{hex_byte}
use Rattle.std.specs.List.{flat_map}
use Rattle.std.specs.Fmt.{digits, digits_output, styled_digits_output, format_spec}
use Rattle.scripts.specs.Text.{hex_digits}

-- a hole `{:02x}` writes the two digits of a byte
pub styled-hex_digits : (d : _) (spec : _) (n : ℕ) → n < 256 → spec ≡ format_spec 32 0 4 2 (2 ^ 64 - 1) → digits_output d ≡ Some (digits 16 false n) → styled_digits_output d spec ≡ Some (hex_digits n)
styled-hex_digits d spec n small s e = rw (s, e) (ap Some (hex_byte false n small))

-- the digits of one byte more
pub hex-take_more : (bytes : List ℕ) (i : ℕ) → i < length bytes → flat_map hex_digits (take i bytes) ++ hex_digits (get_or bytes i 0) ≡ flat_map hex_digits (take (i + 1) bytes)
hex-take_more bytes i below = flat_map_more hex_digits [] (take i bytes) (get_or bytes i 0) ∙ ap (flat_map hex_digits) (sym (take_more bytes i 0 below))
