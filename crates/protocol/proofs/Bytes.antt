-- Numbers and lengths as bytes.
use Rattle.std.proofs.Common.{◌≡◌, ℕ, ◌<◌, ◌^◌, List, [], ◌∷◌, ◌++◌, length, take, drop, refl, sym, ap, ◌∙◌, get_or, zero, suc, append_assoc, arith}
use Rattle.std.specs.Int.{w32, w64, from_le_bytes}
use Rattle.std.proofs.lemmas.List.{length-drop, take_all, take-append-drop, drop-drop}
use Rattle.std.proofs.lemmas.Nat.{le_bytes_8, le_bytes_4, from_le_bytes-to_le_bytes_8, from_le_bytes-to_le_bytes_4}
use Rattle.protocol.specs.Request.{number_bytes, length_bytes}

-- a number has eight bytes
pub length-number_bytes : (n : ℕ) → length (number_bytes n) ≡ 8
unfolding number_bytes
length-number_bytes n = refl

-- a length has four bytes
pub length-length_bytes : (n : ℕ) → length (length_bytes n) ≡ 4
unfolding length_bytes
length-length_bytes n = refl

-- two numbers with the same bytes are equal
pub same_number : (m n : ℕ) → m < 2 ^ 64 → n < 2 ^ 64 → number_bytes m ≡ number_bytes n → m ≡ n
unfolding number_bytes
same_number m n low high same =
    sym (from_le_bytes-to_le_bytes_8 m low) ∙ ap (λ bs. from_le_bytes w64 bs) same ∙ from_le_bytes-to_le_bytes_8 n high

-- two lengths with the same bytes are equal
pub same_length : (m n : ℕ) → m < 2 ^ 32 → n < 2 ^ 32 → length_bytes m ≡ length_bytes n → m ≡ n
unfolding length_bytes
same_length m n low high same =
    sym (from_le_bytes-to_le_bytes_4 m low) ∙ ap (λ bs. from_le_bytes w32 bs) same ∙ from_le_bytes-to_le_bytes_4 n high

-- bytes are those of the number that they give
pub number_of_bytes : (bs : List ℕ) (n : ℕ) → length bs ≡ 8 → ((i : ℕ) → get_or bs i 0 < 256) → n ≡ from_le_bytes w64 bs → number_bytes n ≡ bs
unfolding number_bytes
number_of_bytes bs n eight bytes is = le_bytes_8 bs n eight bytes is

-- bytes are those of the length that they give
pub length_of_bytes : (bs : List ℕ) (n : ℕ) → length bs ≡ 4 → ((i : ℕ) → get_or bs i 0 < 256) → n ≡ from_le_bytes w32 bs → length_bytes n ≡ bs
unfolding length_bytes
length_of_bytes bs n four bytes is = le_bytes_4 bs n four bytes is

-- the first of some bytes are bytes
pub bytes_of_take : (n : ℕ) (xs : List ℕ) → ((i : ℕ) → get_or xs i 0 < 256) → (i : ℕ) → get_or (take n xs) i 0 < 256
bytes_of_take zero xs are i = omega arith
bytes_of_take (suc n) [] are i = omega arith
bytes_of_take (suc n) (x ∷ xs) are zero = are 0
bytes_of_take (suc n) (x ∷ xs) are (suc i) = bytes_of_take n xs (λ j. are (suc j)) i

-- ---- numbers in a row

-- the first of them alone
pub whole_1 : (all first : List ℕ) → length all ≡ 8 → first ≡ take 8 all → all ≡ first
whole_1 all first long is = sym (is ∙ take_all 8 all (omega (arith, long)))

-- the first of them, and what is after it
pub whole_2 : (all first second : List ℕ) → length all ≡ 16 → first ≡ take 8 all → second ≡ take 8 (drop 8 all) → all ≡ first ++ second
whole_2 all first second long is then =
    let rest : drop 8 all ≡ second = whole_1 (drop 8 all) second (omega (arith, long, length-drop 8 all)) then in
    sym (take-append-drop 8 all) ∙ ap (λ (front : List ℕ). front ++ drop 8 all) (sym is) ∙ ap (λ (after : List ℕ). first ++ after) rest

-- three of them
pub whole_3 : (all first second third : List ℕ) → length all ≡ 24 → first ≡ take 8 all → second ≡ take 8 (drop 8 all) → third ≡ take 8 (drop 16 all) → all ≡ first ++ second ++ third
whole_3 all first second third long is then last =
    let more : third ≡ take 8 (drop 8 (drop 8 all)) = last ∙ ap (λ (after : List ℕ). take 8 after) (sym (drop-drop 8 8 all)) in
    let rest : drop 8 all ≡ second ++ third = whole_2 (drop 8 all) second third (omega (arith, long, length-drop 8 all)) then more in
    sym (take-append-drop 8 all) ∙ ap (λ (front : List ℕ). front ++ drop 8 all) (sym is) ∙ ap (λ (after : List ℕ). first ++ after) rest
    ∙ sym (append_assoc first second third)
