-- Lengths of records, one after another.
use Rattle.std.proofs.Common.{◌≡◌, ◌≤◌, ◌<◌, ◌+◌, ◌∙◌, ℕ, List, [], ◌∷◌, ◌++◌, length, take, drop, refl, sym, ap, arith, append_assoc, append-nil, subst}
use Rattle.std.specs.Prelude.{Option, Result, Err, IsErrAnd}
use Rattle.std.specs.Int.{w32, from_le_bytes}
use Rattle.std.specs.List.{flat_map}
use Rattle.std.specs.Io.KnownBytes.{Appends}
use Rattle.std.proofs.KnownBytes.{Appends-nil, Appends-trans}
use Rattle.protocol.specs.declared.stop.Stop.{Stop}
use Rattle.protocol.specs.Output.{PutsBytes}
use Rattle.protocol.specs.Request.{number_bytes}
use Rattle.protocol.specs.Together.{lengths_in, record_starts}
use Rattle.protocol.proofs.Written.{puts_stop}

-- the first four bytes encode a length
pub lengths_first : (bytes : List ℕ) → 4 ≤ length bytes → lengths_in bytes ≡ from_le_bytes w32 (take 4 bytes) ∷ lengths_in (drop 4 bytes)
lengths_first [] some = absurd (omega (arith, some))
lengths_first (a ∷ []) some = absurd (omega (arith, some))
lengths_first (a ∷ b ∷ []) some = absurd (omega (arith, some))
lengths_first (a ∷ b ∷ c ∷ []) some = absurd (omega (arith, some))
lengths_first (a ∷ b ∷ c ∷ d ∷ rest) some = refl

-- fewer than four bytes encode no length
pub no_lengths : (bytes : List ℕ) → length bytes < 4 → lengths_in bytes ≡ []
no_lengths [] few = refl
no_lengths (a ∷ []) few = refl
no_lengths (a ∷ b ∷ []) few = refl
no_lengths (a ∷ b ∷ c ∷ []) few = refl
no_lengths (a ∷ b ∷ c ∷ d ∷ rest) few = absurd (omega (arith, few))

-- the offsets of the first records were written, and these are left
pub record Writing (first : ℕ) (lengths : List ℕ) (at : ℕ) (rest : List ℕ) (out written : Option (List ℕ)) : Type 0 where
  pub front : List ℕ
  pub answers : Appends out written front
  pub all : front ++ flat_map number_bytes (record_starts at (lengths_in rest)) ≡ flat_map number_bytes (record_starts first (lengths_in lengths))

pub writing_none : (first : ℕ) (lengths : List ℕ) (out : Option (List ℕ)) → Writing first lengths first lengths out out
writing_none first lengths out = record { front = []; answers = Appends-nil out; all = refl }

-- the first length, and what is left
pub first_length : (rest four after : List ℕ) (n : ℕ) → four ≡ take 4 rest → after ≡ drop 4 rest → length after + 4 ≡ length rest → n ≡ from_le_bytes w32 four → lengths_in rest ≡ n ∷ lengths_in after
first_length rest four after n is then long told =
    lengths_first rest (omega (arith, long))
    ∙ ap (λ (bytes : List ℕ). from_le_bytes w32 bytes ∷ lengths_in (drop 4 rest)) (sym is)
    ∙ ap (λ (bytes : List ℕ). from_le_bytes w32 four ∷ lengths_in bytes) (sym then)
    ∙ ap (λ (m : ℕ). m ∷ lengths_in after) (sym told)

-- the offset of one more record was written
pub writing_more : (first : ℕ) (lengths : List ℕ) (at n : ℕ) (rest after : List ℕ) (out mid written : Option (List ℕ)) → lengths_in rest ≡ n ∷ lengths_in after → Writing first lengths at rest out mid
    → Appends mid written (number_bytes at) → Writing first lengths (at + n) after out written
writing_more first lengths at n rest after out mid written is before answers =
    let tail = flat_map number_bytes (record_starts (at + n) (lengths_in after)) in
    record {
      front = before.front ++ number_bytes at;
      answers = Appends-trans out mid written before.front (number_bytes at) before.answers answers;
      all = append_assoc before.front (number_bytes at) tail
          ∙ ap (λ (ls : List ℕ). before.front ++ flat_map number_bytes (record_starts at ls)) (sym is)
          ∙ before.all;
    }

-- the offset of one more record wasn't written whole
pub writing_cut : (first : ℕ) (lengths : List ℕ) (at n : ℕ) (rest after : List ℕ) (out mid written : Option (List ℕ)) (stop : Stop) (result : Result (Unit {0}) Stop) → IsErrAnd result (λ x. x ≡ stop) → lengths_in rest ≡ n ∷ lengths_in after → Writing first lengths at rest out mid
    → PutsBytes (number_bytes at) mid written (Err stop) → PutsBytes (flat_map number_bytes (record_starts first (lengths_in lengths))) out written result
writing_cut first lengths at n rest after out mid written stop result same is before piece =
    let tail = flat_map number_bytes (record_starts (at + n) (lengths_in after)) in
    let all = flat_map number_bytes (record_starts first (lengths_in lengths)) in
    let parts : before.front ++ (number_bytes at ++ tail) ≡ all = ap (λ (ls : List ℕ). before.front ++ flat_map number_bytes (record_starts at ls)) (sym is) ∙ before.all in
    puts_stop before.front (number_bytes at) tail all out mid written stop result same (sym parts) before.answers piece

-- the offsets of all records were written
pub written_all : (first : ℕ) (lengths : List ℕ) (at : ℕ) (rest : List ℕ) (out written : Option (List ℕ)) → length rest < 4 → Writing first lengths at rest out written → Appends out written (flat_map number_bytes (record_starts first (lengths_in lengths)))
written_all first lengths at rest out written few w =
    let none : flat_map number_bytes (record_starts at (lengths_in rest)) ≡ [] = ap (λ (ls : List ℕ). flat_map number_bytes (record_starts at ls)) (no_lengths rest few) in
    let all : w.front ≡ flat_map number_bytes (record_starts first (lengths_in lengths)) = sym (append-nil w.front) ∙ ap (λ (xs : List ℕ). w.front ++ xs) (sym none) ∙ w.all in
    subst (λ (xs : List ℕ). Appends out written xs) all w.answers
