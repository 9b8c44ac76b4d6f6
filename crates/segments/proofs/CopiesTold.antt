-- A copy's bytes tell what is known.
use Rattle.std.specs.Prelude.{◌≡◌, ◌<◌, ◌^◌, ◌==◌, ℕ, List, Bool, true, false, Some, None, if◌then◌else◌, length, nat_lt, [], Option}
use Rattle.std.proofs.Common.{ap, ap₂, sym, ◌∙◌, refl, arith, true≢false}
use Rattle.std.proofs.lemmas.Bool.{eq-eqb, le-ltb}
use Rattle.std.proofs.lemmas.Nat.{from_be_bytes-to_be_bytes_4, from_be_bytes-to_be_bytes_8}
use Rattle.crc32c.specs.Crc.{crc32c, small_crc32c}
use Rattle.segments.specs.declared.known.Known.{Known}
use Rattle.segments.specs.Copies.{copy_body, copy_bytes, known_in}

chosen : (b c : Bool) (k j : Known) → b ≡ false → c ≡ true → k ≡ j → (if b then None else if c then Some k else None) ≡ Some j
chosen true c k j is_not is same = absurd (true≢false is_not)
chosen false false k j is_not is same = absurd (true≢false (sym is))
chosen false true k j is_not is same = ap (λ (k : Known). Some k) same

pub known_told : (segment len : ℕ) (manifest : List ℕ) → segment < 2 ^ 64 → len < 2 ^ 64
    → known_in (copy_bytes (record { segment = segment; len = len }) manifest) ≡ Some (record { segment = segment; len = len })
unfolding known_in
known_told segment len manifest fits small =
    let sum = crc32c (copy_body (record { segment = segment; len = len }) manifest) in
    chosen (nat_lt (length (copy_bytes (record { segment = segment; len = len }) manifest)) 20) _ _ _ (le-ltb (length (copy_bytes (record { segment = segment; len = len }) manifest)) 20 (omega arith))
    (ap (λ n. n == sum) (from_be_bytes-to_be_bytes_4 sum (small_crc32c (copy_body (record { segment = segment; len = len }) manifest))) ∙ eq-eqb sum sum refl)
    (ap₂ (λ o l. record { segment = o; len = l }) (from_be_bytes-to_be_bytes_8 segment fits) (from_be_bytes-to_be_bytes_8 len small))

pub copy_told : (bytes manifest : List ℕ) (known : Known) → bytes ≡ copy_bytes known manifest → known.segment < 2 ^ 64 → known.len < 2 ^ 64 → known_in bytes ≡ Some known
copy_told bytes manifest known is fits small = ap known_in is ∙ known_told known.segment known.len manifest fits small

-- no bytes are no copy
pub nothing_is_known : known_in [] ≡ None
unfolding known_in
nothing_is_known = refl

same_some : (k j : Known) → Some k ≡ Some j → k ≡ j
same_some k j is = ap (λ (o : Option Known). or_first o) is where
  or_first : Option Known → Known
  or_first None = k
  or_first (Some other) = other

-- a copy doesn't know another length than it was given
pub no_other_length : (manifest : List ℕ) → known_in (copy_bytes (record { segment = 1; len = 3 }) manifest) ≡ Some (record { segment = 1; len = 4 }) → ⊥
no_other_length manifest is =
    let same = same_some (record { segment = 1; len = 3 }) (record { segment = 1; len = 4 }) (sym (known_told 1 3 manifest (omega arith) (omega arith)) ∙ is) in
    absurd (omega (arith, ap (λ (k : Known). k.len) same))
