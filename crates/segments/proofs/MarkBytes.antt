-- Marks in their bytes.
use Rattle.std.proofs.Common.{◌≡◌, ◌<◌, ◌≤◌, ◌*◌, ◌+◌, ◌++◌, ◌-◌, ◌/◌, ◌%◌, ◌∙◌, ◌∷◌, [], ℕ, zero, suc, List, length, take, drop, ap, ap₂, refl, sym, subst, inl, inr, arith, length-append, length-drop}
use Rattle.std.specs.Int.{w64, to_le_bytes, from_le_bytes}
use Rattle.std.proofs.lemmas.Bool.{cases_lt}
use Rattle.std.proofs.lemmas.List.{drop-append-le, drop_at, take-append-le, take_all}
use Rattle.std.proofs.lemmas.Nat.{from_le_bytes-to_le_bytes_8}
use Rattle.segments.specs.Marks.{begins_before, frame_begin, mark_at, mark_bytes, marks}
use Rattle.segments.specs.declared.mark.Mark.{Mark}
use Rattle.segments.proofs.Begins.{begun_before}

-- ---- the bytes of a sum

low_0 : (n : ℕ) → n % 18446744073709551616 % 256 ≡ n % 256
low_0 n = omega arith

low_1 : (n : ℕ) → n % 18446744073709551616 / 256 % 256 ≡ n / 256 % 256
low_1 n = omega arith

low_2 : (n : ℕ) → n % 18446744073709551616 / 65536 % 256 ≡ n / 65536 % 256
low_2 n = omega arith

low_3 : (n : ℕ) → n % 18446744073709551616 / 16777216 % 256 ≡ n / 16777216 % 256
low_3 n = omega arith

low_4 : (n : ℕ) → n % 18446744073709551616 / 4294967296 % 256 ≡ n / 4294967296 % 256
low_4 n = omega arith

low_5 : (n : ℕ) → n % 18446744073709551616 / 1099511627776 % 256 ≡ n / 1099511627776 % 256
low_5 n = omega arith

low_6 : (n : ℕ) → n % 18446744073709551616 / 281474976710656 % 256 ≡ n / 281474976710656 % 256
low_6 n = omega arith

low_7 : (n : ℕ) → n % 18446744073709551616 / 72057594037927936 % 256 ≡ n / 72057594037927936 % 256
low_7 n = omega arith

-- eight bytes see nothing of a number that is more than 64 bits
pub lowest : (n : ℕ) → to_le_bytes w64 (n % 18446744073709551616) ≡ to_le_bytes w64 n
lowest n =
    ap₂ (λ (b : ℕ) (bytes : List ℕ). b ∷ bytes) (low_0 n) (ap₂ (λ (b : ℕ) (bytes : List ℕ). b ∷ bytes) (low_1 n)
    (ap₂ (λ (b : ℕ) (bytes : List ℕ). b ∷ bytes) (low_2 n) (ap₂ (λ (b : ℕ) (bytes : List ℕ). b ∷ bytes) (low_3 n)
    (ap₂ (λ (b : ℕ) (bytes : List ℕ). b ∷ bytes) (low_4 n) (ap₂ (λ (b : ℕ) (bytes : List ℕ). b ∷ bytes) (low_5 n)
    (ap₂ (λ (b : ℕ) (bytes : List ℕ). b ∷ bytes) (low_6 n) (ap (λ (b : ℕ). b ∷ []) (low_7 n))))))))

-- how many bytes the marks of the first pages have
pub length-marks : (P : ℕ) (content : List ℕ) (n : ℕ) → length (marks P content n) ≡ n * 8
length-marks P content zero = refl
length-marks P content (suc n) =
    let front : length (marks P content n) ≡ n * 8 = length-marks P content n in
    let both = length-append (marks P content n) (mark_bytes (mark_at P content n)) in
    both ∙ (let e : length (marks P content n) + 8 ≡ suc n * 8 = omega arith in e)

front_mark : (X Y : List ℕ) (i : ℕ) → i * 8 + 8 ≤ length X → take 8 (drop (i * 8) (X ++ Y)) ≡ take 8 (drop (i * 8) X)
front_mark X Y i fits =
    let starts : i * 8 ≤ length X = omega arith in
    let rest : length (drop (i * 8) X) ≡ length X - i * 8 = length-drop (i * 8) X in
    let enough : 8 ≤ length (drop (i * 8) X) = omega arith in
    ap (take 8) (drop-append-le (i * 8) X Y starts) ∙ take-append-le 8 (drop (i * 8) X) Y enough

last_mark : (X Y : List ℕ) (i : ℕ) → length X ≡ i * 8 → length Y ≡ 8 → take 8 (drop (i * 8) (X ++ Y)) ≡ Y
last_mark X Y i front len =
    let fits : length Y ≤ 8 = omega arith in
    ap (take 8) (drop_at X Y (i * 8) front) ∙ take_all 8 Y fits

-- the bytes of mark i
pub mark_in : (P : ℕ) (content : List ℕ) (n i : ℕ) → i < n → take 8 (drop (i * 8) (marks P content n)) ≡ mark_bytes (mark_at P content i)
mark_in P content zero i below = absurd (omega arith)
mark_in P content (suc n) i below =
    let front : length (marks P content n) ≡ n * 8 = length-marks P content n in
    elim (cases_lt i n) [
      | inl less ↦
          let fits : i * 8 + 8 ≤ length (marks P content n) = omega arith in
          front_mark (marks P content n) (mark_bytes (mark_at P content n)) i fits ∙ mark_in P content n i less
      | inr more ↦
          let same : n ≡ i = omega arith in
          subst (λ (k : ℕ). take 8 (drop (k * 8) (marks P content n ++ mark_bytes (mark_at P content n))) ≡ mark_bytes (mark_at P content k)) same
          (last_mark (marks P content n) (mark_bytes (mark_at P content n)) n front refl)
    ]

-- each frame has seven bytes at least
begins_spread : (content : List ℕ) (n : ℕ) → n * 7 ≤ frame_begin content n
begins_spread content zero = omega arith
begins_spread content (suc n) = let before = begins_spread content n in omega arith

few : (content : List ℕ) (offset n : ℕ) → n ≡ begins_before content offset → n * 7 ≤ offset + 6
few content offset zero is = omega arith
few content offset (suc n) is =
    let last : frame_begin content n < offset = begun_before content offset n (subst (λ (k : ℕ). n < k) is (omega arith)) in
    let least = begins_spread content n in
    omega arith

-- so few begin before an offset
pub few_before : (content : List ℕ) (offset : ℕ) → begins_before content offset * 7 ≤ offset + 6
few_before content offset = few content offset (begins_before content offset) refl

sums_same : (a b s t : ℕ) → a < 281474976710656 → b < 281474976710656 → s < 65536 → t < 65536 → to_le_bytes w64 (a + s * 281474976710656) ≡ to_le_bytes w64 (b + t * 281474976710656)
    → a + s * 281474976710656 ≡ b + t * 281474976710656
sums_same a b s t one other first second same =
    sym (from_le_bytes-to_le_bytes_8 (a + s * 281474976710656) (omega arith)) ∙ ap (from_le_bytes w64) same ∙ from_le_bytes-to_le_bytes_8 (b + t * 281474976710656) (omega arith)

-- a mark is known by its bytes
pub mark_told : (m : Mark) (P : ℕ) (content : List ℕ) (i : ℕ) → m.before < 281474976710656 → m.skip < 65536 → P < 65536 → i * P < 1125899906842624 → mark_bytes m ≡ mark_bytes (mark_at P content i)
    → m ≡ mark_at P content i
mark_told m P content i small near paged within same =
    let x : Mark = mark_at P content i in
    let count = few_before content (i * P) in
    let few_there : x.before < 281474976710656 = omega arith in
    let near_there : x.skip < 65536 = omega arith in
    let sums : m.before + m.skip * 281474976710656 ≡ x.before + x.skip * 281474976710656 = sums_same m.before x.before m.skip x.skip small few_there near near_there same in
    let one : m.before ≡ x.before = omega arith in
    let other : m.skip ≡ x.skip = omega arith in
    ap₂ (λ (b s : ℕ). let r : Mark = record { before = b; skip = s } in r) one other
