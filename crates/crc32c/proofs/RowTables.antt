-- The look-ups of a row's bytes.
use Rattle.std.proofs.Common.{◌≡◌, ℕ, zero, suc, ◌+◌, ◌-◌, ◌*◌, ◌/◌, ◌%◌, ◌^◌, ◌<◌, List, [], ◌∷◌, map, length, get_or, take, drop, replicate, bit_and, refl, sym, ap, ap₂, ◌∙◌, arith, w8, Fits}
use Rattle.std.specs.Int.Bits.{bit_xor, xor_shifted}
use Rattle.std.specs.List.{range_with_len}
use Rattle.std.proofs.lemmas.List.{get_or-map, get_or-take, get_or-drop, length-map, ext_get_or}
use Rattle.std.proofs.lemmas.List.FromFn.{get_or-map-range_with_len}
use Rattle.std.proofs.lemmas.Nat.{and_le_r, and_mask, xor_comm, xor_shr, xor_mod}
use Rattle.std.proofs.lemmas.Simd.{Each1-all, Each1-weaker, Each1-zip2, Each2-splat, below_from_Fits, length-zip2, swz_l, SwzOk, SwzOk-from_below, length-swz_l, get_or-swz_l_below, map-map, zip2-map, zip2_splat, Each1-get_or}
use lib.Lanes.{zip2, Each1}
use Rattle.crc32c.specs.declared.rows.TheConstants.{ROWS}
use Rattle.crc32c.specs.Crc.{after_bits}
use Rattle.crc32c.specs.Rows.{state_byte}
use Rattle.crc32c.proofs.Steps.{bits_xor, bits_more, no_bits}

-- ---- vectors

abbrev pub down : ℕ → ℕ → ℕ
down a b = a / 2 ^ b

abbrev pub IsRow : List ℕ → Type 0
IsRow v = (length v ≡ 16) × Each1 (λ x. x < 256) v

pub high_ok : (v : List ℕ) → length v ≡ 16 → Each1 (Fits w8) v → SwzOk w8 16 16 0 (zip2 down v (replicate 16 4))
high_ok v long fits =
    let small = Each1-weaker (λ a. a < 256) (λ a. a / 16 < 16) (λ a h. omega arith) v (below_from_Fits w8 v fits) in
    SwzOk-from_below w8 16 1 16 0 (zip2 down v (replicate 16 4)) refl (omega (arith, length-zip2 down v (replicate 16 4) long))
    (Each1-zip2 down (λ j. j < 16) v (replicate 16 4) (Each2-splat (λ a b. down a b < 16) v 16 4 small))

pub low_ok : (v : List ℕ) → length v ≡ 16 → SwzOk w8 16 16 0 (zip2 bit_and v (replicate 16 15))
low_ok v long =
    let small = Each1-all (λ a. bit_and a 15 < 16) (λ a. omega (arith, and_le_r a 15)) v in
    SwzOk-from_below w8 16 1 16 0 (zip2 bit_and v (replicate 16 15)) refl (omega (arith, length-zip2 bit_and v (replicate 16 15) long))
    (Each1-zip2 bit_and (λ j. j < 16) v (replicate 16 15) (Each2-splat (λ a b. bit_and a b < 16) v 16 15 small))

-- a table that is read at places g x below 16
looked_up : (t : List ℕ) (g : ℕ → ℕ) (v js : List ℕ) → IsRow v → js ≡ map g v → ((x : ℕ) → x < 256 → g x < 16) → swz_l w8 16 t 0 js ≡ map (λ x. get_or t (g x) 0) v
looked_up t g v js row e small =
    let long : length js ≡ 16 = ap length e ∙ length-map v g ∙ row.0 in
    ext_get_or 0 _ _ (length-swz_l w8 16 t 0 js ∙ long ∙ sym (length-map v (λ x. get_or t (g x) 0) ∙ row.0)) (λ i h.
    let lt : i < 16 = omega (arith, length-swz_l w8 16 t 0 js) in
    let within : i < length v = omega (arith, row.0) in
    let is : get_or js i 0 ≡ g (get_or v i 0) = ap (λ l. get_or l i 0) e ∙ get_or-map g v i 0 0 within in
    let less : get_or v i 0 < 256 = Each1-get_or (λ x. x < 256) v i 0 within row.1 in
    let below : get_or js i 0 < 16 = omega (arith, small (get_or v i 0) less) in
    let block : 16 * ((0 + i) / 16) + get_or js i 0 ≡ g (get_or v i 0) = omega arith in
    get_or-swz_l_below w8 16 t 0 js i (omega arith) below
    ∙ ap (λ k. get_or t k 0) block ∙ sym (get_or-map (λ x. get_or t (g x) 0) v i 0 0 within))

-- both look-ups of each lane
pub both : (low high v : List ℕ) → IsRow v
    → zip2 bit_xor (swz_l w8 16 low 0 (zip2 bit_and v (replicate 16 15))) (swz_l w8 16 high 0 (zip2 down v (replicate 16 4)))
    ≡ map (λ x. bit_xor (get_or low (x % 16) 0) (get_or high (x / 16) 0)) v
both low high v row =
    let mask : (x : ℕ) → bit_and x 15 ≡ x % 16 = (λ x. and_mask x 4) in
    let one : swz_l w8 16 low 0 (zip2 bit_and v (replicate 16 15)) ≡ map (λ x. get_or low (x % 16) 0) v =
    looked_up low (λ x. bit_and x 15) v _ row (zip2_splat bit_and v 16 15 row.0) (λ x h. omega (arith, and_le_r x 15))
    ∙ ap (λ (f : ℕ → ℕ). map (λ x. get_or low (f x) 0) v) (λ i x. mask x i) in
    let two : swz_l w8 16 high 0 (zip2 down v (replicate 16 4)) ≡ map (λ x. get_or high (x / 16) 0) v =
    looked_up high (λ x. x / 16) v _ row (zip2_splat down v 16 4 row.0) (λ x h. omega arith) in
    ap₂ (zip2 bit_xor) one two ∙ zip2-map bit_xor (λ x. get_or low (x % 16) 0) (λ x. get_or high (x / 16) 0) v

-- ---- the tables

abbrev byte_of : ℕ → ℕ → ℕ
byte_of index n = n / 256 ^ index % 256

row_of : List ℕ → List ℕ
row_of states = map (λ j. byte_of (j / 32) (get_or states (j % 32) 0)) (range_with_len 0 128)

-- the tables of the next row have the states after sixteen bytes more
rows_of : ℕ → List ℕ → List (List ℕ)
rows_of zero states = []
rows_of (suc n) states = row_of states ∷ rows_of n (map (after_bits 128) states)

-- the sixteen numbers of the low four bits, and then those of the high ones
bits_of : ℕ → ℕ
bits_of j = j % 16 * 16 ^ (j / 16)

states : List ℕ
states = map (λ j. after_bits 104 (bits_of j)) (range_with_len 0 32)

-- the tables of the code are these
are_rows : ROWS ≡ rows_of 39 states
unfolding rows_of row_of states bits_of after_bits
are_rows = refl

later : (k : ℕ) (l : List ℕ) → map (after_bits (128 * k)) (map (after_bits 128) l) ≡ map (after_bits (128 * suc k)) l
later k l =
    map-map (after_bits (128 * k)) (after_bits 128) l
    ∙ ap (λ (f : ℕ → ℕ). map f l) (λ i x. (sym (bits_more 128 (128 * k) x) ∙ (let e : 128 + 128 * k ≡ 128 * suc k = omega arith in ap (λ n. after_bits n x) e)) i)

now : (l : List ℕ) → l ≡ map (after_bits (128 * 0)) l
now [] = refl
now (x ∷ l) = ap₂ (λ y ys. y ∷ ys) (sym (no_bits x)) (now l)

row_at : (n k : ℕ) (l d : List ℕ) → k < n → get_or (rows_of n l) k d ≡ row_of (map (after_bits (128 * k)) l)
unfolding rows_of
row_at zero k l d less = absurd (omega arith)
row_at (suc n) zero l d less = ap row_of (now l)
row_at (suc n) (suc k) l d less = row_at n k (map (after_bits 128) l) d (omega arith) ∙ ap row_of (later k l)

-- an entry of a row's tables
entry : (k index i : ℕ) (d : List ℕ) → k < 39 → index < 4 → i < 32 → get_or (get_or ROWS k d) (32 * index + i) 0 ≡ state_byte (128 * k + 104) index (bits_of i)
unfolding states row_of
entry k index i d few less small =
    let high : (32 * index + i) / 32 ≡ index = omega arith in
    let low : (32 * index + i) % 32 ≡ i = omega arith in
    let g : ℕ → ℕ = λ j. after_bits (128 * k) (after_bits 104 (bits_of j)) in
    let all : List ℕ = map (after_bits (128 * k)) states in
    let e : 104 + 128 * k ≡ 128 * k + 104 = omega arith in
    let of_all : get_or all i 0 ≡ after_bits (128 * k + 104) (bits_of i) =
    ap (λ (l : List ℕ). get_or l i 0) (map-map (after_bits (128 * k)) (λ j. after_bits 104 (bits_of j)) (range_with_len 0 32))
    ∙ get_or-map-range_with_len g 0 32 i i 0 small (omega arith)
    ∙ sym (bits_more 104 (128 * k) (bits_of i)) ∙ ap (λ n. after_bits n (bits_of i)) e in
    ap (λ (l : List (List ℕ)). get_or (get_or l k d) (32 * index + i) 0) are_rows
    ∙ ap (λ (l : List ℕ). get_or l (32 * index + i) 0) (row_at 39 k states d few)
    ∙ get_or-map-range_with_len (λ j. byte_of (j / 32) (get_or all (j % 32) 0)) 0 128 (32 * index + i) (32 * index + i) 0 (omega arith) (omega arith)
    ∙ ap₂ (λ a b. byte_of a (get_or all b 0)) high low ∙ ap (byte_of index) of_all

in_low : (k index i : ℕ) (d : List ℕ) → k < 39 → index < 4 → i < 16 → get_or (get_or ROWS k d) (32 * index + i) 0 ≡ state_byte (128 * k + 104) index i
unfolding bits_of
in_low k index i d few less small =
    let zeroth : i / 16 ≡ 0 = omega arith in
    let same : i % 16 * 1 ≡ i = omega arith in
    entry k index i d few less (omega arith) ∙ ap (state_byte (128 * k + 104) index) (ap (λ q. i % 16 * 16 ^ q) zeroth ∙ same)

in_high : (k index i : ℕ) (d : List ℕ) → k < 39 → index < 4 → i < 16 → get_or (get_or ROWS k d) (32 * index + 16 + i) 0 ≡ state_byte (128 * k + 104) index (16 * i)
unfolding bits_of
in_high k index i d few less small =
    let j = 16 + i in
    let first : j / 16 ≡ 1 = omega arith in
    let same : j % 16 * 16 ≡ 16 * i = omega arith in
    let at : 32 * index + 16 + i ≡ 32 * index + j = omega arith in
    ap (λ n. get_or (get_or ROWS k d) n 0) at ∙ entry k index j d few less (omega arith) ∙ ap (state_byte (128 * k + 104) index) (ap (λ q. j % 16 * 16 ^ q) first ∙ same)

-- a byte of what the sum of two numbers leaves
byte_xor : (index a b : ℕ) → index < 4 → byte_of index (bit_xor a b) ≡ bit_xor (byte_of index a) (byte_of index b)
byte_xor zero a b less = ap (λ n. n % 256) (xor_shr a b 0) ∙ xor_mod (a / 1) (b / 1) 8
byte_xor (suc zero) a b less = ap (λ n. n % 256) (xor_shr a b 8) ∙ xor_mod (a / 256) (b / 256) 8
byte_xor (suc (suc zero)) a b less = ap (λ n. n % 256) (xor_shr a b 16) ∙ xor_mod (a / 65536) (b / 65536) 8
byte_xor (suc (suc (suc zero))) a b less = ap (λ n. n % 256) (xor_shr a b 24) ∙ xor_mod (a / 16777216) (b / 16777216) 8
byte_xor (suc (suc (suc (suc index)))) a b less = absurd (omega arith)

-- a byte of what a number leaves is the sum of what its low and its high four bits leave
nibbles : (bits index x : ℕ) → index < 4 → bit_xor (state_byte bits index (x % 16)) (state_byte bits index (16 * (x / 16))) ≡ state_byte bits index x
nibbles bits index x less =
    let back : bit_xor (x % 16) (16 * (x / 16)) ≡ x =
    xor_comm (x % 16) (16 * (x / 16)) ∙ (let e : 16 * (x / 16) ≡ x / 16 * 2 ^ 4 = omega arith in ap (λ n. bit_xor n (x % 16)) e)
    ∙ xor_shifted (x / 16) 4 (x % 16) (omega arith) ∙ (omega arith) in
    sym (byte_xor index (after_bits bits (x % 16)) (after_bits bits (16 * (x / 16))) less)
    ∙ ap (byte_of index) (sym (bits_xor bits (x % 16) (16 * (x / 16))) ∙ ap (after_bits bits) back)

pub map_same : (f g : ℕ → ℕ) (v : List ℕ) → Each1 (λ x. x < 256) v → ((x : ℕ) → x < 256 → f x ≡ g x) → map f v ≡ map g v
map_same f g [] all same = refl
map_same f g (x ∷ v) all same = ap₂ (λ y ys. y ∷ ys) (same x all.0) (map_same f g v all.1 same)

-- the look-ups in the first sixteen entries of two tables
pub of_first : (low high v : List ℕ) → Each1 (λ x. x < 256) v
    → map (λ x. bit_xor (get_or (take 16 low) (x % 16) 0) (get_or (take 16 high) (x / 16) 0)) v ≡ map (λ x. bit_xor (get_or low (x % 16) 0) (get_or high (x / 16) 0)) v
of_first low high v all =
    map_same _ _ v all (λ x small. ap₂ bit_xor (get_or-take 16 low (x % 16) 0 (omega arith)) (get_or-take 16 high (x / 16) 0 (omega arith)))

-- the look-ups of a row in the tables of so many rows
pub of_row : (k index : ℕ) (v d : List ℕ) → Each1 (λ x. x < 256) v → k < 39 → index < 4
    → map (λ x. bit_xor (get_or (take (128 - 32 * index) (drop (32 * index) (get_or ROWS k d))) (x % 16) 0) (get_or (take (128 - (32 * index + 16)) (drop (32 * index + 16) (get_or ROWS k d))) (x / 16) 0)) v
    ≡ map (state_byte (128 * k + 104) index) v
of_row k index v d all few less =
    let row : List ℕ = get_or ROWS k d in
    let part : (m i : ℕ) → m + i < 128 → get_or (take (128 - m) (drop m row)) i 0 ≡ get_or row (m + i) 0 =
    (λ m i fits. get_or-take (128 - m) (drop m row) i 0 (omega arith) ∙ get_or-drop m row i 0) in
    map_same _ (state_byte (128 * k + 104) index) v all (λ x small.
    ap₂ bit_xor (part (32 * index) (x % 16) (omega arith) ∙ in_low k index (x % 16) d few less (omega arith)) (part (32 * index + 16) (x / 16) (omega arith) ∙ in_high k index (x / 16) d few less (omega arith))
    ∙ nibbles (128 * k + 104) index x less)
