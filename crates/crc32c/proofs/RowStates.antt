-- What the states leave that were looked up for the bytes of some rows.
use Rattle.std.proofs.Common.{◌≡◌, ◌<◌, ◌/◌, ◌%◌, ◌+◌, ◌*◌, ◌^◌, ℕ, List, [], ◌∷◌, ◌++◌, length, get_or, map, take, drop, replicate, ◌-◌, refl, sym, ap, ap₂, ◌∙◌, arith, subst, take-append-drop, append_assoc, take_at, drop_at, take_all, length-take-le, length-append}
use Rattle.std.specs.Int.Bits.{bit_xor, xor_assoc, xor_zero_l, xor_zero_r}
use Rattle.std.proofs.lemmas.List.{length-map}
use Rattle.std.proofs.lemmas.Simd.{length-zip2, length-chunk, length-replicate}
use lib.Lanes.{zip2, Each1, chunk}
use Rattle.crc32c.specs.Crc.{after_bits, after_bytes, small_bytes}
use Rattle.crc32c.specs.Rows.{state_byte, leaves}
use Rattle.crc32c.proofs.Steps.{bits_xor, bits_more, zero_bits, no_bits, byte_out, bytes_apart, bytes_more, first_apart, xor_swap}
use Rattle.crc32c.proofs.Multiples.{joined, apart_zero, zip_xored}
use Rattle.crc32c.proofs.Folding.{zeros_leave}

-- of two messages of one length, added lane by lane, each leaves what it leaves alone
zip_leaves : (x y : List ℕ) → length x ≡ length y → after_bytes 0 (zip2 bit_xor x y) ≡ bit_xor (after_bytes 0 x) (after_bytes 0 y)
zip_leaves x y same =
    let none : length x - length y ≡ 0 = omega arith in
    ap (after_bytes 0) (zip_xored x y same) ∙ apart_zero x y (omega arith)
    ∙ ap (bit_xor (after_bytes 0 x)) (ap (λ k. after_bits (8 * k) (after_bytes 0 y)) none ∙ no_bits (after_bytes 0 y))

-- what four messages leave, each on its own
flat : List ℕ → List ℕ → List ℕ → List ℕ → ℕ
flat a b c d = bit_xor (after_bits 24 (after_bytes 0 a)) (bit_xor (after_bits 16 (after_bytes 0 b)) (bit_xor (after_bits 8 (after_bytes 0 c)) (after_bytes 0 d)))

leaves_flat : (a b c d : List ℕ) → leaves a b c d ≡ flat a b c d
unfolding flat
leaves_flat a b c d =
    let p = after_bytes 0 a in
    let q = after_bytes 0 b in
    let r = after_bytes 0 c in
    let s = after_bytes 0 d in
    let two : after_bits 8 (bit_xor (after_bits 8 p) q) ≡ bit_xor (after_bits 16 p) (after_bits 8 q) =
    bits_xor 8 (after_bits 8 p) q ∙ ap (λ n. bit_xor n (after_bits 8 q)) (sym (bits_more 8 8 p)) in
    let three : after_bits 8 (bit_xor (after_bits 8 (bit_xor (after_bits 8 p) q)) r) ≡ bit_xor (after_bits 24 p) (bit_xor (after_bits 16 q) (after_bits 8 r)) =
    bits_xor 8 (after_bits 8 (bit_xor (after_bits 8 p) q)) r
    ∙ ap (λ n. bit_xor n (after_bits 8 r)) (ap (after_bits 8) two ∙ bits_xor 8 (after_bits 16 p) (after_bits 8 q) ∙ ap₂ bit_xor (sym (bits_more 16 8 p)) (sym (bits_more 8 8 q)))
    ∙ xor_assoc (after_bits 24 p) (after_bits 16 q) (after_bits 8 r) in
    ap (λ n. bit_xor n s) three ∙ xor_assoc (after_bits 24 p) (bit_xor (after_bits 16 q) (after_bits 8 r)) s
    ∙ ap (bit_xor (after_bits 24 p)) (xor_assoc (after_bits 16 q) (after_bits 8 r) s)

-- four sums of two parts are the sums of the first parts and of the second parts
four_swap : (a b c d p q r s : ℕ) → bit_xor (bit_xor a p) (bit_xor (bit_xor b q) (bit_xor (bit_xor c r) (bit_xor d s))) ≡ bit_xor (bit_xor a (bit_xor b (bit_xor c d))) (bit_xor p (bit_xor q (bit_xor r s)))
four_swap a b c d p q r s =
    ap (bit_xor (bit_xor a p))
    (ap (bit_xor (bit_xor b q)) (xor_swap c r d s) ∙ xor_swap b q (bit_xor c d) (bit_xor r s))
    ∙ xor_swap a p (bit_xor b (bit_xor c d)) (bit_xor q (bit_xor r s))

-- what four messages leave that are added to four others
flat_xor : (a b c d p q r s : List ℕ) → length a ≡ length p → length b ≡ length q → length c ≡ length r → length d ≡ length s
    → flat (zip2 bit_xor a p) (zip2 bit_xor b q) (zip2 bit_xor c r) (zip2 bit_xor d s) ≡ bit_xor (flat a b c d) (flat p q r s)
unfolding flat
flat_xor a b c d p q r s ea eb ec ed =
    let go : (n : ℕ) (x y : List ℕ) → length x ≡ length y → after_bits n (after_bytes 0 (zip2 bit_xor x y)) ≡ bit_xor (after_bits n (after_bytes 0 x)) (after_bits n (after_bytes 0 y)) =
    (λ n x y e. ap (after_bits n) (zip_leaves x y e) ∙ bits_xor n (after_bytes 0 x) (after_bytes 0 y)) in
    ap₂ bit_xor (go 24 a p ea) (ap₂ bit_xor (go 16 b q eb) (ap₂ bit_xor (go 8 c r ec) (zip_leaves d s ed)))
    ∙ four_swap (after_bits 24 (after_bytes 0 a)) (after_bits 16 (after_bytes 0 b)) (after_bits 8 (after_bytes 0 c)) (after_bytes 0 d)
    (after_bits 24 (after_bytes 0 p)) (after_bits 16 (after_bytes 0 q)) (after_bits 8 (after_bytes 0 r)) (after_bytes 0 s)

-- ---- one row

-- a state of four bytes is the sum of its bytes, each in its place
four_bytes : (r y : ℕ) → y < 2 ^ 32
    → after_bits (32 + r) y ≡ bit_xor (after_bits (32 + r) (y / 1 % 256)) (bit_xor (after_bits (24 + r) (y / 256 % 256)) (bit_xor (after_bits (16 + r) (y / 65536 % 256)) (after_bits (8 + r) (y / 16777216 % 256))))
four_bytes r y small =
    let whole : y % 256 ≡ y / 1 % 256 = omega arith in
    let one : y / 256 / 256 ≡ y / 65536 = omega arith in
    let two : y / 65536 / 256 ≡ y / 16777216 = omega arith in
    let none : y / 16777216 / 256 ≡ 0 = omega arith in
    let out : (m n z : ℕ) → m ≡ 8 + n → after_bits m z ≡ bit_xor (after_bits m (z % 256)) (after_bits n (z / 256)) =
    (λ m n z e. ap (λ k. after_bits k z) e ∙ byte_out n z ∙ ap (λ k. bit_xor (after_bits k (z % 256)) (after_bits n (z / 256))) (sym e)) in
    out (32 + r) (24 + r) y (omega arith)
    ∙ ap₂ bit_xor (ap (after_bits (32 + r)) whole) (out (24 + r) (16 + r) (y / 256) (omega arith)
    ∙ ap (bit_xor (after_bits (24 + r) (y / 256 % 256))) (ap (after_bits (16 + r)) one ∙ out (16 + r) (8 + r) (y / 65536) (omega arith)
    ∙ ap (bit_xor (after_bits (16 + r) (y / 65536 % 256))) (ap (after_bits (8 + r)) two ∙ out (8 + r) r (y / 16777216) refl
    ∙ ap (bit_xor (after_bits (8 + r) (y / 16777216 % 256))) (ap (after_bits r) none ∙ zero_bits r) ∙ xor_zero_r (after_bits (8 + r) (y / 16777216 % 256)))))

-- zero bytes keep a state small
small_later : (k x : ℕ) → x < 2 ^ 32 → after_bits (8 * k) x < 2 ^ 32
small_later k x small =
    let z : List ℕ = replicate k 0 in
    let e : 8 * length z ≡ 8 * k = omega (arith, length-replicate {A = ℕ} k 0) in
    let same : after_bytes x z ≡ after_bits (8 * k) x =
    bytes_apart x z ∙ ap₂ (λ n s. bit_xor (after_bits n x) s) e (zeros_leave k) ∙ xor_zero_r (after_bits (8 * k) x) in
    subst (λ s. s < 2 ^ 32) same (small_bytes z x small)

-- what a row leaves with so many zero bytes and three after it: the bytes of its states, as four
-- messages
row_flat : (k : ℕ) (v : List ℕ) → Each1 (λ x. x < 256) v
    → after_bits (8 * k + 24) (after_bytes 0 v) ≡ flat (map (state_byte (8 * k) 0) v) (map (state_byte (8 * k) 1) v) (map (state_byte (8 * k) 2) v) (map (state_byte (8 * k) 3) v)
unfolding flat
row_flat k [] all =
    zero_bits (8 * k + 24)
    ∙ sym (ap₂ bit_xor (zero_bits 24) (ap₂ bit_xor (zero_bits 16) (ap₂ bit_xor (zero_bits 8) refl)))
row_flat k (x ∷ v) all =
    let n = 8 * k in
    let r = 8 * length v in
    let less = all.0 in
    let y = after_bits n x in
    let small : y < 2 ^ 32 = small_later k x (omega arith) in
    let whole : 8 + r + (n + 24) ≡ n + (32 + r) = omega arith in
    let head : after_bits (n + 24) (after_bits (8 + r) x) ≡ after_bits (32 + r) y =
    sym (bits_more (8 + r) (n + 24) x) ∙ ap (λ m. after_bits m x) whole ∙ bits_more n (32 + r) x in
    let part : (m index : ℕ) → state_byte n index x < 256 → after_bits m (after_bytes 0 (map (state_byte n index) (x ∷ v))) ≡ bit_xor (after_bits (8 + m + r) (state_byte n index x)) (after_bits m (after_bytes 0 (map (state_byte n index) v))) =
    (λ m index byte.
    let e : 8 + 8 * length (map (state_byte n index) v) ≡ 8 + r = omega (arith, length-map v (state_byte n index)) in
    let f : 8 + r + m ≡ 8 + m + r = omega arith in
    ap (after_bits m) (first_apart (state_byte n index x) (map (state_byte n index) v) byte ∙ ap (λ j. bit_xor (after_bits j (state_byte n index x)) (after_bytes 0 (map (state_byte n index) v))) e)
    ∙ bits_xor m (after_bits (8 + r) (state_byte n index x)) (after_bytes 0 (map (state_byte n index) v))
    ∙ ap (λ s. bit_xor s (after_bits m (after_bytes 0 (map (state_byte n index) v)))) (sym (bits_more (8 + r) m (state_byte n index x)) ∙ ap (λ j. after_bits j (state_byte n index x)) f)) in
    let fourth : after_bytes 0 (map (state_byte n 3) (x ∷ v)) ≡ bit_xor (after_bits (8 + r) (state_byte n 3 x)) (after_bytes 0 (map (state_byte n 3) v)) =
    sym (no_bits (after_bytes 0 (map (state_byte n 3) (x ∷ v)))) ∙ part 0 3 (omega arith)
    ∙ ap (bit_xor (after_bits (8 + r) (state_byte n 3 x))) (no_bits (after_bytes 0 (map (state_byte n 3) v))) in
    let l : ℕ → List ℕ = λ index. map (state_byte n index) v in
    ap (after_bits (n + 24)) (first_apart x v less) ∙ bits_xor (n + 24) (after_bits (8 + r) x) (after_bytes 0 v)
    ∙ ap₂ bit_xor (head ∙ four_bytes r y small) (row_flat k v all.1)
    ∙ sym (ap₂ bit_xor (part 24 0 (omega arith)) (ap₂ bit_xor (part 16 1 (omega arith)) (ap₂ bit_xor (part 8 2 (omega arith)) fourth))
    ∙ four_swap (after_bits (32 + r) (state_byte n 0 x)) (after_bits (24 + r) (state_byte n 1 x)) (after_bits (16 + r) (state_byte n 2 x)) (after_bits (8 + r) (state_byte n 3 x))
    (after_bits 24 (after_bytes 0 (l 0))) (after_bits 16 (after_bytes 0 (l 1))) (after_bits 8 (after_bytes 0 (l 2))) (after_bytes 0 (l 3)))

-- ---- the loop over the rows

-- no sums yet
pub none_left : (l : List ℕ) → bit_xor (leaves (replicate 16 0) (replicate 16 0) (replicate 16 0) (replicate 16 0)) (after_bytes 0 l) ≡ after_bytes 0 l
unfolding flat
none_left l =
    let z : List ℕ = replicate 16 0 in
    let gone : (n : ℕ) → after_bits n (after_bytes 0 z) ≡ 0 = (λ n. ap (after_bits n) (zeros_leave 16) ∙ zero_bits n) in
    ap (λ s. bit_xor s (after_bytes 0 l)) (leaves_flat z z z z ∙ ap₂ bit_xor (gone 24) (ap₂ bit_xor (gone 16) (ap₂ bit_xor (gone 8) (zeros_leave 16))))
    ∙ xor_zero_l (after_bytes 0 l)

-- one row more is added to the sums
pub row_keeps : (n : ℕ) (a b c d p q r s row rest next after : List ℕ) → length a ≡ 16 → length b ≡ 16 → length c ≡ 16 → length d ≡ 16 → length row ≡ 16 → Each1 (λ x. x < 256) row
    → length rest ≡ 16 * (n + 1) → next ≡ take 16 rest → after ≡ drop 16 rest
    → p ≡ zip2 bit_xor a (map (state_byte (128 * n + 104) 0) row) → q ≡ zip2 bit_xor b (map (state_byte (128 * n + 104) 1) row)
    → r ≡ zip2 bit_xor c (map (state_byte (128 * n + 104) 2) row) → s ≡ zip2 bit_xor d (map (state_byte (128 * n + 104) 3) row)
    → bit_xor (leaves p q r s) (after_bytes 0 (take 16 next ++ after)) ≡ bit_xor (leaves a b c d) (after_bytes 0 (row ++ rest))
row_keeps n a b c d p q r s row rest next after la lb lc ld lrow all of_rest is_next is_after ep eq er es =
    let bits = 128 * n + 104 in
    let k = 16 * n + 13 in
    let l : ℕ → List ℕ = λ index. map (state_byte bits index) row in
    let as_bytes : bits ≡ 8 * k = omega arith in
    let later : 8 * k + 24 ≡ 8 * length rest = omega arith in
    let same : (index : ℕ) → 16 ≡ length (l index) = (λ index. sym (length-map row (state_byte bits index) ∙ lrow)) in
    let of_next : length next ≡ 16 = ap length is_next ∙ length-take-le 16 rest (omega arith) in
    let joins : take 16 next ++ after ≡ rest = ap₂ (λ x y. x ++ y) (take_all 16 next (omega arith) ∙ is_next) is_after ∙ take-append-drop 16 rest in
    let of_row : flat (l 0) (l 1) (l 2) (l 3) ≡ after_bits (8 * length rest) (after_bytes 0 row) =
    ap (λ m. flat (map (state_byte m 0) row) (map (state_byte m 1) row) (map (state_byte m 2) row) (map (state_byte m 3) row)) as_bytes
    ∙ sym (row_flat k row all) ∙ ap (λ m. after_bits m (after_bytes 0 row)) later in
    let sums : leaves p q r s ≡ bit_xor (leaves a b c d) (after_bits (8 * length rest) (after_bytes 0 row)) =
    leaves_flat p q r s ∙ ap₂ (λ x y. flat x y r s) ep eq ∙ ap₂ (λ x y. flat (zip2 bit_xor a (l 0)) (zip2 bit_xor b (l 1)) x y) er es
    ∙ flat_xor a b c d (l 0) (l 1) (l 2) (l 3) (la ∙ same 0) (lb ∙ same 1) (lc ∙ same 2) (ld ∙ same 3)
    ∙ ap₂ bit_xor (sym (leaves_flat a b c d)) of_row in
    ap₂ (λ x y. bit_xor x (after_bytes 0 y)) sums joins
    ∙ xor_assoc (leaves a b c d) (after_bits (8 * length rest) (after_bytes 0 row)) (after_bytes 0 rest)
    ∙ ap (bit_xor (leaves a b c d)) (sym (joined row rest))

-- the first row begins the sums
pub row_begins : (n : ℕ) (p q r s first second rest : List ℕ) → length first ≡ 16 → Each1 (λ x. x < 256) first → length second ≡ 16 → length rest ≡ 16 * n
    → p ≡ zip2 bit_xor (replicate 16 0) (map (state_byte (128 * n + 104) 0) first) → q ≡ zip2 bit_xor (replicate 16 0) (map (state_byte (128 * n + 104) 1) first)
    → r ≡ zip2 bit_xor (replicate 16 0) (map (state_byte (128 * n + 104) 2) first) → s ≡ zip2 bit_xor (replicate 16 0) (map (state_byte (128 * n + 104) 3) first)
    → bit_xor (leaves p q r s) (after_bytes 0 (second ++ rest)) ≡ after_bytes 0 (first ++ (second ++ rest))
row_begins n p q r s first second rest lfirst all lsecond lrest ep eq er es =
    let z : List ℕ = replicate 16 0 in
    ap (λ (l : List ℕ). bit_xor (leaves p q r s) (after_bytes 0 (l ++ rest))) (sym (take_all 16 second (omega arith)))
    ∙ row_keeps n z z z z p q r s first (second ++ rest) second rest refl refl refl refl lfirst all (omega (arith, length-append second rest))
    (sym (take_at second rest 16 lsecond)) (sym (drop_at second rest 16 lsecond)) ep eq er es
    ∙ none_left (first ++ (second ++ rest))

-- the last row is added to the fourth sums
pub last_row : (a b c d row rest : List ℕ) → length d ≡ 16 → length row ≡ 16 → length rest ≡ 0
    → leaves a b c (zip2 bit_xor d row) ≡ bit_xor (leaves a b c d) (after_bytes 0 (row ++ rest))
last_row a b c d row [] ld lrow none =
    let e : after_bytes 0 row ≡ after_bytes 0 (row ++ []) = sym (bytes_more 0 row []) in
    let three = bit_xor (after_bits 8 (bit_xor (after_bits 8 (after_bytes 0 a)) (after_bytes 0 b))) (after_bytes 0 c) in
    ap (bit_xor (after_bits 8 three)) (zip_leaves d row (ld ∙ sym lrow))
    ∙ sym (xor_assoc (after_bits 8 three) (after_bytes 0 d) (after_bytes 0 row)) ∙ ap (bit_xor (leaves a b c d)) e
last_row a b c d row (x ∷ rest) ld lrow none = absurd (omega arith)

-- ---- the end

-- lanes that move to the place before, the first one out
moves : (v w : List ℕ) → length v ≡ 16 → length w ≡ 16 → get_or v 0 0 < 256
    → bit_xor (after_bits 8 (after_bytes 0 v)) (after_bytes 0 w) ≡ bit_xor (after_bits 136 (get_or v 0 0)) (after_bytes 0 (zip2 bit_xor (chunk 1 16 (v ++ replicate 16 0)) w))
moves [] w lv lw small = absurd (omega arith)
moves (x ∷ v) w lv lw small =
    let z : List ℕ = replicate 15 0 in
    let m : List ℕ = v ++ 0 ∷ [] in
    let of_m : length m ≡ 16 = omega (arith, length-append v (0 ∷ [])) in
    let chunked : chunk 1 16 (x ∷ v ++ replicate 16 0) ≡ m = ap (take 16) (sym (append_assoc v (0 ∷ []) z)) ∙ take_at m z 16 of_m in
    let of_bits : 8 + 8 * length v ≡ 128 = omega arith in
    let shifted : after_bytes 0 m ≡ after_bits 8 (after_bytes 0 v) = joined v (0 ∷ []) ∙ ap (bit_xor (after_bits 8 (after_bytes 0 v))) (zeros_leave 1) ∙ xor_zero_r (after_bits 8 (after_bytes 0 v)) in
    let out : after_bits 8 (after_bytes 0 (x ∷ v)) ≡ bit_xor (after_bits 136 x) (after_bytes 0 m) =
    ap (after_bits 8) (first_apart x v small ∙ ap (λ k. bit_xor (after_bits k x) (after_bytes 0 v)) of_bits)
    ∙ bits_xor 8 (after_bits 128 x) (after_bytes 0 v) ∙ ap₂ bit_xor (sym (bits_more 128 8 x)) (sym shifted) in
    ap (λ s. bit_xor s (after_bytes 0 w)) out ∙ xor_assoc (after_bits 136 x) (after_bytes 0 m) (after_bytes 0 w)
    ∙ ap (bit_xor (after_bits 136 x)) (sym (zip_leaves m w (of_m ∙ sym lw)) ∙ ap (λ k. after_bytes 0 (zip2 bit_xor k w)) (sym chunked))

abbrev pub moved : List ℕ → List ℕ → List ℕ
moved v w = zip2 bit_xor (chunk 1 16 (v ++ replicate 16 0)) w

pub length-moved : (v w : List ℕ) → length v ≡ 16 → length w ≡ 16 → length (moved v w) ≡ 16
length-moved v w lv lw =
    let one : length (chunk 1 16 (v ++ replicate 16 0)) ≡ 16 = length-chunk 1 16 (v ++ replicate 16 0) (omega (arith, length-append v (replicate 16 0))) in
    length-zip2 bit_xor (chunk 1 16 (v ++ replicate 16 0)) w (one ∙ sym lw) ∙ one

pub last_leaves : (a b c d x y z : List ℕ) (p q r end : ℕ) → length a ≡ 16 → length b ≡ 16 → length c ≡ 16 → length d ≡ 16
    → x ≡ moved a b → y ≡ moved x c → z ≡ moved y d → p ≡ get_or a 0 0 → q ≡ get_or x 0 0 → r ≡ get_or y 0 0 → p < 256 → q < 256 → r < 256
    → end ≡ after_bytes (bit_xor (after_bits 24 p) (bit_xor (after_bits 16 q) (after_bits 8 r))) z → end ≡ leaves a b c d
last_leaves a b c d x y z p q r end la lb lc ld ex ey ez ep eq er sp sq sr is =
    let lx : length x ≡ 16 = ap length ex ∙ length-moved a b la lb in
    let ly : length y ≡ 16 = ap length ey ∙ length-moved x c lx lc in
    let lz : length z ≡ 16 = ap length ez ∙ length-moved y d ly ld in
    let one : bit_xor (after_bits 8 (after_bytes 0 a)) (after_bytes 0 b) ≡ bit_xor (after_bits 136 p) (after_bytes 0 x) =
    moves a b la lb (omega arith) ∙ ap₂ (λ s l. bit_xor (after_bits 136 s) (after_bytes 0 l)) (sym ep) (sym ex) in
    let two : bit_xor (after_bits 8 (after_bytes 0 x)) (after_bytes 0 c) ≡ bit_xor (after_bits 136 q) (after_bytes 0 y) =
    moves x c lx lc (omega arith) ∙ ap₂ (λ s l. bit_xor (after_bits 136 s) (after_bytes 0 l)) (sym eq) (sym ey) in
    let three : bit_xor (after_bits 8 (after_bytes 0 y)) (after_bytes 0 d) ≡ bit_xor (after_bits 136 r) (after_bytes 0 z) =
    moves y d ly ld (omega arith) ∙ ap₂ (λ s l. bit_xor (after_bits 136 s) (after_bytes 0 l)) (sym er) (sym ez) in
    let next : (n s t u v : ℕ) → bit_xor (after_bits 8 t) u ≡ v → bit_xor (after_bits 8 (bit_xor (after_bits n s) t)) u ≡ bit_xor (after_bits (n + 8) s) v =
    (λ n s t u v e. ap (λ k. bit_xor k u) (bits_xor 8 (after_bits n s) t ∙ ap (λ k. bit_xor k (after_bits 8 t)) (sym (bits_more n 8 s)))
    ∙ xor_assoc (after_bits (n + 8) s) (after_bits 8 t) u ∙ ap (bit_xor (after_bits (n + 8) s)) e) in
    let after_two : bit_xor (after_bits 8 (bit_xor (after_bits 8 (after_bytes 0 a)) (after_bytes 0 b))) (after_bytes 0 c) ≡ bit_xor (after_bits 144 p) (bit_xor (after_bits 136 q) (after_bytes 0 y)) =
    ap (λ k. bit_xor (after_bits 8 k) (after_bytes 0 c)) one ∙ next 136 p (after_bytes 0 x) (after_bytes 0 c) _ two in
    let after_three : leaves a b c d ≡ bit_xor (after_bits 152 p) (bit_xor (after_bits 144 q) (bit_xor (after_bits 136 r) (after_bytes 0 z))) =
    ap (λ k. bit_xor (after_bits 8 k) (after_bytes 0 d)) after_two
    ∙ next 144 p (bit_xor (after_bits 136 q) (after_bytes 0 y)) (after_bytes 0 d) _ (next 136 q (after_bytes 0 y) (after_bytes 0 d) _ three) in
    let state : ℕ = bit_xor (after_bits 24 p) (bit_xor (after_bits 16 q) (after_bits 8 r)) in
    let bits : 8 * length z ≡ 128 = omega arith in
    let of_state : after_bits (8 * length z) state ≡ bit_xor (after_bits 152 p) (bit_xor (after_bits 144 q) (after_bits 136 r)) =
    ap (λ k. after_bits k state) bits ∙ bits_xor 128 (after_bits 24 p) (bit_xor (after_bits 16 q) (after_bits 8 r))
    ∙ ap₂ bit_xor (sym (bits_more 24 128 p)) (bits_xor 128 (after_bits 16 q) (after_bits 8 r) ∙ ap₂ bit_xor (sym (bits_more 16 128 q)) (sym (bits_more 8 128 r))) in
    is ∙ bytes_apart state z ∙ ap (λ s. bit_xor s (after_bytes 0 z)) of_state
    ∙ xor_assoc (after_bits 152 p) (bit_xor (after_bits 144 q) (after_bits 136 r)) (after_bytes 0 z)
    ∙ ap (bit_xor (after_bits 152 p)) (xor_assoc (after_bits 144 q) (after_bits 136 r) (after_bytes 0 z))
    ∙ sym after_three
