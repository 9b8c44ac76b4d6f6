-- Lanes that move, and the first rows of a message.
use Rattle.std.proofs.Common.{◌≡◌, ℕ, zero, suc, ◌+◌, ◌-◌, ◌*◌, ◌/◌, ◌^◌, ◌<◌, ◌≤◌, List, [], ◌∷◌, ◌++◌, T, ◌||◌, ltb, cond, length, get_or, take, drop, replicate, refl, sym, ap, ap₂, ◌∙◌, inl, inr, arith, w8, length-append, length-drop, length-take-le, take-append-drop, drop-drop, append_assoc, take_at, take-take}
use Rattle.std.specs.Int.Bits.{bit_xor}
use Rattle.std.specs.Int.{w32, to_le_bytes}
use Rattle.std.specs.List.{range_with_len}
use Rattle.std.proofs.lemmas.Bool.{cases_lt}
use Rattle.std.proofs.lemmas.List.{ext_get_or, get_or-take, get_or-drop, get_or_append_left, get_or-append_right, drop-append-le, replicate-append-replicate}
use Rattle.std.proofs.lemmas.List.FromFn.{get_or-range_with_len}
use Rattle.std.proofs.lemmas.Nat.{xor_comm}
use Rattle.std.proofs.lemmas.Simd.{swz_l, SwzOk, SwzOk-from_Each1, Each1-chunk, length-swz_l, get_or-swz_l, get_or-swz_l_below, length-chunk, get_or-chunk, get_or-replicate, length-replicate}
use mir.Val.{zeroes}
use lib.Lanes.{zip2, Each1, chunk}
use Rattle.crc32c.specs.declared.rows.TheConstants.{MOVES}
use Rattle.crc32c.specs.Crc.{after_bits, after_bytes}
use Rattle.crc32c.specs.Division.{xored}
use Rattle.crc32c.proofs.Steps.{bits_more, bytes_apart, bytes_more}
use Rattle.crc32c.proofs.Multiples.{apart_zero}
use Rattle.crc32c.proofs.Folding.{four_leave, xored_zeros, zeros_leave, take_xored, chunk_xored}

are_moves : MOVES ≡ replicate 16 128 ++ (range_with_len 0 16 ++ replicate 16 128)
are_moves = refl

ahead : (m : ℕ) → m < 16 → get_or MOVES m 0 ≡ 128
ahead m less = ap (λ (l : List ℕ). get_or l m 0) are_moves ∙ get_or_append_left (replicate 16 128) (range_with_len 0 16 ++ replicate 16 128) 0 m less ∙ get_or-replicate 16 m 128 0 less

within : (m : ℕ) → 16 ≤ m → m < 32 → get_or MOVES m 0 ≡ m - 16
within m from less =
    ap (λ (l : List ℕ). get_or l m 0) are_moves ∙ get_or-append_right (replicate 16 128) (range_with_len 0 16 ++ replicate 16 128) 16 m 0 refl from
    ∙ get_or_append_left (range_with_len 0 16) (replicate 16 128) 0 (m - 16) (omega arith) ∙ get_or-range_with_len 0 16 (m - 16) 0 (omega arith) ∙ (omega arith)

behind : (m : ℕ) → 32 ≤ m → m < 48 → get_or MOVES m 0 ≡ 128
behind m from less =
    ap (λ (l : List ℕ). get_or l m 0) are_moves ∙ get_or-append_right (replicate 16 128) (range_with_len 0 16 ++ replicate 16 128) 16 m 0 refl (omega arith)
    ∙ get_or-append_right (range_with_len 0 16) (replicate 16 128) 16 (m - 16) 0 refl (omega arith)
    ∙ get_or-replicate 16 (m - 16 - 16) 128 0 (omega arith)

all_moves : Each1 (λ j. T (zeroes 16 w8 j || ltb j 16)) MOVES
all_moves = (tt, (tt, (tt, (tt, (tt, (tt, (tt, (tt, (tt, (tt, (tt, (tt, (tt, (tt, (tt, (tt, (tt, (tt, (tt, (tt, (tt, (tt, (tt, (tt, (tt, (tt, (tt, (tt, (tt, (tt, (tt, (tt, (tt, (tt, (tt, (tt, (tt, (tt, (tt, (tt, (tt, (tt, (tt, (tt, (tt, (tt, (tt, (tt, tt))))))))))))))))))))))))))))))))))))))))))))))))

pub moves_ok : (count : ℕ) → count ≤ 32 → SwzOk w8 16 16 0 (chunk count 16 MOVES)
moves_ok count fits =
    SwzOk-from_Each1 w8 16 1 16 0 (chunk count 16 MOVES) refl (omega (arith, length-chunk count 16 MOVES (omega arith))) (Each1-chunk (λ j. T (zeroes 16 w8 j || ltb j 16)) count 16 MOVES all_moves)

-- a lane that is made 0, and one that is read
none : (v : List ℕ) (count i : ℕ) → count ≤ 32 → i < 16 → get_or MOVES (count + i) 0 ≡ 128 → get_or (swz_l w8 16 v 0 (chunk count 16 MOVES)) i 0 ≡ 0
none v count i fits less is =
    let js : List ℕ = chunk count 16 MOVES in
    let long : length js ≡ 16 = length-chunk count 16 MOVES (omega arith) in
    let here : get_or js i 0 ≡ 128 = get_or-chunk count 16 MOVES i 0 less ∙ is in
    get_or-swz_l w8 16 v 0 js i (omega arith)
    ∙ ap (λ j. cond (zeroes 16 w8 j) 0 (get_or v (16 * ((0 + i) / 16) + j) 0)) here

one : (v : List ℕ) (count i j : ℕ) → count ≤ 32 → i < 16 → get_or MOVES (count + i) 0 ≡ j → j < 16 → get_or (swz_l w8 16 v 0 (chunk count 16 MOVES)) i 0 ≡ get_or v j 0
one v count i j fits less is small =
    let js : List ℕ = chunk count 16 MOVES in
    let long : length js ≡ 16 = length-chunk count 16 MOVES (omega arith) in
    let here : get_or js i 0 ≡ j = get_or-chunk count 16 MOVES i 0 less ∙ is in
    let block : 16 * ((0 + i) / 16) + get_or js i 0 ≡ j = omega arith in
    get_or-swz_l_below w8 16 v 0 js i (omega arith) (omega arith) ∙ ap (λ k. get_or v k 0) block

pub to_end_is : (v : List ℕ) (count : ℕ) → length v ≡ 16 → count ≤ 16 → swz_l w8 16 v 0 (chunk count 16 MOVES) ≡ replicate (16 - count) 0 ++ take count v
to_end_is v count long fits =
    let js : List ℕ = chunk count 16 MOVES in
    let z : List ℕ = replicate (16 - count) 0 in
    let of_js : length (swz_l w8 16 v 0 js) ≡ 16 = length-swz_l w8 16 v 0 js ∙ length-chunk count 16 MOVES (omega arith) in
    let of_z : length z ≡ 16 - count = length-replicate {A = ℕ} (16 - count) 0 in
    let of_take : length (take count v) ≡ count = length-take-le count v (omega arith) in
    ext_get_or 0 _ _ (of_js ∙ (omega (arith, length-append z (take count v)))) (λ i h.
    let less : i < 16 = omega arith in
    elim (cases_lt i (16 - count)) [
      | inl l ↦ none v count i (omega arith) less (ahead (count + i) (omega arith)) ∙ sym (get_or_append_left z (take count v) 0 i (omega arith) ∙ get_or-replicate (16 - count) i 0 0 l)
      | inr g ↦
          let j = i - (16 - count) in
          let e : count + i - 16 ≡ j = omega arith in
          one v count i j (omega arith) less (within (count + i) (omega arith) (omega arith) ∙ e) (omega arith)
          ∙ sym (get_or-append_right z (take count v) (16 - count) i 0 of_z g ∙ get_or-take count v j 0 (omega arith))
    ])

pub from_lane_is : (v : List ℕ) (count : ℕ) → length v ≡ 16 → count ≤ 16 → swz_l w8 16 v 0 (chunk (count + 16) 16 MOVES) ≡ drop count v ++ replicate count 0
from_lane_is v count long fits =
    let js : List ℕ = chunk (count + 16) 16 MOVES in
    let z : List ℕ = replicate count 0 in
    let of_js : length (swz_l w8 16 v 0 js) ≡ 16 = length-swz_l w8 16 v 0 js ∙ length-chunk (count + 16) 16 MOVES (omega arith) in
    let of_z : length z ≡ count = length-replicate {A = ℕ} count 0 in
    let of_drop : length (drop count v) ≡ 16 - count = omega (arith, length-drop count v) in
    ext_get_or 0 _ _ (of_js ∙ (omega (arith, length-append (drop count v) z))) (λ i h.
    let less : i < 16 = omega arith in
    elim (cases_lt i (16 - count)) [
      | inl l ↦
          let e : count + 16 + i - 16 ≡ count + i = omega arith in
          one v (count + 16) i (count + i) (omega arith) less (within (count + 16 + i) (omega arith) (omega arith) ∙ e) (omega arith)
          ∙ sym (get_or_append_left (drop count v) z 0 i (omega arith) ∙ get_or-drop count v i 0)
      | inr g ↦
          none v (count + 16) i (omega arith) less (behind (count + 16 + i) (omega arith) (omega arith))
          ∙ sym (get_or-append_right (drop count v) z (16 - count) i 0 of_drop g ∙ get_or-replicate count (i - (16 - count)) 0 0 (omega arith))
    ])

-- ---- the first rows

lit≤4 : (count : ℕ) → 4 ≤ count + 16
lit≤4 count = omega arith

drop_xored : (k : ℕ) (xs ys : List ℕ) → length ys ≤ k → drop k (xored xs ys) ≡ drop k xs
drop_xored k [] ys few = refl
drop_xored k (x ∷ xs) [] few = refl
drop_xored zero (x ∷ xs) (y ∷ ys) few = absurd (omega arith)
drop_xored (suc k) (x ∷ xs) (y ∷ ys) few = drop_xored k xs ys (omega arith)

-- a message that a state's bytes were added to
with_state : (state : ℕ) (q bytes : List ℕ) → state < 2 ^ 32 → q ≡ to_le_bytes w32 state → 4 ≤ length bytes → after_bytes 0 (xored bytes q) ≡ after_bytes state bytes
with_state state q bytes small is_q long =
    let four : length q ≡ 4 = ap length is_q in
    let bits : 32 + 8 * (length bytes - length q) ≡ 8 * length bytes = omega arith in
    apart_zero bytes q (omega arith)
    ∙ ap (λ s. bit_xor (after_bytes 0 bytes) (after_bits (8 * (length bytes - length q)) s)) (ap (after_bytes 0) is_q ∙ four_leave state small)
    ∙ ap (bit_xor (after_bytes 0 bytes)) (sym (bits_more 32 (8 * (length bytes - length q)) state) ∙ ap (λ k. after_bits k state) bits)
    ∙ xor_comm (after_bytes 0 bytes) (after_bits (8 * length bytes) state)
    ∙ sym (bytes_apart state bytes)

pub started_rows : (state count : ℕ) (bytes first second : List ℕ) → state < 2 ^ 32 → count ≤ 16 → 32 ≤ length bytes
    → first ≡ replicate (16 - count) 0 ++ take count (zip2 bit_xor (take 16 bytes) (to_le_bytes w32 state ++ replicate 12 0))
    → second ≡ zip2 bit_xor (chunk count 16 bytes) (drop count (to_le_bytes w32 state ++ replicate 12 0) ++ replicate count 0)
    → after_bytes 0 (first ++ (second ++ drop (count + 16) bytes)) ≡ after_bytes state bytes
started_rows state count bytes first second small less long is_first is_second =
    let q : List ℕ = to_le_bytes w32 state in
    let n = length bytes in
    let lanes : List ℕ = q ++ replicate 12 0 in
    let more : List ℕ = replicate (n - 16) 0 in
    let all : List ℕ = q ++ replicate (n - 4) 0 in
    let x : List ℕ = xored bytes all in
    let z : List ℕ = replicate (16 - count) 0 in
    let of_more : length more ≡ n - 16 = length-replicate {A = ℕ} (n - 16) 0 in
    let of_lanes : length lanes ≡ 16 = refl in
    let in_all : lanes ++ more ≡ all =
    append_assoc q (replicate 12 0) more ∙ ap (λ (l : List ℕ). q ++ l) (replicate-append-replicate 12 (n - 16) 0 ∙ (let e : 12 + (n - 16) ≡ n - 4 = omega arith in ap (λ (k : ℕ). replicate k 0) e)) in
    let of_all : length all ≡ n = ap length (sym in_all) ∙ (omega (arith, length-append lanes more)) in
    let front : take 16 all ≡ lanes = ap (take 16) (sym in_all) ∙ take_at lanes more 16 of_lanes in
    let tail : List ℕ = drop count lanes in
    let rest : List ℕ = replicate (n - 16 - count) 0 in
    let of_tail : length (tail ++ replicate count 0) ≡ 16 = omega (arith, length-append tail (replicate count 0), length-drop count lanes, length-replicate {A = ℕ} count 0) in
    let apart : more ≡ replicate count 0 ++ rest = (let e : n - 16 ≡ count + (n - 16 - count) = omega arith in ap (λ (k : ℕ). replicate k 0) e) ∙ sym (replicate-append-replicate count (n - 16 - count) 0) in
    let back : chunk count 16 all ≡ tail ++ replicate count 0 =
    ap (λ l. take 16 (drop count l)) (sym in_all) ∙ ap (take 16) (drop-append-le count lanes more (omega arith) ∙ ap (λ (l : List ℕ). tail ++ l) apart ∙ sym (append_assoc tail (replicate count 0) rest))
    ∙ take_at (tail ++ replicate count 0) rest 16 of_tail in
    let same : x ≡ xored bytes q = xored_zeros bytes q (n - 4) in
    let one : first ≡ z ++ take count x =
    is_first ∙ ap (λ (l : List ℕ). z ++ l)
    (ap (take count) (ap (zip2 bit_xor (take 16 bytes)) (sym front) ∙ sym (take_xored 16 bytes all (omega arith) (omega arith))) ∙ take-take count 16 x (omega arith)) in
    let two : second ≡ chunk count 16 x = is_second ∙ ap (zip2 bit_xor (chunk count 16 bytes)) (sym back) ∙ sym (chunk_xored count 16 bytes all (omega arith) (omega arith)) in
    let three : drop (count + 16) bytes ≡ drop 16 (drop count x) =
    sym (drop_xored (count + 16) bytes q (lit≤4 count)) ∙ ap (drop (count + 16)) (sym same) ∙ sym (drop-drop 16 count x) in
    let parts : take count x ++ (chunk count 16 x ++ drop 16 (drop count x)) ≡ x = ap (λ (l : List ℕ). take count x ++ l) (take-append-drop 16 (drop count x)) ∙ take-append-drop count x in
    let whole : first ++ (second ++ drop (count + 16) bytes) ≡ z ++ x =
    ap₂ (λ (k l : List ℕ). k ++ l) one (ap₂ (λ (k l : List ℕ). k ++ l) two three)
    ∙ append_assoc z (take count x) (chunk count 16 x ++ drop 16 (drop count x)) ∙ ap (λ (l : List ℕ). z ++ l) parts in
    ap (after_bytes 0) whole ∙ bytes_more 0 z x ∙ ap (λ s. after_bytes s x) (zeros_leave (16 - count))
    ∙ ap (after_bytes 0) same ∙ with_state state q bytes small refl (omega arith)
