-- The steps of the code that folds a message.
use Rattle.std.proofs.Common.{◌≡◌, ◌<◌, ◌/◌, ◌%◌, ◌+◌, ◌*◌, ◌^◌, ℕ, List, [], ◌∷◌, ◌++◌, length, take, drop, replicate, ◌≤◌, ◌-◌, zero, suc, refl, sym, ap, ap₂, ◌∙◌, arith, subst, lit<, lit≤, length-append, length-drop, length-take-le, take-append-drop, drop-drop, append_assoc, take_at, drop_at, take-take, take-add}
use Rattle.std.specs.Int.Bits.{bit_xor, xor_zero_r}
use Rattle.std.proofs.lemmas.Nat.{xor_comm}
use Rattle.std.proofs.lemmas.List.{drop-append-le, drop-take, drop-replicate, length-replicate}
use Rattle.std.proofs.lemmas.Simd.{length-chunk, put_chunk_is}
use Rattle.std.proofs.lemmas.Simd.{take_more_put_chunk}
use Rattle.std.proofs.lemmas.List.{take_all}
use Rattle.std.proofs.lemmas.List.Edits.{take-paste}
use Rattle.std.specs.List.{copy_within}
use lib.Seq.{paste}
use Rattle.std.specs.Int.{to_le_bytes}
use mir.Syntax.{w32}
use lib.Lanes.{zip2, Each1, chunk, put_chunk}
use Rattle.crc32c.specs.Crc.{after_bits, after_byte, after_bytes, crc32c, small_bytes}
use Rattle.crc32c.specs.Division.{xored, remaining, next_quotient, far}
use Rattle.crc32c.proofs.Steps.{byte_out, bits_more, zero_bits, no_bits, bytes_apart, bytes_more, first_apart, inverted}
use Rattle.crc32c.proofs.Multiples.{IsMultiple, total, remaining_leaves, divides, joined, length-quotient, length-remaining}

-- a window slides over what is stored behind it
pub slide : (at n d : ℕ) (done y : List ℕ) → length y ≡ n → n ≤ d → at + d + n ≤ length done →
    chunk (at + n) d (put_chunk (at + d) done y) ≡ drop n (chunk at d done) ++ y
slide at n d done y long within room =
    let front = drop (at + n) (take (at + d) done) in
    let rest = drop (length y) (drop (at + d) done) in
    let taken : length (take (at + d) done) ≡ at + d = length-take-le (at + d) done (omega arith) in
    let all : length (front ++ y) ≡ d = omega (arith, length-append front y, length-drop (at + n) (take (at + d) done)) in
    let one : at + d ≡ at + n + (d - n) = omega arith in
    let two : d ≡ n + (d - n) = omega arith in
    let here : front ≡ drop n (chunk at d done) =
    ap (λ k. drop (at + n) (take k done)) one ∙ drop-take (at + n) (d - n) done
    ∙ ap (take (d - n)) (sym (drop-drop n at done))
    ∙ sym (ap (λ k. drop n (take k (drop at done))) two ∙ drop-take n (d - n) (drop at done)) in
    ap (chunk (at + n) d) (put_chunk_is (at + d) done y (omega arith))
    ∙ ap (take d) (drop-append-le (at + n) (take (at + d) done) (y ++ rest) (omega arith) ∙ sym (append_assoc front y rest))
    ∙ take_at (front ++ y) rest d all
    ∙ ap (λ k. k ++ y) here

-- the next bytes of the quotient depend on the window alone
pub quotient_of_window : (n d : ℕ) (ss : List ℕ) → Each1 (λ s. s + n ≤ d) ss → (h x : List ℕ) → next_quotient n ss (take d h) x ≡ next_quotient n ss h x
quotient_of_window n d [] all h x = refl
quotient_of_window n d (s ∷ ss) all h x =
    let fits = all.0 in
    let one : d ≡ s + (d - s) = omega arith in
    ap₂ (zip2 bit_xor) (quotient_of_window n d ss all.1 h x)
    (ap (λ k. take n (drop s (take k h))) one ∙ ap (take n) (drop-take s (d - s) h) ∙ take-take n (d - s) (drop s h) (omega arith))

-- zeros that are added change nothing
xored_none : (xs : List ℕ) (k : ℕ) → xored xs (replicate k 0) ≡ xs
xored_none [] k = refl
xored_none (x ∷ xs) zero = refl
xored_none (x ∷ xs) (suc k) = ap₂ (λ y ys. y ∷ ys) (xor_zero_r x) (xored_none xs k)

-- so a quotient of zeros takes nothing off
pub remaining_all : (ss m : List ℕ) (d : ℕ) → remaining ss (replicate d 0) m ≡ m
remaining_all [] m d = refl
remaining_all (s ∷ ss) m d = ap₂ xored (remaining_all ss m d) (drop-replicate s d 0) ∙ xored_none m (d - s)

pub xored_zeros : (xs ys : List ℕ) (k : ℕ) → xored xs (ys ++ replicate k 0) ≡ xored xs ys
xored_zeros [] ys k = refl
xored_zeros (x ∷ xs) [] k = xored_none (x ∷ xs) k
xored_zeros (x ∷ xs) (y ∷ ys) k = ap (λ l. bit_xor x y ∷ l) (xored_zeros xs ys k)

pub take_xored : (n : ℕ) (xs ys : List ℕ) → n ≤ length xs → n ≤ length ys → take n (xored xs ys) ≡ zip2 bit_xor (take n xs) (take n ys)
take_xored zero xs ys one two = refl
take_xored (suc n) [] ys one two = absurd (omega arith)
take_xored (suc n) (x ∷ xs) [] one two = absurd (omega arith)
take_xored (suc n) (x ∷ xs) (y ∷ ys) one two = ap (λ l. bit_xor x y ∷ l) (take_xored n xs ys (omega arith) (omega arith))

pub chunk_xored : (i n : ℕ) (xs ys : List ℕ) → i + n ≤ length xs → i + n ≤ length ys → chunk i n (xored xs ys) ≡ zip2 bit_xor (chunk i n xs) (chunk i n ys)
chunk_xored zero n xs ys one two = take_xored n xs ys (omega arith) (omega arith)
chunk_xored (suc i) n [] ys one two = absurd (omega arith)
chunk_xored (suc i) n (x ∷ xs) [] one two = absurd (omega arith)
chunk_xored (suc i) n (x ∷ xs) (y ∷ ys) one two = chunk_xored i n xs ys (omega arith) (omega arith)

-- 32 bytes of what is left to divide are as a step makes them, with zeros behind the window
pub part_remaining : (i n k : ℕ) (ss : List ℕ) (h m : List ℕ) → Each1 (λ s. s ≤ length h) ss → i + n ≤ length m → i + n ≤ k →
    chunk i n (remaining ss h m) ≡ next_quotient n ss (drop i (h ++ replicate k 0)) (chunk i n m)
part_remaining i n k [] h m all long room = refl
part_remaining i n k (s ∷ ss) h m all long room =
    let fits = all.0 in
    let c = remaining ss h m in
    let z : List ℕ = replicate k 0 in
    let of_c : length c ≡ length m = length-remaining ss h m in
    let of_z : length z ≡ k = length-replicate k 0 in
    let long_two : i + n ≤ length (drop s h ++ z) = omega (arith, length-append (drop s h) z, of_z) in
    ap (chunk i n) (sym (xored_zeros c (drop s h) k))
    ∙ chunk_xored i n c (drop s h ++ z) (omega arith) long_two
    ∙ ap₂ (zip2 bit_xor) (part_remaining i n k ss h m all.1 long room)
    (ap (chunk i n) (sym (drop-append-le s h z fits))
    ∙ ap (take n) (drop-drop i s (h ++ z) ∙ (let e : s + i ≡ i + s = omega arith in ap (λ j. drop j (h ++ z)) e) ∙ sym (drop-drop s i (h ++ z))))

-- the window moves to the front
pub moves_to_front : (at d : ℕ) (done : List ℕ) → at + d ≤ length done → chunk 0 d (copy_within done at (at + d) 0) ≡ chunk at d done
moves_to_front at d done room =
    let one : at + d - at ≡ d = omega arith in
    let two : 0 + d ≡ d = omega arith in
    ap (λ n. take d (paste done 0 (drop at done) n)) one
    ∙ ap (λ n. take n (paste done 0 (drop at done) d)) (sym two)
    ∙ take-paste done 0 (drop at done) d (omega arith) (omega (arith, length-drop at done))

-- zeros are put behind the window
pub zeros_put : (at : ℕ) (q rest : List ℕ) → at + 290 ≤ length q → chunk at 610 (take (at + 290) q ++ (replicate 320 0 ++ rest)) ≡ chunk at 290 q ++ replicate 320 0
zeros_put at q rest room =
    let z : List ℕ = replicate 320 0 in
    let h : List ℕ = chunk at 290 q in
    let of_h : length h ≡ 290 = length-chunk at 290 q room in
    let both : length (h ++ z) ≡ 610 = omega (arith, length-append h z) in
    ap (take 610) (drop-append-le at (take (at + 290) q) (z ++ rest) (omega (arith, length-take-le (at + 290) q room))
    ∙ ap (λ (l : List ℕ). l ++ (z ++ rest)) (drop-take at 290 q) ∙ sym (append_assoc h z rest))
    ∙ take_at (h ++ z) rest 610 both

-- 32 bytes from each exponent on are within the window
pub fits_far : Each1 (λ s. s + 32 ≤ 290) far
fits_far = (lit≤ tt, (lit≤ tt, (lit≤ tt, (lit≤ tt, (lit≤ tt, tt)))))

within_each : (n d k : ℕ) (ss : List ℕ) → d ≤ k → Each1 (λ s. s + n ≤ d) ss → Each1 (λ s. s ≤ k) ss
within_each n d k [] less all = tt
within_each n d k (s ∷ ss) less all = let fits = all.0 in (omega arith, within_each n d k ss less all.1)

-- a slice to the end
pub to_end : (i n : ℕ) (xs : List ℕ) → length xs ≡ n → take (n - i) (drop i xs) ≡ drop i xs
to_end i n xs is = take_all (n - i) (drop i xs) (omega (arith, length-drop i xs))

-- a step of the code slides the window over the next bytes of the quotient
pub step_slides : (at n d : ℕ) (ss : List ℕ) (taken x y : List ℕ) → Each1 (λ s. s + n ≤ d) ss → n ≤ d → at + d + n ≤ length taken → n ≤ length x
    → y ≡ next_quotient n ss (take (length taken - at) (drop at taken)) (take n x)
    → chunk (at + n) d (put_chunk (at + d) taken y) ≡ drop n (chunk at d taken) ++ next_quotient n ss (chunk at d taken) (take n x)
step_slides at n d ss taken x y all within room next is =
    let h : List ℕ = chunk at d taken in
    let of_h : length h ≡ d = length-chunk at d taken (omega arith) in
    let same : y ≡ next_quotient n ss h (take n x) =
    is ∙ ap (λ k. next_quotient n ss k (take n x)) (to_end at (length taken) taken refl) ∙ sym (quotient_of_window n d ss all (drop at taken) (take n x)) in
    let of_y : length y ≡ n = ap length same ∙ length-quotient n d ss all h (take n x) of_h (length-take-le n x next) in
    slide at n d taken y of_y within room ∙ ap (λ k. drop n h ++ k) same

-- a step of the code keeps the state that is left
pub step_keeps : (n d : ℕ) (ss : List ℕ) → ((t : ℕ) → t < 2 ^ 32 → IsMultiple d ss t) → Each1 (λ s. s + n ≤ d) ss → (h after front back rest : List ℕ)
    → length h ≡ d → n ≤ d → n + d ≤ length rest → front ≡ take n rest → back ≡ drop n rest → after ≡ drop n h ++ next_quotient n ss h (take n front)
    → after_bytes 0 (remaining ss after back) ≡ after_bytes 0 (remaining ss h rest)
step_keeps n d ss law all h after front back rest of_h within long is_front is_back is =
    let x = take n rest in
    let of_x : length x ≡ n = length-take-le n rest (omega arith) in
    let one : take n front ≡ x = ap (take n) is_front ∙ take-take n n rest (omega arith) in
    ap₂ (λ k l. after_bytes 0 (remaining ss k l)) (is ∙ ap (λ k. drop n h ++ next_quotient n ss h k) one) is_back
    ∙ divides n d ss law all h x (drop n rest) of_h of_x within (omega (arith, length-drop n rest))
    ∙ ap (λ k. after_bytes 0 (remaining ss h k)) (take-append-drop n rest)

-- 32 bytes more of the remainder
pub end_step : (i n d k : ℕ) (ss : List ℕ) (left before taken bytes y : List ℕ) → Each1 (λ s. s + n ≤ d) ss → k ≤ length left → i + n ≤ k → length taken ≡ d → length bytes ≡ k
    → before ≡ taken ++ drop (length taken) (replicate (d + k) 0) → y ≡ next_quotient n ss (take (d + k - i) (drop i before)) (take n (take (length bytes - i) (drop i bytes)))
    → take i left ≡ take i (remaining ss taken bytes) → take (i + n) (put_chunk i left y) ≡ take (i + n) (remaining ss taken bytes)
end_step i n d k ss left before taken bytes y all long within of_taken of_bytes of_before is_y so_far =
    let c : List ℕ = remaining ss taken bytes in
    let of_c : length c ≡ k = length-remaining ss taken bytes ∙ of_bytes in
    let z : List ℕ = replicate k 0 in
    let zeros : drop (length taken) (replicate (d + k) 0) ≡ z = drop-replicate (length taken) (d + k) 0 ∙ ap (λ (j : ℕ). replicate j 0) (let e : d + k - length taken ≡ k = omega arith in e) in
    let is_before : before ≡ taken ++ z = of_before ∙ ap (λ (l : List ℕ). taken ++ l) zeros in
    let of_before_long : length before ≡ d + k = ap length is_before ∙ (omega (arith, length-append taken z, length-replicate {A = ℕ} k 0)) in
    let same : y ≡ chunk i n c =
    is_y ∙ ap₂ (next_quotient n ss) (to_end i (d + k) before of_before_long ∙ ap (drop i) is_before) (ap (take n) (to_end i (length bytes) bytes refl))
    ∙ sym (part_remaining i n k ss taken bytes (within_each n d (length taken) ss (omega arith) all) (omega arith) within) in
    let of_y : length y ≡ n = ap length same ∙ length-chunk i n c (omega arith) in
    take_more_put_chunk i left y (i + n) (omega arith) (omega arith) ∙ ap₂ (λ k l. k ++ l) so_far same ∙ sym (take-add i n c)

pub end_all : (i k : ℕ) (ss left taken bytes : List ℕ) → i ≡ k → length bytes ≡ k → take i left ≡ take i (remaining ss taken bytes) → take k left ≡ remaining ss taken bytes
end_all i k ss left taken bytes all of_bytes so_far =
    ap (λ n. take n left) (sym all) ∙ so_far ∙ take_all i (remaining ss taken bytes) (omega (arith, length-remaining ss taken bytes))

-- zeros leave the state 0 as it is
pub zeros_leave : (k : ℕ) → after_bytes 0 (replicate k 0) ≡ 0
unfolding after_byte after_bits
zeros_leave zero = refl
zeros_leave (suc k) = zeros_leave k

-- the bytes of a state, as a message, leave the state 32 bits later
pub four_leave : (state : ℕ) → state < 2 ^ 32 → after_bytes 0 (to_le_bytes w32 state) ≡ after_bits 32 state
four_leave state small =
    let a = state % 256 in
    let b = state / 256 % 256 in
    let c = state / 65536 % 256 in
    let d = state / 16777216 % 256 in
    let one : state / 256 / 256 ≡ state / 65536 = omega arith in
    let two : state / 65536 / 256 ≡ state / 16777216 = omega arith in
    let none : state / 16777216 / 256 ≡ 0 = omega arith in
    first_apart a (b ∷ c ∷ d ∷ []) (omega arith)
    ∙ ap (bit_xor (after_bits 32 a)) (first_apart b (c ∷ d ∷ []) (omega arith)
    ∙ ap (bit_xor (after_bits 24 b)) (first_apart c (d ∷ []) (omega arith)
    ∙ ap (bit_xor (after_bits 16 c)) (first_apart d [] (omega arith) ∙ xor_zero_r (after_bits 8 d))))
    ∙ sym (byte_out 24 state
    ∙ ap (bit_xor (after_bits 32 a)) (byte_out 16 (state / 256)
    ∙ ap (bit_xor (after_bits 24 b)) (ap (after_bits 16) one ∙ byte_out 8 (state / 65536)
    ∙ ap (bit_xor (after_bits 16 c)) (ap (after_bits 8) two ∙ byte_out 0 (state / 16777216)
    ∙ ap (bit_xor (after_bits 8 d)) (ap (after_bits 0) none ∙ no_bits 0) ∙ xor_zero_r (after_bits 8 d)))))

-- zeros leave the state 0, also with some bits shifted out
quiet : (n k j : ℕ) → after_bits n (after_bytes 0 (drop j (replicate k 0))) ≡ 0
quiet n k j = ap (λ l. after_bits n (after_bytes 0 l)) (drop-replicate j k 0) ∙ ap (after_bits n) (zeros_leave (k - j)) ∙ zero_bits n

total_none : (f : ℕ → ℕ) (ss : List ℕ) → Each1 (λ s. 4 ≤ s) ss → ((s : ℕ) → 4 ≤ s → f s ≡ 0) → total f ss ≡ 0
unfolding total
total_none f [] all none = refl
total_none f (s ∷ ss) all none = ap₂ bit_xor (none s all.0) (total_none f ss all.1 none)

-- four bytes of quotient before the first byte, by the degree
lead : (n d r : ℕ) (ss : List ℕ) → Each1 (λ s. s + n ≤ d) (0 ∷ ss) → Each1 (λ s. 4 ≤ s) ss → (q m : List ℕ) → length m ≡ d + r → length q ≡ 4 → 4 ≤ d →
    after_bytes 0 (remaining (0 ∷ ss) (q ++ replicate (d - 4) 0) m) ≡ bit_xor (after_bytes 0 m) (after_bits (8 * r) (after_bits (8 * (d - 4)) (after_bytes 0 q)))
unfolding total
lead n d r ss all four q m long is room =
    let z : List ℕ = replicate (d - 4) 0 in
    let h = q ++ z in
    let l = length m in
    let of_z : length z ≡ d - 4 = length-replicate {A = ℕ} (d - 4) 0 in
    let of_h : length h ≡ d = omega (arith, length-append q z) in
    let behind : l - (d - 0) ≡ r = omega arith in
    let f : ℕ → ℕ = λ s. after_bits (8 * (l - (d - s))) (after_bytes 0 (drop s h)) in
    let none : (s : ℕ) → 4 ≤ s → f s ≡ 0 = (λ s less.
    let e : 4 + (s - 4) ≡ s = omega arith in
    let here : drop s h ≡ drop (s - 4) z = ap (λ k. drop k h) (sym e) ∙ sym (drop-drop (s - 4) 4 h) ∙ ap (drop (s - 4)) (drop_at q z 4 is) in
    ap (λ k. after_bits (8 * (l - (d - s))) (after_bytes 0 k)) here ∙ quiet (8 * (l - (d - s))) (d - 4) (s - 4)) in
    let whole : after_bytes 0 h ≡ after_bits (8 * (d - 4)) (after_bytes 0 q) =
    joined q z ∙ ap₂ (λ k b. bit_xor (after_bits (8 * k) (after_bytes 0 q)) b) of_z (zeros_leave (d - 4))
    ∙ xor_zero_r (after_bits (8 * (d - 4)) (after_bytes 0 q)) in
    remaining_leaves n d (0 ∷ ss) all h m of_h (omega arith)
    ∙ ap (bit_xor (after_bytes 0 m))
    (ap₂ bit_xor (ap₂ (λ k s. after_bits (8 * k) s) behind whole) (total_none f ss four none)
    ∙ xor_zero_r (after_bits (8 * r) (after_bits (8 * (d - 4)) (after_bytes 0 q))))

-- the bytes of the state as quotient stand for the state
pub started : (n d : ℕ) (ss : List ℕ) → Each1 (λ s. s + n ≤ d) (0 ∷ ss) → Each1 (λ s. 4 ≤ s) ss → (state : ℕ) (h q m : List ℕ) → state < 2 ^ 32 → q ≡ to_le_bytes w32 state → d ≤ length m → 4 ≤ d
    → h ≡ q ++ replicate (d - 4) 0 → after_bytes 0 (remaining (0 ∷ ss) h m) ≡ after_bytes state m
started n d ss all fours state h q m small is long room is_h =
    let four : length q ≡ 4 = ap length is in
    let r = length m - d in
    let whole : length m ≡ d + r = omega arith in
    let bits : 32 + 8 * (d - 4) + 8 * r ≡ 8 * length m = omega arith in
    ap (λ k. after_bytes 0 (remaining (0 ∷ ss) k m)) is_h
    ∙ lead n d r ss all fours q m whole four room
    ∙ xor_comm (after_bytes 0 m) (after_bits (8 * r) (after_bits (8 * (d - 4)) (after_bytes 0 q)))
    ∙ ap (λ s. bit_xor s (after_bytes 0 m))
    (ap (λ k. after_bits (8 * r) (after_bits (8 * (d - 4)) (after_bytes 0 k))) is
    ∙ ap (λ s. after_bits (8 * r) (after_bits (8 * (d - 4)) s)) (four_leave state small)
    ∙ ap (after_bits (8 * r)) (sym (bits_more 32 (8 * (d - 4)) state)) ∙ sym (bits_more (32 + 8 * (d - 4)) (8 * r) state)
    ∙ ap (λ k. after_bits k state) bits)
    ∙ sym (bytes_apart state m)

pub fours_far : Each1 (λ s. 4 ≤ s) (32 ∷ 107 ∷ 113 ∷ 136 ∷ [])
fours_far = (lit≤ tt, (lit≤ tt, (lit≤ tt, (lit≤ tt, tt))))

pub far_window : (q : List ℕ) → length q ≡ 4 → chunk 0 290 (q ++ drop (length q) (replicate 2658 0)) ≡ q ++ replicate 286 0
far_window [] is = absurd (omega arith)
far_window (a ∷ []) is = absurd (omega arith)
far_window (a ∷ b ∷ []) is = absurd (omega arith)
far_window (a ∷ b ∷ c ∷ []) is = absurd (omega arith)
far_window (a ∷ b ∷ c ∷ d ∷ []) is = refl
far_window (a ∷ b ∷ c ∷ d ∷ e ∷ q) is = absurd (omega arith)

-- bytes that are put first leave the length
pub stays_long : (q done : List ℕ) → length q ≤ length done → length (q ++ drop (length q) done) ≡ length done
stays_long q done less = omega (arith, length-append q (drop (length q) done), length-drop (length q) done)

-- the checksum of bytes is their inverted state
pub checked : (bytes : List ℕ) (state : ℕ) → state ≡ after_bytes 4294967295 bytes → 4294967295 - state ≡ crc32c bytes
unfolding crc32c
checked bytes state is =
    inverted state (subst (λ s. s < 2 ^ 32) (sym is) (small_bytes bytes 4294967295 (lit< tt))) ∙ ap (λ s. bit_xor s 4294967295) is

-- the checksum of bytes, given that of the first of them
pub goes_on : (bytes : List ℕ) (k check state : ℕ) → check ≡ crc32c (take k bytes) → state ≡ after_bytes (4294967295 - check) (drop k bytes)
    → 4294967295 - state ≡ crc32c bytes
goes_on bytes k check state is_check is =
    let first : ℕ = after_bytes 4294967295 (take k bytes) in
    let small : first < 2 ^ 32 = small_bytes (take k bytes) 4294967295 (lit< tt) in
    let same : 4294967295 - check ≡ first = omega (arith, small, is_check, checked (take k bytes) first refl) in
    checked bytes state (is ∙ ap (λ s. after_bytes s (drop k bytes)) same ∙ sym (bytes_more 4294967295 (take k bytes) (drop k bytes))
    ∙ ap (after_bytes 4294967295) (take-append-drop k bytes))

-- the state after bytes in two parts
pub in_two : (state : ℕ) (bytes front back : List ℕ) (one two n : ℕ) → front ≡ take n bytes → back ≡ drop n bytes → one ≡ after_bytes state front
    → two ≡ after_bytes one back → two ≡ after_bytes state bytes
in_two state bytes front back one two n is_front is_back is_one is_two =
    is_two ∙ ap (λ s. after_bytes s back) is_one ∙ sym (bytes_more state front back)
    ∙ ap (after_bytes state) (ap₂ (λ k l. k ++ l) is_front is_back ∙ take-append-drop n bytes)
