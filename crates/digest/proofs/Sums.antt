-- Values by blocks: a value as one sum, and a sum that grows.
use Rattle.std.proofs.Common.{◌≡◌, ◌<◌, ◌≤◌, ◌+◌, ◌*◌, ◌%◌, ◌^◌, ◌∙◌, lit<, ℕ, zero, suc, List, [], ◌∷◌, length, length-drop, drop, take, get_or, refl, zero-add, add-one, ap, sym, arith}
use Rattle.std.proofs.Math.Nat.{mod-lt, mod-eq_of_lt, mod-add-mod, add-mul, mul_assoc, mul_comm}
use Rattle.std.proofs.lemmas.Nat.{mul-mod_first, mul-mod_second}
use Rattle.std.proofs.lemmas.List.{drop-drop, get_or-drop, take_all}
use Rattle.std.specs.Int.{div_ceil}
use Rattle.digest.specs.Poly.{prime, poly_value, poly_value_of, word}
use Rattle.digest.specs.Powers.{dot, power, powers}

-- some words, and then others
value-add : (x h m n : ℕ) (bytes : List ℕ) → poly_value x h (m + n) bytes ≡ poly_value x (poly_value x h m bytes) n (drop (7 * m) bytes)
unfolding poly_value
value-add x h zero n bytes = ap (λ (k : ℕ). poly_value x h k bytes) (zero-add n)
value-add x h (suc m) n bytes =
    let count : suc m + n ≡ suc (m + n) = omega arith in
    let at : 7 + 7 * m ≡ 7 * suc m = omega arith in
    ap (λ (k : ℕ). poly_value x h k bytes) count
    ∙ value-add x ((h * x + word bytes) % prime) m n (drop 7 bytes)
    ∙ ap (λ (rest : List ℕ). poly_value x (poly_value x ((h * x + word bytes) % prime) m (drop 7 bytes)) n rest) (drop-drop (7 * m) 7 bytes ∙ ap (λ (k : ℕ). drop k bytes) at)

-- a word is taken into the sum of those after it
word_in_sum : (h x w X D : ℕ) → ((h * x + w) % prime * X + D) % prime ≡ (h * (X * x % prime) + (w * X + D)) % prime
word_in_sum h x w X D =
    let front : ((h * x + w) % prime * X) % prime ≡ ((h * x + w) * X) % prime = mul-mod_first (h * x + w) X prime in
    let spread : (h * x + w) * X ≡ h * (X * x) + w * X =
    add-mul (h * x) w X ∙ ap (λ (k : ℕ). k + w * X) (mul_assoc h x X ∙ ap (λ (k : ℕ). h * k) (mul_comm x X)) in
    let back : (h * (X * x % prime)) % prime ≡ (h * (X * x)) % prime = mul-mod_second h (X * x) prime in
    sym (mod-add-mod ((h * x + w) % prime * X) prime D)
    ∙ ap (λ (k : ℕ). (k + D) % prime) front
    ∙ mod-add-mod ((h * x + w) * X) prime D
    ∙ ap (λ (k : ℕ). (k + D) % prime) spread
    ∙ ap (λ (k : ℕ). k % prime) (let e : h * (X * x) + w * X + D ≡ h * (X * x) + (w * X + D) = omega arith in e)
    ∙ sym (mod-add-mod (h * (X * x)) prime (w * X + D))
    ∙ ap (λ (k : ℕ). (k + (w * X + D)) % prime) (sym back)
    ∙ mod-add-mod (h * (X * x % prime)) prime (w * X + D)

sum_of_value : (x h n : ℕ) (bytes : List ℕ) → h < prime → poly_value x h n bytes ≡ (h * power x n + dot (powers x n) bytes) % prime
unfolding poly_value power powers
sum_of_value x h zero bytes small =
    let e : h * 1 + 0 ≡ h = omega arith in sym (ap (λ (k : ℕ). k % prime) e ∙ mod-eq_of_lt small)
sum_of_value x h (suc n) bytes small =
    sum_of_value x ((h * x + word bytes) % prime) n (drop 7 bytes) (mod-lt (h * x + word bytes) (lit< tt))
    ∙ word_in_sum h x (word bytes) (power x n) (dot (powers x n) (drop 7 bytes))

-- the value after some words, at least one, as one sum
value-sum : (x h n : ℕ) (bytes : List ℕ) → poly_value x h (suc n) bytes ≡ (h * power x (suc n) + dot (powers x (suc n)) bytes) % prime
unfolding poly_value power powers
value-sum x h n bytes =
    sum_of_value x ((h * x + word bytes) % prime) n (drop 7 bytes) (mod-lt (h * x + word bytes) (lit< tt))
    ∙ word_in_sum h x (word bytes) (power x n) (dot (powers x n) (drop 7 bytes))

length-powers : (x n : ℕ) → length (powers x n) ≡ n
unfolding powers
length-powers x zero = refl
length-powers x (suc n) = ap suc (length-powers x n)

-- all powers are as many as are taken
take-powers : (x n : ℕ) → take n (powers x n) ≡ powers x n
take-powers x n =
    let len : length (powers x n) ≤ n = omega (arith, length-powers x n) in take_all n (powers x n) len

-- the powers after the first ones are the lower ones
drop-powers : (x m n : ℕ) → drop m (powers x (m + n)) ≡ powers x n
unfolding powers
drop-powers x zero n = ap (powers x) (zero-add n)
drop-powers x (suc m) n =
    let e : suc m + n ≡ suc (m + n) = omega arith in
    ap (λ (k : ℕ). drop (suc m) (powers x k)) e ∙ drop-powers x m n

-- a power by its place
get_or-powers : (x m n d : ℕ) → get_or (powers x (m + suc n)) m d ≡ power x n
unfolding powers
get_or-powers x zero n d = let e : zero + suc n ≡ suc n = omega arith in ap (λ (k : ℕ). get_or (powers x k) zero d) e
get_or-powers x (suc m) n d =
    let e : suc m + suc n ≡ suc (m + suc n) = omega arith in
    ap (λ (k : ℕ). get_or (powers x k) (suc m) d) e ∙ get_or-powers x m n d

-- the last word's factor is 1
dot-last : (x m : ℕ) (bytes : List ℕ) → dot (powers x (suc m)) bytes ≡ dot (take m (powers x (suc m))) bytes + word (drop (7 * m) bytes)
unfolding power powers
dot-last x zero bytes = let e : word bytes * 1 + 0 ≡ 0 + word bytes = omega arith in e
dot-last x (suc m) bytes =
    let rest : dot (powers x (suc m)) (drop 7 bytes) ≡ dot (take m (powers x (suc m))) (drop 7 bytes) + word (drop (7 * m) (drop 7 bytes)) = dot-last x m (drop 7 bytes) in
    let at : 7 + 7 * m ≡ 7 * suc m = omega arith in
    let same : word (drop (7 * m) (drop 7 bytes)) ≡ word (drop (7 * suc m) bytes) = ap word (drop-drop (7 * m) 7 bytes ∙ ap (λ (k : ℕ). drop k bytes) at) in
    omega (arith, rest, same)

-- one product more
dot-more : (ps bytes : List ℕ) (i d : ℕ) → i < length ps → dot (take (suc i) ps) bytes ≡ dot (take i ps) bytes + word (drop (7 * i) bytes) * get_or ps i d
dot-more [] bytes i d below = absurd (omega arith)
dot-more (p ∷ ps) bytes zero d below = omega arith
dot-more (p ∷ ps) bytes (suc i) d below =
    let less : i < length ps = omega arith in
    let rest : dot (take (suc i) ps) (drop 7 bytes) ≡ dot (take i ps) (drop 7 bytes) + word (drop (7 * i) (drop 7 bytes)) * get_or ps i d = dot-more ps (drop 7 bytes) i d less in
    let at : 7 + 7 * i ≡ 7 * suc i = omega arith in
    let same : word (drop (7 * i) (drop 7 bytes)) * get_or ps i d ≡ word (drop (7 * suc i) bytes) * get_or ps i d =
    ap (λ (b : List ℕ). word b * get_or ps i d) (drop-drop (7 * i) 7 bytes ∙ ap (λ (k : ℕ). drop k bytes) at) in
    omega (arith, rest, same)

-- the sum of the first products, and how great it is at most
pub record IsSummed (total : ℕ) (factors bytes : List ℕ) (i sum : ℕ) : Type 0 where
  pub value : sum ≡ total + dot (take i factors) bytes
  pub small : sum ≤ total + i * 2 ^ 120

-- a product more
pub summed_more : (total : ℕ) (table bytes : List ℕ) (first i d sum word_now product : ℕ) → IsSummed total (drop first table) bytes i sum → first + i < length table
    → word_now ≡ word (drop (7 * i) bytes) → product ≡ word_now * get_or table (first + i) d → product ≤ 2 ^ 120 → IsSummed total (drop first table) bytes (i + 1) (sum + product)
summed_more total table bytes first i d sum word_now product summed below is_word is small =
    let fits : i < length (drop first table) = omega (arith, length-drop first table) in
    let more : dot (take (suc i) (drop first table)) bytes ≡ dot (take i (drop first table)) bytes + word (drop (7 * i) bytes) * get_or (drop first table) i d = dot-more (drop first table) bytes i d fits in
    let same : product ≡ word (drop (7 * i) bytes) * get_or (drop first table) i d =
    is ∙ ap (λ (w : ℕ). w * get_or table (first + i) d) is_word ∙ ap (λ (f : ℕ). word (drop (7 * i) bytes) * f) (sym (get_or-drop first table i d)) in
    let before : sum ≡ total + dot (take i (drop first table)) bytes = summed.value in
    let most : sum ≤ total + i * 2 ^ 120 = summed.small in
    let all : sum + product ≡ total + dot (take (suc i) (drop first table)) bytes = omega (arith, more, before, same) in
    record { value = all ∙ ap (λ (k : ℕ). total + dot (take k (drop first table)) bytes) (sym (add-one i)); small = omega arith }

-- ---- what the functions give

-- a block's sum
pub block_value : (x h : ℕ) (table bytes : List ℕ) (product total r : ℕ) → table ≡ powers x 33 → product ≡ h * get_or table 0 0 → total ≡ product + dot (take 32 (drop 1 table)) bytes
    → r ≡ total % prime → r ≡ poly_value x h 32 bytes
block_value x h table bytes product total r is_table is_product is_total is =
    let first : get_or table 0 0 ≡ power x 32 = ap (λ (t : List ℕ). get_or t 0 0) is_table ∙ get_or-powers x 0 32 0 in
    let others : take 32 (drop 1 table) ≡ powers x 32 = ap (λ (t : List ℕ). take 32 (drop 1 t)) is_table ∙ ap (take 32) (drop-powers x 1 32) ∙ take-powers x 32 in
    let whole : total ≡ h * power x 32 + dot (powers x 32) bytes =
    is_total ∙ ap (λ (p : ℕ). p + dot (take 32 (drop 1 table)) bytes) (is_product ∙ ap (λ (p : ℕ). h * p) first) ∙ ap (λ (l : List ℕ). h * power x 32 + dot l bytes) others in
    is ∙ ap (λ (t : ℕ). t % prime) whole ∙ sym (value-sum x h 31 bytes)

-- the sum of the last words, of which the table's last m + 1 are the factors
pub ending_value : (x h k m : ℕ) (table bytes : List ℕ) (product total last r : ℕ) → k + m ≡ 31 → table ≡ powers x 33 → product ≡ h * get_or table k 0
    → total ≡ product + dot (take m (drop (suc k) table)) bytes → last ≡ word (drop (7 * m) bytes) → r ≡ (total + last) % prime → r ≡ poly_value x h (suc m) bytes
ending_value x h k m table bytes product total last r places is_table is_product is_total is_last is =
    let long : 33 ≡ k + suc (suc m) = omega arith in
    let longer : k + suc (suc m) ≡ suc k + suc m = omega arith in
    let same : table ≡ powers x (k + suc (suc m)) = is_table ∙ ap (powers x) long in
    let first : get_or table k 0 ≡ power x (suc m) = ap (λ (t : List ℕ). get_or t k 0) same ∙ get_or-powers x k (suc m) 0 in
    let others : drop (suc k) table ≡ powers x (suc m) = ap (drop (suc k)) (same ∙ ap (powers x) longer) ∙ drop-powers x (suc k) (suc m) in
    let start : product ≡ h * power x (suc m) = is_product ∙ ap (λ (p : ℕ). h * p) first in
    let most : total ≡ product + dot (take m (powers x (suc m))) bytes = is_total ∙ ap (λ (l : List ℕ). product + dot (take m l) bytes) others in
    let whole : total + last ≡ h * power x (suc m) + dot (powers x (suc m)) bytes = omega (arith, start, most, is_last, dot-last x m bytes) in
    is ∙ ap (λ (t : ℕ). t % prime) whole ∙ sym (value-sum x h m bytes)

-- n words after k blocks
pub words_after : (x h k a n m r : ℕ) (bytes : List ℕ) → a ≡ poly_value x h (32 * k) bytes → r ≡ poly_value x a n (drop (224 * k) bytes) → 32 * k + n ≡ m → r ≡ poly_value x h m bytes
words_after x h k a n m r bytes before is count =
    let at : 224 * k ≡ 7 * (32 * k) = omega arith in
    is ∙ ap (λ (c : ℕ). poly_value x c n (drop (224 * k) bytes)) before
    ∙ ap (λ (z : ℕ). poly_value x (poly_value x h (32 * k) bytes) n (drop z bytes)) at
    ∙ sym (value-add x h (32 * k) n bytes)
    ∙ ap (λ (z : ℕ). poly_value x h z bytes) count

-- the value of no words is the length
pub value_of_none : (x : ℕ) (bytes : List ℕ) → length bytes ≡ 0 → 0 ≡ poly_value_of x bytes
unfolding poly_value
value_of_none x bytes none = sym (ap (λ (len : ℕ). poly_value x len (div_ceil len 7) bytes) none)
