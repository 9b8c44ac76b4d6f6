-- What a read of several ranges delivers.
use Rattle.std.proofs.Common.{◌≡◌, ◌+◌, ◌<◌, ℕ, zero, suc, List, [], ◌∷◌, ◌++◌, length, map, take, drop, slice_index_or, slice_get, Some, Contains, IsPermutation, nat_eq, false, refl, sym, ap, ◌∙◌, subst, arith, zero-add, length-take-le}
use Rattle.std.specs.List.{enumerate_from, range_with_len, AllByRecursion, IsDistinct}
use Rattle.std.proofs.lemmas.Bool.Decides.{nat_tests}
use Rattle.std.proofs.lemmas.Cmp.{nat_eq_equiv}
use Rattle.std.proofs.lemmas.List.{take_more, map-append, length-map}
use Rattle.std.proofs.lemmas.List.FromFn.{length-enumerate_from, get_or-enumerate_from, length-range_with_len, get_or-range_with_len}
use Rattle.std.proofs.lemmas.List.Sorted.{All-permutation, Contains-permutation, length_permutation, IsPermutation-map}
use Rattle.std.proofs.lemmas.Map.Keys.{IsDistinct-IsPermutation}
use Rattle.std.proofs.lemmas.Option.{slice_get-get_or}
use Rattle.disk.specs.Disk.{Delivers, bytes_of}

-- the ranges' bytes, each with its number, in rising order
abbrev pub rising : List (ℕ × ℕ) → List ℕ → List (ℕ × List ℕ)
rising ranges bytes = enumerate_from 0 (bytes_of ranges bytes)

enumerate_push : {X : Type 0} (n : ℕ) (xs : List X) (x : X) → enumerate_from n (xs ++ x ∷ []) ≡ enumerate_from n xs ++ (n + length xs, x) ∷ []
enumerate_push {X} n [] x = let e : n ≡ n + 0 = omega arith in ap {B = List (ℕ × X)} (λ k. (k, x) ∷ []) e
enumerate_push {X} n (y ∷ xs) x =
    let e : n + 1 + length xs ≡ n + suc (length xs) = omega arith in
    ap (λ (l : List (ℕ × X)). (n, y) ∷ l) (enumerate_push (n + 1) xs x ∙ ap (λ (k : ℕ). enumerate_from (n + 1) xs ++ (k, x) ∷ []) e)

-- the delivery of the first ranges with one more
pub rising_more : (ranges : List (ℕ × ℕ)) (bytes : List ℕ) (i : ℕ) (d : ℕ × ℕ) → i < length ranges
    → rising (take (i + 1) ranges) bytes ≡ rising (take i ranges) bytes ++ (i, take (slice_index_or ranges i d).1 (drop (slice_index_or ranges i d).0 bytes)) ∷ []
rising_more ranges bytes i d below =
    let r = slice_index_or ranges i d in
    let front = take i ranges in
    let long : length (bytes_of front bytes) ≡ i = length-map front (λ s. take s.1 (drop s.0 bytes)) ∙ length-take-le i ranges (omega (arith, below)) in
    let last : 0 + length (bytes_of front bytes) ≡ i = omega (arith, long) in
    ap (λ (rs : List (ℕ × ℕ)). rising rs bytes) (take_more ranges i d below)
    ∙ ap (λ (l : List (List ℕ)). enumerate_from 0 l) (map-append (λ s. take s.1 (drop s.0 bytes)) front (r ∷ []))
    ∙ enumerate_push 0 (bytes_of front bytes) (take r.1 (drop r.0 bytes))
    ∙ ap (λ (k : ℕ). rising front bytes ++ (k, take r.1 (drop r.0 bytes)) ∷ []) last

-- the numbers rise by one from the first on
numbers_rise : {X : Type 0} (n : ℕ) (xs : List X) → map (λ (r : ℕ × X). r.0) (enumerate_from n xs) ≡ range_with_len n (length xs)
numbers_rise n [] = refl
numbers_rise n (x ∷ xs) = ap (λ (l : List ℕ). n ∷ l) (numbers_rise (n + 1) xs)

later_differ : (n a b : ℕ) → b < a → AllByRecursion (λ y. nat_eq b y ≡ false) (range_with_len a n)
later_differ zero a b below = tt
later_differ (suc n) a b below = (grind (arith, nat_tests), later_differ n (a + 1) b (omega (arith, below)))

rising_differ : (n a : ℕ) → IsDistinct nat_eq (range_with_len a n)
unfolding IsDistinct
rising_differ zero a = tt
rising_differ (suc n) a = (later_differ n (a + 1) a (omega arith), rising_differ n (a + 1))

rising_has : (n i : ℕ) → i < n → Contains (range_with_len 0 n) i
rising_has n i below = (i, omega (arith, below, length-range_with_len 0 n), get_or-range_with_len 0 n i i below ∙ zero-add i)

-- a delivery in rising order has each range once
pub delivers_rising : (ranges : List (ℕ × ℕ)) (bytes : List ℕ) → Delivers ranges bytes (rising ranges bytes)
delivers_rising ranges bytes =
    let pieces = bytes_of ranges bytes in
    let long : length pieces ≡ length ranges = length-map ranges (λ s. take s.1 (drop s.0 bytes)) in
    let numbers : map (λ (r : ℕ × List ℕ). r.0) (rising ranges bytes) ≡ range_with_len 0 (length pieces) = numbers_rise 0 pieces in
    record {
      count = length-enumerate_from 0 pieces ∙ long;
      each = λ k d below.
          let within : k < length pieces = omega (arith, below, length-enumerate_from 0 pieces) in
          let at : slice_index_or (rising ranges bytes) k d ≡ (k, slice_index_or pieces k d.1) = get_or-enumerate_from 0 pieces k d within ∙ ap {B = ℕ × List ℕ} (λ n. (n, slice_index_or pieces k d.1)) (zero-add k) in
          subst (λ (r : ℕ × List ℕ). slice_get pieces r.0 ≡ Some r.1) (sym at) (slice_get-get_or pieces k d.1 within);
      all = λ index below. subst (λ (l : List ℕ). Contains l index) (sym numbers) (rising_has (length pieces) index (omega (arith, below, long)));
      once = subst (IsDistinct nat_eq) (sym numbers) (rising_differ (length pieces) 0);
    }

-- a delivery in any other order has each range once too
pub delivers_moved : (ranges : List (ℕ × ℕ)) (bytes : List ℕ) (out moved : List (ℕ × List ℕ)) → IsPermutation out moved → Delivers ranges bytes out → Delivers ranges bytes moved
delivers_moved ranges bytes out moved moves was =
    let number : ℕ × List ℕ → ℕ = λ r. r.0 in
    let numbers = IsPermutation-map number out moved moves in
    record {
      count = length_permutation out moved moves ∙ was.count;
      each = All-permutation (λ r. slice_get (bytes_of ranges bytes) r.0 ≡ Some r.1) out moved moves was.each;
      all = λ index below. Contains-permutation (map number out) (map number moved) index numbers (was.all index below);
      once = IsDistinct-IsPermutation nat_eq (nat_eq_equiv.symm) (map number out) (map number moved) numbers was.once;
    }
