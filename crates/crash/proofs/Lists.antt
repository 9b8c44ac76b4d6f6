-- Plain facts on lists: their beginnings, their rests, and what stands between.
use Rattle.std.proofs.Common.{◌≡◌, ℕ, zero, suc, ◌+◌, ◌-◌, ◌<◌, ◌≤◌, List, [], ◌∷◌, ◌++◌, length, take, drop, refl, sym, ◌∙◌, ap, ap₂, arith, length-take, replicate}
use Rattle.std.specs.Prelude.{slice_get, Some}
use Rattle.std.proofs.lemmas.Option.{same_Some}
use Rattle.std.proofs.lemmas.List.{take-take, take_at, drop-drop, drop-take}
use Rattle.std.proofs.Math.Seq.{take-append-add, drop-append-add}

module _ {X : Type 0} where
  -- equal beginnings have equal shorter beginnings
  pub take_same : (m n : ℕ) (xs ys : List X) → m ≤ n → take n xs ≡ take n ys → take m xs ≡ take m ys
  take_same m n xs ys le same = sym (take-take m n xs le) ∙ ap (λ (l : List X). take m l) same ∙ take-take m n ys le

  -- a beginning that ends after the first list
  pub take_past : (n : ℕ) (xs ys : List X) → length xs ≤ n → take n (xs ++ ys) ≡ xs ++ take (n - length xs) ys
  take_past n xs ys le = let e : n ≡ length xs + (n - length xs) = omega arith in ap (λ (k : ℕ). take k (xs ++ ys)) e ∙ take-append-add xs ys (n - length xs)

  -- a rest that begins after the first list
  pub drop_past : (n : ℕ) (xs ys : List X) → length xs ≤ n → drop n (xs ++ ys) ≡ drop (n - length xs) ys
  drop_past n xs ys le = let e : n ≡ length xs + (n - length xs) = omega arith in ap (λ (k : ℕ). drop k (xs ++ ys)) e ∙ drop-append-add xs ys (n - length xs)

  -- what stands within a beginning stands in the list
  pub within_take : (n k m : ℕ) (xs : List X) → k + n ≤ m → take n (drop k (take m xs)) ≡ take n (drop k xs)
  within_take n k m xs le =
      let e : m ≡ k + (m - k) = omega arith in
      ap (λ (j : ℕ). take n (drop k (take j xs))) e ∙ ap (λ (l : List X). take n l) (drop-take k (m - k) xs) ∙ take-take n (m - k) (drop k xs) (omega arith)

  -- equal beginnings hold the same between two places
  pub within_same : (n k m : ℕ) (xs ys : List X) → k + n ≤ m → take m xs ≡ take m ys → take n (drop k xs) ≡ take n (drop k ys)
  within_same n k m xs ys le same = sym (within_take n k m xs le) ∙ ap (λ (l : List X). take n (drop k l)) same ∙ within_take n k m ys le

  -- an element of a beginning
  pub slice_get-take : (n : ℕ) (xs : List X) (i : ℕ) → i < n → slice_get (take n xs) i ≡ slice_get xs i
  slice_get-take zero xs i lt = absurd (omega arith)
  slice_get-take (suc n) [] i lt = refl
  slice_get-take (suc n) (x ∷ xs) zero lt = refl
  slice_get-take (suc n) (x ∷ xs) (suc i) lt = slice_get-take n xs i (omega arith)

  -- an element of the first of two lists
  pub slice_get-append_left : (xs ys : List X) (i : ℕ) → i < length xs → slice_get (xs ++ ys) i ≡ slice_get xs i
  slice_get-append_left [] ys i lt = absurd (omega arith)
  slice_get-append_left (x ∷ xs) ys zero lt = refl
  slice_get-append_left (x ∷ xs) ys (suc i) lt = slice_get-append_left xs ys i (omega arith)

  -- an element of the second of two lists
  pub slice_get-append_right : (xs ys : List X) (i : ℕ) → length xs ≤ i → slice_get (xs ++ ys) i ≡ slice_get ys (i - length xs)
  slice_get-append_right [] ys i le = let e : i - 0 ≡ i = omega arith in rw e
  slice_get-append_right (x ∷ xs) ys zero le = absurd (omega arith)
  slice_get-append_right (x ∷ xs) ys (suc i) le = let e : suc i - suc (length xs) ≡ i - length xs = omega arith in rw e (slice_get-append_right xs ys i (omega arith))

  -- between two places of the first of two lists
  pub within_append : (n k : ℕ) (xs ys : List X) → k + n ≤ length xs → take n (drop k (xs ++ ys)) ≡ take n (drop k xs)
  within_append n k xs ys le = sym (within_take n k (length xs) (xs ++ ys) le) ∙ ap (λ (l : List X). take n (drop k l)) (take_at xs ys (length xs) refl)

  -- between two places of a rest
  pub within_drop : (n k m : ℕ) (xs : List X) → take n (drop k (drop m xs)) ≡ take n (drop (m + k) xs)
  within_drop n k m xs = ap (λ (l : List X). take n l) (drop-drop k m xs)

  -- a list is as long as another of which it has the beginning
  pub same_reach : (m : ℕ) (xs ys : List X) → take m xs ≡ take m ys → m ≤ length xs → m ≤ length ys
  same_reach m xs ys same le = omega (arith, ap length same, length-take m xs, length-take m ys)

-- the list has an element at each offset below its length
pub element_within : {X : Type 0} (xs : List X) (i : ℕ) → i < length xs → (x : X) × (slice_get xs i ≡ Some x)
element_within [] i below = absurd (omega arith)
element_within (x ∷ xs) zero below = (x, refl)
element_within (x ∷ xs) (suc i) below = element_within xs i (omega arith)

-- an element of a list of equal ones
pub slice_get-replicate : {X : Type 0} (n : ℕ) (a x : X) (i : ℕ) → slice_get (replicate n a) i ≡ Some x → x ≡ a
slice_get-replicate zero a x i is = absurd (cc is)
slice_get-replicate (suc n) a x zero is = sym (same_Some a x is)
slice_get-replicate (suc n) a x (suc i) is = slice_get-replicate n a x i is

-- two lists as long as each other are equal where the second has each element of the first
pub same_elements : {X : Type 0} (xs ys : List X) → length xs ≡ length ys → ((i : ℕ) (x : X) → slice_get xs i ≡ Some x → slice_get ys i ≡ Some x) → xs ≡ ys
same_elements [] [] same each = refl
same_elements [] (y ∷ ys) same each = absurd (omega arith)
same_elements (x ∷ xs) [] same each = absurd (omega arith)
same_elements (x ∷ xs) (y ∷ ys) same each = ap₂ (λ z zs. z ∷ zs) (sym (same_Some y x (each zero x refl))) (same_elements xs ys (omega arith) (λ i z is. each (suc i) z is))
