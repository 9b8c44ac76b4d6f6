-- Elements of lists: of two joined ones, of a beginning and of a rest.
use Rattle.std.proofs.Common.{◌≡◌, ◌⊎◌, inl, inr, ℕ, zero, suc, ◌+◌, List, [], ◌∷◌, ◌++◌, length, take, drop, refl, arith}
use Rattle.std.specs.Prelude.{slice_get, Some}

-- an element of a joined list is one of the first part or of the second
pub joined_element : {X : Type 0} (xs ys : List X) (i : ℕ) (x : X) → slice_get (xs ++ ys) i ≡ Some x → (slice_get xs i ≡ Some x) ⊎ ((j : ℕ) × (i ≡ length xs + j) × (slice_get ys j ≡ Some x))
joined_element [] ys i x is = inr (i, omega arith, is)
joined_element (y ∷ xs) ys zero x is = inl is
joined_element (y ∷ xs) ys (suc i) x is = elim (joined_element xs ys i x is) [
  | inl first ↦ inl first
  | inr second ↦ inr (second.0, omega (arith, second.1), second.2)
]

-- an element of a list's beginning is one of the list
pub taken_element : {X : Type 0} (n : ℕ) (xs : List X) (i : ℕ) (x : X) → slice_get (take n xs) i ≡ Some x → slice_get xs i ≡ Some x
taken_element zero xs i x is = absurd (cc is)
taken_element (suc n) [] i x is = is
taken_element (suc n) (y ∷ xs) zero x is = is
taken_element (suc n) (y ∷ xs) (suc i) x is = taken_element n xs i x is

-- an element of what is left without the first n is the one n places later in the list
pub slice_get-drop : {X : Type 0} (n : ℕ) (xs : List X) (i : ℕ) → slice_get (drop n xs) i ≡ slice_get xs (n + i)
slice_get-drop zero xs i = let e : 0 + i ≡ i = omega arith in rw e
slice_get-drop (suc n) [] i = refl
slice_get-drop (suc n) (x ∷ xs) i = let e : suc n + i ≡ suc (n + i) = omega arith in rw e (slice_get-drop n xs i)
