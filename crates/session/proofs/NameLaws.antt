-- The names of a session, which are in order.
use Rattle.std.proofs.Common.{◌≡◌, ◌≢◌, ℕ, zero, suc, ◌+◌, ◌-◌, ◌<◌, ◌≤◌, List, [], ◌∷◌, length, get_or, refl, sym, subst, arith, true, false, inl, inr, Result, Ok, Err}
use Rattle.std.specs.Prelude.{nat_eq, ◌||◌, is_ok, IfErr, OnOk}
use Rattle.std.specs.List.{insert}
use Rattle.std.specs.List.Sorted.{IsBinarySearchResult, IsNonDecreasing, IsStrictlyIncreasing}
use Rattle.std.specs.Ordering.{nat_cmp}
use Rattle.std.specs.Result.{MatchResult}
use Rattle.std.proofs.lemmas.Bool.{cases_lt}
use Rattle.std.proofs.lemmas.Bool.Decides.{nat_tests}
use Rattle.std.proofs.lemmas.List.{get_or_default}
use Rattle.std.proofs.lemmas.List.Sorted.{searched, IsNonDecreasingBy-from_all_adjacent}
use Rattle.std.proofs.lemmas.List.Edits.{length-insert, get_or-insert_below, get_or-insert_at, get_or-insert_above}
use Rattle.session.specs.Calls.{is_given, with_name, IsPlaceOf}

-- a name that is there is found
has_given : (names : List ℕ) (name i : ℕ) → i < length names → get_or names i 0 ≡ name → is_given names name ≡ true
has_given [] name i lt is = absurd (omega (arith, lt))
has_given (n ∷ names) name zero lt is = grind (arith, nat_tests, is)
has_given (n ∷ names) name (suc i) lt is = grind (arith, nat_tests, has_given names name i (omega (arith, lt)) is)

-- a name that is none of them isn't found
has_not : (names : List ℕ) (name : ℕ) → ((k : ℕ) → k < length names → get_or names k 0 ≢ name) → is_given names name ≡ false
has_not [] name none = refl
has_not (n ∷ names) name none = grind (arith, nat_tests, none 0 (omega arith), has_not names name (λ k lt. none (suc k) (omega (arith, lt))))

-- a name that is there stays where it is
with_given : (names : List ℕ) (name i : ℕ) → i < length names → get_or names i 0 ≡ name → ((k : ℕ) → k < i → get_or names k 0 ≤ name) → with_name name names ≡ names
with_given [] name i lt is below = absurd (omega (arith, lt))
with_given (n ∷ names) name zero lt is below = grind (arith, nat_tests, is)
with_given (n ∷ names) name (suc i) lt is below = grind (arith, nat_tests, below 0 (omega arith), with_given names name i (omega (arith, lt)) is (λ k less. below (suc k) (omega (arith, less))))

-- a new name goes between those below it and those above
with_new : (names : List ℕ) (name i : ℕ) → i ≤ length names → ((k : ℕ) → k < i → get_or names k 0 < name) → ((k : ℕ) → i ≤ k → k < length names → name < get_or names k 0) → with_name name names ≡ insert names i name
with_new [] name zero le below above = refl
with_new [] name (suc i) le below above = absurd (omega (arith, le))
with_new (n ∷ names) name zero le below above = grind (arith, nat_tests, above 0 (omega arith) (omega arith))
with_new (n ∷ names) name (suc i) le below above =
    grind (arith, nat_tests, below 0 (omega arith), with_new names name i (omega (arith, le)) (λ k less. below (suc k) (omega (arith, less))) (λ k more lt. above (suc k) (omega (arith, more)) (omega (arith, lt))))

-- then the new name is given, and so is each name that was
pub given_with : (names : List ℕ) (name asked : ℕ) → is_given (with_name name names) asked ≡ (nat_eq name asked || is_given names asked)
given_with [] name asked = refl
given_with (n ∷ names) name asked = grind (arith, nat_tests, given_with names name asked)

-- ---- what a search of them finds

-- no name is below one before it
in_order : (names : List ℕ) → IsStrictlyIncreasing names → IsNonDecreasing names
in_order names rise = IsNonDecreasingBy-from_all_adjacent (λ n. n) names (λ k d lt. omega (arith, rise k lt, get_or_default names k d 0 (omega (arith, lt)), get_or_default names (k + 1) d 0 lt))

-- the names rise with a new one in its place
rise_with : (names : List ℕ) (name i : ℕ) → IsStrictlyIncreasing names → i ≤ length names → ((k : ℕ) → k < i → get_or names k 0 < name) → ((k : ℕ) → i ≤ k → k < length names → name < get_or names k 0) → IsStrictlyIncreasing (insert names i name)
rise_with names name i rise le below above k lt =
    let new = insert names i name in
    let more = length-insert names i name le in
    let here : (j : ℕ) → j ≡ i → get_or new j 0 ≡ name = λ j is. rw is (get_or-insert_at names i name 0 le) in
    let before : (j : ℕ) → j < i → get_or new j 0 ≡ get_or names j 0 = λ j less. get_or-insert_below names i name 0 j less le in
    let after : (j : ℕ) → i < j → get_or new j 0 ≡ get_or names (j - 1) 0 = λ j less. subst (λ q. get_or new q 0 ≡ get_or names (j - 1) 0) {x = j - 1 + 1} (omega arith) (get_or-insert_above names i name 0 (j - 1) (omega arith) le) in
    grind (arith, before k, here k, after k, before (k + 1), here (k + 1), after (k + 1), rise k, rise (k - 1), below k, above k)

module _ (names : List ℕ) (rise : IsStrictlyIncreasing names) (name : ℕ) where
  order : IsNonDecreasing names
  order = in_order names rise

  -- whether the name is one of them
  pub given_found : (r : Result ℕ ℕ) → IsBinarySearchResult (λ n. nat_cmp n name) names r → is_ok r ≡ is_given names name
  given_found r position = by_result r (searched names name r position (λ i j le lt. order i j 0 le lt))
    where
      by_result : (r : Result ℕ ℕ) → MatchResult r (λ i. (i < length names) × (get_or names i 0 ≡ name)) (λ i. (i ≤ length names) × ((k : ℕ) → k < i → get_or names k 0 < name) × ((k : ℕ) → i ≤ k → k < length names → name < get_or names k 0)) → is_ok r ≡ is_given names name
      by_result (Ok i) (lt, is) = sym (has_given names name i lt is)
      by_result (Err i) (le, below, above) = sym (has_not names name (λ k lt same. elim (cases_lt k i) [
        | inl less ↦ omega (arith, below k less, same)
        | inr more ↦ omega (arith, above k more lt, same)
      ]))

  -- a name that is there is there once
  pub there_found : (r : Result ℕ ℕ) → IsBinarySearchResult (λ n. nat_cmp n name) names r → OnOk r (with_name name names ≡ names)
  there_found (Err i) position = tt
  there_found (Ok i) position =
      let (lt, is) = searched names name (Ok i) position (λ i j le lt. order i j 0 le lt) in
      with_given names name i lt is (λ k less. omega (arith, order k i 0 (omega (arith, less)) lt, is))

  -- a name that isn't there has its place
  pub place_found : (r : Result ℕ ℕ) → IsBinarySearchResult (λ n. nat_cmp n name) names r → IfErr r (IsPlaceOf names name)
  place_found (Ok i) position = tt
  place_found (Err i) position =
      let (le, below, above) = searched names name (Err i) position (λ i j le lt. order i j 0 le lt) in
      record {
        within = le;
        is = with_new names name i le below above;
        order = rise_with names name i rise le below above;
      }
