-- Chains: how one is walked, and what is left of chains when one slot's next one changes.
use Rattle.std.proofs.Common.{◌≡◌, ◌≢◌, ◌⊎◌, inl, inr, ℕ, ◌+◌, ◌<◌, ◌≤◌, List, [], ◌∷◌, ◌++◌, length, refl, sym, ap, ◌∙◌, subst, arith, append_assoc, append-nil, length-append, Bool, true, false}
use Rattle.std.specs.Prelude.{nat_eq, slice_index_or, ◌&&◌, ◌||◌, Option, Some, None}
use Rattle.std.specs.List.{AllByRecursion, IsDistinct, list_any}
use Rattle.std.proofs.lemmas.Bool.{cases_eq, eq-eqb, ne_eqb}
use Rattle.std.proofs.lemmas.Map.Keys.{IsDistinct-cons}
use Rattle.std.proofs.lemmas.Map.Steps.{length-le_from_distinct_below}
use Rattle.cache.specs.Chain.{IsChain, HasChain, IsAmong, NoneHolds, IsLast, IsLink}

-- ---- two chains from one slot are one

module _ (nexts : List ℕ) (capacity : ℕ) where
  pub chain_once : (from : ℕ) (xs ys : List ℕ) → IsChain nexts capacity from xs → IsChain nexts capacity from ys → xs ≡ ys
  chain_once from [] [] a b = refl
  chain_once from [] (y ∷ ys) a (is, below, rest) = absurd (omega (arith, a, is, below))
  chain_once from (x ∷ xs) [] (is, below, rest) b = absurd (omega (arith, b, is, below))
  chain_once from (x ∷ xs) (y ∷ ys) (is, below, rest) (is_too, below_too, rest_too) =
      let same : x ≡ y = sym is ∙ is_too in
      let tails : xs ≡ ys = chain_once (slice_index_or nexts x 0) xs ys rest (subst (λ (k : ℕ). IsChain nexts capacity (slice_index_or nexts k 0) ys) (sym same) rest_too) in
      cc (same, tails)

  -- from each slot of a chain on, the rest of the chain is a chain
  pub record Rest (s most : ℕ) : Type 0 where
    pub slots : List ℕ
    pub chain : IsChain nexts capacity s slots
    pub few : length slots ≤ most

  pub chain_rest : (from : ℕ) (xs : List ℕ) (s : ℕ) → IsChain nexts capacity from xs → IsAmong xs s → Rest s (length xs)
  chain_rest from [] s chain stands = absurd stands
  chain_rest from (x ∷ xs) s (is, below, rest) (inl same) = record {
    slots = x ∷ xs;
    chain = (same, below, rest);
    few = omega arith;
  }
  chain_rest from (x ∷ xs) s (is, below, rest) (inr later) =
      let r = chain_rest (slice_index_or nexts x 0) xs s rest later in
      record { slots = r.slots; chain = r.chain; few = omega (arith, r.few) }

  -- no slot stands in a chain twice
  pub chain_no_cycle : (from x : ℕ) (xs : List ℕ) → IsChain nexts capacity from (x ∷ xs) → IsAmong xs x → ⊥
  chain_no_cycle from x xs (is, below, rest) stands =
      let r = chain_rest (slice_index_or nexts x 0) xs x rest stands in
      let whole : IsChain nexts capacity x (x ∷ xs) = (refl, below, rest) in
      let same : r.slots ≡ x ∷ xs = chain_once x r.slots (x ∷ xs) r.chain whole in
      omega (arith, r.few, ap length same)

  all_apart : (x : ℕ) (xs : List ℕ) → (IsAmong xs x → ⊥) → AllByRecursion (λ y. nat_eq x y ≡ false) xs
  all_apart x [] apart = tt
  all_apart x (y ∷ ys) apart = (ne_eqb x y (λ same. apart (inl same)), all_apart x ys (λ stands. apart (inr stands)))

  pub chain_distinct : (from : ℕ) (xs : List ℕ) → IsChain nexts capacity from xs → IsDistinct nat_eq xs
  unfolding IsDistinct
  chain_distinct from [] chain = tt
  chain_distinct from (x ∷ xs) chain = IsDistinct-cons nat_eq x xs (all_apart x xs (chain_no_cycle from x xs chain)) (chain_distinct (slice_index_or nexts x 0) xs chain.2)

  -- each slot of a chain is below the capacity
  chain_below : (from : ℕ) (xs : List ℕ) → IsChain nexts capacity from xs → (q : ℕ) → list_any (nat_eq q) xs ≡ true → q < capacity
  chain_below from [] chain q any = absurd (cc any)
  chain_below from (x ∷ xs) (is, below, rest) q any = elim (cases_eq q x) [
    | inl same ↦ omega (arith, same, below)
    | inr other ↦ chain_below (slice_index_or nexts x 0) xs rest q (sym (ap (λ (b : Bool). b || list_any (nat_eq q) xs) (ne_eqb q x other)) ∙ any)
  ]

  -- so a chain has at most as many slots as the capacity
  pub chain_few : (from : ℕ) (xs : List ℕ) → IsChain nexts capacity from xs → length xs ≤ capacity
  chain_few from xs chain = length-le_from_distinct_below xs capacity (chain_distinct from xs chain) (chain_below from xs chain)

  -- a slot in the middle of a chain is below the capacity
  pub chain_middle : (from : ℕ) (xs : List ℕ) (s : ℕ) (ys : List ℕ) → IsChain nexts capacity from (xs ++ s ∷ ys) → s < capacity
  chain_middle from [] s ys (is, below, rest) = below
  chain_middle from (x ∷ xs) s ys (is, below, rest) = chain_middle (slice_index_or nexts x 0) xs s ys rest

-- ---- standing in a joined list

pub stands_left : (xs ys : List ℕ) (s : ℕ) → IsAmong xs s → IsAmong (xs ++ ys) s
stands_left [] ys s stands = absurd stands
stands_left (x ∷ xs) ys s (inl same) = inl same
stands_left (x ∷ xs) ys s (inr later) = inr (stands_left xs ys s later)

pub stands_right : (xs ys : List ℕ) (s : ℕ) → IsAmong ys s → IsAmong (xs ++ ys) s
stands_right [] ys s stands = stands
stands_right (x ∷ xs) ys s stands = inr (stands_right xs ys s stands)

pub stands_either : (xs ys : List ℕ) (s : ℕ) → IsAmong (xs ++ ys) s → IsAmong xs s ⊎ IsAmong ys s
stands_either [] ys s stands = inr stands
stands_either (x ∷ xs) ys s (inl same) = inl (inl same)
stands_either (x ∷ xs) ys s (inr later) = elim (stands_either xs ys s later) [
  | inl left ↦ inl (inr left)
  | inr right ↦ inr right
]

-- a slot of a chain stands in no other place of it
pub chain_apart_middle : (nexts : List ℕ) (capacity from : ℕ) (xs : List ℕ) (s : ℕ) (ys : List ℕ) → IsChain nexts capacity from (xs ++ s ∷ ys) → IsAmong (xs ++ ys) s → ⊥
chain_apart_middle nexts capacity from [] s ys chain stands = chain_no_cycle nexts capacity from s ys chain stands
chain_apart_middle nexts capacity from (x ∷ xs) s ys chain (inl same) = chain_no_cycle nexts capacity from x (xs ++ s ∷ ys) chain (stands_right xs (s ∷ ys) x (inl (sym same)))
chain_apart_middle nexts capacity from (x ∷ xs) s ys chain (inr later) = chain_apart_middle nexts capacity (slice_index_or nexts x 0) xs s ys chain.2 later

-- ---- a walk

-- a walk that stands at this slot: the slots that it passed don't hold the key, and the rest is a
-- chain from this slot on
pub record Walked (keys : List (ℕ × ℕ)) (nexts : List ℕ) (capacity first : ℕ) (key : ℕ × ℕ) (before : Option ℕ) (slot count : ℕ) : Type 0 where
  pub passed : List ℕ
  pub rest : List ℕ
  pub whole : IsChain nexts capacity first (passed ++ rest)
  pub chain : IsChain nexts capacity slot rest
  pub missed : NoneHolds keys key passed
  pub last : IsLast passed before
  pub many : length passed ≡ count

none_joined : (keys : List (ℕ × ℕ)) (key : ℕ × ℕ) (xs ys : List ℕ) → NoneHolds keys key xs → NoneHolds keys key ys → NoneHolds keys key (xs ++ ys)
none_joined keys key [] ys first second = second
none_joined keys key (x ∷ xs) ys first second = (first.0, none_joined keys key xs ys first.1 second)

-- keys that the test finds different aren't equal
pub key_ne : (a b : ℕ × ℕ) → (nat_eq a.0 b.0 && nat_eq a.1 b.1) ≡ false → a ≢ b
key_ne a b apart same =
    let one : nat_eq b.0 b.0 ≡ true = eq-eqb b.0 b.0 refl in
    let two : nat_eq b.1 b.1 ≡ true = eq-eqb b.1 b.1 refl in
    cc (sym apart ∙ ap (λ (x : ℕ × ℕ). nat_eq x.0 b.0 && nat_eq x.1 b.1) same, one, two)

pub key_eq : (a b : ℕ × ℕ) → (nat_eq a.0 b.0 && nat_eq a.1 b.1) ≡ true → a ≡ b
key_eq (a, p) (b, q) same = elim (cases_eq a b) [
  | inl first ↦ elim (cases_eq p q) [
    | inl second ↦ (λ i. (first i, second i))
    | inr other ↦ absurd (cc (same, ne_eqb p q other, eq-eqb a b first))
  ]
  | inr other ↦ absurd (cc (same, ne_eqb a b other))
]

module _ (keys : List (ℕ × ℕ)) (nexts : List ℕ) (capacity first : ℕ) (key : ℕ × ℕ) where
  pub walk_begins : HasChain nexts capacity first → Walked keys nexts capacity first key None first 0
  walk_begins has = record { passed = []; rest = has.0; whole = has.1; chain = has.1; missed = tt; last = refl; many = refl }

  -- where the walk comes to the chain's end, no slot of the chain holds the key
  pub walk_ends : (before : Option ℕ) (slot count : ℕ) → Walked keys nexts capacity first key before slot count → capacity ≤ slot → (slots : List ℕ) → IsChain nexts capacity first slots → NoneHolds keys key slots
  walk_ends before slot count w past slots chain = by_rest w.rest w.chain w.whole
    where
      by_rest : (rest : List ℕ) → IsChain nexts capacity slot rest → IsChain nexts capacity first (w.passed ++ rest) → NoneHolds keys key slots
      by_rest [] ended whole =
          let same : w.passed ≡ slots = sym (append-nil w.passed) ∙ chain_once nexts capacity first (w.passed ++ []) slots whole chain in
          subst (λ (l : List ℕ). NoneHolds keys key l) same w.missed
      by_rest (x ∷ xs) (is, below, rest) whole = absurd (omega (arith, past, is, below))

  -- where the walk passed as many slots as there are, no slot of the chain holds the key
  pub walk_passed : (before : Option ℕ) (slot count : ℕ) → Walked keys nexts capacity first key before slot count → capacity ≤ count → (slots : List ℕ) → IsChain nexts capacity first slots → NoneHolds keys key slots
  walk_passed before slot count w many slots chain =
      let few = chain_few nexts capacity first (w.passed ++ w.rest) w.whole in
      walk_ends before slot count w (no_more w.rest w.chain (omega (arith, few, length-append w.passed w.rest, w.many, many))) slots chain
    where
      no_more : (rest : List ℕ) → IsChain nexts capacity slot rest → length rest ≤ 0 → capacity ≤ slot
      no_more [] chain few = chain
      no_more (x ∷ xs) chain few = absurd (omega (arith, few))

  -- where the walk stands at a slot with the key, that slot is the link
  pub walk_finds : (before : Option ℕ) (slot count : ℕ) → Walked keys nexts capacity first key before slot count → slot < capacity → slice_index_or keys slot (0, 0) ≡ key → (slots : List ℕ) → IsChain nexts capacity first slots
      → IsLink keys key slots (record { before = before; slot = slot })
  walk_finds before slot count w below here slots chain = by_rest w.rest w.chain w.whole
    where
      by_rest : (rest : List ℕ) → IsChain nexts capacity slot rest → IsChain nexts capacity first (w.passed ++ rest) → IsLink keys key slots (record { before = before; slot = slot })
      by_rest [] ended whole = absurd (omega (arith, ended, below))
      by_rest (x ∷ xs) (is, low, rest) whole = record {
        front = w.passed;
        back = xs;
        slots_are = chain_once nexts capacity first slots (w.passed ++ x ∷ xs) chain whole ∙ ap (λ (k : ℕ). w.passed ++ k ∷ xs) (sym is);
        before = w.last;
        holds = here;
      }

  -- the walk goes one slot further
  pub walk_goes : (before : Option ℕ) (slot count : ℕ) → Walked keys nexts capacity first key before slot count → slot < capacity → slice_index_or keys slot (0, 0) ≢ key
      → Walked keys nexts capacity first key (Some slot) (slice_index_or nexts slot 0) (count + 1)
  walk_goes before slot count w below apart = by_rest w.rest w.chain w.whole
    where
      by_rest : (rest : List ℕ) → IsChain nexts capacity slot rest → IsChain nexts capacity first (w.passed ++ rest) → Walked keys nexts capacity first key (Some slot) (slice_index_or nexts slot 0) (count + 1)
      by_rest [] ended whole = absurd (omega (arith, ended, below))
      by_rest (x ∷ xs) chain whole =
          let here : x ≡ slot = sym chain.0 in
          let split : w.passed ++ x ∷ xs ≡ (w.passed ++ slot ∷ []) ++ xs = ap (λ (k : ℕ). w.passed ++ k ∷ xs) here ∙ sym (append_assoc w.passed (slot ∷ []) xs) in
          record {
            passed = w.passed ++ slot ∷ [];
            rest = xs;
            whole = subst (λ (l : List ℕ). IsChain nexts capacity first l) split whole;
            chain = subst (λ (k : ℕ). IsChain nexts capacity (slice_index_or nexts k 0) xs) here chain.2;
            missed = none_joined keys key w.passed (slot ∷ []) w.missed (apart, tt);
            last = (w.passed, refl);
            many = omega (arith, length-append w.passed (slot ∷ []), w.many);
          }

-- where no slot of a chain holds a key, each of them holds another
pub none_stands : (keys : List (ℕ × ℕ)) (key : ℕ × ℕ) (slots : List ℕ) (s : ℕ) → NoneHolds keys key slots → IsAmong slots s → slice_index_or keys s (0, 0) ≢ key
none_stands keys key [] s none stands = absurd stands
none_stands keys key (x ∷ xs) s none (inl same) = λ is. none.0 (ap (λ (k : ℕ). slice_index_or keys k (0, 0)) (sym same) ∙ is)
none_stands keys key (x ∷ xs) s none (inr later) = none_stands keys key xs s none.1 later

-- ---- one slot's next one changes

module _ (nexts now : List ℕ) (capacity slot : ℕ) (others : (k : ℕ) → k ≢ slot → slice_index_or now k 0 ≡ slice_index_or nexts k 0) where
  -- a chain without the slot stays as it was
  pub chain_apart : (from : ℕ) (xs : List ℕ) → (IsAmong xs slot → ⊥) → IsChain nexts capacity from xs → IsChain now capacity from xs
  chain_apart from [] apart chain = chain
  chain_apart from (x ∷ xs) apart (is, below, rest) =
      let other : x ≢ slot = λ same. apart (inl (sym same)) in
      (is, below, subst (λ (k : ℕ). IsChain now capacity k xs) (sym (others x other)) (chain_apart (slice_index_or nexts x 0) xs (λ stands. apart (inr stands)) rest))

  -- where the slot's next one is now the one after that, the old next one is out of the chain
  pub chain_unlinked : (from gone : ℕ) (xs ys : List ℕ) → slice_index_or now slot 0 ≡ slice_index_or nexts gone 0
      → IsChain nexts capacity from (xs ++ slot ∷ gone ∷ ys) → IsChain now capacity from (xs ++ slot ∷ ys)
  chain_unlinked from gone [] ys is (here, below, (there, below_gone, rest)) =
      let apart : IsAmong (gone ∷ ys) slot → ⊥ = chain_no_cycle nexts capacity from slot (gone ∷ ys) (here, below, (there, below_gone, rest)) in
      (here, below, subst (λ (k : ℕ). IsChain now capacity k ys) (sym is) (chain_apart (slice_index_or nexts gone 0) ys (λ stands. apart (inr stands)) rest))
  chain_unlinked from gone (x ∷ xs) ys is (here, below, rest) =
      let apart : IsAmong (xs ++ slot ∷ gone ∷ ys) x → ⊥ = chain_no_cycle nexts capacity from x (xs ++ slot ∷ gone ∷ ys) (here, below, rest) in
      let other : x ≢ slot = λ same. apart (stands_right xs (slot ∷ gone ∷ ys) x (inl same)) in
      (here, below, subst (λ (k : ℕ). IsChain now capacity k (xs ++ slot ∷ ys)) (sym (others x other)) (chain_unlinked (slice_index_or nexts x 0) gone xs ys is rest))
