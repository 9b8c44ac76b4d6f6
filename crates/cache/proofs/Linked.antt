-- The chains through a put: a slot joins the used ones, or leaves its chain, and stands then in
-- front of another.
use Rattle.std.proofs.Common.{◌≡◌, ◌≢◌, ◌⊎◌, inl, inr, ℕ, ◌+◌, ◌<◌, ◌≤◌, List, [], ◌∷◌, ◌++◌, length, refl, sym, ap, ◌∙◌, subst, arith, append_assoc}
use Rattle.std.specs.Prelude.{slice_index_or, slice_set, Option, Some, None}
use Rattle.std.proofs.lemmas.Bool.{cases_eq}
use Rattle.std.proofs.lemmas.List.{get_or-set_same, get_or-set_other, length-set}
use Rattle.cache.specs.Chain.{place_of, IsChain, IsAmong, NoneHolds, IsLast, IsLink, ChainOf, IsAt, AreLinked}
use Rattle.cache.specs.declared.slots.Link.{Link}
use Rattle.cache.proofs.Chains.{none_stands, stands_left, stands_right, stands_either, chain_apart, chain_unlinked, chain_middle, chain_apart_middle}

-- ---- finding

-- what a walk through the chain of a key's place finds for all used slots
module _ (keys : List (ℕ × ℕ)) (nexts firsts : List ℕ) (capacity places used : ℕ) (within : used ≤ capacity) (are : AreLinked keys nexts firsts capacity places used capacity) (key : ℕ × ℕ) (home : ℕ) (home_is : place_of places key ≡ home) (below : home < places) where
  pub nowhere : ((slots : List ℕ) → IsChain nexts capacity (slice_index_or firsts home 0) slots → NoneHolds keys key slots) → (s : ℕ) → s < used → slice_index_or keys s (0, 0) ≢ key
  nowhere none s low is =
      let chain = are.chains home below in
      none_stands keys key chain.slots s (none chain.slots chain.chain) (chain.all s (low, (λ same. omega (arith, low, same, within)), ap (place_of places) is ∙ home_is)) is

  pub somewhere : (link : Link) → ((slots : List ℕ) → IsChain nexts capacity (slice_index_or firsts home 0) slots → IsLink keys key slots link) → (link.slot < used) × (slice_index_or keys link.slot (0, 0) ≡ key)
  somewhere link found =
      let chain = are.chains home below in
      let l = found chain.slots chain.chain in
      ((chain.only link.slot (subst (λ (xs : List ℕ). IsAmong xs link.slot) (sym l.slots_are) (stands_right l.front (link.slot ∷ l.back) link.slot (inl refl)))).0, l.holds)

-- the same chain by other names
pub chain_as : (nexts other : List ℕ) (n m from begin : ℕ) (slots : List ℕ) → other ≡ nexts → m ≡ n → begin ≡ from → IsChain nexts n from slots → IsChain other m begin slots
chain_as nexts other n m from begin slots nexts_are n_is from_is chain =
    subst (λ (l : List ℕ). IsChain l m begin slots) (sym nexts_are)
    (subst (λ (k : ℕ). IsChain nexts k begin slots) (sym n_is)
    (subst (λ (k : ℕ). IsChain nexts n k slots) (sym from_is) chain))

-- ---- a slot joins the used ones

pub linked_more : (keys : List (ℕ × ℕ)) (nexts firsts : List ℕ) (capacity places used : ℕ) → used < capacity → AreLinked keys nexts firsts capacity places used capacity → AreLinked keys nexts firsts capacity places (used + 1) used
linked_more keys nexts firsts capacity places used room are = record {
  chains = λ place below. let chain = are.chains place below in record {
    slots = chain.slots;
    chain = chain.chain;
    only = λ s stands. let at = chain.only s stands in (omega (arith, at.0), λ same. omega (arith, same, at.0), at.2);
    all = λ s at. chain.all s (other s at.0 at.1, λ same. omega (arith, same, at.0, room), at.2);
  };
  once = λ s u low low_too apart apart_too same. are.once s u (other s low apart) (other u low_too apart_too) (λ is. omega (arith, is, low, room)) (λ is. omega (arith, is, low_too, room)) same;
}
  where
    other : (s : ℕ) → s < used + 1 → s ≢ used → s < used
    other s low apart = elim (cases_eq s used) [
      | inl same ↦ absurd (apart same)
      | inr not ↦ omega (arith, low, not)
    ]

-- ---- a slot leaves its chain

module _ (keys : List (ℕ × ℕ)) (nexts firsts : List ℕ) (capacity places used : ℕ) (within : used ≤ capacity) (are : AreLinked keys nexts firsts capacity places used capacity) (slot : ℕ) (low : slot < used) (home : ℕ) (home_is : place_of places (slice_index_or keys slot (0, 0)) ≡ home) (below : home < places) where
  unlinked_once : (s u : ℕ) → s < used → u < used → s ≢ slot → u ≢ slot → slice_index_or keys s (0, 0) ≡ slice_index_or keys u (0, 0) → s ≡ u
  unlinked_once s u low_s low_u apart apart_too same = are.once s u low_s low_u (λ is. omega (arith, is, low_s, within)) (λ is. omega (arith, is, low_u, within)) same

  -- a chain of a place where the slot doesn't stand is one without the slot
  without : (now : List ℕ) (place from : ℕ) → place ≢ home → ChainOf (IsAt keys used capacity places place) now capacity from → ChainOf (IsAt keys used slot places place) now capacity from
  without now place from apart chain = record {
    slots = chain.slots;
    chain = chain.chain;
    only = λ s stands. let at = chain.only s stands in (at.0, (λ same. apart (sym at.2 ∙ ap (λ (k : ℕ). place_of places (slice_index_or keys k (0, 0))) same ∙ home_is)), at.2);
    all = λ s at. chain.all s (at.0, (λ same. omega (arith, same, at.0, within)), at.2);
  }

  -- the chain from which the slot is taken
  taken : (now : List ℕ) (from : ℕ) (front back : List ℕ) → (are.chains home below).slots ≡ front ++ slot ∷ back → IsChain now capacity from (front ++ back) → ChainOf (IsAt keys used slot places home) now capacity from
  taken now from front back is chain =
      let whole = are.chains home below in
      let whole_chain : IsChain nexts capacity (slice_index_or firsts home 0) (front ++ slot ∷ back) = subst (λ (l : List ℕ). IsChain nexts capacity (slice_index_or firsts home 0) l) is whole.chain in
      record {
        slots = front ++ back;
        chain = chain;
        only = λ s stands. let at = whole.only s (subst (λ (l : List ℕ). IsAmong l s) (sym is) (more s (stands_either front back s stands))) in (at.0, (λ same. chain_apart_middle nexts capacity (slice_index_or firsts home 0) front slot back whole_chain (subst (λ (k : ℕ). IsAmong (front ++ back) k) same stands)), at.2);
        all = λ s at. less s at.1 (stands_either front (slot ∷ back) s (subst (λ (l : List ℕ). IsAmong l s) is (whole.all s (at.0, (λ same. omega (arith, same, at.0, within)), at.2))));
      }
    where
      more : (s : ℕ) → IsAmong front s ⊎ IsAmong back s → IsAmong (front ++ slot ∷ back) s
      more s (inl left) = stands_left front (slot ∷ back) s left
      more s (inr right) = stands_right front (slot ∷ back) s (inr right)

      less : (s : ℕ) → s ≢ slot → IsAmong front s ⊎ IsAmong (slot ∷ back) s → IsAmong (front ++ back) s
      less s other (inl left) = stands_left front back s left
      less s other (inr (inl same)) = absurd (other same)
      less s other (inr (inr right)) = stands_right front back s right

  -- the slot was the first of its chain
  unlinked_first : (back : List ℕ) → length firsts ≡ places → (are.chains home below).slots ≡ slot ∷ back → AreLinked keys nexts (slice_set firsts home (slice_index_or nexts slot 0)) capacity places used slot
  unlinked_first back size is = record {
    chains = λ place low_place. elim (cases_eq place home) [
      | inl same ↦ subst (λ (p : ℕ). ChainOf (IsAt keys used slot places p) nexts capacity (slice_index_or now p 0)) (sym same) at_home
      | inr other ↦ without nexts place (slice_index_or now place 0) other (subst (λ (k : ℕ). ChainOf (IsAt keys used capacity places place) nexts capacity k) (sym (get_or-set_other firsts home place (slice_index_or nexts slot 0) 0 other)) (are.chains place low_place))
    ];
    once = unlinked_once;
  }
    where
      now : List ℕ
      now = slice_set firsts home (slice_index_or nexts slot 0)

      at_home : ChainOf (IsAt keys used slot places home) nexts capacity (slice_index_or now home 0)
      at_home =
          let whole : IsChain nexts capacity (slice_index_or firsts home 0) (slot ∷ back) = subst (λ (l : List ℕ). IsChain nexts capacity (slice_index_or firsts home 0) l) is (are.chains home below).chain in
          taken nexts (slice_index_or now home 0) [] back is (subst (λ (k : ℕ). IsChain nexts capacity k back) (sym (get_or-set_same firsts home (slice_index_or nexts slot 0) 0 (omega (arith, size, below)))) whole.2)

  -- the slot stood after this one in its chain
  unlinked_after : (before : ℕ) (front back : List ℕ) → length nexts ≡ capacity → (are.chains home below).slots ≡ (front ++ before ∷ []) ++ slot ∷ back → AreLinked keys (slice_set nexts before (slice_index_or nexts slot 0)) firsts capacity places used slot
  unlinked_after before front back size is = record {
    chains = λ place low_place. elim (cases_eq place home) [
      | inl same ↦ subst (λ (p : ℕ). ChainOf (IsAt keys used slot places p) now capacity (slice_index_or firsts p 0)) (sym same) (taken now (slice_index_or firsts home 0) (front ++ before ∷ []) back is chain_now)
      | inr other ↦ without now place (slice_index_or firsts place 0) other (stays place low_place other)
    ];
    once = unlinked_once;
  }
    where
      now : List ℕ
      now = slice_set nexts before (slice_index_or nexts slot 0)

      others : (k : ℕ) → k ≢ before → slice_index_or now k 0 ≡ slice_index_or nexts k 0
      others k other = get_or-set_other nexts before k (slice_index_or nexts slot 0) 0 other

      split : (are.chains home below).slots ≡ front ++ before ∷ slot ∷ back
      split = is ∙ append_assoc front (before ∷ []) (slot ∷ back)

      whole : IsChain nexts capacity (slice_index_or firsts home 0) (front ++ before ∷ slot ∷ back)
      whole = subst (λ (l : List ℕ). IsChain nexts capacity (slice_index_or firsts home 0) l) split (are.chains home below).chain

      before_low : before < capacity
      before_low = chain_middle nexts capacity (slice_index_or firsts home 0) front before (slot ∷ back) whole

      chain_now : IsChain now capacity (slice_index_or firsts home 0) ((front ++ before ∷ []) ++ back)
      chain_now =
          subst (λ (l : List ℕ). IsChain now capacity (slice_index_or firsts home 0) l) (sym (append_assoc front (before ∷ []) back))
          (chain_unlinked nexts now capacity before others (slice_index_or firsts home 0) slot front back (get_or-set_same nexts before (slice_index_or nexts slot 0) 0 (omega (arith, size, before_low))) whole)

      before_home : place_of places (slice_index_or keys before (0, 0)) ≡ home
      before_home = ((are.chains home below).only before (subst (λ (l : List ℕ). IsAmong l before) (sym split) (stands_right front (before ∷ slot ∷ back) before (inl refl)))).2

      stays : (place : ℕ) → (low_place : place < places) → place ≢ home → ChainOf (IsAt keys used capacity places place) now capacity (slice_index_or firsts place 0)
      stays place low_place other =
          let chain = are.chains place low_place in
          record {
            slots = chain.slots;
            chain = chain_apart nexts now capacity before others (slice_index_or firsts place 0) chain.slots (λ stands. other (sym (chain.only before stands).2 ∙ before_home)) chain.chain;
            only = chain.only;
            all = chain.all;
          }

  -- the link that a walk for its key found is the slot's
  module _ (link : Link) (key : ℕ × ℕ) (key_is : slice_index_or keys slot (0, 0) ≡ key) (found : (slots : List ℕ) → IsChain nexts capacity (slice_index_or firsts home 0) slots → IsLink keys key slots link) where
    l : IsLink keys key (are.chains home below).slots link
    l = found (are.chains home below).slots (are.chains home below).chain

    the_slot : link.slot ≡ slot
    the_slot =
        let stands : IsAmong (are.chains home below).slots link.slot = subst (λ (xs : List ℕ). IsAmong xs link.slot) (sym l.slots_are) (stands_right l.front (link.slot ∷ l.back) link.slot (inl refl)) in
        let at = (are.chains home below).only link.slot stands in
        are.once link.slot slot at.0 low (λ is. omega (arith, is, at.0, within)) (λ is. omega (arith, is, low, within)) (l.holds ∙ sym key_is)

    slots_are : (front : List ℕ) → l.front ≡ front → (are.chains home below).slots ≡ front ++ slot ∷ l.back
    slots_are front is = l.slots_are ∙ ap (λ (k : ℕ). l.front ++ k ∷ l.back) the_slot ∙ ap (λ (xs : List ℕ). xs ++ slot ∷ l.back) is

    pub unlinked_none : link.before ≡ None → length firsts ≡ places → AreLinked keys nexts (slice_set firsts home (slice_index_or nexts slot 0)) capacity (length (slice_set firsts home (slice_index_or nexts slot 0))) used slot
    unlinked_none is size =
        let front_is : l.front ≡ [] = subst (λ (o : Option ℕ). IsLast l.front o) is l.before in
        subst (λ (n : ℕ). AreLinked keys nexts (slice_set firsts home (slice_index_or nexts slot 0)) capacity n used slot) (sym (length-set firsts home (slice_index_or nexts slot 0) ∙ size))
        (unlinked_first l.back size (slots_are [] front_is))

    pub unlinked_some : (before : ℕ) → link.before ≡ Some before → length nexts ≡ capacity → AreLinked keys (slice_set nexts before (slice_index_or nexts slot 0)) firsts capacity places used slot
    unlinked_some before is size =
        let front_is : (front : List ℕ) × (l.front ≡ front ++ before ∷ []) = subst (λ (o : Option ℕ). IsLast l.front o) is l.before in
        unlinked_after before front_is.0 l.back size (slots_are (front_is.0 ++ before ∷ []) front_is.1)

    -- the slot before it in the chain is below the capacity
    pub before_below : (before : ℕ) → link.before ≡ Some before → before < capacity
    before_below before is =
        let front_is : (front : List ℕ) × (l.front ≡ front ++ before ∷ []) = subst (λ (o : Option ℕ). IsLast l.front o) is l.before in
        let split = slots_are (front_is.0 ++ before ∷ []) front_is.1 ∙ append_assoc front_is.0 (before ∷ []) (slot ∷ l.back) in
        chain_middle nexts capacity (slice_index_or firsts home 0) front_is.0 before (slot ∷ l.back) (subst (λ (xs : List ℕ). IsChain nexts capacity (slice_index_or firsts home 0) xs) split (are.chains home below).chain)

-- ---- a slot stands in front of the chain of a key

module _ (keys : List (ℕ × ℕ)) (nexts firsts : List ℕ) (capacity places used slot : ℕ) (are : AreLinked keys nexts firsts capacity places used slot) (key : ℕ × ℕ) (home : ℕ) (home_is : place_of places key ≡ home) (below : home < places) (low : slot < used) (within : used ≤ capacity) (keys_size : length keys ≡ capacity) (nexts_size : length nexts ≡ capacity) (firsts_size : length firsts ≡ places) (absent : (s : ℕ) → s < used → s ≢ slot → slice_index_or keys s (0, 0) ≢ key) where
  key_here : slice_index_or (slice_set keys slot key) slot (0, 0) ≡ key
  key_here = get_or-set_same keys slot key (0, 0) (omega (arith, keys_size, low, within))

  key_other : (s : ℕ) → s ≢ slot → slice_index_or (slice_set keys slot key) s (0, 0) ≡ slice_index_or keys s (0, 0)
  key_other s other = get_or-set_other keys slot s key (0, 0) other

  others : (k : ℕ) → k ≢ slot → slice_index_or (slice_set nexts slot (slice_index_or firsts home 0)) k 0 ≡ slice_index_or nexts k 0
  others k other = get_or-set_other nexts slot k (slice_index_or firsts home 0) 0 other

  stays : (place : ℕ) → (low_place : place < places) → IsChain (slice_set nexts slot (slice_index_or firsts home 0)) capacity (slice_index_or firsts place 0) (are.chains place low_place).slots
  stays place low_place =
      let chain = are.chains place low_place in
      chain_apart nexts (slice_set nexts slot (slice_index_or firsts home 0)) capacity slot others (slice_index_or firsts place 0) chain.slots (λ stands. (chain.only slot stands).1 refl) chain.chain

  -- each other slot stands at the place where it stood
  still : (place s : ℕ) → IsAt keys used slot places place s → IsAt (slice_set keys slot key) used capacity places place s
  still place s at = (at.0, (λ same. omega (arith, same, at.0, within)), ap (place_of places) (key_other s at.1) ∙ at.2)

  was : (place s : ℕ) → s ≢ slot → IsAt (slice_set keys slot key) used capacity places place s → IsAt keys used slot places place s
  was place s other at = (at.0, other, sym (ap (place_of places) (key_other s other)) ∙ at.2)

  at_home : ChainOf (IsAt (slice_set keys slot key) used capacity places home) (slice_set nexts slot (slice_index_or firsts home 0)) capacity (slice_index_or (slice_set firsts home slot) home 0)
  at_home =
      let chain = are.chains home below in
      let first : slice_index_or (slice_set firsts home slot) home 0 ≡ slot = get_or-set_same firsts home slot 0 (omega (arith, firsts_size, below)) in
      let next : slice_index_or (slice_set nexts slot (slice_index_or firsts home 0)) slot 0 ≡ slice_index_or firsts home 0 = get_or-set_same nexts slot (slice_index_or firsts home 0) 0 (omega (arith, nexts_size, low, within)) in
      record {
        slots = slot ∷ chain.slots;
        chain = (first, omega (arith, low, within), subst (λ (k : ℕ). IsChain (slice_set nexts slot (slice_index_or firsts home 0)) capacity k chain.slots) (sym next) (stays home below));
        only = only;
        all = λ s at. elim (cases_eq s slot) [
          | inl same ↦ inl same
          | inr other ↦ inr (chain.all s (was home s other at))
        ];
      }
    where
      only : (s : ℕ) → IsAmong (slot ∷ (are.chains home below).slots) s → IsAt (slice_set keys slot key) used capacity places home s
      only s (inl same) = (omega (arith, same, low), (λ is. omega (arith, is, same, low, within)), ap (λ (k : ℕ). place_of places (slice_index_or (slice_set keys slot key) k (0, 0))) same ∙ ap (place_of places) key_here ∙ home_is)
      only s (inr stands) = still home s ((are.chains home below).only s stands)

  elsewhere : (place : ℕ) → place < places → place ≢ home → ChainOf (IsAt (slice_set keys slot key) used capacity places place) (slice_set nexts slot (slice_index_or firsts home 0)) capacity (slice_index_or (slice_set firsts home slot) place 0)
  elsewhere place low_place other =
      let chain = are.chains place low_place in
      record {
        slots = chain.slots;
        chain = subst (λ (k : ℕ). IsChain (slice_set nexts slot (slice_index_or firsts home 0)) capacity k chain.slots) (sym (get_or-set_other firsts home place slot 0 other)) (stays place low_place);
        only = λ s stands. still place s (chain.only s stands);
        all = λ s at. elim (cases_eq s slot) [
          | inl same ↦ absurd (other (sym at.2 ∙ ap (λ (k : ℕ). place_of places (slice_index_or (slice_set keys slot key) k (0, 0))) same ∙ ap (place_of places) key_here ∙ home_is))
          | inr apart ↦ chain.all s (was place s apart at)
        ];
      }

  once : (s u : ℕ) → s < used → u < used → slice_index_or (slice_set keys slot key) s (0, 0) ≡ slice_index_or (slice_set keys slot key) u (0, 0) → s ≡ u
  once s u low_s low_u same = elim (cases_eq s slot) [
    | inl here ↦ elim (cases_eq u slot) [
      | inl there ↦ here ∙ sym there
      | inr other ↦ absurd (absent u low_u other (sym (key_other u other) ∙ sym same ∙ ap (λ (k : ℕ). slice_index_or (slice_set keys slot key) k (0, 0)) here ∙ key_here))
    ]
    | inr apart ↦ elim (cases_eq u slot) [
      | inl there ↦ absurd (absent s low_s apart (sym (key_other s apart) ∙ same ∙ ap (λ (k : ℕ). slice_index_or (slice_set keys slot key) k (0, 0)) there ∙ key_here))
      | inr other ↦ are.once s u low_s low_u apart other (sym (key_other s apart) ∙ same ∙ key_other u other)
    ]
  ]

  linked : AreLinked (slice_set keys slot key) (slice_set nexts slot (slice_index_or firsts home 0)) (slice_set firsts home slot) capacity places used capacity
  linked = record {
    chains = λ place low_place. elim (cases_eq place home) [
      | inl same ↦ subst (λ (p : ℕ). ChainOf (IsAt (slice_set keys slot key) used capacity places p) (slice_set nexts slot (slice_index_or firsts home 0)) capacity (slice_index_or (slice_set firsts home slot) p 0)) (sym same) at_home
      | inr other ↦ elsewhere place low_place other
    ];
    once = λ s u low_s low_u apart apart_too same. once s u low_s low_u same;
  }

  -- in the words of the table: the numbers of slots and of places are the lengths of the lists
  pub linked_again : AreLinked (slice_set keys slot key) (slice_set nexts slot (slice_index_or firsts home 0)) (slice_set firsts home slot) (length (slice_set keys slot key)) (length (slice_set firsts home slot)) used (length (slice_set keys slot key))
  linked_again =
      subst (λ (n : ℕ). AreLinked (slice_set keys slot key) (slice_set nexts slot (slice_index_or firsts home 0)) (slice_set firsts home slot) n (length (slice_set firsts home slot)) used n) (sym (length-set keys slot key ∙ keys_size))
      (subst (λ (n : ℕ). AreLinked (slice_set keys slot key) (slice_set nexts slot (slice_index_or firsts home 0)) (slice_set firsts home slot) capacity n used capacity) (sym (length-set firsts home slot ∙ firsts_size)) linked)
