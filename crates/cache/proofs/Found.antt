-- What the used slots' keys mean for the finite map.
use Rattle.std.proofs.Common.{◌≡◌, ◌≢◌, ◌⊎◌, inl, inr, ℕ, zero, suc, ◌+◌, ◌*◌, ◌<◌, ◌≤◌, List, [], ◌∷◌, length, take, drop, refl, sym, ap, ◌∙◌, arith, true, false}
use Rattle.std.specs.Prelude.{slice_index_or, Some, None}
use Rattle.std.specs.Map.{lookup}
use Rattle.std.proofs.lemmas.Bool.{cases_eq, cond-true, cond-false, eq-eqb, ne_eqb}
use Rattle.std.proofs.lemmas.List.{drop-drop}
use Rattle.cache.specs.CacheState.{same_key}
use Rattle.cache.specs.Slots.{page_of_slot, pages_in}

same_key_ne : (a b : ℕ × ℕ) → b ≢ a → same_key a b ≡ false
same_key_ne (a, p) (b, q) apart = elim (cases_eq a b) [
  | inl first ↦ elim (cases_eq p q) [
    | inl second ↦ absurd (apart (λ i. (sym first i, sym second i)))
    | inr other ↦ cc (eq-eqb a b first, ne_eqb p q other)
  ]
  | inr other ↦ cc (ne_eqb a b other)
]

same_key_eq : (a b : ℕ × ℕ) → b ≡ a → same_key a b ≡ true
same_key_eq a b same = cc (eq-eqb a.0 b.0 (sym (ap (λ (k : ℕ × ℕ). k.0) same)), eq-eqb a.1 b.1 (sym (ap (λ (k : ℕ × ℕ). k.1) same)))

-- two keys are the same or not
pub either_key : (a b : ℕ × ℕ) → (a ≡ b) ⊎ (a ≢ b)
either_key (a, p) (b, q) = elim (cases_eq a b) [
  | inl first ↦ elim (cases_eq p q) [
    | inl second ↦ inl (λ i. (first i, second i))
    | inr other ↦ inr (λ same. other (ap (λ (k : ℕ × ℕ). k.1) same))
  ]
  | inr other ↦ inr (λ same. other (ap (λ (k : ℕ × ℕ). k.0) same))
]

-- the map has as many pages as there are used slots
pub pages_many : (n P : ℕ) (keys : List (ℕ × ℕ)) (bytes : List ℕ) → n ≤ length keys → length (pages_in n P keys bytes) ≡ n
pages_many zero P keys bytes within = refl
pages_many (suc n) P [] bytes within = absurd (omega (arith, within))
pages_many (suc n) P (k ∷ keys) bytes within = ap (λ (m : ℕ). suc m) (pages_many n P keys (drop P bytes) (omega (arith, within)))

-- where no used slot has a key, nothing is held under it
pub lookup_none : (n P : ℕ) (keys : List (ℕ × ℕ)) (bytes : List ℕ) (key : ℕ × ℕ) → ((s : ℕ) → s < n → slice_index_or keys s (0, 0) ≢ key) → lookup (same_key key) (pages_in n P keys bytes) ≡ None
lookup_none zero P keys bytes key apart = refl
lookup_none (suc n) P [] bytes key apart = refl
lookup_none (suc n) P (k ∷ keys) bytes key apart =
    let rest = lookup (same_key key) (pages_in n P keys (drop P bytes)) in
    cond-false (same_key key k) (Some (take P bytes)) rest (same_key_ne key k (apart 0 (omega arith)))
    ∙ lookup_none n P keys (drop P bytes) key (λ s below. apart (suc s) (omega (arith, below)))

-- the first slot that has a key holds its page
lookup_first : (n P : ℕ) (keys : List (ℕ × ℕ)) (bytes : List ℕ) (key : ℕ × ℕ) (s : ℕ) → s < n → n ≤ length keys → slice_index_or keys s (0, 0) ≡ key → ((u : ℕ) → u < s → slice_index_or keys u (0, 0) ≢ key)
    → lookup (same_key key) (pages_in n P keys bytes) ≡ Some (page_of_slot P bytes s)
lookup_first zero P keys bytes key s below many here apart = absurd (omega (arith, below))
lookup_first (suc n) P [] bytes key s below many here apart = absurd (omega (arith, many))
lookup_first (suc n) P (k ∷ keys) bytes key zero below many here apart =
    let start : 0 * P ≡ 0 = omega arith in
    cond-true (same_key key k) (Some (take P bytes)) (lookup (same_key key) (pages_in n P keys (drop P bytes))) (same_key_eq key k here)
    ∙ ap (λ (j : ℕ). Some (take P (drop j bytes))) (sym start)
lookup_first (suc n) P (k ∷ keys) bytes key (suc s) below many here apart =
    let further : P + s * P ≡ suc s * P = omega arith in
    cond-false (same_key key k) (Some (take P bytes)) (lookup (same_key key) (pages_in n P keys (drop P bytes))) (same_key_ne key k (apart 0 (omega arith)))
    ∙ lookup_first n P keys (drop P bytes) key s (omega (arith, below)) (omega (arith, many)) here (λ u less. apart (suc u) (omega (arith, less)))
    ∙ ap (λ (l : List ℕ). Some (take P l)) (drop-drop (s * P) P bytes ∙ ap (λ (j : ℕ). drop j bytes) further)

-- no two of the first slots have the same key
abbrev pub IsOnce : (n : ℕ) → List (ℕ × ℕ) → Type 0
IsOnce n keys = (s u : ℕ) → s < n → u < n → slice_index_or keys s (0, 0) ≡ slice_index_or keys u (0, 0) → s ≡ u

-- so each slot that has a key holds its page
pub lookup_some : (n P : ℕ) (keys : List (ℕ × ℕ)) (bytes : List ℕ) (key : ℕ × ℕ) (s : ℕ) → IsOnce n keys → s < n → n ≤ length keys → slice_index_or keys s (0, 0) ≡ key
    → lookup (same_key key) (pages_in n P keys bytes) ≡ Some (page_of_slot P bytes s)
lookup_some n P keys bytes key s once below many here =
    lookup_first n P keys bytes key s below many here (λ u less is. let same : u ≡ s = once u s (omega (arith, less, below)) below (is ∙ sym here) in omega (arith, same, less))

-- one of the first slots has a key, or none does
pub record Has (n : ℕ) (keys : List (ℕ × ℕ)) (key : ℕ × ℕ) : Type 0 where
  pub slot : ℕ
  pub below : slot < n
  pub here : slice_index_or keys slot (0, 0) ≡ key

pub has_or_not : (n : ℕ) (keys : List (ℕ × ℕ)) (key : ℕ × ℕ) → Has n keys key ⊎ ((s : ℕ) → s < n → slice_index_or keys s (0, 0) ≢ key)
has_or_not zero keys key = inr (λ s below. absurd (omega (arith, below)))
has_or_not (suc n) keys key = elim (either_key (slice_index_or keys n (0, 0)) key) [
  | inl here ↦ inl (record { slot = n; below = omega arith; here = here })
  | inr apart ↦ elim (has_or_not n keys key) [
    | inl has ↦ inl (record { slot = has.slot; below = omega (arith, has.below); here = has.here })
    | inr none ↦ inr (λ s below. elim (cases_eq s n) [
      | inl last ↦ λ is. apart (ap (λ (k : ℕ). slice_index_or keys k (0, 0)) (sym last) ∙ is)
      | inr other ↦ none s (omega (arith, below, other))
    ])
  ]
]

-- a slot got a page under a key; the other slots stayed as they were
pub record Changes (n m P : ℕ) (keys later : List (ℕ × ℕ)) (bytes now : List ℕ) (slot : ℕ) (key : ℕ × ℕ) (page : List ℕ) : Type 0 where
  pub within : n ≤ length keys
  pub later_within : m ≤ length later
  pub once : IsOnce n keys
  pub later_once : IsOnce m later
  pub taken : slot < m
  pub here : slice_index_or later slot (0, 0) ≡ key
  pub page_is : page_of_slot P now slot ≡ page
  pub stays : (s : ℕ) → s < n → s ≢ slot → s < m
  pub was : (s : ℕ) → s < m → s ≢ slot → s < n
  pub keys_stay : (s : ℕ) → s ≢ slot → slice_index_or later s (0, 0) ≡ slice_index_or keys s (0, 0)
  pub pages_stay : (s : ℕ) → s < n → s ≢ slot → page_of_slot P now s ≡ page_of_slot P bytes s

-- the map after such a change
module _ (n m P : ℕ) (keys later : List (ℕ × ℕ)) (bytes now : List ℕ) (slot : ℕ) (key : ℕ × ℕ) (page : List ℕ) (c : Changes n m P keys later bytes now slot key page) where
  pub changes_here : lookup (same_key key) (pages_in m P later now) ≡ Some page
  changes_here = lookup_some m P later now key slot c.later_once c.taken c.later_within c.here ∙ ap (λ (l : List ℕ). Some l) c.page_is

  -- every other key but the slot's old one keeps its page
  pub changes_others : (other : ℕ × ℕ) → other ≢ key → (slot < n → slice_index_or keys slot (0, 0) ≢ other) → lookup (same_key other) (pages_in m P later now) ≡ lookup (same_key other) (pages_in n P keys bytes)
  changes_others other apart not_gone = elim (has_or_not n keys other) [
    | inl has ↦
        let elsewhere : has.slot ≢ slot = λ same. not_gone (omega (arith, has.below, same)) (ap (λ (k : ℕ). slice_index_or keys k (0, 0)) (sym same) ∙ has.here) in
        lookup_some m P later now other has.slot c.later_once (c.stays has.slot has.below elsewhere) c.later_within (c.keys_stay has.slot elsewhere ∙ has.here)
        ∙ ap (λ (l : List ℕ). Some l) (c.pages_stay has.slot has.below elsewhere)
        ∙ sym (lookup_some n P keys bytes other has.slot c.once has.below c.within has.here)
    | inr none ↦
        lookup_none m P later now other (λ s below is. elim (cases_eq s slot) [
          | inl same ↦ apart (sym is ∙ ap (λ (k : ℕ). slice_index_or later k (0, 0)) same ∙ c.here)
          | inr elsewhere ↦ none s (c.was s below elsewhere) (sym (c.keys_stay s elsewhere) ∙ is)
        ])
        ∙ sym (lookup_none n P keys bytes other none)
  ]

  -- the slot's old key has no page any more
  pub changes_gone : slot < n → slice_index_or keys slot (0, 0) ≢ key → lookup (same_key (slice_index_or keys slot (0, 0))) (pages_in m P later now) ≡ None
  changes_gone old apart = lookup_none m P later now (slice_index_or keys slot (0, 0)) (λ s below is. elim (cases_eq s slot) [
    | inl same ↦ apart (sym is ∙ ap (λ (k : ℕ). slice_index_or later k (0, 0)) same ∙ c.here)
    | inr elsewhere ↦ elsewhere (c.once s slot (c.was s below elsewhere) old (sym (c.keys_stay s elsewhere) ∙ is))
  ])
