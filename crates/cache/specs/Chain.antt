-- Chains of slots.
use Rattle.std.specs.Prelude.{◌≡◌, ◌≢◌, ◌⊎◌, ◌+◌, ◌-◌, ◌*◌, ◌%◌, ◌^◌, ◌≤◌, ◌<◌, ◌++◌, ℕ}
use Rattle.std.specs.Prelude.{List, [], ◌∷◌, Option, Some, None, slice_index_or}
use Rattle.std.specs.Int.Bits.{bit_and}
use Rattle.cache.specs.declared.slots.Link.{Link}

-- where a key stands among so many places, a power of two
abbrev pub place_of : (places : ℕ) → ℕ × ℕ → ℕ
place_of places key =
    bit_and ((key.1 + key.0 * 11400714819323198485 % 2 ^ 64) % 2 ^ 64) (places - 1)

-- from this slot on each slot leads to its next one, and the last to a number that is no slot's
abbrev pub IsChain : (nexts : List ℕ) → (capacity from : ℕ) → (slots : List ℕ) → Type 0
IsChain nexts capacity from [] = capacity ≤ from
IsChain nexts capacity from (s ∷ ss) =
    (from ≡ s) × (s < capacity) × IsChain nexts capacity (slice_index_or nexts s 0) ss

-- from this slot on there is a chain
abbrev pub HasChain : (nexts : List ℕ) → (capacity from : ℕ) → Type 0
HasChain nexts capacity from = (slots : List ℕ) × IsChain nexts capacity from slots

-- one of these slots is this one
abbrev pub IsAmong : (slots : List ℕ) → ℕ → Type 0
IsAmong [] s = ⊥
IsAmong (x ∷ xs) s = (s ≡ x) ⊎ IsAmong xs s

-- none of these slots holds this key
abbrev pub NoneHolds : (keys : List (ℕ × ℕ)) → ℕ × ℕ → (slots : List ℕ) → Type 0
NoneHolds keys key [] = Unit {0}
NoneHolds keys key (s ∷ ss) = (slice_index_or keys s (0, 0) ≢ key) × NoneHolds keys key ss

-- the last of these slots, if there is one
abbrev pub IsLast : (slots : List ℕ) → Option ℕ → Type 0
IsLast slots None = slots ≡ []
IsLast slots (Some s) = (front : List ℕ) × (slots ≡ front ++ s ∷ [])

-- the slot of this link holds the key, and stands in the chain just after the one before it
pub record IsLink (keys : List (ℕ × ℕ)) (key : ℕ × ℕ) (slots : List ℕ) (link : Link) : Type 0 where
  pub front : List ℕ
  pub back : List ℕ
  pub slots_are : slots ≡ front ++ link.slot ∷ back
  pub before : IsLast front link.before
  pub holds : slice_index_or keys link.slot (0, 0) ≡ key

-- a chain of just these slots
pub record ChainOf (In : ℕ → Type 0) (nexts : List ℕ) (capacity from : ℕ) : Type 0 where
  pub slots : List ℕ
  pub chain : IsChain nexts capacity from slots
  pub only : (s : ℕ) → IsAmong slots s → In s
  pub all : (s : ℕ) → In s → IsAmong slots s

-- a used slot, another than this one, whose key stands at the place
abbrev pub IsAt : (keys : List (ℕ × ℕ)) → (used but places place s : ℕ) → Type 0
IsAt keys used but places place s =
    (s < used) × (s ≢ but) × (place_of places (slice_index_or keys s (0, 0)) ≡ place)

-- each place has the chain of the used slots whose keys stand there, and no two used slots have the
-- same key; the slot `but` is left out of all this
pub record AreLinked (keys : List (ℕ × ℕ)) (nexts firsts : List ℕ) (capacity places used but : ℕ)
    : Type 0 where
  pub chains : (place : ℕ) → place < places
      → ChainOf (IsAt keys used but places place) nexts capacity (slice_index_or firsts place 0)
  pub once : (s u : ℕ) → s < used → u < used → s ≢ but → u ≢ but
      → slice_index_or keys s (0, 0) ≡ slice_index_or keys u (0, 0) → s ≡ u
