-- Ranges in order, one by one.
use Rattle.std.proofs.Common.{◌≡◌, ℕ, ◌+◌, ◌<◌, ◌≤◌, List, length, drop, get_or, sym, subst}
use Rattle.std.proofs.lemmas.List.{drop_more, drop_all}
use Rattle.page.specs.Geometry.{AreInOrder, AreInOrderFrom}
use Rattle.paged_read.specs.Batch.{ranges_of}

-- all ranges are in order, if those from an offset's on are from this end on
abbrev pub OrderWaits : (len : ℕ) → List ℕ → (i end : ℕ) → Type 0
OrderWaits len offsets i end =
    AreInOrderFrom end (ranges_of len (drop i offsets)) → AreInOrder (ranges_of len offsets)

-- the range at the next offset begins at or after that end
pub order_more : (len : ℕ) (offsets : List ℕ) (i end next d : ℕ) → i < length offsets
    → end ≤ get_or offsets i d → next ≡ get_or offsets i d + len → OrderWaits len offsets i end
    → OrderWaits len offsets (i + 1) next
order_more len offsets i end next d there after is waits rest =
    let from : AreInOrderFrom (get_or offsets i d + len) (ranges_of len (drop (i + 1) offsets)) =
    subst (λ (n : ℕ). AreInOrderFrom n (ranges_of len (drop (i + 1) offsets))) is rest in
    waits (subst (λ (l : List ℕ). AreInOrderFrom end (ranges_of len l))
    (sym (drop_more offsets i d there)) (after, from))

-- no range is left, and all are in order
pub order_all : (len : ℕ) (offsets : List ℕ) (i end : ℕ) → length offsets ≤ i
    → OrderWaits len offsets i end → AreInOrder (ranges_of len offsets)
order_all len offsets i end enough waits =
    waits (subst (λ (l : List ℕ). AreInOrderFrom end (ranges_of len l))
    (sym (drop_all i offsets enough)) tt)
