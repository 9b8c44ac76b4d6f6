-- Pages that were read and compared with their digests, and are held.
use Rattle.std.specs.Prelude.{◌≡◌, ◌<◌, ◌+◌, ◌-◌, ◌++◌, ◌∷◌, [], ℕ, List, length, drop}
use Rattle.std.specs.Prelude.{Option, Some, None, slice_index_or}
use Rattle.std.specs.List.{All}
use Rattle.page_digests.specs.Seals.{EachIsByte}

-- a page that is held: its bytes, and their digest
pub record PageState : Type 0 where
  pub digest : List ℕ
  pub bytes : List ℕ

-- these bytes have this digest
pub record IsHeldPage (d : List ℕ → List ℕ) (p : PageState) : Type 0 where
  pub bytes : EachIsByte p.bytes
  pub digest : d p.bytes ≡ p.digest

-- a page has this digest, and so many bytes
pub record IsPageWith (its : List ℕ) (count : ℕ) (p : PageState) : Type 0 where
  pub digest : p.digest ≡ its
  pub len : length p.bytes ≡ count

-- none of these pages has this digest and so many bytes
abbrev pub HoldNone : (digest : List ℕ) → (len : ℕ) → List PageState → Type 0
HoldNone digest len held = All (λ p. IsPageWith digest len p → ⊥) held

-- the page at place k has this digest, and so many bytes
pub record HoldsAt (digest : List ℕ) (len : ℕ) (held : List PageState) (k : ℕ) : Type 0 where
  pub within : k < length held
  pub it : (p : PageState) → IsPageWith digest len (slice_index_or held k p)

-- the place of a page with this digest and so many bytes is found, if there is one
abbrev pub FindsPage : (digest : List ℕ) → (len : ℕ) → List PageState → Option ℕ → Type 0
FindsPage digest len held None = HoldNone digest len held
FindsPage digest len held (Some k) = HoldsAt digest len held k

-- a page was taken out of those that are held: it has this digest, and so many bytes
pub record IsTakenPage (digest : List ℕ) (len : ℕ) (old new : List PageState) (p : PageState)
    : Type 0 where
  pub before : List PageState
  pub after : List PageState
  pub there : old ≡ before ++ p ∷ after
  pub left : new ≡ before ++ after
  pub it : IsPageWith digest len p

-- a page is taken out of those that are held, by the answer
abbrev pub TakesHeldPage : (digest : List ℕ) → (len : ℕ) → (old new : List PageState)
    → Option PageState → Type 0
TakesHeldPage digest len old new None = (new ≡ old) × HoldNone digest len old
TakesHeldPage digest len old new (Some p) = IsTakenPage digest len old new p

-- those of some pages that stay as one more is held, `most` in all: those that were used last
abbrev pub staying : (most : ℕ) → List PageState → List PageState
staying most held = drop (length held + 1 - most) held

-- a page is held behind those that stay
abbrev pub kept_page : (most : ℕ) → PageState → List PageState → List PageState
kept_page most p held = staying most held ++ p ∷ []
