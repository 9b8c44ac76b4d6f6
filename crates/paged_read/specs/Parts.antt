-- What the parts of a read do. A tail is a blob's full pages and the bytes after them (`Tail`).
use Rattle.std.specs.Prelude.{◌≡◌, ◌≢◌, ◌<◌, ℕ, List, [], ◌∷◌, take, drop}
use Rattle.std.specs.Prelude.{map, Result, Ok, Err, Bool, true}
use Rattle.std.specs.List.{Contains}
use Rattle.disk.specs.Disk.{Disk, Life, HasFailed}
use Rattle.disk.specs.declared.error.Error.{Error}
use Rattle.disk.specs.declared.error.Error.TheVariants.{ReadFailed, InvalidChecksum, OutOfMemory}
use Rattle.page.specs.Page.{value_len}
use Rattle.cache.specs.CacheState.{CacheState, put_at, IsPiece}
use Rattle.cache.specs.Pages.{page_of_content}
use Rattle.cache.specs.declared.piece.Piece.{Piece}
use Rattle.paged_read.specs.Failures.{NoneFailed}
use Rattle.paged_read.specs.Tail.{Tail, logical_bytes, CanRead}
use Rattle.paged_read.specs.Ranges.{page_at, slice, is_served, AreMissingFull, ReadFault}

-- a physical page that is there is read and found full; or the device failed; or it didn't, and the
-- page isn't full, or memory was refused
abbrev pub ReadsPage : (List ℕ → ℕ) → (P page : ℕ) → Life → Life → Result (List ℕ) Error → Type 0
ReadsPage sum P page old new (Ok bytes) =
    (bytes ≡ page_at P page old.present.readable) × (value_len sum P bytes ≡ P)
    × NoneFailed old.present new.present
ReadsPage sum P page old new (Err ReadFailed) = HasFailed ReadFailed old.present new.present
ReadsPage sum P page old new (Err InvalidChecksum) =
    (value_len sum P (page_at P page old.present.readable) ≢ P)
    × NoneFailed old.present new.present
ReadsPage sum P page old new (Err OutOfMemory) = NoneFailed old.present new.present
ReadsPage sum P page old new (Err _) = ⊥

-- each of these pages is full
abbrev pub ArePagesFull : (List ℕ → ℕ) → (P : ℕ) → List ℕ → List ℕ → Type 0
ArePagesFull sum P pages readable =
    (page : ℕ) → Contains pages page → value_len sum P (page_at P page readable) ≡ P

-- why a read of these pages, which are there, may answer this error
abbrev pub PagesFault : (List ℕ → ℕ) → (P : ℕ) → List ℕ → Life → Life → Error → Type 0
PagesFault sum P pages old new ReadFailed = HasFailed ReadFailed old.present new.present
PagesFault sum P pages old new InvalidChecksum =
    (page : ℕ) × Contains pages page
    × (value_len sum P (page_at P page old.present.readable) ≢ P)
    × NoneFailed old.present new.present
PagesFault sum P pages old new OutOfMemory = NoneFailed old.present new.present
PagesFault sum P pages old new _ = ⊥

-- a piece is of one of the tail's full pages, and there is room for it
pub record IsPieceOf (t : Tail) (room : ℕ) (piece : Piece) : Type 0 where
  pub below : piece.page < t.full_pages
  pub part : IsPiece t.page_size room piece

-- the pages of these pieces
abbrev pub piece_pages : List Piece → List ℕ
piece_pages pieces = map (λ piece. piece.page) pieces

-- each piece of a content is put in its place, in order
abbrev pub with_told : (P : ℕ) → List ℕ → List Piece → List ℕ → List ℕ
with_told P content [] buf = buf
with_told P content (piece ∷ pieces) buf =
    let bytes = take piece.len (drop piece.skip (page_of_content P content piece.page)) in
    with_told P content pieces (put_at piece.place bytes buf)

-- these pieces are read: each is put in its place, and its page is full
abbrev pub FetchesPieces : (List ℕ → ℕ) → Tail → List Piece → List ℕ → List ℕ → Life → Life
    → Result (Unit {0}) Error → Type 0
FetchesPieces sum t pieces bytes bytes_after old new (Ok _) =
    (bytes_after ≡ with_told t.page_size (logical_bytes t old.present.readable) pieces bytes)
    × ArePagesFull sum t.page_size (piece_pages pieces) old.present.readable
    × NoneFailed old.present new.present
FetchesPieces sum t pieces bytes bytes_after old new (Err e) =
    PagesFault sum t.page_size (piece_pages pieces) old new e

-- a range within the tail's full pages is read
abbrev pub ReadsBelow : (List ℕ → ℕ) → Tail → CacheState → ℕ × ℕ → List ℕ → Life → Life
    → Result (Unit {0}) Error → Type 0
ReadsBelow sum t cache range bytes old new (Ok _) =
    (bytes ≡ slice (logical_bytes t old.present.readable) range)
    × AreMissingFull sum cache t (range ∷ []) old.present.readable
    × NoneFailed old.present new.present
ReadsBelow sum t cache range bytes old new (Err e) = ReadFault sum cache t (range ∷ []) old new e

-- a range within the tail's full pages is copied if the cache holds its pages: whether it does, and
-- then these are the range's bytes over each disk with which the cache agrees
abbrev pub TriesBelow : Tail → ℕ × ℕ → CacheState → List ℕ → Bool → Type 0
TriesBelow t range cache bytes answer =
    (answer ≡ is_served cache t range)
    × (answer ≡ true → (d : Disk) → CanRead t cache d
    → bytes ≡ slice (logical_bytes t d.readable) range)
