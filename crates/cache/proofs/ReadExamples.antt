-- What a read of a cache copies. The cache is `two` of `PutExamples.antt`: it holds the pages 0 and 1
-- of blob 0, "abcd" and "efgh".
use Rattle.std.proofs.Common.{◌≡◌, ◌⊎◌, ◌+◌, ◌<◌, ℕ, zero, suc, List, [], ◌∷◌, refl, ap, sym, subst}
use Rattle.std.proofs.Common.{arith, get_or, inl, inr, length, lit<, lit≤}
use Rattle.std.proofs.lemmas.Option.{same_Some}
use Rattle.std.specs.Prelude.{Err, None, Ok, Option, Some, Vec, codes, slice_get}
use Rattle.std.specs.declared.alloc.Global.{Global}
use Rattle.disk.specs.declared.error.Error.TheVariants.{OutOfMemory, ReadFailed}
use Rattle.cache.specs.CacheState.{HoldsByte, IsMissing, IsPiece, ReadsCached, ReadsPieces}
use Rattle.cache.specs.CacheState.{pieces_left, put_at, with_piece, with_pieces}
use Rattle.cache.specs.declared.piece.Piece.{Piece}
use Rattle.cache.proofs.PutExamples.{efgh, two}

-- ---- bytes

-- offset 5 is in page 1
pub it_holds_f : HoldsByte two 0 5 102
it_holds_f = (efgh, refl, refl)

pub no_e_there : HoldsByte two 0 5 101 → ⊥
no_e_there (page, held, is) =
    let same = same_Some efgh page held in
    omega (arith, ap at_1 (subst (λ (l : List ℕ). slice_get l 1 ≡ Some 101) (sym same) is))
  where
    at_1 : Option ℕ → ℕ
    at_1 None = 0
    at_1 (Some byte) = byte

pub not_of_blob_1 : HoldsByte two 1 5 102 → ⊥
not_of_blob_1 (page, none, is) = cc none

-- the first byte of page 2
pub its_page_is_missing : IsMissing two 0 8
its_page_is_missing = inr refl

pub past_the_greatest : IsMissing two 0 18446744073709551616
past_the_greatest = inl (lit≤ tt)

-- the last byte of page 1
pub its_page_is_there : IsMissing two 0 7 → ⊥
its_page_is_there (inl past) = omega (arith, past)
its_page_is_there (inr none) = cc none

-- ---- reads

-- four bytes are asked for at offset 6: two of them are held
pub two_are_copied : ReadsCached two 0 6 (codes "....") (codes "gh..") 2
two_are_copied = record {
  size = refl;
  within = lit≤ tt;
  copied = copied;
  rest = refl;
  ends = inr (lit< tt, inr refl);
}
  where
    copied : (i byte : ℕ) → i < 2 → slice_get (codes "gh..") i ≡ Some byte
        → HoldsByte two 0 (6 + i) byte
    copied zero byte within is = (efgh, refl, is)
    copied (suc zero) byte within is = (efgh, refl, is)
    copied (suc (suc i)) byte within is = absurd (omega (arith, within))

-- a read doesn't end before a byte that is held
pub too_few : ReadsCached two 0 6 (codes "....") (codes "g...") 1 → ⊥
too_few read = by_end read.ends
  where
    by_end : (1 ≡ length (codes "....")) ⊎ ((1 < length (codes "....")) × IsMissing two 0 7) → ⊥
    by_end (inl all) = omega (arith, all)
    by_end (inr (fewer, missing)) = its_page_is_there missing

-- and writes nothing behind the last
pub too_many : ReadsCached two 0 6 (codes "....") (codes "ghij") 2 → ⊥
too_many read = omega (arith, ap (λ (l : List ℕ). get_or l 0 0) read.rest)

-- ---- pieces

pub over_the_middle : put_at 1 (codes "XY") (codes "abcd") ≡ codes "aXYd"
over_the_middle = refl

-- the last two bytes of page 1 and the first two of page 2, for a buffer of four
abbrev pub gh : Piece
gh = record { page = 1; skip = 2; place = 0; len = 2 }

abbrev pub ij : Piece
ij = record { page = 2; skip = 0; place = 2; len = 2 }

pub it_is_a_piece : IsPiece 4 4 gh
it_is_a_piece = record { within = lit≤ tt; fits = lit≤ tt }

-- three bytes from the third on
pub over_the_end : IsPiece 4 4 (record gh { len = 3 }) → ⊥
over_the_end is = omega (arith, is.within)

-- a buffer of three bytes
pub no_room : IsPiece 4 3 ij → ⊥
no_room is = omega (arith, is.fits)

pub it_is_copied : with_piece (Some efgh) gh (codes "....") ≡ codes "gh.."
it_is_copied = refl

pub it_is_left_out : with_piece None ij (codes "gh..") ≡ codes "gh.."
it_is_left_out = refl

pub one_is_copied : with_pieces two 0 (gh ∷ ij ∷ []) (codes "....") ≡ codes "gh.."
one_is_copied = refl

pub one_is_left : pieces_left two 0 (gh ∷ ij ∷ []) ≡ ij ∷ []
one_is_left = refl

-- of blob 1 no page is held
pub both_are_left : pieces_left two 1 (gh ∷ ij ∷ []) ≡ gh ∷ ij ∷ []
both_are_left = refl

pub the_other_is_answered : (left : Vec Piece Global) → left.items ≡ ij ∷ []
    → ReadsPieces two 0 (gh ∷ ij ∷ []) (codes "....") (codes "gh..") (Ok left)
the_other_is_answered left is = (is, refl)

-- the buffer may hold anything then
pub no_memory : ReadsPieces two 0 (gh ∷ ij ∷ []) (codes "....") (codes "gh..") (Err OutOfMemory)
no_memory = (refl, λ none. some none)
  where
    some : pieces_left two 0 (gh ∷ ij ∷ []) ≡ [] → ⊥
    some none = omega (arith, ap length none)

-- a piece that wasn't copied is answered
pub one_is_forgotten : (left : Vec Piece Global) → left.items ≡ []
    → ReadsPieces two 0 (gh ∷ ij ∷ []) (codes "....") (codes "gh..") (Ok left) → ⊥
one_is_forgotten left none read = omega (arith, ap length read.0, ap length none)

-- no memory is asked for where all pages are held
pub none_is_left : ReadsPieces two 0 (gh ∷ []) (codes "....") (codes "gh..") (Err OutOfMemory) → ⊥
none_is_left read = read.1 refl

pub no_device_is_read : ReadsPieces two 0 (ij ∷ []) (codes "..") (codes "..") (Err ReadFailed) → ⊥
no_device_is_read read = read
