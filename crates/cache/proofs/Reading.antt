-- Bytes copied from pages that are held.
use Rattle.std.proofs.Common.{◌≡◌, ◌∙◌, inl, inr, ℕ, ◌+◌, ◌-◌, ◌*◌, ◌/◌, ◌%◌, ◌<◌, ◌≤◌, List, [], ◌∷◌, ◌++◌, length, take, drop, sym, ap, subst, refl, arith, drop-drop, length-take, length-drop, length-append, slice_index_or, append-nil}
use Rattle.std.proofs.Math.Seq.{drop-append_seam}
use Rattle.std.proofs.lemmas.List.Elements.{filter-append}
use Rattle.std.specs.Prelude.{Option, Some, None, slice_get, not, is_some}
use Rattle.std.proofs.lemmas.Option.{slice_get_within}
use Rattle.std.proofs.Math.Nat.{div-eq_of_lt, mod-eq_of_lt, add-mul-div_right, add-mul-mod_self_right, mod-add-div'}
use Rattle.std.specs.Prelude.{◌≢◌, Result, Ok, Err, Vec, IsErrAnd}
use Rattle.std.specs.declared.alloc.Global.{Global}
use Rattle.disk.specs.declared.error.Error.{Error}
use Rattle.disk.specs.declared.error.Error.TheVariants.{OutOfMemory}
use Rattle.cache.specs.CacheState.{CacheState, cached_page, HoldsByte, put_at, with_piece, with_pieces, pieces_left, ReadsPieces}
use Rattle.cache.specs.declared.piece.Piece.{Piece}
use Rattle.std.proofs.lemmas.List.{take_more, take-append-drop}
use Rattle.disk.proofs.Lists.{joined_element, taken_element, slice_get-drop}

-- an offset and one a few bytes later, in the same page
same_page : (P a j : ℕ) → 0 < P → a % P + j < P → ((a + j) / P ≡ a / P) × ((a + j) % P ≡ a % P + j)
same_page P a j some low =
    let split : a + j ≡ a % P + j + a / P * P = omega (arith, mod-add-div' a P) in (
      ap (λ n. n / P) split ∙ add-mul-div_right (a % P + j) (a / P) some
          ∙ (let e : (a % P + j) / P + a / P ≡ a / P = omega (arith, div-eq_of_lt low) in e),
      ap (λ n. n % P) split ∙ add-mul-mod_self_right (a % P + j) (a / P) P ∙ mod-eq_of_lt low,
    )

-- the bytes copied so far, and those of one page more
pub copied_more : (cache : CacheState) (id offset done len : ℕ) (page before : List ℕ)
    → ((i byte : ℕ) → i < done → slice_get before i ≡ Some byte → HoldsByte cache id (offset + i) byte)
    → cached_page cache (id, (offset + done) / cache.page_size) ≡ Some page
    → 0 < cache.page_size → (offset + done) % cache.page_size + len ≤ cache.page_size
    → length page ≡ cache.page_size → done ≤ length before → (i byte : ℕ) → i < done + len
    → slice_get (put_at done (take len (drop ((offset + done) % cache.page_size) page)) before) i
    ≡ Some byte → HoldsByte cache id (offset + i) byte
copied_more cache id offset done len page before so_far there some fits size within i byte low is =
    elim (joined_element (take done before ++ mid) (drop (done + length mid) before) i byte is) [
      | inl early ↦ elim (joined_element (take done before) mid i byte early) [
        | inl first ↦
            let below = slice_get_within (take done before) i byte first in
            so_far i byte (omega (arith, below, length-take done before))
            (taken_element done before i byte first)
        | inr (j, is_at, here) ↦
            let in_mid = slice_get_within mid j byte here in
            let few : j < len = omega (arith, in_mid, length-take len (drop skip page)) in
            let parts = same_page P (offset + done) j some (omega (arith, few, fits)) in
            let at_offset : offset + done + j ≡ offset + i =
            omega (arith, is_at, length-take done before, within) in (
              page,
              ap (λ n. cached_page cache (id, n / P)) (sym at_offset)
                  ∙ ap (λ n. cached_page cache (id, n)) parts.0 ∙ there,
              ap (λ n. slice_get page (n % P)) (sym at_offset)
                  ∙ ap (slice_get page) parts.1 ∙ sym (slice_get-drop skip page j)
                  ∙ taken_element len (drop skip page) j byte here,
            )
      ]
      | inr (k, further, third) ↦ absurd (omega (
        arith,
        low,
        further,
        fits,
        size,
        within,
        length-append (take done before) mid,
        length-take done before,
        length-take len (drop skip page),
        length-drop skip page,
      ))
    ]
  where
    P : ℕ
    P = cache.page_size

    skip : ℕ
    skip = (offset + done) % P

    mid : List ℕ
    mid = take len (drop skip page)

-- how far a read has come: its first bytes are those of pages that are held, and the rest of the
-- buffer is as it was
pub record HasCome (cache : CacheState) (id offset most done : ℕ) (before now : List ℕ) : Type 0 where
  pub within : done ≤ most
  pub size : length now ≡ length before
  pub copied : (i byte : ℕ) → i < done → slice_get now i ≡ Some byte
      → HoldsByte cache id (offset + i) byte
  pub rest : drop done now ≡ drop done before

-- bytes put within a buffer leave its length
pub put_length : (offset : ℕ) (bytes buf : List ℕ) → offset + length bytes ≤ length buf
    → length (put_at offset bytes buf) ≡ length buf
put_length offset bytes buf fits =
    omega (
      arith,
      length-append (take offset buf ++ bytes) (drop (offset + length bytes) buf),
      length-append (take offset buf) bytes,
      length-take offset buf,
      length-drop (offset + length bytes) buf,
      fits,
    )

put_rest : (offset : ℕ) (bytes buf : List ℕ) → offset + length bytes ≤ length buf
    → drop (offset + length bytes) (put_at offset bytes buf) ≡ drop (offset + length bytes) buf
put_rest offset bytes buf fits =
    let front : length (take offset buf ++ bytes) ≡ offset + length bytes =
    omega (arith, length-append (take offset buf) bytes, length-take offset buf, fits) in
    ap (λ n. drop n (put_at offset bytes buf)) (sym front)
    ∙ drop-append_seam (take offset buf ++ bytes) (drop (offset + length bytes) buf)

-- a read that has come one page further
pub come_more : (cache : CacheState) (id offset most done len p skip : ℕ)
    (page before now after : List ℕ) → HasCome cache id offset most done before now
    → p ≡ (offset + done) / cache.page_size → skip ≡ (offset + done) % cache.page_size
    → skip < cache.page_size → cached_page cache (id, p) ≡ Some page → length page ≡ cache.page_size
    → len ≤ length page - skip → len ≤ most - done → most ≤ length before
    → after ≡ put_at done (take len (drop skip page)) now
    → HasCome cache id offset most (done + len) before after
come_more cache id offset most done len p skip page before now after come is_page is_skip low there size few short room is =
    let mid : List ℕ = take len (drop skip page) in
    let long : length mid ≡ len = omega (arith, length-take len (drop skip page), length-drop skip page, few) in
    let fits : done + length mid ≤ length now = omega (arith, long, short, room, come.size, come.within) in
    let here : cached_page cache (id, (offset + done) / cache.page_size) ≡ Some page =
    ap (λ n. cached_page cache (id, n)) (sym is_page) ∙ there in
    record {
      within = omega (arith, short, come.within);
      size = ap length is ∙ put_length done mid now fits ∙ come.size;
      copied = λ i byte below at. copied_more cache id offset done len page now come.copied here
          (omega (arith, low)) (omega (arith, is_skip, low, few, size)) size (omega (arith, fits)) i byte below
          (subst (λ n. slice_get (put_at done (take len (drop n page)) now) i ≡ Some byte) is_skip
          (ap (λ l. slice_get l i) (sym is) ∙ at));
      rest =
          ap (drop (done + len)) is
          ∙ ap (λ n. drop (done + n) (put_at done mid now)) (sym long)
          ∙ put_rest done mid now fits
          ∙ sym (drop-drop (length mid) done now)
          ∙ ap (drop (length mid)) come.rest
          ∙ drop-drop (length mid) done before
          ∙ ap (λ n. drop (done + n) before) long;
    }

-- ---- pieces

-- the piece, if its page isn't held
abbrev pub left_of : Option (List ℕ) → Piece → List Piece
left_of None piece = piece ∷ []
left_of (Some page) piece = []

left_one : (cache : CacheState) (id : ℕ) (piece : Piece)
    → pieces_left cache id (piece ∷ []) ≡ left_of (cached_page cache (id, piece.page)) piece
left_one cache id piece = by_held (cached_page cache (id, piece.page)) refl
  where
    by_held : (o : Option (List ℕ)) → cached_page cache (id, piece.page) ≡ o
        → pieces_left cache id (piece ∷ []) ≡ left_of (cached_page cache (id, piece.page)) piece
    by_held None is = rw is (refl)
    by_held (Some page) is = rw is (refl)

-- the pieces left of the first ones, with one piece more
pub left_more : (cache : CacheState) (id : ℕ) (pieces : List Piece) (i : ℕ) (d : Piece)
    → i < length pieces
    → pieces_left cache id (take (i + 1) pieces)
    ≡ pieces_left cache id (take i pieces)
    ++ left_of (cached_page cache (id, (slice_index_or pieces i d).page)) (slice_index_or pieces i d)
left_more cache id pieces i d below =
    ap (pieces_left cache id) (take_more pieces i d below)
    ∙ filter-append _ (take i pieces) (slice_index_or pieces i d ∷ [])
    ∙ ap (λ l. pieces_left cache id (take i pieces) ++ l) (left_one cache id (slice_index_or pieces i d))

with_joined : (cache : CacheState) (id : ℕ) (pieces : List Piece) (piece : Piece) (buf : List ℕ)
    → with_pieces cache id (pieces ++ piece ∷ []) buf
    ≡ with_piece (cached_page cache (id, piece.page)) piece (with_pieces cache id pieces buf)
with_joined cache id [] piece buf = refl
with_joined cache id (p ∷ pieces) piece buf =
    with_joined cache id pieces piece (with_piece (cached_page cache (id, p.page)) p buf)

pub with_more : (cache : CacheState) (id : ℕ) (pieces : List Piece) (i : ℕ) (d : Piece)
    (buf : List ℕ) → i < length pieces
    → with_pieces cache id (take (i + 1) pieces) buf
    ≡ with_piece (cached_page cache (id, (slice_index_or pieces i d).page)) (slice_index_or pieces i d)
    (with_pieces cache id (take i pieces) buf)
with_more cache id pieces i d buf below =
    ap (λ l. with_pieces cache id l buf) (take_more pieces i d below)
    ∙ with_joined cache id (take i pieces) (slice_index_or pieces i d) buf

-- a piece whose page is held is copied, and isn't left
pub held_step : (cache : CacheState) (id : ℕ) (pieces left : List Piece) (i : ℕ) (d : Piece)
    (page buf now after : List ℕ) → i < length pieces
    → cached_page cache (id, (slice_index_or pieces i d).page) ≡ Some page
    → left ≡ pieces_left cache id (take i pieces)
    → now ≡ with_pieces cache id (take i pieces) buf
    → after ≡ with_piece (Some page) (slice_index_or pieces i d) now
    → (left ≡ pieces_left cache id (take (i + 1) pieces))
    × (after ≡ with_pieces cache id (take (i + 1) pieces) buf)
held_step cache id pieces left i d page buf now after below there is_left is_now is =
    let piece = slice_index_or pieces i d in (
      is_left ∙ sym (append-nil (pieces_left cache id (take i pieces)))
          ∙ sym (left_more cache id pieces i d below
          ∙ ap (λ o. pieces_left cache id (take i pieces) ++ left_of o piece) there),
      is ∙ ap (λ l. with_piece (Some page) piece l) is_now
          ∙ sym (with_more cache id pieces i d buf below
          ∙ ap (λ o. with_piece o piece (with_pieces cache id (take i pieces) buf)) there),
    )

-- a piece whose page isn't held is left
pub missing_step : (cache : CacheState) (id : ℕ) (pieces left more : List Piece) (i : ℕ) (d : Piece)
    (buf now : List ℕ) → i < length pieces
    → cached_page cache (id, (slice_index_or pieces i d).page) ≡ None
    → left ≡ pieces_left cache id (take i pieces)
    → now ≡ with_pieces cache id (take i pieces) buf
    → more ≡ left ++ slice_index_or pieces i d ∷ []
    → (more ≡ pieces_left cache id (take (i + 1) pieces))
    × (now ≡ with_pieces cache id (take (i + 1) pieces) buf)
missing_step cache id pieces left more i d buf now below there is_left is_now is =
    let piece = slice_index_or pieces i d in (
      is ∙ ap (λ l. l ++ piece ∷ []) is_left
          ∙ sym (left_more cache id pieces i d below
          ∙ ap (λ o. pieces_left cache id (take i pieces) ++ left_of o piece) there),
      is_now
          ∙ sym (with_more cache id pieces i d buf below
          ∙ ap (λ o. with_piece o piece (with_pieces cache id (take i pieces) buf)) there),
    )

-- a piece of an absent page among the first pieces is among all of them
pub some_left : (cache : CacheState) (id : ℕ) (pieces left : List Piece) (piece : Piece) (n : ℕ)
    → left ++ piece ∷ [] ≡ pieces_left cache id (take n pieces) → pieces_left cache id pieces ≢ []
some_left cache id pieces left piece n first = λ none.
    let test = λ (p : Piece). not (is_some (cached_page cache (id, p.page))) in
    let all : pieces_left cache id (take n pieces) ++ pieces_left cache id (drop n pieces) ≡ pieces_left cache id pieces =
    sym (filter-append test (take n pieces) (drop n pieces)) ∙ ap (λ l. pieces_left cache id l) (take-append-drop n pieces) in
    let long = length-append left (piece ∷ []) in
    let both = length-append (pieces_left cache id (take n pieces)) (pieces_left cache id (drop n pieces)) in
    absurd (omega (arith, long, both, ap length first, ap length all, ap length none))

-- where a piece's page is absent, memory may be refused
pub unread : (cache : CacheState) (id : ℕ) (pieces : List Piece) (old new : List ℕ) (result : Result (Vec Piece Global) Error) → IsErrAnd result (λ e. e ≡ OutOfMemory)
    → length new ≡ length old → pieces_left cache id pieces ≢ [] → ReadsPieces cache id pieces old new result
unread cache id pieces old new (Ok left) is long some = absurd is
unread cache id pieces old new (Err e) is long some = subst (λ (x : Error). ReadsPieces cache id pieces old new (Err x)) (sym is) (long, some)
