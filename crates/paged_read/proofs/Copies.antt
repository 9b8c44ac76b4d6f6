-- Pieces of a content that are copied into a buffer: which of its bytes are right.
use Rattle.std.proofs.Common.{◌≡◌, ◌⊎◌, inl, inr, ℕ, ◌+◌, ◌-◌, ◌<◌, ◌≤◌, List, [], ◌∷◌, ◌++◌, length, take, drop, refl, sym, ap, ◌∙◌, subst, arith, Bool, true, false, cond, length-drop, append_assoc}
use Rattle.std.specs.Prelude.{slice_get, Some, None, Option, not, is_some}
use Rattle.std.proofs.lemmas.Bool.{cases_lt}
use Rattle.std.proofs.lemmas.List.{length-take-le}
use Rattle.std.proofs.lemmas.Option.{slice_get_within}
use Rattle.crash.proofs.Lists.{slice_get-take, slice_get-append_left, slice_get-append_right, same_elements}
use Rattle.cache.specs.CacheState.{CacheState, cached_page, put_at, with_piece, with_pieces, pieces_left}
use Rattle.cache.specs.Pages.{page_of_content}
use Rattle.cache.specs.declared.piece.Piece.{Piece}
use Rattle.cache.proofs.Reading.{put_length}
use Rattle.paged_read.specs.Parts.{with_told}
use Rattle.disk.proofs.Lists.{slice_get-drop}

-- an offset of the buffer lies in a piece
abbrev pub Covers : Piece → ℕ → Type 0
Covers piece i = (piece.place ≤ i) × (i < piece.place + piece.len)

-- an offset of the buffer lies in one of these pieces
abbrev pub SomeCovers : List Piece → ℕ → Type 0
SomeCovers [] i = ⊥
SomeCovers (piece ∷ pieces) i = Covers piece i ⊎ SomeCovers pieces i

-- each byte of a buffer is the wanted one, or this property holds of its offset
abbrev pub AgreesOr : (ℕ → Type 0) → (buf wanted : List ℕ) → Type 0
AgreesOr Else buf wanted = (i : ℕ) → i < length wanted → (slice_get buf i ≡ slice_get wanted i) ⊎ Else i

-- the bytes of a piece of a content, as they stand in a page of it
abbrev pub told_of : (P : ℕ) → List ℕ → Piece → List ℕ
told_of P content piece = take piece.len (drop piece.skip (page_of_content P content piece.page))

-- a piece's bytes are the wanted ones at the piece's offset
pub record Fits (P : ℕ) (content wanted : List ℕ) (piece : Piece) : Type 0 where
  pub within : piece.place + piece.len ≤ length wanted
  pub bytes : told_of P content piece ≡ take piece.len (drop piece.place wanted)

-- each of these pieces has the wanted bytes
abbrev pub AllFit : (P : ℕ) → (content wanted : List ℕ) → List Piece → Type 0
AllFit P content wanted [] = Unit {0}
AllFit P content wanted (piece ∷ pieces) = Fits P content wanted piece × AllFit P content wanted pieces

-- ---- bytes put into a buffer

length_of : (buf_offset n : ℕ) (bytes wanted : List ℕ) → bytes ≡ take n (drop buf_offset wanted) → buf_offset + n ≤ length wanted → length bytes ≡ n
length_of buf_offset n bytes wanted is within = ap length is ∙ length-take-le n (drop buf_offset wanted) (omega (arith, length-drop buf_offset wanted, within))

put_parts : (buf_offset : ℕ) (bytes buf : List ℕ) → put_at buf_offset bytes buf ≡ take buf_offset buf ++ (bytes ++ drop (buf_offset + length bytes) buf)
put_parts buf_offset bytes buf = append_assoc (take buf_offset buf) bytes (drop (buf_offset + length bytes) buf)

-- before the bytes that were put a buffer is as it was
put_before : (buf_offset : ℕ) (bytes buf : List ℕ) (i : ℕ) → buf_offset + length bytes ≤ length buf → i < buf_offset → slice_get (put_at buf_offset bytes buf) i ≡ slice_get buf i
put_before buf_offset bytes buf i fits before =
    let size : length (take buf_offset buf) ≡ buf_offset = length-take-le buf_offset buf (omega (arith, fits)) in
    ap (λ (l : List ℕ). slice_get l i) (put_parts buf_offset bytes buf)
    ∙ slice_get-append_left (take buf_offset buf) (bytes ++ drop (buf_offset + length bytes) buf) i (omega (arith, size, before))
    ∙ slice_get-take buf_offset buf i before

-- after the bytes that were put a buffer is as it was
put_after : (buf_offset : ℕ) (bytes buf : List ℕ) (i : ℕ) → buf_offset + length bytes ≤ length buf → buf_offset + length bytes ≤ i → slice_get (put_at buf_offset bytes buf) i ≡ slice_get buf i
put_after buf_offset bytes buf i fits after =
    let size : length (take buf_offset buf) ≡ buf_offset = length-take-le buf_offset buf (omega (arith, fits)) in
    let rest = drop (buf_offset + length bytes) buf in
    ap (λ (l : List ℕ). slice_get l i) (put_parts buf_offset bytes buf)
    ∙ slice_get-append_right (take buf_offset buf) (bytes ++ rest) i (omega (arith, size, after))
    ∙ slice_get-append_right bytes rest (i - length (take buf_offset buf)) (omega (arith, size, after))
    ∙ slice_get-drop (buf_offset + length bytes) buf (i - length (take buf_offset buf) - length bytes)
    ∙ ap (λ k. slice_get buf k) (let e : buf_offset + length bytes + (i - length (take buf_offset buf) - length bytes) ≡ i = omega (arith, size, after) in e)

-- at their offsets stand the bytes that were put
put_here : (buf_offset n : ℕ) (bytes buf wanted : List ℕ) (i : ℕ) → bytes ≡ take n (drop buf_offset wanted) → buf_offset + n ≤ length wanted → length buf ≡ length wanted → buf_offset ≤ i → i < buf_offset + n
    → slice_get (put_at buf_offset bytes buf) i ≡ slice_get wanted i
put_here buf_offset n bytes buf wanted i is within size above below =
    let many : length bytes ≡ n = length_of buf_offset n bytes wanted is within in
    let front : length (take buf_offset buf) ≡ buf_offset = length-take-le buf_offset buf (omega (arith, within, size)) in
    let rest = drop (buf_offset + length bytes) buf in
    let at : i - length (take buf_offset buf) ≡ i - buf_offset = omega (arith, front) in
    ap (λ (l : List ℕ). slice_get l i) (put_parts buf_offset bytes buf)
    ∙ slice_get-append_right (take buf_offset buf) (bytes ++ rest) i (omega (arith, front, above))
    ∙ ap (λ k. slice_get (bytes ++ rest) k) at
    ∙ slice_get-append_left bytes rest (i - buf_offset) (omega (arith, many, above, below))
    ∙ ap (λ (l : List ℕ). slice_get l (i - buf_offset)) is
    ∙ slice_get-take n (drop buf_offset wanted) (i - buf_offset) (omega (arith, above, below))
    ∙ slice_get-drop buf_offset wanted (i - buf_offset)
    ∙ ap (λ k. slice_get wanted k) (let e : buf_offset + (i - buf_offset) ≡ i = omega (arith, above) in e)

-- the bytes of a piece make those offsets right
put_agrees : (Else : ℕ → Type 0) (P : ℕ) (content : List ℕ) (piece : Piece) (buf wanted : List ℕ) → length buf ≡ length wanted → Fits P content wanted piece → AgreesOr (λ i. Covers piece i ⊎ Else i) buf wanted
    → AgreesOr Else (put_at piece.place (told_of P content piece) buf) wanted
put_agrees Else P content piece buf wanted size fits agrees i below =
    let bytes = told_of P content piece in
    let many : length bytes ≡ piece.len = length_of piece.place piece.len bytes wanted fits.bytes fits.within in
    let room : piece.place + length bytes ≤ length buf = omega (arith, many, size, fits.within) in
    elim (cases_lt i piece.place) [
      | inl before ↦ elim (agrees i below) [
        | inl right ↦ inl (put_before piece.place bytes buf i room before ∙ right)
        | inr (inl (above, under)) ↦ absurd (omega (arith, before, above))
        | inr (inr other) ↦ inr other
      ]
      | inr above ↦ elim (cases_lt i (piece.place + piece.len)) [
        | inl here ↦ inl (put_here piece.place piece.len bytes buf wanted i fits.bytes fits.within size above here)
        | inr after ↦ elim (agrees i below) [
          | inl right ↦ inl (put_after piece.place bytes buf i room (omega (arith, many, after)) ∙ right)
          | inr (inl (from, under)) ↦ absurd (omega (arith, after, under))
          | inr (inr other) ↦ inr other
        ]
      ]
    ]

put_size : (P : ℕ) (content : List ℕ) (piece : Piece) (buf wanted : List ℕ) → length buf ≡ length wanted → Fits P content wanted piece → length (put_at piece.place (told_of P content piece) buf) ≡ length wanted
put_size P content piece buf wanted size fits =
    let many = length_of piece.place piece.len (told_of P content piece) wanted fits.bytes fits.within in
    put_length piece.place (told_of P content piece) buf (omega (arith, many, size, fits.within)) ∙ size

-- all these pieces make their offsets right
pub told_agrees : (P : ℕ) (content : List ℕ) (pieces : List Piece) (buf wanted : List ℕ) → length buf ≡ length wanted → AllFit P content wanted pieces → AgreesOr (SomeCovers pieces) buf wanted
    → with_told P content pieces buf ≡ wanted
told_agrees P content [] buf wanted size fit agrees = sym (same_elements wanted buf (sym size) (λ i x is. elim (agrees i (slice_get_within wanted i x is)) [ inl right ↦ right ∙ is | inr none ↦ absurd none ]))
told_agrees P content (piece ∷ pieces) buf wanted size fit agrees =
    told_agrees P content pieces (put_at piece.place (told_of P content piece) buf) wanted (put_size P content piece buf wanted size fit.0) fit.1
    (put_agrees (SomeCovers pieces) P content piece buf wanted size fit.0 agrees)

-- the pieces of pages that the cache holds have the content's bytes
abbrev pub AreTrue : CacheState → (id P : ℕ) → List ℕ → List Piece → Type 0
AreTrue cache id P content [] = Unit {0}
AreTrue cache id P content (piece ∷ pieces) = ((bytes : List ℕ) → cached_page cache (id, piece.page) ≡ Some bytes → bytes ≡ page_of_content P content piece.page) × AreTrue cache id P content pieces

-- what a cache's copying leaves is right except for the pieces left, and has the wanted length
pub record LeavesPieces (Else : ℕ → Type 0) (wanted : List ℕ) (left : List Piece) (buf : List ℕ) : Type 0 where
  pub size : length buf ≡ length wanted
  pub agrees : AgreesOr (λ i. SomeCovers left i ⊎ Else i) buf wanted

pub held_agrees : (Else : ℕ → Type 0) (cache : CacheState) (id P : ℕ) (content : List ℕ) (pieces : List Piece) (buf wanted : List ℕ) → length buf ≡ length wanted → AllFit P content wanted pieces
    → AreTrue cache id P content pieces → AgreesOr (λ i. SomeCovers pieces i ⊎ Else i) buf wanted → LeavesPieces Else wanted (pieces_left cache id pieces) (with_pieces cache id pieces buf)
held_agrees Else cache id P content [] buf wanted size fit true_pages agrees = record { size = size; agrees = agrees }
held_agrees Else cache id P content (piece ∷ pieces) buf wanted size fit true_pages agrees =
    by_held (λ Else buf size agrees. held_agrees Else cache id P content pieces buf wanted size fit.1 true_pages.1 agrees) (cached_page cache (id, piece.page)) refl
  where
    goes : Option (List ℕ) → Type 0
    goes o = LeavesPieces Else wanted (cond (not (is_some o)) (piece ∷ pieces_left cache id pieces) (pieces_left cache id pieces)) (with_pieces cache id pieces (with_piece o piece buf))

    by_held : ((Else : ℕ → Type 0) (buf : List ℕ) → length buf ≡ length wanted → AgreesOr (λ i. SomeCovers pieces i ⊎ Else i) buf wanted → LeavesPieces Else wanted (pieces_left cache id pieces) (with_pieces cache id pieces buf))
        → (o : Option (List ℕ)) → cached_page cache (id, piece.page) ≡ o → goes o
    by_held later None is =
        let rest = later (λ i. Covers piece i ⊎ Else i) buf size (λ i below. elim (agrees i below) [
          | inl right ↦ inl right
          | inr (inl (inl here)) ↦ inr (inr (inl here))
          | inr (inl (inr later)) ↦ inr (inl later)
          | inr (inr other) ↦ inr (inr (inr other))
        ]) in
        record {
          size = rest.size;
          agrees = λ i below. elim (rest.agrees i below) [
            | inl right ↦ inl right
            | inr (inl later) ↦ inr (inl (inr later))
            | inr (inr (inl here)) ↦ inr (inl (inl here))
            | inr (inr (inr other)) ↦ inr (inr other)
          ];
        }
    by_held later (Some page) is =
        let told : page ≡ page_of_content P content piece.page = true_pages.0 page is in
        subst (λ (l : List ℕ). goes (Some l)) (sym told)
        (later Else (put_at piece.place (told_of P content piece) buf) (put_size P content piece buf wanted size fit.0)
        (put_agrees (λ i. SomeCovers pieces i ⊎ Else i) P content piece buf wanted size fit.0 (λ i below. elim (agrees i below) [
          | inl right ↦ inl right
          | inr (inl (inl here)) ↦ inr (inl here)
          | inr (inl (inr later)) ↦ inr (inr (inl later))
          | inr (inr other) ↦ inr (inr (inr other))
        ])))

-- pieces that are left fit
pub left_fit : (P : ℕ) (content wanted : List ℕ) (cache : CacheState) (id : ℕ) (pieces : List Piece) → AllFit P content wanted pieces → AllFit P content wanted (pieces_left cache id pieces)
left_fit P content wanted cache id [] fit = tt
left_fit P content wanted cache id (piece ∷ pieces) fit = by_test (left_fit P content wanted cache id pieces fit.1) (not (is_some (cached_page cache (id, piece.page))))
  where
    by_test : AllFit P content wanted (pieces_left cache id pieces) → (b : Bool) → AllFit P content wanted (cond b (piece ∷ pieces_left cache id pieces) (pieces_left cache id pieces))
    by_test rest true = (fit.0, rest)
    by_test rest false = rest
