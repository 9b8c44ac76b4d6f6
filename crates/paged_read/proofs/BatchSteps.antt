-- What a read of many ranges has gathered, part by part.
use Rattle.std.proofs.Common.{◌≡◌, ℕ, suc, ◌+◌, ◌-◌, ◌*◌, ◌/◌, ◌%◌, ◌<◌, ◌≤◌, List, [], ◌∷◌, ◌++◌, length, take, drop, get_or, refl, sym, ap, ◌∙◌, subst, arith, Bool, true, false, append_assoc, append-nil, length-append, length-drop, length-take, cond, nat_eq}
use Rattle.std.specs.Prelude.{Option, Some, None, slice_get, All, nat_le, ◌&&◌}
use Rattle.std.specs.List.{flat_map}
use Rattle.std.proofs.lemmas.List.{take-append-le, drop-append-le, take_at, drop_all, drop-drop, map-append}
use Rattle.std.proofs.lemmas.List.Elements.{All-push, All-cons, All-nil}
use Rattle.std.proofs.lemmas.List.Concat.{flat_map-append}
use Rattle.std.proofs.Math.Nat.{div-add-mod'}
use Rattle.disk.specs.Disk.{Disk}
use Rattle.crash.proofs.Lists.{within_take, slice_get-append_left}
use Rattle.std.proofs.lemmas.Option.{slice_get_within}
use Rattle.std.proofs.lemmas.Bool.{eqb-true, le-leb, and_parts}
use Rattle.cache.specs.CacheState.{CacheState, put_at}
use Rattle.cache.specs.Pages.{page_of_content}
use Rattle.cache.specs.declared.piece.Piece.{Piece}
use Rattle.cache.proofs.Reading.{put_length}
use Rattle.page.specs.Geometry.{EndWithin}
use Rattle.paged_read.specs.Tail.{Tail, logical_bytes, tail_size, CanRead}
use Rattle.paged_read.specs.Ranges.{is_served, slice, TryReadGoes}
use Rattle.paged_read.specs.Parts.{with_told}
use Rattle.paged_read.specs.Batch.{is_page, with_page, IsLack, pieces_in, Gathered}
use Rattle.paged_read.specs.declared.lack.Lack.{Lack}
use Rattle.paged_read.proofs.Leaving.{length-told}
use Rattle.paged_read.proofs.RangedPages.{missing_nil, missing_split, missing_none, missing_served, missing_page, unserved_page, last_pushed, served_none, served_split}
use Rattle.paged_read.proofs.BelowReads.{slice_two}

-- ---- pieces that are put at their offsets

-- the bytes of a piece of a content
abbrev pub piece_bytes : (P : ℕ) → List ℕ → Piece → List ℕ
piece_bytes P content piece = take piece.len (drop piece.skip (page_of_content P content piece.page))

length_piece : (P : ℕ) (content : List ℕ) (piece : Piece) → length (piece_bytes P content piece) ≤ piece.len
length_piece P content piece = omega (arith, length-take piece.len (drop piece.skip (page_of_content P content piece.page)))

-- bytes that are put within the front of a buffer leave the rest
put_front : (buf_offset : ℕ) (bytes xs ys : List ℕ) → buf_offset + length bytes ≤ length xs → put_at buf_offset bytes (xs ++ ys) ≡ put_at buf_offset bytes xs ++ ys
put_front buf_offset bytes xs ys fits =
    ap (λ (l : List ℕ). l ++ bytes ++ drop (buf_offset + length bytes) (xs ++ ys)) (take-append-le buf_offset xs ys (omega (arith, fits)))
    ∙ ap (λ (l : List ℕ). take buf_offset xs ++ bytes ++ l) (drop-append-le (buf_offset + length bytes) xs ys fits)
    ∙ sym (append_assoc (take buf_offset xs ++ bytes) (drop (buf_offset + length bytes) xs) ys)

-- room for pieces
abbrev pub HaveRoom : (room : ℕ) → List Piece → Type 0
HaveRoom room pieces = All (λ piece. piece.place + piece.len ≤ room) pieces

pub length_told_pieces : (P : ℕ) (content : List ℕ) (pieces : List Piece) (xs : List ℕ) → HaveRoom (length xs) pieces → length (with_told P content pieces xs) ≡ length xs
length_told_pieces P content [] xs room = refl
length_told_pieces P content (piece ∷ pieces) xs room =
    let same : length (put_at piece.place (piece_bytes P content piece) xs) ≡ length xs = put_length piece.place (piece_bytes P content piece) xs (omega (arith, length_piece P content piece, room 0 piece (omega arith))) in
    length_told_pieces P content pieces (put_at piece.place (piece_bytes P content piece) xs) (λ k d less. omega (arith, same, room (suc k) d (omega arith))) ∙ same

-- pieces of the front leave the rest
pub told_front : (P : ℕ) (content : List ℕ) (pieces : List Piece) (xs ys : List ℕ) → HaveRoom (length xs) pieces → with_told P content pieces (xs ++ ys) ≡ with_told P content pieces xs ++ ys
told_front P content [] xs ys room = refl
told_front P content (piece ∷ pieces) xs ys room =
    let fits : piece.place + length (piece_bytes P content piece) ≤ length xs = omega (arith, length_piece P content piece, room 0 piece (omega arith)) in
    let same : length (put_at piece.place (piece_bytes P content piece) xs) ≡ length xs = put_length piece.place (piece_bytes P content piece) xs fits in
    ap (λ (l : List ℕ). with_told P content pieces l) (put_front piece.place (piece_bytes P content piece) xs ys fits)
    ∙ told_front P content pieces (put_at piece.place (piece_bytes P content piece) xs) ys (λ k d less. omega (arith, same, room (suc k) d (omega arith)))

-- one piece more
pub told_push : (P : ℕ) (content : List ℕ) (pieces : List Piece) (piece : Piece) (xs : List ℕ) → with_told P content (pieces ++ piece ∷ []) xs ≡ put_at piece.place (piece_bytes P content piece) (with_told P content pieces xs)
told_push P content [] piece xs = refl
told_push P content (first ∷ pieces) piece xs = told_push P content pieces piece (put_at first.place (piece_bytes P content first) xs)

-- ---- what was gathered

-- the pieces lie before the offset
lacks_room : (P : ℕ) (pages : List ℕ) (room : ℕ) (lacks : List Lack) (xs : List ℕ) → All (IsLack P pages room) lacks → length xs ≡ room → HaveRoom (length xs) (pieces_in lacks)
lacks_room P pages room [] xs each is = All-nil (λ piece. piece.place + piece.len ≤ length xs)
lacks_room P pages room (lack ∷ lacks) xs each is =
    All-cons (λ piece. piece.place + piece.len ≤ length xs) lack.piece (pieces_in lacks) (let h = each 0 lack (omega arith) in omega (arith, h.fits, is))
    (lacks_room P pages room lacks xs (λ k d less. each (suc k) d (omega arith)) is)

push_slices : (content : List ℕ) (ranges : List (ℕ × ℕ)) (range : ℕ × ℕ) → flat_map (slice content) (ranges ++ range ∷ []) ≡ flat_map (slice content) ranges ++ slice content range
push_slices content ranges range = flat_map-append (slice content) ranges (range ∷ []) ∙ ap (λ (l : List ℕ). flat_map (slice content) ranges ++ l) (append-nil (slice content range))

slices_split : (content : List ℕ) (ranges : List (ℕ × ℕ)) (o d n : ℕ) → flat_map (slice content) (ranges ++ (o, d + n) ∷ []) ≡ flat_map (slice content) ((ranges ++ (o, d) ∷ []) ++ (o + d, n) ∷ [])
slices_split content ranges o d n =
    let before = flat_map (slice content) ranges in
    push_slices content ranges (o, d + n)
    ∙ ap (λ (l : List ℕ). before ++ l) (slice_two content o d n)
    ∙ sym (append_assoc before (slice content (o, d)) (slice content (o + d, n)))
    ∙ ap (λ (l : List ℕ). l ++ slice content (o + d, n)) (sym (push_slices content ranges (o, d)))
    ∙ sym (push_slices content (ranges ++ (o, d) ∷ []) (o + d, n))

-- nothing is gathered yet
pub gathered_start : (cache : CacheState) (t : Tail) (pages : List ℕ) (lacks : List Lack) (buf : List ℕ) → pages ≡ [] → lacks ≡ [] → Gathered cache t [] 0 pages lacks buf
gathered_start cache t pages lacks buf no_pages no_lacks = record {
  wanted = no_pages ∙ sym (missing_nil cache t);
  each = subst (λ l. All (IsLack t.page_size pages 0) l) (sym no_lacks) (All-nil (IsLack t.page_size pages 0));
  bytes = λ d can. ap (λ (l : List Lack). with_told t.page_size (logical_bytes t d.readable) (pieces_in l) []) no_lacks;
}

-- an empty range is gathered
pub gathered_none : (cache : CacheState) (t : Tail) (ranges : List (ℕ × ℕ)) (o buf_offset : ℕ) (pages : List ℕ) (lacks : List Lack) (buf : List ℕ) → Gathered cache t ranges buf_offset pages lacks buf
    → Gathered cache t (ranges ++ (o, 0) ∷ []) buf_offset pages lacks buf
gathered_none cache t ranges o buf_offset pages lacks buf g = record {
  wanted = g.wanted ∙ sym (missing_none cache t ranges o);
  each = g.each;
  bytes = λ d can. g.bytes d can ∙ sym (push_slices (logical_bytes t d.readable) ranges (o, 0) ∙ append-nil (flat_map (slice (logical_bytes t d.readable)) ranges));
}

-- a range of two parts is gathered where its parts are
pub gathered_split : (cache : CacheState) (t : Tail) (ranges : List (ℕ × ℕ)) (o d n buf_offset : ℕ) (pages : List ℕ) (lacks : List Lack) (buf : List ℕ) → 0 < t.page_size
    → Gathered cache t ((ranges ++ (o, d) ∷ []) ++ (o + d, n) ∷ []) buf_offset pages lacks buf → Gathered cache t (ranges ++ (o, d + n) ∷ []) buf_offset pages lacks buf
gathered_split cache t ranges o d n buf_offset pages lacks buf wide g = record {
  wanted = g.wanted ∙ sym (missing_split cache t ranges o d n wide);
  each = g.each;
  bytes = λ disk can. g.bytes disk can ∙ sym (slices_split (logical_bytes t disk.readable) ranges o d n);
}

wider : (P : ℕ) (pages : List ℕ) (room more : ℕ) (lacks : List Lack) → room ≤ more → All (IsLack P pages room) lacks → All (IsLack P pages more) lacks
wider P pages room more lacks le each = λ k d less.
    let h = each k d less in
    record { page = h.page; within = h.within; fits = omega (arith, h.fits, le) }

-- a part that was copied is gathered
pub gathered_served : (cache : CacheState) (t : Tail) (ranges : List (ℕ × ℕ)) (o n buf_offset : ℕ) (pages : List ℕ) (lacks : List Lack) (buf part after : List ℕ) → buf_offset ≤ length buf
    → is_served cache t (o, n) ≡ true → take (buf_offset + n) after ≡ take buf_offset buf ++ part → ((d : Disk) → CanRead t cache d → part ≡ slice (logical_bytes t d.readable) (o, n))
    → Gathered cache t ranges buf_offset pages lacks buf → Gathered cache t (ranges ++ (o, n) ∷ []) (buf_offset + n) pages lacks after
gathered_served cache t ranges o n buf_offset pages lacks buf part after fits served front is g = record {
  wanted = g.wanted ∙ sym (missing_served cache t ranges (o, n) served);
  each = wider t.page_size pages buf_offset (buf_offset + n) lacks (omega arith) g.each;
  bytes = λ d can.
      let content = logical_bytes t d.readable in
      let short : length (take buf_offset buf) ≡ buf_offset = omega (arith, length-take buf_offset buf, fits) in
      ap (λ (l : List ℕ). with_told t.page_size content (pieces_in lacks) l) front
      ∙ told_front t.page_size content (pieces_in lacks) (take buf_offset buf) part (lacks_room t.page_size pages buf_offset lacks (take buf_offset buf) g.each short)
      ∙ ap (λ (l : List ℕ). l ++ part) (g.bytes d can)
      ∙ ap (λ (l : List ℕ). flat_map (slice content) ranges ++ l) (is d can)
      ∙ sym (push_slices content ranges (o, n));
}

-- ---- a part that is lacking

last_is : (q : ℕ) (xs : List ℕ) (o : Option ℕ) → slice_get xs (length xs - 1) ≡ o → slice_get (cond (is_page q o) xs (xs ++ q ∷ [])) (length (cond (is_page q o) xs (xs ++ q ∷ [])) - 1) ≡ Some q
last_is q xs None is = last_pushed q xs
last_is q xs (Some x) is = by_test (nat_eq x q) refl
  where
    by_test : (b : Bool) → nat_eq x q ≡ b → slice_get (cond b xs (xs ++ q ∷ [])) (length (cond b xs (xs ++ q ∷ [])) - 1) ≡ Some q
    by_test true same = is ∙ ap (λ (n : ℕ). Some n) (eqb-true x q same)
    by_test false apart = last_pushed q xs

-- the page that was added is the last
pub with_page_last : (q : ℕ) (xs : List ℕ) → slice_get (with_page q xs) (length (with_page q xs) - 1) ≡ Some q
with_page_last q xs = last_is q xs (slice_get xs (length xs - 1)) refl

-- the others keep their numbers
with_page_keeps : (q : ℕ) (xs : List ℕ) (i x : ℕ) → slice_get xs i ≡ Some x → slice_get (with_page q xs) i ≡ Some x
with_page_keeps q xs i x is = by_test (is_page q (slice_get xs (length xs - 1)))
  where
    by_test : (b : Bool) → slice_get (cond b xs (xs ++ q ∷ [])) i ≡ Some x
    by_test true = is
    by_test false = slice_get-append_left xs (q ∷ []) i (slice_get_within xs i x is) ∙ is

-- bytes that are put at the end
put_end : (buf_offset : ℕ) (bytes xs ys : List ℕ) → length xs ≡ buf_offset → length ys ≡ length bytes → put_at buf_offset bytes (xs ++ ys) ≡ xs ++ bytes
put_end buf_offset bytes xs ys is same =
    ap (λ (l : List ℕ). l ++ bytes ++ drop (buf_offset + length bytes) (xs ++ ys)) (take_at xs ys buf_offset is)
    ∙ ap (λ (l : List ℕ). xs ++ bytes ++ l) (drop_all (buf_offset + length bytes) (xs ++ ys) (omega (arith, length-append xs ys, is, same)))
    ∙ append-nil (xs ++ bytes)

-- bytes within one page
piece_is : (P o n : ℕ) (content : List ℕ) → o % P + n ≤ P → take n (drop (o % P) (page_of_content P content (o / P))) ≡ slice content (o, n)
piece_is P o n content within =
    within_take n (o % P) P (drop (o / P * P) content) within
    ∙ ap (λ (l : List ℕ). take n l) (drop-drop (o % P) (o / P * P) content)
    ∙ ap (λ (k : ℕ). take n (drop k content)) (div-add-mod' o P)

-- a part that was added to the batch is gathered
pub gathered_lacked : (cache : CacheState) (t : Tail) (ranges : List (ℕ × ℕ)) (o n buf_offset : ℕ) (pages more : List ℕ) (lacks added : List Lack) (piece : Piece) (buf part after : List ℕ) → 0 < t.page_size → 0 < n
    → buf_offset ≤ length buf → length part ≡ n → o + n ≤ tail_size t → EndWithin o ranges → (o < t.full_pages * t.page_size → o % t.page_size + n ≤ t.page_size) → is_served cache t (o, n) ≡ false
    → take (buf_offset + n) after ≡ take buf_offset buf ++ part → piece ≡ record { page = o / t.page_size; skip = o % t.page_size; place = buf_offset; len = n } → more ≡ with_page piece.page pages
    → added ≡ lacks ++ record { number = length more - 1; piece = piece } ∷ [] → Gathered cache t ranges buf_offset pages lacks buf → Gathered cache t (ranges ++ (o, n) ∷ []) (buf_offset + n) more added after
gathered_lacked cache t ranges o n buf_offset pages more lacks added piece buf part after wide some fits size ends before page unserved front piece_eq more_is added_is g =
    let P = t.page_size in
    let q = o / P in
    let here : piece.page ≡ q = ap (λ (p : Piece). p.page) piece_eq in
    let pages_eq : more ≡ with_page q pages = more_is ∙ ap (λ (p : ℕ). with_page p pages) here in
    let h = unserved_page cache t o n wide page unserved in
    let lack : Lack = record { number = length more - 1; piece = piece } in
    let last : slice_get more (length more - 1) ≡ Some piece.page = ap (λ (l : List ℕ). slice_get l (length l - 1)) pages_eq ∙ with_page_last q pages ∙ ap (λ (p : ℕ). Some p) (sym here) in
    let old_each : All (IsLack P more (buf_offset + n)) lacks = λ k d less.
    let l = g.each k d less in
    record { page = ap (λ (xs : List ℕ). slice_get xs (get_or lacks k d).number) pages_eq ∙ with_page_keeps q pages _ _ l.page; within = l.within; fits = omega (arith, l.fits) } in
    let new_is : IsLack P more (buf_offset + n) lack = record {
      page = last;
      within = omega (arith, ap (λ (p : Piece). p.skip + p.len) piece_eq, h.1);
      fits = omega (arith, ap (λ (p : Piece). p.place + p.len) piece_eq);
    } in
    record {
      wanted = pages_eq ∙ ap (λ (l : List ℕ). with_page q l) g.wanted ∙ sym (missing_page cache t ranges o n wide some before page unserved);
      each = subst (λ l. All (IsLack P more (buf_offset + n)) l) (sym added_is) (All-push (IsLack P more (buf_offset + n)) lacks lack old_each new_is);
      bytes = λ d can.
          let content = logical_bytes t d.readable in
          let short : length (take buf_offset buf) ≡ buf_offset = omega (arith, length-take buf_offset buf, fits) in
          let done = with_told P content (pieces_in lacks) (take buf_offset buf) in
          let room = lacks_room P pages buf_offset lacks (take buf_offset buf) g.each short in
          let long : length done ≡ buf_offset = length_told_pieces P content (pieces_in lacks) (take buf_offset buf) room ∙ short in
          let all : length content ≡ tail_size t = length-told t d.readable can.there in
          let is : piece_bytes P content piece ≡ slice content (o, n) = ap (λ (p : Piece). piece_bytes P content p) piece_eq ∙ piece_is P o n content h.1 in
          let enough : length (slice content (o, n)) ≡ n = omega (arith, length-take n (drop o content), length-drop o content, all, ends) in
          ap (λ (l : List Lack). with_told P content (pieces_in l) (take (buf_offset + n) after)) added_is
          ∙ ap (λ (l : List Piece). with_told P content l (take (buf_offset + n) after)) (map-append (λ (l : Lack). l.piece) lacks (lack ∷ []))
          ∙ told_push P content (pieces_in lacks) piece (take (buf_offset + n) after)
          ∙ ap (λ (l : List ℕ). put_at piece.place (piece_bytes P content piece) (with_told P content (pieces_in lacks) l)) front
          ∙ ap (λ (l : List ℕ). put_at piece.place (piece_bytes P content piece) l) (told_front P content (pieces_in lacks) (take buf_offset buf) part room)
          ∙ ap (λ (k : ℕ). put_at k (piece_bytes P content piece) (done ++ part)) (ap (λ (p : Piece). p.place) piece_eq)
          ∙ put_end buf_offset (piece_bytes P content piece) done part long (omega (arith, size, enough, ap length is))
          ∙ ap (λ (l : List ℕ). done ++ l) is
          ∙ ap (λ (l : List ℕ). l ++ slice content (o, n)) (g.bytes d can)
          ∙ sym (push_slices content ranges (o, n));
    }

-- ---- what a part without the device answers

pub tried_served : (t : Tail) (range : ℕ × ℕ) (cache : CacheState) (bytes : List ℕ) (answer : Bool) → TryReadGoes t range cache bytes answer → answer ≡ true → is_served cache t range ≡ true
tried_served t range cache bytes answer tries met = (and_parts _ _ (sym tries.0 ∙ met)).1

pub tried_unserved : (t : Tail) (range : ℕ × ℕ) (cache : CacheState) (bytes : List ℕ) (answer : Bool) → TryReadGoes t range cache bytes answer → range.0 + range.1 ≤ tail_size t → answer ≡ false → is_served cache t range ≡ false
tried_unserved t range cache bytes answer tries ends none =
    let there : nat_le (range.0 + range.1) (tail_size t) ≡ true = le-leb (range.0 + range.1) (tail_size t) ends in
    sym (ap (λ (b : Bool). b && is_served cache t range) there) ∙ sym tries.0 ∙ none

-- the part of a buffer for so many bytes
pub length_part : (buf_offset n : ℕ) (buf : List ℕ) → buf_offset + n ≤ length buf → length (take (buf_offset + n - buf_offset) (drop buf_offset buf)) ≡ n
length_part buf_offset n buf fits = omega (arith, length-take (buf_offset + n - buf_offset) (drop buf_offset buf), length-drop buf_offset buf, fits)

pub tried_part : (t : Tail) (o n buf_offset : ℕ) (cache : CacheState) (buf bytes : List ℕ) (answer : Bool) → buf_offset + n ≤ length buf → TryReadGoes t (o, length (take (buf_offset + n - buf_offset) (drop buf_offset buf))) cache bytes answer
    → TryReadGoes t (o, n) cache bytes answer
tried_part t o n buf_offset cache buf bytes answer fits tries = subst (λ (m : ℕ). TryReadGoes t (o, m) cache bytes answer) (length_part buf_offset n buf fits) tries

-- ---- a range, part by part

-- of a range none is served yet
pub served_start : (cache : CacheState) (t : Tail) (o n : ℕ) → n ≡ 0 → true ≡ is_served cache t (o, n)
served_start cache t o n none = sym (ap (λ (m : ℕ). is_served cache t (o, m)) none ∙ served_none cache t o)

pub gathered_empty : (cache : CacheState) (t : Tail) (ranges : List (ℕ × ℕ)) (o n buf_offset : ℕ) (pages : List ℕ) (lacks : List Lack) (buf : List ℕ) → n ≡ 0 → Gathered cache t ranges buf_offset pages lacks buf
    → Gathered cache t (ranges ++ (o, n) ∷ []) (buf_offset + n) pages lacks buf
gathered_empty cache t ranges o n buf_offset pages lacks buf none g =
    let here : buf_offset ≡ buf_offset + n = omega (arith, none) in
    let first : Gathered cache t (ranges ++ (o, n) ∷ []) buf_offset pages lacks buf = subst (λ (m : ℕ). Gathered cache t (ranges ++ (o, m) ∷ []) buf_offset pages lacks buf) (sym none) (gathered_none cache t ranges o buf_offset pages lacks buf g) in
    subst (λ (m : ℕ). Gathered cache t (ranges ++ (o, n) ∷ []) m pages lacks buf) here first

-- one part more of a range
pub served_more : (cache : CacheState) (t : Tail) (o at n : ℕ) (before here : Bool) → 0 < t.page_size → o ≤ at → before ≡ is_served cache t (o, at - o) → here ≡ is_served cache t (at, n)
    → (before && here) ≡ is_served cache t (o, at + n - o)
served_more cache t o at n before here wide ahead first second =
    let joined : at - o + n ≡ at + n - o = omega (arith, ahead) in
    let buf_offset : o + (at - o) ≡ at = omega (arith, ahead) in
    ap (λ (b : Bool). b && here) first ∙ ap (λ (b : Bool). is_served cache t (o, at - o) && b) (second ∙ ap (λ (k : ℕ). is_served cache t (k, n)) (sym buf_offset))
    ∙ sym (served_split cache t o (at - o) n wide) ∙ ap (λ (m : ℕ). is_served cache t (o, m)) joined

end_more : (o at : ℕ) (ranges : List (ℕ × ℕ)) → o ≤ at → EndWithin o ranges → EndWithin at (ranges ++ (o, at - o) ∷ [])
end_more o at ranges ahead ends = All-push (λ range. range.0 + range.1 ≤ at) ranges (o, at - o) (λ k d less. omega (arith, ends k d less, ahead)) (omega (arith, ahead))

pub gathered_more : (cache : CacheState) (t : Tail) (ranges : List (ℕ × ℕ)) (o at n buf_offset : ℕ) (pages more : List ℕ) (lacks added : List Lack) (buf after : List ℕ) → 0 < t.page_size → o ≤ at → EndWithin o ranges
    → Gathered cache t (ranges ++ (o, at - o) ∷ []) (buf_offset + (at - o)) pages lacks buf
    → ((others : List (ℕ × ℕ)) → EndWithin at others → Gathered cache t others (buf_offset + (at - o)) pages lacks buf → Gathered cache t (others ++ (at, n) ∷ []) (buf_offset + (at - o) + n) more added after)
    → Gathered cache t (ranges ++ (o, at + n - o) ∷ []) (buf_offset + (at + n - o)) more added after
gathered_more cache t ranges o at n buf_offset pages more lacks added buf after wide ahead ends before step =
    let d = at - o in
    let here : at ≡ o + d = omega (arith, ahead) in
    let joined : d + n ≡ at + n - o = omega (arith, ahead) in
    let reach : buf_offset + d + n ≡ buf_offset + (at + n - o) = omega (arith, ahead) in
    let parts : Gathered cache t ((ranges ++ (o, d) ∷ []) ++ (o + d, n) ∷ []) (buf_offset + d + n) more added after =
    subst (λ (k : ℕ). Gathered cache t ((ranges ++ (o, d) ∷ []) ++ (k, n) ∷ []) (buf_offset + d + n) more added after) here (step (ranges ++ (o, d) ∷ []) (end_more o at ranges ahead ends) before) in
    let whole : Gathered cache t (ranges ++ (o, d + n) ∷ []) (buf_offset + d + n) more added after = gathered_split cache t ranges o d n (buf_offset + d + n) more added after wide parts in
    let there : Gathered cache t (ranges ++ (o, at + n - o) ∷ []) (buf_offset + d + n) more added after = subst (λ (m : ℕ). Gathered cache t (ranges ++ (o, m) ∷ []) (buf_offset + d + n) more added after) joined whole in
    subst (λ (m : ℕ). Gathered cache t (ranges ++ (o, at + n - o) ∷ []) m more added after) reach there

-- what a part within the size answers is whether it's served
pub tried_is : (t : Tail) (range : ℕ × ℕ) (cache : CacheState) (bytes : List ℕ) (answer : Bool) → TryReadGoes t range cache bytes answer → range.0 + range.1 ≤ tail_size t → answer ≡ is_served cache t range
tried_is t range cache bytes answer tries ends = tries.0 ∙ ap (λ (b : Bool). b && is_served cache t range) (le-leb (range.0 + range.1) (tail_size t) ends)
