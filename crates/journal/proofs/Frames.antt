-- Laws of frames.
use Rattle.std.proofs.Common.{◌≡◌, inl, inr, ◌&&◌, ◌==◌, ℕ, zero, suc, ◌+◌, ◌-◌, ◌^◌, ◌<◌, ◌≤◌, List, [], ◌∷◌, ◌++◌, length, take, drop, get_or, Bool, true, false, refl, sym, ap, ap₂, ◌∙◌, arith, min, append-nil, subst, length-append, length-take, length-drop, eq-eqb}
use Rattle.std.specs.Prelude.{Some, None, Option, if◌then◌else◌, slice_range}
use Rattle.std.specs.List.{flat_map}
use Rattle.std.specs.Int.{w16, w32, to_be_bytes, from_be_bytes}
use Rattle.std.proofs.lemmas.List.{append_assoc, take-take, get_or-append-add, get_or-take, get_or-drop, get_or_past, get_or_append_left, take_all, take_at, drop_all, drop-drop, drop-take, drop-append-le, drop_at, take-append-le, take-append-drop}
use Rattle.std.proofs.lemmas.Nat.{from_be_bytes-to_be_bytes_2, from_be_bytes-to_be_bytes_4}
use Rattle.std.proofs.Math.Nat.{add_comm}
use Rattle.std.proofs.Math.Seq.{take-add}
use Rattle.std.proofs.lemmas.Bool.{cases_lt, lt-ltb, le-ltb, ne_eqb}
use Rattle.journal.specs.Frame.{frame, record_len, frame_len, is_record, record_of, frames_in, frames, listed, records, if_whole, whole_frames, AreWholeFrames, IsPrefix}

-- what lies within a prefix of some bytes lies in all of them
pub within_take : (n k m : ℕ) (xs : List ℕ) → k + n ≤ m → take n (drop k (take m xs)) ≡ take n (drop k xs)
within_take n k m xs le =
    let e : m ≡ k + (m - k) = omega arith in
    ap (λ (j : ℕ). take n (drop k (take j xs))) e ∙ ap (λ (l : List ℕ). take n l) (drop-take k (m - k) xs) ∙ take-take n (m - k) (drop k xs) (omega arith)

-- the bytes of two lists are the same up to this offset; what a list lacks counts as 0
abbrev Agree : ℕ → List ℕ → List ℕ → Type 0
Agree n xs ys = (i : ℕ) → i < n → get_or xs i 0 ≡ get_or ys i 0

two_agree : (xs ys : List ℕ) → Agree 2 xs ys → from_be_bytes w16 xs ≡ from_be_bytes w16 ys
two_agree xs ys same = ap₂ (λ a b. from_be_bytes w16 (a ∷ b ∷ [])) (same 0 (omega arith)) (same 1 (omega arith))

four_agree : (xs ys : List ℕ) → Agree 4 xs ys → from_be_bytes w32 xs ≡ from_be_bytes w32 ys
four_agree xs ys same =
    ap₂ (λ a b. from_be_bytes w32 (a ∷ b ∷ get_or xs 2 0 ∷ get_or xs 3 0 ∷ [])) (same 0 (omega arith)) (same 1 (omega arith))
    ∙ ap₂ (λ c d. from_be_bytes w32 (get_or ys 0 0 ∷ get_or ys 1 0 ∷ c ∷ d ∷ [])) (same 2 (omega arith)) (same 3 (omega arith))

record_len-agree : (xs ys : List ℕ) → Agree 2 xs ys → record_len xs ≡ record_len ys
unfolding record_len
record_len-agree xs ys same = two_agree xs ys same

-- a prefix that has the length's two bytes has the same length
pub record_len-take : (k : ℕ) (xs : List ℕ) → 2 ≤ k → record_len (take k xs) ≡ record_len xs
record_len-take k xs enough = record_len-agree (take k xs) xs (λ i lt. get_or-take k xs i 0 (omega arith))

record_len-append : (xs ys : List ℕ) → 2 ≤ length xs → record_len (xs ++ ys) ≡ record_len xs
record_len-append xs ys enough = record_len-agree (xs ++ ys) xs (λ i lt. get_or_append_left xs ys 0 i (omega arith))

-- a checksum, read byte by byte
four_read : (xs : List ℕ) (n : ℕ) → from_be_bytes w32 (get_or xs (n + 2) 0 ∷ get_or xs (n + 3) 0 ∷ get_or xs (n + 4) 0 ∷ get_or xs (n + 5) 0 ∷ []) ≡ from_be_bytes w32 (drop (n + 2) xs)
four_read xs n =
    let at : (i : ℕ) → get_or xs (n + 2 + i) 0 ≡ get_or (drop (n + 2) xs) i 0 = λ i. sym (get_or-drop (n + 2) xs i 0) in
    let one : (i j : ℕ) → i ≡ n + 2 + j → get_or xs i 0 ≡ get_or (drop (n + 2) xs) j 0 = λ i j e. ap (λ k. get_or xs k 0) e ∙ at j in
    ap₂ (λ a b. from_be_bytes w32 (a ∷ b ∷ get_or xs (n + 4) 0 ∷ get_or xs (n + 5) 0 ∷ [])) (one (n + 2) 0 (omega arith)) (one (n + 3) 1 (omega arith))
    ∙ ap₂ (λ c d. from_be_bytes w32 (get_or (drop (n + 2) xs) 0 0 ∷ get_or (drop (n + 2) xs) 1 0 ∷ c ∷ d ∷ [])) (one (n + 4) 2 (omega arith)) (one (n + 5) 3 (omega arith))

-- a frame's mark, checksum and record decide whether it is one
abbrev judged : (List ℕ → ℕ) → ℕ → ℕ → List ℕ → Bool
judged sum mark crc bytes = (mark == 1) && (crc == sum bytes)

is_record-take : (sum : List ℕ → ℕ) (k : ℕ) (xs : List ℕ) → frame_len xs ≤ k → is_record sum (take k xs) ≡ is_record sum xs
unfolding is_record
is_record-take sum k xs le =
    let n = record_len xs in
    let crc : from_be_bytes w32 (drop (n + 2) (take k xs)) ≡ from_be_bytes w32 (drop (n + 2) xs) =
    four_agree (drop (n + 2) (take k xs)) (drop (n + 2) xs) (λ i lt. get_or-drop (n + 2) (take k xs) i 0 ∙ get_or-take k xs (n + 2 + i) 0 (omega arith) ∙ sym (get_or-drop (n + 2) xs i 0)) in
    ap (λ m. judged sum (get_or (take k xs) (m + 6) 0) (from_be_bytes w32 (drop (m + 2) (take k xs))) (take m (drop 2 (take k xs)))) (record_len-take k xs (omega arith))
    ∙ ap (λ mark. judged sum mark (from_be_bytes w32 (drop (n + 2) (take k xs))) (take n (drop 2 (take k xs)))) (get_or-take k xs (n + 6) 0 (omega arith))
    ∙ ap₂ (λ c bytes. judged sum (get_or xs (n + 6) 0) c bytes) crc (within_take n 2 k xs (omega arith))

-- a frame with another mark is no record
is_record-other : (sum : List ℕ → ℕ) (xs : List ℕ) → (get_or xs (record_len xs + 6) 0 ≡ 1 → ⊥) → is_record sum xs ≡ false
unfolding is_record
is_record-other sum xs other =
    ap (λ is. is && (from_be_bytes w32 (drop (record_len xs + 2) xs) == sum (take (record_len xs) (drop 2 xs)))) (ne_eqb (get_or xs (record_len xs + 6) 0) 1 other)

is_record-unmarked : (sum : List ℕ → ℕ) (xs : List ℕ) → get_or xs (record_len xs + 6) 0 ≡ 0 → is_record sum xs ≡ false
is_record-unmarked sum xs none = is_record-other sum xs (λ one. absurd (omega arith))

-- a frame with its mark is one where its checksum is right
is_record-marked : (sum : List ℕ → ℕ) (xs : List ℕ) (n crc : ℕ) → n ≡ record_len xs → get_or xs (n + 6) 0 ≡ 1
    → crc ≡ from_be_bytes w32 (get_or xs (n + 2) 0 ∷ get_or xs (n + 3) 0 ∷ get_or xs (n + 4) 0 ∷ get_or xs (n + 5) 0 ∷ [])
    → (crc == sum (take n (drop 2 xs))) ≡ is_record sum xs
unfolding is_record
is_record-marked sum xs n crc is mark same =
    let l : List ℕ = get_or xs (n + 2) 0 ∷ get_or xs (n + 3) 0 ∷ get_or xs (n + 4) 0 ∷ get_or xs (n + 5) 0 ∷ [] in
    let read : crc ≡ from_be_bytes w32 (drop (n + 2) xs) = same ∙ four_read xs n in
    ap₂ (λ m c. judged sum m c (take n (drop 2 xs))) (sym mark) read
    ∙ ap (λ k. judged sum (get_or xs (k + 6) 0) (from_be_bytes w32 (drop (k + 2) xs)) (take k (drop 2 xs))) is

-- ---- what stands after a frame's length

after_at : (frame bytes : List ℕ) (i j : ℕ) → drop 2 frame ≡ bytes → j ≡ 2 + i → get_or bytes i 0 ≡ get_or frame j 0
after_at frame bytes i j is e = ap (λ (l : List ℕ). get_or l i 0) (sym is) ∙ get_or-drop 2 frame i 0 ∙ ap (λ k. get_or frame k 0) (sym e)

-- a frame has another mark
unmarked_after : (sum : List ℕ → ℕ) (frame bytes : List ℕ) (n : ℕ) → record_len frame ≡ n → drop 2 frame ≡ bytes → (get_or bytes (n + 4) 0 ≡ 1 → ⊥) → false ≡ is_record sum frame
unmarked_after sum frame bytes n len is other =
    sym (is_record-other sum frame (λ one. other (after_at frame bytes (n + 4) (record_len frame + 6) is (omega (arith, len)) ∙ one)))

-- a frame has the mark
marked_after : (sum : List ℕ → ℕ) (frame bytes : List ℕ) (n crc : ℕ) → record_len frame ≡ n → drop 2 frame ≡ bytes → get_or bytes (n + 4) 0 ≡ 1
    → crc ≡ from_be_bytes w32 (get_or bytes n 0 ∷ get_or bytes (n + 1) 0 ∷ get_or bytes (n + 2) 0 ∷ get_or bytes (n + 3) 0 ∷ [])
    → (crc == sum (take n bytes)) ≡ is_record sum frame
marked_after sum frame bytes n crc len is mark same =
    let at : (i j : ℕ) → j ≡ 2 + i → get_or bytes i 0 ≡ get_or frame j 0 = λ i j e. after_at frame bytes i j is e in
    let read : crc ≡ from_be_bytes w32 (get_or frame (n + 2) 0 ∷ get_or frame (n + 3) 0 ∷ get_or frame (n + 4) 0 ∷ get_or frame (n + 5) 0 ∷ []) =
    same
    ∙ ap₂ (λ a b. from_be_bytes w32 (a ∷ b ∷ get_or bytes (n + 2) 0 ∷ get_or bytes (n + 3) 0 ∷ [])) (at n (n + 2) (omega arith)) (at (n + 1) (n + 3) (omega arith))
    ∙ ap₂ (λ a b. from_be_bytes w32 (get_or frame (n + 2) 0 ∷ get_or frame (n + 3) 0 ∷ a ∷ b ∷ [])) (at (n + 2) (n + 4) (omega arith)) (at (n + 3) (n + 5) (omega arith)) in
    ap (λ (l : List ℕ). crc == sum (take n l)) (sym is)
    ∙ is_record-marked sum frame n crc (sym len) (sym (at (n + 4) (n + 6) (omega arith)) ∙ mark) read

pub record_of-none : (sum : List ℕ → ℕ) (frame : List ℕ) → is_record sum frame ≡ false → None ≡ record_of sum frame
unfolding record_of
record_of-none sum frame is = ap (λ b. if b then Some (take (record_len frame) (drop 2 frame)) else None) (sym is)

pub record_of-after : (sum : List ℕ → ℕ) (frame bytes : List ℕ) (offset n : ℕ) → is_record sum frame ≡ true → record_len frame ≡ n → drop 2 frame ≡ drop offset bytes → Some (slice_range bytes offset (offset + n)) ≡ record_of sum frame
unfolding record_of
record_of-after sum frame bytes offset n is len after =
    let k : offset + n - offset ≡ n = omega arith in
    ap (λ m. Some (take m (drop offset bytes))) k
    ∙ ap (λ (l : List ℕ). Some (take n l)) (sym after)
    ∙ ap₂ (λ b m. if b then Some (take m (drop 2 frame)) else None) (sym is) (sym len)

-- ---- what stands after a record's bytes: its checksum and the mark

past_bytes : (bytes after : List ℕ) (i j : ℕ) → i ≡ length bytes + j → get_or (bytes ++ after) i 0 ≡ get_or after j 0
past_bytes bytes after i j e = ap (λ k. get_or (bytes ++ after) k 0) e ∙ get_or-append-add bytes after j 0

-- the byte after the checksum is another mark
pub unmarked_before : (sum : List ℕ → ℕ) (frame bytes after : List ℕ) → record_len frame ≡ length bytes → drop 2 frame ≡ bytes ++ after → (get_or after 4 0 ≡ 1 → ⊥) → false ≡ is_record sum frame
unmarked_before sum frame bytes after len is other =
    unmarked_after sum frame (bytes ++ after) (length bytes) len is (λ one. other (sym (past_bytes bytes after (length bytes + 4) 4 refl) ∙ one))

-- the byte after the checksum is the mark
pub marked_before : (sum : List ℕ → ℕ) (frame bytes after : List ℕ) (crc : ℕ) → record_len frame ≡ length bytes → drop 2 frame ≡ bytes ++ after → get_or after 4 0 ≡ 1
    → crc ≡ from_be_bytes w32 (get_or after 0 0 ∷ get_or after 1 0 ∷ get_or after 2 0 ∷ get_or after 3 0 ∷ []) → (crc == sum bytes) ≡ is_record sum frame
marked_before sum frame bytes after crc len is mark same =
    let n = length bytes in
    let all = bytes ++ after in
    let read : crc ≡ from_be_bytes w32 (get_or all n 0 ∷ get_or all (n + 1) 0 ∷ get_or all (n + 2) 0 ∷ get_or all (n + 3) 0 ∷ []) =
    same
    ∙ ap₂ (λ a b. from_be_bytes w32 (a ∷ b ∷ get_or after 2 0 ∷ get_or after 3 0 ∷ [])) (sym (past_bytes bytes after n 0 (omega arith))) (sym (past_bytes bytes after (n + 1) 1 refl))
    ∙ ap₂ (λ a b. from_be_bytes w32 (get_or all n 0 ∷ get_or all (n + 1) 0 ∷ a ∷ b ∷ [])) (sym (past_bytes bytes after (n + 2) 2 refl)) (sym (past_bytes bytes after (n + 3) 3 refl)) in
    ap (λ (l : List ℕ). crc == sum l) (sym (take_at bytes after n refl)) ∙ marked_after sum frame all n crc len is (past_bytes bytes after (n + 4) 4 refl ∙ mark) read

pub record_of-before : (sum : List ℕ → ℕ) (frame bytes after : List ℕ) → is_record sum frame ≡ true → record_len frame ≡ length bytes → drop 2 frame ≡ bytes ++ after → Some bytes ≡ record_of sum frame
unfolding record_of
record_of-before sum frame bytes after is len rest =
    ap Some (sym (take_at bytes after (length bytes) refl) ∙ ap (λ (l : List ℕ). take (length bytes) l) (sym rest))
    ∙ ap₂ (λ b m. if b then Some (take m (drop 2 frame)) else None) (sym is) (sym len)

-- whether the whole frame at the front of some bytes is a record, by its record's bytes and those
-- after them
pub front_is : (sum : List ℕ → ℕ) (xs : List ℕ) (n : ℕ) (is : Bool) → n ≡ record_len xs → n + 7 ≤ length xs
    → ((frame : List ℕ) → record_len frame ≡ length (take n (drop 2 xs)) → drop 2 frame ≡ take n (drop 2 xs) ++ take 5 (drop (2 + n) xs) → is ≡ is_record sum frame) → is ≡ is_record sum xs
front_is sum xs n is says whole judged =
    let e : n + 7 ≡ 2 + (n + 5) = omega arith in
    let len : record_len (take (n + 7) xs) ≡ length (take n (drop 2 xs)) =
    record_len-take (n + 7) xs (omega arith) ∙ sym says ∙ sym (length-take n (drop 2 xs) ∙ (let d = length-drop 2 xs in omega (arith, d, whole))) in
    let rest : drop 2 (take (n + 7) xs) ≡ take n (drop 2 xs) ++ take 5 (drop (2 + n) xs) =
    ap (λ m. drop 2 (take m xs)) e ∙ drop-take 2 (n + 5) xs ∙ take-add n 5 (drop 2 xs) ∙ ap (λ (l : List ℕ). take n (drop 2 xs) ++ take 5 l) (drop-drop n 2 xs) in
    judged (take (n + 7) xs) len rest ∙ is_record-take sum (n + 7) xs (omega (arith, says))

-- the record of a prefix that has the whole frame
pub record_of-take : (sum : List ℕ → ℕ) (k : ℕ) (xs : List ℕ) → frame_len xs ≤ k → record_of sum (take k xs) ≡ record_of sum xs
unfolding record_of
record_of-take sum k xs le =
    ap₂ (λ b bytes. if b then Some bytes else None) (is_record-take sum k xs le)
    (ap (λ m. take m (drop 2 (take k xs))) (record_len-take k xs (omega arith)) ∙ within_take (record_len xs) 2 k xs (omega arith))

record_of-unmarked : (sum : List ℕ → ℕ) (xs : List ℕ) → get_or xs (record_len xs + 6) 0 ≡ 0 → record_of sum xs ≡ None
unfolding record_of
record_of-unmarked sum xs none = ap (λ b. if b then Some (take (record_len xs) (drop 2 xs)) else None) (is_record-unmarked sum xs none)

-- a frame that was cut short is no record
pub record_of-short : (sum : List ℕ → ℕ) (xs : List ℕ) → length xs < frame_len xs → record_of sum xs ≡ None
record_of-short sum xs lt = record_of-unmarked sum xs (get_or_past xs (record_len xs + 6) 0 (omega arith))

-- a whole frame is what it is, whatever stands after it
record_of-append : (sum : List ℕ → ℕ) (xs ys : List ℕ) → frame_len xs ≤ length xs → record_of sum (xs ++ ys) ≡ record_of sum xs
record_of-append sum xs ys le =
    sym (record_of-take sum (length xs) (xs ++ ys) (omega (arith, record_len-append xs ys (omega arith))))
    ∙ ap (λ (l : List ℕ). record_of sum l) (take_at xs ys (length xs) refl)

-- more steps than there are bytes find no more frames
frames_in-more : (n m : ℕ) (xs : List ℕ) → length xs ≤ n → length xs ≤ m → frames_in n xs ≡ frames_in m xs
frames_in-more zero zero [] le more = refl
frames_in-more zero (suc m) [] le more = refl
frames_in-more (suc n) zero [] le more = refl
frames_in-more (suc n) (suc m) [] le more = refl
frames_in-more zero m (x ∷ xs) le more = absurd (omega arith)
frames_in-more (suc n) zero (x ∷ xs) le more = absurd (omega arith)
frames_in-more (suc n) (suc m) (x ∷ xs) le more =
    let rest = drop (frame_len (x ∷ xs)) (x ∷ xs) in
    let less : length rest ≤ length xs = omega (arith, length-drop (frame_len (x ∷ xs)) (x ∷ xs)) in
    ap (λ fs. take (frame_len (x ∷ xs)) (x ∷ xs) ∷ fs) (frames_in-more n m rest (omega arith) (omega arith))

-- the first frame, and the others
pub frames-step : (xs : List ℕ) → 0 < length xs → frames xs ≡ take (frame_len xs) xs ∷ frames (drop (frame_len xs) xs)
unfolding frames
frames-step [] some = absurd (omega arith)
frames-step (x ∷ xs) some =
    let rest = drop (frame_len (x ∷ xs)) (x ∷ xs) in
    let less : length rest ≤ length xs = omega (arith, length-drop (frame_len (x ∷ xs)) (x ∷ xs)) in
    ap (λ fs. take (frame_len (x ∷ xs)) (x ∷ xs) ∷ fs) (frames_in-more (length xs) (length rest) rest less (omega arith))

frames-none : frames [] ≡ []
unfolding frames
frames-none = refl

pub records-none : (sum : List ℕ → ℕ) → records sum [] ≡ []
unfolding records
records-none sum = ap (λ fs. flat_map (λ f. listed (record_of sum f)) fs) frames-none

whole-none : whole_frames [] ≡ []
unfolding whole_frames
whole-none = ap (λ fs. flat_map if_whole fs) frames-none

-- the record of the first frame, if it is one, and those after it
pub records-step : (sum : List ℕ → ℕ) (xs : List ℕ) → 0 < length xs → records sum xs ≡ listed (record_of sum xs) ++ records sum (drop (frame_len xs) xs)
unfolding records
records-step sum xs some =
    let g = λ (f : List ℕ). listed (record_of sum f) in
    ap (λ fs. flat_map g fs) (frames-step xs some)
    ∙ ap (λ (r : Option (List ℕ)). listed r ++ flat_map g (frames (drop (frame_len xs) xs))) (record_of-take sum (frame_len xs) xs (omega arith))

-- the first frame, if it is whole, and the whole ones after it
whole-step : (xs : List ℕ) → 0 < length xs → whole_frames xs ≡ if_whole (take (frame_len xs) xs) ++ whole_frames (drop (frame_len xs) xs)
unfolding whole_frames
whole-step xs some = ap (λ fs. flat_map if_whole fs) (frames-step xs some)

-- the whole frames where the first frame is whole
whole-first : (xs : List ℕ) → frame_len xs ≤ length xs → whole_frames xs ≡ take (frame_len xs) xs ++ whole_frames (drop (frame_len xs) xs)
whole-first xs le =
    let f = take (frame_len xs) xs in
    let same : frame_len f ≡ frame_len xs = ap (λ m. m + 7) (record_len-take (frame_len xs) xs (omega arith)) in
    let long : length f ≡ frame_len xs = omega (arith, le, length-take (frame_len xs) xs) in
    whole-step xs (omega (arith, le))
    ∙ ap (λ b. (if b then [] else f) ++ whole_frames (drop (frame_len xs) xs)) (le-ltb (length f) (frame_len f) (omega (arith, same, long)))

-- where the first frame is cut short, or there is none, there is no record and no whole frame
none_left : (sum : List ℕ → ℕ) (xs : List ℕ) → length xs < frame_len xs → (records sum xs ≡ []) × (whole_frames xs ≡ [])
none_left sum [] short = (records-none sum, whole-none)
none_left sum (x ∷ xs) short =
    let l = x ∷ xs in
    let F = frame_len l in
    let f = take F l in
    let all : f ≡ l = take_all F l (omega (arith, short)) in
    let end : drop F l ≡ [] = drop_all F l (omega (arith, short)) in
    let lacks : length f < frame_len f = subst (λ (t : List ℕ). length t < frame_len t) (sym all) short in (
      records-step sum l (omega arith) ∙ ap₂ (λ r b. listed r ++ records sum b) (record_of-short sum l short) end ∙ records-none sum,
      whole-step l (omega arith) ∙ ap₂ (λ b t. (if b then [] else f) ++ whole_frames t) (lt-ltb (length f) (frame_len f) lacks) end ∙ whole-none,
    )

-- what stands after the first frame of two joined lists
drop_whole : (n : ℕ) (xs ys : List ℕ) → n ≤ length xs → drop n (xs ++ ys) ≡ drop n xs ++ ys
drop_whole n xs ys le = drop-append-le n xs ys le

-- whole frames, where the first is whole and the others are
whole_parts : (xs : List ℕ) → 0 < length xs → AreWholeFrames xs → (frame_len xs ≤ length xs) × AreWholeFrames (drop (frame_len xs) xs)
whole_parts xs some whole = elim (cases_lt (length xs) (frame_len xs)) [
  | inl short ↦ let none : xs ≡ [] = sym whole ∙ (none_left (λ l. 0) xs short).1 in absurd (omega (arith, some, ap length none))
  | inr le ↦
      let F = frame_len xs in
      let rest = whole_frames (drop F xs) in
      let long : length (take F xs) ≡ F = omega (arith, le, length-take F xs) in
      let joined : take F xs ++ rest ≡ xs = sym (whole-first xs le) ∙ whole in (
        le,
        sym (drop_at (take F xs) rest F long) ∙ ap (λ (l : List ℕ). drop F l) joined,
      )
]

records_append : (sum : List ℕ → ℕ) (n : ℕ) (xs ys : List ℕ) → length xs ≤ n → AreWholeFrames xs → records sum (xs ++ ys) ≡ records sum xs ++ records sum ys
records_append sum n [] ys le whole = ap (λ rs. rs ++ records sum ys) (sym (records-none sum))
records_append sum zero (x ∷ xs) ys le whole = absurd (omega arith)
records_append sum (suc n) (x ∷ xs) ys le whole =
    let l = x ∷ xs in
    let F = frame_len l in
    let parts = whole_parts l (omega arith) whole in
    let same : frame_len (l ++ ys) ≡ F = ap (λ k. k + 7) (record_len-append l ys (omega (arith, parts.0))) in
    records-step sum (l ++ ys) (omega arith)
    ∙ ap₂ (λ r rest. listed r ++ records sum rest) (record_of-append sum l ys parts.0) (ap (λ k. drop k (l ++ ys)) same ∙ drop_whole F l ys parts.0)
    ∙ ap (λ rs. listed (record_of sum l) ++ rs) (records_append sum n (drop F l) ys (omega (arith, length-drop F l)) parts.1)
    ∙ sym (append_assoc (listed (record_of sum l)) (records sum (drop F l)) (records sum ys))
    ∙ ap (λ rs. rs ++ records sum ys) (sym (records-step sum l (omega arith)))

whole_append : (n : ℕ) (xs ys : List ℕ) → length xs ≤ n → AreWholeFrames xs → whole_frames (xs ++ ys) ≡ xs ++ whole_frames ys
whole_append n [] ys le whole = refl
whole_append zero (x ∷ xs) ys le whole = absurd (omega arith)
whole_append (suc n) (x ∷ xs) ys le whole =
    let l = x ∷ xs in
    let F = frame_len l in
    let parts = whole_parts l (omega arith) whole in
    let same : frame_len (l ++ ys) ≡ F = ap (λ k. k + 7) (record_len-append l ys (omega (arith, parts.0))) in
    whole-first (l ++ ys) (omega (arith, same, parts.0, length-append l ys))
    ∙ ap (λ k. take k (l ++ ys) ++ whole_frames (drop k (l ++ ys))) same
    ∙ ap₂ (λ (a b : List ℕ). a ++ whole_frames b) (take-append-le F l ys parts.0) (drop_whole F l ys parts.0)
    ∙ ap (λ (b : List ℕ). take F l ++ b) (whole_append n (drop F l) ys (omega (arith, length-drop F l)) parts.1)
    ∙ sym (append_assoc (take F l) (drop F l) (whole_frames ys))
    ∙ ap (λ (a : List ℕ). a ++ whole_frames ys) (take-append-drop F l)

-- after whole frames the records of what follows are appended
pub records-append : (sum : List ℕ → ℕ) (xs ys : List ℕ) → AreWholeFrames xs → records sum (xs ++ ys) ≡ records sum xs ++ records sum ys
records-append sum xs ys whole = records_append sum (length xs) xs ys (omega arith) whole

-- after whole frames the whole frames of what follows are appended
whole-append : (xs ys : List ℕ) → AreWholeFrames xs → whole_frames (xs ++ ys) ≡ xs ++ whole_frames ys
whole-append xs ys whole = whole_append (length xs) xs ys (omega arith) whole

-- whole frames and more of them
pub whole_more : (xs ys : List ℕ) → AreWholeFrames xs → AreWholeFrames ys → AreWholeFrames (xs ++ ys)
whole_more xs ys first second = whole-append xs ys first ∙ ap (λ (l : List ℕ). xs ++ l) second

-- one frame that is whole
whole_alone : (f : List ℕ) → frame_len f ≡ length f → AreWholeFrames f
whole_alone f same =
    whole-first f (omega (arith, same)) ∙ ap₂ (λ (a b : List ℕ). a ++ whole_frames b) (take_all (frame_len f) f (omega (arith, same))) (drop_all (frame_len f) f (omega (arith, same)))
    ∙ ap (λ (l : List ℕ). f ++ l) whole-none ∙ append-nil f

-- a prefix that ends inside a frame lacks that frame's end
shorter : (k : ℕ) (xs : List ℕ) → k < frame_len xs → length (take k xs) < frame_len (take k xs)
shorter k xs cut = elim (cases_lt k 2) [
  | inl few ↦ omega (arith, few, length-take k xs)
  | inr enough ↦ omega (arith, cut, length-take k xs, record_len-take k xs enough)
]

records_begin : (sum : List ℕ → ℕ) (n k : ℕ) (xs : List ℕ) → length xs ≤ n → IsPrefix (records sum (take k xs)) (records sum xs)
records_begin sum n zero xs le = (records sum xs, ap (λ rs. rs ++ records sum xs) (sym (records-none sum)))
records_begin sum n (suc k) [] le = ([], sym (append-nil (records sum [])))
records_begin sum zero (suc k) (x ∷ xs) le = absurd (omega arith)
records_begin sum (suc n) (suc k) (x ∷ xs) le =
    let l = x ∷ xs in
    let F = frame_len l in
    let front = take (suc k) l in
    let some : 0 < length front = omega (arith, length-take (suc k) l) in
    elim (cases_lt (suc k) F) [
      | inr whole ↦
          let e : suc k ≡ F + (suc k - F) = omega (arith, whole) in
          let same : frame_len front ≡ F = ap (λ m. m + 7) (record_len-take (suc k) l (omega (arith, whole))) in
          let rest : drop (frame_len front) front ≡ take (suc k - F) (drop F l) =
          ap (λ m. drop m front) same ∙ ap (λ m. drop F (take m l)) e ∙ drop-take F (suc k - F) l in
          let later = records_begin sum n (suc k - F) (drop F l) (omega (arith, length-drop F l)) in
          let first : records sum front ≡ listed (record_of sum l) ++ records sum (take (suc k - F) (drop F l)) =
          records-step sum front some ∙ ap₂ (λ r b. listed r ++ records sum b) (record_of-take sum (suc k) l whole) rest in (
            later.0,
            records-step sum l (omega arith) ∙ ap (λ rs. listed (record_of sum l) ++ rs) later.1
                ∙ sym (append_assoc (listed (record_of sum l)) (records sum (take (suc k - F) (drop F l))) later.0)
                ∙ ap (λ rs. rs ++ later.0) (sym first),
          )
      | inl cut ↦
          let short : length front < frame_len front = shorter (suc k) l cut in
          let none : records sum front ≡ [] =
          records-step sum front some
          ∙ ap₂ (λ r b. listed r ++ records sum b) (record_of-short sum front short) (drop_all (frame_len front) front (omega (arith, short)))
          ∙ records-none sum in
          (records sum l, ap (λ rs. rs ++ records sum l) (sym none))
    ]

-- the records of a prefix are the first of all
pub records-take : (sum : List ℕ → ℕ) (k : ℕ) (xs : List ℕ) → IsPrefix (records sum (take k xs)) (records sum xs)
records-take sum k xs = records_begin sum (length xs) k xs (omega arith)

-- the whole frames of some bytes are whole, have their records, and are a prefix of them
record Kept (sum : List ℕ → ℕ) (xs : List ℕ) : Type 0 where
  whole : AreWholeFrames (whole_frames xs)
  same : records sum (whole_frames xs) ≡ records sum xs
  rest : List ℕ
  joined : whole_frames xs ++ rest ≡ xs

kept_none : (sum : List ℕ → ℕ) (xs : List ℕ) → length xs < frame_len xs → Kept sum xs
kept_none sum xs short =
    let none = none_left sum xs short in
    record {
      whole = ap whole_frames none.1 ∙ whole-none ∙ sym none.1;
      same = ap (λ (l : List ℕ). records sum l) none.1 ∙ records-none sum ∙ sym none.0;
      rest = xs;
      joined = ap (λ (l : List ℕ). l ++ xs) none.1;
    }

kept_more : (sum : List ℕ → ℕ) (xs : List ℕ) → frame_len xs ≤ length xs → Kept sum (drop (frame_len xs) xs) → Kept sum xs
kept_more sum xs whole later =
    let F = frame_len xs in
    let f = take F xs in
    let rest = drop F xs in
    let first : whole_frames xs ≡ f ++ whole_frames rest = whole-first xs whole in
    let same : frame_len f ≡ F = ap (λ m. m + 7) (record_len-take F xs (omega arith)) in
    let alone : AreWholeFrames f = whole_alone f (omega (arith, same, length-take F xs, whole)) in
    record {
      whole = subst (λ (l : List ℕ). AreWholeFrames l) (sym first) (whole_more f (whole_frames rest) alone later.whole);
      same = ap (λ (l : List ℕ). records sum l) first ∙ records-append sum f (whole_frames rest) alone ∙ ap (λ rs. records sum f ++ rs) later.same
          ∙ sym (records-append sum f rest alone) ∙ ap (λ (l : List ℕ). records sum l) (take-append-drop F xs);
      rest = later.rest;
      joined = ap (λ (l : List ℕ). l ++ later.rest) first ∙ append_assoc f (whole_frames rest) later.rest ∙ ap (λ (l : List ℕ). f ++ l) later.joined ∙ take-append-drop F xs;
    }

whole_kept : (sum : List ℕ → ℕ) (n : ℕ) (xs : List ℕ) → length xs ≤ n → Kept sum xs
whole_kept sum zero xs le = kept_none sum xs (omega (arith, le))
whole_kept sum (suc n) xs le = elim (cases_lt (length xs) (frame_len xs)) [
  | inl short ↦ kept_none sum xs short
  | inr whole ↦ kept_more sum xs whole (whole_kept sum n (drop (frame_len xs) xs) (omega (arith, le, whole, length-drop (frame_len xs) xs)))
]

-- the whole frames of some bytes are whole
pub whole_is_whole : (xs : List ℕ) → AreWholeFrames (whole_frames xs)
whole_is_whole xs = (whole_kept (λ l. 0) (length xs) xs (omega arith)).whole

-- the whole frames of some bytes have the same records
pub records-whole : (sum : List ℕ → ℕ) (xs : List ℕ) → records sum (whole_frames xs) ≡ records sum xs
records-whole sum xs = (whole_kept sum (length xs) xs (omega arith)).same

-- the whole frames of some bytes are the first of the bytes
pub whole_first : (xs : List ℕ) → take (length (whole_frames xs)) xs ≡ whole_frames xs
whole_first xs =
    let kept = whole_kept (λ l. 0) (length xs) xs (omega arith) in
    ap (λ (l : List ℕ). take (length (whole_frames xs)) l) (sym kept.joined) ∙ take_at (whole_frames xs) kept.rest (length (whole_frames xs)) refl

pub length-whole : (xs : List ℕ) → length (whole_frames xs) ≤ length xs
length-whole xs =
    let kept = whole_kept (λ l. 0) (length xs) xs (omega arith) in
    omega (arith, ap length kept.joined, length-append (whole_frames xs) kept.rest)

-- the parts of a record's frame, with what stands after it
frame_parts : (sum : List ℕ → ℕ) (bytes rest : List ℕ) → frame sum bytes ++ rest ≡ to_be_bytes w16 (length bytes) ++ (bytes ++ (to_be_bytes w32 (sum bytes) ++ 1 ∷ rest))
unfolding frame
frame_parts sum bytes rest = simp append_assoc

record_len-frame : (sum : List ℕ → ℕ) (bytes rest : List ℕ) → length bytes < 2 ^ 16 → record_len (frame sum bytes ++ rest) ≡ length bytes
unfolding record_len
record_len-frame sum bytes rest fits =
    ap (λ (l : List ℕ). from_be_bytes w16 l) (frame_parts sum bytes rest)
    ∙ two_agree (to_be_bytes w16 (length bytes) ++ (bytes ++ (to_be_bytes w32 (sum bytes) ++ 1 ∷ rest))) (to_be_bytes w16 (length bytes))
    (λ i lt. get_or_append_left (to_be_bytes w16 (length bytes)) (bytes ++ (to_be_bytes w32 (sum bytes) ++ 1 ∷ rest)) 0 i lt)
    ∙ from_be_bytes-to_be_bytes_2 (length bytes) fits

drop_record : (sum : List ℕ → ℕ) (bytes rest : List ℕ) → drop 2 (frame sum bytes ++ rest) ≡ bytes ++ (to_be_bytes w32 (sum bytes) ++ 1 ∷ rest)
drop_record sum bytes rest = ap (λ (l : List ℕ). drop 2 l) (frame_parts sum bytes rest)

drop_sum : (sum : List ℕ → ℕ) (bytes rest : List ℕ) → drop (length bytes + 2) (frame sum bytes ++ rest) ≡ to_be_bytes w32 (sum bytes) ++ 1 ∷ rest
drop_sum sum bytes rest =
    ap (λ n. drop n (frame sum bytes ++ rest)) (add_comm (length bytes) 2) ∙ sym (drop-drop (length bytes) 2 (frame sum bytes ++ rest))
    ∙ ap (λ (l : List ℕ). drop (length bytes) l) (drop_record sum bytes rest)
    ∙ drop_at bytes (to_be_bytes w32 (sum bytes) ++ 1 ∷ rest) (length bytes) refl

mark_of_frame : (sum : List ℕ → ℕ) (bytes rest : List ℕ) → get_or (frame sum bytes ++ rest) (length bytes + 6) 0 ≡ 1
mark_of_frame sum bytes rest =
    let e : length bytes + 6 ≡ length bytes + 2 + 4 = omega arith in
    ap (λ n. get_or (frame sum bytes ++ rest) n 0) e ∙ sym (get_or-drop (length bytes + 2) (frame sum bytes ++ rest) 4 0)
    ∙ ap (λ (l : List ℕ). get_or l 4 0) (drop_sum sum bytes rest)

is_record-frame : (sum : List ℕ → ℕ) (bytes rest : List ℕ) → length bytes < 2 ^ 16 → sum bytes < 2 ^ 32 → is_record sum (frame sum bytes ++ rest) ≡ true
unfolding is_record
is_record-frame sum bytes rest fits small =
    let l = frame sum bytes ++ rest in
    let crc : from_be_bytes w32 (drop (length bytes + 2) l) ≡ sum bytes =
    ap (λ (b : List ℕ). from_be_bytes w32 b) (drop_sum sum bytes rest)
    ∙ four_agree (to_be_bytes w32 (sum bytes) ++ 1 ∷ rest) (to_be_bytes w32 (sum bytes)) (λ i lt. get_or_append_left (to_be_bytes w32 (sum bytes)) (1 ∷ rest) 0 i lt)
    ∙ from_be_bytes-to_be_bytes_4 (sum bytes) small in
    let held : take (length bytes) (drop 2 l) ≡ bytes =
    ap (λ (b : List ℕ). take (length bytes) b) (drop_record sum bytes rest) ∙ take_at bytes (to_be_bytes w32 (sum bytes) ++ 1 ∷ rest) (length bytes) refl in
    ap (λ m. judged sum (get_or l (m + 6) 0) (from_be_bytes w32 (drop (m + 2) l)) (take m (drop 2 l))) (record_len-frame sum bytes rest fits)
    ∙ ap (λ mark. judged sum mark (from_be_bytes w32 (drop (length bytes + 2) l)) (take (length bytes) (drop 2 l))) (mark_of_frame sum bytes rest)
    ∙ ap₂ (λ c b. judged sum 1 c b) crc held
    ∙ eq-eqb (sum bytes) (sum bytes) refl

-- the record that a record's frame holds
pub record_of-frame : (sum : List ℕ → ℕ) (bytes rest : List ℕ) → length bytes < 2 ^ 16 → sum bytes < 2 ^ 32 → record_of sum (frame sum bytes ++ rest) ≡ Some bytes
unfolding record_of
record_of-frame sum bytes rest fits small =
    let l = frame sum bytes ++ rest in
    ap₂ (λ b m. if b then Some (take m (drop 2 l)) else None) (is_record-frame sum bytes rest fits small) (record_len-frame sum bytes rest fits)
    ∙ ap (λ b. Some (take (length bytes) b)) (drop_record sum bytes rest) ∙ ap Some (take_at bytes (to_be_bytes w32 (sum bytes) ++ 1 ∷ rest) (length bytes) refl)

pub length-frame : (sum : List ℕ → ℕ) (bytes : List ℕ) → length (frame sum bytes) ≡ length bytes + 7
unfolding frame
length-frame sum bytes = simp length-append (omega arith)

-- a record's frame is whole
frame_alone : (sum : List ℕ → ℕ) (bytes : List ℕ) → length bytes < 2 ^ 16 → frame_len (frame sum bytes) ≡ length (frame sum bytes)
frame_alone sum bytes fits =
    ap (λ (l : List ℕ). frame_len l) (sym (append-nil (frame sum bytes))) ∙ ap (λ m. m + 7) (record_len-frame sum bytes [] fits) ∙ sym (length-frame sum bytes)

pub frame_is_whole : (sum : List ℕ → ℕ) (bytes : List ℕ) → length bytes < 2 ^ 16 → AreWholeFrames (frame sum bytes)
frame_is_whole sum bytes fits = whole_alone (frame sum bytes) (frame_alone sum bytes fits)

-- a record's frame has that one record
pub records-frame : (sum : List ℕ → ℕ) (bytes : List ℕ) → length bytes < 2 ^ 16 → sum bytes < 2 ^ 32 → records sum (frame sum bytes) ≡ bytes ∷ []
records-frame sum bytes fits small =
    let l = frame sum bytes in
    records-step sum l (omega (arith, length-frame sum bytes))
    ∙ ap₂ (λ r b. listed r ++ records sum b) (ap (λ (b : List ℕ). record_of sum b) (sym (append-nil l)) ∙ record_of-frame sum bytes [] fits small) (drop_all (frame_len l) l (omega (arith, frame_alone sum bytes fits)))
    ∙ ap (λ rs. bytes ∷ rs) (records-none sum)

-- the records found so far, and one frame more
pub records-next : (sum : List ℕ → ℕ) (xs : List ℕ) (i n : ℕ) (found : List (List ℕ)) (r : Option (List ℕ)) → i < length xs → n ≡ frame_len (drop i xs) → r ≡ record_of sum (drop i xs)
    → found ++ records sum (drop i xs) ≡ records sum xs → (found ++ listed r) ++ records sum (drop (i + n) xs) ≡ records sum xs
records-next sum xs i n found r lt is held so_far =
    ap₂ (λ m o. (found ++ listed o) ++ records sum (drop (i + m) xs)) is held
    ∙ ap (λ (l : List ℕ). (found ++ listed (record_of sum (drop i xs))) ++ records sum l) (sym (drop-drop (frame_len (drop i xs)) i xs))
    ∙ append_assoc found (listed (record_of sum (drop i xs))) (records sum (drop (frame_len (drop i xs)) (drop i xs)))
    ∙ ap (λ rs. found ++ rs) (sym (records-step sum (drop i xs) (omega (arith, length-drop i xs)))) ∙ so_far

-- the bytes of the whole frames so far, and of one frame more
pub whole-next : (xs : List ℕ) (i n : ℕ) → i + n ≤ length xs → n ≡ frame_len (drop i xs) → i + length (whole_frames (drop i xs)) ≡ length (whole_frames xs)
    → (i + n) + length (whole_frames (drop (i + n) xs)) ≡ length (whole_frames xs)
whole-next xs i n le is so_far =
    let rest = drop i xs in
    let F = frame_len rest in
    let first = whole-first rest (omega (arith, le, is, length-drop i xs)) in
    let later : drop (i + n) xs ≡ drop F rest = ap (λ m. drop (i + m) xs) is ∙ sym (drop-drop F i xs) in
    let sizes : length (whole_frames rest) ≡ length (take F rest) + length (whole_frames (drop (i + n) xs)) =
    ap length first ∙ length-append (take F rest) (whole_frames (drop F rest)) ∙ ap (λ (l : List ℕ). length (take F rest) + length (whole_frames l)) (sym later) in
    omega (arith, so_far, sizes, is, le, length-take F rest, length-drop i xs)

-- no whole frame is left
pub records-end : (sum : List ℕ → ℕ) (xs : List ℕ) (i : ℕ) (found : List (List ℕ)) → length xs < i + frame_len (drop i xs) → found ++ records sum (drop i xs) ≡ records sum xs → found ≡ records sum xs
records-end sum xs i found lt so_far =
    sym (append-nil found) ∙ ap (λ rs. found ++ rs) (sym (none_left sum (drop i xs) (omega (arith, lt, length-drop i xs))).0) ∙ so_far

pub whole-end : (xs : List ℕ) (i : ℕ) → length xs < i + frame_len (drop i xs) → i + length (whole_frames (drop i xs)) ≡ length (whole_frames xs) → i ≡ length (whole_frames xs)
whole-end xs i lt so_far =
    let none : length (whole_frames (drop i xs)) ≡ 0 = ap length (none_left (λ l. 0) (drop i xs) (omega (arith, lt, length-drop i xs))).1 in
    omega (arith, so_far, none)

-- the length at the front of some bytes, where the front holds as much of it as there is
pub record_len-front : (k : ℕ) (xs : List ℕ) → min 2 (length xs) ≤ k → record_len (take k xs) ≡ record_len xs
record_len-front k xs enough = elim (cases_lt k 2) [
  | inl few ↦ ap record_len (take_all k xs (omega (arith, few)))
  | inr le ↦ record_len-take k xs le
]

pub record_of-front : (sum : List ℕ → ℕ) (k : ℕ) (xs : List ℕ) → min (frame_len xs) (length xs) ≤ k → record_of sum (take k xs) ≡ record_of sum xs
record_of-front sum k xs enough = elim (cases_lt k (frame_len xs)) [
  | inl few ↦ ap (λ (l : List ℕ). record_of sum l) (take_all k xs (omega (arith, few)))
  | inr le ↦ record_of-take sum k xs le
]

-- the records from an offset of some bytes on: that of the frame there, and those after it
pub records-from : (sum : List ℕ → ℕ) (xs : List ℕ) (offset : ℕ) → offset < length xs
    → records sum (drop offset xs) ≡ listed (record_of sum (drop offset xs)) ++ records sum (drop (offset + min (frame_len (drop offset xs)) (length xs - offset)) xs)
records-from sum xs offset lt =
    let rest = drop offset xs in
    let F = frame_len rest in
    let long : length rest ≡ length xs - offset = length-drop offset xs in
    let same : drop F rest ≡ drop (min F (length xs - offset)) rest = (elim (cases_lt F (length xs - offset)) [
      | inl less ↦ ap (λ n. drop n rest) (let e : F ≡ min F (length xs - offset) = omega (arith, less) in e)
      | inr more ↦ drop_all F rest (omega (arith, more)) ∙ sym (drop_all (min F (length xs - offset)) rest (omega (arith, more)))
    ]) in
    records-step sum rest (omega arith) ∙ ap (λ (l : List ℕ). listed (record_of sum rest) ++ records sum l) (same ∙ drop-drop (min F (length xs - offset)) offset xs)
