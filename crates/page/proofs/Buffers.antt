-- What keeps a buffer's invariant, and what its calls answer.
use Rattle.std.proofs.Common.{◌≡◌, ◌+◌, ◌-◌, ◌*◌, ◌/◌, ◌%◌, ◌<◌, ◌≤◌, ◌^◌, ◌++◌, [], ℕ, List, length, take, drop, slice_range, Bool, true, false, arith, refl, sym, ap, ◌∙◌, append_assoc, take_all, length-append, max, min, nat_lt, nat_le, ◌&&◌, if◌then◌else◌, Result, Ok, Err}
use Rattle.std.specs.Prelude.{OnOk}
use Rattle.std.specs.List.{concat}
use Rattle.std.proofs.Math.Nat.{mul-mod_left, div-mul-le_self, mod-lt, div-eq_of_lt}
use Rattle.std.proofs.lemmas.Nat.{div-add-mod'}
use Rattle.std.proofs.lemmas.List.{length-take-le, length-drop, drop_all, take-append-drop}
use Rattle.disk.specs.Bufs.{with_buf}
use Rattle.page.specs.Tip.{TipAppendGoes, TipDrainGoes, IsBuffer, AreWholePages, page_limit, grown_limit, kept_limit}
use Rattle.page.proofs.Chunks.{range_join, range_min, take_join, drop_join, full_join, whole_concat, whole_with, concat_with, multiple_enough, multiple_whole, partial_room, partial_whole}

-- bytes of less than a page, in a tail alone, make a buffer
pub partial_buffer : (P cap off : ℕ) (chunks : List (List ℕ)) (tail bytes : List ℕ) (limit : ℕ) → chunks ≡ [] → tail ≡ bytes → limit ≡ page_limit bytes P
    → 0 < P → cap % P ≡ 0 → length bytes < P → off + length bytes < 2 ^ 64 → IsBuffer P cap off chunks tail limit
partial_buffer P cap off chunks tail bytes limit none is limited some whole short small = rw (none, is, limited) (record {
  some = some;
  whole = whole;
  small = small;
  whole_chunks = λ k d below. absurd (omega (arith, below));
  whole_limit = partial_whole bytes P;
  room = partial_room bytes P short;
})

-- the bytes stay the same when the full pages of the tail join the chunks
pub frozen_bytes : (P : ℕ) (chunks : List (List ℕ)) (tail : List ℕ) → 0 < P → AreWholePages P chunks
    → concat (with_buf chunks (take (length tail / P * P) tail)) ≡ take (length (concat chunks ++ tail) / P * P) (concat chunks ++ tail)
frozen_bytes P chunks tail some are =
    let full : length (concat chunks ++ tail) / P * P ≡ length (concat chunks) + length tail / P * P = rw (length-append (concat chunks) tail) (full_join P (length (concat chunks)) (length tail) some (whole_concat P chunks are)) in
    let past : length (concat chunks) + length tail / P * P - length (concat chunks) ≡ length tail / P * P = omega arith in
    rw (full, concat_with chunks (take (length tail / P * P) tail), take_join (concat chunks) tail (length (concat chunks) + length tail / P * P), past, take_all (length (concat chunks) + length tail / P * P) (concat chunks) (omega arith)) refl

pub rest_bytes : (P : ℕ) (chunks : List (List ℕ)) (tail : List ℕ) → 0 < P → AreWholePages P chunks
    → drop (length tail / P * P) tail ≡ drop (length (concat chunks ++ tail) / P * P) (concat chunks ++ tail)
rest_bytes P chunks tail some are =
    let full : length (concat chunks ++ tail) / P * P ≡ length (concat chunks) + length tail / P * P = rw (length-append (concat chunks) tail) (full_join P (length (concat chunks)) (length tail) some (whole_concat P chunks are)) in
    let past : length (concat chunks) + length tail / P * P - length (concat chunks) ≡ length tail / P * P = omega arith in
    rw (full, drop_join (concat chunks) tail (length (concat chunks) + length tail / P * P), past, drop_all (length (concat chunks) + length tail / P * P) (concat chunks) (omega arith)) refl

-- a tail of less than a page has no full page
pub no_page : (P : ℕ) (tail : List ℕ) → length tail < P → length tail / P * P ≡ 0
no_page P tail short = rw (div-eq_of_lt short) (omega arith)

-- what is frozen of the tail is whole pages, so the chunks still are
pub frozen_whole : (P : ℕ) (chunks : List (List ℕ)) (tail : List ℕ) → AreWholePages P chunks → AreWholePages P (with_buf chunks (take (length tail / P * P) tail))
frozen_whole P chunks tail are = whole_with P chunks (take (length tail / P * P) tail) are (rw (length-take-le (length tail / P * P) tail (div-mul-le_self (length tail) P)) (mul-mod_left (length tail / P) P))

-- what is left of the tail after its full pages is less than a page
pub rest_short : (P : ℕ) (tail : List ℕ) → 0 < P → length (drop (length tail / P * P) tail) < P
rest_short P tail some = rw (length-drop (length tail / P * P) tail) (omega (arith, div-add-mod' (length tail) P, mod-lt (length tail) some))

-- a number that is at most each of two is at most the chosen one
pub one_enough : (b : Bool) (n x y : ℕ) → n ≤ x → n ≤ y → n ≤ (if b then x else y)
one_enough true n x y first second = first
one_enough false n x y first second = second

pub one_whole : (b : Bool) (x y P : ℕ) → x % P ≡ 0 → y % P ≡ 0 → (if b then x else y) % P ≡ 0
one_whole true x y P first second = first
one_whole false x y P first second = second

-- what is left of the tail has room
pub kept_room : (P : ℕ) (tail : List ℕ) (limit : ℕ) → 0 < P → length tail ≤ limit → length (drop (length tail / P * P) tail) ≤ kept_limit tail limit P
kept_room P tail limit some room =
    let shorter : length (drop (length tail / P * P) tail) ≤ length tail = rw (length-drop (length tail / P * P) tail) (omega arith) in
    one_enough (nat_lt (length tail) P && nat_le limit P) (length (drop (length tail / P * P) tail)) limit (page_limit (drop (length tail / P * P) tail) P)
    (omega (arith, shorter, room)) (partial_room (drop (length tail / P * P) tail) P (rest_short P tail some))

pub kept_whole : (P : ℕ) (tail : List ℕ) (limit : ℕ) → limit % P ≡ 0 → kept_limit tail limit P % P ≡ 0
kept_whole P tail limit whole = one_whole (nat_lt (length tail) P && nat_le limit P) limit (page_limit (drop (length tail / P * P) tail) P) P whole (partial_whole (drop (length tail / P * P) tail) P)

-- a buffer whose full pages are handed out is a buffer
pub drained_buffer : (P cap off : ℕ) (chunks none : List (List ℕ)) (tail rest : List ℕ) (limit kept : ℕ) → IsBuffer P cap off chunks tail limit
    → none ≡ [] → rest ≡ drop (length tail / P * P) tail → kept ≡ kept_limit tail limit P → IsBuffer P cap (off + length (concat chunks ++ tail) / P * P) none rest kept
drained_buffer P cap off chunks none tail rest limit kept is empty left kept_is =
    let all = concat chunks ++ tail in
    let shorter : length (drop (length tail / P * P) tail) ≡ length all - length all / P * P = ap length (rest_bytes P chunks tail is.some is.whole_chunks) ∙ length-drop (length all / P * P) all in
    rw (empty, left, kept_is) (record {
      some = is.some;
      whole = is.whole;
      small = omega (arith, shorter, div-mul-le_self (length all) P, is.small);
      whole_chunks = λ k d below. absurd (omega (arith, below));
      whole_limit = kept_whole P tail limit is.whole_limit;
      room = kept_room P tail limit is.some is.room;
    })

-- more bytes than the tail has room for: the chunks, with the filled tail, and the new tail hold
-- them all
pub grown_bytes : (chunks : List (List ℕ)) (tail bytes : List ℕ) (spare : ℕ) → concat (with_buf chunks (tail ++ take spare bytes)) ++ drop spare bytes ≡ concat chunks ++ tail ++ bytes
grown_bytes chunks tail bytes spare =
    rw (concat_with chunks (tail ++ take spare bytes), append_assoc (concat chunks) (tail ++ take spare bytes) (drop spare bytes), append_assoc tail (take spare bytes) (drop spare bytes), take-append-drop spare bytes)
    (sym (append_assoc (concat chunks) tail bytes))

pub grown_buffer : (P cap off : ℕ) (chunks grown : List (List ℕ)) (tail bytes rest : List ℕ) (limit next : ℕ) → IsBuffer P cap off chunks tail limit → limit ≤ length tail + length bytes
    → off + length (concat chunks ++ tail) + length bytes < 2 ^ 64
    → grown ≡ with_buf chunks (tail ++ take (limit - length tail) bytes) → rest ≡ drop (limit - length tail) bytes
    → next ≡ grown_limit (length (concat chunks ++ tail) + (limit - length tail)) (length bytes - (limit - length tail)) cap P → IsBuffer P cap off grown rest next
grown_buffer P cap off chunks grown tail bytes rest limit next is enough small grown_is rest_is next_is =
    let all = concat chunks ++ tail in
    let spare = limit - length tail in
    let needed = length bytes - spare in
    let filled = length all + spare in
    let longer : length (concat (with_buf chunks (tail ++ take spare bytes)) ++ drop spare bytes) ≡ length all + length bytes = ap length (grown_bytes chunks tail bytes spare) ∙ length-append all bytes in
    let fills : length (tail ++ take spare bytes) ≡ limit = rw (length-append tail (take spare bytes), length-take-le spare bytes (omega (arith, enough))) (omega (arith, is.room)) in
    rw (grown_is, rest_is, next_is) (record {
      some = is.some;
      whole = is.whole;
      small = omega (arith, longer, small);
      whole_chunks = whole_with P chunks (tail ++ take spare bytes) is.whole_chunks (rw fills is.whole_limit);
      whole_limit = multiple_whole (max (max needed P) (min filled (cap - filled))) P is.some;
      room = rw (length-drop spare bytes) (grind (arith, multiple_enough (max (max needed P) (min filled (cap - filled))) P));
    })

-- what a drain answers: the full pages
pub drain_goes : (P cap off len : ℕ) (chunks handed none : List (List ℕ)) (tail rest : List ℕ) → 0 < P → AreWholePages P chunks → len ≡ length (concat chunks ++ tail)
    → handed ≡ with_buf chunks (take (length tail / P * P) tail) → none ≡ [] → rest ≡ drop (length tail / P * P) tail
    → TipDrainGoes (record { page_size = P; capacity = cap; offset = off; bytes = concat chunks ++ tail }) (record { page_size = P; capacity = cap; offset = off + len / P * P; bytes = concat none ++ rest }) (Ok handed)
drain_goes P cap off len chunks handed none tail rest some are len_is handed_is empty rest_is =
    rw (len_is, handed_is, empty, rest_is) (
      frozen_bytes P chunks tail some are,
      frozen_whole P chunks tail are,
      ap (λ bytes. record { page_size = P; capacity = cap; offset = off + length (concat chunks ++ tail) / P * P; bytes = bytes }) (rest_bytes P chunks tail some are),
    )

pub append_goes : (P cap off len spare : ℕ) (chunks grown : List (List ℕ)) (tail bytes rest : List ℕ) → len ≡ length (concat chunks ++ tail) → off + length (concat chunks ++ tail) + length bytes < 2 ^ 64
    → grown ≡ with_buf chunks (tail ++ take spare bytes) → rest ≡ drop spare bytes
    → TipAppendGoes (record { page_size = P; capacity = cap; offset = off; bytes = concat chunks ++ tail }) bytes (record { page_size = P; capacity = cap; offset = off; bytes = concat grown ++ rest }) (Ok (nat_lt cap (len + length bytes)))
append_goes P cap off len spare chunks grown tail bytes rest len_is small grown_is rest_is =
    rw (len_is, grown_is, rest_is) (small, ap (λ bytes. record { page_size = P; capacity = cap; offset = off; bytes = bytes }) (grown_bytes chunks tail bytes spare), refl)

-- a range read so far, with its part in the next chunk
pub read_more : (front chunk : List ℕ) (start end at len from to : ℕ) (old so_far read : List ℕ) → start ≤ end → at ≡ length front → len ≡ length chunk
    → from ≡ min (start - at) len → to ≡ min (end - at) len → so_far ≡ old ++ slice_range front start end → read ≡ so_far ++ slice_range chunk from to
    → read ≡ old ++ slice_range (front ++ chunk) start end
read_more front chunk start end at len from to old so_far read order at_is len_is from_is to_is so_far_is read_is =
    let later : start - length front ≤ end - length front = omega (arith, order) in
    rw (read_is, so_far_is, from_is, to_is, at_is, len_is, range_min chunk (start - length front) (end - length front) later, range_join front chunk start end order)
    (append_assoc old (slice_range front start end) (slice_range chunk (start - length front) (end - length front)))

-- a range read from all chunks, with its part in the tail
pub read_rest : (front tail : List ℕ) (start end at from to : ℕ) (old so_far read : List ℕ) → start ≤ end → at ≡ length front
    → from ≡ start - at → to ≡ end - at → so_far ≡ old ++ slice_range front start end → read ≡ so_far ++ slice_range tail from to
    → read ≡ old ++ slice_range (front ++ tail) start end
read_rest front tail start end at from to old so_far read order at_is from_is to_is so_far_is read_is =
    rw (read_is, so_far_is, from_is, to_is, at_is, range_join front tail start end order)
    (append_assoc old (slice_range front start end) (slice_range tail (start - length front) (end - length front)))

-- what follows from a promise at Ok is one too
pub on_ok_then : {A E P Q : Type 0} (result : Result A E) → (P → Q) → OnOk result P → OnOk result Q
on_ok_then (Ok a) next holds = next holds
on_ok_then (Err e) next holds = tt
