-- The bytes at hand, page by page.
use Rattle.std.proofs.Common.{◌^◌, ◌≡◌, ◌⊎◌, inl, inr, ℕ, zero, suc, ◌+◌, ◌*◌, ◌-◌, ◌/◌, ◌%◌, ◌<◌, ◌≤◌, min, List, [], ◌∷◌, ◌++◌, length, take, drop, refl, sym, ap, ◌∙◌, arith, append-nil, append_assoc, length-append, length-take, length-drop, All, subst, slice_index_or}
use Rattle.std.proofs.lemmas.Bool.{cases_lt}
use Rattle.std.proofs.lemmas.Nat.{div_below, mod_below, div-add-mod'}
use Rattle.std.proofs.Math.Nat.{add-div_right, suc-mul}
use Rattle.std.proofs.lemmas.List.{take-take, drop-drop, take_all, drop_all, drop_at, drop_more, length-take-le, drop-append-le}
use Rattle.bytes.proofs.Ranges.{drop-take_less}
use Rattle.std.proofs.Math.Seq.{take-add}
use Rattle.std.specs.List.{flat_map}
use borrow.Rule.Slice.PartMut.{put_mid, post_of, Post-is}
use Rattle.page.specs.Page.{pieces}
use Rattle.paged_read.specs.Hand.{payloads, payloads_from, payloads_at, IsCursor, IsHand}
use Rattle.std.proofs.lemmas.List.Elements.{All-drop, All-append}
use Rattle.std.proofs.lemmas.Grind.{flat_map-append}

-- ---- payloads

-- fewer bytes than a page has are a payload alone
pub payloads_short : (P : ℕ) (bytes : List ℕ) → length bytes < P + 12 → payloads P bytes ≡ take P bytes
payloads_short P bytes short =
    let none : length bytes / (P + 12) < 1 = div_below (length bytes) (P + 12) 1 (omega arith) (omega (arith, short)) in
    let one : length bytes / (P + 12) + 1 ≡ suc zero = omega (arith, none) in
    ap (λ (n : ℕ). flat_map (take P) (pieces n (P + 12) bytes)) one
    ∙ append-nil (take P (take (P + 12) bytes))
    ∙ take-take P (P + 12) bytes (omega arith)

-- no bytes have no payloads
pub payloads_none : (P : ℕ) → payloads P [] ≡ []
payloads_none P = payloads_short P [] (omega arith) ∙ take_all P [] (omega arith)

-- the payload of the first page, and then the others
pub payloads_first : (P : ℕ) (bytes : List ℕ) → payloads P bytes ≡ take P bytes ++ payloads P (drop (P + 12) bytes)
payloads_first P bytes = elim (cases_lt (length bytes) (P + 12)) [
  | inl short ↦
      payloads_short P bytes short
      ∙ sym (append-nil (take P bytes))
      ∙ ap (λ (l : List ℕ). take P bytes ++ l) (sym (payloads_none P))
      ∙ ap (λ (l : List ℕ). take P bytes ++ payloads P l) (sym (drop_all (P + 12) bytes (omega (arith, short))))
  | inr long ↦
      let back = drop (P + 12) bytes in
      let size : length bytes ≡ length back + (P + 12) = omega (arith, long, length-drop (P + 12) bytes) in
      let count : length bytes / (P + 12) + 1 ≡ suc (length back / (P + 12) + 1) =
      let a : length bytes / (P + 12) ≡ (length back + (P + 12)) / (P + 12) = ap (λ (n : ℕ). n / (P + 12)) size in
      let b : (length back + (P + 12)) / (P + 12) ≡ length back / (P + 12) + 1 = add-div_right (length back) (omega arith) in
      omega (arith, a, b) in
      ap (λ (n : ℕ). flat_map (take P) (pieces n (P + 12) bytes)) count
      ∙ ap (λ (l : List ℕ). l ++ payloads P back) (take-take P (P + 12) bytes (omega arith))
]

-- the payload of the first page, by how many bytes there are of it, and then the others
pub payloads_begin : (P : ℕ) (bytes : List ℕ) → payloads P bytes ≡ take (min (length bytes) P) bytes ++ payloads P (drop (min (length bytes) P + 12) bytes)
payloads_begin P bytes = elim (cases_lt (length bytes) P) [
  | inl short ↦
      let n : min (length bytes) P ≡ length bytes = omega (arith, short) in
      payloads_first P bytes
      ∙ ap (λ (l : List ℕ). l ++ payloads P (drop (P + 12) bytes)) (take_all P bytes (omega (arith, short)) ∙ sym (take_all (min (length bytes) P) bytes (omega (arith, n))))
      ∙ ap (λ (l : List ℕ). take (min (length bytes) P) bytes ++ payloads P l) (drop_all (P + 12) bytes (omega (arith, short)) ∙ sym (drop_all (min (length bytes) P + 12) bytes (omega (arith, n))))
  | inr long ↦
      let n : P ≡ min (length bytes) P = omega (arith, long) in
      payloads_first P bytes ∙ ap (λ (k : ℕ). take k bytes ++ payloads P (drop (k + 12) bytes)) n
]

-- ---- cursors

-- after a cursor's page come the payloads of the other pages
pub cursor_others : (P : ℕ) (first : List ℕ) (runs : List (List ℕ)) (start left : ℕ) → start + left ≤ length first
    → drop left (payloads_from P (first ∷ runs) start left) ≡ payloads P (drop (start + left + 12) first) ++ flat_map (payloads P) runs
cursor_others P first runs start left within =
    drop_at (take left (drop start first)) (payloads P (drop (start + left + 12) first) ++ flat_map (payloads P) runs) left
    (length-take-le left (drop start first) (omega (arith, within, length-drop start first)))

-- at the first byte of runs stand all their payloads
pub begins_runs : (P : ℕ) (first : List ℕ) (runs : List (List ℕ))
    → payloads_from P (first ∷ runs) 0 (min (length first) P) ≡ flat_map (payloads P) (first ∷ runs)
begins_runs P first runs =
    ap (λ (k : ℕ). take (min (length first) P) first ++ (payloads P (drop k first) ++ flat_map (payloads P) runs)) (let e : 0 + min (length first) P + 12 ≡ min (length first) P + 12 = omega arith in e)
    ∙ sym (append_assoc (take (min (length first) P) first) (payloads P (drop (min (length first) P + 12) first)) (flat_map (payloads P) runs))
    ∙ ap (λ (l : List ℕ). l ++ flat_map (payloads P) runs) (sym (payloads_begin P first))

-- after a page stands the next one of its run
pub after_page : (P : ℕ) (first : List ℕ) (runs : List (List ℕ)) (start left rest : ℕ) → start + left + 12 + rest ≡ length first
    → drop left (payloads_from P (first ∷ runs) start left) ≡ payloads_from P (first ∷ runs) (start + left + 12) (min rest P)
after_page P first runs start left rest whole =
    let at = start + left + 12 in
    let back = drop at first in
    let size : length back ≡ rest = omega (arith, whole, length-drop at first) in
    cursor_others P first runs start left (omega (arith, whole))
    ∙ ap (λ (l : List ℕ). l ++ flat_map (payloads P) runs) (payloads_begin P back)
    ∙ ap (λ (k : ℕ). (take (min k P) back ++ payloads P (drop (min k P + 12) back)) ++ flat_map (payloads P) runs) size
    ∙ append_assoc (take (min rest P) back) (payloads P (drop (min rest P + 12) back)) (flat_map (payloads P) runs)
    ∙ ap (λ (l : List ℕ). take (min rest P) back ++ (payloads P l ++ flat_map (payloads P) runs)) (drop-drop (min rest P + 12) at first ∙ ap (λ (k : ℕ). drop k first) (let e : at + (min rest P + 12) ≡ at + min rest P + 12 = omega arith in e))

-- after the last page of a run comes the next run
pub after_run : (P : ℕ) (first : List ℕ) (runs : List (List ℕ)) (start left : ℕ) → start + left ≤ length first → length first ≤ start + left + 12
    → drop left (payloads_from P (first ∷ runs) start left) ≡ flat_map (payloads P) runs
after_run P first runs start left within ends =
    cursor_others P first runs start left within
    ∙ ap (λ (l : List ℕ). payloads P l ++ flat_map (payloads P) runs) (drop_all (start + left + 12) first ends)
    ∙ ap (λ (l : List ℕ). l ++ flat_map (payloads P) runs) (payloads_none P)

-- ---- in a later run

-- what is left of runs from one on that is there
runs_from : (runs : List (List ℕ)) (run : ℕ) (first : List ℕ) → run < length runs → first ≡ slice_index_or runs run first → drop run runs ≡ first ∷ drop (run + 1) runs
runs_from runs run first below is = drop_more runs run first below ∙ ap (λ (l : List ℕ). l ∷ drop (run + 1) runs) (sym is)

pub begins : (P run left : ℕ) (runs : List (List ℕ)) (first : List ℕ) → run < length runs → first ≡ slice_index_or runs run first → left ≡ min (length first) P
    → payloads_from P (drop run runs) 0 left ≡ flat_map (payloads P) (drop run runs)
begins P run left runs first below is size =
    let whole = runs_from runs run first below is in
    ap (λ (l : List (List ℕ)). payloads_from P l 0 left) whole
    ∙ ap (λ (k : ℕ). payloads_from P (first ∷ drop (run + 1) runs) 0 k) size
    ∙ begins_runs P first (drop (run + 1) runs)
    ∙ ap (λ (l : List (List ℕ)). flat_map (payloads P) l) (sym whole)

-- a cursor in runs that is in one of them
pub cursor_in : (runs : List (List ℕ)) (run start left : ℕ) (first : List ℕ) → run < length runs → first ≡ slice_index_or runs run first
    → IsCursor (drop run runs) start left → (0 < left) × (start + left ≤ length first)
cursor_in runs run start left first below is cursor = subst (λ (l : List (List ℕ)). IsCursor l start left) (runs_from runs run first below is) cursor

pub after_same : (P run start left rest : ℕ) (runs : List (List ℕ)) (first : List ℕ) → run < length runs → first ≡ slice_index_or runs run first → start + left + 12 + rest ≡ length first
    → drop left (payloads_at P runs run start left) ≡ payloads_at P runs run (start + left + 12) (min rest P)
after_same P run start left rest runs first below is whole =
    let same = runs_from runs run first below is in
    ap (λ (l : List (List ℕ)). drop left (payloads_from P l start left)) same
    ∙ after_page P first (drop (run + 1) runs) start left rest whole
    ∙ ap (λ (l : List (List ℕ)). payloads_from P l (start + left + 12) (min rest P)) (sym same)

pub after_next : (P run start left next_start next_left : ℕ) (runs : List (List ℕ)) (first : List ℕ) → run < length runs → first ≡ slice_index_or runs run first → start + left ≤ length first → length first ≤ start + left + 12
    → payloads_from P (drop (run + 1) runs) next_start next_left ≡ flat_map (payloads P) (drop (run + 1) runs)
    → drop left (payloads_at P runs run start left) ≡ payloads_at P runs (run + 1) next_start next_left
after_next P run start left next_start next_left runs first below is within ends begins =
    ap (λ (l : List (List ℕ)). drop left (payloads_from P l start left)) (runs_from runs run first below is)
    ∙ after_run P first (drop (run + 1) runs) start left within ends
    ∙ sym begins

-- ---- so many bytes after a cursor

-- so many bytes after a cursor, in its page
pub passed : (P : ℕ) (runs : List (List ℕ)) (start left count : ℕ) → IsCursor runs start left → (left ≡ 0) ⊎ (count < left)
    → count ≤ length (payloads_from P runs start left) → drop count (payloads_from P runs start left) ≡ payloads_from P runs (start + count) (left - count)
passed P [] start left count cursor few there = drop_all count [] (omega arith)
passed P (first ∷ runs) start left count cursor few there =
    let less : count < left = elim few [ inl none ↦ absurd (omega (arith, none, cursor.0)) | inr less ↦ less ] in
    let page = take left (drop start first) in
    let others = payloads P (drop (start + left + 12) first) ++ flat_map (payloads P) runs in
    let size : length page ≡ left = length-take-le left (drop start first) (omega (arith, cursor.1, length-drop start first)) in
    drop-append-le count page others (omega (arith, less, size))
    ∙ ap (λ (l : List ℕ). l ++ others) (drop-take_less (drop start first) count left (omega (arith, less)) ∙ ap (λ (l : List ℕ). take (left - count) l) (drop-drop count start first))
    ∙ ap (λ (k : ℕ). take (left - count) (drop (start + count) first) ++ (payloads P (drop k first) ++ flat_map (payloads P) runs)) (let e : start + left + 12 ≡ start + count + (left - count) + 12 = omega (arith, less) in e)

-- a cursor with no byte left is after all pages
pub none_left : (P : ℕ) (runs : List (List ℕ)) (start : ℕ) → IsCursor runs start 0 → payloads_from P runs start 0 ≡ []
none_left P [] start cursor = refl
none_left P (first ∷ runs) start cursor = absurd (omega (arith, cursor.0))

-- a cursor with a byte left is in a run
pub some_left : (runs : List (List ℕ)) (run start left : ℕ) → run ≤ length runs → IsCursor (drop run runs) start left → 0 < left → run < length runs
some_left runs run start left within cursor some = elim (cases_lt run (length runs)) [
  | inl below ↦ below
  | inr over ↦
      let none : IsCursor [] start left = subst (λ (l : List (List ℕ)). IsCursor l start left) (drop_all run runs over) cursor in
      absurd (omega (arith, none, some))
]

-- ---- page by page

pub step_passed : (xs ys : List ℕ) (left more : ℕ) → drop left xs ≡ ys → left ≤ more → drop (more - left) ys ≡ drop more xs
step_passed xs ys left more is enough =
    ap (λ (l : List ℕ). drop (more - left) l) (sym is) ∙ drop-drop (more - left) left xs ∙ ap (λ (k : ℕ). drop k xs) (let e : left + (more - left) ≡ more = omega (arith, enough) in e)

pub step_there : (xs ys : List ℕ) (left more : ℕ) → drop left xs ≡ ys → more ≤ length xs → more - left ≤ length ys
step_there xs ys left more is there = let size : length (drop left xs) ≡ length ys = ap (λ (l : List ℕ). length l) is in omega (arith, there, size, length-drop left xs)

-- where fewer bytes are left to pass than the page has, or none
pub few_left : (P : ℕ) (runs : List (List ℕ)) (start left more : ℕ) → IsCursor runs start left → more ≤ length (payloads_from P runs start left) → (left ≤ 0) ⊎ (more < left) → (more ≤ left) × ((left ≡ 0) ⊎ (more < left))
few_left P runs start left more cursor there few = elim few [
  | inl none ↦
      let zero_left : left ≡ 0 = omega (arith, none) in
      let nothing : payloads_from P runs start left ≡ [] =
      ap (λ (k : ℕ). payloads_from P runs start k) zero_left ∙ none_left P runs start (subst (λ (k : ℕ). IsCursor runs start k) zero_left cursor) in
      let size : length (payloads_from P runs start left) ≡ 0 = ap (λ (l : List ℕ). length l) nothing in
      (omega (arith, there, size), inl zero_left)
  | inr less ↦ (omega (arith, less), inr less)
]

-- ---- how the fields fit together

-- the fields fit together after so many bytes were passed over
pub hand_passed : (P : ℕ) (all now : List (List ℕ)) (start left remaining run next_start next_left count : ℕ) → IsHand P all start left remaining
    → now ≡ drop run all → IsCursor (drop run all) next_start next_left → next_start + next_left < 2 ^ 64
    → payloads_from P (drop run all) next_start next_left ≡ drop count (payloads_from P all start left)
    → IsHand P now next_start next_left (remaining - count)
hand_passed P all now start left remaining run next_start next_left count h same cursor fits bytes =
    let size : length (payloads_from P (drop run all) next_start next_left) ≡ remaining - count =
    ap (λ (l : List ℕ). length l) bytes ∙ length-drop count (payloads_from P all start left) ∙ ap (λ (k : ℕ). k - count) (sym h.count) in
    subst (λ (l : List (List ℕ)). IsHand P l next_start next_left (remaining - count)) (sym same) (record {
      some = h.some;
      runs = All-drop (λ (l : List ℕ). 0 < length l) run all h.runs;
      cursor = cursor;
      fits = fits;
      count = sym size;
    })

-- ---- copied page by page

pub copied_more : (told bytes chunk here : List ℕ) (left len : ℕ) → bytes ≡ take (length bytes) told → here ≡ drop (length bytes) told → chunk ≡ take left here → len ≤ left
    → bytes ++ take len chunk ≡ take (length bytes + len) told
copied_more told bytes chunk here left len so_far rest part less =
    ap (λ (l : List ℕ). bytes ++ take len l) part
    ∙ ap (λ (l : List ℕ). bytes ++ l) (take-take len left here less)
    ∙ ap (λ (l : List ℕ). bytes ++ take len l) rest
    ∙ ap (λ (l : List ℕ). l ++ take len (drop (length bytes) told)) so_far
    ∙ sym (take-add (length bytes) len told)

-- ---- how many bytes of payloads there are

sized : (P q r : ℕ) (run : List ℕ) → length run ≡ q * (P + 12) + r → r < P + 12 → (length (payloads P run) ≡ q * P + min r P) × (length (payloads P run) ≤ length run)
sized P zero r run size short =
    let few : length run ≡ r = omega (arith, size) in
    let is : length (payloads P run) ≡ length (take P run) = ap (λ (l : List ℕ). length l) (payloads_short P run (omega (arith, few, short))) in
    (omega (arith, is, few, length-take P run), omega (arith, is, few, length-take P run))
sized P (suc q) r run size short =
    let front : length run ≡ (P + 12) + (q * (P + 12) + r) = omega (arith, size, suc-mul q (P + 12)) in
    let back = drop (P + 12) run in
    let rest = sized P q r back (omega (arith, front, length-drop (P + 12) run)) short in
    let is : length (payloads P run) ≡ length (take P run ++ payloads P back) = ap (λ (l : List ℕ). length l) (payloads_first P run) in
    let part : length (take P run) ≡ P = length-take-le P run (omega (arith, front)) in
    (omega (arith, is, part, rest.0, suc-mul q P, length-append (take P run) (payloads P back)), omega (arith, is, part, rest.1, front, length-drop (P + 12) run, length-append (take P run) (payloads P back)))

pub payload_size : (P : ℕ) (run : List ℕ) → length (payloads P run) ≡ length run / (P + 12) * P + min (length run % (P + 12)) P
payload_size P run = (sized P (length run / (P + 12)) (length run % (P + 12)) run (omega (arith, div-add-mod' (length run) (P + 12))) (mod_below (length run) (P + 12) (omega arith))).0

pub payloads_fewer : (P : ℕ) (run : List ℕ) → length (payloads P run) ≤ length run
payloads_fewer P run = (sized P (length run / (P + 12)) (length run % (P + 12)) run (omega (arith, div-add-mod' (length run) (P + 12))) (mod_below (length run) (P + 12) (omega arith))).1

-- a run has at least the payload bytes of its first page
pub payloads_more : (P : ℕ) (run : List ℕ) → min (length run) P ≤ length (payloads P run)
payloads_more P run =
    let n = min (length run) P in
    let is : length (payloads P run) ≡ length (take n run ++ payloads P (drop (n + 12) run)) = ap (λ (l : List ℕ). length l) (payloads_begin P run) in
    let part : length (take n run) ≡ n = length-take-le n run (omega arith) in
    omega (arith, is, part, length-append (take n run) (payloads P (drop (n + 12) run)))

-- where all of it is passed over, nothing is left
pub nothing_more : (P skip : ℕ) (run : List ℕ) → skip < P → length run ≤ skip → drop skip (payloads P run) ≡ []
nothing_more P skip run less over = drop_all skip (payloads P run) (omega (arith, over, payloads_fewer P run))

-- ---- a run more

pushed_first : (P skip : ℕ) (run : List ℕ) → skip < P → skip < length run
    → payloads_from P (run ∷ []) skip (min (length run) P - skip) ≡ drop skip (payloads P run)
pushed_first P skip run less within =
    let n = min (length run) P in
    let all : payloads_from P (run ∷ []) 0 n ≡ payloads P run = begins_runs P run [] ∙ append-nil (payloads P run) in
    let size : length (payloads_from P (run ∷ []) 0 n) ≡ length (payloads P run) = ap (λ (l : List ℕ). length l) all in
    ap (λ (k : ℕ). payloads_from P (run ∷ []) k (n - skip)) (let e : skip ≡ 0 + skip = omega arith in e)
    ∙ sym (passed P (run ∷ []) 0 n skip (omega (arith, less, within), omega arith) (inr (omega (arith, less, within))) (omega (arith, size, less, within, payloads_more P run)))
    ∙ ap (λ (l : List ℕ). drop skip l) all

pushed_after : (P start left : ℕ) (first run : List ℕ) (rest : List (List ℕ))
    → payloads_from P (first ∷ (rest ++ run ∷ [])) start left ≡ payloads_from P (first ∷ rest) start left ++ payloads P run
pushed_after P start left first run rest =
    let front = take left (drop start first) in
    let page = payloads P (drop (start + left + 12) first) in
    ap (λ (l : List ℕ). front ++ (page ++ l)) (flat_map-append (payloads P) rest (run ∷ []) ∙ ap (λ (l : List ℕ). flat_map (payloads P) rest ++ l) (append-nil (payloads P run)))
    ∙ ap (λ (l : List ℕ). front ++ l) (sym (append_assoc page (flat_map (payloads P) rest) (payloads P run)))
    ∙ sym (append_assoc front (page ++ flat_map (payloads P) rest) (payloads P run))

-- what a run more makes of the bytes at hand
pub record Pushed (P : ℕ) (all : List (List ℕ)) (start left : ℕ) (run : List ℕ) (skip next_start next_left : ℕ) : Type 0 where
  pub bytes : payloads_from P (all ++ run ∷ []) next_start next_left ≡ payloads_from P all start left ++ drop skip (payloads P run)
  pub cursor : IsCursor (all ++ run ∷ []) next_start next_left
  pub fits : next_start + next_left < 2 ^ 64

pub pushed : (P : ℕ) (all : List (List ℕ)) (start left remaining : ℕ) (run : List ℕ) (skip next_start next_left : ℕ) → IsHand P all start left remaining
    → skip < P → skip < length run → length run < 2 ^ 64 → (0 < length (payloads_from P all start left) → skip ≡ 0)
    → (all ≡ [] → (next_start ≡ skip) × (next_left ≡ min (length run) P - skip)) → ((all ≡ [] → ⊥) → (next_start ≡ start) × (next_left ≡ left))
    → Pushed P all start left run skip next_start next_left
pushed P [] start left remaining run skip next_start next_left h less within small after none some =
    let is = none refl in
    record {
      bytes = ap (λ (k : ℕ). payloads_from P (run ∷ []) k next_left) is.0 ∙ ap (λ (k : ℕ). payloads_from P (run ∷ []) skip k) is.1 ∙ pushed_first P skip run less within;
      cursor = (omega (arith, is.1, less, within), omega (arith, is.0, is.1, less, within));
      fits = omega (arith, is.0, is.1, less, within, small);
    }
pushed P (first ∷ rest) start left remaining run skip next_start next_left h less within small after none some =
    let is = some (λ e. nil_cons first rest e) in
    let page = take left (drop start first) in
    let size : length page ≡ left = length-take-le left (drop start first) (omega (arith, h.cursor.1, length-drop start first)) in
    let zero_skip : skip ≡ 0 = after (omega (arith, size, h.cursor.0, length-append page (payloads P (drop (start + left + 12) first) ++ flat_map (payloads P) rest))) in
    record {
      bytes = ap (λ (k : ℕ). payloads_from P (first ∷ (rest ++ run ∷ [])) k next_left) is.0 ∙ ap (λ (k : ℕ). payloads_from P (first ∷ (rest ++ run ∷ [])) start k) is.1
          ∙ pushed_after P start left first run rest
          ∙ ap (λ (k : ℕ). payloads_from P (first ∷ rest) start left ++ drop k (payloads P run)) (sym zero_skip);
      cursor = (omega (arith, is.1, h.cursor.0), omega (arith, is.0, is.1, h.cursor.1));
      fits = omega (arith, is.0, is.1, h.fits);
    }
  where
    nil_cons : (first : List ℕ) (rest : List (List ℕ)) → first ∷ rest ≡ [] → ⊥
    nil_cons first rest e = let size = ap (λ (l : List (List ℕ)). length l) e in omega (arith, size)

-- the fields fit together once a run was added
pub pushed_is : (P : ℕ) (all now : List (List ℕ)) (start left remaining : ℕ) (run : List ℕ) (skip next_start next_left more : ℕ) → IsHand P all start left remaining
    → Pushed P all start left run skip next_start next_left → now ≡ all ++ run ∷ [] → 0 < length run → more ≡ length (payloads P run) - skip
    → IsHand P now next_start next_left (remaining + more)
pushed_is P all now start left remaining run skip next_start next_left more h is same some size =
    let told : length (payloads_from P (all ++ run ∷ []) next_start next_left) ≡ length (payloads_from P all start left ++ drop skip (payloads P run)) = ap (λ (l : List ℕ). length l) is.bytes in
    subst (λ (l : List (List ℕ)). IsHand P l next_start next_left (remaining + more)) (sym same) (record {
      some = h.some;
      runs = All-append (λ (l : List ℕ). 0 < length l) all (run ∷ []) h.runs (one_run run some);
      cursor = is.cursor;
      fits = is.fits;
      count = omega (arith, told, size, h.count, length-append (payloads_from P all start left) (drop skip (payloads P run)), length-drop skip (payloads P run));
    })
  where
    one_run : (run : List ℕ) → 0 < length run → All (λ (l : List ℕ). 0 < length l) (run ∷ [])
    one_run run some zero d below = some
    one_run run some (suc k) d below = absurd (omega (arith, below))

pub sliced_more : (all out chunk here : List ℕ) (done left len : ℕ) → take done out ≡ take done all → here ≡ drop done all → chunk ≡ take left here → len ≤ left
    → take done out ++ take len chunk ≡ take (done + len) all
sliced_more all out chunk here done left len so_far rest part less =
    ap (λ (l : List ℕ). take done out ++ take len l) part
    ∙ ap (λ (l : List ℕ). take done out ++ l) (take-take len left here less)
    ∙ ap (λ (l : List ℕ). take done out ++ take len l) rest
    ∙ ap (λ (l : List ℕ). l ++ take len (drop done all)) so_far
    ∙ sym (take-add done len all)

-- a part that is written over leaves the length
pub overwritten : (at len : ℕ) (out part : List ℕ) → length part ≡ len → at + len ≤ length out → length (put_mid at (at + len - at) out part) ≡ length out
overwritten at len out part size within =
    let rest : length (post_of at (at + len - at) out) ≡ length (drop (at + len) out) = ap (λ (l : List ℕ). length l) (Post-is at (at + len) out (omega arith)) in
    let front : length (take at out) ≡ at = length-take-le at out (omega (arith, within)) in
    omega (arith, rest, front, size, within, length-drop (at + len) out, length-append (take at out) (part ++ post_of at (at + len - at) out), length-append part (post_of at (at + len - at) out))
