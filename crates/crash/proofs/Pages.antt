-- Consecutive pieces of a list, and the physical pages of a blob.
use Rattle.std.proofs.Common.{◌≡◌, ℕ, zero, suc, ◌+◌, ◌-◌, ◌*◌, ◌/◌, ◌<◌, ◌≤◌, List, [], ◌∷◌, ◌++◌, length, take, drop, refl, sym, ◌∙◌, ap, arith, length-append, length-drop, length-take, append_assoc, take-append-drop}
use Rattle.std.specs.Prelude.{slice_get, Some, replicate}
use Rattle.std.specs.List.{flat_map}
use Rattle.std.proofs.lemmas.List.{take-take, take_at, take_all, drop_at, drop_all, drop-drop, take-append-le, append-nil, length-take-le}
use Rattle.std.proofs.lemmas.Option.{same_Some, slice_get_within}
use Rattle.std.proofs.lemmas.Grind.{flat_map-append}
use Rattle.std.proofs.lemmas.Nat.{le-div, div_below}
use Rattle.std.proofs.Math.Nat.{div-mul-le_self, mul-le-mul_left, mul-div_cancel, add-mul-div_right}
use Rattle.disk.specs.Disk.{applied}
use Rattle.disk.specs.Disk.Operation.{Write, Resize}
use Rattle.page.specs.Page.{pieces, pages}
use Rattle.crash.specs.Contents.{stored}
use Rattle.crash.proofs.Lists.{take_same, drop_past, within_take, within_same, within_append, within_drop, same_reach}

-- there are as many pieces as were asked for
pub length-pieces : (n size : ℕ) (bytes : List ℕ) → length (pieces n size bytes) ≡ n
length-pieces zero size bytes = refl
length-pieces (suc n) size bytes = ap suc (length-pieces n size (drop size bytes))

-- a piece by its offset
pub pieces_at : (n size p : ℕ) (bytes : List ℕ) → p < n → slice_get (pieces n size bytes) p ≡ Some (take size (drop (p * size) bytes))
pieces_at zero size p bytes lt = absurd (omega arith)
pieces_at (suc n) size zero bytes lt = let e : 0 * size ≡ 0 = omega arith in rw e
pieces_at (suc n) size (suc p) bytes lt = let e : size + p * size ≡ suc p * size = omega arith in
    pieces_at n size p (drop size bytes) (omega arith) ∙ ap (λ (l : List ℕ). Some (take size l)) (drop-drop (p * size) size bytes ∙ ap (λ (k : ℕ). drop k bytes) e)

-- pieces are of the bytes that they cover
pub pieces_same : (n size : ℕ) (xs ys : List ℕ) → take (n * size) xs ≡ take (n * size) ys → pieces n size xs ≡ pieces n size ys
pieces_same zero size xs ys same = refl
pieces_same (suc n) size xs ys same =
    let split : suc n * size ≡ size + n * size = omega arith in
    let whole : take (size + n * size) xs ≡ take (size + n * size) ys = rw split at same in
    let head : take size xs ≡ take size ys = take_same size (size + n * size) xs ys (omega arith) whole in
    let rest : take (n * size) (drop size xs) ≡ take (n * size) (drop size ys) = within_same (n * size) size (size + n * size) xs ys (omega arith) whole in
    cc (head, pieces_same n size (drop size xs) (drop size ys) rest)

-- the pieces of a beginning that covers them
pub pieces_of_take : (n size k : ℕ) (bytes : List ℕ) → n * size ≤ k → pieces n size (take k bytes) ≡ pieces n size bytes
pieces_of_take n size k bytes le = pieces_same n size (take k bytes) bytes (take-take (n * size) k bytes le)

-- the first pieces, and then those of the rest
pub pieces-add : (m n size : ℕ) (bytes : List ℕ) → pieces (m + n) size bytes ≡ pieces m size bytes ++ pieces n size (drop (m * size) bytes)
pieces-add zero n size bytes = let e : 0 + n ≡ n = omega arith in let f : 0 * size ≡ 0 = omega arith in rw (e, f)
pieces-add (suc m) n size bytes =
    let e : suc m + n ≡ suc (m + n) = omega arith in
    let f : size + m * size ≡ suc m * size = omega arith in
    ap (λ (k : ℕ). pieces k size bytes) e
    ∙ ap (λ (l : List (List ℕ)). take size bytes ∷ l) (pieces-add m n size (drop size bytes))
    ∙ ap (λ (l : List ℕ). take size bytes ∷ (pieces m size (drop size bytes) ++ pieces n size l)) (drop-drop (m * size) size bytes ∙ ap (λ (k : ℕ). drop k bytes) f)

-- the first of the pieces
pub take-pieces : (k n size : ℕ) (bytes : List ℕ) → k ≤ n → take k (pieces n size bytes) ≡ pieces k size bytes
take-pieces zero n size bytes le = refl
take-pieces (suc k) zero size bytes le = absurd (omega arith)
take-pieces (suc k) (suc n) size bytes le = ap (λ (l : List (List ℕ)). take size bytes ∷ l) (take-pieces k n size (drop size bytes) (omega arith))

-- the pieces after the first
pub drop-pieces : (k n size : ℕ) (bytes : List ℕ) → drop k (pieces (k + n) size bytes) ≡ pieces n size (drop (k * size) bytes)
drop-pieces k n size bytes =
    ap (λ (l : List (List ℕ)). drop k l) (pieces-add k n size bytes) ∙ drop_at (pieces k size bytes) (pieces n size (drop (k * size) bytes)) k (length-pieces k size bytes)

-- one piece more
pub pieces_more : (n size : ℕ) (bytes : List ℕ) → pieces (n + 1) size bytes ≡ pieces n size bytes ++ take size (drop (n * size) bytes) ∷ []
pieces_more n size bytes = pieces-add n 1 size bytes

-- pieces of two lists joined, where the first ends at a piece's end
pub pieces-append : (m n size : ℕ) (front back : List ℕ) → length front ≡ m * size → pieces (m + n) size (front ++ back) ≡ pieces m size front ++ pieces n size back
pieces-append m n size front back len =
    pieces-add m n size (front ++ back)
    ∙ ap (λ (l : List (List ℕ)). l ++ pieces n size (drop (m * size) (front ++ back))) (pieces_same m size (front ++ back) front (take_at front back (m * size) len ∙ sym (take_all (m * size) front (omega arith))))
    ∙ ap (λ (l : List ℕ). pieces m size front ++ pieces n size l) (drop_at front back (m * size) len)

-- as many pages as fit
pub length-pages : (P : ℕ) (bytes : List ℕ) → length (pages P bytes) ≡ length bytes / (P + 12)
length-pages P bytes = length-pieces (length bytes / (P + 12)) (P + 12) bytes

-- whole pages fit as many times as the blob has pages
pub pages_fit : (P k : ℕ) (bytes : List ℕ) → k * (P + 12) ≤ length bytes → k ≤ length bytes / (P + 12)
pages_fit P k bytes le = le-div k (length bytes) (P + 12) (omega arith) le

-- a blob is at least as long as its pages
pub pages_reach : (P k : ℕ) (bytes : List ℕ) → k ≤ length bytes / (P + 12) → k * (P + 12) ≤ length bytes
pages_reach P k bytes le =
    let q = length bytes / (P + 12) in
    let a : (P + 12) * k ≤ (P + 12) * q = mul-le-mul_left (P + 12) le in
    let b : q * (P + 12) ≤ length bytes = div-mul-le_self (length bytes) (P + 12) in
    omega (arith, a, b)

-- fewer whole pages fit too
pub fewer_fit : (P k n : ℕ) (bytes : List ℕ) → k ≤ n → n * (P + 12) ≤ length bytes → k * (P + 12) ≤ length bytes
fewer_fit P k n bytes le reach = let a : (P + 12) * k ≤ (P + 12) * n = mul-le-mul_left (P + 12) le in omega (arith, a)

-- a page by its offset
pub pages_at : (P p : ℕ) (bytes : List ℕ) → (p + 1) * (P + 12) ≤ length bytes → slice_get (pages P bytes) p ≡ Some (take (P + 12) (drop (p * (P + 12)) bytes))
pages_at P p bytes le = pieces_at (length bytes / (P + 12)) (P + 12) p bytes (omega (arith, pages_fit P (p + 1) bytes le))

-- a page lies within the blob
pub page_fits : (P p : ℕ) (bytes page : List ℕ) → slice_get (pages P bytes) p ≡ Some page → (p + 1) * (P + 12) ≤ length bytes
page_fits P p bytes page is = pages_reach P (p + 1) bytes (omega (arith, slice_get_within (pages P bytes) p page is, length-pages P bytes))

-- a page is the bytes at its offset
pub page_is : (P p : ℕ) (bytes page : List ℕ) → slice_get (pages P bytes) p ≡ Some page → page ≡ take (P + 12) (drop (p * (P + 12)) bytes)
page_is P p bytes page is = same_Some _ _ (sym is ∙ pages_at P p bytes (page_fits P p bytes page is))

-- the bytes at a page's offset are as many as a page has
pub length-offset : (P p : ℕ) (bytes : List ℕ) → (p + 1) * (P + 12) ≤ length bytes → length (take (P + 12) (drop (p * (P + 12)) bytes)) ≡ P + 12
length-offset P p bytes le = length-take-le (P + 12) (drop (p * (P + 12)) bytes) (omega (arith, length-drop (p * (P + 12)) bytes))

-- a page has P + 12 bytes
pub length-page : (P p : ℕ) (bytes page : List ℕ) → slice_get (pages P bytes) p ≡ Some page → length page ≡ P + 12
length-page P p bytes page is = ap length (page_is P p bytes page is) ∙ length-offset P p bytes (page_fits P p bytes page is)

-- the first pages, by the bytes that they cover
pub take-pages : (P k : ℕ) (bytes : List ℕ) → k * (P + 12) ≤ length bytes → take k (pages P bytes) ≡ pieces k (P + 12) bytes
take-pages P k bytes le = take-pieces k (length bytes / (P + 12)) (P + 12) bytes (pages_fit P k bytes le)

-- the pages of a blob of so many whole pages
pub pages_whole : (P k : ℕ) (bytes : List ℕ) → length bytes ≡ k * (P + 12) → pages P bytes ≡ pieces k (P + 12) bytes
pages_whole P k bytes len =
    let e : length bytes / (P + 12) ≡ k = ap (λ (n : ℕ). n / (P + 12)) len ∙ mul-div_cancel k (omega arith) in
    ap (λ (n : ℕ). pieces n (P + 12) bytes) e

-- the pages of a beginning
pub pages_of_take : (P k : ℕ) (bytes : List ℕ) → k * (P + 12) ≤ length bytes → pages P (take (k * (P + 12)) bytes) ≡ take k (pages P bytes)
pages_of_take P k bytes le =
    pages_whole P k (take (k * (P + 12)) bytes) (length-take-le (k * (P + 12)) bytes le)
    ∙ pieces_of_take k (P + 12) (k * (P + 12)) bytes (omega arith)
    ∙ sym (take-pages P k bytes le)

-- the first pages are of the bytes that they cover
pub take-pages_same : (P k : ℕ) (xs ys : List ℕ) → k * (P + 12) ≤ length xs → take (k * (P + 12)) xs ≡ take (k * (P + 12)) ys → take k (pages P xs) ≡ take k (pages P ys)
take-pages_same P k xs ys le same =
    take-pages P k xs le ∙ pieces_same k (P + 12) xs ys same ∙ sym (take-pages P k ys (same_reach (k * (P + 12)) xs ys same le))

-- the pages of two lists joined, where the first ends at a page's end
pub pages-append : (P q : ℕ) (front back : List ℕ) → length front ≡ q * (P + 12) → pages P (front ++ back) ≡ pages P front ++ pages P back
pages-append P q front back len =
    let count : length (front ++ back) / (P + 12) ≡ q + length back / (P + 12) =
    ap (λ (n : ℕ). n / (P + 12)) (let e : length (front ++ back) ≡ length back + q * (P + 12) = omega (arith, length-append front back) in e)
    ∙ add-mul-div_right (length back) q (omega arith) ∙ (let e : length back / (P + 12) + q ≡ q + length back / (P + 12) = omega arith in e) in
    ap (λ (n : ℕ). pieces n (P + 12) (front ++ back)) count
    ∙ pieces-append q (length back / (P + 12)) (P + 12) front back len
    ∙ ap (λ (l : List (List ℕ)). l ++ pages P back) (sym (pages_whole P q front len))

-- a write that begins within the blob, and reaches its end
pub write_at_end : (offset : ℕ) (new old : List ℕ) → offset ≤ length old → length old ≤ offset + length new → applied (Write offset new) old ≡ take offset old ++ new
write_at_end offset new old le reach =
    let none : offset - length old ≡ 0 = omega arith in
    let after : drop (offset + length new) old ≡ [] = drop_all (offset + length new) old reach in
    rw (none, after) (append-nil ((take offset old ++ []) ++ new) ∙ ap (λ (l : List ℕ). l ++ new) (append-nil (take offset old)))

-- a resize that cuts
pub cut_is : (len : ℕ) (old : List ℕ) → len ≤ length old → applied (Resize len) old ≡ take len old
cut_is len old le = let none : len - length old ≡ 0 = omega arith in rw none (append-nil (take len old))

-- what stands before a write stays
pub before_write : (offset k : ℕ) (new old : List ℕ) → k ≤ offset → k ≤ length old → take k (applied (Write offset new) old) ≡ take k old
before_write offset k new old le within =
    let front = take offset old in
    let gap = replicate {A = ℕ} (offset - length old) 0 in
    let rest = drop (offset + length new) old in
    let e : k ≤ length front = omega (arith, length-take offset old) in
    let f : k ≤ length (front ++ gap) = omega (arith, length-append front gap) in
    let g : k ≤ length ((front ++ gap) ++ new) = omega (arith, length-append (front ++ gap) new) in
    take-append-le k ((front ++ gap) ++ new) rest g ∙ take-append-le k (front ++ gap) new f ∙ take-append-le k front gap e ∙ take-take k offset old le

module _ (P q m : ℕ) (new old : List ℕ) (len : length new ≡ m * (P + 12)) (begins : q * (P + 12) ≤ length old) (ends : length old ≤ q * (P + 12) + length new) where
  -- a blob whose last pages were written anew
  pub rewritten : applied (Write (q * (P + 12)) new) old ≡ take (q * (P + 12)) old ++ new
  rewritten = write_at_end (q * (P + 12)) new old begins ends

  -- the length of a blob whose last pages were written anew
  pub length-rewritten : length (applied (Write (q * (P + 12)) new) old) ≡ (q + m) * (P + 12)
  length-rewritten = ap length rewritten ∙ (let e : length (take (q * (P + 12)) old ++ new) ≡ (q + m) * (P + 12) = omega (arith, length-append (take (q * (P + 12)) old) new, length-take (q * (P + 12)) old) in e)

  -- the pages of a blob whose last pages were written anew
  pub pages_of_rewritten : pages P (applied (Write (q * (P + 12)) new) old) ≡ take q (pages P old) ++ pieces m (P + 12) new
  pages_of_rewritten =
      let front : length (take (q * (P + 12)) old) ≡ q * (P + 12) = length-take-le (q * (P + 12)) old begins in
      ap (λ (l : List ℕ). pages P l) rewritten
      ∙ pages-append P q (take (q * (P + 12)) old) new front
      ∙ ap (λ (l : List (List ℕ)). l ++ pages P new) (pages_of_take P q old begins)
      ∙ ap (λ (l : List (List ℕ)). take q (pages P old) ++ l) (pages_whole P m new len)

-- ---- the payloads of pages, joined

-- the joined payloads with one page more
pub stored_suc : (P full : ℕ) (readable : List ℕ) → (full + 1) * (P + 12) ≤ length readable → stored P (full + 1) readable ≡ take P readable ++ stored P full (drop (P + 12) readable)
stored_suc P full readable le =
    let reach : full * (P + 12) ≤ length (drop (P + 12) readable) = omega (arith, length-drop (P + 12) readable) in
    let e : full + 1 ≡ suc full = omega arith in
    ap (λ (l : List (List ℕ)). flat_map (take P) l) (take-pages P (full + 1) readable le ∙ ap (λ (n : ℕ). pieces n (P + 12) readable) e)
    ∙ ap (λ (l : List ℕ). l ++ flat_map (take P) (pieces full (P + 12) (drop (P + 12) readable))) (take-take P (P + 12) readable (omega arith))
    ∙ ap (λ (l : List (List ℕ)). take P readable ++ flat_map (take P) l) (sym (take-pages P full (drop (P + 12) readable) reach))

-- the joined payloads are as long as so many full pages
joined_length : (n P size : ℕ) (bytes : List ℕ) → P ≤ size → n * size ≤ length bytes → length (flat_map (take P) (pieces n size bytes)) ≡ n * P
joined_length zero P size bytes small le = omega arith
joined_length (suc n) P size bytes small le =
    let rest : length (drop size bytes) ≡ length bytes - size = length-drop size bytes in
    omega (arith, length-append (take P (take size bytes)) (flat_map (take P) (pieces n size (drop size bytes))), length-take P (take size bytes), length-take size bytes, joined_length n P size (drop size bytes) small (omega arith))

-- what stands within a payload
joined_within : (n P size p i k : ℕ) (bytes : List ℕ) → P ≤ size → n * size ≤ length bytes → p < n → i + k ≤ P → take k (drop (p * P + i) (flat_map (take P) (pieces n size bytes))) ≡ take k (drop (p * size + i) bytes)
joined_within zero P size p i k bytes small le lt fits = absurd (omega arith)
joined_within (suc n) P size zero i k bytes small le lt fits =
    let front = take P (take size bytes) in
    let rest = flat_map (take P) (pieces n size (drop size bytes)) in
    let length_front : length front ≡ P = omega (arith, length-take P (take size bytes), length-take size bytes) in
    let e : 0 * P + i ≡ i = omega arith in
    let f : 0 * size + i ≡ i = omega arith in
    rw (e, f) (within_append k i front rest (omega arith) ∙ ap (λ (l : List ℕ). take k (drop i l)) (take-take P size bytes small) ∙ within_take k i P bytes fits)
joined_within (suc n) P size (suc p) i k bytes small le lt fits =
    let front = take P (take size bytes) in
    let rest = flat_map (take P) (pieces n size (drop size bytes)) in
    let length_front : length front ≡ P = omega (arith, length-take P (take size bytes), length-take size bytes) in
    let past : drop (suc p * P + i) (front ++ rest) ≡ drop (p * P + i) rest =
    drop_past (suc p * P + i) front rest (omega arith) ∙ ap (λ (j : ℕ). drop j rest) (let e : suc p * P + i - length front ≡ p * P + i = omega arith in e) in
    let reach : n * size ≤ length (drop size bytes) = omega (arith, length-drop size bytes) in
    let e : size + (p * size + i) ≡ suc p * size + i = omega arith in
    ap (λ (l : List ℕ). take k l) past
    ∙ joined_within n P size p i k (drop size bytes) small reach (omega arith) fits
    ∙ within_drop k (p * size + i) size bytes
    ∙ ap (λ (j : ℕ). take k (drop j bytes)) e

-- the joined payloads of a blob's first pages are as long as so many full pages
pub length-stored : (P full : ℕ) (readable : List ℕ) → full * (P + 12) ≤ length readable → length (stored P full readable) ≡ full * P
length-stored P full readable le =
    ap (λ (l : List (List ℕ)). length (flat_map (take P) l)) (take-pages P full readable le) ∙ joined_length full P (P + 12) readable (omega arith) le

-- a part within one payload of the joined ones
pub stored_within : (P full p i n : ℕ) (readable : List ℕ) → full * (P + 12) ≤ length readable → p < full → i + n ≤ P → take n (drop (p * P + i) (stored P full readable)) ≡ take n (drop (p * (P + 12) + i) readable)
stored_within P full p i n readable le lt fits =
    ap (λ (l : List (List ℕ)). take n (drop (p * P + i) (flat_map (take P) l))) (take-pages P full readable le) ∙ joined_within full P (P + 12) p i n readable (omega arith) le lt fits

-- the joined payloads depend on the bytes that the pages cover alone
pub stored_same : (P full : ℕ) (xs ys : List ℕ) → full * (P + 12) ≤ length xs → take (full * (P + 12)) xs ≡ take (full * (P + 12)) ys → stored P full xs ≡ stored P full ys
stored_same P full xs ys le same = ap (λ (l : List (List ℕ)). flat_map (take P) l) (take-pages_same P full xs ys le same)

-- the first payloads, and then the others
pub stored-add : (P a b : ℕ) (readable : List ℕ) → (a + b) * (P + 12) ≤ length readable → stored P (a + b) readable ≡ stored P a readable ++ stored P b (drop (a * (P + 12)) readable)
stored-add P a b readable le =
    let rest = drop (a * (P + 12)) readable in
    let front : a * (P + 12) ≤ length readable = omega arith in
    let back : b * (P + 12) ≤ length rest = omega (arith, length-drop (a * (P + 12)) readable) in
    ap (λ (l : List (List ℕ)). flat_map (take P) l) (take-pages P (a + b) readable le ∙ pieces-add a b (P + 12) readable)
    ∙ flat_map-append (take P) (pieces a (P + 12) readable) (pieces b (P + 12) rest)
    ∙ ap (λ (l : List (List ℕ)). flat_map (take P) l ++ flat_map (take P) (pieces b (P + 12) rest)) (sym (take-pages P a readable front))
    ∙ ap (λ (l : List (List ℕ)). stored P a readable ++ flat_map (take P) l) (sym (take-pages P b rest back))

-- the first of the payloads
pub take-stored : (P k full : ℕ) (readable : List ℕ) → k ≤ full → full * (P + 12) ≤ length readable → take (k * P) (stored P full readable) ≡ stored P k readable
take-stored P k full readable le reach =
    let e : full ≡ k + (full - k) = omega arith in
    let whole : (k + (full - k)) * (P + 12) ≤ length readable = rw (← e) reach in
    let front : k * (P + 12) ≤ length readable = fewer_fit P k full readable le reach in
    ap (λ (n : ℕ). take (k * P) (stored P n readable)) e
    ∙ ap (λ (l : List ℕ). take (k * P) l) (stored-add P k (full - k) readable whole)
    ∙ take_at (stored P k readable) (stored P (full - k) (drop (k * (P + 12)) readable)) (k * P) (length-stored P k readable front)

-- the payloads after the first
pub drop-stored : (P k full : ℕ) (readable : List ℕ) → k ≤ full → full * (P + 12) ≤ length readable → drop (k * P) (stored P full readable) ≡ stored P (full - k) (drop (k * (P + 12)) readable)
drop-stored P k full readable le reach =
    let e : full ≡ k + (full - k) = omega arith in
    let whole : (k + (full - k)) * (P + 12) ≤ length readable = rw (← e) reach in
    let front : k * (P + 12) ≤ length readable = fewer_fit P k full readable le reach in
    ap (λ (n : ℕ). drop (k * P) (stored P n readable)) e
    ∙ ap (λ (l : List ℕ). drop (k * P) l) (stored-add P k (full - k) readable whole)
    ∙ drop_at (stored P k readable) (stored P (full - k) (drop (k * (P + 12)) readable)) (k * P) (length-stored P k readable front)

-- one page more among the first
pub take_pages_more : (P k : ℕ) (bytes : List ℕ) → (k + 1) * (P + 12) ≤ length bytes → take (k + 1) (pages P bytes) ≡ take k (pages P bytes) ++ take (P + 12) (drop (k * (P + 12)) bytes) ∷ []
take_pages_more P k bytes le =
    take-pages P (k + 1) bytes le ∙ pieces_more k (P + 12) bytes
    ∙ ap (λ (l : List (List ℕ)). l ++ take (P + 12) (drop (k * (P + 12)) bytes) ∷ []) (sym (take-pages P k bytes (omega arith)))

-- the pages before one, that one, and those after it
pub pages_split : (P k : ℕ) (bytes : List ℕ) → (k + 1) * (P + 12) ≤ length bytes → pages P bytes ≡ take k (pages P bytes) ++ take (P + 12) (drop (k * (P + 12)) bytes) ∷ drop (k + 1) (pages P bytes)
pages_split P k bytes le =
    let page = take (P + 12) (drop (k * (P + 12)) bytes) in
    let rest = drop (k + 1) (pages P bytes) in
    sym (take-append-drop (k + 1) (pages P bytes))
    ∙ ap (λ (l : List (List ℕ)). l ++ rest) (take_pages_more P k bytes le)
    ∙ append_assoc (take k (pages P bytes)) (page ∷ []) rest

-- a blob has no more pages than fit into its length
pub pages_below : (P k : ℕ) (bytes : List ℕ) → length bytes < (k + 1) * (P + 12) → length (pages P bytes) ≤ k
pages_below P k bytes ends = let a : length bytes / (P + 12) < k + 1 = div_below (length bytes) (P + 12) (k + 1) (omega arith) ends in omega (arith, a, length-pages P bytes)
