-- Lists of buffers, one more at a time.
use Rattle.std.proofs.Common.{◌≡◌, ℕ, List, [], ◌∷◌, ◌++◌, ◌+◌, ◌<◌, ◌≤◌, length, take, drop, sym, ap, ◌∙◌, length-append, append-nil, slice_index_or, refl, arith}
use Rattle.std.specs.List.{concat}
use Rattle.std.proofs.lemmas.List.{take_more, take-append-drop}
use Rattle.disk.specs.Bufs.{with_buf}
use Rattle.std.proofs.lemmas.List.Folds.{concat-append}

-- the first buffers, joined, with one buffer more
pub concat_more : (xs : List (List ℕ)) (i : ℕ) (d : List ℕ) → i < length xs → concat (take (i + 1) xs) ≡ concat (take i xs) ++ slice_index_or xs i d
concat_more xs i d below =
    ap concat (take_more xs i d below) ∙ concat-append (take i xs) (slice_index_or xs i d ∷ []) ∙ ap (λ v. concat (take i xs) ++ v) (append-nil (slice_index_or xs i d))

-- the first buffers have no more bytes together than all
pub first_bufs : (xs : List (List ℕ)) (i : ℕ) → length (concat (take i xs)) ≤ length (concat xs)
first_bufs xs i =
    let all : concat xs ≡ concat (take i xs) ++ concat (drop i xs) = ap concat (sym (take-append-drop i xs)) ∙ concat-append (take i xs) (drop i xs) in
    omega (arith, ap length all, length-append (concat (take i xs)) (concat (drop i xs)))

-- a buffer that isn't empty is added at the list's end
pub with_some : (bufs : List (List ℕ)) (buf : List ℕ) → 0 < length buf → with_buf bufs buf ≡ bufs ++ buf ∷ []
with_some bufs [] some = absurd (omega arith)
with_some bufs (byte ∷ bytes) some = refl
