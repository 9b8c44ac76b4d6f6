-- Ranges that end within a number of bytes.
use Rattle.std.proofs.Common.{◌≡◌, ◌∙◌, ap, sym, subst, ℕ, ◌+◌, ◌<◌, ◌≤◌, List, ◌∷◌, ◌++◌, length, take, drop, get_or}
use Rattle.std.specs.Prelude.{Err}
use Rattle.std.proofs.lemmas.List.{take_more, take_all, take-append-drop, drop_more}
use Rattle.std.proofs.lemmas.List.Elements.{All-push}
use Rattle.disk.specs.declared.error.Error.{Error}
use Rattle.page.specs.Geometry.{EndWithin, RangeGoes, RangesGo}

-- the first ranges with one more that ends within
pub EndWithin-more : (size : ℕ) (ranges : List (ℕ × ℕ)) (i : ℕ) (d : ℕ × ℕ) → i < length ranges → EndWithin size (take i ranges)
    → (get_or ranges i d).0 + (get_or ranges i d).1 ≤ size → EndWithin size (take (i + 1) ranges)
EndWithin-more size ranges i d there before ends =
    let Q : List (ℕ × ℕ) → Type 0 = λ rs. EndWithin size rs in
    subst Q (sym (take_more ranges i d there)) (All-push (λ range. range.0 + range.1 ≤ size) (take i ranges) (get_or ranges i d) before ends)

-- where the first ranges are all of them
pub EndWithin-all : (size : ℕ) (ranges : List (ℕ × ℕ)) (n : ℕ) → length ranges ≤ n → EndWithin size (take n ranges) → EndWithin size ranges
EndWithin-all size ranges n enough all =
    let Q : List (ℕ × ℕ) → Type 0 = λ rs. EndWithin size rs in
    subst Q (take_all n ranges enough) all

-- the first range that can't be read decides
pub RangesGo-refused : (size : ℕ) (ranges : List (ℕ × ℕ)) (i : ℕ) (d : ℕ × ℕ) (error : Error) → i < length ranges → EndWithin size (take i ranges)
    → RangeGoes size (get_or ranges i d) (Err error) → RangesGo size ranges (Err error)
RangesGo-refused size ranges i d error there before refused =
    let here : ranges ≡ take i ranges ++ get_or ranges i d ∷ drop (i + 1) ranges = sym (take-append-drop i ranges) ∙ ap (λ rs. take i ranges ++ rs) (drop_more ranges i d there) in
    (take i ranges, drop (i + 1) ranges, (get_or ranges i d, here, before, refused))
