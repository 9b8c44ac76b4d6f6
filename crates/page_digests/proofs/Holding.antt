-- Pages that are held: how one is taken out, and one more is kept.
use Rattle.std.specs.Prelude.{◌≡◌, ◌+◌, ◌++◌, ◌∷◌, ℕ, List, drop, take, slice_index_or, if◌then◌else◌, Result, Ok, Err, IsOk, is_ok}
use Rattle.std.proofs.Common.{sym, ◌∙◌, ap, subst}
use Rattle.std.proofs.lemmas.List.{drop_more, take-append-drop}
use Rattle.page_digests.specs.HeldPages.{HoldsAt, IsPageWith, IsTakenPage, PageState}

-- the one at a place is taken out
pub taken_at : (digest : List ℕ) (len : ℕ) (old new : List PageState) (k : ℕ) (p : PageState) → HoldsAt digest len old k → p ≡ slice_index_or old k p → new ≡ take k old ++ drop (k + 1) old
    → IsTakenPage digest len old new p
taken_at digest len old new k p there is left = record {
  before = take k old;
  after = drop (k + 1) old;
  there = sym (take-append-drop k old) ∙ ap (λ l. take k old ++ l) (drop_more old k p there.within ∙ ap (λ (x : PageState). x ∷ drop (k + 1) old) (sym is));
  left = left;
  it = subst (IsPageWith digest len) (sym is) (there.it p);
}

pushed : {T E : Type 0} (r : Result T E) (xs ys new : List PageState) → IsOk r → new ≡ (if is_ok r then xs else ys) → new ≡ xs
pushed (Ok t) xs ys new ok is = is
pushed (Err e) xs ys new ok is = cc ok
