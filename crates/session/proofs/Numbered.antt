-- The one of a number among some that may be forgotten.
use Rattle.std.proofs.Common.{◌≡◌, ℕ, zero, suc, ◌+◌, ◌<◌, List, [], ◌∷◌, ◌++◌, take, drop, length, map, refl, sym, ap, ◌∙◌, subst, arith, add-one}
use Rattle.std.specs.Prelude.{Option, Some, None, option_map}
use Rattle.std.specs.List.{slice_get}
use Rattle.std.proofs.Math.ListN.{set}
use Rattle.std.proofs.lemmas.List.{set-get_or}
use Rattle.std.proofs.lemmas.Option.{get_or_from_slice_get, slice_get-map}
use Rattle.paged_read.specs.Replay.{ReplayState}
use Rattle.session.specs.declared.steps.Reply.{Reply}
use Rattle.session.specs.declared.steps.Reply.TheVariants.{NoSuch}
use Rattle.session.specs.Run.{numbered}
use Rattle.session.specs.Calls.{AtReplay, OfReplay}

pub numbered-map : {A B : Type 0} (f : A → B) (xs : List (Option A)) (i : ℕ) → numbered (map (option_map f) xs) i ≡ option_map f (numbered xs i)
numbered-map f xs i = ap (λ (o : Option (Option _)). elim o [ None ↦ None | Some x ↦ x ]) (slice_get-map (option_map f) xs i) ∙ by_case (slice_get xs i)
  where
    by_case : (o : Option (Option _)) → (elim (option_map (option_map f) o) [ None ↦ None | Some x ↦ x ]) ≡ option_map f (elim o [ None ↦ None | Some x ↦ x ])
    by_case None = refl
    by_case (Some x) = refl

pub numbered_there : {A : Type 0} (xs : List (Option A)) (i : ℕ) (x : A) → numbered xs i ≡ Some x → slice_get xs i ≡ Some (Some x)
numbered_there xs i x is = by_case (slice_get xs i) is
  where
    by_case : (o : Option (Option _)) → (elim o [ None ↦ None | Some y ↦ y ]) ≡ Some x → o ≡ Some (Some x)
    by_case None none = absurd (cc none)
    by_case (Some y) some = ap Some some

-- the element at an offset, if it wasn't forgotten
numbered_at : {A : Type 0} (xs : List (Option A)) (i : ℕ) (o : Option (Option A)) → slice_get xs i ≡ o → numbered xs i ≡ (elim o [ None ↦ None | Some y ↦ y ])
numbered_at xs i o is = ap (λ (x : Option (Option _)). elim x [ None ↦ None | Some y ↦ y ]) is

pub stands_at : {A : Type 0} (xs : List (Option A)) (i : ℕ) (x : A) → slice_get xs i ≡ Some (Some x) → numbered xs i ≡ Some x
stands_at xs i x at = numbered_at xs i (Some (Some x)) at

-- an element that is put where it was leaves the list as it was
pub put_back : {X : Type 0} (xs : List X) (i : ℕ) (x : X) → slice_get xs i ≡ Some x → set xs i x ≡ xs
put_back xs i x is = ap (λ (y : _). set xs i y) (sym (get_or_from_slice_get xs i x x is)) ∙ set-get_or xs i x

-- a step of one replay, by whether it is there
abbrev pub AtOne : (index : ℕ) → (was now : List (Option ReplayState)) → Reply → (same : Type 0) → (goes : ReplayState → ReplayState → Type 0) → Option ReplayState → Type 0
AtOne index was now reply same goes o = elim o [ None ↦ (reply ≡ NoSuch) × (now ≡ was) × same | Some r ↦ (q : ReplayState) × (now ≡ set was index (Some q)) × goes r q ]

-- a step of the replay at an offset
pub at_some : (index : ℕ) (was : List (Option ReplayState)) (o now : Option ReplayState) (reply : Reply) (same : Type 0) (goes : ReplayState → ReplayState → Type 0) → slice_get was index ≡ Some o → OfReplay o now reply same goes → AtReplay index was (set was index now) reply same goes
at_some index was None now reply same goes at (replied, is, stays) =
    let kept : set was index now ≡ was = ap (λ (x : Option ReplayState). set was index x) is ∙ put_back was index None at in
    let F : Option ReplayState → Type 0 = AtOne index was (set was index now) reply same goes in
    subst F (sym (numbered_at was index (Some None) at)) (replied, kept, stays)
at_some index was (Some r) now reply same goes at (q, is, went) =
    let F : Option ReplayState → Type 0 = AtOne index was (set was index now) reply same goes in
    subst F (sym (numbered_at was index (Some (Some r)) at)) (q, ap (λ (x : Option ReplayState). set was index x) is, went)

-- a step where there is no such replay
pub at_none : (index : ℕ) (was : List (Option ReplayState)) (same : Type 0) (goes : ReplayState → ReplayState → Type 0) → slice_get was index ≡ None → same → AtReplay index was was NoSuch same goes
at_none index was same goes at stays =
    let F : Option ReplayState → Type 0 = AtOne index was was NoSuch same goes in
    subst F (sym (numbered_at was index None at)) (refl, refl, stays)

-- one more is forgotten
forgets_more : {X : Type 0} (xs : List (Option X)) (i : ℕ) → i < length xs → set (map (λ x. None) (take i xs) ++ drop i xs) i None ≡ map (λ x. None) (take (suc i) xs) ++ drop (suc i) xs
forgets_more [] i lt = absurd (omega (arith, lt))
forgets_more (x ∷ xs) zero lt = refl
forgets_more (x ∷ xs) (suc i) lt = ap (λ (l : List (Option _)). None ∷ l) (forgets_more xs i (omega (arith, lt)))

pub forgot_more : {X : Type 0} (xs now : List (Option X)) (i : ℕ) → i < length xs → now ≡ map (λ x. None) (take i xs) ++ drop i xs → set now i None ≡ map (λ x. None) (take (i + 1) xs) ++ drop (i + 1) xs
forgot_more xs now i lt is = ap (λ (l : List (Option _)). set l i None) is ∙ rw add-one (forgets_more xs i lt)
