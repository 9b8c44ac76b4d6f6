-- What a manifest lists after an entry more.
use Rattle.std.specs.Prelude.{◌≡◌, ◌≤◌, ◌<◌, ◌+◌, ◌++◌, ℕ, List, [], ◌∷◌, length, drop, Some, None, Option, if◌then◌else◌}
use Rattle.std.proofs.Common.{ap, sym, ◌∙◌, refl, arith}
use Rattle.std.proofs.lemmas.Bool.{lt-ltb}
use Rattle.std.proofs.lemmas.List.{drop_all}
use Rattle.segments.specs.declared.closed.Closed.{Closed}
use Rattle.segments.specs.declared.entry.Entry.{Entry}
use Rattle.segments.specs.Manifest.{ListingState, closed_count, entry_in, fitting, listed_after, listed_by, listed_in, listed_with, none_closed}

after_more : (P : ℕ) (o : Option ListingState) (rs : List (List ℕ)) (r : List ℕ) (l : ListingState)
    → listed_after P o rs ≡ Some l → listed_after P o (rs ++ r ∷ []) ≡ listed_after P (Some l) (r ∷ [])
after_more P None [] r l is = ap (λ o. listed_after P o (r ∷ [])) is
after_more P None (x ∷ xs) r l is = ap (λ o. listed_after P o (r ∷ [])) is
after_more P (Some k) [] r l is = ap (λ o. listed_after P o (r ∷ [])) is
after_more P (Some k) (x ∷ xs) r l is = after_more P (listed_by P (entry_in x) k) xs r l is

last_of : (P : ℕ) (o : Option ListingState) → listed_after P o [] ≡ o
last_of P None = refl
last_of P (Some l) = refl

-- a manifest lists what it listed before, and the entry
pub listed_more : (P : ℕ) (rs : List (List ℕ)) (r : List ℕ) (entry : Entry) (l m : ListingState)
    → listed_in P rs ≡ Some l → entry_in r ≡ Some entry → listed_with P entry l ≡ Some m
    → listed_in P (rs ++ r ∷ []) ≡ Some m
listed_more P rs r entry l m is told with =
    after_more P (Some none_closed) rs r l is
    ∙ last_of P (listed_by P (entry_in r) l)
    ∙ ap (λ o. listed_by P o l) told
    ∙ with

fitting_some : (n : ℕ) → n < 18446744073709551616 → Some n ≡ fitting n
fitting_some n small = sym (ap (λ b. if b then Some n else None) (lt-ltb n 18446744073709551616 small))

-- the records of all were counted
pub all_counted : (cs ds : List Closed) (count index : ℕ) → count + closed_count (drop index cs) ≡ closed_count cs → length cs ≤ index → cs ≡ ds → count < 18446744073709551616
    → Some count ≡ fitting (closed_count ds)
all_counted cs ds count index counted end same small =
    let none = ap (λ l. closed_count l) (drop_all index cs end) in
    let is : count ≡ closed_count cs = omega (arith, counted, none) in
    fitting_some count small ∙ ap (λ n. fitting n) is ∙ ap (λ l. fitting (closed_count l)) same
