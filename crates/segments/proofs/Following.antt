-- Records that follow one another: many that were found, one after another.
use Rattle.std.specs.Prelude.{◌≡◌, ◌≢◌, ◌≤◌, ◌<◌, ◌+◌, ◌-◌, ◌++◌, ℕ, List, [], ◌∷◌, length, map, Bool, true, false, ◌==◌}
use Rattle.std.proofs.Common.{ap, sym, ◌∙◌, refl, subst, inl, inr, append_assoc, append-nil, zero-add, arith, eqb-true}
use Rattle.std.proofs.lemmas.List.{map-append}
use Rattle.std.proofs.lemmas.List.Sums.{sum_by_push}
use Rattle.segments.specs.declared.error.Error.{Error}
use Rattle.segments.specs.declared.place.Place.{Place}
use Rattle.segments.specs.Log.{LeavesReading, LogState}
use Rattle.segments.specs.Scan.{AreNextAt, HasMany, IsBehind, IsEnd, IsFrom, IsNextAt, IsRefusedFrom, StandBetween, found_bytes}
use Rattle.segments.proofs.Joining.{leaves_joins}
use Rattle.segments.proofs.Stepping.{behind_back, between_back, end_back}

-- ---- what holds of the log after reads held before them

pub next_back : (sum own : List ℕ → ℕ) (d : List ℕ → List ℕ) (s m : LogState) (from at behind : Place) (bytes : List ℕ) → LeavesReading sum own s m → IsNextAt sum own d m from at behind bytes
    → IsNextAt sum own d s from at behind bytes
next_back sum own d s m from at behind bytes leaves next =
    (between_back sum own d s m [] from at leaves next.0, between_back sum own d s m (bytes ∷ []) at behind leaves next.1)

from_back : (sum own : List ℕ → ℕ) (s m : LogState) (p q : Place) → LeavesReading sum own s m → IsFrom m p q → IsFrom s p q
from_back sum own s m p q leaves (inl same) = inl same
from_back sum own s m p q leaves (inr behind) = inr (behind_back sum own s m p q leaves behind)

pub refused_back : (sum own : List ℕ → ℕ) (d : List ℕ → List ℕ) (s m t : LogState) (p : Place) (e : Error) → LeavesReading sum own s m → IsRefusedFrom sum own d m t p e → IsRefusedFrom sum own d s t p e
refused_back sum own d s m t p e leaves is = record {
  at = is.at;
  mid = is.mid;
  further = from_back sum own s m p is.at leaves is.further;
  none = between_back sum own d s m [] p is.at leaves is.none;
  reads = leaves_joins sum own s m is.mid leaves is.reads;
  refused = is.refused;
}

-- ---- one record more

between_all : (sum own : List ℕ → ℕ) (d : List ℕ → List ℕ) (s : LogState) (xs ys : List (List ℕ)) (p q r : Place) → StandBetween sum own d s xs p q → StandBetween sum own d s ys q r
    → StandBetween sum own d s (xs ++ ys) p r
between_all sum own d s xs ys p q r first second held tells =
    elim (first held tells) [
      | inl these ↦ elim (second held tells) [
        | inl those ↦ inl (these ∙ ap (λ rest. xs ++ rest) those ∙ sym (append_assoc xs ys _))
        | inr twin ↦ inr twin
      ]
      | inr twin ↦ inr twin
    ]

abbrev pub bytes_of : Place × List ℕ → List ℕ
bytes_of r = r.1

-- the records that were found stand between the places
pub all_more : (sum own : List ℕ → ℕ) (d : List ℕ → List ℕ) (s : LogState) (found : List (Place × List ℕ)) (p q at r : Place) (bytes : List ℕ)
    → StandBetween sum own d s (map bytes_of found) p q → IsNextAt sum own d s q at r bytes → StandBetween sum own d s (map bytes_of (found ++ (at, bytes) ∷ [])) p r
all_more sum own d s found p q at r bytes all next =
    subst (λ (these : List (List ℕ)). StandBetween sum own d s these p r) (sym (map-append bytes_of found ((at, bytes) ∷ [])))
    (between_all sum own d s (map bytes_of found) (bytes ∷ []) p q r all (between_all sum own d s [] (bytes ∷ []) q at r next.0 next.1))

pub each_more : (sum own : List ℕ → ℕ) (d : List ℕ → List ℕ) (s : LogState) (found : List (Place × List ℕ)) (p q at r : Place) (bytes : List ℕ)
    → AreNextAt sum own d s p q found → IsNextAt sum own d s q at r bytes → IsBehind s q r → AreNextAt sum own d s p r (found ++ (at, bytes) ∷ [])
each_more sum own d s [] p q at r bytes same next further =
    (r, (subst (λ (k : Place). IsNextAt sum own d s k at r bytes) same next, subst (λ (k : Place). IsBehind s k r) same further, refl))
each_more sum own d s (f ∷ found) p q at r bytes (behind, each) next further = (behind, (each.0, each.1, each_more sum own d s found behind q at r bytes each.2 next further))

pub bytes_more : (found : List (Place × List ℕ)) (at : Place) (bytes : List ℕ) → found_bytes (found ++ (at, bytes) ∷ []) ≡ found_bytes found + length bytes
bytes_more found at bytes = sum_by_push (λ (r : Place × List ℕ). length r.1) found (at, bytes)

-- ---- whether any was found

pub some_found : (found : List (Place × List ℕ)) (n : ℕ) (b : Bool) → n ≡ length found → b ≡ (n == 0) → b ≡ false → found ≢ []
some_found [] n b len is off same =
    let on : b ≡ true = is ∙ ap (λ k. k == 0) len in
    absurd (cc (on, off))
some_found (f ∷ found) n b len is off same = cc same

pub none_found : (found : List (Place × List ℕ)) (n : ℕ) (b : Bool) → n ≡ length found → b ≡ (n == 0) → b ≡ true → found ≡ []
none_found [] n b len is on = refl
none_found (f ∷ found) n b len is on =
    let zero : n ≡ 0 = eqb-true n 0 (sym is ∙ on) in
    absurd (omega (arith, len, zero))

-- ---- no more

none_between : (sum own : List ℕ → ℕ) (d : List ℕ → List ℕ) (s : LogState) (p : Place) → StandBetween sum own d s [] p p
none_between sum own d s p held tells = inl refl

-- the records so far, in a log of which only segments were read since
pub record SoFar (sum own : List ℕ → ℕ) (d : List ℕ → List ℕ) (most room : ℕ) (s : LogState) (from behind : Place) (found : List (Place × List ℕ)) : Type 0 where
  pub each : AreNextAt sum own d s from behind found
  pub all : StandBetween sum own d s (map bytes_of found) from behind
  pub left : found_bytes found + room ≡ most

none_yet : (sum own : List ℕ → ℕ) (d : List ℕ → List ℕ) (most : ℕ) (s : LogState) (from : Place) → SoFar sum own d most most s from from []
none_yet sum own d most s from = record { each = refl; all = none_between sum own d s from; left = zero-add most }

pub none_so_far : (sum own : List ℕ → ℕ) (d : List ℕ → List ℕ) (most : ℕ) (s : LogState) (from : Place) (found : List (Place × List ℕ)) → found ≡ [] → SoFar sum own d most most s from from found
none_so_far sum own d most s from found none = subst (λ (l : List (Place × List ℕ)). SoFar sum own d most most s from from l) (sym none) (none_yet sum own d most s from)

-- one more fits
pub one_more : (sum own : List ℕ → ℕ) (d : List ℕ → List ℕ) (most room : ℕ) (s m : LogState) (from behind next : Place) (r : Place × List ℕ) (found : List (Place × List ℕ))
    → LeavesReading sum own s m → SoFar sum own d most room s from behind found → IsNextAt sum own d m behind r.0 next r.1 → IsBehind m behind next → length r.1 ≤ room
    → SoFar sum own d most (room - length r.1) s from next (found ++ r ∷ [])
one_more sum own d most room s m from behind next (at, bytes) found leaves so_far is further fits =
    let here = next_back sum own d s m behind at next bytes leaves is in
    let sum_is = bytes_more found at bytes in
    record {
      each = each_more sum own d s found from behind at next bytes so_far.each here (behind_back sum own s m behind next leaves further);
      all = all_more sum own d s found from behind at next bytes so_far.all here;
      left = omega (arith, sum_is, so_far.left, fits);
    }

-- the next one is too much for those that were found
pub too_much : (sum own : List ℕ → ℕ) (d : List ℕ → List ℕ) (most room : ℕ) (s m t : LogState) (from behind next : Place) (r : Place × List ℕ) (found : List (Place × List ℕ))
    → LeavesReading sum own s m → SoFar sum own d most room s from behind found → IsNextAt sum own d m behind r.0 next r.1 → room < length r.1 → found ≢ []
    → HasMany sum own d most s t from behind found
too_much sum own d most room s m t from behind next (at, bytes) found leaves so_far is long some = record {
  behind = behind;
  each = so_far.each;
  all = so_far.all;
  fits = inl (omega (arith, so_far.left));
  ends = inr (
    refl,
    some,
    inr (inl (record {
      at = at;
      behind = next;
      bytes = bytes;
      next = next_back sum own d s m behind at next bytes leaves is;
      more = omega (arith, so_far.left, long);
    })),
  );
}

cons_not_nil : (r : Place × List ℕ) → r ∷ [] ≢ []
cons_not_nil r is = cc is

-- the first one is longer than all that may come
pub one_alone : (sum own : List ℕ → ℕ) (d : List ℕ → List ℕ) (most room : ℕ) (s m t : LogState) (from behind next : Place) (r : Place × List ℕ) (found : List (Place × List ℕ))
    → LeavesReading sum own s m → SoFar sum own d most room s from behind found → IsNextAt sum own d m behind r.0 next r.1 → IsBehind m behind next → room < length r.1 → found ≡ []
    → HasMany sum own d most s t from next (found ++ r ∷ [])
one_alone sum own d most room s m t from behind next (at, bytes) [] leaves so_far is further long none =
    let here = next_back sum own d s m behind at next bytes leaves is in
    let sum_is = bytes_more [] at bytes in
    record {
      behind = next;
      each = each_more sum own d s [] from behind at next bytes so_far.each here (behind_back sum own s m behind next leaves further);
      all = all_more sum own d s [] from behind at next bytes so_far.all here;
      fits = inr refl;
      ends = inr (refl, cons_not_nil (at, bytes), inl (omega (arith, sum_is, so_far.left, long)));
    }
one_alone sum own d most room s m t from behind next (at, bytes) (f ∷ found) leaves so_far is further long none = cc none

-- the log ends
pub no_more : (sum own : List ℕ → ℕ) (d : List ℕ → List ℕ) (most room : ℕ) (s m t : LogState) (from behind new : Place) (found : List (Place × List ℕ))
    → LeavesReading sum own s m → SoFar sum own d most room s from behind found → StandBetween sum own d m [] behind new → IsFrom m behind new → IsEnd own m new
    → HasMany sum own d most s t from new found
no_more sum own d most room s m t from behind new found leaves so_far none further end =
    let here = between_back sum own d s m [] behind new leaves none in
    record {
      behind = behind;
      each = so_far.each;
      all = subst (λ (these : List (List ℕ)). StandBetween sum own d s these from new) (append-nil (map bytes_of found)) (between_all sum own d s (map bytes_of found) [] from behind new so_far.all here);
      fits = inl (omega (arith, so_far.left));
      ends = inl (here, from_back sum own s m behind new leaves further, end_back sum own s m new leaves end);
    }

-- the next one can't be read
pub stopped : (sum own : List ℕ → ℕ) (d : List ℕ → List ℕ) (most room : ℕ) (s m t : LogState) (from behind : Place) (e : Error) (found : List (Place × List ℕ))
    → LeavesReading sum own s m → SoFar sum own d most room s from behind found → IsRefusedFrom sum own d m t behind e → found ≢ []
    → HasMany sum own d most s t from behind found
stopped sum own d most room s m t from behind e found leaves so_far is some = record {
  behind = behind;
  each = so_far.each;
  all = so_far.all;
  fits = inl (omega (arith, so_far.left));
  ends = inr (refl, some, inr (inr (e, refused_back sum own d s m t behind e leaves is)));
}

-- not even the first one can be read
pub first_refused : (sum own : List ℕ → ℕ) (d : List ℕ → List ℕ) (most room : ℕ) (s m t : LogState) (from behind : Place) (e : Error) (found : List (Place × List ℕ))
    → LeavesReading sum own s m → SoFar sum own d most room s from behind found → IsRefusedFrom sum own d m t behind e → found ≡ [] → IsRefusedFrom sum own d s t from e
first_refused sum own d most room s m t from behind e [] leaves so_far is none =
    subst (λ (p : Place). IsRefusedFrom sum own d s t p e) so_far.each (refused_back sum own d s m t behind e leaves is)
first_refused sum own d most room s m t from behind e (f ∷ found) leaves so_far is none = cc none
