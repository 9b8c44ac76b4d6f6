-- By which digest the closed segments of a listing are read.
use Rattle.std.specs.Prelude.{◌≡◌, ◌<◌, ◌≤◌, ◌+◌, ◌-◌, ℕ, zero, suc, List, [], ◌∷◌, drop, get_or, length, Result, Ok, Err, IfOk}
use Rattle.std.proofs.Common.{ap, arith, sym, subst, inl, inr}
use Rattle.std.proofs.lemmas.List.{drop_all}
use Rattle.segments.specs.declared.closed.Closed.{Closed}
use Rattle.segments.specs.declared.closed.FileDigest.{FileDigest}
use Rattle.segments.specs.declared.closed.Fingerprint.{Fingerprint}
use Rattle.segments.specs.declared.closed.Fingerprint.TheVariants.{Whole, Paged}
use Rattle.segments.specs.declared.closed.PagedSeal.{PagedSeal}
use Rattle.segments.specs.declared.error.Error.{Error}
use Rattle.segments.specs.declared.error.Error.TheVariants as errors
use Rattle.segments.specs.Kept.{AreOfDigest, IsOfDigest}
use Rattle.segments.specs.Manifest.{ListingState}
use Rattle.segments.specs.Log.{HasKept, IsDropping, LogDropGoes, LogState, StartFromGoes, listing_from}

-- the next one, and then the rest
of_rest : (number index : ℕ) (cs : List Closed) (c : Closed) → index < length cs → c ≡ get_or cs index c → IsOfDigest number c.fingerprint
    → AreOfDigest number (drop (suc index) cs) → AreOfDigest number (drop index cs)
of_rest number index [] c below is of rest = absurd (omega (arith, below))
of_rest number zero (x ∷ xs) c below is of rest = (subst (λ (c : Closed). IsOfDigest number c.fingerprint) is of, rest)
of_rest number (suc n) (x ∷ xs) c below is of rest = of_rest number n xs c (omega (arith, below)) is of rest

pub of_next : (number index next : ℕ) (cs : List Closed) (c : Closed) → index < length cs → c ≡ get_or cs index c → next ≡ index + 1 → IsOfDigest number c.fingerprint
    → AreOfDigest number (drop next cs) → AreOfDigest number (drop index cs)
of_next number index next cs c below is after of rest =
    let same : next ≡ suc index = omega (arith, after) in
    of_rest number index cs c below is of (subst (λ n. AreOfDigest number (drop n cs)) same rest)

-- behind the last one none is left
pub of_end : (number index : ℕ) (cs : List Closed) → length cs ≤ index → AreOfDigest number (drop index cs)
of_end number index cs end = subst (λ cs. AreOfDigest number cs) (sym (drop_all index cs end)) tt

-- what is known by its whole file, and what has this number
pub of_whole : (number : ℕ) (f : Fingerprint) (kept : FileDigest) → f ≡ Whole kept → IsOfDigest number f
of_whole number f kept is = subst (λ f. IsOfDigest number f) (sym is) tt

pub of_paged : (number : ℕ) (f : Fingerprint) (kept : PagedSeal) → f ≡ Paged kept → kept.number ≡ number → IsOfDigest number f
of_paged number f kept is same = subst (λ f. IsOfDigest number f) (sym is) same

-- those that stay after a drop
pub of_dropped : (number count : ℕ) (cs : List Closed) → AreOfDigest number cs → AreOfDigest number (drop count cs)
of_dropped number zero cs are = are
of_dropped number (suc n) [] are = are
of_dropped number (suc n) (c ∷ cs) are = of_dropped number n cs are.1

of_same : (number : ℕ) (l m : ListingState) → m ≡ l → AreOfDigest number l.closed → AreOfDigest number m.closed
of_same number l m is are = subst (λ (l : ListingState). AreOfDigest number l.closed) (sym is) are

of_later : (number segment : ℕ) (l m : ListingState) → m ≡ listing_from segment l → AreOfDigest number l.closed → AreOfDigest number m.closed
of_later number segment l m is are = of_same number (listing_from segment l) m is (of_dropped number (segment - l.first) l.closed are)

-- after an entry that says which segment is the first
pub of_started : (number segment : ℕ) (s t : LogState) (result : Result (Unit {0}) Error) → StartFromGoes segment s t result → AreOfDigest number s.listing.closed
    → IfOk result (λ u. AreOfDigest number t.listing.closed)
of_started number segment s t (Ok u) is are = of_later number segment s.listing t.listing is.listing are
of_started number segment s t (Err e) is are = tt

-- after a copy was to be kept
pub of_kept : (number : ℕ) (s t : LogState) → HasKept s t → AreOfDigest number s.listing.closed → AreOfDigest number t.listing.closed
of_kept number s t has are = of_same number s.listing t.listing (ap (λ (l : LogState). l.listing) has.rest) are

of_dropping : (number segment : ℕ) (s mid t : LogState) → IsDropping segment s mid t → AreOfDigest number s.listing.closed → AreOfDigest number t.listing.closed
of_dropping number segment s mid t is are =
    of_same number mid.listing t.listing (ap (λ (l : LogState). l.listing) is.rest) (elim is.starts [
      | inl same ↦ of_same number s.listing mid.listing (ap (λ (l : LogState). l.listing) same.1) are
      | inr started ↦ of_later number segment s.listing mid.listing started.1.listing are
    ])

-- after a drop, by its answer
pub drop_of : (number segment : ℕ) (s t : LogState) (result : Result (Unit {0}) Error) → LogDropGoes segment s t result → AreOfDigest number s.listing.closed → AreOfDigest number t.listing.closed
drop_of number segment s t (Ok u) is are = of_dropping number segment s is.mid t is.drops are
drop_of number segment s t (Err (errors.System e)) is are = of_dropping number segment s is.mid t is.drops are
drop_of number segment s t (Err (errors.Unsynced e)) is are = of_dropping number segment s is.mid t is.drops are
drop_of number segment s t (Err (errors.NoSegment n)) is are = of_same number s.listing t.listing (ap (λ (l : LogState). l.listing) is.same) are
drop_of number segment s t (Err errors.Closed) is are = of_same number s.listing t.listing (ap (λ (l : LogState). l.listing) is.0) are
drop_of number segment s t (Err (errors.Layer e)) is are = of_same number s.listing t.listing is.0.listing are
drop_of number segment s t (Err (errors.Damaged n)) is are = absurd is
drop_of number segment s t (Err (errors.Unlisted n)) is are = absurd is
drop_of number segment s t (Err (errors.Missing n)) is are = absurd is
drop_of number segment s t (Err (errors.Short n)) is are = absurd is
drop_of number segment s t (Err (errors.AnotherDigest n)) is are = absurd is
drop_of number segment s t (Err (errors.Outdated n)) is are = absurd is
drop_of number segment s t (Err errors.Manifest) is are = absurd is
drop_of number segment s t (Err errors.NumbersExhausted) is are = absurd is
drop_of number segment s t (Err (errors.NoFrame its byte)) is are = absurd is
drop_of number segment s t (Err (errors.Unmarked n)) is are = absurd is
