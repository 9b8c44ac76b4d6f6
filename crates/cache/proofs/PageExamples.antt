-- Pages of a blob's content that a cache holds: those of blob 0 of `PutExamples.antt`.
use Rattle.std.proofs.Common.{◌≡◌, ◌≢◌, ℕ, zero, suc, List, refl, ap, sym}
use Rattle.std.proofs.Common.{arith, get_or, inl, inr, lit<, lit≤}
use Rattle.std.proofs.lemmas.Option.{same_Some}
use Rattle.std.specs.Prelude.{None, Some, codes}
use Rattle.cache.specs.Pages.{CachesOnly, IsFresh, IsTrueFor, KeyGoes, page_of_content}
use Rattle.cache.proofs.CacheLaws.{caches_put, put_weakly}
use Rattle.cache.proofs.PutExamples.{abcd, apart, efgh, evicted, one, over, the_second_is_put, two}

-- the last bytes of a content are no full page
abbrev pub content : List ℕ
content = codes "abcdefghi"

pub a_full_page : page_of_content 4 content 1 ≡ efgh
a_full_page = refl

pub the_rest : page_of_content 4 content 2 ≡ codes "i"
the_rest = refl

pub they_are_true : IsTrueFor 0 content 2 two
they_are_true zero bytes below there = sym (same_Some abcd bytes there)
they_are_true (suc zero) bytes below there = sym (same_Some efgh bytes there)
they_are_true (suc (suc page)) bytes below there = absurd (omega (arith, below))

-- from the tip on other bytes may be held
pub behind_the_tip : IsTrueFor 0 content 0 over
behind_the_tip page bytes below there = absurd (omega (arith, below))

pub before_the_tip : IsTrueFor 0 content 1 over → ⊥
before_the_tip is =
    let same = is 0 (codes "ABCD") (lit< tt) refl in
    omega (arith, ap (λ (l : List ℕ). get_or l 0 0) same)

-- blob 0 has pages, and the next id is 1
pub nothing_of_the_next : IsFresh two
nothing_of_the_next key next = rw (apart key (0, 1) other_1, apart key (0, 0) other_0) refl
  where
    other_1 : key ≢ (0, 1)
    other_1 same = omega (arith, next, ap (λ (k : ℕ × ℕ). k.0) same)

    other_0 : key ≢ (0, 0)
    other_0 same = omega (arith, next, ap (λ (k : ℕ × ℕ). k.0) same)

-- pages of a blob whose id is given once more
pub given_again : IsFresh (record two { ids_given = 0 }) → ⊥
given_again fresh = let e : Some abcd ≡ None = fresh (0, 0) (lit≤ tt) in cc e

-- a call whose tip is after page 0 puts page 1
pub its_own_page : KeyGoes 0 1 content (0, 1) one two
its_own_page = inr (inr (refl, lit≤ tt, lit≤ tt, refl))

pub it_may_go : KeyGoes 0 2 content (0, 0) two evicted
it_may_go = inr (inl refl)

-- a page before the tip isn't put
pub before_its_tip : KeyGoes 0 2 content (0, 1) one two → ⊥
before_its_tip (inl stays) = cc stays
before_its_tip (inr (inl goes)) = cc goes
before_its_tip (inr (inr (same, after, full, now))) = omega (arith, after)

-- and neither is one that isn't full
pub half_a_page : KeyGoes 0 0 (codes "abcdef") (0, 1) one two → ⊥
half_a_page (inl stays) = cc stays
half_a_page (inr (inl goes)) = cc goes
half_a_page (inr (inr (same, after, full, now))) = omega (arith, full)

pub only_its_own : CachesOnly 0 1 content one two
only_its_own =
    caches_put 0 1 1 content efgh one two (lit≤ tt) (lit≤ tt) refl
    (put_weakly (0, 1) efgh one two the_second_is_put)

-- a call of another blob puts no page of this one
pub another_blob : CachesOnly 1 0 content one two → ⊥
another_blob caches = by_key (caches.each (0, 1))
  where
    by_key : KeyGoes 1 0 content (0, 1) one two → ⊥
    by_key (inl stays) = cc stays
    by_key (inr (inl goes)) = cc goes
    by_key (inr (inr (same, after, full, now))) = omega (arith, same)
