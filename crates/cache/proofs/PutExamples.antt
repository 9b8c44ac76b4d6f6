-- What a cache holds after it was asked for an id or a page was put into it. The cache has room for
-- two pages of four bytes. "abcd", "efgh" and "ijkl" are the pages 0, 1 and 2 of blob 0.
use Rattle.std.proofs.Common.{◌≡◌, ◌≢◌, ℕ, List, [], ◌∷◌, refl, ap, sym, ◌∙◌}
use Rattle.std.proofs.Common.{arith, get_or, take, inl, inr, lit<}
use Rattle.std.proofs.lemmas.Bool.{cases_eq, eq-eqb, ne_eqb}
use Rattle.std.specs.Prelude.{Err, None, Ok, Option, Some, codes, false, true}
use Rattle.disk.specs.declared.error.Error.TheVariants.{IdsExhausted}
use Rattle.cache.specs.CacheState.{CacheState, Evicts, IsHeld, OthersStay, PutGoes, Puts, PutsAll}
use Rattle.cache.specs.CacheState.{SameSettings, after_next_id, cached_page, empty_cache, ids_given}
use Rattle.cache.specs.CacheState.{put_count, same_key}
use Rattle.cache.proofs.CacheLaws.{put_weakly}
use Rattle.cache.proofs.Found.{either_key}

abbrev pub abcd : List ℕ
abcd = codes "abcd"

abbrev pub efgh : List ℕ
efgh = codes "efgh"

abbrev pub ijkl : List ℕ
ijkl = codes "ijkl"

-- ---- keys

pub the_same_key : same_key (0, 1) (0, 1) ≡ true
the_same_key = refl

pub of_another_blob : same_key (0, 1) (1, 1) ≡ false
of_another_blob = refl

pub of_another_page : same_key (0, 1) (0, 0) ≡ false
of_another_page = refl

-- keys that differ are told apart
pub apart : (a b : ℕ × ℕ) → a ≢ b → same_key a b ≡ false
apart (a, p) (b, q) differ = elim (cases_eq a b) [
  | inl first ↦ elim (cases_eq p q) [
    | inl second ↦ absurd (differ (λ i. (first i, second i)))
    | inr other ↦ cc (eq-eqb a b first, ne_eqb p q other)
  ]
  | inr other ↦ cc (ne_eqb a b other)
]

-- ---- caches

abbrev pub none_held : CacheState
none_held = empty_cache 4 2

-- a cache that holds these pages, and has given one id
abbrev pub holds : List ((ℕ × ℕ) × List ℕ) → CacheState
holds pages = record { page_size = 4; capacity = 2; ids_given = 1; pages = pages }

-- page 0 alone
abbrev pub one : CacheState
one = holds (((0, 0), abcd) ∷ [])

-- pages 0 and 1: the cache is full
abbrev pub two : CacheState
two = holds (((0, 1), efgh) ∷ ((0, 0), abcd) ∷ [])

-- "ABCD" over page 0
abbrev pub over : CacheState
over = holds (((0, 0), codes "ABCD") ∷ ((0, 1), efgh) ∷ [])

-- the same, and page 1 is gone
abbrev pub lost : CacheState
lost = holds (((0, 0), codes "ABCD") ∷ [])

-- page 2 in the place of page 0
abbrev pub evicted : CacheState
evicted = holds (((0, 2), ijkl) ∷ ((0, 1), efgh) ∷ [])

-- the same, but page 1 has other bytes now
abbrev pub mixed_up : CacheState
mixed_up = holds (((0, 2), ijkl) ∷ ((0, 1), abcd) ∷ [])

-- page 2 beside both others, in a cache of two
abbrev pub grown : CacheState
grown = holds (((0, 2), ijkl) ∷ ((0, 1), efgh) ∷ ((0, 0), abcd) ∷ [])

-- both pages under the other's number
abbrev pub crossed : CacheState
crossed = holds (((0, 1), abcd) ∷ ((0, 0), efgh) ∷ [])

pub page_1_is_held : cached_page two (0, 1) ≡ Some efgh
page_1_is_held = refl

pub none_of_blob_1 : cached_page two (1, 1) ≡ None
none_of_blob_1 = refl

-- the first byte of a page, if there is one
abbrev first_byte : Option (List ℕ) → ℕ
first_byte None = 0
first_byte (Some page) = get_or page 0 0

-- ---- ids

pub the_first_id : after_next_id (Ok 0) none_held ≡ record none_held { ids_given = 1 }
the_first_id = refl

-- no id was left, or no memory
pub no_id : after_next_id (Err IdsExhausted) two ≡ two
no_id = refl

pub all_were_given : ids_given None ≡ 18446744073709551616
all_were_given = refl

-- ---- one put

same_settings : (a b : List ((ℕ × ℕ) × List ℕ)) → SameSettings (holds a) (holds b)
same_settings a b = record { page_size = refl; capacity = refl; ids_given = refl }

pub its_settings_stay : SameSettings two over
its_settings_stay = same_settings two.pages over.pages

-- a cache that gave an id isn't the same
pub an_id_was_given : SameSettings two (after_next_id (Ok 1) two) → ⊥
an_id_was_given same = omega (arith, same.ids_given)

pub the_other_stays : OthersStay (0, 0) (0, 0) two over
the_other_stays other apart_from _ = rw (apart other (0, 0) apart_from) refl

pub the_other_is_lost : OthersStay (0, 0) (0, 0) two lost → ⊥
the_other_is_lost stay =
    let e : None ≡ Some efgh = stay (0, 1) (λ same. second same) (λ same. second same) in cc e
  where
    second : ◌≡◌ {A = ℕ × ℕ} (0, 1) (0, 0) → ⊥
    second same = omega (arith, ap (λ (k : ℕ × ℕ). k.1) same)

pub over_the_first : IsHeld (0, 0) (0, 0) (codes "ABCD") 2 two over
over_the_first = record {
  settings = its_settings_stay;
  here = refl;
  others = the_other_stays;
  count = refl;
}

-- a page isn't held that takes another one's place where its own is there
pub not_over_the_first : IsHeld (0, 0) (0, 0) (codes "ABCD") 1 two lost → ⊥
not_over_the_first held = the_other_is_lost held.others

pub the_third_in : IsHeld (0, 2) (0, 0) ijkl 2 two evicted
the_third_in = record {
  settings = same_settings two.pages evicted.pages;
  here = refl;
  others = λ other key gone. rw (apart other (0, 2) key, apart other (0, 0) gone) refl;
  count = refl;
}

pub the_first_goes : Evicts (0, 2) ijkl two evicted
the_first_goes = ((0, 0), refl, refl, the_third_in)

-- of the two pages one stays as it is
pub no_page_stays : Evicts (0, 2) ijkl two mixed_up → ⊥
no_page_stays (gone, there, none, held) = elim (either_key gone (0, 1)) [
  | inl same ↦
      let e : Some abcd ≡ None = ap (λ (k : ℕ × ℕ). cached_page mixed_up k) (sym same) ∙ none in
      cc e
  | inr other ↦
      let e = held.others (0, 1) (λ same. other_page same) (λ same. other (sym same)) in
      omega (arith, ap first_byte e)
]
  where
    other_page : ◌≡◌ {A = ℕ × ℕ} (0, 1) (0, 2) → ⊥
    other_page same = omega (arith, ap (λ (k : ℕ × ℕ). k.1) same)

pub it_goes_over : PutGoes (Some abcd) (0, 0) (codes "ABCD") two over
it_goes_over = over_the_first

-- a full cache has no room for a third page
pub it_goes_beside : PutGoes None (0, 2) ijkl two grown → ⊥
it_goes_beside (inl (room, held)) = omega (arith, room)
it_goes_beside (inr (full, (gone, there, none, held))) = omega (arith, held.count)

pub the_second_is_put : Puts (0, 1) efgh one two
the_second_is_put = inl (
  lit< tt,
  record {
    settings = same_settings one.pages two.pages;
    here = refl;
    others = λ other key gone. rw (apart other (0, 1) key) refl;
    count = refl;
  },
)

pub the_third_is_put : Puts (0, 2) ijkl two evicted
the_third_is_put = inr (refl, the_first_goes)

-- a page that is there isn't left as it is
pub an_old_page_stays : Puts (0, 0) (codes "ABCD") two two → ⊥
an_old_page_stays held = omega (arith, ap first_byte held.here)

-- nothing goes where there is room
pub one_goes_for_it : Puts (0, 1) efgh one (holds (((0, 1), efgh) ∷ [])) → ⊥
one_goes_for_it (inl (room, held)) = omega (arith, held.count)
one_goes_for_it (inr (full, rest)) = omega (arith, full)

-- ---- puts in a row

-- page 0 and then page 1, of a cache that has given an id
pub both_are_put : PutsAll 0 0 2 (codes "abcdefghi") (holds []) two
both_are_put = (one, first, (two, the_second_is_put, refl))
  where
    first : Puts (0, 0) abcd (holds []) one
    first = inl (
      lit< tt,
      record {
        settings = same_settings [] one.pages;
        here = refl;
        others = λ other key gone. rw (apart other (0, 0) key) refl;
        count = refl;
      },
    )

-- each page goes under its own number
pub they_are_crossed : PutsAll 0 0 2 (codes "abcdefgh") (holds []) crossed → ⊥
they_are_crossed (mid, first, (end, second, same)) =
    let was = (put_weakly (0, 0) abcd (holds []) mid first).here in
    let size : mid.page_size ≡ 4 =
    (put_weakly (0, 0) abcd (holds []) mid first).settings.page_size in
    let here = (put_weakly (0, 1) (take mid.page_size efgh) mid end second).here in
    let e : Some abcd ≡ Some efgh =
    ap (λ (c : CacheState). cached_page c (0, 1)) same ∙ here
    ∙ ap (λ (P : ℕ). Some (take P efgh)) size in
    omega (arith, ap first_byte e)

pub two_whole_pages : put_count 4 0 11 ≡ 2
two_whole_pages = refl

-- page 2^64 - 1 is the greatest: none is put after it
pub the_greatest_page : put_count 4 18446744073709551615 11 ≡ 1
the_greatest_page = refl

pub no_page_after_it : put_count 4 18446744073709551616 11 ≡ 0
no_page_after_it = refl
