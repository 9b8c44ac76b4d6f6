-- What stays true of the pages that a cache holds.
use Rattle.std.proofs.Common.{◌≡◌, ◌≢◌, inl, inr, ◌⊎◌, ℕ, zero, suc, ◌+◌, ◌*◌, ◌<◌, ◌≤◌, List, [], ◌∷◌, length, take, drop, refl, sym, ap, ◌∙◌, subst, arith, drop-drop}
use Rattle.std.specs.Prelude.{Option, Some, None}
use Rattle.std.proofs.lemmas.Bool.{cases_order}
use Rattle.std.proofs.lemmas.Option.{same_Some}
use Rattle.std.proofs.Math.Nat.{mul-le-mul_right}
use Rattle.cache.specs.CacheState.{CacheState, cached_page, empty_cache, SameSettings, IsHeld, PutGoes, Puts, PutsAll}
use Rattle.cache.specs.Pages.{page_of_content, IsTrueFor, IsFresh, CachesOnly}
use Rattle.cache.proofs.Found.{either_key}

-- what one put does to a key: what is held under it stays or goes, or it is the key of the put and
-- the page is held
abbrev pub PutKey : ℕ × ℕ → List ℕ → ℕ × ℕ → CacheState → CacheState → Type 0
PutKey key bytes other old new = (cached_page new other ≡ cached_page old other) ⊎ (cached_page new other ≡ None) ⊎ ((other ≡ key) × (cached_page new other ≡ Some bytes))

-- a put, by a relation that leaves out which key went, and why
pub record PutWeakly (key : ℕ × ℕ) (bytes : List ℕ) (old new : CacheState) : Type 0 where
  pub settings : SameSettings old new
  pub here : cached_page new key ≡ Some bytes
  pub each : (other : ℕ × ℕ) → PutKey key bytes other old new

held_weakly : (key gone : ℕ × ℕ) (bytes : List ℕ) (count : ℕ) (old new : CacheState) → (key ≡ gone) ⊎ (cached_page new gone ≡ None) → IsHeld key gone bytes count old new → PutWeakly key bytes old new
held_weakly key gone bytes count old new went h = record {
  settings = h.settings;
  here = h.here;
  each = λ other. elim (either_key other key) [
    | inl same ↦ inr (inr (same, ap (λ (k : ℕ × ℕ). cached_page new k) same ∙ h.here))
    | inr apart ↦ elim (either_key other gone) [
      | inl lost ↦ elim went [
        | inl same ↦ absurd (apart (lost ∙ sym same))
        | inr none ↦ inr (inl (ap (λ (k : ℕ × ℕ). cached_page new k) lost ∙ none))
      ]
      | inr kept ↦ inl (h.others other apart kept)
    ]
  ];
}

pub put_weakly : (key : ℕ × ℕ) (bytes : List ℕ) (old new : CacheState) → Puts key bytes old new → PutWeakly key bytes old new
put_weakly key bytes old new puts = by_held (cached_page old key) refl puts
  where
    by_held : (o : Option (List ℕ)) → cached_page old key ≡ o → PutGoes o key bytes old new → PutWeakly key bytes old new
    by_held (Some page) is goes = held_weakly key key bytes (length old.pages) old new (inl refl) goes
    by_held None is (inl (room, goes)) = held_weakly key key bytes (length old.pages + 1) old new (inl refl) goes
    by_held None is (inr (full, (gone, there, none, goes))) = held_weakly key gone bytes old.capacity old new (inr none) goes

-- a page that was just put is held
pub put_is_held : (key : ℕ × ℕ) (bytes : List ℕ) (old new : CacheState) → Puts key bytes old new → cached_page new key ≡ Some bytes
put_is_held key bytes old new puts = (put_weakly key bytes old new puts).here

-- ---- true pages

-- (a) a put of a page of the content, below which the pages are true, makes the pages below the
-- next one true
pub put_true : (id page : ℕ) (content bytes : List ℕ) (old new : CacheState) → bytes ≡ page_of_content old.page_size content page → PutWeakly (id, page) bytes old new
    → IsTrueFor id content page old → IsTrueFor id content (page + 1) new
put_true id page content bytes old new is puts true_old p held_bytes below there = elim (cases_order p page) [
  | inl same ↦
      let here : cached_page new (id, page) ≡ Some held_bytes = ap (λ (q : ℕ). cached_page new (id, q)) (sym same) ∙ there in
      same_Some held_bytes bytes (sym here ∙ puts.here) ∙ is ∙ ap (λ (q : ℕ). page_of_content old.page_size content q) (sym same) ∙ ap (λ (P : ℕ). page_of_content P content p) (sym puts.settings.page_size)
  | inr (inl less) ↦ elim (puts.each (id, p)) [
    | inl stays ↦ true_old p held_bytes less (sym stays ∙ there) ∙ ap (λ (P : ℕ). page_of_content P content p) (sym puts.settings.page_size)
    | inr (inl goes) ↦ absurd (cc (goes, there))
    | inr (inr (is_key, now)) ↦ absurd (omega (arith, less, ap (λ (k : ℕ × ℕ). k.1) is_key))
  ]
  | inr (inr more) ↦ absurd (omega (arith, below, more))
]

-- (c), (d) a call of another blob, or one that puts only pages from the tip on, keeps the pages of
-- a blob true
pub caches_true : (id from : ℕ) (content : List ℕ) (mine : ℕ) (my_content : List ℕ) (tip : ℕ) (old new : CacheState) → CachesOnly id from content old new → (mine ≢ id) ⊎ (tip ≤ from)
    → IsTrueFor mine my_content tip old → IsTrueFor mine my_content tip new
caches_true id from content mine my_content tip old new caches apart true_old p bytes below there = elim (caches.each (mine, p)) [
  | inl stays ↦ true_old p bytes below (sym stays ∙ there) ∙ ap (λ (P : ℕ). page_of_content P my_content p) (sym caches.settings.page_size)
  | inr (inl goes) ↦ absurd (cc (goes, there))
  | inr (inr (same, after, full, now)) ↦ elim apart [
    | inl other ↦ absurd (other same)
    | inr low ↦ absurd (omega (arith, below, after, low))
  ]
]

-- a read of this blob keeps its pages true: it puts pages of the content
pub read_true : (id : ℕ) (content : List ℕ) (tip from : ℕ) (old new : CacheState) → CachesOnly id from content old new → IsTrueFor id content tip old → IsTrueFor id content tip new
read_true id content tip from old new caches true_old p bytes below there = elim (caches.each (id, p)) [
  | inl stays ↦ true_old p bytes below (sym stays ∙ there) ∙ ap (λ (P : ℕ). page_of_content P content p) (sym caches.settings.page_size)
  | inr (inl goes) ↦ absurd (cc (goes, there))
  | inr (inr (same, after, full, now)) ↦ same_Some bytes (page_of_content old.page_size content p) (sym there ∙ now) ∙ ap (λ (P : ℕ). page_of_content P content p) (sym caches.settings.page_size)
]

-- pages stay true when the content grows: what is below the tip stays as it was
pub longer_true : (id : ℕ) (content longer : List ℕ) (tip : ℕ) (cache : CacheState) → ((page : ℕ) → page < tip → page_of_content cache.page_size longer page ≡ page_of_content cache.page_size content page)
    → IsTrueFor id content tip cache → IsTrueFor id longer tip cache
longer_true id content longer tip cache same true_old p bytes below there = true_old p bytes below there ∙ sym (same p below)

-- under an id that is still to be given nothing is held, so its pages are true for any content
pub fresh_true : (content : List ℕ) (tip : ℕ) (cache : CacheState) → IsFresh cache → IsTrueFor cache.ids_given content tip cache
fresh_true content tip cache fresh p bytes below there = absurd (cc (fresh (cache.ids_given, p) (omega arith), there))

-- ---- calls that put pages of the content

-- a call that puts nothing
pub caches_none : (id from : ℕ) (content : List ℕ) (cache : CacheState) → CachesOnly id from content cache cache
caches_none id from content cache = record { settings = record { page_size = refl; capacity = refl; ids_given = refl }; each = λ key. inl refl }

-- a call that puts one page of the content
pub caches_put : (id from page : ℕ) (content bytes : List ℕ) (old new : CacheState) → from ≤ page → (page + 1) * old.page_size ≤ length content → bytes ≡ page_of_content old.page_size content page → PutWeakly (id, page) bytes old new → CachesOnly id from content old new
caches_put id from page content bytes old new after full is puts = record {
  settings = puts.settings;
  each = λ key. elim (puts.each key) [
    | inl stays ↦ inl stays
    | inr (inl goes) ↦ inr (inl goes)
    | inr (inr (same, now)) ↦
        inr (inr (ap (λ (k : ℕ × ℕ). k.0) same, omega (arith, after, ap (λ (k : ℕ × ℕ). k.1) same), subst (λ (p : ℕ). (p + 1) * old.page_size ≤ length content) (sym (ap (λ (k : ℕ × ℕ). k.1) same)) full, now ∙ ap (λ (b : List ℕ). Some b) (is ∙ ap (λ (k : ℕ × ℕ). page_of_content old.page_size content k.1) (sym same))))
  ];
}

-- two calls in turn that put pages of the content
pub caches_join : (id from : ℕ) (content : List ℕ) (old mid new : CacheState) → CachesOnly id from content old mid → CachesOnly id from content mid new → CachesOnly id from content old new
caches_join id from content old mid new first second = record {
  settings = record {
    page_size = second.settings.page_size ∙ first.settings.page_size;
    capacity = second.settings.capacity ∙ first.settings.capacity;
    ids_given = second.settings.ids_given ∙ first.settings.ids_given;
  };
  each = λ key. elim (second.each key) [
    | inl stays ↦ elim (first.each key) [
      | inl was ↦ inl (stays ∙ was)
      | inr (inl gone) ↦ inr (inl (stays ∙ gone))
      | inr (inr (same, after, full, now)) ↦ inr (inr (same, after, full, stays ∙ now))
    ]
    | inr (inl gone) ↦ inr (inl gone)
    | inr (inr (same, after, full, now)) ↦
        inr (inr (same, after, subst (λ (P : ℕ). (key.1 + 1) * P ≤ length content) first.settings.page_size full, now ∙ ap (λ (P : ℕ). Some (page_of_content P content key.1)) first.settings.page_size))
  ];
}

-- ---- wrong bodies

-- a cache that skips keys that are present doesn't put
pub never_skips_present : (key : ℕ × ℕ) (was bytes : List ℕ) (cache : CacheState) → cached_page cache key ≡ Some was → was ≢ bytes → Puts key bytes cache cache → ⊥
never_skips_present key was bytes cache there other puts = by_held (cached_page cache key) there puts
  where
    by_held : (o : Option (List ℕ)) → o ≡ Some was → PutGoes o key bytes cache cache → ⊥
    by_held (Some page) is goes = other (same_Some was bytes (sym there ∙ goes.here))
    by_held None is goes = absurd (cc is)

-- a cache that holds nothing doesn't put
pub never_drops : (key : ℕ × ℕ) (bytes : List ℕ) (old new : CacheState) → cached_page new key ≡ None → Puts key bytes old new → ⊥
never_drops key bytes old new none puts = absurd (cc (none, put_is_held key bytes old new puts))

-- a cache that empties itself before each put doesn't put
pub never_empties : (key other : ℕ × ℕ) (was bytes : List ℕ) (old new : CacheState) → other ≢ key → cached_page old other ≡ Some was → length old.pages < old.capacity → cached_page new other ≡ None → Puts key bytes old new → ⊥
never_empties key other was bytes old new apart there room none puts = by_held (cached_page old key) puts
  where
    lost : (count : ℕ) → IsHeld key key bytes count old new → ⊥
    lost count goes = absurd (cc (none, there, goes.others other apart apart))

    by_held : (o : Option (List ℕ)) → PutGoes o key bytes old new → ⊥
    by_held (Some page) goes = lost (length old.pages) goes
    by_held None (inl (_, goes)) = lost (length old.pages + 1) goes
    by_held None (inr (full, rest)) = omega (arith, room, full)

-- ---- pages put in a row

page_next : (P page : ℕ) (content : List ℕ) → drop P (drop (page * P) content) ≡ drop ((page + 1) * P) content
page_next P page content =
    let offset : page * P + P ≡ (page + 1) * P = omega arith in
    drop-drop P (page * P) content ∙ ap (λ (n : ℕ). drop n content) offset

-- puts in a row leave the settings
pub put_all_settings : (id page count : ℕ) (bytes : List ℕ) (old new : CacheState) → PutsAll id page count bytes old new → SameSettings old new
put_all_settings id page zero bytes old new same = record { page_size = ap (λ (c : CacheState). c.page_size) same; capacity = ap (λ (c : CacheState). c.capacity) same; ids_given = ap (λ (c : CacheState). c.ids_given) same }
put_all_settings id page (suc count) bytes old new (mid, first, more) =
    let weak = put_weakly (id, page) (take old.page_size bytes) old mid first in
    let rest = put_all_settings id (page + 1) count (drop old.page_size bytes) mid new more in
    record {
      page_size = rest.page_size ∙ weak.settings.page_size;
      capacity = rest.capacity ∙ weak.settings.capacity;
      ids_given = rest.ids_given ∙ weak.settings.ids_given;
    }

-- puts in a row with one page more
pub puts_one_more : (id page count : ℕ) (bytes : List ℕ) (old mid new : CacheState) → PutsAll id page count bytes old mid
    → Puts (id, page + count) (take old.page_size (drop (count * old.page_size) bytes)) mid new → PutsAll id page (suc count) bytes old new
puts_one_more id page zero bytes old mid new same last =
    let e : page + 0 ≡ page = omega arith in
    let none : 0 * old.page_size ≡ 0 = omega arith in
    let here : Puts (id, page) (take old.page_size bytes) mid new =
    subst (λ (p : ℕ). Puts (id, p) (take old.page_size bytes) mid new) e
    (subst (λ (n : ℕ). Puts (id, page + 0) (take old.page_size (drop n bytes)) mid new) none last) in
    (new, subst (λ (c : CacheState). Puts (id, page) (take old.page_size bytes) c new) same here, refl)
puts_one_more id page (suc count) bytes old mid new (m, first, more) last =
    let weak = put_weakly (id, page) (take old.page_size bytes) old m first in
    let P : ℕ = old.page_size in
    let e : page + suc count ≡ page + 1 + count = omega arith in
    let offset : suc count * P ≡ P + count * P = omega arith in
    let where_it_is : drop (suc count * P) bytes ≡ drop (count * P) (drop P bytes) = ap (λ (n : ℕ). drop n bytes) offset ∙ sym (drop-drop (count * P) P bytes) in
    let at_next : Puts (id, page + 1 + count) (take P (drop (count * P) (drop P bytes))) mid new =
    subst (λ (p : ℕ). Puts (id, p) (take P (drop (count * P) (drop P bytes))) mid new) e
    (subst (λ (b : List ℕ). Puts (id, page + suc count) (take P b) mid new) where_it_is last) in
    let by_m : Puts (id, page + 1 + count) (take m.page_size (drop (count * m.page_size) (drop P bytes))) mid new =
    subst (λ (Q : ℕ). Puts (id, page + 1 + count) (take Q (drop (count * Q) (drop P bytes))) mid new) (sym weak.settings.page_size) at_next in
    (m, first, puts_one_more id (page + 1) count (drop P bytes) m mid new more by_m)

-- (b) an append advances the tip over the pages that it puts
pub puts_all_true : (id page count : ℕ) (content : List ℕ) (old new : CacheState) → PutsAll id page count (drop (page * old.page_size) content) old new
    → IsTrueFor id content page old → IsTrueFor id content (page + count) new
puts_all_true id page zero content old new same true_old =
    let e : page ≡ page + 0 = omega arith in
    subst (λ (n : ℕ). IsTrueFor id content n new) e (subst (λ (c : CacheState). IsTrueFor id content page c) (sym same) true_old)
puts_all_true id page (suc count) content old new (mid, first, more) true_old =
    let weak = put_weakly (id, page) (take old.page_size (drop (page * old.page_size) content)) old mid first in
    let e : page + 1 + count ≡ page + suc count = omega arith in
    let rest : PutsAll id (page + 1) count (drop ((page + 1) * mid.page_size) content) mid new =
    subst (λ (b : List ℕ). PutsAll id (page + 1) count b mid new) (page_next old.page_size page content ∙ ap (λ (Q : ℕ). drop ((page + 1) * Q) content) (sym weak.settings.page_size)) more in
    subst (λ (n : ℕ). IsTrueFor id content n new) e
    (puts_all_true id (page + 1) count content mid new rest
    (put_true id page content (page_of_content old.page_size content page) old mid refl weak true_old))

-- an append puts pages of the content and does nothing else to the cache
pub puts_all_caches : (id from page count : ℕ) (content : List ℕ) (old new : CacheState) → from ≤ page → (page + count) * old.page_size ≤ length content
    → PutsAll id page count (drop (page * old.page_size) content) old new → CachesOnly id from content old new
puts_all_caches id from page zero content old new after within same = subst (λ (c : CacheState). CachesOnly id from content old c) (sym same) (caches_none id from content old)
puts_all_caches id from page (suc count) content old new after within (mid, first, more) =
    let weak = put_weakly (id, page) (take old.page_size (drop (page * old.page_size) content)) old mid first in
    let P : ℕ = old.page_size in
    let rest : PutsAll id (page + 1) count (drop ((page + 1) * mid.page_size) content) mid new =
    subst (λ (b : List ℕ). PutsAll id (page + 1) count b mid new) (page_next P page content ∙ ap (λ (Q : ℕ). drop ((page + 1) * Q) content) (sym weak.settings.page_size)) more in
    let e : page + 1 + count ≡ page + suc count = omega arith in
    let later : (page + 1 + count) * mid.page_size ≤ length content =
    subst (λ (Q : ℕ). (page + 1 + count) * Q ≤ length content) (sym weak.settings.page_size) (subst (λ (n : ℕ). n * P ≤ length content) (sym e) within) in
    let low : (page + 1) * P ≤ (page + suc count) * P = mul-le-mul_right P (omega arith) in
    caches_join id from content old mid new (caches_put id from page content (page_of_content P content page) old mid after (omega (arith, low, within)) refl weak)
    (puts_all_caches id from (page + 1) count content mid new (omega (arith, after)) later rest)

-- ---- an example: a cache of two pages of four bytes; "abcd" and "efgh" are put, and "ABCD" over the first

abbrev two_pages : CacheState
two_pages = record (empty_cache 4 2) { pages = ((0, 1), 101 ∷ 102 ∷ 103 ∷ 104 ∷ []) ∷ ((0, 0), 97 ∷ 98 ∷ 99 ∷ 100 ∷ []) ∷ [] }

abbrev overwritten : CacheState
overwritten = record (empty_cache 4 2) { pages = ((0, 0), 65 ∷ 66 ∷ 67 ∷ 68 ∷ []) ∷ ((0, 1), 101 ∷ 102 ∷ 103 ∷ 104 ∷ []) ∷ [] }

the_second : cached_page two_pages (0, 1) ≡ Some (101 ∷ 102 ∷ 103 ∷ 104 ∷ [])
the_second = refl

none_of_another : cached_page two_pages (1, 1) ≡ None
none_of_another = refl

a_new_page : cached_page overwritten (0, 0) ≡ Some (65 ∷ 66 ∷ 67 ∷ 68 ∷ [])
a_new_page = refl

the_page_of_a_content : page_of_content 4 (97 ∷ 98 ∷ 99 ∷ 100 ∷ 101 ∷ 102 ∷ 103 ∷ 104 ∷ 105 ∷ []) 1 ≡ 101 ∷ 102 ∷ 103 ∷ 104 ∷ []
the_page_of_a_content = refl

-- ---- ids

-- a call of a blob whose id was given puts nothing under an id that is still to be given
pub fresh_stays : (id from : ℕ) (content : List ℕ) (old new : CacheState) → id < old.ids_given → CachesOnly id from content old new → IsFresh old → IsFresh new
fresh_stays id from content old new given caches fresh key later = elim (caches.each key) [
  | inl stays ↦ stays ∙ fresh key (omega (arith, later, caches.settings.ids_given))
  | inr (inl goes) ↦ goes
  | inr (inr (same, after, full, now)) ↦ absurd (omega (arith, given, later, same, caches.settings.ids_given))
]
