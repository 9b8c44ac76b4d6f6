-- Which pages ranges lack, range by range.
use Rattle.std.proofs.Common.{◌≡◌, ◌≢◌, inl, inr, ℕ, zero, suc, ◌+◌, ◌-◌, ◌*◌, ◌/◌, ◌%◌, ◌<◌, ◌≤◌, List, [], ◌∷◌, ◌++◌, length, refl, sym, ap, ◌∙◌, arith, Bool, true, false, cond, append-nil}
use Rattle.std.specs.Prelude.{All, get_or, Option, Some, None, slice_get, nat_eq, is_some, not, ◌&&◌, ◌||◌}
use Rattle.std.specs.List.{filter, range_with_len, list_any}
use Rattle.std.proofs.lemmas.Bool.{false_from_ne_true, and_parts, and_from, and_right, or_cases, or_left, or_right, ltb-true, eqb-true, eq-eqb, ne_eqb, cases_lt, cases_eq, both_ways}
use Rattle.std.proofs.lemmas.List.{get_or_at, length_push}
use Rattle.std.proofs.lemmas.List.Elements.{filter-append}
use Rattle.std.proofs.lemmas.Option.{same_Some, slice_get-get_or}
use Rattle.std.proofs.lemmas.List.Folds.{list_any-append, list_any_at}
use Rattle.std.proofs.Math.Nat.{div-add-mod', mod-lt, suc-mul, mul-le-mul_right}
use Rattle.std.proofs.lemmas.Nat.{div_below}
use Rattle.cache.specs.CacheState.{cached_page, CacheState}
use Rattle.page.specs.Geometry.{EndWithin}
use Rattle.paged_read.specs.Tail.{Tail}
use Rattle.paged_read.specs.Ranges.{touches, missing, is_served}
use Rattle.paged_read.specs.Batch.{is_page, with_page}
use Rattle.paged_read.proofs.Windows.{filter_none, filter_same, touches_yes}

-- ---- filters over page numbers

-- two tests that answer true together are the same
pub same_tests : (a b : Bool) → (a ≡ true → b ≡ true) → (b ≡ true → a ≡ true) → a ≡ b
same_tests true b there back = sym (there refl)
same_tests false true there back = back refl
same_tests false false there back = refl

pub range_split : (a n m k b : ℕ) → k ≡ n + m → b ≡ a + n → range_with_len a k ≡ range_with_len a n ++ range_with_len b m
range_split a zero m k b is at =
    let e : k ≡ m = omega arith in
    let f : a ≡ b = omega arith in
    ap (λ (n : ℕ). range_with_len a n) e ∙ ap (λ (n : ℕ). range_with_len n m) f
range_split a (suc n) m zero b is at = absurd (omega arith)
range_split a (suc n) m (suc k) b is at = ap (λ (l : List ℕ). a ∷ l) (range_split (a + 1) n m k b (omega arith) (omega arith))

within_cons : (x bound : ℕ) (xs : List ℕ) → x < bound → ((k y : ℕ) → slice_get xs k ≡ Some y → y < bound) → (k y : ℕ) → slice_get (x ∷ xs) k ≡ Some y → y < bound
within_cons x bound xs less rest zero y is = omega (arith, less, same_Some x y is)
within_cons x bound xs less rest (suc k) y is = rest k y is

none_within : (bound k y : ℕ) → slice_get [] k ≡ Some y → y < bound
none_within bound k y is = cc

-- what a filter keeps of a range lies in it
pub kept_below : (f : ℕ → Bool) (a n bound : ℕ) → a + n ≤ bound → (k y : ℕ) → slice_get (filter f (range_with_len a n)) k ≡ Some y → y < bound
kept_below f a zero bound le = none_within bound
kept_below f a (suc n) bound le =
    let rest = kept_below f (a + 1) n bound (omega arith) in
    elim (f a) as (λ (b : Bool). (k y : ℕ) → slice_get (cond b (a ∷ filter f (range_with_len (a + 1) n)) (filter f (range_with_len (a + 1) n))) k ≡ Some y → y < bound) [
      | true ↦ within_cons a bound (filter f (range_with_len (a + 1) n)) (omega arith) rest
      | false ↦ rest
    ]

-- ---- a page more

not_last : (q : ℕ) (o : Option ℕ) → ((x : ℕ) → o ≡ Some x → x < q) → is_page q o ≡ false
not_last q None less = refl
not_last q (Some x) less = ne_eqb x q (λ same. omega (arith, same, less x refl))

-- a page that is after all others is added
pub with_page_new : (q : ℕ) (xs : List ℕ) → ((k x : ℕ) → slice_get xs k ≡ Some x → x < q) → with_page q xs ≡ xs ++ q ∷ []
with_page_new q xs less = ap (λ (b : Bool). cond b xs (xs ++ q ∷ [])) (not_last q (slice_get xs (length xs - 1)) (less (length xs - 1)))

-- the last element
pub last_pushed : (q : ℕ) (xs : List ℕ) → slice_get (xs ++ q ∷ []) (length (xs ++ q ∷ []) - 1) ≡ Some q
last_pushed q xs =
    let e : length (xs ++ q ∷ []) - 1 ≡ length xs = omega (arith, length_push xs q) in
    ap (λ (n : ℕ). slice_get (xs ++ q ∷ []) n) e ∙ slice_get-get_or (xs ++ q ∷ []) (length xs) 0 (omega (arith, length_push xs q)) ∙ ap (λ (x : ℕ). Some x) (get_or_at xs q [] 0 (length xs) refl)

-- the last page isn't added again
pub with_page_again : (q : ℕ) (xs : List ℕ) → with_page q (xs ++ q ∷ []) ≡ xs ++ q ∷ []
with_page_again q xs = ap (λ (o : Option ℕ). cond (is_page q o) (xs ++ q ∷ []) ((xs ++ q ∷ []) ++ q ∷ [])) (last_pushed q xs) ∙ ap (λ (b : Bool). cond b (xs ++ q ∷ []) ((xs ++ q ∷ []) ++ q ∷ [])) (eq-eqb q q refl)

-- where a test lets one page more through, and none after that one
pub filter_step : (f g : ℕ → Bool) (q n : ℕ) → q < n → g q ≡ true → ((p : ℕ) → p < n → p ≢ q → g p ≡ f p) → ((p : ℕ) → p < n → f p ≡ true → p ≤ q)
    → filter g (range_with_len 0 n) ≡ with_page q (filter f (range_with_len 0 n))
filter_step f g q n less here apart below =
    let m = n - q - 1 in
    let front = filter f (range_with_len 0 q) in
    let split : (h : ℕ → Bool) → filter h (range_with_len 0 n) ≡ filter h (range_with_len 0 q) ++ cond (h q) (q ∷ filter h (range_with_len (q + 1) m)) (filter h (range_with_len (q + 1) m)) =
    λ h. ap (λ (l : List ℕ). filter h l) (range_split 0 q (suc m) n q (omega arith) (omega arith)) ∙ filter-append h (range_with_len 0 q) (q ∷ range_with_len (q + 1) m) in
    let f_after : filter f (range_with_len (q + 1) m) ≡ [] = filter_none f (q + 1) m (λ p lo hi. false_from_ne_true (f p) (λ met. absurd (omega (arith, lo, below p (omega arith) met)))) in
    let g_after : filter g (range_with_len (q + 1) m) ≡ [] = filter_same g f (q + 1) m (λ p lo hi. apart p (omega arith) (λ same. omega (arith, same, lo))) ∙ f_after in
    let g_is : filter g (range_with_len 0 n) ≡ front ++ q ∷ [] =
    split g
    ∙ ap (λ (l : List ℕ). l ++ cond (g q) (q ∷ filter g (range_with_len (q + 1) m)) (filter g (range_with_len (q + 1) m))) (filter_same g f 0 q (λ p lo hi. apart p (omega arith) (λ same. omega (arith, same, hi))))
    ∙ ap (λ (b : Bool). front ++ cond b (q ∷ filter g (range_with_len (q + 1) m)) (filter g (range_with_len (q + 1) m))) here
    ∙ ap (λ (l : List ℕ). front ++ q ∷ l) g_after in
    let f_is : filter f (range_with_len 0 n) ≡ front ++ cond (f q) (q ∷ []) [] = split f ∙ ap (λ (l : List ℕ). front ++ cond (f q) (q ∷ l) l) f_after in
    g_is ∙ sym (ap (λ (l : List ℕ). with_page q l) f_is ∙ by_test (f q) front (kept_below f 0 q q (omega arith)))
  where
    by_test : (b : Bool) (front : List ℕ) → ((k x : ℕ) → slice_get front k ≡ Some x → x < q) → with_page q (front ++ cond b (q ∷ []) []) ≡ front ++ q ∷ []
    by_test true front less = with_page_again q front
    by_test false front less = ap (λ (l : List ℕ). with_page q l) (append-nil front) ∙ with_page_new q front less

-- ---- which pages a range touches

pub touch_true : (P o n p : ℕ) → touches P (o, n) p ≡ true → (0 < n) × (p * P < o + n) × (o < (p + 1) * P)
touch_true P o n p met =
    let a = and_parts _ _ met in
    let b = and_parts _ _ a.0 in
    (ltb-true _ _ b.0, ltb-true _ _ b.1, ltb-true _ _ a.1)

-- a range that is cut touches what its parts touch
pub touches_split : (P o d n p : ℕ) → 0 < P → touches P (o, d + n) p ≡ (touches P (o, d) p || touches P (o + d, n) p)
touches_split P o d n p wide = same_tests _ _ there back
  where
    there : touches P (o, d + n) p ≡ true → (touches P (o, d) p || touches P (o + d, n) p) ≡ true
    there met =
        let h = touch_true P o (d + n) p met in
        let more : (p + 1) * P ≡ p * P + P = omega (arith, suc-mul p P) in
        elim (cases_lt (p * P) (o + d)) [
          | inl first ↦ elim (cases_lt 0 d) [
            | inl some ↦ or_left _ _ (touches_yes P o d p some first h.2)
            | inr none ↦ or_right _ _ (touches_yes P (o + d) n p (omega (arith, h.0, none)) (omega (arith, h.1)) (omega (arith, h.2, none)))
          ]
          | inr second ↦ or_right _ _ (touches_yes P (o + d) n p (omega (arith, h.1, second)) (omega (arith, h.1)) (omega (arith, second, more, wide)))
        ]

    back : (touches P (o, d) p || touches P (o + d, n) p) ≡ true → touches P (o, d + n) p ≡ true
    back met = elim (or_cases _ _ met) [
      | inl first ↦ let h = touch_true P o d p first in touches_yes P o (d + n) p (omega (arith, h.0)) (omega (arith, h.1)) h.2
      | inr second ↦ let h = touch_true P (o + d) n p second in touches_yes P o (d + n) p (omega (arith, h.0)) (omega (arith, h.1)) (omega (arith, h.2))
    ]

-- a page within which a range begins and ends is the only one that it touches
pub touches_one : (P o n p : ℕ) → 0 < P → o % P + n ≤ P → touches P (o, n) p ≡ true → p ≡ o / P
touches_one P o n p wide fits met =
    let h = touch_true P o n p met in
    let whole : o / P * P + o % P ≡ o = div-add-mod' o P in
    let below : o / P < p + 1 = div_below o P (p + 1) wide h.2 in
    elim (cases_lt (o / P) p) [
      | inl less ↦ absurd (let more : (o / P + 1) * P ≤ p * P = mul-le-mul_right P (omega arith) in omega (arith, more, whole, h.1, fits, suc-mul (o / P) P))
      | inr after ↦ omega (arith, after, below)
    ]

-- what ends before an offset touches no page after the offset's
pub touches_before : (P o n p offset : ℕ) → 0 < P → o + n ≤ offset → touches P (o, n) p ≡ true → p ≤ offset / P
touches_before P o n p offset wide ends met =
    let h = touch_true P o n p met in
    let whole : offset / P * P + offset % P ≡ offset = div-add-mod' offset P in
    let short : offset % P < P = mod-lt offset wide in
    elim (cases_lt (offset / P) p) [
      | inl less ↦ absurd (let more : (offset / P + 1) * P ≤ p * P = mul-le-mul_right P (omega arith) in omega (arith, more, whole, short, h.1, ends, suc-mul (offset / P) P))
      | inr after ↦ after
    ]

-- what begins after whole pages touches none of them
pub touches_after : (P o n p full : ℕ) → full * P ≤ o → p < full → touches P (o, n) p ≡ true → ⊥
touches_after P o n p full after below met =
    let h = touch_true P o n p met in
    let more : (p + 1) * P ≤ full * P = mul-le-mul_right P (omega arith) in
    omega (arith, more, h.2, after)

-- ---- which pages ranges lack

abbrev pub is_touched : (P : ℕ) → List (ℕ × ℕ) → ℕ → Bool
is_touched P ranges page = list_any (λ range. touches P range page) ranges

abbrev pub is_lacked : CacheState → Tail → List (ℕ × ℕ) → ℕ → Bool
is_lacked cache t ranges page = not (is_some (cached_page cache (t.id, page))) && is_touched t.page_size ranges page

-- ranges that touch the same pages lack the same
pub missing_same : (cache : CacheState) (t : Tail) (first second : List (ℕ × ℕ)) → ((p : ℕ) → p < t.full_pages → is_lacked cache t first p ≡ is_lacked cache t second p) → missing cache t first ≡ missing cache t second
missing_same cache t first second same = filter_same (is_lacked cache t first) (is_lacked cache t second) 0 t.full_pages (λ p lo hi. same p (omega arith))

or_false : (b : Bool) → (b || false) ≡ b
or_false true = refl
or_false false = refl

touched_push : (P : ℕ) (ranges : List (ℕ × ℕ)) (range : ℕ × ℕ) (p : ℕ) → is_touched P (ranges ++ range ∷ []) p ≡ (is_touched P ranges p || touches P range p)
touched_push P ranges range p =
    list_any-append (λ range. touches P range p) ranges (range ∷ [])
    ∙ ap (λ (b : Bool). is_touched P ranges p || b) (or_false (touches P range p))

-- a range that is cut lacks what its parts lack
pub missing_split : (cache : CacheState) (t : Tail) (ranges : List (ℕ × ℕ)) (o d n : ℕ) → 0 < t.page_size → missing cache t (ranges ++ (o, d + n) ∷ []) ≡ missing cache t ((ranges ++ (o, d) ∷ []) ++ (o + d, n) ∷ [])
missing_split cache t ranges o d n wide = missing_same cache t (ranges ++ (o, d + n) ∷ []) ((ranges ++ (o, d) ∷ []) ++ (o + d, n) ∷ []) (λ p below.
    let P = t.page_size in
    ap (λ (b : Bool). not (is_some (cached_page cache (t.id, p))) && b) (
    touched_push P ranges (o, d + n) p
    ∙ ap (λ (b : Bool). is_touched P ranges p || b) (touches_split P o d n p wide)
    ∙ or_joins (is_touched P ranges p) (touches P (o, d) p) (touches P (o + d, n) p)
    ∙ sym (touched_push P (ranges ++ (o, d) ∷ []) (o + d, n) p ∙ ap (λ (b : Bool). b || touches P (o + d, n) p) (touched_push P ranges (o, d) p))))
  where
    or_joins : (a b c : Bool) → (a || (b || c)) ≡ ((a || b) || c)
    or_joins true b c = refl
    or_joins false b c = refl

-- an empty range lacks no page
pub missing_none : (cache : CacheState) (t : Tail) (ranges : List (ℕ × ℕ)) (o : ℕ) → missing cache t (ranges ++ (o, 0) ∷ []) ≡ missing cache t ranges
missing_none cache t ranges o = missing_same cache t (ranges ++ (o, 0) ∷ []) ranges (λ p below.
    let P = t.page_size in
    ap (λ (b : Bool). not (is_some (cached_page cache (t.id, p))) && b) (
    touched_push P ranges (o, 0) p
    ∙ ap (λ (b : Bool). is_touched P ranges p || b) (false_from_ne_true (touches P (o, 0) p) (λ met. absurd (omega (arith, (touch_true P o 0 p met).0))))
    ∙ or_false (is_touched P ranges p)))

none_kept : (f : ℕ → Bool) (a n p : ℕ) → length (filter f (range_with_len a n)) ≡ 0 → a ≤ p → p < a + n → f p ≡ false
none_kept f a zero p none lo hi = absurd (omega arith)
none_kept f a (suc n) p none lo hi = by_test (f a) refl none (λ more apart. none_kept f (a + 1) n p more (omega arith) (omega arith))
  where
    by_test : (b : Bool) → f a ≡ b → length (cond b (a ∷ filter f (range_with_len (a + 1) n)) (filter f (range_with_len (a + 1) n))) ≡ 0
        → (length (filter f (range_with_len (a + 1) n)) ≡ 0 → (a ≡ p → ⊥) → f p ≡ false) → f p ≡ false
    by_test true is none rest = absurd (omega arith)
    by_test false is none rest = elim (cases_eq a p) [
      | inl same ↦ ap f (sym same) ∙ is
      | inr apart ↦ rest none apart
    ]

-- a range is served exactly if it lacks no page
pub served_lacks : (cache : CacheState) (t : Tail) (range : ℕ × ℕ) → is_served cache t range ≡ true → (p : ℕ) → p < t.full_pages → is_lacked cache t (range ∷ []) p ≡ false
served_lacks cache t range served p below = none_kept (is_lacked cache t (range ∷ [])) 0 t.full_pages p (eqb-true _ _ served) (omega arith) (omega arith)

pub lacks_served : (cache : CacheState) (t : Tail) (range : ℕ × ℕ) → ((p : ℕ) → p < t.full_pages → is_lacked cache t (range ∷ []) p ≡ false) → is_served cache t range ≡ true
lacks_served cache t range none = eq-eqb _ _ (ap length (filter_none (is_lacked cache t (range ∷ [])) 0 t.full_pages (λ p lo hi. none p (omega arith))))

-- where many ranges lack no page each is served
pub each_served : (cache : CacheState) (t : Tail) (ranges : List (ℕ × ℕ)) (i : ℕ) (d : ℕ × ℕ) → i < length ranges → missing cache t ranges ≡ [] → is_served cache t (get_or ranges i d) ≡ true
each_served cache t ranges i d there none =
    let range = get_or ranges i d in
    lacks_served cache t range (λ p below. false_from_ne_true (is_lacked cache t (range ∷ []) p) (λ met.
    let parts = and_parts (not (is_some (cached_page cache (t.id, p)))) (is_touched t.page_size (range ∷ []) p) met in
    let touched : is_touched t.page_size ranges p ≡ true = list_any_at (λ r. touches t.page_size r p) ranges i d there (sym (or_false (touches t.page_size range p)) ∙ parts.1) in
    both_ways (is_lacked cache t ranges p) (none_kept (is_lacked cache t ranges) 0 t.full_pages p (ap length none) (omega arith) (omega (arith, below)))
    (and_from (not (is_some (cached_page cache (t.id, p)))) (is_touched t.page_size ranges p) parts.0 touched)))

-- the pages that are missing are below the tail
pub missing_below : (cache : CacheState) (t : Tail) (ranges : List (ℕ × ℕ)) → All (λ page. page < t.full_pages) (missing cache t ranges)
missing_below cache t ranges = λ k d less. kept_below (is_lacked cache t ranges) 0 t.full_pages t.full_pages (omega arith) k (get_or (missing cache t ranges) k d) (slice_get-get_or (missing cache t ranges) k d less)

-- the parts of a range are served where it is
pub served_split : (cache : CacheState) (t : Tail) (o d n : ℕ) → 0 < t.page_size → is_served cache t (o, d + n) ≡ (is_served cache t (o, d) && is_served cache t (o + d, n))
served_split cache t o d n wide = same_tests (is_served cache t (o, d + n)) (is_served cache t (o, d) && is_served cache t (o + d, n)) there back
  where
    split : (p : ℕ) → is_lacked cache t ((o, d + n) ∷ []) p ≡ (not (is_some (cached_page cache (t.id, p))) && (touches t.page_size (o, d) p || touches t.page_size (o + d, n) p))
    split p = ap (λ (b : Bool). not (is_some (cached_page cache (t.id, p))) && b) (or_false (touches t.page_size (o, d + n) p) ∙ touches_split t.page_size o d n p wide)

    one : (a n p : ℕ) → is_lacked cache t ((a, n) ∷ []) p ≡ (not (is_some (cached_page cache (t.id, p))) && touches t.page_size (a, n) p)
    one a n p = ap (λ (b : Bool). not (is_some (cached_page cache (t.id, p))) && b) (or_false (touches t.page_size (a, n) p))

    parts : (a b c : Bool) → (a && (b || c)) ≡ false → ((a && b) ≡ false) × ((a && c) ≡ false)
    parts true true c is = absurd (both_ways true is refl)
    parts true false c is = (refl, is)
    parts false b c is = (refl, refl)

    whole : (a b c : Bool) → (a && b) ≡ false → (a && c) ≡ false → (a && (b || c)) ≡ false
    whole true true c first second = first
    whole true false c first second = second
    whole false b c first second = refl

    there : is_served cache t (o, d + n) ≡ true → (is_served cache t (o, d) && is_served cache t (o + d, n)) ≡ true
    there served =
        let h : (p : ℕ) → p < t.full_pages → ((not (is_some (cached_page cache (t.id, p))) && touches t.page_size (o, d) p) ≡ false) × ((not (is_some (cached_page cache (t.id, p))) && touches t.page_size (o + d, n) p) ≡ false) =
        λ p below. parts (not (is_some (cached_page cache (t.id, p)))) (touches t.page_size (o, d) p) (touches t.page_size (o + d, n) p) (sym (split p) ∙ served_lacks cache t (o, d + n) served p below) in
        and_from (is_served cache t (o, d)) (is_served cache t (o + d, n)) (lacks_served cache t (o, d) (λ p below. one o d p ∙ (h p below).0)) (lacks_served cache t (o + d, n) (λ p below. one (o + d) n p ∙ (h p below).1))

    back : (is_served cache t (o, d) && is_served cache t (o + d, n)) ≡ true → is_served cache t (o, d + n) ≡ true
    back both =
        let h = and_parts (is_served cache t (o, d)) (is_served cache t (o + d, n)) both in
        lacks_served cache t (o, d + n) (λ p below. split p ∙ whole (not (is_some (cached_page cache (t.id, p)))) (touches t.page_size (o, d) p) (touches t.page_size (o + d, n) p) (sym (one o d p) ∙ served_lacks cache t (o, d) h.0 p below) (sym (one (o + d) n p) ∙ served_lacks cache t (o + d, n) h.1 p below))

-- a range isn't served where a part of it isn't
pub part_unserved : (cache : CacheState) (t : Tail) (o n at part : ℕ) → 0 < t.page_size → o ≤ at → at + part ≤ o + n → is_served cache t (at, part) ≡ false → is_served cache t (o, n) ≡ false
part_unserved cache t o n at part wide after ends none =
    let d = at - o in
    let rest = o + n - (at + part) in
    let whole : n ≡ d + (part + rest) = omega (arith, after, ends) in
    let start : o + d ≡ at = omega (arith, after) in
    let later : is_served cache t (o + d, part + rest) ≡ false =
    ap (λ (k : ℕ). is_served cache t (k, part + rest)) start ∙ served_split cache t at part rest wide ∙ ap (λ (b : Bool). b && is_served cache t (at + part, rest)) none in
    ap (λ (k : ℕ). is_served cache t (o, k)) whole ∙ served_split cache t o d (part + rest) wide
    ∙ ap (λ (b : Bool). is_served cache t (o, d) && b) later ∙ no_right (is_served cache t (o, d))
  where
    no_right : (b : Bool) → (b && false) ≡ false
    no_right true = refl
    no_right false = refl

-- where there is no range no page is lacking
pub missing_nil : (cache : CacheState) (t : Tail) → missing cache t [] ≡ []
missing_nil cache t = filter_none (is_lacked cache t []) 0 t.full_pages (λ p lo hi. and_right (not (is_some (cached_page cache (t.id, p)))) false refl)

-- an empty range is served
pub served_none : (cache : CacheState) (t : Tail) (o : ℕ) → is_served cache t (o, 0) ≡ true
served_none cache t o = ap (λ (l : List ℕ). nat_eq (length l) 0) (missing_none cache t [] o ∙ missing_nil cache t)

-- a range that is served adds no page to those that others lack
pub missing_served : (cache : CacheState) (t : Tail) (ranges : List (ℕ × ℕ)) (range : ℕ × ℕ) → is_served cache t range ≡ true → missing cache t (ranges ++ range ∷ []) ≡ missing cache t ranges
missing_served cache t ranges range served = missing_same cache t (ranges ++ range ∷ []) ranges (λ p below.
    ap (λ (b : Bool). not (is_some (cached_page cache (t.id, p))) && b) (touched_push t.page_size ranges range p)
    ∙ drops (not (is_some (cached_page cache (t.id, p)))) (is_touched t.page_size ranges p) (touches t.page_size range p) (sym (ap (λ (b : Bool). not (is_some (cached_page cache (t.id, p))) && b) (or_false (touches t.page_size range p))) ∙ served_lacks cache t range served p below))
  where
    drops : (a b c : Bool) → (a && c) ≡ false → (a && (b || c)) ≡ (a && b)
    drops true true c none = refl
    drops true false c none = none
    drops false b c none = refl

-- bytes of one page that aren't served: their page is below the tail and lacked
pub unserved_page : (cache : CacheState) (t : Tail) (o n : ℕ) → 0 < t.page_size → (o < t.full_pages * t.page_size → o % t.page_size + n ≤ t.page_size) → is_served cache t (o, n) ≡ false
    → (o / t.page_size < t.full_pages) × (o % t.page_size + n ≤ t.page_size) × (is_some (cached_page cache (t.id, o / t.page_size)) ≡ false)
unserved_page cache t o n wide fits unserved = elim (cases_lt o (t.full_pages * t.page_size)) [
  | inl below ↦ (
    div_below o t.page_size t.full_pages wide below,
    fits below,
    false_from_ne_true _ (λ there. both_ways _ unserved (lacks_served cache t (o, n) (λ p less. false_from_ne_true _ (λ met.
        let h = and_parts _ _ met in
        let same = touches_one t.page_size o n p wide (fits below) (sym (or_false _) ∙ h.1) in
        both_ways _ (not_true _ h.0) (ap (λ (q : ℕ). is_some (cached_page cache (t.id, q))) same ∙ there))))),
  )
  | inr after ↦ absurd (both_ways _ unserved (lacks_served cache t (o, n) (λ p less. false_from_ne_true _ (λ met. touches_after t.page_size o n p t.full_pages after less (sym (or_false _) ∙ (and_parts _ _ met).1)))))
]
  where
    not_true : (b : Bool) → not b ≡ true → b ≡ false
    not_true true is = sym is
    not_true false is = refl

-- ranges that end before an offset touch no page after the offset's
touched_before : (P : ℕ) (ranges : List (ℕ × ℕ)) (p offset : ℕ) → 0 < P → EndWithin offset ranges → is_touched P ranges p ≡ true → p ≤ offset / P
touched_before P [] p offset wide ends met = cc
touched_before P (range ∷ ranges) p offset wide ends met = elim (or_cases _ _ met) [
  | inl first ↦ touches_before P range.0 range.1 p offset wide (ends 0 range (omega arith)) first
  | inr rest ↦ touched_before P ranges p offset wide (λ k d less. ends (suc k) d (omega arith)) rest
]

-- after ranges that end before it, it adds that page
pub missing_page : (cache : CacheState) (t : Tail) (ranges : List (ℕ × ℕ)) (o n : ℕ) → 0 < t.page_size → 0 < n → EndWithin o ranges → (o < t.full_pages * t.page_size → o % t.page_size + n ≤ t.page_size) → is_served cache t (o, n) ≡ false
    → missing cache t (ranges ++ (o, n) ∷ []) ≡ with_page (o / t.page_size) (missing cache t ranges)
missing_page cache t ranges o n wide some ends fits unserved =
    let P = t.page_size in
    let h = unserved_page cache t o n wide fits unserved in
    let whole : o / P * P + o % P ≡ o = div-add-mod' o P in
    let short : o % P < P = mod-lt o wide in
    let here : touches P (o, n) (o / P) ≡ true = touches_yes P o n (o / P) some (omega (arith, whole, some)) (omega (arith, whole, short, suc-mul (o / P) P)) in
    filter_step (is_lacked cache t ranges) (is_lacked cache t (ranges ++ (o, n) ∷ [])) (o / P) t.full_pages h.0
    (and_from _ _ (ap not h.2) (touched_push P ranges (o, n) (o / P) ∙ or_right _ _ here))
    (λ p less apart. ap (λ (b : Bool). not (is_some (cached_page cache (t.id, p))) && b) (touched_push P ranges (o, n) p ∙ ap (λ (b : Bool). is_touched P ranges p || b) (false_from_ne_true _ (λ met. apart (touches_one P o n p wide h.1 met))) ∙ or_false _))
    (λ p less met. touched_before P ranges p o wide ends (and_parts _ _ met).1)
