-- Ranges one by one.
use Rattle.std.proofs.Common.{inl, ◌≡◌, ℕ, zero, suc, ◌+◌, ◌<◌, ◌≤◌, List, [], ◌∷◌, ◌++◌, length, take, drop, get_or, refl, sym, ap, ◌∙◌, subst, arith, Bool, true, false, cond, inr, length-append, length-drop, ◌*◌, ◌^◌}
use Rattle.std.specs.Prelude.{sum_by, is_ok, IfOk, OnOk, Vec, Result, Ok, Err}
use Rattle.std.specs.declared.alloc.Global.{Global}
use Rattle.std.specs.List.{filter, range_with_len}
use Rattle.std.proofs.Math.Nat.{suc-mul}
use Rattle.std.proofs.lemmas.Bool.{both_ways}
use Rattle.std.proofs.lemmas.List.{take_more, take_all, take-append-le, drop-append-le, length-take-le, take-map, map-append}
use Rattle.std.proofs.lemmas.List.Elements.{filter-append, All-cons, All-nil, All-push}
use Rattle.std.proofs.lemmas.List.Sums.{sum_by-cons}
use Rattle.disk.specs.declared.error.Error.{Error}
use Rattle.disk.specs.declared.error.Error.TheVariants.{ReadFailed, WriteFailed, ResizeFailed, SyncFailed, InvalidChecksum, BlobInsufficientLength, OffsetOverflow, OutOfMemory, IdsExhausted}
use Rattle.page.proofs.Ranges.{RangesGo-refused}
use Rattle.cache.specs.CacheState.{CacheState}
use Rattle.page.specs.Geometry.{EndWithin, AreInOrderFrom, RangeGoes, RangesGo}
use Rattle.paged_read.specs.Tail.{Tail, tail_size}
use Rattle.paged_read.specs.Ranges.{is_served, served_ranges, missed_from, slice, HasServed, Misses}
use Rattle.paged_read.specs.Batch.{Gathered, ranges_of}
use Rattle.paged_read.specs.declared.lack.Lack.{Lack}
use Rattle.paged_read.proofs.RangedPages.{range_split}

-- a range begins after where the first may
begins_after : (offset : ℕ) (ranges : List (ℕ × ℕ)) (i : ℕ) (d : ℕ × ℕ) → AreInOrderFrom offset ranges → i < length ranges → offset ≤ (get_or ranges i d).0
begins_after offset [] i d order there = absurd (omega arith)
begins_after offset (range ∷ ranges) zero d order there = order.0
begins_after offset (range ∷ ranges) (suc i) d order there =
    let h = begins_after (range.0 + range.1) ranges i d order.1 (omega arith) in
    omega (arith, h, order.0)

-- where a range begins, those before it have ended
pub ends_before : (offset : ℕ) (ranges : List (ℕ × ℕ)) (i : ℕ) (d : ℕ × ℕ) → AreInOrderFrom offset ranges → i < length ranges → EndWithin (get_or ranges i d).0 (take i ranges)
ends_before offset [] i d order there = absurd (omega arith)
ends_before offset (range ∷ ranges) zero d order there = All-nil (λ (r : ℕ × ℕ). r.0 + r.1 ≤ range.0)
ends_before offset (range ∷ ranges) (suc i) d order there =
    All-cons (λ (r : ℕ × ℕ). r.0 + r.1 ≤ (get_or ranges i d).0) range (take i ranges) (begins_after (range.0 + range.1) ranges i d order.1 (omega arith))
    (ends_before (range.0 + range.1) ranges i d order.1 (omega arith))

-- one range more is counted
pub served_count : (cache : CacheState) (t : Tail) (ranges : List (ℕ × ℕ)) (i : ℕ) (d : ℕ × ℕ) (count : ℕ) (here : Bool) → i < length ranges → count ≡ served_ranges cache t (take i ranges) → here ≡ is_served cache t (get_or ranges i d)
    → count + cond here 1 0 ≡ served_ranges cache t (take (i + 1) ranges)
served_count cache t ranges i d count here there before is =
    let range = get_or ranges i d in
    ap (λ (n : ℕ). n + cond here 1 0) before
    ∙ ap (λ (b : Bool). served_ranges cache t (take i ranges) + cond b 1 0) is
    ∙ ap (λ (n : ℕ). served_ranges cache t (take i ranges) + n) (one (is_served cache t range) range)
    ∙ sym (length-append (filter (is_served cache t) (take i ranges)) (cond (is_served cache t range) (range ∷ []) []))
    ∙ ap length (sym (filter-append (is_served cache t) (take i ranges) (range ∷ [])))
    ∙ ap (λ (rs : List (ℕ × ℕ)). served_ranges cache t rs) (sym (take_more ranges i d there))
  where
    one : (b : Bool) (r : ℕ × ℕ) → cond b 1 0 ≡ length (cond b (r ∷ []) [])
    one true r = refl
    one false r = refl

-- one range more is gathered
pub gathered_next : (cache : CacheState) (t : Tail) (ranges : List (ℕ × ℕ)) (i : ℕ) (d : ℕ × ℕ) (buf_offset : ℕ) (pages more pages_after : List ℕ) (lacks added lacks_after : List Lack) (buf after : List ℕ) → AreInOrderFrom 0 ranges → i < length ranges
    → Gathered cache t (take i ranges) buf_offset pages lacks buf
    → ((others : List (ℕ × ℕ)) → EndWithin (get_or ranges i d).0 others → Gathered cache t others buf_offset pages lacks buf → Gathered cache t (others ++ get_or ranges i d ∷ []) (buf_offset + (get_or ranges i d).1) more added after)
    → pages_after ≡ more → lacks_after ≡ added → Gathered cache t (take (i + 1) ranges) (buf_offset + (get_or ranges i d).1) pages_after lacks_after after
gathered_next cache t ranges i d buf_offset pages more pages_after lacks added lacks_after buf after order there before step same_pages same_lacks =
    let offset_after = buf_offset + (get_or ranges i d).1 in
    let next : Gathered cache t (take (i + 1) ranges) offset_after more added after =
    subst (λ (rs : List (ℕ × ℕ)). Gathered cache t rs offset_after more added after) (sym (take_more ranges i d there)) (step (take i ranges) (ends_before 0 ranges i d order there) before) in
    let first : Gathered cache t (take (i + 1) ranges) offset_after pages_after added after = subst (λ (ps : List ℕ). Gathered cache t (take (i + 1) ranges) offset_after ps added after) (sym same_pages) next in
    subst (λ (ls : List Lack). Gathered cache t (take (i + 1) ranges) offset_after pages_after ls after) (sym same_lacks) first

-- what one range counts
pub one_at_most : (here : Bool) → cond here 1 0 ≤ 1
one_at_most true = omega arith
one_at_most false = omega arith

-- ---- the numbers of the ranges that aren't served

pub missed_push : (n : ℕ) (cache : CacheState) (t : Tail) (ranges : List (ℕ × ℕ)) (range : ℕ × ℕ) (at : ℕ) → at ≡ n + length ranges → missed_from n cache t (ranges ++ range ∷ []) ≡ missed_from n cache t ranges ++ cond (is_served cache t range) [] (at ∷ [])
missed_push n cache t [] range at is =
    let same : at ≡ n = omega (arith, is) in
    by_test (is_served cache t range) ∙ ap (λ (m : ℕ). cond (is_served cache t range) [] (m ∷ [])) (sym same)
  where
    by_test : (b : Bool) → cond b [] (n ∷ []) ≡ cond b [] (n ∷ [])
    by_test b = refl
missed_push n cache t (first ∷ ranges) range at is = by_test (is_served cache t first) (missed_push (n + 1) cache t ranges range at (omega (arith, is)))
  where
    by_test : (b : Bool) → missed_from (n + 1) cache t (ranges ++ range ∷ []) ≡ missed_from (n + 1) cache t ranges ++ cond (is_served cache t range) [] (at ∷ [])
        → cond b (missed_from (n + 1) cache t (ranges ++ range ∷ [])) (n ∷ missed_from (n + 1) cache t (ranges ++ range ∷ [])) ≡ cond b (missed_from (n + 1) cache t ranges) (n ∷ missed_from (n + 1) cache t ranges) ++ cond (is_served cache t range) [] (at ∷ [])
    by_test true rest = rest
    by_test false rest = ap (λ (l : List ℕ). n ∷ l) rest

pub missed_more : (cache : CacheState) (t : Tail) (ranges : List (ℕ × ℕ)) (i : ℕ) (d : ℕ × ℕ) (missed after : List ℕ) (here : Bool) → i < length ranges → here ≡ is_served cache t (get_or ranges i d) → after ≡ missed ++ cond here [] (i ∷ [])
    → missed ≡ missed_from 0 cache t (take i ranges) → after ≡ missed_from 0 cache t (take (i + 1) ranges)
missed_more cache t ranges i d missed after here there is added before =
    added ∙ ap (λ (l : List ℕ). l ++ cond here [] (i ∷ [])) before ∙ ap (λ (b : Bool). missed_from 0 cache t (take i ranges) ++ cond b [] (i ∷ [])) is
    ∙ sym (missed_push 0 cache t (take i ranges) (get_or ranges i d) i (omega (arith, length-take-le i ranges (omega arith))))
    ∙ ap (λ (rs : List (ℕ × ℕ)). missed_from 0 cache t rs) (sym (take_more ranges i d there))

-- ---- the bytes of the ranges that are served

served_push : (cache : CacheState) (t : Tail) (ranges : List (ℕ × ℕ)) (range : ℕ × ℕ) (content buf part : List ℕ) → length buf ≡ sum_by (λ (r : ℕ × ℕ). r.1) ranges → length part ≡ range.1 → (is_served cache t range ≡ true → part ≡ slice content range)
    → HasServed cache t ranges content buf → HasServed cache t (ranges ++ range ∷ []) content (buf ++ part)
served_push cache t [] range content [] part size long is has = (λ served. take_all range.1 part (omega (arith, long)) ∙ is served, tt)
served_push cache t [] range content (x ∷ buf) part size long is has = absurd (omega (arith, size))
served_push cache t (first ∷ ranges) range content buf part size long is has =
    let cons : sum_by (λ (r : ℕ × ℕ). r.1) (first ∷ ranges) ≡ first.1 + sum_by (λ (r : ℕ × ℕ). r.1) ranges = sum_by-cons (λ (r : ℕ × ℕ). r.1) first ranges in
    let fits : first.1 ≤ length buf = omega (arith, size, cons) in (
      λ served. take-append-le first.1 buf part fits ∙ has.0 served,
      subst (λ (l : List ℕ). HasServed cache t (ranges ++ range ∷ []) content l) (sym (drop-append-le first.1 buf part fits))
          (served_push cache t ranges range content (drop first.1 buf) part (omega (arith, size, cons, length-drop first.1 buf)) long is has.1),
    )

pub served_more_bytes : (cache : CacheState) (t : Tail) (ranges : List (ℕ × ℕ)) (i : ℕ) (d : ℕ × ℕ) (content buf after part : List ℕ) (buf_offset : ℕ) → i < length ranges → buf_offset ≤ length buf → buf_offset ≡ sum_by (λ (r : ℕ × ℕ). r.1) (take i ranges)
    → take (buf_offset + (get_or ranges i d).1) after ≡ take buf_offset buf ++ part → length part ≡ (get_or ranges i d).1 → (is_served cache t (get_or ranges i d) ≡ true → part ≡ slice content (get_or ranges i d))
    → HasServed cache t (take i ranges) content (take buf_offset buf) → HasServed cache t (take (i + 1) ranges) content (take (buf_offset + (get_or ranges i d).1) after)
served_more_bytes cache t ranges i d content buf after part buf_offset there fits is front long served_ranges has =
    subst (λ (l : List ℕ). HasServed cache t (take (i + 1) ranges) content l) (sym front)
    (subst (λ (rs : List (ℕ × ℕ)). HasServed cache t rs content (take buf_offset buf ++ part)) (sym (take_more ranges i d there))
    (served_push cache t (take i ranges) (get_or ranges i d) content (take buf_offset buf) part (length-take-le buf_offset buf fits ∙ is) long served_ranges has))

-- ---- ranges that can't be read

refused_ends : (size : ℕ) (range : ℕ × ℕ) (e : Error) → size < 2 ^ 64 → RangeGoes size range (Err e) → range.0 + range.1 ≤ size → ⊥
refused_ends size range ReadFailed small goes ends = goes
refused_ends size range WriteFailed small goes ends = goes
refused_ends size range ResizeFailed small goes ends = goes
refused_ends size range SyncFailed small goes ends = goes
refused_ends size range InvalidChecksum small goes ends = goes
refused_ends size range BlobInsufficientLength small goes ends = omega (arith, goes.1, ends)
refused_ends size range OffsetOverflow small goes ends = omega (arith, goes, ends, small)
refused_ends size range OutOfMemory small goes ends = goes
refused_ends size range IdsExhausted small goes ends = goes

refused_among : (size : ℕ) (before after : List (ℕ × ℕ)) (range : ℕ × ℕ) → EndWithin size (before ++ range ∷ after) → range.0 + range.1 ≤ size
refused_among size [] after range ends = ends 0 range (omega arith)
refused_among size (first ∷ before) after range ends = refused_among size before after range (λ k d less. ends (suc k) d (omega arith))

-- some range doesn't end within the size
pub refused_not : (size : ℕ) (ranges : List (ℕ × ℕ)) (e : Error) → size < 2 ^ 64 → RangesGo size ranges (Err e) → EndWithin size ranges → ⊥
refused_not size ranges e small (before, after, (range, is, first, goes)) ends =
    refused_ends size range e small goes (refused_among size before after range (subst (λ (rs : List (ℕ × ℕ)). EndWithin size rs) is ends))

pub err_refused : (size : ℕ) (ranges : List (ℕ × ℕ)) (result : Result (Unit {0}) Error) → size < 2 ^ 64 → is_ok result ≡ false → RangesGo size ranges result → EndWithin size ranges → ⊥
err_refused size ranges (Ok u) small not_ok goes ends = absurd (both_ways true not_ok refl)
err_refused size ranges (Err e) small not_ok goes ends = refused_not size ranges e small goes ends

pub ok_ends : (size : ℕ) (ranges : List (ℕ × ℕ)) (result : Result (Unit {0}) Error) → is_ok result ≡ true → RangesGo size ranges result → EndWithin size ranges
ok_ends size ranges (Ok u) ok goes = goes
ok_ends size ranges (Err e) ok goes = absurd (both_ways false refl ok)

-- ---- ranges of one length

one_refused : (size : ℕ) (range : ℕ × ℕ) (e : Error) (before after : List (ℕ × ℕ)) (refused : ℕ × ℕ) → range ∷ [] ≡ before ++ refused ∷ after → RangeGoes size refused (Err e) → RangeGoes size range (Err e)
one_refused size range e [] after refused is goes = subst (λ (r : ℕ × ℕ). RangeGoes size r (Err e)) (sym (ap (λ (l : List (ℕ × ℕ)). get_or l 0 range) is)) goes
one_refused size range e (first ∷ before) after refused is goes = absurd (omega (arith, ap length is, length-append before (refused ∷ after)))

take-ranges_of : (len : ℕ) (offsets : List ℕ) (i : ℕ) → take i (ranges_of len offsets) ≡ ranges_of len (take i offsets)
take-ranges_of len offsets i = take-map (λ (offset : ℕ). (offset, len)) i offsets

get_or-ranges_of : (len : ℕ) (offsets : List ℕ) (i d : ℕ) → i < length offsets → get_or (ranges_of len offsets) i (0, 0) ≡ (get_or offsets i d, len)
get_or-ranges_of len [] i d less = absurd (omega arith)
get_or-ranges_of len (offset ∷ offsets) zero d less = refl
get_or-ranges_of len (offset ∷ offsets) (suc i) d less = get_or-ranges_of len offsets i d (omega arith)

pub length-ranges_of : (len : ℕ) (offsets : List ℕ) → length (ranges_of len offsets) ≡ length offsets
length-ranges_of len [] = refl
length-ranges_of len (offset ∷ offsets) = ap suc (length-ranges_of len offsets)

-- the first of these ranges that can't be read decides
pub offsets_refused : (size len : ℕ) (offsets : List ℕ) (i d : ℕ) (e : Error) → i < length offsets → EndWithin size (ranges_of len (take i offsets)) → RangesGo size ((get_or offsets i d, len) ∷ []) (Err e) → RangesGo size (ranges_of len offsets) (Err e)
offsets_refused size len offsets i d e there before (front, after, (range, is, first, goes)) =
    RangesGo-refused size (ranges_of len offsets) i (0, 0) e (omega (arith, there, length-ranges_of len offsets))
    (subst (λ (rs : List (ℕ × ℕ)). EndWithin size rs) (sym (take-ranges_of len offsets i)) before)
    (subst (λ (r : ℕ × ℕ). RangeGoes size r (Err e)) (sym (get_or-ranges_of len offsets i d there)) (one_refused size (get_or offsets i d, len) e front after range is goes))

-- one range more
pub ranges_push : (len : ℕ) (offsets : List ℕ) (i d : ℕ) → i < length offsets → ranges_of len (take i offsets) ++ (get_or offsets i d, len) ∷ [] ≡ ranges_of len (take (i + 1) offsets)
ranges_push len offsets i d there =
    sym (map-append (λ (offset : ℕ). (offset, len)) (take i offsets) (get_or offsets i d ∷ [])) ∙ ap (λ (l : List ℕ). ranges_of len l) (sym (take_more offsets i d there))

pub offsets_more : (size len : ℕ) (offsets : List ℕ) (i d : ℕ) → i < length offsets → EndWithin size (ranges_of len (take i offsets)) → EndWithin size ((get_or offsets i d, len) ∷ []) → EndWithin size (ranges_of len (take (i + 1) offsets))
offsets_more size len offsets i d there before here =
    subst (λ (rs : List (ℕ × ℕ)). EndWithin size rs) (ranges_push len offsets i d there) (All-push (λ (r : ℕ × ℕ). r.0 + r.1 ≤ size) (ranges_of len (take i offsets)) (get_or offsets i d, len) before (here 0 (0, 0) (omega arith)))

-- ranges of one length fill this many bytes
pub sum_ranges_of : (len : ℕ) (offsets : List ℕ) → sum_by (λ (r : ℕ × ℕ). r.1) (ranges_of len offsets) ≡ length offsets * len
sum_ranges_of len [] = omega arith
sum_ranges_of len (offset ∷ offsets) = sum_by-cons (λ (r : ℕ × ℕ). r.1) (offset, len) (ranges_of len offsets) ∙ ap (λ (n : ℕ). len + n) (sum_ranges_of len offsets) ∙ omega (arith, suc-mul (length offsets) len)

pub offsets_all : (size len : ℕ) (offsets : List ℕ) (n : ℕ) → length offsets ≤ n → EndWithin size (ranges_of len (take n offsets)) → EndWithin size (ranges_of len offsets)
offsets_all size len offsets n enough ends = subst (λ (l : List ℕ). EndWithin size (ranges_of len l)) (take_all n offsets enough) ends

-- one number more
pub range_push : (n : ℕ) → range_with_len 0 n ++ n ∷ [] ≡ range_with_len 0 (n + 1)
range_push n = sym (range_split 0 n 1 (n + 1) n refl (omega arith))

-- where a range can't be read, the numbers of all are answered
pub misses_all : (t : Tail) (ranges : List (ℕ × ℕ)) (cache : CacheState) (result : Result (Vec ℕ Global) Error) → (EndWithin (tail_size t) ranges → ⊥) → IfOk result (λ all. all.items ≡ range_with_len 0 (length ranges)) → IfOk result (λ missed. Misses t ranges cache missed.items)
misses_all t ranges cache (Ok all) refused is = inr (refused, is)
misses_all t ranges cache (Err e) refused is = is

-- where each range can be read, the numbers of those that aren't served are answered
pub misses_within : (t : Tail) (ranges : List (ℕ × ℕ)) (cache : CacheState) (result : Result (Vec ℕ Global) Error) → EndWithin (tail_size t) ranges → IfOk result (λ missed. missed.items ≡ missed_from 0 cache t ranges) → IfOk result (λ missed. Misses t ranges cache missed.items)
misses_within t ranges cache (Ok missed) within is = inl (within, is)
misses_within t ranges cache (Err e) within is = is

-- and nothing is said of the bytes
pub on_refused : {A : Type 0} (result : Result A Error) (P Q : Type 0) → (P → ⊥) → OnOk result (P → Q)
on_refused (Ok a) P Q refused = λ ends. absurd (refused ends)
on_refused (Err e) P Q refused = tt
