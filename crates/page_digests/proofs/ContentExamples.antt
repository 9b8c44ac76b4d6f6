-- The content "abc" in its file, and its list in another, as `ReadExamples.antt` has them: it is
-- opened, its page is compared, and ranges of it are read.
use Rattle.std.proofs.Common.{◌≡◌, ◌⊎◌, ◌*◌, ◌++◌, ◌∷◌, ◌∙◌, [], ℕ, zero, suc, List, length, get_or}
use Rattle.std.proofs.Common.{refl, ap, sym, subst, inl, inr, arith, lit<, lit≤, true, false}
use Rattle.std.specs.Prelude.{◌+◌, codes, min, Some, None, Result, Ok, Err, Bool, Vec}
use Rattle.std.specs.declared.alloc.Global.{Global}
use Rattle.std.specs.declared.io.Error.{Error as IoError}
use Rattle.std.proofs.lemmas.List.{same_from_push}
use Rattle.std.proofs.lemmas.Option.{same_Some}
use Rattle.page_digests.specs.declared.error.Error.{Error}
use Rattle.page_digests.specs.declared.error.Error.TheVariants.{Damaged, System}
use Rattle.page_digests.specs.Contents.{AppendsRange, HoldsFrom, HoldsLast, IsInCached, IsOpenedContent, IsSameContent, PagedState, PageFails, RangeAsks, RangeFails, unread}
use Rattle.page_digests.specs.Contents.{ReadAnswers, PagedReadGoes, ReadIntoAnswers, PagedReadIntoGoes, SoundAnswers, SoundGoes}
use Rattle.page_digests.specs.Pages.{list_of, content_page, range_at, top_of}
use Rattle.page_digests.specs.Reads.{DigestFails, IsReadOn, ReadsDigestOn}
use Rattle.page_digests.specs.Seals.{HasSecondPreimage, IsVerified, IsWrong}
use Rattle.page_digests.specs.Sources.{EndsWithRead, SourceRead, gave, refused}
use Rattle.page_digests.proofs.PageExamples.{first}
use Rattle.page_digests.proofs.RangeCosts.{on_any}
use Rattle.page_digests.proofs.ReadExamples.{its_own_is_right, its_page_is_read, page_0_is_not_wrong, page_0_is_wrong, xyz_is_read, zeros, zeros_are_wrong}
use Rattle.page_digests.proofs.SealExamples.{a_range_is_verified, abc, it_has_no_twin, it_is_abc, it_is_its_seal, its_digest, its_seal, xyz}

-- ---- opening

-- the top was read
abbrev pub opened : PagedState
opened = record {
  seal = its_seal;
  page_size = 32;
  cached = None;
  cached_list = None;
  reads = [];
  list_reads = gave 32 its_digest ∷ [];
}

-- and the list, and the page
abbrev pub read : PagedState
read = record {
  seal = its_seal;
  page_size = 32;
  cached = Some 0;
  cached_list = Some 0;
  reads = gave 0 abc ∷ [];
  list_reads = gave 32 its_digest ∷ gave 0 its_digest ∷ [];
}

-- another page was read
abbrev pub damaged : PagedState
damaged = record read { cached = None; reads = gave 0 xyz ∷ [] }

-- another list was read
abbrev pub list_damaged : PagedState
list_damaged = record opened { list_reads = gave 32 its_digest ∷ gave 0 zeros ∷ [] }

-- the page was refused
abbrev pub page_refused : PagedState
page_refused = record read { cached = None; reads = refused 0 3 ∷ [] }

pub it_is_opened : IsOpenedContent first 32 its_seal [] [] opened
it_is_opened = record {
  seal = refl;
  page_size = refl;
  cached = refl;
  cached_list = refl;
  reads = refl;
  top = (its_digest, refl, λ content is. inl (ap (top_of first 32) (sym (it_is_abc content is))));
}

pub without_the_top : IsOpenedContent first 32 its_seal [] [] (record opened { list_reads = [] }) → ⊥
without_the_top is = by_case is.top
  where
    by_case : ((top : List ℕ) × ([] ≡ [] ++ gave 32 top ∷ []) × IsVerified first 32 its_seal (top_of first 32) top) → ⊥
    by_case (top, same, verified) = omega (arith, ap length same)

-- by a top that wasn't compared
pub by_zeros : IsOpenedContent first 32 its_seal [] [] (record opened { list_reads = gave 32 zeros ∷ [] }) → ⊥
by_zeros is = by_case is.top
  where
    differs : (zeros ≡ its_digest) ⊎ HasSecondPreimage first 32 abc → ⊥
    differs (inl same) = omega (arith, ap (λ (l : List ℕ). get_or l 0 0) same)
    differs (inr twin) = it_has_no_twin twin

    by_case : ((top : List ℕ) × (gave 32 zeros ∷ [] ≡ [] ++ gave 32 top ∷ []) × IsVerified first 32 its_seal (top_of first 32) top) → ⊥
    by_case (top, same, verified) =
        let given : zeros ≡ top = same_Some zeros top (ap (λ (r : SourceRead). r.given) (same_from_push [] [] (gave 32 zeros) (gave 32 top) same).1) in
        differs (subst (λ (t : List ℕ). (t ≡ its_digest) ⊎ HasSecondPreimage first 32 abc) (sym given) (verified abc it_is_its_seal))

-- nothing is held of a content that is just begun
pub it_is_unread : unread 32 its_seal [] (gave 32 its_digest ∷ []) ≡ opened
it_is_unread = refl

-- one of which a page is held isn't
pub a_page_is_held : unread 32 its_seal read.reads read.list_reads ≡ read → ⊥
a_page_is_held same = cc (ap (λ (s : PagedState). s.cached) same)

-- ---- a page

pub more_is_read : IsSameContent opened read
more_is_read = record {
  seal = refl;
  page_size = refl;
  reads = (gave 0 abc ∷ [], refl);
  list_reads = (gave 0 its_digest ∷ [], refl);
}

-- reads aren't taken back
pub less_is_read : IsSameContent read opened → ⊥
less_is_read is = by_case is.reads
  where
    by_case : ((more : List SourceRead) × ([] ≡ gave 0 abc ∷ more)) → ⊥
    by_case (more, same) = omega (arith, ap length same)

last_is : (old front : List SourceRead) (x y : SourceRead) → EndsWithRead old (front ++ x ∷ []) y → x ≡ y
last_is old front x y (more, same) = (same_from_push front (old ++ more) x y same).1

-- its list's page was given as it was
pub its_list_was_right : DigestFails first 32 its_seal 0 opened.list_reads read.list_reads Damaged → ⊥
its_list_was_right (j, touched, (bytes, last, len, wrong)) =
    let at : j ≡ 0 = omega (arith, touched.0) in
    let given : its_digest ≡ bytes = same_Some its_digest bytes (ap (λ (r : SourceRead). r.given) (last_is opened.list_reads opened.list_reads (gave 0 its_digest) (gave (j * 32) bytes) last)) in
    its_own_is_right (λ content. content_page 32 0 (list_of first 32 content)) refl
    (subst (λ (k : ℕ). IsWrong first 32 its_seal (λ content. content_page 32 k (list_of first 32 content)) its_digest) at
    (subst (IsWrong first 32 its_seal (λ content. content_page 32 j (list_of first 32 content))) (sym given) wrong))

pub its_list_is_wrong : DigestFails first 32 its_seal 0 opened.list_reads list_damaged.list_reads Damaged
its_list_is_wrong =
    (0, (lit< tt, lit< tt), (zeros, ([], refl), refl, zeros_are_wrong (λ content. content_page 32 0 (list_of first 32 content)) refl))

pub its_page_is_wrong : PageFails first 0 opened damaged Damaged
its_page_is_wrong = inl page_0_is_wrong

pub or_its_list_is : PageFails first 0 opened list_damaged Damaged
or_its_list_is = inr its_list_is_wrong

pub but_both_are_right : PageFails first 0 opened read Damaged → ⊥
but_both_are_right (inl wrong) = page_0_is_not_wrong wrong
but_both_are_right (inr fails) = its_list_was_right fails

pub its_page_is_refused : (e : IoError) → PageFails first 0 opened page_refused (System e)
its_page_is_refused e = inl ([], refl)

pub neither_was_refused : (e : IoError) → PageFails first 0 opened damaged (System e) → ⊥
neither_was_refused e (inl last) = cc (ap (λ (r : SourceRead). r.given) (last_is [] [] (gave 0 xyz) (refused 0 3) last))
neither_was_refused e (inr (j, touched, last)) =
    cc (ap (λ (r : SourceRead). r.given) (last_is opened.list_reads opened.list_reads (gave 0 its_digest) (refused (j * 32) _) last))

-- the list was read over its first 32 bytes
pub on_over_its_digest : (result : Result Bool Error) → ReadsDigestOn 32 0 opened.list_reads read.list_reads None (Some 0) result
on_over_its_digest result zero zero base begin is =
    (omega (arith, is.calls), on_any result (IsReadOn 32 0 32 base 2 (Some 0)) (record { calls = omega (arith, is.calls); last = λ more. refl }))
on_over_its_digest result zero (suc len) base begin is = absurd (omega (arith, begin))
on_over_its_digest result (suc from) len base begin is = absurd (omega (arith, begin))

pub its_page_is_as_it_was : SoundAnswers first 0 opened read (Ok true)
its_page_is_as_it_was = (refl, its_page_is_read)

pub it_is_sound : SoundGoes first 0 opened read (Ok true)
it_is_sound = record {
  same = more_is_read;
  calls = lit≤ tt;
  list_calls = on_over_its_digest (Ok true);
  answers = its_page_is_as_it_was;
}

pub it_is_not_sound : SoundGoes first 0 opened damaged (Ok false)
it_is_not_sound = record {
  same = record { seal = refl; page_size = refl; reads = (gave 0 xyz ∷ [], refl); list_reads = (gave 0 its_digest ∷ [], refl) };
  calls = lit≤ tt;
  list_calls = on_over_its_digest (Ok false);
  answers = page_0_is_wrong;
}

pub told_sound : SoundAnswers first 0 opened damaged (Ok true) → ⊥
told_sound (cached, verified) = cc cached

-- though it's held
pub told_sound_and_held : SoundAnswers first 0 opened (record damaged { cached = Some 0 }) (Ok true) → ⊥
told_sound_and_held (cached, verified) = xyz_is_read verified

pub told_wrong : SoundAnswers first 0 opened read (Ok false) → ⊥
told_wrong wrong = page_0_is_not_wrong wrong

-- that the page is wrong is no error
pub told_as_an_error : SoundAnswers first 0 opened damaged (Err Damaged) → ⊥
told_as_an_error fails = its_list_was_right fails

pub read_twice : (result : Result Bool Error) → SoundGoes first 0 opened (record read { reads = gave 0 abc ∷ gave 0 abc ∷ [] }) result → ⊥
read_twice result is = omega (arith, is.calls)

-- ---- a range

pub it_is_in_the_held_page : IsInCached 1 2 read
it_is_in_the_held_page = record { page = 0; cached = refl; begins = lit≤ tt; ends = lit≤ tt }

pub no_page_is_held : IsInCached 1 2 opened → ⊥
no_page_is_held is = cc is.cached

pub beyond_the_held_page : IsInCached 1 32 read → ⊥
beyond_the_held_page is = omega (arith, is.ends, same_Some 0 is.page is.cached)

pub one_page_is_asked_for : RangeAsks 1 2 opened read
one_page_is_asked_for = record { calls = lit≤ tt; list_calls = lit≤ tt; cached = λ is. absurd (no_page_is_held is) }

pub nothing_is_asked_for : RangeAsks 1 2 read read
nothing_is_asked_for = record { calls = lit≤ tt; list_calls = lit≤ tt; cached = λ is. refl }

-- the page that is held is asked for again
abbrev pub read_again : PagedState
read_again = record read { reads = gave 0 abc ∷ gave 0 abc ∷ [] }

pub it_was_held : RangeAsks 1 2 read read_again → ⊥
it_was_held asks = omega (arith, ap (λ (s : PagedState). length s.reads) (asks.cached it_is_in_the_held_page))

pub it_has_one_page : RangeAsks 1 2 opened read_again → ⊥
it_has_one_page asks = omega (arith, asks.calls)

pub its_page_is_held : HoldsLast 1 2 read
its_page_is_held some = refl

pub its_page_is_not_held : HoldsLast 1 2 opened → ⊥
its_page_is_not_held holds = cc (holds (lit< tt))

-- a range of no byte has no page
pub no_byte_of_it : HoldsLast 1 0 opened
no_byte_of_it some = absurd (omega (arith, some))

pub a_touched_page_is_wrong : RangeFails first 1 2 opened damaged Damaged
a_touched_page_is_wrong = (0, (lit< tt, lit< tt), its_page_is_wrong)

pub no_touched_page_is_wrong : RangeFails first 1 2 opened read Damaged → ⊥
no_touched_page_is_wrong (i, touched, fails) =
    let at : i ≡ 0 = omega (arith, touched.0) in but_both_are_right (subst (λ (k : ℕ). PageFails first k opened read Damaged) at fails)

pub no_page_was_refused : (e : IoError) → RangeFails first 1 2 opened damaged (System e) → ⊥
no_page_was_refused e (i, touched, fails) =
    let at : i ≡ 0 = omega (arith, touched.0) in neither_was_refused e (subst (λ (k : ℕ). PageFails first k opened damaged (System e)) at fails)

-- other bytes than these aren't verified
other_bytes : (bytes : List ℕ) → (bytes ≡ codes "bc" → ⊥) → IsVerified first 32 its_seal (range_at 1 2) bytes → ⊥
other_bytes bytes differ verified = by_case (verified abc it_is_its_seal)
  where
    by_case : (bytes ≡ codes "bc") ⊎ HasSecondPreimage first 32 abc → ⊥
    by_case (inl same) = differ same
    by_case (inr twin) = it_has_no_twin twin

pub two_bytes_of_it : (bytes : Vec ℕ Global) → bytes.items ≡ codes "bc" → PagedReadGoes first 1 2 opened read (Ok bytes)
two_bytes_of_it bytes is = record {
  same = more_is_read;
  asks = one_page_is_asked_for;
  answers = (its_page_is_held, subst (IsVerified first 32 its_seal (range_at 1 2)) (sym is) a_range_is_verified);
}

pub two_others : (bytes : Vec ℕ Global) → bytes.items ≡ codes "ab" → ReadAnswers first 1 2 opened read (Ok bytes) → ⊥
two_others bytes is (holds, verified) =
    other_bytes bytes.items (λ same. omega (arith, ap (λ (l : List ℕ). get_or l 0 0) (sym is ∙ same))) verified

pub a_byte_is_missing : (bytes : Vec ℕ Global) → bytes.items ≡ codes "b" → ReadAnswers first 1 2 opened read (Ok bytes) → ⊥
a_byte_is_missing bytes is (holds, verified) = other_bytes bytes.items (λ same. omega (arith, ap length (sym is ∙ same))) verified

pub two_bytes_by_two_reads : (bytes : Vec ℕ Global) → PagedReadGoes first 1 2 opened read_again (Ok bytes) → ⊥
two_bytes_by_two_reads bytes is = it_has_one_page is.asks

pub its_error : ReadAnswers first 1 2 opened damaged (Err Damaged)
its_error = a_touched_page_is_wrong

-- ---- into a buffer

pub they_are_appended : AppendsRange first 32 its_seal 1 2 (codes "xy") (codes "xybc")
they_are_appended = (codes "bc", refl, a_range_is_verified)

-- what stood in the buffer stays there
pub they_replace_it : AppendsRange first 32 its_seal 1 2 (codes "xy") (codes "bc") → ⊥
they_replace_it (range, same, verified) = omega (arith, ap (λ (l : List ℕ). get_or l 0 0) same)

pub two_others_are_appended : AppendsRange first 32 its_seal 1 2 (codes "xy") (codes "xyab") → ⊥
two_others_are_appended (range, same, verified) =
    other_bytes range (λ its. omega (arith, ap (λ (l : List ℕ). get_or l 2 0) (same ∙ ap (λ (l : List ℕ). codes "xy" ++ l) its))) verified

pub two_bytes_more : PagedReadIntoGoes first 1 2 opened read (codes "xy") (codes "xybc") (Ok tt)
two_bytes_more = record { same = more_is_read; asks = one_page_is_asked_for; answers = (its_page_is_held, they_are_appended) }

pub two_bytes_more_by_two_reads : PagedReadIntoGoes first 1 2 opened read_again (codes "xy") (codes "xybc") (Ok tt) → ⊥
two_bytes_more_by_two_reads is = it_has_one_page is.asks

pub nothing_more : ReadIntoAnswers first 1 2 opened damaged (codes "xy") (codes "xy") (Err Damaged)
nothing_more = (refl, a_touched_page_is_wrong)

-- after an error the buffer is as it was
pub a_part_more : ReadIntoAnswers first 1 2 opened damaged (codes "xy") (codes "xyb") (Err Damaged) → ⊥
a_part_more (same, fails) = omega (arith, ap length same)

-- ---- the page that is held

pub its_end_is_held : HoldsFrom first 1 read (codes "bc")
its_end_is_held = record {
  verified = λ content is. inl (ap (range_at 1 2) (sym (it_is_abc content is)));
  cached = λ some. record { page = 0; cached = refl; begins = lit≤ tt; ends = lit≤ tt };
  all = λ page held begins ends. subst (λ (k : ℕ). 1 + 2 ≡ min (k * 32 + 32) 3) (same_Some 0 page held) refl;
}

-- nothing, though its end is held
pub its_end_is_left_out : HoldsFrom first 1 read [] → ⊥
its_end_is_left_out holds = omega (arith, holds.all 0 refl (lit≤ tt) (lit< tt))

-- the page from its begin on
pub its_begin_is_held : HoldsFrom first 1 read abc → ⊥
its_begin_is_held holds = omega (arith, holds.all 0 refl (lit≤ tt) (lit< tt))

-- as many other bytes
pub others_are_held : HoldsFrom first 1 read (codes "xy") → ⊥
others_are_held holds = differs (holds.verified abc it_is_its_seal)
  where
    differs : (codes "xy" ≡ range_at 1 2 abc) ⊎ HasSecondPreimage first 32 abc → ⊥
    differs (inl same) = omega (arith, ap (λ (l : List ℕ). get_or l 0 0) same)
    differs (inr twin) = it_has_no_twin twin

-- nothing is held before a page is read
pub it_is_held_unread : HoldsFrom first 0 opened abc → ⊥
it_is_held_unread holds = cc (holds.cached (lit< tt)).cached
