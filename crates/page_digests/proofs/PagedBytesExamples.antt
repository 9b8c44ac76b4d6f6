-- "abc" from byte 5 of a file on, by pages of 32 bytes: so one page, whose digest is the top, which
-- stands at byte 8.
use Rattle.std.proofs.Common.{◌≡◌, ◌⊎◌, ◌≤◌, ◌+◌, ◌∷◌, ◌∙◌, [], ℕ, zero, suc, List, length, replicate, get_or}
use Rattle.std.proofs.Common.{refl, ap, sym, inl, inr, arith, length-append, lit<, lit≤}
use Rattle.std.specs.Prelude.{codes, Some, None, Ok}
use Rattle.std.proofs.lemmas.List.{take_all}
use Rattle.page_digests.specs.declared.error.Error.{Error}
use Rattle.page_digests.specs.declared.error.Error.TheVariants.{Damaged}
use Rattle.page_digests.specs.PagedBytes.{BytesAnswers, BytesGoes, BytesPageFails, BytesState, IsKnown, IsOpenedBytes, IsPagedBytes, IsPageOf, IsPageRefused, IsPageWrong, IsSameBytes, ReadsBytesOn, RootFails}
use Rattle.page_digests.specs.Pages.{content_page, digest_at, range_at}
use Rattle.page_digests.specs.Seals.{HasPagePreimage}
use Rattle.page_digests.specs.Sources.{gave, refused}
use Rattle.page_digests.proofs.BytesReads.{cached_known}
use Rattle.page_digests.proofs.PageExamples.{first, sized_first}
use Rattle.page_digests.proofs.ReadExamples.{given_bytes}
use Rattle.page_digests.proofs.SealExamples.{abc, abc_is_bytes, its_digest, its_digest_is_bytes, no_page_twin, xyz}

abbrev pub three_bytes : BytesState
three_bytes = record { start = 5; len = 3; page_size = 32; top = its_digest; cached = None; page = []; held = []; reads = [] }

abbrev pub three_read : BytesState
three_read = record { start = 5; len = 3; page_size = 32; top = its_digest; cached = Some 0; page = abc; held = []; reads = gave 5 abc ∷ [] }

pub the_only_digest : digest_at 0 its_digest ≡ its_digest
the_only_digest = refl

pub its_page : IsPageOf first three_bytes 0 abc
its_page = record { within = lit< tt; len = refl; are_bytes = abc_is_bytes; digest = refl }

pub not_its_page : IsPageOf first three_bytes 0 xyz → ⊥
not_its_page is = omega (arith, ap (λ (l : List ℕ). get_or l 0 0) is.digest)

pub they_are_known_by_it : IsPagedBytes first three_read
they_are_known_by_it = record { positive = lit< tt; small = lit< tt; fits = lit< tt; near = lit< tt; top = refl; page = record { within = lit< tt; len = refl; are_bytes = abc_is_bytes; digest = refl } }

-- 33 bytes have two pages
pub a_top_for_one_page : IsPagedBytes first (record three_bytes { len = 33 }) → ⊥
a_top_for_one_page is = let e : 32 ≡ 64 = is.top in omega arith

pub they_are_opened : IsOpenedBytes first 5 3 32 its_digest [] (record three_bytes { reads = gave 8 its_digest ∷ [] })
they_are_opened = record { start = refl; len = refl; page_size = refl; cached = refl; held = refl; reads = refl; top = refl; bytes = its_digest_is_bytes; root = refl }

-- the top is that of other bytes
pub another_top : IsOpenedBytes first 5 3 32 (first xyz) [] (record three_bytes { reads = gave 8 its_digest ∷ [] }) → ⊥
another_top is = omega (arith, ap (λ (l : List ℕ). get_or l 0 0) is.root)

pub its_root_fails : RootFails first 8 32 its_digest [] (gave 8 (replicate 32 0) ∷ []) Damaged
its_root_fails = (replicate 32 0, ([], refl), refl, λ same. omega (arith, ap (λ (l : List ℕ). get_or l 0 0) same))

-- though it is the digest
pub a_top_with_this_root : RootFails first 8 32 its_digest [] (gave 8 its_digest ∷ []) Damaged → ⊥
a_top_with_this_root (bytes, last, len, differ) = differ (ap first (sym (given_bytes 8 its_digest bytes 8 last)))

pub abc_is_known : IsKnown first 32 3 its_digest (content_page 32 0) abc
abc_is_known = cached_known first sized_first three_read 0 they_are_known_by_it refl

pub xbc_is_not_known : IsKnown first 32 3 its_digest (range_at 0 3) (codes "xbc") → ⊥
xbc_is_not_known is = by_case (is abc refl refl)
  where
    by_case : (codes "xbc" ≡ range_at 0 3 abc) ⊎ HasPagePreimage first 32 abc → ⊥
    by_case (inl same) = omega (arith, ap (λ (l : List ℕ). get_or l 0 0) same)
    by_case (inr twin) = no_page_twin abc twin

pub more_is_read : IsSameBytes three_bytes three_read
more_is_read = record { start = refl; len = refl; page_size = refl; top = refl; reads = (gave 5 abc ∷ [], refl) }

pub another_start : IsSameBytes three_bytes (record three_read { start = 6 }) → ⊥
another_start is = omega (arith, is.start)

pub its_page_is_wrong : IsPageWrong first three_bytes 0 [] (gave 5 xyz ∷ [])
its_page_is_wrong = (xyz, ([], refl), refl, λ same. omega (arith, ap (λ (l : List ℕ). get_or l 0 0) same))

pub a_right_page : IsPageWrong first three_bytes 0 [] (gave 5 abc ∷ []) → ⊥
a_right_page (bytes, last, len, differ) = differ (ap first (sym (given_bytes 5 abc bytes 5 last)))

pub its_page_is_refused : IsPageRefused three_bytes 0 [] (refused 5 3 ∷ [])
its_page_is_refused = ([], refl)

pub no_page_was_refused : IsPageRefused three_bytes 0 [] [] → ⊥
no_page_was_refused (more, is) = omega (arith, ap length is, length-append more (refused 5 3 ∷ []))

pub it_fails : BytesPageFails first three_bytes 0 [] (gave 5 xyz ∷ []) Damaged
it_fails = its_page_is_wrong

pub a_page_that_was_read : BytesPageFails first three_bytes 0 [] (gave 5 abc ∷ []) Damaged → ⊥
a_page_that_was_read = a_right_page

part_known : (at n : ℕ) → IsKnown first 32 3 its_digest (range_at at n) (range_at at n abc)
part_known at n all len listed = elim (abc_is_known all len listed) [
  | inl same ↦ inl (ap (range_at at n) (same ∙ take_all 32 all (omega (arith, len))))
  | inr twin ↦ inr twin
]

pub two_bytes : BytesAnswers first 1 three_bytes three_read (codes "bc") (Ok tt)
two_bytes = part_known 1 2

pub other_bytes : BytesAnswers first 0 three_bytes three_read (codes "xbc") (Ok tt) → ⊥
other_bytes = xbc_is_not_known

pub it_reads_on : ReadsBytesOn {T = Unit {0}} {E = Error} 0 3 three_bytes three_read (Ok tt)
it_reads_on zero zero base begin is = (omega arith, record { calls = omega arith; last = λ more. refl })
it_reads_on zero (suc len) base begin is = absurd (omega (arith, begin))
it_reads_on (suc from) len base begin is = absurd (omega (arith, begin))

-- a page is read twice
pub twice_the_page : ReadsBytesOn {T = ℕ} {E = ℕ} 0 3 three_bytes (record three_read { reads = gave 5 abc ∷ gave 5 abc ∷ [] }) (Ok 0) → ⊥
twice_the_page on =
    let calls : 2 ≤ 0 + 1 = (on 0 0 0 refl (record { calls = lit≤ tt; last = λ more. absurd (omega (arith, more)) })).0 in omega (arith, calls)

pub all_is_read : BytesGoes first 0 three_bytes three_read (codes "...") abc (Ok tt)
all_is_read = record { same = more_is_read; len = refl; reads_on = it_reads_on; answers = part_known 0 3 }

pub a_shorter_buffer : BytesGoes first 0 three_bytes three_read (codes "....") abc (Ok tt) → ⊥
a_shorter_buffer is = omega (arith, is.len)
