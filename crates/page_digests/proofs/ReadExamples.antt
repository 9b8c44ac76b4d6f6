-- What was read of the files of "abc", which `SealExamples.antt` has. Pages have 32 bytes, so the
-- content, its list and the top have one page each; the top stands at byte 32 of the list's file.
use Rattle.std.proofs.Common.{◌≡◌, ◌≢◌, ◌⊎◌, ◌≤◌, ◌+◌, ◌*◌, ◌++◌, ◌∷◌, ◌∙◌, [], ℕ, zero, suc, List, length, replicate, get_or}
use Rattle.std.proofs.Common.{refl, ap, sym, subst, inl, inr, arith, lit<, lit≤, true, false}
use Rattle.std.specs.Prelude.{codes, Some, None, Ok, Err}
use Rattle.std.specs.declared.io.Error.{Error as IoError}
use Rattle.std.specs.declared.snapshot.Snapshot.{Snapshot}
use Rattle.std.proofs.lemmas.List.{length_push, same_from_push}
use Rattle.std.proofs.lemmas.Option.{same_Some}
use Rattle.page_digests.specs.declared.error.Error.TheVariants.{Damaged, OutOfMemory, System}
use Rattle.page_digests.specs.Pages.{list_of, content_page, top_of}
use Rattle.page_digests.specs.declared.past.Bytes.TheVariants as bytes
use Rattle.page_digests.specs.declared.past.LastRead.TheVariants as reads
use Rattle.page_digests.specs.Past.{listed_bytes, read_event, reads_of}
use Rattle.page_digests.specs.Reads.{DigestFails, IsReadOn, IsTouched, ListPageIsRefused, ListPageIsWrong, PageIsRefused, PageIsWrong, ReadsDigestOn, ReadsVerified, ReadsWrong}
use Rattle.page_digests.specs.Reads.{TopFails, TopIsRefused, TopIsWrong, page_offset, pages_touched}
use Rattle.page_digests.specs.Seals.{HasSecondPreimage, IsVerified, IsWrong}
use Rattle.page_digests.specs.Sources.{EndsWithRead, SourceRead, gave, read_outcome, refused}
use Rattle.page_digests.proofs.PageExamples.{first}
use Rattle.page_digests.proofs.SealExamples.{abc, abc_is_not_wrong, it_has_no_twin, it_is_abc, it_is_its_seal, its_digest, its_page_is_verified, its_seal, xyz, xyz_is_not_verified, xyz_is_wrong}

-- ---- events

pub it_gave_two_bytes : read_outcome {T = ℕ} {E = ℕ} 7 (codes "ab") (Ok 0) ≡ record { offset = 7; len = 2; given = Some (codes "ab") }
it_gave_two_bytes = refl

pub it_was_refused : read_outcome {T = ℕ} {E = ℕ} 7 (codes "ab") (Err 0) ≡ refused 7 2
it_was_refused = refl

pub not_given : gave 7 (codes "ab") ≡ refused 7 2 → ⊥
not_given same = cc (ap (λ (r : SourceRead). r.given) same)

pub as_it_went : read_event 7 (codes "ab") false ≡ gave 7 (codes "ab")
as_it_went = refl

pub as_it_failed : read_event 7 (codes "ab") true ≡ refused 7 2
as_it_failed = refl

-- a refused read gave nothing, whatever the buffer holds
pub nothing_of_it : read_event 7 (codes "ab") true ≡ gave 7 (codes "ab") → ⊥
nothing_of_it same = not_given (sym same)

-- a ghost past of one read
pub its_one_read : (before : Snapshot (Snapshot (List SourceRead))) (bytes : Snapshot (List ℕ)) → before.value.value ≡ [] → bytes.value ≡ codes "ab" → reads_of (reads.After before 7 bytes false) ≡ gave 7 (codes "ab") ∷ []
its_one_read before bytes none two = cc (none, two)

pub no_read_yet : reads_of reads.Nothing ≡ []
no_read_yet = refl

pub it_is_not_forgotten : (before : Snapshot (Snapshot (List SourceRead))) (bytes : Snapshot (List ℕ)) → before.value.value ≡ [] → reads_of (reads.After before 7 bytes false) ≡ [] → ⊥
it_is_not_forgotten before bytes none is = omega (arith, ap length is, length_push before.value.value (gave 7 bytes.value))

-- the bytes that it gave
pub its_bytes : (before : Snapshot (Snapshot (List ℕ))) → before.value.value ≡ codes "a" → listed_bytes (bytes.After before 98) ≡ codes "ab"
its_bytes before one = cc one

pub no_byte_yet : listed_bytes bytes.Nothing ≡ []
no_byte_yet = refl

pub the_second_was_last : EndsWithRead [] (gave 0 abc ∷ refused 9 1 ∷ []) (refused 9 1)
the_second_was_last = (gave 0 abc ∷ [], refl)

-- what was read last
last_is : (front more : List SourceRead) (x y : SourceRead) → front ++ x ∷ [] ≡ more ++ y ∷ [] → x ≡ y
last_is front more x y same = (same_from_push front more x y same).1

pub the_first_was_not : EndsWithRead [] (gave 0 abc ∷ refused 9 1 ∷ []) (gave 0 abc) → ⊥
the_first_was_not (more, same) = cc (ap (λ (r : SourceRead). r.given) (last_is (gave 0 abc ∷ []) ([] ++ more) (refused 9 1) (gave 0 abc) same))

-- ---- places

-- page 2 by pages of four bytes
pub behind_two_pages : page_offset 4 2 ≡ 32
behind_two_pages = refl

pub not_at_its_logical_place : page_offset 4 2 ≡ 8 → ⊥
not_at_its_logical_place is = omega (arith, is)

-- bytes 3 to 6
pub the_first_page_is_touched : IsTouched 4 3 4 0
the_first_page_is_touched = (lit< tt, lit< tt)

pub the_third_page_is_not : IsTouched 4 3 4 2 → ⊥
the_third_page_is_not is = omega (arith, is.0)

pub two_are_touched : pages_touched 4 3 4 ≡ 2
two_are_touched = refl

pub a_single_byte : pages_touched 4 3 1 ≡ 1
a_single_byte = refl

pub no_byte : pages_touched 4 3 0 ≡ 0
no_byte = refl

pub not_three : pages_touched 4 3 4 ≡ 3 → ⊥
not_three is = omega (arith, is)

-- ---- how much is read

-- six bytes by two reads, of which the second page is held
pub in_two_reads : IsReadOn 4 0 6 5 7 (Some 1)
in_two_reads = record { calls = lit≤ tt; last = λ more. refl }

pub not_in_three : IsReadOn 4 0 6 5 8 (Some 1) → ⊥
not_in_three is = omega (arith, is.calls)

pub and_not_held : IsReadOn 4 0 6 5 7 None → ⊥
and_not_held is = cc (is.last (lit< tt))

pub and_another_held : IsReadOn 4 0 6 5 7 (Some 0) → ⊥
and_another_held is = omega (arith, same_Some 0 1 (is.last (lit< tt)))

-- the digest of page 0 has 32 bytes, which are in eight pages of four
abbrev eight : List SourceRead
eight = replicate 8 (gave 0 abc)

pub in_eight_reads : ReadsDigestOn {T = ℕ} {E = ℕ} 4 0 [] eight None (Some 7) (Ok 0)
in_eight_reads zero zero base begin is = (omega arith, record { calls = omega arith; last = λ more. refl })
in_eight_reads zero (suc len) base begin is = absurd (omega (arith, begin))
in_eight_reads (suc from) len base begin is = absurd (omega (arith, begin))

pub not_in_nine : ReadsDigestOn {T = ℕ} {E = ℕ} 4 0 [] (gave 0 abc ∷ eight) None (Some 7) (Ok 0) → ⊥
not_in_nine on =
    let calls : 9 ≤ 0 + 8 = (on 0 0 0 refl (record { calls = lit≤ tt; last = λ more. absurd (omega (arith, more)) })).0 in omega (arith, calls)

-- ---- what the last read gave

abbrev gave_abc : List SourceRead
gave_abc = gave 0 abc ∷ []

abbrev gave_xyz : List SourceRead
gave_xyz = gave 0 xyz ∷ []

pub given_bytes : (offset : ℕ) (bytes other : List ℕ) (at : ℕ) → EndsWithRead [] (gave offset bytes ∷ []) (gave at other) → bytes ≡ other
given_bytes offset bytes other at (more, same) =
    same_Some bytes other (ap (λ (r : SourceRead). r.given) (last_is [] ([] ++ more) (gave offset bytes) (gave at other) same))

pub its_page_is_read : ReadsVerified first 32 its_seal (content_page 32 0) 0 [] gave_abc
its_page_is_read = (abc, ([], refl), its_page_is_verified)

pub xyz_is_read : ReadsVerified first 32 its_seal (content_page 32 0) 0 [] gave_xyz → ⊥
xyz_is_read (bytes, last, verified) =
    xyz_is_not_verified (subst (IsVerified first 32 its_seal (content_page 32 0)) (sym (given_bytes 0 xyz bytes 0 last)) verified)

pub another_page_is_read : ReadsWrong first 32 its_seal (content_page 32 0) 0 3 [] gave_xyz
another_page_is_read = (xyz, ([], refl), refl, xyz_is_wrong)

pub its_own_is_not_wrong : ReadsWrong first 32 its_seal (content_page 32 0) 0 3 [] gave_abc → ⊥
its_own_is_not_wrong (bytes, last, len, wrong) =
    abc_is_not_wrong (subst (IsWrong first 32 its_seal (content_page 32 0)) (sym (given_bytes 0 abc bytes 0 last)) wrong)

pub page_0_is_wrong : PageIsWrong first 32 its_seal 0 [] gave_xyz
page_0_is_wrong = another_page_is_read

pub page_0_is_not_wrong : PageIsWrong first 32 its_seal 0 [] gave_abc → ⊥
page_0_is_not_wrong = its_own_is_not_wrong

-- a page that wasn't read isn't wrong
pub unread_is_not_wrong : PageIsWrong first 32 its_seal 0 [] [] → ⊥
unread_is_not_wrong (bytes, (more, none), len, wrong) = omega (arith, ap length none, length_push ([] ++ more) (gave 0 bytes))

pub page_0_is_refused : PageIsRefused 32 its_seal 0 [] (refused 0 3 ∷ [])
page_0_is_refused = ([], refl)

-- the last page isn't asked for whole
pub not_a_whole_page : PageIsRefused 32 its_seal 0 [] (refused 0 32 ∷ []) → ⊥
not_a_whole_page (more, same) = omega (arith, ap (λ (r : SourceRead). r.len) (last_is [] ([] ++ more) (refused 0 32) (refused 0 3) same))

-- ---- the levels

abbrev pub zeros : List ℕ
zeros = replicate 32 0

-- 32 zeros are no part of the levels of "abc"
pub zeros_are_wrong : (of : List ℕ → List ℕ) → of abc ≡ its_digest → IsWrong first 32 its_seal of zeros
zeros_are_wrong of its content is =
    inl (λ same. omega (arith, ap (λ (l : List ℕ). get_or l 0 0) (same ∙ ap (λ (c : List ℕ). first (of c)) (it_is_abc content is) ∙ ap first its)))

pub its_own_is_right : (of : List ℕ → List ℕ) → of abc ≡ its_digest → IsWrong first 32 its_seal of its_digest → ⊥
its_own_is_right of its wrong = by_case (wrong abc it_is_its_seal)
  where
    by_case : (first its_digest ≢ first (of abc)) ⊎ HasSecondPreimage first 32 abc → ⊥
    by_case (inl differ) = differ (ap first (sym its))
    by_case (inr twin) = it_has_no_twin twin

pub the_top_is_wrong : TopIsWrong first 32 its_seal [] (gave 32 zeros ∷ [])
the_top_is_wrong = (zeros, ([], refl), refl, zeros_are_wrong (top_of first 32) refl)

pub the_top_is_right : TopIsWrong first 32 its_seal [] (gave 32 its_digest ∷ []) → ⊥
the_top_is_right (bytes, last, len, wrong) =
    its_own_is_right (top_of first 32) refl (subst (IsWrong first 32 its_seal (top_of first 32)) (sym (given_bytes 32 its_digest bytes 32 last)) wrong)

pub the_top_is_refused : TopIsRefused 32 its_seal [] (refused 32 32 ∷ [])
the_top_is_refused = ([], refl)

-- it doesn't stand before the list
pub the_top_at_the_front : TopIsRefused 32 its_seal [] (refused 0 32 ∷ []) → ⊥
the_top_at_the_front (more, same) = omega (arith, ap (λ (r : SourceRead). r.offset) (last_is [] ([] ++ more) (refused 0 32) (refused 32 32) same))

pub the_list_is_wrong : ListPageIsWrong first 32 its_seal 0 [] (gave 0 zeros ∷ [])
the_list_is_wrong = (zeros, ([], refl), refl, zeros_are_wrong (λ content. content_page 32 0 (list_of first 32 content)) refl)

pub the_list_is_right : ListPageIsWrong first 32 its_seal 0 [] (gave 0 its_digest ∷ []) → ⊥
the_list_is_right (bytes, last, len, wrong) =
    its_own_is_right (λ content. content_page 32 0 (list_of first 32 content)) refl
    (subst (IsWrong first 32 its_seal (λ content. content_page 32 0 (list_of first 32 content))) (sym (given_bytes 0 its_digest bytes 0 last)) wrong)

pub the_list_is_refused : ListPageIsRefused 32 its_seal 0 [] (refused 0 32 ∷ [])
the_list_is_refused = ([], refl)

pub the_list_as_the_top : ListPageIsRefused 32 its_seal 0 [] (refused 32 32 ∷ []) → ⊥
the_list_as_the_top (more, same) = omega (arith, ap (λ (r : SourceRead). r.offset) (last_is [] ([] ++ more) (refused 32 32) (refused 0 32) same))

-- ---- errors

pub a_wrong_top : TopFails first 32 its_seal [] (gave 32 zeros ∷ []) Damaged
a_wrong_top = the_top_is_wrong

pub a_right_top : TopFails first 32 its_seal [] (gave 32 its_digest ∷ []) Damaged → ⊥
a_right_top = the_top_is_right

-- the system refused nothing
pub a_top_that_was_read : (e : IoError) → TopFails first 32 its_seal [] (gave 32 zeros ∷ []) (System e) → ⊥
a_top_that_was_read e (more, same) = cc (ap (λ (r : SourceRead). r.given) (last_is [] ([] ++ more) (gave 32 zeros) (refused 32 32) same))

pub no_memory_for_the_top : TopFails first 32 its_seal [] [] OutOfMemory
no_memory_for_the_top = refl

pub a_wrong_digest : DigestFails first 32 its_seal 0 [] (gave 0 zeros ∷ []) Damaged
a_wrong_digest = (0, (lit< tt, lit< tt), the_list_is_wrong)

pub a_refused_digest : (e : IoError) → DigestFails first 32 its_seal 0 [] (refused 0 32 ∷ []) (System e)
a_refused_digest e = (0, (lit< tt, lit< tt), the_list_is_refused)

-- a page of the list that has no byte of the digest isn't why
pub of_another_page : DigestFails first 32 its_seal 0 [] (refused 32 0 ∷ []) Damaged → ⊥
of_another_page (j, touched, (bytes, (more, same), len, wrong)) =
    cc (ap (λ (r : SourceRead). r.given) (last_is [] ([] ++ more) (refused 32 0) (gave (j * 32) bytes) same))

pub a_digest_that_was_read : (e : IoError) → DigestFails first 32 its_seal 0 [] (gave 0 zeros ∷ []) (System e) → ⊥
a_digest_that_was_read e (j, touched, (more, same)) =
    cc (ap (λ (r : SourceRead). r.given) (last_is [] ([] ++ more) (gave 0 zeros) (refused (j * 32) _) same))
