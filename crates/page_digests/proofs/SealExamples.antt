-- The seal of "abc" by pages of 32 bytes: one page, whose digest is the list. So the list, the top
-- and the root are the same 32 bytes.
use Rattle.std.proofs.Common.{◌≡◌, ◌≢◌, ◌⊎◌, ◌≤◌, ◌++◌, ◌∙◌, ◌∷◌, [], ℕ, zero, suc, List, length, take, replicate, get_or}
use Rattle.std.proofs.Common.{refl, ap, subst, sym, inl, inr, arith, lit<}
use Rattle.std.specs.Prelude.{codes}
use Rattle.std.proofs.lemmas.List.{take-take, take_at}
use Rattle.page_digests.specs.declared.levels.Levels.{Levels}
use Rattle.page_digests.specs.declared.seal.Seal.{Seal}
use Rattle.page_digests.specs.Pages.{list_of, content_page, range_at, top_len, top_of}
use Rattle.page_digests.specs.Seals.{AreLevelsOf, AreLevelsOver, EachIsByte, HasPagePreimage, HasSecondPreimage, IsSealOf, IsSecondPreimage, IsVerified, IsWrong, TellsApart}
use Rattle.page_digests.proofs.PageExamples.{first, flat, sized_first}
use Rattle.page_digests.proofs.Paging.{length-page_at}
use Rattle.page_digests.proofs.Bytes.{bytes_joined}
use Rattle.page_digests.proofs.Twins.{length-top_of, told_apart}

abbrev pub abc : List ℕ
abc = codes "abc"

abbrev pub xyz : List ℕ
xyz = codes "xyz"

-- the digest of "abc"
abbrev pub its_digest : List ℕ
its_digest = codes "abc" ++ replicate 29 0

abbrev pub its_seal : Seal
its_seal = record { len = 3; root = its_digest }

pub it_is_its_seal : IsSealOf first 32 abc its_seal
it_is_its_seal = record { len = refl; root = refl }

pub not_that_of_xyz : IsSealOf first 32 xyz its_seal → ⊥
not_that_of_xyz is = omega (arith, ap (λ (l : List ℕ). get_or l 0 0) is.root)

-- nor of a longer content
pub not_that_of_more : IsSealOf first 32 (codes "abcd") its_seal → ⊥
not_that_of_more is = omega (arith, is.len)

-- ---- second preimages

-- the letters are bytes
pub abc_is_bytes : EachIsByte abc
abc_is_bytes zero = lit< tt
abc_is_bytes (suc zero) = lit< tt
abc_is_bytes (suc (suc zero)) = lit< tt
abc_is_bytes (suc (suc (suc i))) = lit< tt

pub xyz_is_bytes : EachIsByte xyz
xyz_is_bytes zero = lit< tt
xyz_is_bytes (suc zero) = lit< tt
xyz_is_bytes (suc (suc zero)) = lit< tt
xyz_is_bytes (suc (suc (suc i))) = lit< tt

pub not_256 : EachIsByte (256 ∷ []) → ⊥
not_256 small = omega (arith, small 0)

pub a_twin : IsSecondPreimage flat xyz abc
a_twin = record { small = xyz_is_bytes; differ = λ same. omega (arith, ap (λ (l : List ℕ). get_or l 0 0) same); len = refl; digest = refl }

pub no_twin_of_itself : IsSecondPreimage flat abc abc → ⊥
no_twin_of_itself is = is.differ refl

-- numbers that are no bytes are none, whatever their digest is
pub no_twin_of_numbers : (bytes : List ℕ) → IsSecondPreimage flat (256 ∷ []) bytes → ⊥
no_twin_of_numbers bytes is = not_256 is.small

-- a string of another length is none
pub no_longer_twin : IsSecondPreimage flat (codes "abcd") abc → ⊥
no_longer_twin is = omega (arith, is.len)

pub a_page_twin : HasPagePreimage flat 32 abc
a_page_twin = (0, xyz, lit< tt, a_twin)

pub it_has_a_twin : HasSecondPreimage flat 32 abc
it_has_a_twin = inr (inr a_page_twin)

-- the first 32 bytes tell short strings of one length apart
front : (n : ℕ) (bytes : List ℕ) → length bytes ≡ n → n ≤ 32 → take n (first bytes) ≡ bytes
front n bytes len fits = take-take n 32 (bytes ++ replicate 32 0) fits ∙ take_at bytes (replicate 32 0) n len

pub no_short_twin : (other bytes : List ℕ) → length bytes ≤ 32 → IsSecondPreimage first other bytes → ⊥
no_short_twin other bytes fits is =
    is.differ (sym (front (length bytes) other is.len fits) ∙ ap (take (length bytes)) is.digest ∙ front (length bytes) bytes refl fits)

pub no_page_twin : (bytes : List ℕ) → HasPagePreimage first 32 bytes → ⊥
no_page_twin bytes (i, other, within, is) =
    let len = length-page_at 32 i bytes in no_short_twin other (content_page 32 i bytes) (omega (arith, len)) is

-- no content of three bytes has a twin
none_has_a_twin : (content : List ℕ) → length content ≡ 3 → HasSecondPreimage first 32 content → ⊥
none_has_a_twin content len (inl (other, is)) =
    let long = length-top_of first sized_first 32 content ∙ ap (top_len 32) len in
    no_short_twin other (top_of first 32 content) (omega (arith, long)) is
none_has_a_twin content len (inr (inl is)) = no_page_twin (list_of first 32 content) is
none_has_a_twin content len (inr (inr is)) = no_page_twin content is

pub it_has_no_twin : HasSecondPreimage first 32 abc → ⊥
it_has_no_twin = none_has_a_twin abc refl

-- ---- roots

pub its_digest_is_bytes : EachIsByte its_digest
its_digest_is_bytes = bytes_joined abc (replicate 29 0) abc_is_bytes (zeros 29)
  where
    zeros : (n : ℕ) → EachIsByte (replicate n 0)
    zeros zero i = lit< tt
    zeros (suc n) zero = lit< tt
    zeros (suc n) (suc i) = zeros n i

pub its_root_tells : TellsApart first 32 abc its_digest
its_root_tells = told_apart first sized_first 32 abc its_digest abc_is_bytes its_digest_is_bytes its_digest_is_bytes (lit< tt) refl

-- the root of another content doesn't
pub another_root : TellsApart first 32 abc (first xyz) → ⊥
another_root tells = by_case (tells xyz refl refl)
  where
    by_case : (xyz ≡ abc) ⊎ HasSecondPreimage first 32 xyz → ⊥
    by_case (inl same) = omega (arith, ap (λ (l : List ℕ). get_or l 0 0) same)
    by_case (inr twin) = none_has_a_twin xyz refl twin

pub its_levels : (l : Levels) → l.list.items ≡ its_digest → l.top.items ≡ its_digest → l.root ≡ its_digest → AreLevelsOf first 32 abc l
its_levels l list top root = record { bytes = (subst EachIsByte (sym list) its_digest_is_bytes, subst EachIsByte (sym top) its_digest_is_bytes); list = list; top = top; root = root }

pub levels_without_a_list : (l : Levels) → l.list.items ≡ [] → AreLevelsOf first 32 abc l → ⊥
levels_without_a_list l none is = omega (arith, ap length none, ap length is.list)

pub over_its_list : (l : Levels) → l.list.items ≡ its_digest → l.top.items ≡ its_digest → l.root ≡ its_digest → AreLevelsOver first 32 its_digest l
over_its_list l list top root = record { bytes = (subst EachIsByte (sym list) its_digest_is_bytes, subst EachIsByte (sym top) its_digest_is_bytes); list = list; top = top; root = root ∙ ap first (sym top) }

-- a root that is the digest of the content
pub another_root_over_it : (l : Levels) → l.top.items ≡ its_digest → l.root ≡ first xyz → AreLevelsOver first 32 its_digest l → ⊥
another_root_over_it l top root is = omega (arith, ap (λ (l : List ℕ). get_or l 0 0) (sym root ∙ is.root ∙ ap first top))

-- ---- what the seal proves

-- of all contents "abc" alone has this seal
pub it_is_abc : (content : List ℕ) → IsSealOf first 32 content its_seal → content ≡ abc
it_is_abc content is = by_case (its_root_tells content (sym is.len) (sym is.root))
  where
    by_case : (content ≡ abc) ⊎ HasSecondPreimage first 32 content → content ≡ abc
    by_case (inl same) = same
    by_case (inr twin) = absurd (none_has_a_twin content (sym is.len) twin)

pub its_page_is_verified : IsVerified first 32 its_seal (content_page 32 0) abc
its_page_is_verified content is = inl (ap (content_page 32 0) (sym (it_is_abc content is)))

pub a_range_is_verified : IsVerified first 32 its_seal (range_at 1 2) (codes "bc")
a_range_is_verified content is = inl (ap (range_at 1 2) (sym (it_is_abc content is)))

pub xyz_is_not_verified : IsVerified first 32 its_seal (content_page 32 0) xyz → ⊥
xyz_is_not_verified verified = by_case (verified abc it_is_its_seal)
  where
    by_case : (xyz ≡ abc) ⊎ HasSecondPreimage first 32 abc → ⊥
    by_case (inl same) = omega (arith, ap (λ (l : List ℕ). get_or l 0 0) same)
    by_case (inr twin) = it_has_no_twin twin

pub xyz_is_wrong : IsWrong first 32 its_seal (content_page 32 0) xyz
xyz_is_wrong content is =
    inl (λ same. omega (arith, ap (λ (l : List ℕ). get_or l 0 0) (same ∙ ap (λ (c : List ℕ). first (content_page 32 0 c)) (it_is_abc content is))))

pub abc_is_not_wrong : IsWrong first 32 its_seal (content_page 32 0) abc → ⊥
abc_is_not_wrong wrong = by_case (wrong abc it_is_its_seal)
  where
    by_case : (first abc ≢ first abc) ⊎ HasSecondPreimage first 32 abc → ⊥
    by_case (inl differ) = differ refl
    by_case (inr twin) = it_has_no_twin twin
