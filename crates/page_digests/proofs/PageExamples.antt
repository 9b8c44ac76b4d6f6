-- Pages and levels of a few bytes, by two digests that can be seen through: `first` is the first 32
-- bytes, filled up with zeros, and `flat` is the same for all strings.
use Rattle.std.proofs.Common.{◌≡◌, ◌++◌, [], ℕ, List, length, take, drop, replicate, get_or, refl, ap, arith}
use Rattle.std.proofs.Common.{length-append}
use Rattle.std.specs.Prelude.{codes}
use Rattle.std.proofs.lemmas.List.{length-take-le}
use Rattle.page_digests.specs.Pages.{digests, list_len, list_of, content_page, pages_of_len, page_len, range_at, root_of, top_len, top_of}

abbrev pub first : List ℕ → List ℕ
first bytes = take 32 (bytes ++ replicate 32 0)

abbrev pub flat : List ℕ → List ℕ
flat bytes = replicate 32 0

pub sized_first : (bytes : List ℕ) → length (first bytes) ≡ 32
sized_first bytes =
    let both = length-append bytes (replicate 32 0) in length-take-le 32 (bytes ++ replicate 32 0) (omega (arith, both))

pub sized_flat : (bytes : List ℕ) → length (flat bytes) ≡ 32
sized_flat bytes = refl

-- ---- pages of four bytes

pub its_second_page : content_page 4 1 (codes "abcdefghij") ≡ codes "efgh"
its_second_page = refl

-- the last one is shorter
pub its_last_page : content_page 4 2 (codes "abcdefghij") ≡ codes "ij"
its_last_page = refl

pub no_page_after_it : content_page 4 3 (codes "abcdefghij") ≡ []
no_page_after_it = refl

pub over_two_pages : range_at 3 4 (codes "abcdefghij") ≡ codes "defg"
over_two_pages = refl

pub three_pages : pages_of_len 4 10 ≡ 3
three_pages = refl

pub not_two : pages_of_len 4 10 ≡ 2 → ⊥
not_two is = omega (arith, is)

pub a_whole_page : page_len 4 10 1 ≡ 4
a_whole_page = refl

pub two_bytes_are_left : page_len 4 10 2 ≡ 2
two_bytes_are_left = refl

pub not_a_whole_one : page_len 4 10 2 ≡ 4 → ⊥
not_a_whole_one is = omega (arith, is)

pub not_its_first_page : content_page 4 1 (codes "abcdefghij") ≡ codes "abcd" → ⊥
not_its_first_page is = omega (arith, ap (λ (l : List ℕ). get_or l 0 0) is)

pub not_up_to_a_page_s_end : range_at 3 4 (codes "abcdefghij") ≡ codes "d" → ⊥
not_up_to_a_page_s_end is = omega (arith, ap length is)

-- ---- levels

-- the digests of "abcd" and of "ef", joined
pub its_list : list_of first 4 (codes "abcdef") ≡ codes "abcd" ++ replicate 28 0 ++ codes "ef" ++ replicate 30 0
its_list = refl

-- the digest of the first page alone
pub not_both_yet : digests first 4 (codes "abcdef") 1 ≡ codes "abcd" ++ replicate 28 0
not_both_yet = refl

pub both_are_two : digests first 4 (codes "abcdef") 2 ≡ codes "abcd" ++ replicate 28 0 → ⊥
both_are_two is = omega (arith, ap length is)

pub a_list_of_no_page : list_of first 4 [] ≡ []
a_list_of_no_page = refl

-- two digests
pub its_length : list_len 4 6 ≡ 64
its_length = refl

pub not_one_digest : list_len 4 6 ≡ 32 → ⊥
not_one_digest is = omega (arith, is)

-- of a list of 64 bytes, in 16 pages
pub its_top_s_length : top_len 4 6 ≡ 512
its_top_s_length = refl

-- the list has more pages than the content
pub not_as_long_as_the_list : top_len 4 6 ≡ 64 → ⊥
not_as_long_as_the_list is = omega (arith, is)

-- the top isn't the list
pub not_its_list : top_of first 4 (codes "abcdef") ≡ list_of first 4 (codes "abcdef") → ⊥
not_its_list is = omega (arith, ap length is)

-- the first page of the list is "abcd", the next seven are zeros, and the ninth is "ef" and zeros
pub its_top : take 64 (top_of first 4 (codes "abcdef")) ≡ codes "abcd" ++ replicate 60 0
its_top = refl

pub the_top_s_middle : take 32 (drop 256 (top_of first 4 (codes "abcdef"))) ≡ codes "ef" ++ replicate 30 0
the_top_s_middle = refl

pub its_root : root_of first 4 (codes "abcdef") ≡ codes "abcd" ++ replicate 28 0
its_root = refl

-- it isn't the digest of the content
pub not_of_the_content : root_of first 4 (codes "abcdef") ≡ first (codes "abcdef") → ⊥
not_of_the_content is = omega (arith, ap (λ (l : List ℕ). get_or l 4 0) is)

-- and the list doesn't end before the last page's digest
pub not_of_one_page : list_of first 4 (codes "abcdef") ≡ first (codes "abcd") → ⊥
not_of_one_page is = omega (arith, ap length is)
