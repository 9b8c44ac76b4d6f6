-- A content that comes page by page.
use Rattle.std.proofs.Common.{◌≡◌, ◌<◌, ◌≤◌, ◌*◌, ◌+◌, ◌-◌, ◌∙◌, ℕ, zero, suc, List, [], ◌∷◌, ◌++◌, length}
use Rattle.std.proofs.Common.{take, drop, ap, sym, refl, subst, arith}
use Rattle.std.specs.Int.{div_ceil}
use Rattle.std.proofs.lemmas.Grind.{div_ceil_times}
use Rattle.std.proofs.lemmas.List.{drop-append-le, length-drop, take-append-le, take_all}
use Rattle.std.proofs.Math.Nat.{lt_of_mul-lt-mul_right, suc-mul}
use Rattle.page_digests.specs.Growing.{DigestingState, DigestsPage, FinishesList, IsDigested, with_rest}
use Rattle.page_digests.specs.Pages.{digests, list_of, content_page}

-- a whole page stays as it is as the content grows
pub page-grown : (P : ℕ) (content more : List ℕ) (i : ℕ) → suc i * P ≤ length content → content_page P i (content ++ more) ≡ content_page P i content
page-grown P content more i within =
    let step : suc i * P ≡ i * P + P = suc-mul i P in
    let starts : i * P ≤ length content = omega arith in
    let rest : length (drop (i * P) content) ≡ length content - i * P = length-drop (i * P) content in
    let enough : P ≤ length (drop (i * P) content) = omega arith in
    ap (take P) (drop-append-le (i * P) content more starts) ∙ take-append-le P (drop (i * P) content) more enough

pub digests-grown : (d : List ℕ → List ℕ) (P : ℕ) (content more : List ℕ) (n : ℕ) → n * P ≤ length content → digests d P (content ++ more) n ≡ digests d P content n
digests-grown d P content more zero within = refl
digests-grown d P content more (suc n) within =
    let step : suc n * P ≡ n * P + P = suc-mul n P in
    let less : n * P ≤ length content = omega arith in
    ap (λ (l : List ℕ). l ++ d (content_page P n (content ++ more))) (digests-grown d P content more n less)
    ∙ ap (λ (p : List ℕ). digests d P content n ++ d p) (page-grown P content more n within)

-- what is digested stays digested as the content grows
pub digested_still : (d : List ℕ → List ℕ) (P : ℕ) (content more : List ℕ) (s : DigestingState) → IsDigested d P content s → length content ≤ length (content ++ more)
    → IsDigested d P (content ++ more) s
digested_still d P content more s is longer =
    let within : s.pages * P ≤ length content = is.within in
    record { list = is.list ∙ sym (digests-grown d P content more s.pages within); within = omega arith }

-- a page more
pub page_taken : (d : List ℕ → List ℕ) (page : List ℕ) (s t : DigestingState) → t.pages ≡ s.pages + 1 → t.list ≡ s.list ++ d page → DigestsPage d page s t
page_taken d page s t pages list P content is paged within =
    let step : suc s.pages * P ≡ s.pages * P + P = suc-mul s.pages P in
    let count : t.pages ≡ suc s.pages = omega arith in
    let fits : suc s.pages * P ≤ length content = omega arith in
    record {
      list = list ∙ ap (λ (l : List ℕ). l ++ d page) is.list ∙ ap (λ (p : List ℕ). digests d P content s.pages ++ d p) paged ∙ ap (digests d P content) (sym count);
      within = subst (λ (n : ℕ). n * P ≤ length content) (sym count) fits;
    }

-- how many pages: whole ones alone
pub count_whole : (P len n : ℕ) → 0 < P → len ≡ n * P → div_ceil len P ≡ n
count_whole P len n positive is =
    let both = div_ceil_times len P positive in
    let least : len ≤ div_ceil len P * P = both.0 in
    let most : div_ceil len P * P < len + P = both.1 in
    let step : suc n * P ≡ n * P + P = suc-mul n P in
    let above : suc (div_ceil len P) * P ≡ div_ceil len P * P + P = suc-mul (div_ceil len P) P in
    let low : n * P < suc (div_ceil len P) * P = omega arith in
    let high : div_ceil len P * P < suc n * P = omega arith in
    let a : n < suc (div_ceil len P) = lt_of_mul-lt-mul_right P low in
    let b : div_ceil len P < suc n = lt_of_mul-lt-mul_right P high in
    omega arith

-- and a last one that is shorter
pub count_part : (P len n : ℕ) → 0 < P → n * P < len → len < n * P + P → div_ceil len P ≡ suc n
count_part P len n positive more less =
    let both = div_ceil_times len P positive in
    let least : len ≤ div_ceil len P * P = both.0 in
    let most : div_ceil len P * P < len + P = both.1 in
    let step : suc n * P ≡ n * P + P = suc-mul n P in
    let next : suc (suc n) * P ≡ suc n * P + P = suc-mul (suc n) P in
    let low : n * P < div_ceil len P * P = omega arith in
    let high : div_ceil len P * P < suc (suc n) * P = omega arith in
    let a : n < div_ceil len P = lt_of_mul-lt-mul_right P low in
    let b : div_ceil len P < suc (suc n) = lt_of_mul-lt-mul_right P high in
    omega arith

whole_list : (d : List ℕ → List ℕ) (P : ℕ) (content : List ℕ) (n : ℕ) (rest : List ℕ) → n * P ≤ length content → rest ≡ drop (n * P) content → length rest < P
    → with_rest d (digests d P content n) rest ≡ list_of d P content
whole_list d P content n [] within is short =
    let len : length (drop (n * P) content) ≡ length content - n * P = length-drop (n * P) content in
    let none : 0 ≡ length (drop (n * P) content) = ap length is in
    let all : length content ≡ n * P = omega arith in
    ap (digests d P content) (sym (count_whole P (length content) n short all))
whole_list d P content n (b ∷ bs) within is short =
    let len : length (drop (n * P) content) ≡ length content - n * P = length-drop (n * P) content in
    let some : length (b ∷ bs) ≡ length (drop (n * P) content) = ap length is in
    let positive : 0 < P = omega arith in
    let more : n * P < length content = omega arith in
    let less : length content < n * P + P = omega arith in
    let fits : length (drop (n * P) content) ≤ P = omega arith in
    ap (λ (p : List ℕ). digests d P content n ++ d p) (is ∙ sym (take_all P (drop (n * P) content) fits))
    ∙ ap (digests d P content) (sym (count_part P (length content) n positive more less))

-- the end of a content
pub finished : (d : List ℕ → List ℕ) (rest : List ℕ) (s : DigestingState) (list : List ℕ) → list ≡ with_rest d s.list rest → FinishesList d rest s list
finished d rest s list lists P content is rests short =
    lists ∙ ap (λ (l : List ℕ). with_rest d l rest) is.list ∙ whole_list d P content s.pages rest is.within rests short

-- the digest of the last bytes is put behind, if there are any
pub rest_put : (d : List ℕ → List ℕ) (list rest new : List ℕ) → 0 < length rest → new ≡ list ++ d rest → new ≡ with_rest d list rest
rest_put d list [] new some is = absurd (omega arith)
rest_put d list (b ∷ bs) new some is = is

pub rest_none : (d : List ℕ → List ℕ) (list rest : List ℕ) → length rest ≡ 0 → list ≡ with_rest d list rest
rest_none d list [] none = refl
rest_none d list (b ∷ bs) none = absurd (omega arith)
