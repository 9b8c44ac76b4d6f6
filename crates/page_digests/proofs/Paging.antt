-- Pages of some bytes, and their digests.
use Rattle.std.proofs.Common.{◌≡◌, ◌<◌, ◌≤◌, ◌*◌, ◌+◌, ◌-◌, ◌/◌, ◌∙◌, ℕ, zero, suc, List, ◌++◌, length}
use Rattle.std.proofs.Common.{take, drop, min, ap, refl, subst, inl, inr, arith, length-append}
use Rattle.std.specs.Int.{div_ceil}
use Rattle.std.proofs.lemmas.Bool.{cases_lt}
use Rattle.std.proofs.lemmas.Grind.{div_ceil_times}
use Rattle.std.proofs.lemmas.List.{drop-append-le, drop_at, length-drop, length-take, take-append-le, take_all}
use Rattle.std.proofs.Math.Nat.{div-mul-le_self, lt_of_mul-lt-mul_right, mul-le-mul_left, mul-le-mul_right, suc-mul}
use Rattle.page_digests.specs.Pages.{digest_at, digests, content_page, page_len}

-- page i, one of as many as there are, begins within the bytes
pub page_within : (P len i : ℕ) → 0 < P → i < div_ceil len P → i * P < len
page_within P len i positive below =
    let top : div_ceil len P * P < len + P = (div_ceil_times len P positive).1 in
    let next : suc i ≤ div_ceil len P = omega arith in
    let more : suc i * P ≤ div_ceil len P * P = mul-le-mul_right P next in
    let step : suc i * P ≡ i * P + P = suc-mul i P in
    omega arith

-- a page that begins within the bytes is one of as many as there are
pub page_below : (P len i : ℕ) → 0 < P → i * P < len → i < div_ceil len P
page_below P len i positive within =
    let top : len ≤ div_ceil len P * P = (div_ceil_times len P positive).0 in
    let less : i * P < div_ceil len P * P = omega arith in
    lt_of_mul-lt-mul_right P less

-- the page of a byte is one of as many as there are
pub page_of_byte : (P len at : ℕ) → 0 < P → at < len → at / P < div_ceil len P
page_of_byte P len at positive below =
    let least : at / P * P ≤ at = div-mul-le_self at P in page_below P len (at / P) positive (omega arith)

-- there is at most a page for each byte
pub list_len_most : (len P : ℕ) → 0 < P → div_ceil len P * 32 ≤ len * 32
list_len_most len P positive =
    let top : div_ceil len P * P < len + P = (div_ceil_times len P positive).1 in
    let one : 1 ≤ P = omega arith in
    let step : suc len * P ≡ len * P + P = suc-mul len P in
    let all : len * 1 ≤ len * P = mul-le-mul_left len one in
    let less : div_ceil len P * P < suc len * P = omega arith in
    let few : div_ceil len P < suc len = lt_of_mul-lt-mul_right P less in
    omega arith

pub length-page_at : (P i : ℕ) (bytes : List ℕ) → length (content_page P i bytes) ≡ page_len P (length bytes) i
length-page_at P i bytes = length-take P (drop (i * P) bytes) ∙ ap (λ (n : ℕ). min P n) (length-drop (i * P) bytes)

pub length-digests : (d : List ℕ → List ℕ) → ((b : List ℕ) → length (d b) ≡ 32) → (P : ℕ) (bytes : List ℕ) (n : ℕ)
    → length (digests d P bytes n) ≡ n * 32
length-digests d sized P bytes zero = refl
length-digests d sized P bytes (suc n) =
    let front : length (digests d P bytes n) ≡ n * 32 = length-digests d sized P bytes n in
    let last : length (d (content_page P n bytes)) ≡ 32 = sized (content_page P n bytes) in
    length-append (digests d P bytes n) (d (content_page P n bytes)) ∙ omega arith

front_digest : (X Y : List ℕ) (i : ℕ) → i * 32 + 32 ≤ length X → digest_at i (X ++ Y) ≡ digest_at i X
front_digest X Y i fits =
    let starts : i * 32 ≤ length X = omega arith in
    let rest : length (drop (i * 32) X) ≡ length X - i * 32 = length-drop (i * 32) X in
    let enough : 32 ≤ length (drop (i * 32) X) = omega arith in
    ap (take 32) (drop-append-le (i * 32) X Y starts) ∙ take-append-le 32 (drop (i * 32) X) Y enough

last_digest : (X Y : List ℕ) (i : ℕ) → length X ≡ i * 32 → length Y ≡ 32 → digest_at i (X ++ Y) ≡ Y
last_digest X Y i front len =
    let fits : length Y ≤ 32 = omega arith in
    ap (take 32) (drop_at X Y (i * 32) front) ∙ take_all 32 Y fits

-- digest i of a list is that of page i
pub digest_at-digests : (d : List ℕ → List ℕ) → ((b : List ℕ) → length (d b) ≡ 32) → (P : ℕ) (bytes : List ℕ) (n i : ℕ) → i < n
    → digest_at i (digests d P bytes n) ≡ d (content_page P i bytes)
digest_at-digests d sized P bytes zero i below = absurd (omega arith)
digest_at-digests d sized P bytes (suc n) i below =
    let front : length (digests d P bytes n) ≡ n * 32 = length-digests d sized P bytes n in
    elim (cases_lt i n) [
      | inl less ↦
          let fits : i * 32 + 32 ≤ length (digests d P bytes n) = omega arith in
          front_digest (digests d P bytes n) (d (content_page P n bytes)) i fits ∙ digest_at-digests d sized P bytes n i less
      | inr more ↦
          let same : n ≡ i = omega arith in
          subst (λ (k : ℕ). digest_at k (digests d P bytes n ++ d (content_page P n bytes)) ≡ d (content_page P k bytes)) same
          (last_digest (digests d P bytes n) (d (content_page P n bytes)) n front (sized (content_page P n bytes)))
    ]
