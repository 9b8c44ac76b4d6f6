-- "abcdef" comes by pages of four bytes: a whole page, and a rest of two bytes.
use Rattle.std.proofs.Common.{◌≡◌, ◌<◌, [], ℕ, zero, suc, List, length, get_or, refl, ap, arith, lit<, lit≤}
use Rattle.std.specs.Prelude.{codes, Ok, Err}
use Rattle.page_digests.specs.Growing.{CatchesUp, DigestingState, DigestsPage, DigestsPayloads, FinishesList, HoldsPayloads, IsDigested, TakesPage, payload_at}
use Rattle.page_digests.specs.Pages.{list_of, content_page}
use Rattle.page_digests.proofs.Growth.{digested_still, finished, page_taken}
use Rattle.page_digests.proofs.PageExamples.{first}
use Rattle.page_digests.proofs.Payloads.{payloads_begin, payloads_go_on}

abbrev pub none_yet : DigestingState
none_yet = record { pages = 0; list = [] }

abbrev pub after_a_page : DigestingState
after_a_page = record { pages = 1; list = first (codes "abcd") }

-- a page that is counted and has no digest
abbrev pub counted : DigestingState
counted = record { pages = 1; list = [] }

pub a_page_is_digested : IsDigested first 4 (codes "abcdef") after_a_page
a_page_is_digested = record { list = refl; within = lit≤ tt }

-- of a content that has no whole page
pub not_of_a_part : IsDigested first 4 (codes "abc") after_a_page → ⊥
not_of_a_part is = omega (arith, is.within)

-- more of the content doesn't change that
pub it_is_so_still : IsDigested first 4 (codes "abcdefghi") after_a_page
it_is_so_still = digested_still first 4 (codes "abcdef") (codes "ghi") after_a_page a_page_is_digested (lit≤ tt)

pub a_page_more : DigestsPage first (codes "abcd") none_yet after_a_page
a_page_more = page_taken first (codes "abcd") none_yet after_a_page refl refl

pub without_its_digest : DigestsPage first (codes "abcd") none_yet counted → ⊥
without_its_digest digests =
    let is = digests 4 (codes "abcd") (record { list = refl; within = lit≤ tt }) refl (lit≤ tt) in omega (arith, ap length is.list)

pub it_is_taken : TakesPage {E = ℕ} first (codes "abcd") none_yet after_a_page (Ok tt)
it_is_taken = (refl, a_page_more)

pub it_is_not_taken : TakesPage {E = ℕ} first (codes "abcd") none_yet none_yet (Err 0)
it_is_not_taken = refl

-- a page isn't counted that isn't taken
pub counted_all_the_same : TakesPage {E = ℕ} first (codes "abcd") none_yet counted (Err 0) → ⊥
counted_all_the_same same = omega (arith, ap (λ (s : DigestingState). s.pages) same)

pub its_end : FinishesList first (codes "ef") after_a_page (list_of first 4 (codes "abcdef"))
its_end = finished first (codes "ef") after_a_page (list_of first 4 (codes "abcdef")) refl

-- the last bytes have a digest too
pub without_its_end : FinishesList first (codes "ef") after_a_page (first (codes "abcd")) → ⊥
without_its_end is =
    let list : first (codes "abcd") ≡ list_of first 4 (codes "abcdef") = is 4 (codes "abcdef") a_page_is_digested refl (lit< tt) in omega (arith, ap length list)

-- ---- payloads

-- a blob of two pages, with twelve dots behind each payload
abbrev pub physical : List ℕ
physical = codes "abcd............efgh............"

pub the_second_payload : payload_at 4 1 physical ≡ codes "efgh"
the_second_payload = refl

pub not_behind_the_first : payload_at 4 1 physical ≡ codes "...." → ⊥
not_behind_the_first is = omega (arith, ap (λ (l : List ℕ). get_or l 0 0) is)

pub its_first_payload : HoldsPayloads 4 1 physical (codes "abcdef")
its_first_payload = record { long = lit≤ tt; pages = pages }
  where
    pages : (n : ℕ) → n < 1 → content_page 4 n (codes "abcdef") ≡ payload_at 4 n physical
    pages zero below = refl
    pages (suc n) below = absurd (omega (arith, below))

pub not_its_second : HoldsPayloads 4 2 physical (codes "abcdefXh") → ⊥
not_its_second is =
    let same : codes "efXh" ≡ codes "efgh" = is.pages 1 (lit< tt) in omega (arith, ap (λ (l : List ℕ). get_or l 2 0) same)

pub a_payload_more : DigestsPayloads first 4 1 physical none_yet after_a_page
a_payload_more =
    payloads_go_on first 4 1 0 physical (codes "abcd") none_yet none_yet after_a_page (lit< tt) refl refl (payloads_begin first 4 1 physical none_yet) refl a_page_more

-- no more pages than there are
pub too_many_payloads : DigestsPayloads first 4 1 physical none_yet (record { pages = 2; list = [] }) → ⊥
too_many_payloads is = omega (arith, is.not_past)

pub it_catches_up : CatchesUp {E = ℕ} first 4 1 physical none_yet after_a_page (Ok tt)
it_catches_up = (lit≤ tt, a_payload_more)

-- it isn't done before the last
pub it_lags_behind : CatchesUp {E = ℕ} first 4 1 physical none_yet none_yet (Ok tt) → ⊥
it_lags_behind is = omega (arith, is.0)

pub memory_is_refused : CatchesUp {E = ℕ} first 4 1 physical none_yet none_yet (Err 0)
memory_is_refused = payloads_begin first 4 1 physical none_yet
