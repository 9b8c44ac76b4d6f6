-- Payloads of a blob's pages, and pages of its content.
use Rattle.std.proofs.Common.{◌≡◌, ◌<◌, ◌≤◌, ◌*◌, ◌+◌, ◌∙◌, ℕ, suc, List, length, ap, sym, subst, arith}
use Rattle.std.proofs.Math.Nat.{mul-le-mul_right, suc-mul}
use Rattle.page_digests.specs.Growing.{DigestingState, DigestsPage, DigestsPayloads, payload_at}
use Rattle.page_digests.specs.Pages.{content_page}

-- a page below others is in the blob
pub payload_there : (P full n len : ℕ) → full * (P + 12) ≤ len → n < full → n * (P + 12) + P + 12 ≤ len
payload_there P full n len there below =
    let next : suc n ≤ full = omega arith in
    let more : suc n * (P + 12) ≤ full * (P + 12) = mul-le-mul_right (P + 12) next in
    let step : suc n * (P + 12) ≡ n * (P + 12) + (P + 12) = suc-mul n (P + 12) in
    omega arith

content_long : (P full n len : ℕ) → full * P ≤ len → n < full → n * P + P ≤ len
content_long P full n len there below =
    let next : suc n ≤ full = omega arith in
    let more : suc n * P ≤ full * P = mul-le-mul_right P next in
    let step : suc n * P ≡ n * P + P = suc-mul n P in
    omega arith

-- nothing is digested yet
pub payloads_begin : (d : List ℕ → List ℕ) (P full : ℕ) (physical : List ℕ) (s : DigestingState) → DigestsPayloads d P full physical s s
payloads_begin d P full physical s = record { further = omega arith; not_past = omega arith; digests = λ content holds is. is }

-- a payload more
pub payloads_go_on : (d : List ℕ → List ℕ) (P full n : ℕ) (physical page : List ℕ) (s t u : DigestingState) → n < full → t.pages ≡ n → page ≡ payload_at P n physical
    → DigestsPayloads d P full physical s t → u.pages ≡ t.pages + 1 → DigestsPage d page t u → DigestsPayloads d P full physical s u
payloads_go_on d P full n physical page s t u below count its before more takes = record {
  further = omega (arith, before.further);
  not_past = omega (arith, before.further);
  digests = λ content holds is.
      let here : page ≡ content_page P t.pages content = its ∙ sym (holds.pages n below) ∙ ap (λ (k : ℕ). content_page P k content) (sym count) in
      let long : t.pages * P + P ≤ length content = subst (λ (k : ℕ). k * P + P ≤ length content) (sym count) (content_long P full n (length content) holds.long below) in
      takes P content (before.digests content holds is) here long;
}
