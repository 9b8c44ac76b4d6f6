-- Bytes whose digest is known.
use Rattle.std.proofs.Common.{◌≡◌, ◌≢◌, ◌<◌, ◌*◌, ◌∙◌, ℕ, List, length, ap, sym, subst, inl, inr}
use Rattle.page_digests.specs.declared.seal.Seal.{Seal}
use Rattle.page_digests.specs.Pages.{digest_at, list_len, list_of, content_page, pages_of_len, page_len, top_len, top_of}
use Rattle.page_digests.specs.Seals.{EachIsByte, HasSecondPreimage, IsSealOf, IsSecondPreimage, IsVerified, IsWrong}
use Rattle.page_digests.proofs.Paging.{digest_at-digests, length-page_at, page_below}
use Rattle.page_digests.proofs.Twins.{judged, length-list_of, length-top_of}

-- bytes of the top's length that have the root as their digest are the top
pub top_verified : (d : List ℕ → List ℕ) → ((b : List ℕ) → length (d b) ≡ 32) → (P : ℕ) (seal : Seal) (top : List ℕ)
    → EachIsByte top → d top ≡ seal.root → length top ≡ top_len P seal.len → IsVerified d P seal (top_of d P) top
top_verified d sized P seal top small root len content of =
    elim (judged d top (top_of d P content) small (len ∙ ap (top_len P) of.len ∙ sym (length-top_of d sized P content)) (root ∙ of.root)) [
      | inl same ↦ inl same
      | inr twin ↦ inr (inl (top, twin))
    ]

-- digest i of the list of some bytes is that of their page i
pub digest_listed : (d : List ℕ → List ℕ) → ((b : List ℕ) → length (d b) ≡ 32) → (P i : ℕ) (bytes : List ℕ) → 0 < P → i * P < length bytes
    → digest_at i (list_of d P bytes) ≡ d (content_page P i bytes)
digest_listed d sized P i bytes positive within =
    digest_at-digests d sized P bytes (pages_of_len P (length bytes)) i (page_below P (length bytes) i positive within)

-- the top has the digest of each page of the list
pub digest_in_top : (d : List ℕ → List ℕ) → ((b : List ℕ) → length (d b) ≡ 32) → (P : ℕ) (seal : Seal) (top : List ℕ) (j : ℕ) → 0 < P → j * P < list_len P seal.len
    → IsVerified d P seal (top_of d P) top → IsVerified d P seal (λ content. d (content_page P j (list_of d P content))) (digest_at j top)
digest_in_top d sized P seal top j positive within verified content of =
    elim (verified content of) [
      | inr twin ↦ inr twin
      | inl same ↦
          let len : list_len P seal.len ≡ length (list_of d P content) = ap (list_len P) of.len ∙ sym (length-list_of d sized P content) in
          inl (ap (digest_at j) same ∙ digest_listed d sized P j (list_of d P content) positive (subst (λ (n : ℕ). j * P < n) len within))
    ]

-- bytes of a part's length that have its digest are the part
pub part_verified : (d : List ℕ → List ℕ) (P : ℕ) (seal : Seal) (of : List ℕ → List ℕ) (digest bytes : List ℕ)
    → EachIsByte bytes → ((content : List ℕ) → IsSealOf d P content seal → length bytes ≡ length (of content))
    → ((content : List ℕ) → IsSealOf d P content seal → (other : List ℕ) → IsSecondPreimage d other (of content) → HasSecondPreimage d P content)
    → IsVerified d P seal (λ content. d (of content)) digest → d bytes ≡ digest → IsVerified d P seal of bytes
part_verified d P seal of digest bytes small len twin verified same content is =
    elim (verified content is) [
      | inr other ↦ inr other
      | inl its ↦
          elim (judged d bytes (of content) small (len content is) (same ∙ its)) [
            | inl e ↦ inl e
            | inr other ↦ inr (twin content is bytes other)
          ]
    ]

-- bytes that have another digest are wrong
pub part_wrong : (d : List ℕ → List ℕ) (P : ℕ) (seal : Seal) (of : List ℕ → List ℕ) (digest bytes : List ℕ)
    → IsVerified d P seal (λ content. d (of content)) digest → d bytes ≢ digest → IsWrong d P seal of bytes
part_wrong d P seal of digest bytes verified differ content is =
    elim (verified content is) [
      | inr other ↦ inr other
      | inl its ↦ inl (λ same. differ (same ∙ sym its))
    ]

-- a page of the content
pub page_verified : (d : List ℕ → List ℕ) (P : ℕ) (seal : Seal) (digest bytes : List ℕ) (i : ℕ) → EachIsByte bytes → i * P < seal.len
    → length bytes ≡ page_len P seal.len i → IsVerified d P seal (λ content. d (content_page P i content)) digest → d bytes ≡ digest
    → IsVerified d P seal (content_page P i) bytes
page_verified d P seal digest bytes i small within len verified same =
    part_verified d P seal (content_page P i) digest bytes small
    (λ content is. len ∙ ap (λ (n : ℕ). page_len P n i) is.len ∙ sym (length-page_at P i content))
    (λ content is other twin. inr (inr (i, other, subst (λ (n : ℕ). i * P < n) is.len within, twin)))
    verified same
