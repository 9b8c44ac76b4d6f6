-- Levels that are built again.
use Rattle.std.proofs.Common.{◌≡◌, ◌<◌, ◌≤◌, ◌*◌, ◌+◌, ◌++◌, ◌∷◌, [], ◌∙◌, ℕ, zero, suc, List, length, take, min}
use Rattle.std.proofs.Common.{ap, refl, subst, sym, inl, inr, arith, add-one, append_assoc, length-append}
use Rattle.std.specs.Prelude.{Err}
use Rattle.std.proofs.lemmas.List.{drop_at, take_all}
use Rattle.std.proofs.Math.Nat.{suc-mul}
use Rattle.page_digests.specs.declared.error.Error.{Error}
use Rattle.page_digests.specs.declared.error.Error.TheVariants.{Damaged, OutOfMemory, System}
use Rattle.page_digests.specs.declared.seal.Seal.{Seal}
use Rattle.page_digests.specs.Pages.{digests, list_of, content_page, pages_of_len, page_len, root_of}
use Rattle.page_digests.specs.Reads.{page_offset}
use Rattle.page_digests.specs.Buffers.{FillsGoes}
use Rattle.page_digests.specs.Rebuilds.{GivesPages, ListReadGoes, page_reads}
use Rattle.page_digests.specs.Seals.{EachIsByte, IsVerified}
use Rattle.page_digests.specs.Sources.{SourceRead, gave, refused}
use Rattle.page_digests.proofs.Bytes.{bytes_joined}
use Rattle.page_digests.proofs.Growth.{digests-grown, page-grown}
use Rattle.page_digests.proofs.Paging.{page_within}
use Rattle.page_digests.proofs.Twins.{told_apart}

page_reads-grown : (P : ℕ) (bytes more : List ℕ) (n : ℕ) → n * P ≤ length bytes → page_reads P (bytes ++ more) n ≡ page_reads P bytes n
page_reads-grown P bytes more zero within = refl
page_reads-grown P bytes more (suc n) within =
    let step : suc n * P ≡ n * P + P = suc-mul n P in
    let less : n * P ≤ length bytes = omega arith in
    ap (λ (l : List SourceRead). l ++ gave (page_offset P n) (content_page P n (bytes ++ more)) ∷ []) (page_reads-grown P bytes more n less)
    ∙ ap (λ (p : List ℕ). page_reads P bytes n ++ gave (page_offset P n) p ∷ []) (page-grown P bytes more n within)

-- the last page of some bytes, after whole ones
last_page : (P : ℕ) (bytes page : List ℕ) (i : ℕ) → length bytes ≡ i * P → length page ≤ P → content_page P i (bytes ++ page) ≡ page
last_page P bytes page i len fits = ap (take P) (drop_at bytes page (i * P) len) ∙ take_all P page fits

-- a page more is read
pub pages_grow : (d : List ℕ → List ℕ) (P len : ℕ) (old mid new : List SourceRead) (i : ℕ) (bytes page list more : List ℕ) → 0 < P → i < pages_of_len P len → GivesPages P len old mid i bytes → EachIsByte page
    → list ≡ digests d P bytes i → new ≡ mid ++ gave (page_offset P i) page ∷ [] → length page ≡ page_len P len i → more ≡ list ++ d page
    → (all : List ℕ) × GivesPages P len old new (i + 1) all × (more ≡ digests d P all (i + 1))
pages_grow d P len old mid new i bytes page list more positive below gives small lists read long mores =
    (bytes ++ page, record { len = total; are_bytes = bytes_joined bytes page gives.are_bytes small; reads = reads }, listed)
  where
    within : i * P < len
    within = page_within P len i positive below

    whole : length bytes ≡ i * P
    whole = omega (arith, gives.len, within)

    starts : i * P ≤ length bytes
    starts = omega (arith, whole)

    here : content_page P i (bytes ++ page) ≡ page
    here = last_page P bytes page i whole (omega (arith, long))

    next : i + 1 ≡ suc i
    next = add-one i

    total : length (bytes ++ page) ≡ min ((i + 1) * P) len
    total =
        let step : suc i * P ≡ i * P + P = suc-mul i P in
        let both : length (bytes ++ page) ≡ length bytes + length page = length-append bytes page in
        let all : length (bytes ++ page) ≡ min (suc i * P) len = omega (arith, whole, long, within) in
        all ∙ ap (λ (k : ℕ). min (k * P) len) (sym next)

    reads : new ≡ old ++ page_reads P (bytes ++ page) (i + 1)
    reads =
        read ∙ ap (λ (l : List SourceRead). l ++ gave (page_offset P i) page ∷ []) gives.reads
        ∙ append_assoc old (page_reads P bytes i) (gave (page_offset P i) page ∷ [])
        ∙ ap (λ (l : List SourceRead). old ++ (l ++ gave (page_offset P i) page ∷ [])) (sym (page_reads-grown P bytes page i starts))
        ∙ ap (λ (p : List ℕ). old ++ (page_reads P (bytes ++ page) i ++ gave (page_offset P i) p ∷ [])) (sym here)
        ∙ ap (λ (k : ℕ). old ++ page_reads P (bytes ++ page) k) (sym next)

    listed : more ≡ digests d P (bytes ++ page) (i + 1)
    listed =
        mores ∙ ap (λ (l : List ℕ). l ++ d page) (lists ∙ sym (digests-grown d P bytes page i starts))
        ∙ ap (λ (p : List ℕ). digests d P (bytes ++ page) i ++ d p) (sym here)
        ∙ ap (digests d P (bytes ++ page)) (sym next)

-- a page can't be read
pub pages_end : (d : List ℕ → List ℕ) (P len n : ℕ) (old mid new : List SourceRead) (i : ℕ) (bytes page : List ℕ) (e : Error) → 0 < P → i < pages_of_len P len → GivesPages P len old mid i bytes
    → n ≡ page_len P len i → FillsGoes (page_offset P i) n mid new page (Err e) → ListReadGoes d P len old new (Err e)
pages_end d P len n old mid new i bytes page Damaged positive below gives count none = none
pages_end d P len n old mid new i bytes page (System x) positive below gives count read = (
  i,
  page_within P len i positive below,
  (
    page_reads P bytes i,
    read ∙ ap (λ (k : ℕ). mid ++ refused (page_offset P i) k ∷ []) count ∙ ap (λ (l : List SourceRead). l ++ refused (page_offset P i) (page_len P len i) ∷ []) gives.reads,
  ),
)
pages_end d P len n old mid new i bytes page OutOfMemory positive below gives count none = tt

-- the list of bytes that have the root that was kept is the content's
pub list_verified : (d : List ℕ → List ℕ) → ((b : List ℕ) → length (d b) ≡ 32) → (P : ℕ) (seal : Seal) (bytes list : List ℕ) → EachIsByte bytes → EachIsByte list → EachIsByte (list_of d P list)
    → 0 < P → length bytes ≡ seal.len → root_of d P bytes ≡ seal.root → list ≡ list_of d P bytes → IsVerified d P seal (list_of d P) list
list_verified d sized P seal bytes list small lists_small tops_small positive len root lists content of =
    elim (told_apart d sized P bytes seal.root small (subst EachIsByte lists lists_small) (subst (λ (l : List ℕ). EachIsByte (list_of d P l)) lists tops_small) positive (sym root) content
    (sym of.len ∙ sym len) (sym of.root)) [
      | inr twin ↦ inr twin
      | inl same ↦ inl (lists ∙ ap (list_of d P) (sym same))
    ]
