-- A range, piece by piece.
use Rattle.std.proofs.Common.{◌≡◌, ◌≤◌, ◌*◌, ◌+◌, ◌-◌, ◌∙◌, ℕ, List, [], ◌++◌, take, drop, ap, sym, subst}
use Rattle.std.proofs.Common.{inl, inr, arith}
use Rattle.std.proofs.lemmas.List.{drop-drop, drop-take, take-take}
use Rattle.std.proofs.Math.Seq.{take-add}
use Rattle.page_digests.specs.declared.seal.Seal.{Seal}
use Rattle.page_digests.specs.Pages.{content_page, range_at}
use Rattle.page_digests.specs.Seals.{IsVerified}

as_range : (bytes : List ℕ) (offset len : ℕ) → take len (drop offset bytes) ≡ range_at offset len bytes
as_range bytes offset len =
    let e : len ≡ offset + len - offset = omega arith in ap (λ (k : ℕ). take k (drop offset bytes)) e

-- a piece of a page is one of all the bytes
piece-page_at : (P : ℕ) (bytes : List ℕ) (i skip n : ℕ) → skip + n ≤ P → take n (drop skip (content_page P i bytes)) ≡ take n (drop (i * P + skip) bytes)
piece-page_at P bytes i skip n fits =
    let m : ℕ = P - skip in
    let whole : P ≡ skip + m = omega arith in
    let room : n ≤ m = omega arith in
    ap (λ (k : ℕ). take n (drop skip (take k (drop (i * P) bytes)))) whole
    ∙ ap (take n) (drop-take skip m (drop (i * P) bytes))
    ∙ take-take n m (drop skip (drop (i * P) bytes)) room
    ∙ ap (take n) (drop-drop skip (i * P) bytes)

-- a range and the piece behind it
range_more : (bytes : List ℕ) (offset done n : ℕ) → take done (drop offset bytes) ++ take n (drop (offset + done) bytes) ≡ take (done + n) (drop offset bytes)
range_more bytes offset done n =
    sym (take-add done n (drop offset bytes) ∙ ap (λ (l : List ℕ). take done (drop offset bytes) ++ take n l) (drop-drop done offset bytes))

pub joined : (P : ℕ) (bytes : List ℕ) (offset done n i skip : ℕ) (out page : List ℕ) → skip + n ≤ P → i * P + skip ≡ offset + done
    → out ≡ range_at offset done bytes → page ≡ content_page P i bytes → out ++ take n (drop skip page) ≡ range_at offset (done + n) bytes
joined P bytes offset done n i skip out page fits at outs is =
    let begin : out ≡ take done (drop offset bytes) = outs ∙ sym (as_range bytes offset done) in
    let piece : take n (drop skip page) ≡ take n (drop (offset + done) bytes) =
    ap (λ (p : List ℕ). take n (drop skip p)) is ∙ piece-page_at P bytes i skip n fits ∙ ap (λ (k : ℕ). take n (drop k bytes)) at in
    ap (λ (l : List ℕ). l ++ take n (drop skip page)) begin ∙ ap (λ (l : List ℕ). take done (drop offset bytes) ++ l) piece
    ∙ range_more bytes offset done n ∙ as_range bytes offset (done + n)

pub range_at-none : (bytes : List ℕ) (offset : ℕ) → [] ≡ range_at offset 0 bytes
range_at-none bytes offset = as_range bytes offset 0

-- no byte yet
pub none_verified : (d : List ℕ → List ℕ) (P : ℕ) (seal : Seal) (of : List ℕ → List ℕ) (offset : ℕ) → IsVerified d P seal (λ content. range_at offset 0 (of content)) []
none_verified d P seal of offset content is = inl (range_at-none (of content) offset)

-- a piece more, of a page that is verified
pub more_verified : (d : List ℕ → List ℕ) (P : ℕ) (seal : Seal) (of : List ℕ → List ℕ) (offset done n i skip : ℕ) (out page : List ℕ) → skip + n ≤ P → i * P + skip ≡ offset + done
    → IsVerified d P seal (λ content. range_at offset done (of content)) out → IsVerified d P seal (λ content. content_page P i (of content)) page
    → IsVerified d P seal (λ content. range_at offset (done + n) (of content)) (out ++ take n (drop skip page))
more_verified d P seal of offset done n i skip out page fits at outs pages content is =
    elim (outs content is) [
      | inr twin ↦ inr twin
      | inl begin ↦
          elim (pages content is) [
            | inr twin ↦ inr twin
            | inl its ↦ inl (joined P (of content) offset done n i skip out page fits at begin its)
          ]
    ]

-- a range and the one behind it
pub ranges_joined : (d : List ℕ → List ℕ) (P : ℕ) (seal : Seal) (offset done n : ℕ) (front back : List ℕ)
    → IsVerified d P seal (range_at offset done) front → IsVerified d P seal (range_at (offset + done) n) back → IsVerified d P seal (range_at offset (done + n)) (front ++ back)
ranges_joined d P seal offset done n front back fronts backs content is =
    elim (fronts content is) [
      | inr twin ↦ inr twin
      | inl one ↦
          elim (backs content is) [
            | inr twin ↦ inr twin
            | inl other ↦ inl (
                ap (λ (l : List ℕ). l ++ back) (one ∙ sym (as_range content offset done))
                ∙ ap (λ (l : List ℕ). take done (drop offset content) ++ l) (other ∙ sym (as_range content (offset + done) n))
                ∙ range_more content offset done n ∙ as_range content offset (done + n))
          ]
    ]

-- a piece of a page that is verified
pub piece_verified : (d : List ℕ → List ℕ) (P : ℕ) (seal : Seal) (at n i skip : ℕ) (page : List ℕ) → skip + n ≤ P → i * P + skip ≡ at
    → IsVerified d P seal (content_page P i) page → IsVerified d P seal (range_at at n) (take n (drop skip page))
piece_verified d P seal at n i skip page fits place pages =
    let here : i * P + skip ≡ at + 0 = omega arith in
    let all : 0 + n ≡ n = omega arith in
    subst (λ (k : ℕ). IsVerified d P seal (range_at at k) (take n (drop skip page))) all
    (more_verified d P seal (λ content. content) at 0 n i skip [] page fits here (none_verified d P seal (λ content. content) at) pages)
