-- Pages in a row, after one of them was written over.
use Rattle.std.proofs.Common.{◌≡◌, ◌≢◌, inl, inr, ◌∙◌, ℕ, suc, ◌+◌, ◌*◌, ◌<◌, ◌≤◌, List, ◌++◌, length, take, drop, sym, ap, arith, append_assoc, length-append, length-drop}
use Rattle.std.proofs.lemmas.List.{take-append-le, drop-append-le, take-append-drop, length-take-le}
use Rattle.std.proofs.lemmas.Slice.{drop-append-drop}
use Rattle.std.proofs.lemmas.Bool.{cases_order}
use Rattle.std.proofs.Math.Seq.{drop-append_seam, take-append_seam}
use Rattle.std.proofs.Math.Nat.{mul-le-mul_right}
use Rattle.cache.specs.CacheState.{put_at}
use Rattle.cache.specs.Slots.{page_of_slot}

-- bytes that lie in the front part
front_part : (P j : ℕ) (xs ys : List ℕ) → j + P ≤ length xs → take P (drop j (xs ++ ys)) ≡ take P (drop j xs)
front_part P j xs ys within =
    ap (λ (l : List ℕ). take P l) (drop-append-le j xs ys (omega (arith, within)))
    ∙ take-append-le P (drop j xs) ys (omega (arith, within, length-drop j xs))

module _ (P o : ℕ) (bytes buf : List ℕ) (size : length bytes ≡ P) (fits : o + P ≤ length buf) where
  front_long : length (take o buf) ≡ o
  front_long = length-take-le o buf (omega (arith, fits))

  both_long : length (take o buf ++ bytes) ≡ o + length bytes
  both_long = omega (arith, length-append (take o buf) bytes, front_long)

  pub put_here : take P (drop o (put_at o bytes buf)) ≡ bytes
  put_here =
      ap (λ (l : List ℕ). take P (drop o l)) (append_assoc (take o buf) bytes (drop (o + length bytes) buf))
      ∙ ap (λ (n : ℕ). take P (drop n (take o buf ++ (bytes ++ drop (o + length bytes) buf)))) (sym front_long)
      ∙ ap (λ (l : List ℕ). take P l) (drop-append_seam (take o buf) (bytes ++ drop (o + length bytes) buf))
      ∙ ap (λ (n : ℕ). take n (bytes ++ drop (o + length bytes) buf)) (sym size)
      ∙ take-append_seam bytes (drop (o + length bytes) buf)

  pub put_before : (j : ℕ) → j + P ≤ o → take P (drop j (put_at o bytes buf)) ≡ take P (drop j buf)
  put_before j before =
      ap (λ (l : List ℕ). take P (drop j l)) (append_assoc (take o buf) bytes (drop (o + length bytes) buf))
      ∙ front_part P j (take o buf) (bytes ++ drop (o + length bytes) buf) (omega (arith, before, front_long))
      ∙ sym (front_part P j (take o buf) (drop o buf) (omega (arith, before, front_long)))
      ∙ ap (λ (l : List ℕ). take P (drop j l)) (take-append-drop o buf)

  pub put_after : (j : ℕ) → o + P ≤ j → take P (drop j (put_at o bytes buf)) ≡ take P (drop j buf)
  put_after j after = ap (λ (l : List ℕ). take P l) (drop-append-drop (o + length bytes) buf (take o buf ++ bytes) j (omega (arith, after, size)) both_long)

  pub put_long : length (put_at o bytes buf) ≡ length buf
  put_long = omega (arith, length-append (take o buf ++ bytes) (drop (o + length bytes) buf), both_long, length-drop (o + length bytes) buf, size, fits)

-- the pages of the slots
module _ (P used slot : ℕ) (bytes buf : List ℕ) (size : length bytes ≡ P) (low : slot < used) (whole : length buf ≡ used * P) where
  fits_slot : slot * P + P ≤ length buf
  fits_slot =
      let most : suc slot * P ≤ used * P = mul-le-mul_right P (omega (arith, low)) in
      omega (arith, most, whole)

  pub page_written : page_of_slot P (put_at (slot * P) bytes buf) slot ≡ bytes
  page_written = put_here P (slot * P) bytes buf size fits_slot

  pub page_stays : (s : ℕ) → s ≢ slot → page_of_slot P (put_at (slot * P) bytes buf) s ≡ page_of_slot P buf s
  page_stays s other = elim (cases_order s slot) [
    | inl same ↦ absurd (other same)
    | inr (inl less) ↦ put_before P (slot * P) bytes buf size fits_slot (s * P) (let most : suc s * P ≤ slot * P = mul-le-mul_right P (omega (arith, less)) in omega (arith, most))
    | inr (inr more) ↦ put_after P (slot * P) bytes buf size fits_slot (s * P) (let most : suc slot * P ≤ s * P = mul-le-mul_right P (omega (arith, more)) in omega (arith, most))
  ]

  pub pages_long : length (put_at (slot * P) bytes buf) ≡ length buf
  pages_long = put_long P (slot * P) bytes buf size fits_slot
