-- A write among bytes that are long enough.
use Rattle.std.proofs.Common.{◌≡◌, ◌≤◌, ℕ, List, ◌++◌, ◌+◌, ◌-◌, length, take, drop, replicate, refl, sym, ap, ap₂, ◌∙◌, inl, inr, arith, [], append-nil, append_assoc, length-append, length-take}
use Rattle.std.proofs.Math.Seq.{take-append-add}
use Rattle.std.proofs.lemmas.Bool.{cases_lt}
use Rattle.std.proofs.lemmas.List.{take-append-drop, take_at, drop_at, drop-drop, take-append-le, take_all, take-replicate, drop_all, length-replicate}

-- the beginning of bytes with zeros after them
taken : (old : List ℕ) (offset zeros : ℕ) → offset - length old ≤ zeros → take offset (old ++ replicate zeros 0) ≡ take offset old ++ replicate (offset - length old) 0
taken old offset zeros enough =
    elim (cases_lt (length old) offset) [
      | inl past ↦
          let e : offset ≡ length old + (offset - length old) = omega arith in
          ap (λ n. take n (old ++ replicate zeros 0)) e ∙ take-append-add old (replicate zeros 0) (offset - length old)
          ∙ ap (λ v. old ++ v) (take-replicate (offset - length old) zeros 0 enough)
          ∙ ap (λ v. v ++ replicate (offset - length old) 0) (sym (take_all offset old (omega arith)))
      | inr within ↦
          let e : offset - length old ≡ 0 = omega arith in
          rw e (take-append-le offset old (replicate zeros 0) within ∙ sym (append-nil (take offset old)))
    ]

-- what follows the end of a write
dropped : (old : List ℕ) (end : ℕ) → drop end (old ++ replicate (end - length old) 0) ≡ drop end old
dropped old end =
    elim (cases_lt (length old) end) [
      | inl past ↦ drop_all end (old ++ replicate (end - length old) 0) (omega (arith, length-append old (replicate (end - length old) 0), length-replicate {A = ℕ} (end - length old) 0)) ∙ sym (drop_all end old (omega arith))
      | inr within ↦ let e : end - length old ≡ 0 = omega arith in rw e (ap (drop end) (append-nil old))
    ]

-- what follows the end of a write, where the old bytes have fewer zeros after them
dropped_far : (old : List ℕ) (zeros end : ℕ) → zeros ≤ end - length old → drop end (old ++ replicate zeros 0) ≡ drop end old
dropped_far old zeros end few =
    elim (cases_lt (length old) end) [
      | inl past ↦ drop_all end (old ++ replicate zeros 0) (omega (arith, length-append old (replicate zeros 0), length-replicate {A = ℕ} zeros 0)) ∙ sym (drop_all end old (omega arith))
      | inr within ↦ let e : zeros ≡ 0 = omega arith in rw e (ap (drop end) (append-nil old))
    ]

-- bytes with zeros up to the end of a write, and the write over them
pub written_over : (old new : List ℕ) (offset : ℕ) → take offset (old ++ replicate (offset + length new - length old) 0) ++ new ++ drop (offset + length new) (old ++ replicate (offset + length new - length old) 0) ≡ take offset old ++ replicate (offset - length old) 0 ++ new ++ drop (offset + length new) old
written_over old new offset =
    rw (taken old offset (offset + length new - length old) (omega arith), dropped old (offset + length new)) refl

-- bytes with zeros up to the offset of a write, and the write after them
pub written_after : (old new : List ℕ) (offset : ℕ) → take offset (old ++ replicate (offset - length old) 0) ++ new ++ drop (offset + length new) (old ++ replicate (offset - length old) 0) ≡ take offset old ++ replicate (offset - length old) 0 ++ new ++ drop (offset + length new) old
written_after old new offset =
    rw (taken old offset (offset - length old) (omega arith), dropped_far old (offset - length old) (offset + length new) (omega arith)) refl

-- bytes put at an offset among others, and more after them
pub put_more : (old so_far new : List ℕ) (offset at : ℕ) → at ≡ offset + length so_far → offset ≤ length old
    → take at (take offset old ++ so_far ++ drop at old) ++ new ++ drop (at + length new) (take offset old ++ so_far ++ drop at old) ≡ take offset old ++ (so_far ++ new) ++ drop (at + length new) old
put_more old so_far new offset at is fits =
    let front = take offset old ++ so_far in
    let rest = drop at old in
    let end = at + length new in
    let long : length front ≡ at = omega (arith, length-append (take offset old) so_far, length-take offset old) in
    let last : drop end (front ++ rest) ≡ drop end old =
    sym (drop-drop (length new) at (front ++ rest)) ∙ ap (drop (length new)) (drop_at front rest at long) ∙ drop-drop (length new) at old in
    ap₂ (λ a b. a ++ new ++ b) (take_at front rest at long) last ∙ ap (λ l. l ++ drop end old) (append_assoc (take offset old) so_far new)

-- the bytes reach at least as far as what was put
pub put_reaches : (old so_far : List ℕ) (offset at : ℕ) → at ≡ offset + length so_far → offset ≤ length old → at ≤ length (take offset old ++ so_far ++ drop at old)
put_reaches old so_far offset at is among =
    omega (arith, length-append (take offset old ++ so_far) (drop at old), length-append (take offset old) so_far, length-take offset old)

-- nothing put leaves all as it was
pub put_none : (old : List ℕ) (offset : ℕ) → take offset old ++ [] ++ drop offset old ≡ old
put_none old offset = ap (λ l. l ++ drop offset old) (append-nil (take offset old)) ∙ take-append-drop offset old
