-- Flags taken one at a time.
use Rattle.std.proofs.Common.{◌≡◌, ◌≤◌, ◌<◌, ℕ, List, [], ◌∷◌, ◌++◌, ◌+◌, ◌-◌, length, min, take, drop, get_or, Bool, true, false, if◌then◌else◌, refl, sym, ap, ◌∙◌, arith, suc, ◌⊎◌, inl, inr, slice_get, Some, append-nil, append_assoc, subst}
use Rattle.std.proofs.lemmas.List.{drop_more, take_min, drop_min}
use Rattle.std.proofs.lemmas.Bool.{cases_lt}
use Rattle.std.proofs.lemmas.Option.{slice_get_within}
use Rattle.disk.specs.Torn.{torn_resize, torn, torn_write}
use Rattle.disk.specs.Disk.{Disk, IsImage, LeavesNoMore, Resize, Writes, Operation, Write, applied}
use Rattle.disk.specs.History.{History, begun, life_after_events, life_of}
use Rattle.disk.specs.declared.action.Event.{Event}
use Rattle.disk.specs.Images.{IsTorn, only_image, same_image, base_is_image, torn_image, partial_is_torn, same_is_partial, done_is_partial, length_write, applied_byte}

-- the flagged bytes of a write, with one flag more
pub torn_write_more : (keep : List Bool) (bytes image : List ℕ) (offset i : ℕ) → i < length keep → length keep ≤ length bytes → torn_write (drop i keep) (offset + i) (drop i bytes) image ≡ torn_write (drop (i + 1) keep) (offset + (i + 1)) (drop (i + 1) bytes) (if get_or keep i false then applied (Write (offset + i) (get_or bytes i 0 ∷ [])) image else image)
torn_write_more keep bytes image offset i below fits =
    let p : offset + i + 1 ≡ offset + (i + 1) = omega arith in
    let b : drop i bytes ≡ get_or bytes i 0 ∷ drop (i + 1) bytes = drop_more bytes i 0 (omega arith) in
    rw (drop_more keep i false below, b) (ap (λ n. torn_write (drop (i + 1) keep) n (drop (i + 1) bytes) (if get_or keep i false then applied (Write (offset + i) (get_or bytes i 0 ∷ [])) image else image)) p)

-- flags that no byte of the write is left for do nothing to it
torn_write_taken : (keep : List Bool) (offset : ℕ) (bytes image : List ℕ) → torn_write (take (length bytes) keep) offset bytes image ≡ torn_write keep offset bytes image
torn_write_taken [] offset [] image = refl
torn_write_taken [] offset (byte ∷ bytes) image = refl
torn_write_taken (flag ∷ keep) offset [] image = refl
torn_write_taken (flag ∷ keep) offset (byte ∷ bytes) image = torn_write_taken keep (offset + 1) bytes (if flag then applied (Write offset (byte ∷ [])) image else image)

-- a write with its flags, and then the operations after it with their flags
pub torn_split : (keep flags rest : List Bool) (offset n : ℕ) (bytes image new : List ℕ) (os : List Operation) → n ≡ min (length bytes) (length keep) → flags ≡ take n keep → rest ≡ drop n keep → new ≡ torn_write flags offset bytes image → torn keep (Write offset bytes ∷ os) image ≡ torn rest os new
torn_split keep flags rest offset n bytes image new os e front back done =
    rw (done, front, back, e, take_min (length bytes) keep, drop_min (length bytes) keep, torn_write_taken keep offset bytes image) refl

-- the flagged bytes of a write: the length, and where each byte comes from
record IsFlagged (offset : ℕ) (bytes old new : List ℕ) : Type 0 where
  grows : length old ≤ length new
  bound : (length new ≤ length old) ⊎ (length new ≤ offset + length bytes)
  each : (at byte : ℕ) → slice_get new at ≡ Some byte → (slice_get old at ≡ Some byte) ⊎ Writes (Write offset bytes) at byte ⊎ ((byte ≡ 0) × (length old ≤ at))

unflagged : (offset : ℕ) (bytes old : List ℕ) → IsFlagged offset bytes old old
unflagged offset bytes old = record { grows = omega arith; bound = inl (omega arith); each = λ at byte h. inl h }

-- what a write of the bytes after the first writes, a write of all of them writes too
written_after : (offset first : ℕ) (bytes : List ℕ) (at byte : ℕ) → Writes (Write (offset + 1) bytes) at byte → Writes (Write offset (first ∷ bytes)) at byte
written_after offset first bytes at byte w =
    (omega (arith, w.0), let e : at - offset ≡ suc (at - (offset + 1)) = omega (arith, w.0) in rw e w.1)

-- what a write of the first byte writes, a write of all bytes writes too
written_first : (offset first : ℕ) (bytes : List ℕ) (at byte : ℕ) → Writes (Write offset (first ∷ [])) at byte → Writes (Write offset (first ∷ bytes)) at byte
written_first offset first bytes at byte w =
    let n : at - offset < 1 = slice_get_within (first ∷ []) (at - offset) byte w.1 in
    let e : at - offset ≡ 0 = omega arith in
    let f : slice_get (first ∷ []) 0 ≡ Some byte = rw e at w.1 in
    (w.0, rw e f)

torn_write_flagged : (keep : List Bool) (offset : ℕ) (bytes old : List ℕ) → IsFlagged offset bytes old (torn_write keep offset bytes old)
torn_write_flagged [] offset bytes old = unflagged offset bytes old
torn_write_flagged (flag ∷ keep) offset [] old = unflagged offset [] old
torn_write_flagged (false ∷ keep) offset (first ∷ bytes) old =
    let r = torn_write_flagged keep (offset + 1) bytes old in
    record {
      grows = r.grows;
      bound = elim r.bound [ inl h ↦ inl h | inr h ↦ inr (omega arith) ];
      each = λ at byte h. elim (r.each at byte h) [
        | inl k ↦ inl k
        | inr (inl k) ↦ inr (inl (written_after offset first bytes at byte k))
        | inr (inr k) ↦ inr (inr k)
      ];
    }
torn_write_flagged (true ∷ keep) offset (first ∷ bytes) old =
    let r = torn_write_flagged keep (offset + 1) bytes (applied (Write offset (first ∷ [])) old) in
    let l : length (applied (Write offset (first ∷ [])) old) ≡ offset + 1 + (length old - (offset + 1)) = length_write offset (first ∷ []) old in
    record {
      grows = omega (arith, r.grows);
      bound = elim (cases_lt (length old) (offset + 1)) [
        | inl past ↦ elim r.bound [ inl h ↦ inr (omega (arith, h)) | inr h ↦ inr (omega (arith, h)) ]
        | inr within ↦ elim r.bound [ inl h ↦ inl (omega (arith, h)) | inr h ↦ inr (omega (arith, h)) ]
      ];
      each = λ at byte h. elim (r.each at byte h) [
        | inl k ↦ elim (applied_byte (Write offset (first ∷ [])) old at byte k) [
          | inl m ↦ inl m
          | inr (inl m) ↦ inr (inl (written_first offset first bytes at byte m))
          | inr (inr m) ↦ inr (inr m)
        ]
        | inr (inl k) ↦ inr (inl (written_after offset first bytes at byte k))
        | inr (inr k) ↦ inr (inr (k.0, omega (arith, k.1)))
      ];
    }

-- the flagged bytes of a write are a torn write
pub torn_write_is_torn : (keep : List Bool) (offset : ℕ) (bytes old : List ℕ) → IsTorn (Write offset bytes) old (torn_write keep offset bytes old)
torn_write_is_torn keep offset bytes old =
    let r = torn_write_flagged keep offset bytes old in
    let l = length_write offset bytes old in
    record {
      len = inl (r.grows, elim r.bound [ inl h ↦ omega (arith, h) | inr h ↦ omega (arith, h) ]);
      each = r.each;
    }

-- a resize with its flag is a torn resize
pub torn_resize_is_torn : (keep : List Bool) (len : ℕ) (old : List ℕ) → IsTorn (Resize len) old (torn_resize keep len old)
torn_resize_is_torn [] len old = partial_is_torn (Resize len) old old (same_is_partial (Resize len) old)
torn_resize_is_torn (true ∷ keep) len old = partial_is_torn (Resize len) old (applied (Resize len) old) (done_is_partial (Resize len) old)
torn_resize_is_torn (false ∷ keep) len old = partial_is_torn (Resize len) old old (same_is_partial (Resize len) old)

-- the disk with one operation more
abbrev with_one : Operation → Disk → Disk
with_one o d = record d { since = d.since ++ o ∷ [] }

-- an image stays one through operations with their flags
pub torn_images : (os : List Operation) (keep : List Bool) (d e : Disk) (image : List ℕ) → e.base ≡ d.base → e.since ≡ d.since ++ os → IsImage d image → IsImage e (torn keep os image)
torn_images [] keep d e image base since i = same_image d e image base (since ∙ append-nil d.since) i
torn_images (Write offset bytes ∷ os) keep d e image base since i =
    let one : IsImage (with_one (Write offset bytes) d) (torn_write keep offset bytes image) = torn_image d (with_one (Write offset bytes) d) (Write offset bytes) image (torn_write keep offset bytes image) refl refl (torn_write_is_torn keep offset bytes image) i in
    torn_images os (drop (length bytes) keep) (with_one (Write offset bytes) d) e (torn_write keep offset bytes image) base (since ∙ sym (append_assoc d.since (Write offset bytes ∷ []) os)) one
torn_images (Resize len ∷ os) keep d e image base since i =
    let one : IsImage (with_one (Resize len) d) (torn_resize keep len image) = torn_image d (with_one (Resize len) d) (Resize len) image (torn_resize keep len image) refl refl (torn_resize_is_torn keep len image) i in
    torn_images os (drop 1 keep) (with_one (Resize len) d) e (torn_resize keep len image) base (since ∙ sym (append_assoc d.since (Resize len ∷ []) os)) one

-- what flags leave of a disk is an image
pub torn_is_image : (keep : List Bool) (d : Disk) → IsImage d (torn keep d.since d.base)
torn_is_image keep d =
    let begin : Disk = record d { since = [] } in
    torn_images d.since keep begin d d.base refl refl (base_is_image begin)

-- a life that begins with what a crash left has no other image
pub begun_leaves : (keep : List Bool) (d : Disk) (h : History) → h.events ≡ [] → h.first ≡ torn keep d.since d.base → LeavesNoMore d (life_of h).present
begun_leaves keep d h none left =
    subst (λ (es : List Event). LeavesNoMore d (life_after_events (begun h.first h.earlier) es).present) (sym none)
    (λ image is_image. subst (λ (l : List ℕ). IsImage d l) (sym (only_image (begun h.first h.earlier).present image refl is_image ∙ left)) (torn_is_image keep d))
