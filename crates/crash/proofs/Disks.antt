-- Laws of disks: what the images of a disk have in common, and what of that an operation or a sync
-- leaves.
use Rattle.std.proofs.Common.{◌≡◌, ◌⊎◌, inl, inr, ℕ, ◌+◌, ◌-◌, ◌<◌, ◌≤◌, max, List, [], ◌∷◌, ◌++◌, length, take, drop, replicate, slice_get, Some, refl, sym, ap, ◌∙◌, subst, arith, Bool, le_refl, append-nil, append_assoc, length-append, length-take, length-drop}
use Rattle.std.proofs.lemmas.Bool.{cases_lt}
use Rattle.std.proofs.lemmas.Option.{slice_get_within, same_Some}
use Rattle.std.proofs.lemmas.List.{length-replicate}
use Rattle.disk.specs.Disk.{Disk, Operation, Request, HasOperated, IsImage, IsWhole, IsPartial, SomeWrites, Writes, applied}
use Rattle.disk.specs.Disk.Operation.{Write, Resize}
use Rattle.disk.proofs.Lists.{slice_get-drop, joined_element, taken_element}
use Rattle.crash.specs.Guard.{Fixed}
use Rattle.crash.specs.Contents.{latest}
use Rattle.crash.proofs.Lists.{element_within, slice_get-take, slice_get-replicate, same_elements}

-- how long a blob is after a write
pub length-applied_write : (offset : ℕ) (bytes old : List ℕ) → length (applied (Write offset bytes) old) ≡ max (length old) (offset + length bytes)
length-applied_write offset bytes old = simp (length-append, length-take, length-drop, length-replicate) (omega arith)

-- how long a blob is after a resize
pub length-applied_resize : (len : ℕ) (old : List ℕ) → length (applied (Resize len) old) ≡ len
length-applied_resize len old = simp (length-append, length-take, length-replicate) (omega arith)

-- where a byte of a blob comes from that was written to
written_byte : (offset : ℕ) (bytes old : List ℕ) (at byte : ℕ) → slice_get (applied (Write offset bytes) old) at ≡ Some byte
    → (slice_get old at ≡ Some byte) ⊎ Writes (Write offset bytes) at byte ⊎ ((byte ≡ 0) × (length old ≤ at))
written_byte offset bytes old at byte is = elim (joined_element (take offset old ++ replicate (offset - length old) 0 ++ bytes) (drop (offset + length bytes) old) at byte is) [
  | inl not_after ↦ elim (joined_element (take offset old ++ replicate (offset - length old) 0) bytes at byte not_after) [
    | inl in_front ↦ elim (joined_element (take offset old) (replicate (offset - length old) 0) at byte in_front) [
      | inl kept ↦ inl (taken_element offset old at byte kept)
      | inr gap ↦
          let within : gap.0 < length (replicate {A = ℕ} (offset - length old) 0) = slice_get_within _ gap.0 byte gap.2 in
          inr (inr (slice_get-replicate (offset - length old) 0 byte gap.0 gap.2, omega (arith, length-replicate {A = ℕ} (offset - length old) 0, length-take offset old)))
    ]
    | inr inside ↦
        let from : at ≡ offset + inside.0 = inside.1 ∙ simp (length-append, length-take, length-replicate) (omega arith) in
        let same : inside.0 ≡ at - offset = omega arith in
        inr (inl (omega arith, ap (λ (k : ℕ). slice_get bytes k) (sym same) ∙ inside.2))
  ]
  | inr after ↦
      let from : at ≡ offset + length bytes + after.0 = after.1 ∙ simp (length-append, length-take, length-replicate) (omega arith) in
      inl (ap (λ (k : ℕ). slice_get old k) from ∙ sym (slice_get-drop (offset + length bytes) old after.0) ∙ after.2)
]

-- where a byte comes from that an operation leaves
pub applied_byte : (o : Operation) (old : List ℕ) (at byte : ℕ) → slice_get (applied o old) at ≡ Some byte
    → (slice_get old at ≡ Some byte) ⊎ Writes o at byte ⊎ ((byte ≡ 0) × (length old ≤ at))
applied_byte (Write offset bytes) old at byte is = written_byte offset bytes old at byte is
applied_byte (Resize len) old at byte is = elim (joined_element (take len old) (replicate (len - length old) 0) at byte is) [
  | inl kept ↦ inl (taken_element len old at byte kept)
  | inr gap ↦
      let within : gap.0 < length (replicate {A = ℕ} (len - length old) 0) = slice_get_within _ gap.0 byte gap.2 in
      inr (inr (slice_get-replicate (len - length old) 0 byte gap.0 gap.2, omega (arith, length-replicate {A = ℕ} (len - length old) 0, length-take len old)))
]

-- the base is a whole state
pub base_is_whole : (base : List ℕ) (os : List Operation) → IsWhole base os base
base_is_whole base [] = refl
base_is_whole base (o ∷ os) = inl refl

-- the state in which all is done is a whole state
pub latest_is_whole : (base : List ℕ) (os : List Operation) → IsWhole base os (latest base os)
latest_is_whole base [] = refl
latest_is_whole base (o ∷ os) = inr (latest_is_whole (applied o base) os)

-- where a byte of a whole state comes from
pub whole_byte : (base : List ℕ) (os : List Operation) (whole : List ℕ) → IsWhole base os whole → (at byte : ℕ) → slice_get whole at ≡ Some byte
    → (slice_get base at ≡ Some byte) ⊎ SomeWrites os at byte ⊎ ((byte ≡ 0) × ((bytes : List ℕ) × IsWhole base os bytes × (length bytes ≤ at)))
whole_byte base [] whole is_whole at byte is = inl (ap (λ (bytes : List ℕ). slice_get bytes at) (sym is_whole) ∙ is)
whole_byte base (o ∷ os) whole (inl is_base) at byte is = inl (ap (λ (bytes : List ℕ). slice_get bytes at) (sym is_base) ∙ is)
whole_byte base (o ∷ os) whole (inr is_whole) at byte is = elim (whole_byte (applied o base) os whole is_whole at byte is) [
  | inl old ↦ elim (applied_byte o base at byte old) [
    | inl in_base ↦ inl in_base
    | inr (inl written) ↦ inr (inl (inl written))
    | inr (inr gap) ↦ inr (inr (gap.0, (base, inl refl, gap.1)))
  ]
  | inr (inl written) ↦ inr (inl (inr written))
  | inr (inr gap) ↦ inr (inr (gap.0, (gap.1.0, inr gap.1.1, gap.1.2)))
]

-- a whole state is an image
pub whole_is_image : (d : Disk) (whole : List ℕ) → IsWhole d.base d.since whole → IsImage d whole
whole_is_image d whole is_whole = record {
  no_shorter = (whole, is_whole, omega arith);
  no_longer = (whole, is_whole, omega arith);
  each = λ at byte is. whole_byte d.base d.since whole is_whole at byte is;
}

-- the base is an image
pub base_is_image : (d : Disk) → IsImage d d.base
base_is_image d = whole_is_image d d.base (base_is_whole d.base d.since)

-- a write of some operations is one of theirs and of those after them
pub writes_before : (os ps : List Operation) (at byte : ℕ) → SomeWrites os at byte → SomeWrites (os ++ ps) at byte
writes_before [] ps at byte none = elim none [ ]
writes_before (o ∷ os) ps at byte (inl first) = inl first
writes_before (o ∷ os) ps at byte (inr later) = inr (writes_before os ps at byte later)

-- a write of some operations is one of theirs and of those in front of them
pub writes_after : (os ps : List Operation) (at byte : ℕ) → SomeWrites ps at byte → SomeWrites (os ++ ps) at byte
writes_after [] ps at byte some = some
writes_after (o ∷ os) ps at byte some = inr (writes_after os ps at byte some)

-- a write of joined operations is one of the first or of the others
pub writes_cases : (os ps : List Operation) (at byte : ℕ) → SomeWrites (os ++ ps) at byte → SomeWrites os at byte ⊎ SomeWrites ps at byte
writes_cases [] ps at byte some = inr some
writes_cases (o ∷ os) ps at byte (inl first) = inl (inl first)
writes_cases (o ∷ os) ps at byte (inr later) = elim (writes_cases os ps at byte later) [
  | inl before ↦ inl (inr before)
  | inr after ↦ inr after
]

-- a whole state is still one with more operations after it
pub whole_before : (base : List ℕ) (os ps : List Operation) (whole : List ℕ) → IsWhole base os whole → IsWhole base (os ++ ps) whole
whole_before base [] [] whole is_whole = is_whole
whole_before base [] (p ∷ ps) whole is_whole = inl is_whole
whole_before base (o ∷ os) ps whole (inl is_base) = inl is_base
whole_before base (o ∷ os) ps whole (inr is_whole) = inr (whole_before (applied o base) os ps whole is_whole)

-- a whole state of the operations after the first ones is one of all of them
pub whole_after : (base : List ℕ) (os ps : List Operation) (whole : List ℕ) → IsWhole (latest base os) ps whole → IsWhole base (os ++ ps) whole
whole_after base [] ps whole is_whole = is_whole
whole_after base (o ∷ os) ps whole is_whole = inr (whole_after (applied o base) os ps whole is_whole)

-- a whole state of joined operations is one of the first, or one of the others from where those end
pub whole_cases : (base : List ℕ) (os ps : List Operation) (whole : List ℕ) → IsWhole base (os ++ ps) whole → IsWhole base os whole ⊎ IsWhole (latest base os) ps whole
whole_cases base [] ps whole is_whole = inr is_whole
whole_cases base (o ∷ os) ps whole (inl is_base) = inl (inl is_base)
whole_cases base (o ∷ os) ps whole (inr is_whole) = elim (whole_cases (applied o base) os ps whole is_whole) [
  | inl before ↦ inl (inr before)
  | inr after ↦ inr after
]

-- one operation more makes one new whole state
pub one_more_whole : (base : List ℕ) (os : List Operation) (o : Operation) (whole : List ℕ) → IsWhole base (os ++ o ∷ []) whole → IsWhole base os whole ⊎ (whole ≡ applied o (latest base os))
one_more_whole base os o whole is_whole = elim (whole_cases base os (o ∷ []) whole is_whole) [
  | inl before ↦ inl before
  | inr (inl is_latest) ↦ inl (subst (λ (bytes : List ℕ). IsWhole base os bytes) (sym is_latest) (latest_is_whole base os))
  | inr (inr is_new) ↦ inr is_new
]

-- the state after one operation more is a whole state
pub new_is_whole : (base : List ℕ) (os : List Operation) (o : Operation) → IsWhole base (os ++ o ∷ []) (applied o (latest base os))
new_is_whole base os o = whole_after base os (o ∷ []) (applied o (latest base os)) (inr refl)

-- the last state after operations joined
pub latest-append : (base : List ℕ) (os ps : List Operation) → latest base (os ++ ps) ≡ latest (latest base os) ps
latest-append base [] ps = refl
latest-append base (o ∷ os) ps = latest-append (applied o base) os ps

-- a whole state of a disk is one of a disk with one operation more
pub whole_kept : (d e : Disk) (o : Operation) → e.base ≡ d.base → e.since ≡ d.since ++ o ∷ [] → (whole : List ℕ) → IsWhole d.base d.since whole → IsWhole e.base e.since whole
whole_kept d e o base since whole is_whole = rw (base, since) (whole_before d.base d.since (o ∷ []) whole is_whole)

pub writes_kept : (d e : Disk) (o : Operation) → e.since ≡ d.since ++ o ∷ [] → (at byte : ℕ) → SomeWrites d.since at byte → SomeWrites e.since at byte
writes_kept d e o since at byte some = rw since (writes_before d.since (o ∷ []) at byte some)

pub new_whole : (d e : Disk) (o : Operation) → e.base ≡ d.base → e.since ≡ d.since ++ o ∷ [] → IsWhole e.base e.since (applied o (latest d.base d.since))
new_whole d e o base since = rw (base, since) (new_is_whole d.base d.since o)

pub new_write : (d e : Disk) (o : Operation) → e.since ≡ d.since ++ o ∷ [] → (at byte : ℕ) → Writes o at byte → SomeWrites e.since at byte
new_write d e o since at byte written = rw since (writes_after d.since (o ∷ []) at byte (inl written))

-- no image ends before what is fixed does
pub fixed_length : (d : Disk) (offset : ℕ) (bytes image : List ℕ) → Fixed d offset bytes → IsImage d image → offset + length bytes ≤ length image
fixed_length d offset bytes image fixed is_image =
    let within : offset + length bytes ≤ length is_image.no_shorter.0 = fixed.within is_image.no_shorter.0 is_image.no_shorter.1 in
    omega (arith, is_image.no_shorter.2)

-- each byte that is fixed stands in each image
pub fixed_byte : (d : Disk) (offset : ℕ) (bytes image : List ℕ) → Fixed d offset bytes → IsImage d image → (i byte : ℕ) → slice_get bytes i ≡ Some byte → slice_get image (offset + i) ≡ Some byte
fixed_byte d offset bytes image fixed is_image i byte is =
    let inside : i < length bytes = slice_get_within bytes i byte is in
    let there = element_within image (offset + i) (omega (arith, fixed_length d offset bytes image fixed is_image)) in
    let same : there.0 ≡ byte = elim (is_image.each (offset + i) there.0 there.1) [
      | inl in_base ↦ same_Some there.0 byte (sym in_base ∙ fixed.base i byte is)
      | inr (inl written) ↦ fixed.repeated i byte there.0 is written
      | inr (inr gap) ↦ absurd (omega (arith, fixed.within gap.1.0 gap.1.1, gap.1.2))
    ] in
    there.1 ∙ ap (λ (x : ℕ). Some x) same

-- what is fixed stands in each image
pub fixed_in_image : (d : Disk) (offset : ℕ) (bytes image : List ℕ) → Fixed d offset bytes → IsImage d image → take (length bytes) (drop offset image) ≡ bytes
fixed_in_image d offset bytes image fixed is_image =
    sym (same_elements bytes (take (length bytes) (drop offset image))
    (omega (arith, length-take (length bytes) (drop offset image), length-drop offset image, fixed_length d offset bytes image fixed is_image))
    (λ i byte is.
    let inside : i < length bytes = slice_get_within bytes i byte is in
    slice_get-take (length bytes) (drop offset image) i inside ∙ slice_get-drop offset image i ∙ fixed_byte d offset bytes image fixed is_image i byte is))

-- an operation leaves the bytes at an offset: it ends no earlier than they do, and each byte that
-- it writes there is theirs
pub record Leaves (o : Operation) (offset : ℕ) (bytes : List ℕ) : Type 0 where
  pub reaches : (old : List ℕ) → offset + length bytes ≤ length old → offset + length bytes ≤ length (applied o old)
  pub repeats : (i byte other : ℕ) → slice_get bytes i ≡ Some byte → Writes o (offset + i) other → other ≡ byte

-- a resize leaves bytes that end within the new length
pub resize_leaves : (len offset : ℕ) (bytes : List ℕ) → offset + length bytes ≤ len → Leaves (Resize len) offset bytes
resize_leaves len offset bytes enough = record {
  reaches = λ old there. omega (arith, length-applied_resize len old);
  repeats = λ i byte other is none. elim none [ ];
}

-- a write leaves the bytes in front of it
pub write_after_leaves : (at : ℕ) (written : List ℕ) (offset : ℕ) (bytes : List ℕ) → offset + length bytes ≤ at → Leaves (Write at written) offset bytes
write_after_leaves at written offset bytes after = record {
  reaches = λ old there. omega (arith, length-applied_write at written old);
  repeats = λ i byte other is wrote. absurd (omega (arith, slice_get_within bytes i byte is, wrote.0));
}

-- a write leaves the bytes after it
pub write_in_front_leaves : (at : ℕ) (written : List ℕ) (offset : ℕ) (bytes : List ℕ) → at + length written ≤ offset → Leaves (Write at written) offset bytes
write_in_front_leaves at written offset bytes in_front = record {
  reaches = λ old there. omega (arith, length-applied_write at written old);
  repeats = λ i byte other is wrote. absurd (omega (arith, slice_get_within written (offset + i - at) other wrote.1, wrote.0));
}

-- a write leaves bytes that it repeats, from its k-th byte on
pub write_again_leaves : (at : ℕ) (written : List ℕ) (offset : ℕ) (bytes : List ℕ) (k : ℕ) → offset ≡ at + k → take (length bytes) (drop k written) ≡ bytes → Leaves (Write at written) offset bytes
write_again_leaves at written offset bytes k is_offset again = record {
  reaches = λ old there. omega (arith, length-applied_write at written old);
  repeats = λ i byte other is wrote.
      let inside : i < length bytes = slice_get_within bytes i byte is in
      let same : offset + i - at ≡ k + i = omega arith in
      let theirs : slice_get written (k + i) ≡ Some byte =
      sym (slice_get-drop k written i) ∙ sym (slice_get-take (length bytes) (drop k written) i inside) ∙ ap (λ (l : List ℕ). slice_get l i) again ∙ is in
      same_Some other byte (sym wrote.1 ∙ ap (λ (j : ℕ). slice_get written j) same ∙ theirs);
}

-- what is fixed stays under an operation that leaves it
pub fixed_stays : (d e : Disk) (o : Operation) (offset : ℕ) (bytes : List ℕ) → e.base ≡ d.base → e.since ≡ d.since ++ o ∷ [] → Leaves o offset bytes → Fixed d offset bytes → Fixed e offset bytes
fixed_stays d e o offset bytes base since leaves fixed = record {
  base = λ i byte is. ap (λ (l : List ℕ). slice_get l (offset + i)) base ∙ fixed.base i byte is;
  repeated = λ i byte other is some. elim (writes_cases d.since (o ∷ []) (offset + i) other (subst (λ (os : List Operation). SomeWrites os (offset + i) other) since some)) [
    | inl before ↦ fixed.repeated i byte other is before
    | inr (inl new) ↦ leaves.repeats i byte other is new
    | inr (inr none) ↦ elim none [ ]
  ];
  within = λ whole is_whole. elim (one_more_whole d.base d.since o whole (rw (base, since) at is_whole)) [
    | inl before ↦ fixed.within whole before
    | inr is_new ↦ rw is_new (leaves.reaches (latest d.base d.since) (fixed.within (latest d.base d.since) (latest_is_whole d.base d.since)))
  ];
}

-- bytes that stand in the base of a disk with nothing unsynced are fixed
pub fixed_at_rest : (d : Disk) (offset : ℕ) (bytes : List ℕ) → d.since ≡ [] → offset + length bytes ≤ length d.base → take (length bytes) (drop offset d.base) ≡ bytes → Fixed d offset bytes
fixed_at_rest d offset bytes at_rest within stands = record {
  base = λ i byte is.
      let inside : i < length bytes = slice_get_within bytes i byte is in
      sym (slice_get-drop offset d.base i) ∙ sym (slice_get-take (length bytes) (drop offset d.base) i inside) ∙ ap (λ (l : List ℕ). slice_get l i) stands ∙ is;
  repeated = λ i byte other is some. elim (subst (λ (os : List Operation). SomeWrites os (offset + i) other) at_rest some) [ ];
  within = λ whole is_whole.
      let same : whole ≡ d.base = subst (λ (os : List Operation). IsWhole d.base os whole) at_rest is_whole in
      rw same within;
}

-- what is fixed stays when an image becomes the base
pub fixed_settles : (d e : Disk) (offset : ℕ) (bytes : List ℕ) → IsImage d e.base → e.since ≡ [] → Fixed d offset bytes → Fixed e offset bytes
fixed_settles d e offset bytes is_image at_rest fixed =
    fixed_at_rest e offset bytes at_rest (fixed_length d offset bytes e.base fixed is_image) (fixed_in_image d offset bytes e.base fixed is_image)

-- whether bytes are fixed depends on the base and on what is unsynced alone
pub fixed_alike : (d e : Disk) (offset : ℕ) (bytes : List ℕ) → e.base ≡ d.base → e.since ≡ d.since → Fixed d offset bytes → Fixed e offset bytes
fixed_alike d e offset bytes base since fixed = record {
  base = λ i byte is. ap (λ (l : List ℕ). slice_get l (offset + i)) base ∙ fixed.base i byte is;
  repeated = λ i byte other is some. fixed.repeated i byte other is (subst (λ (os : List Operation). SomeWrites os (offset + i) other) since some);
  within = λ whole is_whole. fixed.within whole (rw (base, since) at is_whole);
}

-- with one operation more some whole state is no longer than what that operation leaves of an image
shorter_whole : (d e : Disk) (o : Operation) (old whole : List ℕ) → e.base ≡ d.base → e.since ≡ d.since ++ o ∷ [] → IsWhole d.base d.since whole → length whole ≤ length old
    → (bytes : List ℕ) × IsWhole e.base e.since bytes × (length bytes ≤ length (applied o old))
shorter_whole d e (Write offset written) old whole base since is_whole le =
    (whole, whole_kept d e (Write offset written) base since whole is_whole, omega (arith, length-applied_write offset written old))
shorter_whole d e (Resize len) old whole base since is_whole le =
    (applied (Resize len) (latest d.base d.since), new_whole d e (Resize len) base since, omega (arith, length-applied_resize len old, length-applied_resize len (latest d.base d.since)))

-- with one operation more some whole state is no shorter than what that operation leaves of an
-- image
longer_whole : (d e : Disk) (o : Operation) (old whole : List ℕ) → e.base ≡ d.base → e.since ≡ d.since ++ o ∷ [] → IsWhole d.base d.since whole → length old ≤ length whole
    → (bytes : List ℕ) × IsWhole e.base e.since bytes × (length (applied o old) ≤ length bytes)
longer_whole d e (Write offset written) old whole base since is_whole le = elim (cases_lt (length old) (offset + length written)) [
  | inl past ↦
      (applied (Write offset written) (latest d.base d.since), new_whole d e (Write offset written) base since, omega (arith, length-applied_write offset written old, length-applied_write offset written (latest d.base d.since)))
  | inr inside ↦ (whole, whole_kept d e (Write offset written) base since whole is_whole, omega (arith, length-applied_write offset written old))
]
longer_whole d e (Resize len) old whole base since is_whole le =
    (applied (Resize len) (latest d.base d.since), new_whole d e (Resize len) base since, omega (arith, length-applied_resize len old, length-applied_resize len (latest d.base d.since)))

-- what is readable stays an image through an operation that is done, cut short or failed
pub readable_stays : (d e : Disk) (o : Operation) (old new : List ℕ) → e.base ≡ d.base → e.since ≡ d.since ++ o ∷ [] → IsPartial o old new → IsImage d old → IsImage e new
readable_stays d e o old new base since partial is_image =
    let short = is_image.no_shorter in
    let long = is_image.no_longer in
    let was : (at byte : ℕ) → slice_get old at ≡ Some byte → (slice_get e.base at ≡ Some byte) ⊎ SomeWrites e.since at byte ⊎ ((byte ≡ 0) × ((bytes : List ℕ) × IsWhole e.base e.since bytes × (length bytes ≤ at))) = λ at byte is.
    elim (is_image.each at byte is) [
      | inl in_base ↦ inl (ap (λ (l : List ℕ). slice_get l at) base ∙ in_base)
      | inr (inl written) ↦ inr (inl (writes_kept d e o since at byte written))
      | inr (inr gap) ↦ inr (inr (gap.0, (gap.1.0, whole_kept d e o base since gap.1.0 gap.1.1, gap.1.2)))
    ] in
    record {
      no_shorter = elim partial.length [
        | inl grew ↦ (short.0, whole_kept d e o base since short.0 short.1, omega (arith, short.2, grew.0))
        | inr shrank ↦
            let least = shorter_whole d e o old short.0 base since short.1 short.2 in
            (least.0, least.1, omega (arith, least.2, shrank.0))
      ];
      no_longer = elim partial.length [
        | inl grew ↦
            let most = longer_whole d e o old long.0 base since long.1 long.2 in
            (most.0, most.1, omega (arith, most.2, grew.1))
        | inr shrank ↦ (long.0, whole_kept d e o base since long.0 long.1, omega (arith, long.2, shrank.1))
      ];
      each = λ at byte is. elim (partial.each at byte is) [
        | inl old_byte ↦ was at byte old_byte
        | inr new_byte ↦ elim (applied_byte o old at byte new_byte) [
          | inl old_byte ↦ was at byte old_byte
          | inr (inl written) ↦ inr (inl (new_write d e o since at byte written))
          | inr (inr gap) ↦ inr (inr (gap.0, (short.0, whole_kept d e o base since short.0 short.1, omega (arith, short.2, gap.1))))
        ]
      ];
    }

-- whether bytes are an image depends on the base and on what is unsynced alone
pub image_alike : (d e : Disk) (image : List ℕ) → e.base ≡ d.base → e.since ≡ d.since → IsImage e image → IsImage d image
image_alike d e image base since is_image = record {
  no_shorter = (is_image.no_shorter.0, rw (base, since) at is_image.no_shorter.1, is_image.no_shorter.2);
  no_longer = (is_image.no_longer.0, rw (base, since) at is_image.no_longer.1, is_image.no_longer.2);
  each = λ at byte is. elim (is_image.each at byte is) [
    | inl in_base ↦ inl (ap (λ (l : List ℕ). slice_get l at) (sym base) ∙ in_base)
    | inr (inl written) ↦ inr (inl (rw since at written))
    | inr (inr gap) ↦ inr (inr (gap.0, (gap.1.0, rw (base, since) at gap.1.1, gap.1.2)))
  ];
}

-- an operation may be done whole
pub partial_whole : (o : Operation) (old : List ℕ) → IsPartial o old (applied o old)
partial_whole o old = record {
  length = elim (cases_lt (length (applied o old)) (length old)) [
    | inl shorter ↦ inr (le_refl (length (applied o old)), omega arith)
    | inr longer ↦ inl (longer, le_refl (length (applied o old)))
  ];
  each = λ at byte is. inr is;
}

-- of each operation in turn a part is done, or all of it, or nothing
abbrev pub IsTorn : List ℕ → List Operation → List ℕ → Type 0
IsTorn base [] bytes = bytes ≡ base
IsTorn base (o ∷ os) bytes = (mid : List ℕ) × IsPartial o base mid × IsTorn mid os bytes

-- more operations, each torn, leave an image of an image
torn_after : (d e : Disk) (os : List Operation) (old new : List ℕ) → e.base ≡ d.base → e.since ≡ d.since ++ os → IsImage d old → IsTorn old os new → IsImage e new
torn_after d e [] old new base since is_image torn = image_alike e d new (sym base) (sym (append-nil d.since) ∙ sym since) (subst (λ (bytes : List ℕ). IsImage d bytes) (sym torn) is_image)
torn_after d e (o ∷ os) old new base since is_image torn =
    let mid : Disk = record d { since = d.since ++ o ∷ [] } in
    torn_after mid e os torn.0 new base (since ∙ sym (append_assoc d.since (o ∷ []) os)) (readable_stays d mid o old torn.0 refl refl torn.1 is_image) torn.2

-- so what is left where each operation is torn or lost is an image
pub torn_is_image : (d : Disk) (bytes : List ℕ) → IsTorn d.base d.since bytes → IsImage d bytes
torn_is_image d bytes torn =
    let start : Disk = record d { since = [] } in
    torn_after start d d.since d.base bytes refl refl (base_is_image start) torn

-- where the operations that a sync covers become durable, each whole state was one before
pub whole_covered : (d e : Disk) (os ps : List Operation) → d.since ≡ os ++ ps → e.base ≡ latest d.base os → e.since ≡ ps → (whole : List ℕ) → IsWhole e.base e.since whole → IsWhole d.base d.since whole
whole_covered d e os ps since base rest whole is_whole = rw since (whole_after d.base os ps whole (rw (base, rest) at is_whole))

-- where the operations that a sync covers become durable, each image was one before
pub image_covered : (d e : Disk) (os ps : List Operation) → d.since ≡ os ++ ps → e.base ≡ latest d.base os → e.since ≡ ps → (image : List ℕ) → IsImage e image → IsImage d image
image_covered d e os ps since base rest image is_image =
    let whole = whole_covered d e os ps since base rest in
    record {
      no_shorter = (is_image.no_shorter.0, whole is_image.no_shorter.0 is_image.no_shorter.1, is_image.no_shorter.2);
      no_longer = (is_image.no_longer.0, whole is_image.no_longer.0 is_image.no_longer.1, is_image.no_longer.2);
      each = λ at byte is. elim (is_image.each at byte is) [
        | inl in_base ↦ whole_byte d.base d.since e.base (whole e.base (base_is_whole e.base e.since)) at byte in_base
        | inr (inl written) ↦ inr (inl (rw since (writes_after os ps at byte (rw rest at written))))
        | inr (inr gap) ↦ inr (inr (gap.0, (gap.1.0, whole gap.1.0 gap.1.1, gap.1.2)))
      ];
    }

-- so what is fixed stays where the operations that a sync covers become durable
pub fixed_covered : (d e : Disk) (os ps : List Operation) (offset : ℕ) (bytes : List ℕ) → d.since ≡ os ++ ps → e.base ≡ latest d.base os → e.since ≡ ps → Fixed d offset bytes → Fixed e offset bytes
fixed_covered d e os ps offset bytes since base rest fixed =
    let whole = whole_covered d e os ps since base rest in
    record {
      base = λ i byte is. fixed_byte d offset bytes e.base fixed (image_covered d e os ps since base rest e.base (base_is_image e)) i byte is;
      repeated = λ i byte other is some. fixed.repeated i byte other is (rw since (writes_after os ps (offset + i) other (rw rest at some)));
      within = λ state is_whole. fixed.within state (whole state is_whole);
    }

-- an operation that was asked for leaves the base
pub operated_base : (o : Operation) (request : Request) (failed : Bool) (d e : Disk) → HasOperated o request failed d e → e.base ≡ d.base
operated_base o request failed d e operated = ap (λ (x : Disk). x.base) operated.rest

pub operated_since : (o : Operation) (request : Request) (failed : Bool) (d e : Disk) → HasOperated o request failed d e → e.since ≡ d.since ++ o ∷ []
operated_since o request failed d e operated = ap (λ (x : Disk). x.since) operated.rest

-- an operation that was asked for leaves what is readable an image
pub operated_readable : (o : Operation) (request : Request) (failed : Bool) (d e : Disk) → HasOperated o request failed d e → IsImage d d.readable → IsImage e e.readable
operated_readable o request failed d e operated is_image =
    readable_stays d e o d.readable e.readable (operated_base o request failed d e operated) (operated_since o request failed d e operated) operated.readable is_image
