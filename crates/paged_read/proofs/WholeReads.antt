-- Reads of the bytes of a tail: those of its full pages, and those after them.
use Rattle.std.proofs.Common.{◌≡◌, inl, inr, ℕ, ◌+◌, ◌*◌, ◌-◌, ◌≤◌, List, [], ◌∷◌, ◌++◌, length, take, drop, min, refl, sym, ap, ◌∙◌, arith, Ok, Err, length-append, length-drop, append-nil, Bool, true, false, ◌&&◌}
use Rattle.std.specs.Prelude.{nat_eq, nat_le, Vec}
use Rattle.std.specs.declared.alloc.Global.{Global}
use Rattle.std.proofs.lemmas.Bool.Decides.{nat_tests}
use Rattle.std.proofs.lemmas.Bool.{cases_lt}
use Rattle.std.proofs.lemmas.List.{length-take-le, take_at, drop_all}
use borrow.Rule.Slice.PartMut.{post_of, Post-is}
use Rattle.disk.specs.Disk.{Disk, Life}
use Rattle.disk.specs.declared.error.Error.{Error}
use Rattle.disk.specs.declared.error.Error.TheVariants.{ReadFailed, WriteFailed, ResizeFailed, SyncFailed, InvalidChecksum, BlobInsufficientLength, OffsetOverflow, OutOfMemory, IdsExhausted}
use Rattle.cache.specs.CacheState.{CacheState}
use Rattle.paged_read.specs.Failures.{none_failed_start}
use Rattle.paged_read.specs.Tail.{Tail, logical_bytes, tail_size, CanRead}
use Rattle.paged_read.specs.Ranges.{missing, is_served, slice, AsksForMissing, AreMissingFull, ReadFault, Reads, ReadsUpTo, TryReadGoes}
use Rattle.paged_read.proofs.Windows.{missing_below, missing_none}
use Rattle.paged_read.proofs.Leaving.{told_in_tip}
use Rattle.paged_read.proofs.PageReads.{faults_same, full_missing}
use Rattle.paged_read.proofs.BelowReads.{slice_two}

-- a read asks for what another range finds missing
pub asks_same : (cache : CacheState) (t : Tail) (one other : ℕ × ℕ) (old new : Life) → missing cache t (other ∷ []) ≡ missing cache t (one ∷ []) → AsksForMissing cache t one old new → AsksForMissing cache t other old new
asks_same cache t one other old new is asks = (
  omega (arith, asks.0, ap length is),
  λ served. asks.1 (ap (λ (l : List ℕ). nat_eq (length l) 0) (sym is) ∙ served),
)

-- a fault below the tail is one of the read
pub reads_fault : {A : Type 0} → (sum : List ℕ → ℕ) (t : Tail) (cache : CacheState) (range : ℕ × ℕ) (bytes : A → List ℕ) (old new : Life) (e : Error) → ReadFault sum cache t (range ∷ []) old new e → Reads sum t cache range bytes old new (Err e)
reads_fault sum t cache range bytes old new ReadFailed cause = cause
reads_fault sum t cache range bytes old new WriteFailed cause = cause
reads_fault sum t cache range bytes old new ResizeFailed cause = cause
reads_fault sum t cache range bytes old new SyncFailed cause = cause
reads_fault sum t cache range bytes old new InvalidChecksum cause = cause
reads_fault sum t cache range bytes old new BlobInsufficientLength cause = absurd cause
reads_fault sum t cache range bytes old new OffsetOverflow cause = absurd cause
reads_fault sum t cache range bytes old new OutOfMemory cause = cause
reads_fault sum t cache range bytes old new IdsExhausted cause = cause

module _ (t : Tail) (cache : CacheState) (offset len below : ℕ) (is : below ≡ min len (t.full_pages * t.page_size - offset)) where
  -- the part below finds missing what the whole does
  pub part_missing : missing cache t ((offset, len) ∷ []) ≡ missing cache t ((offset, below) ∷ [])
  part_missing = missing_below cache t offset len ∙ ap (λ n. missing cache t ((offset, n) ∷ [])) (sym is)

  -- so the part below the tail is served exactly where the whole is
  pub part_served : is_served cache t (offset, len) ≡ is_served cache t (offset, below)
  part_served = ap (λ (l : List ℕ). nat_eq (length l) 0) part_missing

  pub part_fault : {A : Type 0} → (sum : List ℕ → ℕ) (bytes : A → List ℕ) (old new : Life) (e : Error) → ReadFault sum cache t ((offset, below) ∷ []) old new e → Reads sum t cache (offset, len) bytes old new (Err e)
  part_fault sum bytes old new e cause = reads_fault sum t cache (offset, len) bytes old new e (faults_same sum cache t ((offset, below) ∷ []) ((offset, len) ∷ []) old new e part_missing cause)

  pub part_full : (sum : List ℕ → ℕ) (readable : List ℕ) → AreMissingFull sum cache t ((offset, below) ∷ []) readable → AreMissingFull sum cache t ((offset, len) ∷ []) readable
  part_full sum readable full = full_missing sum cache t ((offset, len) ∷ []) (missing cache t ((offset, below) ∷ [])) readable part_missing full

  -- the part below and the part after are the range
  pub parts_join : (d : Disk) (front back : List ℕ) → CanRead t cache d → front ≡ slice (logical_bytes t d.readable) (offset, below) → back ≡ take (len - below) (drop (offset + below - t.full_pages * t.page_size) t.bytes)
      → front ++ back ≡ slice (logical_bytes t d.readable) (offset, len)
  parts_join d front back can front_is back_is =
      let content = logical_bytes t d.readable in
      let whole : below + (len - below) ≡ len = omega (arith, is) in
      let after : take (len - below) (drop (offset + below - t.full_pages * t.page_size) t.bytes) ≡ slice content (offset + below, len - below) =
      elim (cases_lt below len) [
        | inl more ↦
            let at : t.full_pages * t.page_size + (offset + below - t.full_pages * t.page_size) ≡ offset + below = omega (arith, is, more) in
            ap (λ (l : List ℕ). take (len - below) l) (sym (told_in_tip t d.readable can.there (offset + below - t.full_pages * t.page_size)) ∙ ap (λ n. drop n content) at)
        | inr none ↦
            let zero_len : len - below ≡ 0 = omega (arith, none) in
            ap (λ n. take n (drop (offset + below - t.full_pages * t.page_size) t.bytes)) zero_len ∙ sym (ap (λ n. take n (drop (offset + below) content)) zero_len)
      ] in
      ap (λ (l : List ℕ). l ++ back) front_is ∙ ap (λ (l : List ℕ). slice content (offset, below) ++ l) (back_is ∙ after)
      ∙ sym (slice_two content offset below (len - below)) ∙ ap (λ n. slice content (offset, n)) whole

-- a buffer whose two parts were written one after the other holds both
pub two_parts : (below : ℕ) (buf front back : List ℕ) → below ≤ length buf → length front ≡ length (take below buf)
    → take below (front ++ drop below buf) ++ (back ++ post_of below (length (front ++ drop below buf) - below) (front ++ drop below buf)) ≡ front ++ back
two_parts below buf front back within size =
    let many : length front ≡ below = size ∙ length-take-le below buf within in
    let mid = front ++ drop below buf in
    let all : below ≤ length mid = omega (arith, length-append front (drop below buf), many) in
    let none : post_of below (length mid - below) mid ≡ [] = Post-is below (length mid) mid all ∙ drop_all (length mid) mid (omega arith) in
    ap (λ (l : List ℕ). take below mid ++ (back ++ l)) none
    ∙ ap (λ (l : List ℕ). take below mid ++ l) (append-nil back)
    ∙ ap (λ (l : List ℕ). l ++ back) (take_at front (drop below buf) below many)

-- how long the second part is
pub second_len : (below : ℕ) (buf front : List ℕ) → below ≤ length buf → length front ≡ length (take below buf) → length (take (length (front ++ drop below buf) - below) (drop below (front ++ drop below buf))) ≡ length buf - below
second_len below buf front within size =
    let many : length front ≡ below = size ∙ length-take-le below buf within in
    let mid = front ++ drop below buf in
    let all : length mid ≡ length buf = omega (arith, length-append front (drop below buf), many, length-drop below buf, within) in
    length-take-le (length mid - below) (drop below mid) (omega (arith, length-drop below mid)) ∙ ap (λ n. n - below) all

-- ---- reads that ask no device

-- a range within the size whose part below the tail isn't served
pub tries_no : (t : Tail) (range : ℕ × ℕ) (cache : CacheState) (bytes : List ℕ) → is_served cache t range ≡ false → TryReadGoes t range cache bytes false
tries_no t range cache bytes missed = (
  sym (ap (λ b. nat_le (range.0 + range.1) (tail_size t) && b) missed ∙ none (nat_le (range.0 + range.1) (tail_size t))),
  λ no. absurd (cc no),
)
  where
    none : (b : Bool) → (b && false) ≡ false
    none true = refl
    none false = refl

-- a range within the size whose part below the tail is served
pub tries_yes : (t : Tail) (range : ℕ × ℕ) (cache : CacheState) (bytes : List ℕ) → range.0 + range.1 ≤ tail_size t → is_served cache t range ≡ true → ((d : Disk) → CanRead t cache d → bytes ≡ slice (logical_bytes t d.readable) range) → TryReadGoes t range cache bytes true
tries_yes t range cache bytes within served are = (
  sym (ap (λ b. nat_le (range.0 + range.1) (tail_size t) && b) served ∙ ap (λ b. b && true) (fits (range.0 + range.1) (tail_size t) within)),
  λ same. are,
)
  where
    fits : (m n : ℕ) → m ≤ n → nat_le m n ≡ true
    fits m n le = grind (arith, nat_tests)

-- ---- bytes of a vector

-- a vector over all of whose bytes others were written
pub vec_written : (len : ℕ) (bytes items : List ℕ) → length bytes ≡ len → take len (bytes ++ drop (length bytes) items) ≡ bytes
vec_written len bytes items many = take_at bytes (drop (length bytes) items) len many

-- what a read of no byte answers
pub reads_nothing : (sum : List ℕ → ℕ) (t : Tail) (cache : CacheState) (offset len : ℕ) (life : Life) (bytes : Vec ℕ Global) → len ≡ 0 → bytes.items ≡ [] → ReadsUpTo sum t cache offset len life life (Ok (bytes, 0))
reads_nothing sum t cache offset len life bytes none empty =
    let zero_len : min len (tail_size t - offset) ≡ 0 = omega (arith, none) in
    let lacks = missing_none cache t offset (min len (tail_size t - offset)) zero_len in (
      inl none,
      empty ∙ ap (λ n. slice (logical_bytes t life.present.readable) (offset, n)) (sym zero_len),
      sym zero_len,
      full_missing sum cache t ((offset, min len (tail_size t - offset)) ∷ []) [] life.present.readable lacks (λ page has. absurd (omega (arith, has.1))),
      none_failed_start life.present,
    )
