-- The zeros behind an entry that closes a segment.
use Rattle.std.specs.Prelude.{◌≡◌, ◌<◌, ◌≤◌, ◌+◌, ◌-◌, ◌%◌, ◌&&◌, ◌++◌, ℕ, List, zero, suc, length, Some, None, if◌then◌else◌, nat_lt, replicate}
use Rattle.std.proofs.Common.{ap, ap₂, inl, inr, sym, ◌∙◌, subst, arith, length-append}
use Rattle.std.proofs.Math.Nat.{mod-add-mod, mod-eq_of_lt, mod_self, add-mod_left, mod-lt}
use Rattle.std.proofs.lemmas.Bool.{cases_lt, lt-ltb, le-ltb}
use Rattle.std.proofs.lemmas.List.{length-replicate}
use Rattle.segments.specs.declared.closed.Closed.{Closed}
use Rattle.segments.specs.declared.closed.FileDigest.{FileDigest}
use Rattle.segments.specs.declared.closed.Fingerprint.TheVariants.{Whole, Paged}
use Rattle.segments.specs.declared.closed.PagedSeal.{PagedSeal}
use Rattle.segments.specs.declared.entry.Entry.TheVariants.{Closes}
use Rattle.segments.specs.Manifest.{closing_bytes, closing_len, entry_bytes, free_after, marks_root, padded, padding, paged_closing_len}

-- some zeros more, by how many bytes the last page has
more : (P size closing pad : ℕ) → (size + (closing + pad)) % P ≡ ((size % P + closing) % P + pad) % P
more P size closing pad =
    sym (mod-add-mod size P (closing + pad)) ∙ ap (λ n. n % P) (omega arith) ∙ sym (mod-add-mod (size % P + closing) P pad)

-- one byte of the last page is used
one_used : (P u : ℕ) → 18 < P → u < P → (P - u) % P < 18 → (u + ((P - u) % P + 1)) % P ≡ 1
one_used P zero big below few =
    let whole : P - 0 ≡ P = omega arith in
    let all : (P - 0) % P ≡ 0 = ap (λ n. n % P) whole ∙ mod_self P in
    ap (λ n. (0 + (n + 1)) % P) all ∙ mod-eq_of_lt (omega (arith, big))
one_used P (suc u) big below few =
    let same : (P - suc u) % P ≡ P - suc u = mod-eq_of_lt (omega (arith, below)) in
    ap (λ n. (suc u + (n + 1)) % P) same ∙ ap (λ n. n % P) (omega (arith, below)) ∙ add-mod_left P 1 ∙ mod-eq_of_lt (omega (arith, big))

-- behind the entry, and its zeros, is room for the entry of a drop
free_enough : (P size closing : ℕ) → 18 < P → 18 ≤ free_after P (size + (closing + padding P size closing))
free_enough P size closing big =
    let u = (size % P + closing) % P in
    let free = (P - u) % P in
    let below : u < P = mod-lt (size % P + closing) (omega (arith, big)) in
    elim (cases_lt free 18) [
      | inl few ↦
          let is : padding P size closing ≡ free + 1 = ap₂ (λ a b. if a && b then free + 1 else 0) (lt-ltb free 18 few) (lt-ltb 18 P big) in
          let used : (size + (closing + padding P size closing)) % P ≡ 1 = more P size closing (padding P size closing) ∙ ap (λ n. (u + n) % P) is ∙ one_used P u big below few in
          let left : free_after P (size + (closing + padding P size closing)) ≡ P - 1 = ap (λ n. (P - n) % P) used ∙ mod-eq_of_lt (omega (arith, big)) in
          omega (arith, left, big)
      | inr enough ↦
          let is : padding P size closing ≡ 0 = ap (λ a. if a && nat_lt 18 P then free + 1 else 0) (le-ltb free 18 enough) in
          let none : u + 0 ≡ u = omega arith in
          let used : (size + (closing + padding P size closing)) % P ≡ u = more P size closing (padding P size closing) ∙ ap (λ n. (u + n) % P) is ∙ ap (λ n. n % P) none ∙ mod-eq_of_lt below in
          let left : free_after P (size + (closing + padding P size closing)) ≡ free = ap (λ n. (P - n) % P) used in
          omega (arith, left, enough)
    ]

-- how long the frame of an entry is that closes a segment, by its pages and with marks
pub marked_len : (kept : Closed) (seal : PagedSeal) (marks : List ℕ) → kept.fingerprint ≡ Paged seal → seal.marks ≡ Some marks → length seal.seal.root ≡ 32 → length marks ≡ 32
    → length (entry_bytes (Closes kept)) + 7 ≡ closing_len kept.fingerprint
marked_len kept seal marks is marked long wide =
    let bytes : length (entry_bytes (Closes kept)) ≡ length (closing_bytes kept.records (Paged seal)) = ap (λ f. length (closing_bytes kept.records f)) is in
    let frame : closing_len kept.fingerprint ≡ 89 = ap (λ f. closing_len f) is ∙ ap (λ o. paged_closing_len o) marked in
    let parts : length (closing_bytes kept.records (Paged seal)) ≡ 18 + length (seal.seal.root ++ marks_root seal.marks) = omega arith in
    let root : length (seal.seal.root ++ marks_root seal.marks) ≡ length seal.seal.root + length (marks_root seal.marks) = length-append seal.seal.root (marks_root seal.marks) in
    let its : length (marks_root seal.marks) ≡ length marks = ap (λ o. length (marks_root o)) marked in
    omega (arith, bytes, frame, parts, root, its, long, wide)

-- the same without marks
pub paged_len : (kept : Closed) (seal : PagedSeal) → kept.fingerprint ≡ Paged seal → seal.marks ≡ None → length seal.seal.root ≡ 32 → length (entry_bytes (Closes kept)) + 7 ≡ closing_len kept.fingerprint
paged_len kept seal is unmarked long =
    let bytes : length (entry_bytes (Closes kept)) ≡ length (closing_bytes kept.records (Paged seal)) = ap (λ f. length (closing_bytes kept.records f)) is in
    let frame : closing_len kept.fingerprint ≡ 57 = ap (λ f. closing_len f) is ∙ ap (λ o. paged_closing_len o) unmarked in
    let parts : length (closing_bytes kept.records (Paged seal)) ≡ 18 + length (seal.seal.root ++ marks_root seal.marks) = omega arith in
    let root : length (seal.seal.root ++ marks_root seal.marks) ≡ length seal.seal.root + length (marks_root seal.marks) = length-append seal.seal.root (marks_root seal.marks) in
    let its : length (marks_root seal.marks) ≡ 0 = ap (λ o. length (marks_root o)) unmarked in
    omega (arith, bytes, frame, parts, root, its, long)

-- by the whole file
pub whole_len : (kept : Closed) (file : FileDigest) → kept.fingerprint ≡ Whole file → length file.digest ≡ 32 → length (entry_bytes (Closes kept)) + 7 ≡ closing_len kept.fingerprint
whole_len kept file is long =
    let bytes : length (entry_bytes (Closes kept)) ≡ length (closing_bytes kept.records (Whole file)) = ap (λ f. length (closing_bytes kept.records f)) is in
    let frame : closing_len kept.fingerprint ≡ 56 = ap (λ f. closing_len f) is in
    let all : length (closing_bytes kept.records (Whole file)) ≡ 49 = omega (arith, long) in
    omega (arith, bytes, frame, all)

pub room_after : (P size now : ℕ) (kept : Closed) → length (entry_bytes (Closes kept)) + 7 ≡ closing_len kept.fingerprint → now ≡ size + (length (padded P size (Closes kept)) + 7) → 18 < P
    → 18 ≤ free_after P now
room_after P size now kept long is big =
    let closing = closing_len kept.fingerprint in
    let zeros = padding P size closing in
    let joined : length (padded P size (Closes kept)) ≡ length (entry_bytes (Closes kept)) + zeros =
    length-append (entry_bytes (Closes kept)) (replicate zeros 0) ∙ ap (λ n. length (entry_bytes (Closes kept)) + n) (length-replicate zeros 0) in
    let same : now ≡ size + (closing + zeros) = omega (arith, is, joined, long) in
    subst (λ n. 18 ≤ free_after P n) (sym same) (free_enough P size closing big)
