-- What is kept of a closed segment: what each of these definitions holds of, and what it refuses. One segment is known by
-- its whole file, which is empty, or has the page of "c"; another by the pages of "abc". Two of the digests can be seen
-- through: `first` is the first 32 bytes, filled up with zeros, and `flat` is the same for all strings.
use Rattle.std.specs.Prelude.{◌≡◌, ◌≢◌, ℕ, List, [], ◌∷◌, length, Option, Some, None}
use Rattle.std.proofs.Common.{refl, sym, ◌∙◌, ap, subst, arith}
use Rattle.sha2.specs.Sha256.{sha256}
use Rattle.page.specs.Page.{text}
use Rattle.page.specs.Sums.{add_sum}
use Rattle.journal.specs.Frame.{frames, record_len, whole_frames}
use Rattle.page_digests.specs.Seals.{EachIsByte, IsSealOf}
use Rattle.page_digests.specs.declared.seal.Seal.{Seal}
use Rattle.page_digests.proofs.PageExamples.{first, flat}
use Rattle.page_digests.proofs.SealExamples.{abc, it_has_a_twin, it_has_no_twin, it_is_its_seal, its_root_tells, its_seal, not_that_of_xyz, xyz}
use Rattle.segments.specs.declared.closed.Closed.{Closed}
use Rattle.segments.specs.declared.closed.FileDigest.{FileDigest}
use Rattle.segments.specs.declared.closed.Fingerprint.{Fingerprint}
use Rattle.segments.specs.declared.closed.Fingerprint.TheVariants.{Whole, Paged}
use Rattle.segments.specs.declared.closed.PagedSeal.{PagedSeal}
use Rattle.segments.specs.Kept.{AreOfDigest, HasFileTwin, HasFingerprint, HasTwin, HasTwinBy, HasTwinOf, HoldsClosed, IsInFile, IsOf, IsOfDigest, IsSealedBy, IsTwin}
use Rattle.segments.specs.Manifest.{closed_by}
use Rattle.segments.specs.MarkReads.{marks_root_of}
use Rattle.segments.proofs.BytesExamples.{c_frame, c_page}

-- ---- bytes and twins

none_are_bytes : EachIsByte []
none_are_bytes i = omega arith

-- what is kept of a file of no bytes
abbrev pub empty_file : FileDigest
empty_file = record { len = 0; digest = sha256 [] }

pub of_no_bytes : IsOf [] empty_file
of_no_bytes = record { small = none_are_bytes; len = refl; digest = refl }

-- another length was kept
pub not_of_one_byte : IsOf (7 ∷ []) empty_file → ⊥
not_of_one_byte is = absurd (omega (arith, is.len))

-- other bytes with the digest are a twin
pub a_twin : (content other : List ℕ) → EachIsByte other → length other ≡ length content → other ≢ content → sha256 other ≡ sha256 content → IsTwin content other
a_twin content other small long differs same = record { small = small; len = long; differs = differs; same = same }

-- a content is no twin of itself
pub no_twin_of_itself : (content : List ℕ) → IsTwin content content → ⊥
no_twin_of_itself content is = is.differs refl

-- numbers that aren't bytes, though they have the digest, are none either
pub no_twin_of_numbers : IsTwin (1 ∷ 0 ∷ 0 ∷ 0 ∷ []) (0 ∷ 256 ∷ 0 ∷ 0 ∷ []) → ⊥
no_twin_of_numbers is = absurd (omega (arith, is.small 1))

pub has_a_twin : (content other : List ℕ) → IsTwin content other → HasTwin content
has_a_twin content other is = (other, is)

-- no bytes have a twin: it would have as many
pub none_has_no_twin : HasTwin [] → ⊥
none_has_no_twin has = none_other has.0 has.1.differs has.1.len where
  none_other : (other : List ℕ) → other ≢ [] → length other ≡ 0 → ⊥
  none_other [] differs few = differs refl
  none_other (b ∷ other) differs few = absurd (omega (arith, few))

pub few_have_no_twin : (bytes : List ℕ) → length bytes ≡ 0 → HasTwin bytes → ⊥
few_have_no_twin [] few has = none_has_no_twin has
few_have_no_twin (b ∷ bytes) few has = absurd (omega (arith, few))

-- ---- a content of a file

pub nothing_is_in_it : IsInFile add_sum 18 empty_file []
unfolding record_len frames whole_frames
nothing_is_in_it = record { bytes = []; of = of_no_bytes; holds = refl }

none_are_held : (bytes content : List ℕ) → length bytes ≡ 0 → content ≡ whole_frames (text add_sum 18 bytes) → content ≡ []
unfolding record_len frames whole_frames
none_are_held [] content few holds = holds
none_are_held (b ∷ bytes) content few holds = absurd (omega (arith, few))

-- a byte isn't
pub one_byte_is_not : (b : ℕ) → IsInFile add_sum 18 empty_file (b ∷ []) → ⊥
one_byte_is_not b is =
    let none = none_are_held is.bytes (b ∷ []) (sym is.of.len) is.holds in
    absurd (omega (arith, ap length none))

pub c_is_in_it : (kept : FileDigest) → IsOf c_page kept → IsInFile add_sum 18 kept c_frame
unfolding record_len frames whole_frames
c_is_in_it kept is = record { bytes = c_page; of = is; holds = refl }

pub its_file_has_a_twin : (kept : FileDigest) (other : List ℕ) → IsOf c_page kept → IsTwin c_page other → HasFileTwin add_sum 18 kept c_frame
unfolding record_len frames whole_frames
its_file_has_a_twin kept other is twin = record { holds = record { bytes = c_page; of = is; holds = refl }; twin = (other, twin) }

-- an empty file has none
pub an_empty_file_has_none : (sum : List ℕ → ℕ) (P : ℕ) (content : List ℕ) → HasFileTwin sum P empty_file content → ⊥
an_empty_file_has_none sum P content has = few_have_no_twin has.holds.bytes (sym has.holds.of.len) has.twin

-- ---- fingerprints

-- the seal of "abc" and the root of its marks, by the digest of number 1
abbrev pub abc_seal : PagedSeal
abc_seal = record { number = 1; seal = its_seal; marks = Some (marks_root_of first 32 abc) }

pub by_its_file : (d : List ℕ → List ℕ) → HasFingerprint add_sum d 18 (Whole empty_file) []
by_its_file d = nothing_is_in_it

pub by_no_file_of_its : (d : List ℕ → List ℕ) (b : ℕ) → HasFingerprint add_sum d 18 (Whole empty_file) (b ∷ []) → ⊥
by_no_file_of_its d b is = one_byte_is_not b is

pub by_its_pages : (sum : List ℕ → ℕ) → HasFingerprint sum first 32 (Paged abc_seal) abc
by_its_pages sum = it_is_its_seal

pub by_no_pages_of_its : (sum : List ℕ → ℕ) → HasFingerprint sum first 32 (Paged abc_seal) xyz → ⊥
by_no_pages_of_its sum is = not_that_of_xyz is

pub a_twin_by_its_file : (d : List ℕ → List ℕ) (kept : FileDigest) (other : List ℕ) → IsOf c_page kept → IsTwin c_page other → HasTwinBy add_sum d 18 (Whole kept) c_frame
a_twin_by_its_file d kept other is twin = its_file_has_a_twin kept other is twin

pub no_twin_by_its_file : (sum : List ℕ → ℕ) (d : List ℕ → List ℕ) (P : ℕ) (content : List ℕ) → HasTwinBy sum d P (Whole empty_file) content → ⊥
no_twin_by_its_file sum d P content has = an_empty_file_has_none sum P content has

pub a_twin_by_its_pages : (sum : List ℕ → ℕ) → HasTwinBy sum flat 32 (Paged abc_seal) abc
a_twin_by_its_pages sum = it_has_a_twin

-- by another digest there is none
pub no_twin_by_its_pages : (sum : List ℕ → ℕ) → HasTwinBy sum first 32 (Paged abc_seal) abc → ⊥
no_twin_by_its_pages sum has = it_has_no_twin has

-- ---- closed segments

-- a segment of no bytes, which is known by its whole file
abbrev pub empty : Closed
empty = closed_by 0 (Whole empty_file)

-- a segment of one record, whose content is "abc"
abbrev pub paged_abc : Closed
paged_abc = closed_by 1 (Paged abc_seal)

pub it_holds_nothing : (d : List ℕ → List ℕ) → HoldsClosed add_sum d 18 empty []
it_holds_nothing d = nothing_is_in_it

pub it_holds_no_byte : (d : List ℕ → List ℕ) (b : ℕ) → HoldsClosed add_sum d 18 empty (b ∷ []) → ⊥
it_holds_no_byte d b is = one_byte_is_not b is

pub it_holds_abc : (sum : List ℕ → ℕ) → HoldsClosed sum first 32 paged_abc abc
it_holds_abc sum = it_is_its_seal

pub it_does_not_hold_xyz : (sum : List ℕ → ℕ) → HoldsClosed sum first 32 paged_abc xyz → ⊥
it_does_not_hold_xyz sum is = not_that_of_xyz is

pub none_of_an_empty_file : (sum : List ℕ → ℕ) (d : List ℕ → List ℕ) (P : ℕ) (content : List ℕ) → HasTwinOf sum d P empty content → ⊥
none_of_an_empty_file sum d P content has = an_empty_file_has_none sum P content has

pub a_twin_of_c : (d : List ℕ → List ℕ) (records : ℕ) (kept : FileDigest) (other : List ℕ) → IsOf c_page kept → IsTwin c_page other
    → HasTwinOf add_sum d 18 (closed_by records (Whole kept)) c_frame
a_twin_of_c d records kept other is twin = its_file_has_a_twin kept other is twin

pub a_twin_of_abc : (sum : List ℕ → ℕ) → HasTwinOf sum flat 32 paged_abc abc
a_twin_of_abc sum = it_has_a_twin

pub no_twin_of_abc : (sum : List ℕ → ℕ) → HasTwinOf sum first 32 paged_abc abc → ⊥
no_twin_of_abc sum has = it_has_no_twin has

-- ---- sealed

pub it_was_sealed : IsSealedBy first 32 abc paged_abc
it_was_sealed = record { seal = abc_seal; is = refl; of = it_is_its_seal; apart = its_root_tells; marks = refl }

abbrev seal_in : Fingerprint → Seal
seal_in (Whole kept) = record { len = 0; root = [] }
seal_in (Paged kept) = kept.seal

-- a content that was changed
pub xyz_was_not_sealed : IsSealedBy first 32 xyz paged_abc → ⊥
xyz_was_not_sealed is = not_that_of_xyz (subst (λ (s : Seal). IsSealOf first 32 xyz s) (sym (ap seal_in is.is)) is.of)

abbrev marks_in : Fingerprint → Option (List ℕ)
marks_in (Whole kept) = None
marks_in (Paged kept) = kept.marks

-- the root of its marks wasn't kept
pub not_without_marks : IsSealedBy first 32 abc (closed_by 1 (Paged (record abc_seal { marks = None }))) → ⊥
not_without_marks is = let none : None ≡ Some (marks_root_of first 32 abc) = ap marks_in is.is ∙ is.marks in absurd (cc none)

-- a file's digest is no seal
pub a_file_is_not_sealed : (d : List ℕ → List ℕ) (P : ℕ) (content : List ℕ) → IsSealedBy d P content empty → ⊥
a_file_is_not_sealed d P content is = absurd (cc is.is)

-- ---- the digest of a log

pub a_file_is_read_with_any : (number : ℕ) → IsOfDigest number (Whole empty_file)
a_file_is_read_with_any number = tt

pub its_pages_are_of_number_1 : IsOfDigest 1 (Paged abc_seal)
its_pages_are_of_number_1 = refl

pub its_pages_are_of_no_other : IsOfDigest 2 (Paged abc_seal) → ⊥
its_pages_are_of_no_other is = let same : ◌≡◌ {A = ℕ} 1 2 = is in omega (arith, same)

pub both_are_read_with_it : AreOfDigest 1 (empty ∷ paged_abc ∷ [])
both_are_read_with_it = (tt, (refl, tt))

pub none_is_closed : (number : ℕ) → AreOfDigest number []
none_is_closed number = tt

-- the last one has another
pub one_is_of_another : AreOfDigest 2 (empty ∷ paged_abc ∷ []) → ⊥
one_is_of_another are = let same : ◌≡◌ {A = ℕ} 1 2 = are.1.0 in omega (arith, same)
