-- What the sealing of a segment leaves, and the writing of its list: what each definition holds of, and what it refuses.
-- The open segment 0 has one record, "c", and its content is the record's frame, 8 bytes; a page has 18. The digest of a
-- string is its first 32 bytes, filled up with zeros, or the same for all strings, or the string itself.
use Rattle.std.specs.Prelude.{◌≡◌, ◌++◌, ℕ, zero, suc, List, [], ◌∷◌, length, get_or, replicate, None, Some, Ok, Err, Bool, false, true}
use Rattle.std.proofs.Common.{refl, ap, inl, inr, arith, lit<, ◌∙◌, subst, sym}
use Rattle.disk.specs.Disk.{Life}
use Rattle.disk.specs.declared.error.Error.TheVariants.{OutOfMemory, WriteFailed}
use Rattle.std.specs.declared.io.Error.{Error as IoError}
use Rattle.page.specs.Sums.{add_sum}
use Rattle.paged_read.specs.Failures.{none_failed_start}
use Rattle.journal.specs.Frame.{frames, is_record, record_len, record_of, records}
use Rattle.page_digests.specs.Pages.{list_of}
use Rattle.page_digests.specs.Seals.{EachIsByte, TellsApart}
use Rattle.page_digests.proofs.PageExamples.{first, flat, sized_first}
use Rattle.page_digests.proofs.Twins.{told_apart}
use Rattle.segments.specs.declared.call.FolderCall.{FolderCall}
use Rattle.segments.specs.declared.call.FolderCall.TheVariants as calls
use Rattle.segments.specs.declared.closed.Closed.{Closed}
use Rattle.segments.specs.declared.closed.Fingerprint.TheVariants.{Paged}
use Rattle.segments.specs.declared.error.Error.TheVariants as errors
use Rattle.segments.specs.FolderEvents.{FolderEvent, closing_event, opening_with, plain_event, writing_event}
use Rattle.segments.specs.Manifest.{closed_by, none_closed}
use Rattle.segments.specs.SegmentLevels.{AreSegmentLevels, levels_bytes}
use Rattle.segments.specs.declared.segment_digesting.SegmentLevels.{SegmentLevels}
use Rattle.segments.specs.Owned.{DigestsFail, IsUndigested, LevelsGo, OwnedContentGoes, OwnedSealGoes, OwnedState, without_journal}
use Rattle.segments.specs.Log.{CloseCurrentGoes, HasOpenTwin, IsNotWritten, IsClosedAs, ListRefused, LogState, WasClosed, WriteListGoes, asked_listing, asked_turning, listing_event}
use Rattle.segments.proofs.BytesExamples.{c_frame, c_life, c_page, d_frame, resting, with_c, with_none, writer}
use Rattle.segments.proofs.OwnedExamples.{all_is_durable}

abbrev closed : OwnedState
closed = without_journal with_c

-- a log whose open segment has "c", and an empty manifest
abbrev pub with_one : LogState
with_one = record { manifest = with_none; current = with_c; listing = none_closed; asked = []; reading = record { whole = None; paged = [] }; page_size = 18; most = 100; known = 0 }

-- the same, whose open segment was closed
abbrev pub none_open : List FolderEvent → LogState
none_open asked = record with_one { current = closed; asked = asked }

-- which call comes first, as a number
abbrev kind : FolderCall → ℕ
kind (calls.Keeps segment len) = 0
kind (calls.Removes segment) = 1
kind calls.Syncs = 2
kind calls.OpensManifest = 3
kind (calls.Opens segment) = 4
kind (calls.Closes segment) = 5
kind (calls.WritesList segment) = 6

abbrev first_kind : List FolderEvent → ℕ
first_kind [] = 9
first_kind (e ∷ es) = kind e.call

-- and whether it failed
abbrev flag : Bool → ℕ
flag false = 0
flag true = 1

abbrev first_failed : List FolderEvent → ℕ
first_failed [] = 9
first_failed (e ∷ es) = flag e.failed

c_is_bytes : EachIsByte c_frame
c_is_bytes zero = lit< tt
c_is_bytes (suc zero) = lit< tt
c_is_bytes (suc (suc zero)) = lit< tt
c_is_bytes (suc (suc (suc zero))) = lit< tt
c_is_bytes (suc (suc (suc (suc zero)))) = lit< tt
c_is_bytes (suc (suc (suc (suc (suc zero))))) = lit< tt
c_is_bytes (suc (suc (suc (suc (suc (suc zero)))))) = lit< tt
c_is_bytes (suc (suc (suc (suc (suc (suc (suc zero))))))) = lit< tt
c_is_bytes (suc (suc (suc (suc (suc (suc (suc (suc i)))))))) = lit< tt

d_is_bytes : EachIsByte d_frame
d_is_bytes zero = lit< tt
d_is_bytes (suc zero) = lit< tt
d_is_bytes (suc (suc zero)) = lit< tt
d_is_bytes (suc (suc (suc zero))) = lit< tt
d_is_bytes (suc (suc (suc (suc zero)))) = lit< tt
d_is_bytes (suc (suc (suc (suc (suc zero))))) = lit< tt
d_is_bytes (suc (suc (suc (suc (suc (suc zero)))))) = lit< tt
d_is_bytes (suc (suc (suc (suc (suc (suc (suc zero))))))) = lit< tt
d_is_bytes (suc (suc (suc (suc (suc (suc (suc (suc i)))))))) = lit< tt

-- ---- reads within a content

pub two_bytes_were_read : OwnedContentGoes 0 (7 ∷ 7 ∷ []) (0 ∷ 1 ∷ []) with_c with_c (Ok tt)
two_bytes_were_read = record { answers = (refl, none_failed_start (resting c_page)); size = refl }

-- other bytes stand there
pub others_were_read : OwnedContentGoes 0 (7 ∷ 7 ∷ []) (0 ∷ 2 ∷ []) with_c with_c (Ok tt) → ⊥
others_were_read is = omega (arith, ap (λ (l : List ℕ). get_or l 1 0) is.answers.0)

pub a_read_of_a_closed_one : OwnedContentGoes 0 (7 ∷ []) (7 ∷ []) closed closed (Err errors.Closed)
a_read_of_a_closed_one = (refl, refl)

-- one that is open isn't called closed
pub it_is_called_closed : OwnedContentGoes 0 (7 ∷ []) (7 ∷ []) with_c with_c (Err errors.Closed) → ⊥
it_is_called_closed is = absurd (cc is.0)

-- ---- digests

pub no_memory : DigestsFail with_c with_c (errors.Layer OutOfMemory)
no_memory = (c_life, none_failed_start (resting c_page))

-- no write is made
pub no_write : DigestsFail with_c with_c (errors.Layer WriteFailed) → ⊥
no_write fails = fails.1

pub there_is_no_journal : DigestsFail closed closed errors.Closed
there_is_no_journal = refl

pub there_is_one : DigestsFail with_c with_c errors.Closed → ⊥
there_is_one fails = absurd (cc fails)

module _ (l : SegmentLevels) where
  its_root_tells : AreSegmentLevels first 18 c_frame l → TellsApart first 18 c_frame l.content.root
  its_root_tells are =
      told_apart first sized_first 18 c_frame l.content.root c_is_bytes (subst EachIsByte are.of.list are.of.bytes.0) (subst EachIsByte are.of.top are.of.bytes.1) (lit< tt) are.of.root

  pub they_go : AreSegmentLevels first 18 c_frame l → LevelsGo first with_c with_c (Ok l)
  they_go are = (tt, are, its_root_tells are)

  -- without a journal there are none
  pub of_a_closed_one : LevelsGo first closed closed (Ok l) → ⊥
  of_a_closed_one goes = goes.0

  -- the list of another content
  pub they_are_of_d : l.content.list.items ≡ list_of first 18 d_frame → LevelsGo first with_c with_c (Ok l) → ⊥
  they_are_of_d is goes = omega (arith, ap (λ (bytes : List ℕ). get_or bytes 2 0) (sym is ∙ goes.1.of.list))

  -- its one page has a mark
  pub they_have_no_mark : l.marks.list.items ≡ [] → LevelsGo first with_c with_c (Ok l) → ⊥
  they_have_no_mark is goes = let few : ◌≡◌ {A = ℕ} 0 8 = ap length (sym is ∙ goes.1.marks.list) in omega (arith, few)

  -- ---- a journal that is sealed

  pub it_was_sealed : AreSegmentLevels first 18 c_frame l → OwnedSealGoes first add_sum add_sum with_c closed (Ok l)
  unfolding record_len is_record record_of frames records
  it_was_sealed are = (all_is_durable, are, its_root_tells are)

  -- not with the levels of another content
  pub it_was_sealed_as_d : l.content.list.items ≡ list_of first 18 d_frame → OwnedSealGoes first add_sum add_sum with_c closed (Ok l) → ⊥
  it_was_sealed_as_d is goes = omega (arith, ap (λ (bytes : List ℕ). get_or bytes 2 0) (sym is ∙ goes.1.of.list))

  -- nor with those over no marks
  pub it_was_sealed_unmarked : l.marks.list.items ≡ [] → OwnedSealGoes first add_sum add_sum with_c closed (Ok l) → ⊥
  it_was_sealed_unmarked is goes = let few : ◌≡◌ {A = ℕ} 0 8 = ap length (sym is ∙ goes.1.marks.list) in omega (arith, few)

pub it_was_not_digested : IsUndigested add_sum add_sum 18 (writer c_frame) c_life c_life OutOfMemory
unfolding record_len is_record record_of frames records
it_was_not_digested = record { shut = all_is_durable; cause = (c_life, none_failed_start (resting c_page)) }

-- a write that failed is one of the commit
pub by_a_write : IsUndigested add_sum add_sum 18 (writer c_frame) c_life c_life WriteFailed → ⊥
by_a_write is = is.cause.1

pub it_was_not_sealed : (d : List ℕ → List ℕ) → OwnedSealGoes d add_sum add_sum with_c closed (Err (errors.Layer OutOfMemory))
it_was_not_sealed d = inr it_was_not_digested

-- a log has no folder's error for it
pub by_another_error : (d : List ℕ → List ℕ) → OwnedSealGoes d add_sum add_sum with_c closed (Err errors.Manifest) → ⊥
by_another_error d is = is

-- ---- the open segment of a log

module _ (l : SegmentLevels) where
  -- what is kept of it
  abbrev its_seal : (count len : ℕ) → Closed
  its_seal count len = closed_by count (Paged (record { number = 7; seal = record { len = len; root = l.content.root }; marks = Some l.marks.root }))

  pub it_was_closed : AreSegmentLevels first 18 c_frame l → WasClosed add_sum add_sum first with_one c_life (its_seal 1 8)
  unfolding record_len is_record record_of frames records
  it_was_closed are = record {
    was_open = tt;
    shut = all_is_durable;
    of = record {
      seal = record { number = 7; seal = record { len = 8; root = l.content.root }; marks = Some l.marks.root };
      is = refl;
      of = record { len = refl; root = are.of.root };
      apart = its_root_tells l are;
      marks = ap Some (are.marks.root ∙ ap first are.marks.top);
    };
    counts = refl;
  }

  -- one record more was kept than it had
  pub one_more_was_kept : (len : ℕ) → WasClosed add_sum add_sum first with_one c_life (its_seal 2 len) → ⊥
  unfolding record_len is_record record_of frames records
  one_more_was_kept len is = let same : ◌≡◌ {A = ℕ} 2 1 = is.counts in omega (arith, same)

  pub it_is_sealed : AreSegmentLevels first 18 c_frame l → IsClosedAs add_sum add_sum first with_one c_life (its_seal 1 8) l
  it_is_sealed are = record { closed = it_was_closed are; levels = are }

  -- the levels are those of another content
  pub it_is_sealed_as_d : (kept : Closed) → l.content.list.items ≡ list_of first 18 d_frame → IsClosedAs add_sum add_sum first with_one c_life kept l → ⊥
  it_is_sealed_as_d kept is sealed = omega (arith, ap (λ (bytes : List ℕ). get_or bytes 2 0) (sym is ∙ sealed.levels.of.list))

  pub it_closes : AreSegmentLevels first 18 c_frame l → CloseCurrentGoes add_sum add_sum first with_one (none_open []) (Ok (its_seal 1 8, l))
  it_closes are = it_is_sealed are

  pub it_counts_one_more : (len : ℕ) → CloseCurrentGoes add_sum add_sum first with_one (none_open []) (Ok (its_seal 2 len, l)) → ⊥
  it_counts_one_more len is = one_more_was_kept len is.closed

  -- ---- its list

  pub it_was_written : WriteListGoes l with_one (record with_one { asked = writing_event 0 (levels_bytes l) false ∷ [] }) (Ok tt)
  it_was_written = refl

  -- the folder was asked for nothing
  pub nothing_was_written : WriteListGoes l with_one with_one (Ok tt) → ⊥
  nothing_was_written is = omega (arith, ap length is)

  -- and where it refused, the record says so
  pub a_refusal_is_told : WriteListGoes l with_one (record with_one { asked = writing_event 0 (levels_bytes l) true ∷ [] }) (Ok tt) → ⊥
  a_refusal_is_told is = omega (arith, ap first_failed is)

pub it_is_closed_already : (sum own : List ℕ → ℕ) (d : List ℕ → List ℕ) → CloseCurrentGoes sum own d (none_open []) (none_open []) (Err errors.Closed)
it_is_closed_already sum own d = (refl, refl)

-- its list of one page, its top of two, its mark, and the digest of that
pub all_its_levels : listing_event flat with_one false ≡ writing_event 0 (flat [] ++ (flat [] ++ flat []) ++ replicate 8 0 ++ flat []) false
all_its_levels = refl

-- not without the marks
pub not_without_its_marks : listing_event flat with_one false ≡ writing_event 0 (flat [] ++ flat [] ++ flat []) false → ⊥
not_without_its_marks is = omega (arith, ap (λ (e : FolderEvent). length e.given) is)

-- not the list alone
pub not_the_list_alone : listing_event flat with_one false ≡ writing_event 0 (flat []) false → ⊥
not_the_list_alone is = omega (arith, ap (λ (e : FolderEvent). length e.given) is)

pub its_list_was_asked_for : asked_listing flat with_one ≡ listing_event flat with_one false ∷ []
its_list_was_asked_for = refl

-- a refused list is no list
pub not_by_a_refusal : asked_listing flat with_one ≡ listing_event flat with_one true ∷ [] → ⊥
not_by_a_refusal is = omega (arith, ap first_failed is)

-- the list, the next file, its name, and then the closed blob
pub asked_in_order : (last : Life)
    → asked_turning flat with_one last ≡ listing_event flat with_one false ∷ opening_with (calls.Opens 1) [] ∷ plain_event calls.Syncs false ∷ closing_event 0 last [] ∷ []
asked_in_order last = refl

-- the list isn't written last
pub not_last : (d : List ℕ → List ℕ) (last : Life) → asked_turning d with_one last ≡ opening_with (calls.Opens 1) [] ∷ plain_event calls.Syncs false ∷ closing_event 0 last [] ∷ listing_event d with_one false ∷ [] → ⊥
not_last d last is = omega (arith, ap first_kind is)

-- ---- a rotation that failed as the list was written

module _ (e : IoError) where
  pub it_was_refused : ListRefused flat with_one (none_open (listing_event flat with_one true ∷ [])) (errors.System e)
  it_was_refused = refl

  -- not without the call
  pub not_unasked : ListRefused flat with_one (none_open []) (errors.System e) → ⊥
  not_unasked is = omega (arith, ap length is)

  pub not_written : IsNotWritten add_sum add_sum flat with_one (none_open (listing_event flat with_one true ∷ [])) (errors.System e)
  unfolding record_len is_record record_of frames records
  not_written = record {
    shut = all_is_durable;
    manifest = refl;
    rest = record { listing = refl; reading = refl; page_size = refl; most = refl; known = refl };
    refused = refl;
  }

  -- the manifest may not be touched
  pub no_manifest_is_touched : (asked : List FolderEvent)
      → IsNotWritten add_sum add_sum flat with_one (record (none_open asked) { manifest = without_journal with_none }) (errors.System e) → ⊥
  no_manifest_is_touched asked is = absurd (cc (ap (λ (o : OwnedState). o.journal) is.manifest))

-- the device isn't asked
pub not_by_the_device : (d : List ℕ → List ℕ) (t : LogState) → ListRefused d with_one t (errors.Layer WriteFailed) → ⊥
not_by_the_device d t is = is

-- ---- second preimages of the open segment

-- every string of its length has the digest
pub it_has_a_twin : HasOpenTwin flat (λ n. c_frame) with_one
it_has_a_twin = inr (inr (
  0,
  d_frame,
  lit< tt,
  record {
    small = d_is_bytes;
    differ = λ same. omega (arith, ap (λ (bytes : List ℕ). get_or bytes 2 0) same);
    len = refl;
    digest = refl;
  },
))

-- a string that is its own digest has no other
pub it_has_none : (held : ℕ → List ℕ) → HasOpenTwin (λ bytes. bytes) held with_one → ⊥
it_has_none held (inl (other, is)) = is.differ is.digest
it_has_none held (inr (inl (i, other, within, is))) = is.differ is.digest
it_has_none held (inr (inr (i, other, within, is))) = is.differ is.digest
