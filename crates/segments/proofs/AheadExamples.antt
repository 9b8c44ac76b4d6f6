-- Digests of the open segment's pages that are made ahead of its rotation: what each definition holds of, and what it
-- refuses. The open segment has one record, "c", whose frame has 8 bytes: two pages of 4 bytes, or a part of one of 18.
-- The digest of a string is its first 32 bytes, filled up with zeros.
use Rattle.std.specs.Prelude.{◌≡◌, ◌≤◌, ◌*◌, ◌++◌, ℕ, zero, suc, List, [], ◌∷◌, length, replicate, take, false, None, Some, Ok, Err}
use Rattle.std.proofs.Common.{refl, ap, arith, lit<, lit≤}
use Rattle.disk.specs.declared.error.Error.TheVariants.{OutOfMemory, WriteFailed}
use Rattle.paged_read.specs.Failures.{none_failed_start}
use Rattle.journal.specs.Frame.{record_len}
use Rattle.page_digests.specs.Seals.{EachIsByte}
use Rattle.page_digests.proofs.PageExamples.{first}
use Rattle.writer_state.specs.WriterState.{WriterState}
use Rattle.segments.specs.declared.error.Error.TheVariants as errors
use Rattle.segments.specs.Ahead.{AheadGoes, HasDigests, IsDigestedAhead, IsFurther, PagesGo, content_calls}
use Rattle.segments.specs.Marking.{IsMarked, MarkingState}
use Rattle.segments.specs.Owned.{OwnedState, without_journal}
use Rattle.segments.specs.SegmentLevels.{SegmentDigestingState}
use Rattle.segments.proofs.BytesExamples.{c_frame, c_page, resting, with_c, writer}

-- no page is digested or marked, by pages of 18 bytes
abbrev none_yet : SegmentDigestingState
none_yet = record { digested = record { pages = 0; list = [] }; marked = record { page_size = 18; pages = 0; marks = []; before = 0; skip = 0; is_cut = false } }

-- the first page of 4 bytes, in which the one frame begins, which ends 4 bytes behind it
abbrev its_mark : MarkingState
its_mark = record { page_size = 4; pages = 1; marks = replicate 8 0; before = 1; skip = 4; is_cut = false }

abbrev its_first : SegmentDigestingState
its_first = record { digested = record { pages = 1; list = first (0 ∷ 1 ∷ 99 ∷ 0 ∷ []) }; marked = its_mark }

-- a page that is counted and has no digest
abbrev counted : SegmentDigestingState
counted = record its_first { digested = record { pages = 1; list = [] } }

-- a page that has a digest and no mark
abbrev not_marked : SegmentDigestingState
not_marked = record its_first { marked = record { page_size = 4; pages = 0; marks = []; before = 0; skip = 0; is_cut = false } }

first_is_bytes : EachIsByte (take (1 * 4) c_frame)
first_is_bytes zero = lit< tt
first_is_bytes (suc zero) = lit< tt
first_is_bytes (suc (suc zero)) = lit< tt
first_is_bytes (suc (suc (suc zero))) = lit< tt
first_is_bytes (suc (suc (suc (suc i)))) = lit< tt

none_is_bytes : EachIsByte (take (0 * 18) c_frame)
none_is_bytes i = lit< tt

-- ---- what is digested

first_marked : (rest : List ℕ) → IsMarked (c_frame ++ rest) its_mark
unfolding record_len
first_marked rest = record { within = omega arith; marked = record { marks = refl; before = refl; next = refl } }

pub its_first_page : IsDigestedAhead first 4 c_frame its_first
its_first_page = record {
  digested = λ rest. record { page_size = refl; digested = record { list = refl; within = omega arith }; marked = first_marked rest; ahead = lit≤ tt };
  bytes = first_is_bytes;
}

pub without_its_digest : IsDigestedAhead first 4 c_frame counted → ⊥
without_its_digest is = omega (arith, ap length (is.digested []).digested.list)

pub without_its_mark : IsDigestedAhead first 4 c_frame not_marked → ⊥
without_its_mark is = omega (arith, (is.digested []).ahead)

-- a page holds bytes
pub a_page_of_numbers : (x : SegmentDigestingState) → x.digested.pages ≡ 1 → IsDigestedAhead first 1 (256 ∷ []) x → ⊥
a_page_of_numbers x one is = omega (arith, rw one at is.bytes 0)

none_marked : (rest : List ℕ) → IsMarked (c_frame ++ rest) none_yet.marked
unfolding record_len
none_marked rest = record { within = omega arith; marked = record { marks = refl; before = refl; next = refl } }

-- its content has no whole page of 18 bytes
pub none_is_whole : HasDigests first with_c none_yet
none_is_whole = record {
  digested = λ rest. record { page_size = refl; digested = record { list = refl; within = omega arith }; marked = none_marked rest; ahead = lit≤ tt };
  bytes = none_is_bytes;
}

pub a_part_is_counted : (list : List ℕ) → HasDigests first with_c (record none_yet { digested = record { pages = 1; list = list } }) → ⊥
a_part_is_counted list has = omega (arith, (has.digested []).digested.within)

-- where there is no journal nothing is asked
pub of_a_closed_one : (x : SegmentDigestingState) → HasDigests first (without_journal with_c) x
of_a_closed_one x = tt

-- ---- answers

pub none_was_read : PagesGo with_c with_c (Ok tt)
none_was_read = none_failed_start (resting c_page)

pub of_no_journal : (t : OwnedState) → PagesGo (without_journal with_c) t (Ok tt) → ⊥
of_no_journal t goes = goes

pub no_memory : PagesGo with_c with_c (Err (errors.Layer OutOfMemory))
no_memory = none_failed_start (resting c_page)

-- no write is made
pub no_write : (t : OwnedState) → PagesGo with_c t (Err (errors.Layer WriteFailed)) → ⊥
no_write t goes = goes

pub it_is_closed : AheadGoes 5 (without_journal with_c) (without_journal with_c) (Err errors.Closed)
it_is_closed = (refl, refl)

-- one that is open isn't called closed
pub it_is_open : (t : OwnedState) → AheadGoes 5 with_c t (Err errors.Closed) → ⊥
it_is_open t goes = absurd (cc goes.0)

-- ---- how many

pub one_more : IsFurther 2 with_c (record with_c { digested = 1 })
one_more = record { further = lit≤ tt; few = lit≤ tt }

pub more_than_that : IsFurther 2 with_c (record with_c { digested = 3 }) → ⊥
more_than_that is = omega (arith, is.few)

pub one_is_lost : IsFurther 2 (record with_c { digested = 1 }) with_c → ⊥
one_is_lost is = omega (arith, is.further)

-- its content has no whole page
pub none_is_asked_for : AheadGoes 2 with_c with_c (Ok tt)
none_is_asked_for = (record { further = lit≤ tt; few = lit≤ tt }, omega arith, none_failed_start (resting c_page))

-- two pages of 4 bytes, of which none is digested
pub nothing_is_done : (t : OwnedState) → t.digested ≡ 0 → AheadGoes 2 (record with_c { page_size = 4 }) t (Ok tt) → ⊥
nothing_is_done t none goes = let two : 2 ≤ t.digested = goes.1 in omega (arith, two, none)

-- ---- device calls

-- a journal of four whole pages of 4 bytes
abbrev in_pages : WriterState
in_pages = record (writer c_frame) { page_size = 4; full_pages = 4 }

pub a_call_for_each_page : content_calls (Some in_pages) (3, 6) ≡ 3
a_call_for_each_page = refl

pub one_for_a_whole_page : content_calls (Some in_pages) (4, 4) ≡ 2 → ⊥
one_for_a_whole_page two = let same : ◌≡◌ {A = ℕ} 1 2 = two in omega (arith, same)

pub none_without_a_journal : content_calls None (0, 4) ≡ 0
none_without_a_journal = refl
