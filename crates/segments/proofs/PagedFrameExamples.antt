-- The content "abc" by pages of 32 bytes, as `ContentExamples.antt` of `page_digests` has it: it is
-- one frame, of which "ab" is the length, so that the frame is cut short.
use Rattle.std.proofs.Common.{◌≡◌, ◌⊎◌, ◌≤◌, ◌∙◌, ℕ, List, length, refl, ap, sym, subst, inl, inr, arith, lit<, lit≤}
use Rattle.std.specs.Prelude.{codes, Option, Some, None, Result, Ok, Err, min}
use Rattle.journal.specs.declared.frame.Found.{Found}
use Rattle.journal.specs.Frame.{frame_len, is_record, record_len, record_of}
use Rattle.journal.specs.Journal.{IsFound}
use Rattle.journal.proofs.Journals.{found}
use Rattle.page_digests.specs.declared.error.Error.{Error}
use Rattle.page_digests.specs.declared.error.Error.TheVariants.{Damaged, OutOfMemory}
use Rattle.page_digests.specs.Contents.{IsInCached, PagedReadGoes, PagedState, PageFails, RangeFails}
use Rattle.page_digests.specs.Pages.{range_at}
use Rattle.page_digests.specs.Seals.{HasSecondPreimage}
use Rattle.page_digests.proofs.ContentExamples.{but_both_are_right, damaged, its_page_is_wrong, less_is_read, more_is_read, opened, read, read_again}
use Rattle.page_digests.proofs.PageExamples.{first}
use Rattle.page_digests.proofs.SealExamples.{abc, it_has_no_twin, it_is_abc, it_is_its_seal, its_seal}
use Rattle.segments.specs.PagedFrames.{AsksForFrame, FrameAsks, FrameFails, PagedFrameAnswers, PagedFrameGoes, ReadsPagedFrame, WholeFrameFails, list_pages_touched}

-- ---- how much is read

-- 65 bytes have bytes of three pages, whose digests are three pages of the list
pub three_of_the_list : list_pages_touched 32 0 65 ≡ 3
three_of_the_list = refl

-- two of the digests are in one page of the list
pub one_of_the_list : list_pages_touched 64 0 65 ≡ 1
one_of_the_list = refl

pub none_of_the_list : list_pages_touched 32 5 0 ≡ 0
none_of_the_list = refl

-- its page is read once, though its length is read first
pub it_is_asked_for : AsksForFrame 0 3 opened read
it_is_asked_for = record {
  calls = lit≤ tt;
  list_calls = lit≤ tt;
  one_page = λ page begins ends. record { calls = lit≤ tt; list_calls = lit≤ tt; cached = λ is. absurd (cc is.cached) };
}

-- not once for its length, and once more
pub it_is_asked_for_twice : AsksForFrame 0 3 opened read_again → ⊥
it_is_asked_for_twice asks = omega (arith, (asks.one_page 0 (lit≤ tt) (lit≤ tt)).calls)

-- nor if its page is held
pub it_is_held : AsksForFrame 0 3 read read_again → ⊥
it_is_held asks =
    let held : IsInCached 0 3 read = record { page = 0; cached = refl; begins = lit≤ tt; ends = lit≤ tt } in
    omega (arith, ap (λ (s : PagedState). length s.reads) ((asks.one_page 0 (lit≤ tt) (lit≤ tt)).cached held))

-- ---- what is found

abbrev pub its_frame : Found
its_frame = record { bytes = None; end = 3 }

pub it_asks_for_its_page : FrameAsks 0 (Some its_frame) opened read
it_asks_for_its_page = it_is_asked_for

pub none_asks_for_nothing : FrameAsks 3 None opened opened
none_asks_for_nothing = refl

pub none_asks_for_a_page : FrameAsks 3 None opened read → ⊥
none_asks_for_a_page same = omega (arith, ap (λ (s : PagedState). length s.reads) same)

it_is_found : (own : List ℕ → ℕ) → IsFound own abc 0 None 3
unfolding record_len is_record record_of
it_is_found own = found own abc 0 3 abc None 3 refl (lit< tt) refl refl refl

pub it_is_its_frame : (own : List ℕ → ℕ) → ReadsPagedFrame first own 32 its_seal 0 (Some its_frame)
it_is_its_frame own = record {
  forward = lit< tt;
  within = lit≤ tt;
  none = λ is. absurd (cc is);
  reads = λ content is. inl (subst (λ (c : List ℕ). IsFound own c 0 None 3) (sym (it_is_abc content is)) (it_is_found own));
}

pub none_is_at_its_end : (own : List ℕ → ℕ) → ReadsPagedFrame first own 32 its_seal 3 None
none_is_at_its_end own = record {
  forward = tt;
  within = tt;
  none = λ is. lit≤ tt;
  reads = λ content is. inl (omega (arith, is.len));
}

pub none_is_before_its_end : (own : List ℕ → ℕ) → ReadsPagedFrame first own 32 its_seal 2 None → ⊥
none_is_before_its_end own is = omega (arith, is.none refl)

-- a frame that doesn't end behind its offset
pub it_stays : (own : List ℕ → ℕ) → ReadsPagedFrame first own 32 its_seal 0 (Some (record its_frame { end = 0 })) → ⊥
it_stays own is = omega (arith, is.forward)

-- a frame that ends behind the content
pub it_goes_on : (own : List ℕ → ℕ) → ReadsPagedFrame first own 32 its_seal 0 (Some (record its_frame { end = 4 })) → ⊥
it_goes_on own is = omega (arith, is.within)

-- a frame that is cut short is no record
pub it_is_a_record : (own : List ℕ → ℕ) (bytes : List ℕ) → ReadsPagedFrame first own 32 its_seal 0 (Some (record its_frame { bytes = Some bytes })) → ⊥
it_is_a_record own bytes is = by_case (is.reads abc it_is_its_seal)
  where
    by_case : IsFound own abc 0 (Some bytes) 3 ⊎ HasSecondPreimage first 32 abc → ⊥
    by_case (inl it) = cc (it.held ∙ sym ((it_is_found own).held))
    by_case (inr twin) = it_has_no_twin twin

-- ---- errors

-- its length was read, and then memory for its record was refused
pub its_record_is_refused : WholeFrameFails first 0 opened read OutOfMemory
unfolding record_len
its_record_is_refused = record {
  front = codes "ab";
  verified = λ content is. inl (ap (range_at 0 2) (sym (it_is_abc content is)));
  asks = it_is_asked_for;
  fails = tt;
}

-- the range from 0 on touches page 0 alone, which is right
none_is_wrong : (len : ℕ) → len ≤ 3 → RangeFails first 0 len opened read Damaged → ⊥
none_is_wrong len most (i, touched, fails) =
    let at : i ≡ 0 = omega (arith, touched.0, most) in
    but_both_are_right (subst (λ (k : ℕ). PageFails first k opened read Damaged) at fails)

pub though_its_page_is_right : WholeFrameFails first 0 opened read Damaged → ⊥
though_its_page_is_right is = none_is_wrong (min (frame_len is.front) 3) (omega arith) is.fails

its_length_is_damaged : PagedReadGoes first 0 2 opened damaged (Err Damaged)
its_length_is_damaged = record {
  same = record { seal = refl; page_size = refl; reads = (damaged.reads, refl); list_reads = more_is_read.list_reads };
  asks = record { calls = lit≤ tt; list_calls = lit≤ tt; cached = λ is. absurd (cc is.cached) };
  answers = (0, (lit< tt, lit< tt), its_page_is_wrong);
}

pub its_page_is_another : FrameFails first 0 opened damaged Damaged
its_page_is_another = record { begins = lit< tt; cause = inl its_length_is_damaged }

pub though_all_is_right : FrameFails first 0 opened read Damaged → ⊥
though_all_is_right is = by_case is.cause
  where
    by_case : PagedReadGoes first 0 2 opened read (Err Damaged) ⊎ WholeFrameFails first 0 opened read Damaged → ⊥
    by_case (inl goes) = none_is_wrong 2 (lit≤ tt) goes.answers
    by_case (inr fails) = though_its_page_is_right fails

-- at the end there is none that could be damaged
pub none_is_damaged : FrameFails first 3 opened damaged Damaged → ⊥
none_is_damaged is = omega (arith, is.begins)

-- ---- the answers

pub its_answer : (own : List ℕ → ℕ) → PagedFrameAnswers first own 0 opened read (Ok (Some its_frame))
its_answer own = (it_asks_for_its_page, it_is_its_frame own)

pub its_other_answer : (own : List ℕ → ℕ) → PagedFrameAnswers first own 0 opened damaged (Err Damaged)
its_other_answer own = its_page_is_another

pub none_for_an_answer : (own : List ℕ → ℕ) → PagedFrameAnswers first own 0 opened opened (Ok None) → ⊥
none_for_an_answer own (asks, is) = omega (arith, is.none refl)

pub it_is_read : (own : List ℕ → ℕ) → PagedFrameGoes first own 0 opened read (Ok (Some its_frame))
it_is_read own = record { same = more_is_read; answers = its_answer own }

-- reads aren't taken back
pub it_is_read_before : (own : List ℕ → ℕ) (result : Result (Option Found) Error) → PagedFrameGoes first own 0 read opened result → ⊥
it_is_read_before own result goes = less_is_read goes.same
