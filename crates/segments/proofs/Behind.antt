-- The first frame behind an offset.
use Rattle.std.proofs.Common.{◌≡◌, ◌⊎◌, ◌↔◌, ◌<◌, ◌≤◌, ◌*◌, ◌+◌, ◌-◌, ◌/◌, ◌∙◌, ℕ, suc, List, [], length, drop, append-nil, ap, length-drop, length-take, refl, sym, subst, inl, inr, min, arith, Bool}
use Rattle.std.specs.Prelude.{Ok, Err, Vec, IsTrue}
use Rattle.std.specs.declared.alloc.Global.{Global}
use Rattle.std.proofs.lemmas.Bool.{cases_lt}
use Rattle.std.proofs.lemmas.Grind.{div_ceil_times}
use Rattle.std.proofs.Math.Nat.{div-eq_of_lt-le, div-mul-le_self, lt-div-mul-add, suc-mul}
use Rattle.journal.specs.Frame.{frame_len, record_len}
use Rattle.journal.proofs.Frames.{record_len-take}
use Rattle.page_digests.specs.declared.error.Error.{Error}
use Rattle.page_digests.specs.declared.error.Error.TheVariants.{Damaged, OutOfMemory, System}
use Rattle.page_digests.specs.declared.seal.Seal.{Seal}
use Rattle.page_digests.specs.Contents.{IsSameContent, PagedReadGoes, PagedState, RangeAsks, RangeFails}
use Rattle.page_digests.specs.Pages.{pages_of_len, range_at}
use Rattle.page_digests.specs.Reads.{IsTouched, pages_touched}
use Rattle.page_digests.specs.Seals.{HasSecondPreimage, IsSealOf, IsVerified}
use Rattle.segments.specs.Marking.{FramesBegin}
use Rattle.segments.specs.Marks.{begins_before, frame_begin}
use Rattle.segments.specs.MarkReads.{FirstGoes, HasMarksPreimage, IsFirstFrom, MarksState}
use Rattle.segments.specs.Seeks.{AsksForOnePage, BehindGoes, IsBegin, IsBeginGoes, IsFirstBehind, LengthFails, PassGoes, PassesTo}
use Rattle.segments.specs.declared.marked.Begin.{Begin}
use Rattle.segments.proofs.Begins.{begins_apart, begun_before, count_is, length_in_page}
use Rattle.segments.proofs.Pushes.{begun_more, next_frame}

-- ---- frames that are passed

-- the page of a byte
page_is : (P page at : ℕ) → page * P ≤ at → at < page * P + P → at / P ≡ page
page_is P page at low high =
    let one : page + 1 ≡ suc page = omega arith in
    let step : (page + 1) * P ≡ page * P + P = ap (λ (k : ℕ). k * P) one ∙ suc-mul page P in
    let below : at < (page + 1) * P = omega arith in
    div-eq_of_lt-le P low below

-- a range in a page touches it alone
pub touches_one : (P page at n : ℕ) → page * P ≤ at → at + n < page * P + P → pages_touched P at (n + 1) ≡ 1
touches_one P page at n low high =
    let first : at / P ≡ page = page_is P page at low (omega arith) in
    let last : (at + n) / P ≡ page = page_is P page (at + n) (omega arith) high in
    let more : n + 1 ≡ suc n = omega arith in
    ap (pages_touched P at) more ∙ (let e : (at + n) / P - at / P + 1 ≡ 1 = omega (arith, first, last) in e)

pub same_content : (s : PagedState) → IsSameContent s s
same_content s = record { seal = refl; page_size = refl; reads = ([], sym (append-nil s.reads)); list_reads = ([], sym (append-nil s.list_reads)) }

-- so many frames are passed, by the bytes from the first on up to the offset's
pub record IsPassingTo (bytes : List ℕ) (first offset frames at : ℕ) : Type 0 where
  pub counted : frames * 7 + first ≤ at
  pub passed : (content : List ℕ) → offset < length content → bytes ≡ range_at first (offset + 1 - first) content → (n : ℕ) → frame_begin content n ≡ first → FramesBegin content offset n frames at

-- no frame is passed yet
none_passed : (content : List ℕ) (offset n first : ℕ) → frame_begin content n ≡ first → FramesBegin content offset n 0 first
none_passed content offset n first begins =
    let none : n + 0 ≡ n = omega arith in
    record { next = ap (frame_begin content) none ∙ begins; begun = λ m least most. absurd (omega arith) }

pub passing_begins : (bytes : List ℕ) (first offset : ℕ) → IsPassingTo bytes first offset 0 first
passing_begins bytes first offset = record { counted = omega arith; passed = λ content within is n begins. none_passed content offset n first begins }

-- what was read since a call began is of the content as it was then
pub verified_since : (d : List ℕ → List ℕ) (s t : PagedState) (of : List ℕ → List ℕ) (bytes : List ℕ) → IsSameContent s t → IsVerified d t.page_size t.seal of bytes → IsVerified d s.page_size s.seal of bytes
verified_since d s t of bytes same is =
    subst (λ (seal : Seal). IsVerified d s.page_size seal of bytes) same.seal (subst (λ (P : ℕ). IsVerified d P t.seal of bytes) same.page_size is)

-- a frame's length, by its first two bytes
pub length_read : (content front : List ℕ) (at : ℕ) → front ≡ range_at at 2 content → record_len front ≡ record_len (drop at content)
length_read content front at is =
    let two : 2 ≤ at + 2 - at = omega arith in
    ap record_len is ∙ record_len-take (at + 2 - at) (drop at content) two

-- the length of a frame that begins between, by these bytes
length_between : (content bytes : List ℕ) (first offset at skip : ℕ) → offset < length content → first ≤ at → at < offset → bytes ≡ range_at first (offset + 1 - first) content → skip ≡ min (at - first) (length bytes)
    → record_len (drop skip bytes) ≡ record_len (drop at content)
length_between content bytes first offset at skip within least most is says =
    let k = first + (offset + 1 - first) - first in
    let size : length bytes ≡ min k (length (drop first content)) = ap length is ∙ length-take k (drop first content) in
    let rest : length (drop first content) ≡ length content - first = length-drop first content in
    let here : skip ≡ at - first = omega arith in
    let place : first + skip ≡ at = omega arith in
    length_in_page content bytes first k skip is (omega arith) ∙ ap (λ (i : ℕ). record_len (drop i content)) place

pub passing_more : (bytes : List ℕ) (first offset frames at skip len : ℕ) → at < offset → skip ≡ min (at - first) (length bytes) → len ≡ frame_len (drop skip bytes) → IsPassingTo bytes first offset frames at
    → IsPassingTo bytes first offset (frames + 1) (at + len)
passing_more bytes first offset frames at skip len less skips says is = record {
  counted = let had = is.counted in omega arith;
  passed = λ content within range n begins.
      let passed = is.passed content within range n begins in
      let same : n + (frames + 1) ≡ n + frames + 1 = omega arith in
      let least : first ≤ at = let had = is.counted in omega arith in
      let long : len ≡ frame_len (drop at content) = says ∙ ap (λ (k : ℕ). k + 7) (length_between content bytes first offset at skip within least less range skips) in
      record {
        next = ap (frame_begin content) same ∙ next_frame content (n + frames) at passed.next ∙ (let e : at + record_len (drop at content) + 7 ≡ at + len = omega arith in e);
        begun = begun_more content offset n frames at passed less;
      };
}

-- the page of the range alone is asked for
between_asked : (first offset : ℕ) (s t : PagedState) → first < offset → RangeAsks first (offset + 1 - first) s t → AsksForOnePage first offset s t
between_asked first offset s t less asks page low high =
    let size : offset + 1 - first ≡ offset - first + 1 = omega arith in
    let one : pages_touched s.page_size first (offset + 1 - first) ≡ 1 = ap (pages_touched s.page_size first) size ∙ touches_one s.page_size page first (offset - first) low (omega arith) in
    let calls = asks.calls in
    omega (arith, calls, one)

-- the length of a frame that begins in the page that can't be read, or one byte before it
length_lost : (P first offset i : ℕ) → first < offset → IsTouched P first (offset + 1 - first) i → (at : ℕ) × (first ≤ at) × (at < offset) × IsTouched P at 2 i
length_lost P first offset i less touched = elim (cases_lt first (i * P)) [
  | inl more ↦ (i * P - 1, omega arith, omega (arith, touched.0), (omega arith, omega (arith, touched.1)))
  | inr before ↦ (first, omega arith, less, (omega arith, touched.1))
]

between_fails : (d : List ℕ → List ℕ) (first offset : ℕ) (s t : PagedState) (e : Error) → first < offset → RangeFails d first (offset + 1 - first) s t e → LengthFails d first offset s t e
between_fails d first offset s t Damaged less (i, touched, fails) =
    let lost = length_lost s.page_size first offset i less touched in (lost.0, lost.1, lost.2, (i, lost.3, fails))
between_fails d first offset s t (System x) less (i, touched, fails) =
    let lost = length_lost s.page_size first offset i less touched in (lost.0, lost.1, lost.2, (i, lost.3, fails))
between_fails d first offset s t OutOfMemory less fails = (first, omega arith, less, tt)

pub passing_fails : (d : List ℕ → List ℕ) (first offset : ℕ) (s t : PagedState) (e : Error) → first < offset → PagedReadGoes d first (offset + 1 - first) s t (Err e) → PassGoes d first offset s t (Err e)
passing_fails d first offset s t e less goes = record { same = goes.same; calls = between_asked first offset s t less goes.asks; answers = between_fails d first offset s t e less goes.answers }

-- no frame is before the offset
pub passing_none : (d : List ℕ → List ℕ) (first offset : ℕ) (s : PagedState) → offset ≤ first → PassGoes d first offset s s (Ok (0, first))
passing_none d first offset s done = record {
  same = same_content s;
  calls = λ page low high. omega arith;
  answers = (done, omega arith, λ content its. inl (λ n begins. none_passed content offset n first begins));
}

pub passing_ends : (d : List ℕ → List ℕ) (first offset : ℕ) (s t : PagedState) (bytes : Vec ℕ Global) (frames at : ℕ) → first < offset → offset < s.seal.len → PagedReadGoes d first (offset + 1 - first) s t (Ok bytes)
    → offset ≤ at → frames * 7 + first ≤ at
    → ((content : List ℕ) → offset < length content → bytes.items ≡ range_at first (offset + 1 - first) content → (n : ℕ) → frame_begin content n ≡ first → FramesBegin content offset n frames at)
    → PassGoes d first offset s t (Ok (frames, at))
passing_ends d first offset s t bytes frames at less within goes done counted passed = record {
  same = goes.same;
  calls = between_asked first offset s t less goes.asks;
  answers = (
    done,
    counted,
    λ content its. elim (goes.answers.1 content its) [
      | inr twin ↦ inr twin
      | inl read ↦ inl (λ n begins. passed content (omega (arith, within, its.len)) read n begins)
    ],
  );
}

-- ---- begins

-- an offset is in its page
in_page : (P offset : ℕ) → 0 < P → (offset / P * P ≤ offset) × (offset < offset / P * P + P)
in_page P offset positive = (div-mul-le_self offset P, lt-div-mul-add positive)

-- none begins in the page before the offset
at_once : (P : ℕ) (content : List ℕ) (i offset : ℕ) (b : Begin) → i * P ≤ offset → offset ≤ b.offset → IsFirstFrom P content i b → IsFirstBehind P content offset b
at_once P content i offset b before behind is =
    let n = begins_before content (i * P) in
    let there : b.offset ≡ min (frame_begin content n) (pages_of_len P (length content) * P) = is.offset in
    let same : n ≡ begins_before content offset = count_is content offset n (omega arith) (λ m less. let begun = begun_before content (i * P) m less in omega arith) in
    record { number = is.number ∙ same; there = there ∙ ap (λ (k : ℕ). min (frame_begin content k) (pages_of_len P (length content) * P)) same }

-- frames that begin in it before the offset are passed
by_frames : (P : ℕ) (content : List ℕ) (i offset frames there end : ℕ) (b c : Begin) → i * P ≤ offset → b.offset < offset → offset ≤ there → offset < end → end ≡ pages_of_len P (length content) * P
    → c.number ≡ b.number + frames → c.offset ≡ min there end → IsFirstFrom P content i b
    → ((n : ℕ) → frame_begin content n ≡ b.offset → FramesBegin content offset n frames there) → IsFirstBehind P content offset c
by_frames P content i offset frames there end b c before less behind within ends number place is passes =
    let n = begins_before content (i * P) in
    let begin : b.offset ≡ min (frame_begin content n) (pages_of_len P (length content) * P) = is.offset in
    let here : frame_begin content n ≡ b.offset = omega arith in
    let passed : FramesBegin content offset n frames there = passes n here in
    let next : frame_begin content (n + frames) ≡ there = passed.next in
    let all : (m : ℕ) → m < n + frames → frame_begin content m < offset = λ m most. elim (cases_lt m n) [
      | inl fewer ↦ let begun = begun_before content (i * P) m fewer in omega arith
      | inr more ↦ passed.begun m more most
    ] in
    let same : n + frames ≡ begins_before content offset = count_is content offset (n + frames) (omega arith) all in
    let count : c.number ≡ n + frames = number ∙ ap (λ (k : ℕ). k + frames) is.number in
    let far : frame_begin content (begins_before content offset) ≡ there = ap (frame_begin content) (sym same) ∙ next in
    record { number = count ∙ same; there = place ∙ (let e : min there end ≡ min (frame_begin content (begins_before content offset)) (pages_of_len P (length content) * P) = omega arith in e) }

-- the first begin of the page is behind the offset
pub behind_at_once : (d : List ℕ → List ℕ) (offset i : ℕ) (s t : MarksState) (c : PagedState) (b : Begin) → 0 < s.bytes.page_size → i ≡ offset / s.bytes.page_size → offset ≤ b.offset → FirstGoes d i s t (Ok b)
    → BehindGoes d offset s t c c (Ok b)
behind_at_once d offset i s t c b positive page behind goes = record {
  same = goes.same;
  content = same_content c;
  calls = omega arith;
  answers = λ content sealed its. elim (goes.answers.3 content its) [
    | inr twin ↦ inr (inr twin)
    | inl is ↦
        let P = s.bytes.page_size in
        let place : i * P ≡ offset / P * P = ap (λ (k : ℕ). k * P) page in
        let within = in_page P offset positive in
        inl (at_once P content i offset b (omega (arith, within.0)) behind is)
  ];
}

-- the page of the offset alone is asked for
page_asked : (d : List ℕ → List ℕ) (offset i : ℕ) (s t : MarksState) (c u : PagedState) (b : Begin) → 0 < s.bytes.page_size → i ≡ offset / s.bytes.page_size → c.page_size ≡ s.bytes.page_size
    → FirstGoes d i s t (Ok b) → AsksForOnePage b.offset offset c u → length u.reads ≤ length c.reads + 1
page_asked d offset i s t c u b positive page size goes asks =
    let P = s.bytes.page_size in
    let place : i * P ≡ offset / P * P = ap (λ (k : ℕ). k * P) page in
    let inside = in_page P offset positive in
    let least : i * P ≤ b.offset = goes.answers.1 in
    let most : offset < i * P + P = omega (arith, place, inside.1) in
    asks i (subst (λ (k : ℕ). i * k ≤ b.offset) (sym size) least) (subst (λ (k : ℕ). offset < i * k + k) (sym size) most)

-- no mark can be read
pub behind_unmarked : (d : List ℕ → List ℕ) (offset i : ℕ) (s t : MarksState) (c : PagedState) (e : Error) → i ≡ offset / s.bytes.page_size → FirstGoes d i s t (Err e) → BehindGoes d offset s t c c (Err e)
behind_unmarked d offset i s t c e page goes = record {
  same = goes.same;
  content = same_content c;
  calls = omega arith;
  answers = inl (goes.answers.0, subst (λ (k : ℕ). k ≤ goes.answers.0) page goes.answers.1, goes.answers.3);
}

-- a frame's length can't be read
pub behind_unread : (d : List ℕ → List ℕ) (offset i : ℕ) (s t : MarksState) (c u : PagedState) (b : Begin) (e : Error) → 0 < s.bytes.page_size → i ≡ offset / s.bytes.page_size → c.page_size ≡ s.bytes.page_size → FirstGoes d i s t (Ok b)
    → PassGoes d b.offset offset c u (Err e)
    → BehindGoes d offset s t c u (Err e)
behind_unread d offset i s t c u b e positive page size goes passes = record {
  same = goes.same;
  content = passes.same;
  calls = page_asked d offset i s t c u b positive page size goes passes.calls;
  answers = inr (
    b,
    (let least : i * s.bytes.page_size ≤ b.offset = goes.answers.1 in
        let place : i * s.bytes.page_size ≡ offset / s.bytes.page_size * s.bytes.page_size = ap (λ (k : ℕ). k * s.bytes.page_size) page in
        omega arith),
    (λ content its. subst (λ (k : ℕ). IsFirstFrom s.bytes.page_size content k b ⊎ HasMarksPreimage d s.bytes.page_size content) page (goes.answers.3 content its)),
    passes.answers,
  );
}

-- frames are passed up to the offset
pub behind_by_frames : (d : List ℕ → List ℕ) (offset i frames there end : ℕ) (s t : MarksState) (c u : PagedState) (b r : Begin) → 0 < s.bytes.page_size → i ≡ offset / s.bytes.page_size
    → offset < s.len → end ≡ pages_of_len s.bytes.page_size s.len * s.bytes.page_size → c.page_size ≡ s.bytes.page_size → b.offset < offset
    → r.number ≡ b.number + frames → r.offset ≡ min there end → FirstGoes d i s t (Ok b) → PassGoes d b.offset offset c u (Ok (frames, there)) → BehindGoes d offset s t c u (Ok r)
behind_by_frames d offset i frames there end s t c u b r positive page within ends size less number place goes passes = record {
  same = goes.same;
  content = passes.same;
  calls = page_asked d offset i s t c u b positive page size goes passes.calls;
  answers = λ content sealed its. elim (goes.answers.3 content its) [
    | inr twin ↦ inr (inr twin)
    | inl is ↦
        elim (passed content sealed) [
          | inr twin ↦ inr (inl twin)
          | inl begins ↦
              let P = s.bytes.page_size in
              let at : i * P ≡ offset / P * P = ap (λ (k : ℕ). k * P) page in
              let inside = in_page P offset positive in
              let all : s.len ≤ pages_of_len P s.len * P = (div_ceil_times s.len P positive).0 in
              let last : end ≡ pages_of_len P (length content) * P = ends ∙ ap (λ (k : ℕ). pages_of_len P k * P) its.len in
              inl (by_frames P content i offset frames there end b r (omega (arith, inside.0)) less passes.answers.0 (omega arith) last number place is begins)
        ]
  ];
}
  where
    passed : (content : List ℕ) → IsSealOf d s.bytes.page_size content c.seal
        → ((n : ℕ) → frame_begin content n ≡ b.offset → FramesBegin content offset n frames there) ⊎ HasSecondPreimage d s.bytes.page_size content
    passed = subst (λ (P : ℕ). PassesTo d P c.seal b.offset offset frames there) size passes.answers.2

-- ---- whether a frame begins at an offset

-- a frame begins at an offset if the first behind it does
pub begin_told : (content : List ℕ) (offset : ℕ) → IsBegin content offset → frame_begin content (begins_before content offset) ≡ offset
begin_told content offset (n, is) =
    let same : n ≡ begins_before content offset = count_is content offset n (omega arith) (λ m less. let before = begins_apart content m n less in omega arith) in
    ap (frame_begin content) (sym same) ∙ is

pub begin_is : (d : List ℕ → List ℕ) (offset : ℕ) (s t : MarksState) (c u : PagedState) (b : Begin) (is : Bool) → 0 < s.bytes.page_size → offset < s.len → IsTrue is ↔ (b.offset ≡ offset)
    → BehindGoes d offset s t c u (Ok b) → IsBeginGoes d offset s t c u (Ok is)
begin_is d offset s t c u b is positive within says goes = record {
  same = goes.same;
  content = goes.content;
  calls = goes.calls;
  answers = λ content sealed its. elim (goes.answers content sealed its) [
    | inr twin ↦ inr twin
    | inl first ↦
        let P = s.bytes.page_size in
        let all : s.len ≤ pages_of_len P s.len * P = (div_ceil_times s.len P positive).0 in
        let last : pages_of_len P s.len * P ≡ pages_of_len P (length content) * P = ap (λ (k : ℕ). pages_of_len P k * P) its.len in
        let there : b.offset ≡ min (frame_begin content (begins_before content offset)) (pages_of_len P (length content) * P) = first.there in
        inl (
          (λ yes. (begins_before content offset, (let at : b.offset ≡ offset = says.0 yes in omega arith))),
          (λ begin. says.1 (let at = begin_told content offset begin in omega arith)),
        )
  ];
}
