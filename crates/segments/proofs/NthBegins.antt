-- Where the nth frame begins.
use Rattle.std.proofs.Common.{◌≡◌, ◌<◌, ◌≤◌, ◌*◌, ◌+◌, ◌-◌, ◌∙◌, ℕ, List, length, drop, ap, refl, sym, subst, inl, inr, min, arith}
use Rattle.std.specs.Prelude.{Option, Some, None, IfSome, Result, Ok, Err, Vec}
use Rattle.std.specs.declared.alloc.Global.{Global}
use Rattle.std.proofs.lemmas.Bool.{cases_lt}
use Rattle.std.proofs.lemmas.Grind.{div_ceil_times}
use Rattle.journal.specs.Frame.{frame_len, record_len}
use Rattle.page_digests.specs.declared.error.Error.{Error}
use Rattle.page_digests.specs.Contents.{IsSameContent, PagedReadGoes, PagedState}
use Rattle.page_digests.specs.Pages.{pages_of_len, range_at}
use Rattle.page_digests.proofs.ContentReads.{content_after}
use Rattle.segments.specs.Marks.{begins_before, frame_begin}
use Rattle.segments.specs.MarkReads.{FirstGoes, IsCountStart, IsFirstFrom, MarksState, NthGoes, MarkedStartGoes}
use Rattle.segments.specs.PagedReads.{CanCountFrom, IsNthOffset}
use Rattle.segments.specs.Seeks.{CountGoes, CountsTo}
use Rattle.segments.specs.declared.marked.Begin.{Begin}
use Rattle.segments.proofs.Begins.{begins_apart, begins_in_order, begun_before}
use Rattle.segments.proofs.Behind.{length_read, same_content, verified_since}
use Rattle.segments.proofs.MarksRead.{mark_fails_since, marks_before, same_after}
use Rattle.segments.proofs.PagedFrames.{range_fails_before}
use Rattle.segments.proofs.Pushes.{next_frame}

-- ---- frames that are counted

-- of so many frames so many are left
pub record IsCounting (d : List ℕ → List ℕ) (first count : ℕ) (old now : PagedState) (left at : ℕ) : Type 0 where
  pub same : IsSameContent old now
  pub fewer : left ≤ count
  pub forward : first ≤ at
  pub counts : CountsTo d old.page_size old.seal first (count - left) at

pub counting_begins : (d : List ℕ → List ℕ) (first count : ℕ) (s : PagedState) → IsCounting d first count s s count first
counting_begins d first count s = record {
  same = same_content s;
  fewer = omega arith;
  forward = omega arith;
  counts = λ content its. inl (λ n begins. let none : n + (count - count) ≡ n = omega arith in ap (frame_begin content) none ∙ begins);
}

pub counting_more : (d : List ℕ → List ℕ) (first count : ℕ) (s t u : PagedState) (left at len : ℕ) (front : Vec ℕ Global) → 0 < left → len ≡ frame_len front.items → IsCounting d first count s t left at
    → PagedReadGoes d at 2 t u (Ok front) → IsCounting d first count s u (left - 1) (at + len)
counting_more d first count s t u left at len front some says is goes = record {
  same = content_after s t u is.same goes.same;
  fewer = let had = is.fewer in omega arith;
  forward = let had = is.forward in omega arith;
  counts = λ content its. elim (verified_since d s t (range_at at 2) front.items is.same goes.answers.1 content its) [
    | inr twin ↦ inr twin
    | inl read ↦
        elim (is.counts content its) [
          | inr twin ↦ inr twin
          | inl counts ↦ inl (λ n begins. one_more content n (counts n begins) read)
        ]
  ];
}
  where
    one_more : (content : List ℕ) (n : ℕ) → frame_begin content (n + (count - left)) ≡ at → front.items ≡ range_at at 2 content → frame_begin content (n + (count - (left - 1))) ≡ at + len
    one_more content n begins read =
        let same : n + (count - (left - 1)) ≡ n + (count - left) + 1 = let had = is.fewer in omega arith in
        let long : len ≡ frame_len (drop at content) = says ∙ ap (λ (k : ℕ). k + 7) (length_read content front.items at read) in
        ap (frame_begin content) same ∙ next_frame content (n + (count - left)) at begins ∙ (let e : at + record_len (drop at content) + 7 ≡ at + len = omega arith in e)

pub counting_fails : (d : List ℕ → List ℕ) (first count : ℕ) (s t u : PagedState) (left at : ℕ) (e : Error) → IsCounting d first count s t left at → PagedReadGoes d at 2 t u (Err e) → CountGoes d first count s u (Err e)
counting_fails d first count s t u left at e is goes = record {
  same = content_after s t u is.same goes.same;
  answers = (at, is.forward, range_fails_before d at 2 s t u e is.same goes.answers);
}

pub counting_ends : (d : List ℕ → List ℕ) (first count : ℕ) (s t : PagedState) (left at : ℕ) → (0 < left → s.seal.len ≤ at + 1) → IsCounting d first count s t left at → CountGoes d first count s t (Ok (left, at))
counting_ends d first count s t left at end is = record { same = is.same; answers = (is.fewer, is.forward, end, is.counts) }

-- ---- the begin

-- as many frames as are before the page are no more than n
no_more : (P : ℕ) (content : List ℕ) (n i : ℕ) → i * P ≤ frame_begin content n → begins_before content (i * P) ≤ n
no_more P content n i least = elim (cases_lt n (begins_before content (i * P))) [
  | inl less ↦ let before = begun_before content (i * P) n less in absurd (omega arith)
  | inr more ↦ more
]

-- the frame that is found
found_told : (content : List ℕ) (n m left there len : ℕ) (found : Option ℕ) → m ≤ n → len ≡ length content → left ≤ n - m → frame_begin content (m + (n - m - left)) ≡ there → (0 < left → len ≤ there + 1)
    → IfSome found (λ b. b ≡ there) → IfSome found (λ b. (left ≡ 0) × (there < len)) → (found ≡ None → left ≡ 0 → len ≤ there) → IsNthOffset content n found
found_told content n m left there len (Some b) fewer size most begins end is some none =
    let same : m + (n - m - left) ≡ n = let zero = some.0 in omega arith in
    (is ∙ sym begins ∙ ap (frame_begin content) same, (let within = some.1 in omega arith))
found_told content n m left there len None fewer size most begins end is some none = elim (cases_lt 0 left) [
  | inl more ↦
      let before : m + (n - m - left) < n = omega arith in
      let apart = begins_apart content (m + (n - m - left)) n before in
      let far = end more in
      omega arith
  | inr few ↦
      let zero : left ≡ 0 = omega arith in
      let same : m + (n - m - left) ≡ n = omega arith in
      let here : frame_begin content n ≡ there = ap (frame_begin content) (sym same) ∙ begins in
      let far = none refl zero in
      omega arith
]

-- none is, behind the content's end
none_told : (content : List ℕ) (n m left there len : ℕ) (found : Option ℕ) → m ≤ n → len ≡ length content → len ≤ frame_begin content m → len ≤ there → IfSome found (λ b. (left ≡ 0) × (there < len)) → IsNthOffset content n found
none_told content n m left there len (Some b) fewer size behind far some = absurd (let within = some.1 in omega arith)
none_told content n m left there len None fewer size behind far some = let order = begins_in_order content m n fewer in omega arith

-- it is counted to, from a begin on
pub counted_told : (content : List ℕ) (n left there len : ℕ) (b : Begin) (found : Option ℕ) → CanCountFrom content n b → len ≡ length content → b.offset ≤ there → left ≤ n - b.number → (0 < left → len ≤ there + 1)
    → ((m : ℕ) → frame_begin content m ≡ b.offset → frame_begin content (m + (n - b.number - left)) ≡ there) → IfSome found (λ k. k ≡ there) → IfSome found (λ k. (left ≡ 0) × (there < len)) → (found ≡ None → left ≡ 0 → len ≤ there)
    → IsNthOffset content n found
counted_told content n left there len b found (fewer, inl here) size forward most end counts is some none = found_told content n b.number left there len found fewer size most (counts b.number here) end is some none
counted_told content n left there len b found (fewer, inr far) size forward most end counts is some none =
    none_told content n b.number left there len found fewer size (let behind = far.1 in omega arith) (let behind = far.0 in omega arith) some

-- ---- from where it is counted

-- from the first frame of its page
pub can_count : (P : ℕ) (content : List ℕ) (n i : ℕ) (b : Begin) → 0 < P → IsCountStart P content n i b → CanCountFrom content n b
can_count P content n i b positive is =
    let m = begins_before content (i * P) in
    let fewer : m ≤ n = no_more P content n i is.page.least in
    let number : b.number ≡ m = is.first.number in
    let place : b.offset ≡ min (frame_begin content m) (pages_of_len P (length content) * P) = is.first.offset in
    let all : length content ≤ pages_of_len P (length content) * P = (div_ceil_times (length content) P positive).0 in (
      (let e : b.number ≤ n = omega arith in e),
      elim (cases_lt (frame_begin content m) (pages_of_len P (length content) * P)) [
        | inl within ↦ inl (ap (frame_begin content) number ∙ (let e : frame_begin content m ≡ b.offset = omega arith in e))
        | inr behind ↦ inr ((let e : length content ≤ b.offset = omega arith in e), subst (λ (k : ℕ). length content ≤ frame_begin content k) (sym number) (let e : length content ≤ frame_begin content m = omega arith in e))
      ],
    )

-- from the first frame of all
pub from_first : (content : List ℕ) (n : ℕ) → CanCountFrom content n (record { number = 0; offset = 0 })
from_first content n = ((let e : 0 ≤ n = omega arith in e), inl refl)

-- the page that was found is one of the content's
pub nth_within : (d : List ℕ → List ℕ) (n i : ℕ) (s t : MarksState) → NthGoes d n s t (Ok i) → i * t.bytes.page_size < t.len
nth_within d n i s t nth =
    subst (λ (P : ℕ). i * P < t.len) (sym nth.same.bytes.page_size) (subst (λ (k : ℕ). i * s.bytes.page_size < k) (sym nth.same.len) nth.answers.0)

-- a mark can't be read
pub start_page_fails : (d : List ℕ → List ℕ) (n : ℕ) (s t : MarksState) (e : Error) → 0 < s.bytes.page_size → NthGoes d n s t (Err e) → MarkedStartGoes d n s t (Err e)
start_page_fails d n s t e positive nth = record { positive = positive; same = nth.same; answers = nth.answers }

pub started : (d : List ℕ → List ℕ) (n i : ℕ) (s t u : MarksState) (r : Result Begin Error) → 0 < s.bytes.page_size → NthGoes d n s t (Ok i) → FirstGoes d i t u r → MarkedStartGoes d n s u r
started d n i s t u (Err e) positive nth first = record { positive = positive; same = same_after s t u nth.same first.same; answers = (first.answers.0, mark_fails_since d first.answers.0 s t u e nth.same first.answers.3) }
started d n i s t u (Ok b) positive nth first = record {
  positive = positive;
  same = same_after s t u nth.same first.same;
  answers = (
    i,
    λ content its. elim (nth.answers.1 content its) [
      | inr twin ↦ inr twin
      | inl page ↦
          elim (marks_before d s t (λ P x. IsFirstFrom P x i b) nth.same first.answers.3 content its) [
            | inr twin ↦ inr twin
            | inl begin ↦ inl (record { page = page; first = begin })
          ]
    ],
  );
}
