-- Marks that are read by their pages.
use Rattle.std.proofs.Common.{◌≡◌, ◌⊎◌, ◌<◌, ◌≤◌, ◌*◌, ◌+◌, ◌-◌, ◌/◌, ◌∙◌, ℕ, suc, List, [], length, take, drop, append-nil, ap, ap₂, refl, sym, subst, inl, inr, min, arith}
use Rattle.std.specs.Prelude.{Ok, Err}
use Rattle.page_digests.specs.declared.error.Error.{Error}
use Rattle.page_digests.specs.PagedBytes.{BytesGoes, BytesState, IsKnown}
use Rattle.page_digests.specs.Pages.{list_len, list_of, pages_of_len, range_at}
use Rattle.page_digests.specs.Reads.{IsReadOn, IsTouched, pages_touched}
use Rattle.std.proofs.lemmas.Bool.{cases_lt}
use Rattle.std.proofs.lemmas.Nat.{div_below, le-div}
use Rattle.std.proofs.Math.Nat.{lt-div-mul-add, mul-le-mul_right, suc-mul}
use Rattle.page_digests.proofs.BytesReads.{bytes_after, page_fails_before}
use Rattle.page_digests.proofs.Paging.{page_below, page_within}
use Rattle.page_digests.proofs.Twins.{judged, length-list_of}
use Rattle.segments.specs.Marks.{begins_before, frame_begin, mark_at, mark_bytes, marks_of}
use Rattle.segments.specs.MarkReads.{AreMarks, AreSameMarks, FirstGoes, HasMarks, HasMarksPreimage, IsOfMarks, MarkFails, MarkGoes, MarksState, ReadsMarks, mark_reads}
use Rattle.segments.specs.declared.mark.Mark.{Mark}
use Rattle.segments.specs.declared.marked.Begin.{Begin}
use Rattle.segments.proofs.Begins.{begun_before, count_is, next_begin}
use Rattle.segments.proofs.MarkBytes.{length-marks, mark_in, mark_told}

-- what the parts of marks say of them
pub record ArePartsOf (P n : ℕ) (s : MarksState) : Type 0 where
  pub positive : 0 < s.bytes.page_size
  pub small : s.bytes.page_size < 65536
  pub page_size : P ≡ s.bytes.page_size
  pub len : n ≡ s.len
  pub fits : s.len < 1125899906842624

pub parts_of : (d : List ℕ → List ℕ) (P : ℕ) (m s : MarksState) → AreMarks d P m → m ≡ s → ArePartsOf P m.len s
parts_of d P m s is same = subst (ArePartsOf P m.len) same (record {
  positive = subst (λ (p : ℕ). 0 < p) (sym is.page_size) is.positive;
  small = subst (λ (p : ℕ). p < 65536) (sym is.page_size) is.small;
  page_size = sym is.page_size;
  len = refl;
  fits = is.fits;
})

-- the bytes of mark i are within the marks
pub mark_within : (P len i : ℕ) → 0 < P → i * P < len → i * 8 + 8 ≤ pages_of_len P len * 8
mark_within P len i positive within = let below = page_below P len i positive within in omega (arith, below)

-- nothing is read of no bytes
none_read : (P at count : ℕ) → (cached : _) → IsReadOn P at 0 count count cached
none_read P at count cached = record { calls = omega arith; last = λ more. absurd (omega arith) }

module _ (d : List ℕ → List ℕ) (sized : (b : List ℕ) → length (d b) ≡ 32) (P : ℕ) (m : MarksState) (is : AreMarks d P m) where
  -- what is known of bytes with this top is so of the marks of each content with this root
  marks_known : (of : List ℕ → List ℕ) (bytes : List ℕ) → IsKnown d m.bytes.page_size m.bytes.len m.bytes.top of bytes → IsOfMarks d m (λ Q content. bytes ≡ of (marks_of Q content))
  marks_known of bytes known content its =
      let Q = m.bytes.page_size in
      let its_marks : List ℕ = marks_of Q content in
      let whole : length its_marks ≡ m.bytes.len = length-marks Q content (pages_of_len Q (length content)) ∙ ap (λ (n : ℕ). pages_of_len Q n * 8) (sym its.len)
      ∙ ap (λ (p : ℕ). pages_of_len p m.len * 8) is.page_size ∙ sym is.len in
      let size : length m.bytes.top ≡ length (list_of d Q its_marks) = is.top ∙ ap₂ list_len (sym is.page_size) (sym whole) ∙ sym (length-list_of d sized Q its_marks) in
      elim (judged d m.bytes.top (list_of d Q its_marks) is.bytes size (is.root ∙ its.root)) [
        | inr twin ↦ inr (inl (m.bytes.top, twin))
        | inl same ↦
            elim (known its_marks whole (sym same)) [
              | inl e ↦ inl e
              | inr twin ↦ inr (inr twin)
            ]
      ]

  -- a mark is read
  pub mark_read : (i : ℕ) (t : BytesState) (before after : List ℕ) (mark : Mark) → length before ≡ 8 → i * m.bytes.page_size < m.len → mark_bytes mark ≡ after
      → mark.before < 281474976710656 → mark.skip < 65536 → BytesGoes d (i * 8) m.bytes t before after (Ok tt) → MarkGoes d i m (record m { bytes = t }) (Ok mark)
  mark_read i t before after mark long within told few near goes = record {
    same = record { len = refl; root = refl; bytes = goes.same };
    calls = let all = (goes.reads_on (i * 8) 0 (length m.bytes.reads) (omega arith) (none_read m.bytes.page_size (i * 8) (length m.bytes.reads) m.bytes.cached)).0 in
        let e : 0 + length before ≡ 8 = omega arith in
        subst (λ (n : ℕ). length t.reads ≤ length m.bytes.reads + pages_touched m.bytes.page_size (i * 8) n) e all;
    answers = (few, near, its_mark);
  }
    where
      its_mark : IsOfMarks d m (λ Q content. mark ≡ mark_at Q content i)
      its_mark content its =
          let Q = m.bytes.page_size in
          let below : i < pages_of_len Q m.len = page_below Q m.len i (subst (λ (p : ℕ). 0 < p) (sym is.page_size) is.positive) within in
          let there : i < pages_of_len Q (length content) = subst (λ (n : ℕ). i < pages_of_len Q n) its.len below in
          elim (marks_known (range_at (i * 8) (length after)) after goes.answers content its) [
            | inr twin ↦ inr twin
            | inl same ↦
                let span : i * 8 + length after - i * 8 ≡ 8 = let e = goes.len in omega arith in
                let bytes : after ≡ mark_bytes (mark_at Q content i) = same ∙ ap (λ (n : ℕ). take n (drop (i * 8) (marks_of Q content))) span ∙ mark_in Q content (pages_of_len Q (length content)) i there in
                inl (mark_told mark Q content i few near (subst (λ (p : ℕ). p < 65536) (sym is.page_size) is.small) (let f = is.fits in omega arith) (told ∙ bytes))
          ]

  -- a page of the marks can't be had
  pub mark_lost : (i : ℕ) (t : BytesState) (before after : List ℕ) (e : Error) → length before ≡ 8 → BytesGoes d (i * 8) m.bytes t before after (Err e) → MarkGoes d i m (record m { bytes = t }) (Err e)
  mark_lost i t before after e long goes = record {
    same = record { len = refl; root = refl; bytes = goes.same };
    calls = let all = (goes.reads_on (i * 8) 0 (length m.bytes.reads) (omega arith) (none_read m.bytes.page_size (i * 8) (length m.bytes.reads) m.bytes.cached)).0 in
        let size : 0 + length before ≡ 8 = omega arith in
        subst (λ (n : ℕ). length t.reads ≤ length m.bytes.reads + pages_touched m.bytes.page_size (i * 8) n) size all;
    answers = (goes.answers.0, subst (λ (n : ℕ). IsTouched m.bytes.page_size (i * 8) n goes.answers.0) (goes.len ∙ long) goes.answers.1, goes.answers.2);
  }

-- ---- how much is read

-- a mark has bytes of so few pages
pub mark_touches : (P i : ℕ) → 0 < P → pages_touched P (i * 8) 8 ≤ 7 / P + 2
mark_touches P i positive =
    let first : i * 8 < i * 8 / P * P + P = lt-div-mul-add positive in
    let more : 7 < 7 / P * P + P = lt-div-mul-add positive in
    let both : i * 8 + 7 < (i * 8 / P + 7 / P + 2) * P = omega arith in
    let few : (i * 8 + 7) / P < i * 8 / P + 7 / P + 2 = div_below (i * 8 + 7) P (i * 8 / P + 7 / P + 2) positive both in
    omega arith

-- so a mark costs few reads, since a call began
pub mark_costs_few : (i : ℕ) (s t u : MarksState) → 0 < s.bytes.page_size → AreSameMarks s t → length u.bytes.reads ≤ length t.bytes.reads + pages_touched t.bytes.page_size (i * 8) 8
    → length u.bytes.reads ≤ length t.bytes.reads + mark_reads s.bytes.page_size
mark_costs_few i s t u positive same calls =
    let here : length u.bytes.reads ≤ length t.bytes.reads + pages_touched s.bytes.page_size (i * 8) 8 =
    subst (λ (P : ℕ). length u.bytes.reads ≤ length t.bytes.reads + pages_touched P (i * 8) 8) same.bytes.page_size calls in
    let few : pages_touched s.bytes.page_size (i * 8) 8 ≤ mark_reads s.bytes.page_size = mark_touches s.bytes.page_size i positive in
    omega (arith, here, few)

-- one more, at `each` a mark
one_more : (page i each old now new : ℕ) → page ≤ i → now ≤ old + (i + 1 - page) * each → new ≤ now + each → new ≤ old + (i + 1 + 1 - page) * each
one_more page i each old now new from had more =
    let count : i + 1 + 1 - page ≡ suc (i + 1 - page) = omega arith in
    let step : (i + 1 + 1 - page) * each ≡ (i + 1 - page) * each + each = ap (λ (k : ℕ). k * each) count ∙ suc-mul (i + 1 - page) each in
    omega arith

-- the first one
first_one : (page each old new : ℕ) → new ≤ old + each → new ≤ old + (page + 1 - page) * each
first_one page each old new more =
    let count : page + 1 - page ≡ 1 = omega arith in
    let step : (page + 1 - page) * each ≡ 1 * each = ap (λ (k : ℕ). k * each) count in
    omega arith

-- the page of the begin is that of its mark, or behind it
up_to_begin : (P page i skip each old now offset : ℕ) → 0 < P → offset ≡ i * P + skip → now ≤ old + (i + 1 - page) * each → now ≤ old + (offset / P + 1 - page) * each
up_to_begin P page i skip each old now offset positive is had =
    let behind : i ≤ offset / P = le-div i offset P positive (omega arith) in
    let more : (i + 1 - page) * each ≤ (offset / P + 1 - page) * each = mul-le-mul_right each (omega arith) in
    omega arith

-- ---- the first begin

pub same_marks : (s : MarksState) → AreSameMarks s s
same_marks s = record { len = refl; root = refl; bytes = record { start = refl; len = refl; page_size = refl; top = refl; reads = ([], sym (append-nil s.bytes.reads)) } }

-- the same marks after two calls
pub same_after : (s t u : MarksState) → AreSameMarks s t → AreSameMarks t u → AreSameMarks s u
same_after s t u one other = record { len = other.len ∙ one.len; root = other.root ∙ one.root; bytes = bytes_after s.bytes t.bytes u.bytes one.bytes other.bytes }

-- what is so by the marks after a call was so before it
pub marks_before : (d : List ℕ → List ℕ) (s t : MarksState) (is : (P : ℕ) → List ℕ → Type 0) → AreSameMarks s t → IsOfMarks d t is → IsOfMarks d s is
marks_before d s t is same told content its =
    let P = s.bytes.page_size in
    let has : HasMarks d t.bytes.page_size content t.len t.root = record {
      len = same.len ∙ its.len;
      root = same.root ∙ its.root ∙ ap (λ (p : ℕ). d (list_of d p (marks_of p content))) (sym same.bytes.page_size);
    } in
    subst (λ (p : ℕ). is p content ⊎ HasMarksPreimage d p content) same.bytes.page_size (told content has)

-- a mark that can't be read since a call began
pub mark_fails_since : (d : List ℕ → List ℕ) (i : ℕ) (s t u : MarksState) (e : Error) → AreSameMarks s t → MarkFails d i t u e → MarkFails d i s u e
mark_fails_since d i s t u e same fails = (
  fails.0,
  subst (λ (P : ℕ). IsTouched P (i * 8) 8 fails.0) same.bytes.page_size fails.1,
  page_fails_before d fails.0 s.bytes t.bytes u.bytes.reads e same.bytes fails.2,
)

-- no frame begins in a page whose mark says so: as many begin before the next page
as_many_before : (P : ℕ) (content : List ℕ) (i : ℕ) → P ≤ frame_begin content (begins_before content (i * P)) - i * P → begins_before content ((i + 1) * P) ≡ begins_before content (i * P)
as_many_before P content i none =
    let n = begins_before content (i * P) in
    let one : i + 1 ≡ suc i = omega arith in
    let step : (i + 1) * P ≡ i * P + P = ap (λ (k : ℕ). k * P) one ∙ suc-mul i P in
    let here = next_begin content (i * P) in
    sym (count_is content ((i + 1) * P) n (omega arith) (λ m less. let before = begun_before content (i * P) m less in omega arith))

-- how far the first begin behind a page's begin is looked for: none is in the pages before page i
pub record IsSeeking (d : List ℕ → List ℕ) (page : ℕ) (old now : MarksState) (i : ℕ) (mark : Mark) : Type 0 where
  pub from : page ≤ i
  pub within : i < pages_of_len old.bytes.page_size old.len
  pub same : AreSameMarks old now
  pub few : mark.before < 281474976710656
  pub near : mark.skip < 65536
  pub calls : ReadsMarks (i + 1 - page) old now
  pub told : IsOfMarks d old (λ P content. (mark ≡ mark_at P content i) × (begins_before content (i * P) ≡ begins_before content (page * P)))

pub seek_begins : (d : List ℕ → List ℕ) (page : ℕ) (s t : MarksState) (mark : Mark) → 0 < s.bytes.page_size → page * s.bytes.page_size < s.len → MarkGoes d page s t (Ok mark) → IsSeeking d page s t page mark
seek_begins d page s t mark positive within goes = record {
  from = omega arith;
  within = page_below s.bytes.page_size s.len page positive within;
  same = goes.same;
  few = goes.answers.0;
  near = goes.answers.1;
  calls = first_one page (mark_reads s.bytes.page_size) (length s.bytes.reads) (length t.bytes.reads) (mark_costs_few page s s t positive (same_marks s) goes.calls);
  told = λ content its. elim (goes.answers.2 content its) [
    | inl is ↦ inl (is, refl)
    | inr twin ↦ inr twin
  ];
}

-- the next mark is one of the content's
pub seek_reads : (d : List ℕ → List ℕ) (page : ℕ) (s t : MarksState) (i : ℕ) (mark : Mark) → 0 < s.bytes.page_size → i + 1 < pages_of_len s.bytes.page_size s.len → IsSeeking d page s t i mark
    → (i + 1) * t.bytes.page_size < t.len
seek_reads d page s t i mark positive below is =
    let within : (i + 1) * s.bytes.page_size < s.len = page_within s.bytes.page_size s.len (i + 1) positive below in
    subst (λ (P : ℕ). (i + 1) * P < t.len) (sym is.same.bytes.page_size) (subst (λ (n : ℕ). (i + 1) * s.bytes.page_size < n) (sym is.same.len) within)

pub seek_more : (d : List ℕ → List ℕ) (page : ℕ) (s t u : MarksState) (i : ℕ) (mark next : Mark) → 0 < s.bytes.page_size → mark.skip ≡ s.bytes.page_size → i + 1 < pages_of_len s.bytes.page_size s.len → IsSeeking d page s t i mark
    → MarkGoes d (i + 1) t u (Ok next) → IsSeeking d page s u (i + 1) next
seek_more d page s t u i mark next positive none below is goes = record {
  from = let f = is.from in omega arith;
  within = below;
  same = same_after s t u is.same goes.same;
  few = goes.answers.0;
  near = goes.answers.1;
  calls = one_more page i (mark_reads s.bytes.page_size) (length s.bytes.reads) (length t.bytes.reads) (length u.bytes.reads) is.from is.calls (mark_costs_few (i + 1) s t u positive is.same goes.calls);
  told = λ content its. elim (is.told content its) [
    | inr twin ↦ inr twin
    | inl had ↦
        elim (marks_before d s t (λ P content. next ≡ mark_at P content (i + 1)) is.same goes.answers.2 content its) [
          | inr twin ↦ inr twin
          | inl told ↦
              let P = s.bytes.page_size in
              let skip : mark.skip ≡ min (frame_begin content (begins_before content (i * P)) - i * P) P = ap (λ (m : Mark). m.skip) had.0 in
              inl (told, as_many_before P content i (omega arith) ∙ had.1)
        ]
  ];
}

-- the offset of a begin
begin_offset : (P : ℕ) (content : List ℕ) (i skip count : ℕ) → i < count → (skip ≡ P → count ≤ i + 1) → skip ≡ min (frame_begin content (begins_before content (i * P)) - i * P) P
    → i * P + skip ≡ min (frame_begin content (begins_before content (i * P))) (count * P)
begin_offset P content i skip count within last is =
    let here = next_begin content (i * P) in
    let one : i + 1 ≡ suc i = omega arith in
    let step : (i + 1) * P ≡ i * P + P = ap (λ (k : ℕ). k * P) one ∙ suc-mul i P in
    elim (cases_lt skip P) [
      | inl less ↦
          let more : (i + 1) * P ≤ count * P = mul-le-mul_right P (omega arith) in
          omega arith
      | inr all ↦
          let whole : skip ≡ P = omega arith in
          let most = last whole in
          let same : count ≡ i + 1 = omega arith in
          let end : count * P ≡ i * P + P = ap (λ (k : ℕ). k * P) same ∙ step in
          omega arith
    ]

pub seek_ends : (d : List ℕ → List ℕ) (page : ℕ) (s t : MarksState) (i : ℕ) (mark : Mark) (b : Begin) → 0 < s.bytes.page_size → (mark.skip ≡ s.bytes.page_size → pages_of_len s.bytes.page_size s.len ≤ i + 1)
    → b.number ≡ mark.before → b.offset ≡ i * s.bytes.page_size + mark.skip → IsSeeking d page s t i mark → FirstGoes d page s t (Ok b)
seek_ends d page s t i mark b positive last number offset is = record {
  same = is.same;
  answers = (
    (let few = is.few in omega arith),
    (let more : page * s.bytes.page_size ≤ i * s.bytes.page_size = mul-le-mul_right s.bytes.page_size is.from in omega arith),
    up_to_begin s.bytes.page_size page i mark.skip (mark_reads s.bytes.page_size) (length s.bytes.reads) (length t.bytes.reads) b.offset positive offset is.calls,
    λ content its. elim (is.told content its) [
      | inr twin ↦ inr twin
      | inl had ↦
          let P = s.bytes.page_size in
          let before : mark.before ≡ begins_before content (i * P) = ap (λ (m : Mark). m.before) had.0 in
          let skip : mark.skip ≡ min (frame_begin content (begins_before content (i * P)) - i * P) P = ap (λ (m : Mark). m.skip) had.0 in
          inl (record {
            number = number ∙ before ∙ had.1;
            offset = offset ∙ begin_offset P content i mark.skip (pages_of_len P s.len) is.within last skip
                ∙ ap₂ (λ (n len : ℕ). min (frame_begin content n) (pages_of_len P len * P)) had.1 its.len;
          })
    ],
  );
}

pub seek_fails : (d : List ℕ → List ℕ) (page : ℕ) (s t u : MarksState) (i : ℕ) (mark : Mark) (e : Error) → 0 < s.bytes.page_size → IsSeeking d page s t i mark → MarkGoes d (i + 1) t u (Err e) → FirstGoes d page s u (Err e)
seek_fails d page s t u i mark e positive is goes = record {
  same = same_after s t u is.same goes.same;
  answers = (
    i + 1,
    (let f = is.from in omega arith),
    one_more page i (mark_reads s.bytes.page_size) (length s.bytes.reads) (length t.bytes.reads) (length u.bytes.reads) is.from is.calls (mark_costs_few (i + 1) s t u positive is.same goes.calls),
    mark_fails_since d (i + 1) s t u e is.same goes.answers,
  );
}

pub seek_fails_at_once : (d : List ℕ → List ℕ) (page : ℕ) (s t : MarksState) (e : Error) → 0 < s.bytes.page_size → MarkGoes d page s t (Err e) → FirstGoes d page s t (Err e)
seek_fails_at_once d page s t e positive goes = record {
  same = goes.same;
  answers = (
    page,
    omega arith,
    first_one page (mark_reads s.bytes.page_size) (length s.bytes.reads) (length t.bytes.reads) (mark_costs_few page s s t positive (same_marks s) goes.calls),
    goes.answers,
  );
}
