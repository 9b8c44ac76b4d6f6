-- A page of a content is passed.
use Rattle.std.proofs.Common.{◌≡◌, ◌≢◌, ◌⊎◌, ◌<◌, ◌≤◌, ◌*◌, ◌+◌, ◌-◌, ◌/◌, ◌∙◌, ℕ, List, length, ap, refl, sym, subst, inl, inr, min, arith}
use Rattle.std.specs.Prelude.{Option, Some, None, Ok, Err}
use Rattle.std.proofs.lemmas.Grind.{div_ceil_times}
use Rattle.std.proofs.Math.Nat.{lt-div-mul-add}
use Rattle.page_digests.specs.declared.error.Error.{Error}
use Rattle.page_digests.specs.declared.error.Error.TheVariants.{OutOfMemory}
use Rattle.page_digests.specs.declared.seal.Seal.{Seal}
use Rattle.page_digests.specs.Contents.{IsSameContent, PagedState}
use Rattle.page_digests.specs.Pages.{list_of, pages_of_len}
use Rattle.page_digests.specs.Seals.{HasSecondPreimage, IsSealOf}
use Rattle.segments.specs.Marks.{begins_before, frame_begin, marks_of}
use Rattle.segments.specs.MarkReads.{AreSameMarks, FirstGoes, HasMarks, HasMarksPreimage, IsFirstFrom, MarksState}
use Rattle.segments.specs.Passing.{PassPageGoes, PassedFrames, next_page}
use Rattle.segments.specs.Seeks.{BehindFails, BehindGoes, IsFirstBehind, IsOfMarked}
use Rattle.segments.specs.declared.marked.Begin.{Begin}
use Rattle.segments.proofs.Begins.{next_begin}
use Rattle.segments.proofs.Behind.{same_content}
use Rattle.segments.proofs.MarksRead.{mark_fails_since, marks_before, same_after, same_marks}

-- what is so by the marks and the seal after a call was so before it
marked_before : (d : List ℕ → List ℕ) (seal : Seal) (s t : MarksState) (is : (P : ℕ) → List ℕ → Type 0) → AreSameMarks s t → IsOfMarked d seal t is → IsOfMarked d seal s is
marked_before d seal s t is same told content sealed its =
    let P = s.bytes.page_size in
    let has : HasMarks d t.bytes.page_size content t.len t.root = record {
      len = same.len ∙ its.len;
      root = same.root ∙ its.root ∙ ap (λ (p : ℕ). d (list_of d p (marks_of p content))) (sym same.bytes.page_size);
    } in
    subst (λ (p : ℕ). is p content ⊎ HasSecondPreimage d p content ⊎ HasMarksPreimage d p content) same.bytes.page_size
    (told content (subst (λ (p : ℕ). IsSealOf d p content seal) (sym same.bytes.page_size) sealed) has)

-- so is why no begin is found
behind_fails_since : (d : List ℕ → List ℕ) (offset : ℕ) (s t u : MarksState) (c v : PagedState) (e : Error) → AreSameMarks s t → BehindFails d offset t u c v e → BehindFails d offset s u c v e
behind_fails_since d offset s t u c v e same (inl (i, least, fails)) =
    inl (i, subst (λ (P : ℕ). offset / P ≤ i) same.bytes.page_size least, mark_fails_since d i s t u e same fails)
behind_fails_since d offset s t u c v e same (inr (b, least, told, fails)) =
    inr (b, subst (λ (P : ℕ). offset / P * P ≤ b.offset) same.bytes.page_size least, marks_before d s t (λ Q content. IsFirstFrom Q content (offset / Q) b) same told, fails)

-- in the last page
pub last_passed : (d : List ℕ → List ℕ) (offset to : ℕ) (s : MarksState) (c : PagedState) → offset < s.len → c.seal.len ≡ s.len → to ≡ c.seal.len → s.len ≤ next_page s.bytes.page_size offset
    → PassPageGoes d offset s s c c (Ok (record { to = to; frames = None }))
last_passed d offset to s c within long is last = record {
  same = same_marks s;
  content = same_content c;
  calls = omega arith;
  answers = (
    omega arith,
    omega arith,
    (λ content its.
        let begins = next_begin content (next_page s.bytes.page_size offset) in
        inl (omega (arith, begins, its.len))),
    inl (last, refl, refl),
  );
}

-- the mark of a page behind it can't be read
pub next_unmarked : (d : List ℕ → List ℕ) (offset page : ℕ) (s t : MarksState) (c : PagedState) (e : Error) → page ≡ offset / s.bytes.page_size + 1 → FirstGoes d page s t (Err e) → PassPageGoes d offset s t c c (Err e)
next_unmarked d offset page s t c e is goes = record {
  same = goes.same;
  content = same_content c;
  calls = omega arith;
  answers = inl (goes.answers.0, (let least = goes.answers.1 in omega arith), goes.answers.3);
}

-- memory was refused
pub count_refused : (d : List ℕ → List ℕ) (offset page : ℕ) (s t u : MarksState) (c v : PagedState) (b : Begin) → FirstGoes d page s t (Ok b) → BehindGoes d offset t u c v (Err OutOfMemory) → PassPageGoes d offset s u c v (Err OutOfMemory)
count_refused d offset page s t u c v b goes behind = record {
  same = same_after s t u goes.same behind.same;
  content = behind.content;
  calls = behind.calls;
  answers = inr (refl, behind_fails_since d offset s t u c v OutOfMemory goes.same behind.answers);
}

-- how many frames are passed isn't known
pub count_unknown : (d : List ℕ → List ℕ) (offset page : ℕ) (s t u : MarksState) (c v : PagedState) (b : Begin) (e : Error) → e ≢ OutOfMemory → FirstGoes d page s t (Ok b) → BehindGoes d offset t u c v (Err e) → PassedFrames d offset s u c v None
count_unknown d offset page s t u c v b e other goes behind = inr (e, other, behind_fails_since d offset s t u c v e goes.same behind.answers)

-- or it is
pub count_known : (d : List ℕ → List ℕ) (offset page n : ℕ) (s t u : MarksState) (c v : PagedState) (b f : Begin) → page ≡ offset / s.bytes.page_size + 1 → page * s.bytes.page_size < s.len → n ≡ b.number - f.number → FirstGoes d page s t (Ok b) → BehindGoes d offset t u c v (Ok f)
    → PassedFrames d offset s u c v (Some n)
count_known d offset page n s t u c v b f at within is goes behind = λ content sealed its. elim (goes.answers.3 content its) [
  | inr twin ↦ inr (inr twin)
  | inl next ↦
      elim (marked_before d c.seal s t (λ P x. IsFirstBehind P x offset f) goes.same behind.answers content sealed its) [
        | inr twin ↦ inr twin
        | inl here ↦
            let P = s.bytes.page_size in
            let place : page * P ≡ next_page P offset = ap (λ (k : ℕ). k * P) at in
            let end : page * P ≡ min (next_page P offset) (length content) = omega (arith, within, place, its.len) in
            let far : b.number ≡ begins_before content (min (next_page P offset) (length content)) = next.number ∙ ap (begins_before content) end in
            let near : f.number ≡ begins_before content offset = here.number in
            inl (omega (arith, is, far, near))
      ]
]

-- a page is passed
pub page_passed : (d : List ℕ → List ℕ) (offset page : ℕ) (s t u : MarksState) (c v : PagedState) (b : Begin) (to : ℕ) (frames : Option ℕ) → 0 < s.bytes.page_size → page ≡ offset / s.bytes.page_size + 1
    → page * s.bytes.page_size < s.len → to ≡ min b.offset s.len → FirstGoes d page s t (Ok b) → AreSameMarks t u → IsSameContent c v → length v.reads ≤ length c.reads + 1 → PassedFrames d offset s u c v frames
    → PassPageGoes d offset s u c v (Ok (record { to = to; frames = frames }))
page_passed d offset page s t u c v b to frames positive at within is goes same content calls counted =
    let P = s.bytes.page_size in
    let place : page * P ≡ next_page P offset = ap (λ (k : ℕ). k * P) at in
    let one : (offset / P + 1) * P ≡ offset / P * P + P = omega arith in
    let here : offset < offset / P * P + P = lt-div-mul-add positive in
    let least : page * P ≤ b.offset = goes.answers.1 in
    record {
      same = same_after s t u goes.same same;
      content = content;
      calls = calls;
      answers = (
        omega arith,
        omega arith,
        (λ x its. elim (goes.answers.3 x its) [
          | inr twin ↦ inr twin
          | inl next ↦
              let all : length x ≤ pages_of_len P (length x) * P = (div_ceil_times (length x) P positive).0 in
              let there : b.offset ≡ min (frame_begin x (begins_before x (page * P))) (pages_of_len P (length x) * P) = next.offset in
              let same_place : frame_begin x (begins_before x (page * P)) ≡ frame_begin x (begins_before x (next_page P offset)) = ap (λ (k : ℕ). frame_begin x (begins_before x k)) place in
              inl (omega (arith, is, all, there, same_place, its.len))
        ]),
        counted,
      );
    }
