-- Searches by the marks of a closed segment.
use Rattle.std.specs.Prelude.{◌≡◌, ◌⊎◌, ◌<◌, ◌≤◌, ◌-◌, ℕ, List, length, IfSome, is_none, is_some, not, false, true, Bool, Option, Some, None, Result, Ok, Err}
use Rattle.std.proofs.Common.{refl, sym, ◌∙◌, ap, subst, inl, inr, arith}
use Rattle.page_digests.specs.Contents.{IsSameContent, PagedState}
use Rattle.page_digests.specs.declared.error.Error as pages
use Rattle.page_digests.specs.declared.error.Error.TheVariants as causes
use Rattle.page_digests.specs.declared.seal.Seal.{Seal}
use Rattle.segments.specs.declared.error.Error.{Error}
use Rattle.segments.specs.declared.error.Error.TheVariants as errors
use Rattle.segments.specs.declared.marked.Begin.{Begin}
use Rattle.segments.specs.declared.passing.PassedPage.{PassedPage}
use Rattle.segments.specs.MarkReads.{MarksState, MarkedStartGoes}
use Rattle.segments.specs.PagedReads.{AreItsMarks, CanCountFrom, CountsPassed, CountStartGoes, FindGoes, HasFailedRebuild, HasFailedSince, HasSameMarks, IsDamage, IsNthOffset, IsOfKept, IsOfSegment, IsPagedSegment, IsRebuilt, IsToldAs, PagedSegmentState, SegmentNthAnswers, SegmentNthGoes, SegmentPassGoes, SettlesGoes}
use Rattle.segments.specs.Passing.{IsPassedTo, PassPageGoes, PassedFrames, frames_passed}
use Rattle.segments.specs.Seeks.{CountFails, CountGoes}
use Rattle.segments.proofs.NthBegins.{can_count, counted_told, from_first}
use Rattle.segments.proofs.SegmentMarks.{SegmentStays, by_marks, its_root, kept_of_marked, kept_on, kept_so, marks_after, marks_alike, marks_same}
use Rattle.segments.proofs.SegmentReads.{content_same, fails_since, not_settled, rebuilt_on, rebuilt_since}

-- there are no marks of which the root was kept
pub no_root : (k : Option (List ℕ)) → is_none k ≡ true → k ≡ None
no_root None is = refl
no_root (Some b) is = cc is

pub a_root : (k : Option (List ℕ)) → is_none k ≡ false → k ≡ None → ⊥
a_root None is none = cc is
a_root (Some b) is none = cc none

pub some_root : (k : Option (List ℕ)) (none : Bool) → is_some k ≡ not none → none ≡ false → k ≡ None → ⊥
some_root None none is off same = cc (is, off)
some_root (Some b) none is off same = cc same

the_root : (k : Option (List ℕ)) → (k ≡ None → ⊥) → (root : List ℕ) × (k ≡ Some root)
the_root None some = absurd (some refl)
the_root (Some b) some = (b, refl)

-- ---- the nth frame

pub nth_unmarked : (d : List ℕ → List ℕ) (n number : ℕ) (s : PagedSegmentState) → number ≡ s.number → s.marks_root ≡ None → SegmentNthGoes d n s s (Err (errors.Unmarked number))
nth_unmarked d n number s same none = record {
  same = record { number = refl; of = refl; page_size = refl };
  root = refl;
  marks = marks_same s.marks;
  stays = λ is. is;
  rebuilt = λ is. inl is;
  answers = inl (ap (λ k. errors.Unmarked k) same, none);
}

-- a content of no byte has none
pub nth_empty : (d : List ℕ → List ℕ) (n : ℕ) (s : PagedSegmentState) → (s.marks_root ≡ None → ⊥) → s.content.seal.len ≡ 0 → SegmentNthGoes d n s s (Ok None)
nth_empty d n s some empty =
    let root = the_root s.marks_root some in
    record {
      same = record { number = refl; of = refl; page_size = refl };
      root = refl;
      marks = marks_same s.marks;
      stays = λ is. is;
      rebuilt = λ is. inl is;
      answers = (root.0, root.1, λ content is has. inl (let len = is.len in omega (arith, len, empty)));
    }

-- from where it is counted, if the marks can't be used
pub start_without : (d : List ℕ → List ℕ) (n : ℕ) (s : PagedSegmentState) (k : Option MarksState) → HasSameMarks s.marks k → CountStartGoes d n s (record s { marks = k }) (Ok (record { number = 0; offset = 0 }))
start_without d n s k same = record { rest = refl; marks = same; answers = λ root is content sealed its. inl (from_first content n) }

its_of : (d : List ℕ → List ℕ) (i : PagedSegmentState) (m : MarksState) → i.marks ≡ Some m → IsPagedSegment d i → AreItsMarks d i m
its_of d i m is its = subst (λ (k : Option MarksState). IfSome k (λ m. AreItsMarks d i m)) is its

-- and if they can
pub start_by : (d : List ℕ → List ℕ) (n : ℕ) (s : PagedSegmentState) (m k : MarksState) (b : Begin) → s.marks ≡ Some m → IsPagedSegment d s → MarkedStartGoes d n m k (Ok b)
    → CountStartGoes d n s (record s { marks = Some k }) (Ok b)
start_by d n s m k b has its goes = record {
  rest = refl;
  marks = subst (λ (j : Option MarksState). HasSameMarks j (Some k)) (sym has) goes.same;
  answers = λ root is.
      let i = goes.answers.0 in
      let own : AreItsMarks d s m = its_of d s m has its in
      kept_so d s.content.page_size s.content.seal root (λ content. CanCountFrom content n b) (λ content. CanCountFrom content n b) (λ content long is. is)
      (kept_of_marked d s.content.page_size s.content.seal root m (λ P content. CanCountFrom content n b) own.len own.page_size (its_root d s m root own is)
      (by_marks d s.content.seal m (λ P content. CanCountFrom content n b) (λ content has. elim (goes.answers.1 content has) [
        | inl start ↦ inl (can_count m.bytes.page_size content n i b goes.positive start)
        | inr twin ↦ inr twin
      ])));
}

pub start_fails : (d : List ℕ → List ℕ) (n : ℕ) (s : PagedSegmentState) (k : Option MarksState) → HasSameMarks s.marks k → CountStartGoes d n s (record s { marks = k }) (Err causes.OutOfMemory)
start_fails d n s k same = record { rest = refl; marks = same; answers = refl }

content_of : (d : List ℕ → List ℕ) (n : ℕ) (s m : PagedSegmentState) (r : Result Begin pages.Error) → CountStartGoes d n s m r → m.content ≡ s.content
content_of d n s m r start = ap (λ (p : PagedSegmentState). p.content) start.rest

-- it is counted to
pub found_from : (d : List ℕ → List ℕ) (n left there len : ℕ) (s m : PagedSegmentState) (b : Begin) (after : PagedState) (found : Option ℕ) → CountStartGoes d n s m (Ok b) → CountGoes d b.offset (n - b.number) m.content after (Ok (left, there))
    → len ≡ after.seal.len → IfSome found (λ k. k ≡ there) → IfSome found (λ k. (left ≡ 0) × (there < len)) → (found ≡ None → left ≡ 0 → len ≤ there) → FindGoes d n s (record m { content = after }) (Ok found)
found_from d n left there len s m b after found start counted long is some none =
    let goes = subst (λ (c : PagedState). CountGoes d b.offset (n - b.number) c after (Ok (left, there))) (content_of d n s m (Ok b) start) counted in
    record {
      rest = ap (λ (p : PagedSegmentState). record p { content = after }) start.rest;
      content = goes.same;
      marks = start.marks;
      answers = λ root has content sealed its. elim (start.answers root has content sealed its) [
        | inr twin ↦ inr twin
        | inl can ↦
            elim (goes.answers.3 content sealed) [
              | inr twin ↦ inr (inl twin)
              | inl counts ↦
                  let whole : len ≡ length content = long ∙ ap (λ (l : Seal). l.len) goes.same.seal ∙ sealed.len in
                  let size : s.content.seal.len ≡ len = sym (long ∙ ap (λ (l : Seal). l.len) goes.same.seal) in
                  inl (counted_told content n left there len b found can whole goes.answers.1 goes.answers.0 (λ more. let far = goes.answers.2 more in omega (arith, far, size)) counts is some none)
            ]
      ];
    }

pub not_counted : (d : List ℕ → List ℕ) (n count : ℕ) (s m : PagedSegmentState) (b : Begin) (after : PagedState) (e : pages.Error) → CountStartGoes d n s m (Ok b) → CountGoes d b.offset count m.content after (Err e)
    → FindGoes d n s (record m { content = after }) (Err e)
not_counted d n count s m b after e start counted =
    let goes = subst (λ (c : PagedState). CountGoes d b.offset count c after (Err e)) (content_of d n s m (Ok b) start) counted in
    record {
      rest = ap (λ (p : PagedSegmentState). record p { content = after }) start.rest;
      content = goes.same;
      marks = start.marks;
      answers = inl (goes.answers.0, (let e : 0 ≤ goes.answers.0 = omega arith in e), goes.answers.2);
    }

pub not_started : (d : List ℕ → List ℕ) (n : ℕ) (s m : PagedSegmentState) (e : pages.Error) → CountStartGoes d n s m (Err e) → FindGoes d n s m (Err e)
not_started d n s m e start = record {
  rest = start.rest ∙ (let same : m.content ≡ s.content = content_of d n s m (Err e) start in ap (λ (c : PagedState). record s { content = c; marks = m.marks }) (sym same));
  content = subst (λ (c : PagedState). IsSameContent s.content c) (sym (content_of d n s m (Err e) start)) (content_same s.content);
  marks = start.marks;
  answers = inr start.answers;
}

-- ---- the answer

settled_as : (d : List ℕ → List ℕ) (n : ℕ) (s t : PagedSegmentState) (r : Result (Option ℕ) pages.Error) → FindGoes d n s t r → t.is_settled ≡ s.is_settled
settled_as d n s t r goes = ap (λ (p : PagedSegmentState). p.is_settled) goes.rest

number_as : (d : List ℕ → List ℕ) (n : ℕ) (s t : PagedSegmentState) (r : Result (Option ℕ) pages.Error) → FindGoes d n s t r → t.number ≡ s.number
number_as d n s t r goes = ap (λ (p : PagedSegmentState). p.number) goes.rest

root_as : (d : List ℕ → List ℕ) (n : ℕ) (s t : PagedSegmentState) (r : Result (Option ℕ) pages.Error) → FindGoes d n s t r → t.marks_root ≡ s.marks_root
root_as d n s t r goes = ap (λ (p : PagedSegmentState). p.marks_root) goes.rest

answered : (d : List ℕ → List ℕ) (n : ℕ) (s t : PagedSegmentState) (r : Result (Option ℕ) pages.Error) (result : Result (Option ℕ) Error) → FindGoes d n s t r → SegmentNthAnswers d n s t result → SegmentNthGoes d n s t result
answered d n s t r result goes answers = record {
  same = record { number = number_as d n s t r goes; of = goes.content.seal; page_size = goes.content.page_size };
  root = root_as d n s t r goes;
  marks = goes.marks;
  stays = λ is. settled_as d n s t r goes ∙ is;
  rebuilt = λ is. inl (sym (settled_as d n s t r goes) ∙ is);
  answers = answers;
}

of_the_root : (d : List ℕ → List ℕ) (n : ℕ) (s : PagedSegmentState) (found : Option ℕ) → (s.marks_root ≡ None → ⊥) → IsOfSegment d s (λ content. IsNthOffset content n found)
    → (root : List ℕ) × (s.marks_root ≡ Some root) × IsOfKept d s.content.page_size s.content.seal root (λ content. IsNthOffset content n found)
of_the_root d n s found some is = let root = the_root s.marks_root some in (root.0, root.1, is root.0 root.1)

pub nth_found : (d : List ℕ → List ℕ) (n : ℕ) (s t : PagedSegmentState) (found : Option ℕ) → (s.marks_root ≡ None → ⊥) → FindGoes d n s t (Ok found) → SegmentNthGoes d n s t (Ok found)
nth_found d n s t found some goes = answered d n s t (Ok found) (Ok found) goes (of_the_root d n s found some goes.answers)

lost_since : (d : List ℕ → List ℕ) (n : ℕ) (s m t : PagedSegmentState) (cause : pages.Error) → IsSameContent s.content m.content ⊎ IsRebuilt d s.content m.content → m.content.seal ≡ s.content.seal → m.content.page_size ≡ s.content.page_size
    → CountFails d 0 m.content t.content cause ⊎ (cause ≡ causes.OutOfMemory) → HasFailedSince d (CountFails d 0) s.content t.content cause ⊎ HasFailedRebuild d s.content t.content cause ⊎ (cause ≡ causes.OutOfMemory)
lost_since d n s m t cause since of size (inl lost) = inl (record { old = m.content; since = since; of = of; page_size = size; fails = lost })
lost_since d n s m t cause since of size (inr memory) = inr (inr memory)

pub nth_fails : (d : List ℕ → List ℕ) (n : ℕ) (s t : PagedSegmentState) (cause : pages.Error) (e : Error) → FindGoes d n s t (Err cause) → IsToldAs t.number cause e → (IsDamage cause → t.is_settled ≡ true) → SegmentNthGoes d n s t (Err e)
nth_fails d n s t cause e goes told settled = answered d n s t (Err cause) (Err e) goes (inr (record {
  cause = cause;
  fails = lost_since d n s s t cause (inl (content_same s.content)) refl refl goes.answers;
  told = subst (λ k. IsToldAs k cause e) (number_as d n s t (Err cause) goes) told;
  settled = settled;
}))

-- a search by a list that was built again
settled_find : (d : List ℕ → List ℕ) (n : ℕ) (s m t : PagedSegmentState) (r : Result (Option ℕ) pages.Error) (result : Result (Option ℕ) Error) → s.is_settled ≡ false → SettlesGoes d s m (Ok tt) → FindGoes d n m t r
    → SegmentNthAnswers d n s t result → SegmentNthGoes d n s t result
settled_find d n s m t r result not_yet settles goes answers = record {
  same = record { number = number_as d n m t r goes ∙ settles.same.number; of = goes.content.seal ∙ settles.same.of; page_size = goes.content.page_size ∙ settles.same.page_size };
  root = root_as d n m t r goes ∙ settles.marks.root;
  marks = subst (λ (k : Option MarksState). HasSameMarks k t.marks) settles.marks.marks goes.marks;
  stays = λ is. absurd (not_settled s.is_settled not_yet is);
  rebuilt = λ is. inr (rebuilt_on d s.content m.content t.content (settles.rebuilt tt) goes.content.reads);
  answers = answers;
}

pub nth_found_again : (d : List ℕ → List ℕ) (n : ℕ) (s m t : PagedSegmentState) (u : Unit {0}) (found : Option ℕ) → s.is_settled ≡ false → (s.marks_root ≡ None → ⊥) → SettlesGoes d s m (Ok u) → FindGoes d n m t (Ok found)
    → SegmentNthGoes d n s t (Ok found)
nth_found_again d n s m t u found not_yet some settles goes =
    settled_find d n s m t (Ok found) (Ok found) not_yet settles goes (of_the_root d n s found some (λ root has.
    kept_on d m.content.page_size s.content.page_size m.content.seal s.content.seal root (λ content. IsNthOffset content n found) settles.same.page_size settles.same.of (goes.answers root (settles.marks.root ∙ has))))

pub nth_fails_again : (d : List ℕ → List ℕ) (n : ℕ) (s m t : PagedSegmentState) (u : Unit {0}) (cause : pages.Error) (e : Error) → s.is_settled ≡ false → SettlesGoes d s m (Ok u) → FindGoes d n m t (Err cause) → IsToldAs t.number cause e
    → SegmentNthGoes d n s t (Err e)
nth_fails_again d n s m t u cause e not_yet settles goes told = settled_find d n s m t (Err cause) (Err e) not_yet settles goes (inr (record {
  cause = cause;
  fails = lost_since d n s m t cause (inr (settles.rebuilt tt)) settles.same.of settles.same.page_size goes.answers;
  told = subst (λ k. IsToldAs k cause e) (number_as d n m t (Err cause) goes ∙ settles.same.number) told;
  settled = λ damage. settled_as d n m t (Err cause) goes ∙ settles.settled.1 tt;
}))

pub nth_not_rebuilt : (d : List ℕ → List ℕ) (n : ℕ) (s m : PagedSegmentState) (cause : pages.Error) (e : Error) → s.is_settled ≡ false → SettlesGoes d s m (Err cause) → IsToldAs m.number cause e → SegmentNthGoes d n s m (Err e)
nth_not_rebuilt d n s m cause e not_yet settles told = record {
  same = settles.same;
  root = settles.marks.root;
  marks = marks_alike s.marks m.marks settles.marks.marks;
  stays = λ is. absurd (not_settled s.is_settled not_yet is);
  rebuilt = λ is. inr (settles.rebuilt (settles.settled.0 is));
  answers = inr (record {
    cause = cause;
    fails = inr (inl settles.fails);
    told = subst (λ k. IsToldAs k cause e) settles.same.number told;
    settled = λ damage. settles.settled.1 damage;
  });
}

answers_since : (d : List ℕ → List ℕ) (n : ℕ) (s m t : PagedSegmentState) (r : Result (Option ℕ) pages.Error) (result : Result (Option ℕ) Error) → FindGoes d n s m r → SegmentNthAnswers d n m t result → SegmentNthAnswers d n s t result
answers_since d n s m t r (Ok found) first is = (
  is.0,
  sym (root_as d n s m r first) ∙ is.1,
  kept_on d m.content.page_size s.content.page_size m.content.seal s.content.seal is.0 (λ content. IsNthOffset content n found) first.content.page_size first.content.seal is.2,
)
answers_since d n s m t r (Err e) first (inl is) = inl (subst (λ k. e ≡ errors.Unmarked k) (number_as d n s m r first) is.0, sym (root_as d n s m r first) ∙ is.1)
answers_since d n s m t r (Err e) first (inr is) = inr (fails_since d (CountFails d 0) s m t e (number_as d n s m r first) first.content is)

-- a search after one that failed
pub nth_since : (d : List ℕ → List ℕ) (n : ℕ) (s m t : PagedSegmentState) (cause : pages.Error) (result : Result (Option ℕ) Error) → FindGoes d n s m (Err cause) → SegmentNthGoes d n m t result → SegmentNthGoes d n s t result
nth_since d n s m t cause result first goes = record {
  same = record { number = goes.same.number ∙ number_as d n s m (Err cause) first; of = goes.same.of ∙ first.content.seal; page_size = goes.same.page_size ∙ first.content.page_size };
  root = goes.root ∙ root_as d n s m (Err cause) first;
  marks = marks_after s.marks m.marks t.marks first.marks goes.marks;
  stays = λ is. goes.stays (settled_as d n s m (Err cause) first ∙ is);
  rebuilt = λ is. elim (goes.rebuilt is) [
    | inl before ↦ inl (sym (settled_as d n s m (Err cause) first) ∙ before)
    | inr anew ↦ inr (rebuilt_since d s.content m.content t.content first.content anew)
  ];
  answers = answers_since d n s m t (Err cause) result first goes.answers;
}

pub stays_searched : (d : List ℕ → List ℕ) (n : ℕ) (s t : PagedSegmentState) (r : Result (Option ℕ) Error) → SegmentNthGoes d n s t r → SegmentStays s t
stays_searched d n s t r goes = record {
  number = goes.same.number;
  seal = goes.same.of;
  page_size = goes.same.page_size;
  root = goes.root;
  marks = goes.marks;
}

-- ---- a page that is passed

pub pass_unmarked : (d : List ℕ → List ℕ) (offset number : ℕ) (s : PagedSegmentState) → number ≡ s.number → s.marks_root ≡ None → SegmentPassGoes d offset s s (Err (errors.Unmarked number))
pass_unmarked d offset number s same none = record { rest = refl; content = content_same s.content; marks = marks_same s.marks; answers = inl (ap (λ k. errors.Unmarked k) same, none) }

pub pass_at_end : (d : List ℕ → List ℕ) (offset : ℕ) (s : PagedSegmentState) → (s.marks_root ≡ None → ⊥) → s.content.seal.len ≤ offset → SegmentPassGoes d offset s s (Ok (record { to = offset; frames = Some 0 }))
pass_at_end d offset s some long = record { rest = refl; content = content_same s.content; marks = marks_same s.marks; answers = (some, inl (long, refl)) }

pub pass_unopened : (d : List ℕ → List ℕ) (offset number : ℕ) (s : PagedSegmentState) → number ≡ s.number → (s.marks_root ≡ None → ⊥) → s.marks ≡ None → SegmentPassGoes d offset s s (Err (errors.Damaged number))
pass_unopened d offset number s same some none =
    record { rest = refl; content = content_same s.content; marks = marks_same s.marks; answers = inr (inl (none, some, ap (λ k. errors.Damaged k) same)) }

counts : (d : List ℕ → List ℕ) (offset : ℕ) (s : PagedSegmentState) (m k : MarksState) (after : PagedState) (frames : Option ℕ) → s.marks ≡ Some m → AreItsMarks d s m → PassedFrames d offset m k s.content after frames
    → CountsPassed d offset s (record s { content = after; marks = Some k }) frames
counts d offset s m k after (Some n) has its of = λ root is.
    kept_of_marked d s.content.page_size s.content.seal root m (λ P content. n ≡ frames_passed P content offset) its.len its.page_size (its_root d s m root its is) of
counts d offset s m k after None has its of = (m, k, has, refl, of)

pass_told : (d : List ℕ → List ℕ) (offset : ℕ) (s : PagedSegmentState) (m k : MarksState) (after : PagedState) (p : PassedPage) → s.marks ≡ Some m → AreItsMarks d s m → PassPageGoes d offset m k s.content after (Ok p)
    → SegmentPassGoes d offset s (record s { content = after; marks = Some k }) (Ok p)
pass_told d offset s m k after p has its goes = record {
  rest = refl;
  content = goes.content;
  marks = subst (λ (j : Option MarksState). HasSameMarks j (Some k)) (sym has) goes.same;
  answers = (
    λ none. cc (sym none ∙ its.root),
    inr (
      goes.answers.0,
      (let most = goes.answers.1 in let long = its.len in omega (arith, most, long)),
      (λ root is. kept_of_marked d s.content.page_size s.content.seal root m (λ P content. IsPassedTo P content offset p.to) its.len its.page_size (its_root d s m root its is)
          (by_marks d s.content.seal m (λ P content. IsPassedTo P content offset p.to) goes.answers.2)),
      counts d offset s m k after p.frames has its goes.answers.3,
    ),
  );
}

pub pass_of : (d : List ℕ → List ℕ) (offset : ℕ) (i s : PagedSegmentState) (m k : MarksState) (after : PagedState) (p : PassedPage) → i ≡ s → i.marks ≡ Some m → IsPagedSegment d i → PassPageGoes d offset m k i.content after (Ok p)
    → SegmentPassGoes d offset s (record i { content = after; marks = Some k }) (Ok p)
pass_of d offset i s m k after p view has its goes =
    subst (λ (t : PagedSegmentState). SegmentPassGoes d offset t (record i { content = after; marks = Some k }) (Ok p)) view (pass_told d offset i m k after p has (its_of d i m has its) goes)

pub pass_lost : (d : List ℕ → List ℕ) (offset : ℕ) (i s : PagedSegmentState) (m k : MarksState) (after : PagedState) (cause : pages.Error) (e : Error) → i ≡ s → i.marks ≡ Some m → PassPageGoes d offset m k i.content after (Err cause)
    → IsToldAs i.number cause e → SegmentPassGoes d offset s (record i { content = after; marks = Some k }) (Err e)
pass_lost d offset i s m k after cause e view has goes told =
    subst (λ (t : PagedSegmentState). SegmentPassGoes d offset t (record i { content = after; marks = Some k }) (Err e)) view (record {
      rest = refl;
      content = goes.content;
      marks = subst (λ (j : Option MarksState). HasSameMarks j (Some k)) (sym has) goes.same;
      answers = inr (inr (cause, record { before = m; after = k; old_marks = has; new_marks = refl; fails = goes.answers }, told));
    })

pub stays_passed : (d : List ℕ → List ℕ) (offset : ℕ) (s t : PagedSegmentState) (r : Result PassedPage Error) → SegmentPassGoes d offset s t r → SegmentStays s t
stays_passed d offset s t r goes = record {
  number = ap (λ (p : PagedSegmentState). p.number) goes.rest;
  seal = goes.content.seal;
  page_size = goes.content.page_size;
  root = ap (λ (p : PagedSegmentState). p.marks_root) goes.rest;
  marks = goes.marks;
}
