-- Closed segments that are read by their marks.
use Rattle.std.specs.Prelude.{◌≡◌, ◌⊎◌, ◌↔◌, ◌<◌, ◌≤◌, ◌+◌, ℕ, suc, List, [], IfSome, IsTrue, false, true, Bool, Option, Some, None, Result, Ok, Err, length, drop}
use Rattle.std.proofs.Common.{refl, sym, ◌∙◌, ap, subst, inl, inr, arith}
use Rattle.std.proofs.lemmas.Bool.{cases_lt}
use Rattle.disk.specs.declared.error.Error.TheVariants as layer
use Rattle.journal.specs.declared.frame.Found.{Found}
use Rattle.journal.specs.Frame.{frame_len}
use Rattle.journal.specs.Journal.{IsFound}
use Rattle.page_digests.specs.Contents.{IsSameContent, PagedState}
use Rattle.page_digests.specs.declared.error.Error as pages
use Rattle.page_digests.specs.declared.error.Error.TheVariants as causes
use Rattle.page_digests.specs.declared.seal.Seal.{Seal}
use Rattle.segments.specs.declared.error.Error.{Error}
use Rattle.segments.specs.declared.error.Error.TheVariants as errors
use Rattle.segments.specs.MarkReads.{AreSameMarks, IsOfMarks, MarksState}
use Rattle.segments.specs.PagedFrames.{FrameFails, ReadsPagedFrame}
use Rattle.segments.specs.PagedReads.{AreItsMarks, IsBeginBy, CheckGoes, FoundBegins, HasSameMarks, IsAnswerOf, IsMidst, IsOfFile, IsOfKept, IsOfSegment, IsPagedSegment, MarkedReadAnswers, MarkedReadGoes, MarksFail, PagedSegmentState, SegmentFails, SegmentReadAnswers, SegmentReadGoes, SegmentRefuses}
use Rattle.segments.specs.Seeks.{IsBegin, IsBeginGoes, IsOfMarked}
use Rattle.segments.proofs.MarksRead.{same_after, same_marks}
use Rattle.segments.proofs.SegmentReads.{content_same, fails_since, of_frame, rebuilt_on, rebuilt_since}

-- ---- what is so of each content

pub kept_on : (d : List ℕ → List ℕ) (P Q : ℕ) (seal other : Seal) (root : List ℕ) (is : List ℕ → Type 0) → P ≡ Q → seal ≡ other → IsOfKept d P seal root is → IsOfKept d Q other root is
kept_on d P Q seal other root is size same of = subst (λ n. IsOfKept d n other root is) size (subst (λ l. IsOfKept d P l root is) same of)

-- what is so by the seal and the marks is so by what was kept
pub kept_of_marked : (d : List ℕ → List ℕ) (P : ℕ) (seal : Seal) (root : List ℕ) (m : MarksState) (is : ℕ → List ℕ → Type 0) → m.len ≡ seal.len → m.bytes.page_size ≡ P → m.root ≡ root → IsOfMarked d seal m is → IsOfKept d P seal root (is P)
kept_of_marked d P seal root m is long size same of =
    subst (λ n. IsOfKept d n seal root (is n)) size (λ content sealed has. of content sealed (record { len = long ∙ has.len; root = same ∙ has.root }))

-- what is so by the marks alone
pub by_marks : (d : List ℕ → List ℕ) (seal : Seal) (m : MarksState) (is : ℕ → List ℕ → Type 0) → IsOfMarks d m is → IsOfMarked d seal m is
by_marks d seal m is of content sealed has = elim (of content has) [
  | inl it ↦ inl it
  | inr twin ↦ inr (inr twin)
]

-- another thing follows
pub kept_so : (d : List ℕ → List ℕ) (P : ℕ) (seal : Seal) (root : List ℕ) (is other : List ℕ → Type 0) → ((content : List ℕ) → length content ≡ seal.len → is content → other content) → IsOfKept d P seal root is
    → IsOfKept d P seal root other
kept_so d P seal root is other follows of content sealed has = elim (of content sealed has) [
  | inl it ↦ inl (follows content (sym has.len) it)
  | inr twin ↦ inr twin
]

pub marked_so : (d : List ℕ → List ℕ) (seal : Seal) (m : MarksState) (is other : ℕ → List ℕ → Type 0) → ((P : ℕ) → (content : List ℕ) → is P content → other P content) → IsOfMarked d seal m is → IsOfMarked d seal m other
marked_so d seal m is other follows of content sealed has = elim (of content sealed has) [
  | inl it ↦ inl (follows m.bytes.page_size content it)
  | inr twin ↦ inr twin
]

-- ---- a segment stays

-- the same segment, of which perhaps more was read
pub record SegmentStays (s t : PagedSegmentState) : Type 0 where
  pub number : t.number ≡ s.number
  pub seal : t.content.seal ≡ s.content.seal
  pub page_size : t.content.page_size ≡ s.content.page_size
  pub root : t.marks_root ≡ s.marks_root
  pub marks : HasSameMarks s.marks t.marks

pub marks_same : (k : Option MarksState) → HasSameMarks k k
marks_same None = tt
marks_same (Some m) = same_marks m

pub marks_alike : (k j : Option MarksState) → j ≡ k → HasSameMarks k j
marks_alike k j same = subst (λ (i : Option MarksState). HasSameMarks k i) (sym same) (marks_same k)

pub marks_after : (k j i : Option MarksState) → HasSameMarks k j → HasSameMarks j i → HasSameMarks k i
marks_after (Some m) (Some n) (Some o) one other = same_after m n o one other
marks_after None None None one other = tt
marks_after (Some m) (Some n) None one other = absurd other
marks_after (Some m) None i one other = absurd one
marks_after None (Some n) i one other = absurd one
marks_after None None (Some o) one other = absurd other

pub none_on : (k j : Option MarksState) → HasSameMarks k j → k ≡ None → j ≡ None
none_on None None same none = refl
none_on None (Some n) same none = absurd same
none_on (Some m) j same none = cc none

pub stays_checked : (d : List ℕ → List ℕ) (offset : ℕ) (s t : PagedSegmentState) (r : Result Bool pages.Error) → CheckGoes d offset s t r → SegmentStays s t
stays_checked d offset s t r goes = record {
  number = ap (λ (p : PagedSegmentState). p.number) goes.rest;
  seal = goes.content.seal;
  page_size = goes.content.page_size;
  root = ap (λ (p : PagedSegmentState). p.marks_root) goes.rest;
  marks = goes.marks;
}

stays_read : (d : List ℕ → List ℕ) (own : List ℕ → ℕ) (offset : ℕ) (s t : PagedSegmentState) (r : Result (Option Found) Error) → SegmentReadGoes d own offset s t r → SegmentStays s t
stays_read d own offset s t r goes = record {
  number = goes.same.number;
  seal = goes.same.of;
  page_size = goes.same.page_size;
  root = goes.marks.root;
  marks = marks_alike s.marks t.marks goes.marks.marks;
}

pub segment_on : (d : List ℕ → List ℕ) (s t : PagedSegmentState) (is : List ℕ → Type 0) → SegmentStays s t → IsOfSegment d s is → IsOfSegment d t is
segment_on d s t is stays of root has = kept_on d s.content.page_size t.content.page_size s.content.seal t.content.seal root is (sym stays.page_size) (sym stays.seal) (of root (sym stays.root ∙ has))

pub segment_back : (d : List ℕ → List ℕ) (s t : PagedSegmentState) (is : List ℕ → Type 0) → SegmentStays s t → IsOfSegment d t is → IsOfSegment d s is
segment_back d s t is stays of root has = kept_on d t.content.page_size s.content.page_size t.content.seal s.content.seal root is stays.page_size stays.seal (of root (stays.root ∙ has))

midst_back : (d : List ℕ → List ℕ) (offset : ℕ) (s t : PagedSegmentState) → SegmentStays s t → IsMidst d offset t → IsMidst d offset s
midst_back d offset s t stays (root, has, of) = (
  root,
  sym stays.root ∙ has,
  kept_on d t.content.page_size s.content.page_size t.content.seal s.content.seal root (λ content. IsBegin content offset → ⊥) stays.page_size stays.seal of,
)

pub begins_on : (d : List ℕ → List ℕ) (offset : ℕ) (s t : PagedSegmentState) → SegmentStays s t → IsBeginBy d offset s → IsBeginBy d offset t
begins_on d offset s t stays (inl begins) = inl (segment_on d s t (λ content. IsBegin content offset) stays begins)
begins_on d offset s t stays (inr none) = inr (none_on s.marks t.marks stays.marks none)

-- ---- its marks stay its own

own_on : (d : List ℕ → List ℕ) (s t : PagedSegmentState) (m n : MarksState) → SegmentStays s t → AreSameMarks m n → (t.content.seal.len ≤ t.ended) ⊎ IsOfSegment d t (λ content. IsBegin content t.ended) → AreItsMarks d s m
    → AreItsMarks d t n
own_on d s t m n stays same ended is = record {
  len = same.len ∙ is.len ∙ ap (λ (l : Seal). l.len) (sym stays.seal);
  page_size = same.bytes.page_size ∙ is.page_size ∙ sym stays.page_size;
  root = stays.root ∙ is.root ∙ ap (λ (b : List ℕ). Some b) (sym same.root);
  ended = ended;
}

own_by : (d : List ℕ → List ℕ) (s t : PagedSegmentState) (k j : Option MarksState) → SegmentStays s t → HasSameMarks k j
    → ((m : MarksState) → AreItsMarks d s m → (t.content.seal.len ≤ t.ended) ⊎ IsOfSegment d t (λ content. IsBegin content t.ended))
    → IfSome k (λ m. AreItsMarks d s m) → IfSome j (λ m. AreItsMarks d t m)
own_by d s t None None stays same ended is = tt
own_by d s t (Some m) (Some n) stays same ended is = own_on d s t m n stays same (ended m is) is
own_by d s t None (Some n) stays same ended is = absurd same
own_by d s t (Some m) None stays same ended is = absurd same

ended_on : (d : List ℕ → List ℕ) (s t : PagedSegmentState) (m : MarksState) → SegmentStays s t → t.ended ≡ s.ended → AreItsMarks d s m → (t.content.seal.len ≤ t.ended) ⊎ IsOfSegment d t (λ content. IsBegin content t.ended)
ended_on d s t m stays same is = elim (is.ended) [
  | inl long ↦ let whole : t.content.seal.len ≡ s.content.seal.len = ap (λ (l : Seal). l.len) stays.seal in inl (omega (arith, long, whole, same))
  | inr begins ↦ inr (subst (λ n. IsOfSegment d t (λ content. IsBegin content n)) (sym same) (segment_on d s t (λ content. IsBegin content s.ended) stays begins))
]

pub still_its : (d : List ℕ → List ℕ) (s t : PagedSegmentState) → SegmentStays s t → t.ended ≡ s.ended → IsPagedSegment d s → IsPagedSegment d t
still_its d s t stays same is = own_by d s t s.marks t.marks stays stays.marks (λ m its. ended_on d s t m stays same its) is

-- its content and its marks were read
pub content_its : (d : List ℕ → List ℕ) (i : PagedSegmentState) (after : PagedState) (k : Option MarksState) (settled : Bool) → after.seal ≡ i.content.seal → after.page_size ≡ i.content.page_size → HasSameMarks i.marks k → IsPagedSegment d i
    → IsPagedSegment d (record i { content = after; marks = k; is_settled = settled })
content_its d i after k settled seal size same is =
    still_its d i (record i { content = after; marks = k; is_settled = settled }) (record { number = refl; seal = seal; page_size = size; root = refl; marks = same }) refl is

pub only_content_its : (d : List ℕ → List ℕ) (i : PagedSegmentState) (after : PagedState) (settled : Bool) → after.seal ≡ i.content.seal → after.page_size ≡ i.content.page_size → IsPagedSegment d i
    → IsPagedSegment d (record i { content = after; is_settled = settled })
only_content_its d i after settled seal size is = content_its d i after i.marks settled seal size (marks_same i.marks) is

-- ---- the check of a place

pub same_some : (b c : List ℕ) → Some b ≡ Some c → b ≡ c
same_some b c is = ap (λ (o : Option (List ℕ)). or_none o) is
  where
    or_none : Option (List ℕ) → List ℕ
    or_none (Some bytes) = bytes
    or_none None = []

pub its_root : (d : List ℕ → List ℕ) (s : PagedSegmentState) (m : MarksState) (root : List ℕ) → AreItsMarks d s m → s.marks_root ≡ Some root → m.root ≡ root
its_root d s m root its has = same_some m.root root (sym its.root ∙ has)

check_told : (d : List ℕ → List ℕ) (offset : ℕ) (s : PagedSegmentState) (m n : MarksState) (after : PagedState) (r : Result Bool pages.Error) → s.marks ≡ Some m → AreItsMarks d s m → IsBeginGoes d offset m n s.content after r
    → CheckGoes d offset s (record s { content = after; marks = Some n }) r
check_told d offset s m n after r has its goes = answered r goes
  where
    is_so : (b : Bool) → IsOfMarked d s.content.seal m (λ P content. IsTrue b ↔ IsBegin content offset) → (root : List ℕ) → m.root ≡ root
        → IsOfKept d s.content.page_size s.content.seal root (λ content. IsTrue b ↔ IsBegin content offset)
    is_so b of root same = kept_of_marked d s.content.page_size s.content.seal root m (λ P content. IsTrue b ↔ IsBegin content offset) its.len its.page_size same of

    answered : (r : Result Bool pages.Error) → IsBeginGoes d offset m n s.content after r → CheckGoes d offset s (record s { content = after; marks = Some n }) r
    answered (Ok true) goes = record {
      rest = refl;
      content = goes.content;
      marks = subst (λ (k : Option MarksState). HasSameMarks k (Some n)) (sym has) goes.same;
      answers = inl (λ root has. kept_so d s.content.page_size s.content.seal root (λ content. IsTrue true ↔ IsBegin content offset) (λ content. IsBegin content offset) (λ content long says. says.0 refl)
          (is_so true goes.answers root (its_root d s m root its has)));
    }
    answered (Ok false) goes = record {
      rest = refl;
      content = goes.content;
      marks = subst (λ (k : Option MarksState). HasSameMarks k (Some n)) (sym has) goes.same;
      answers = (
        m.root,
        its.root,
        kept_so d s.content.page_size s.content.seal m.root (λ content. IsTrue false ↔ IsBegin content offset) (λ content. IsBegin content offset → ⊥)
            (λ content long says begin. cc (says.1 begin)) (is_so false goes.answers m.root refl),
      );
    }
    answered (Err e) goes = record {
      rest = refl;
      content = goes.content;
      marks = subst (λ (k : Option MarksState). HasSameMarks k (Some n)) (sym has) goes.same;
      answers = record { before = m; after = n; old = s.content; marks = refl; same = goes.same; content = goes.content; fails = goes.answers };
    }

-- by the fields of a segment
pub checked : (d : List ℕ → List ℕ) (offset : ℕ) (i s : PagedSegmentState) (m n : MarksState) (after : PagedState) (r : Result Bool pages.Error) → i ≡ s → i.marks ≡ Some m → IsPagedSegment d i
    → IsBeginGoes d offset m n i.content after r → CheckGoes d offset s (record i { content = after; marks = Some n }) r
checked d offset i s m n after r view is its goes =
    subst (λ (t : PagedSegmentState). CheckGoes d offset t (record i { content = after; marks = Some n }) r) view
    (check_told d offset i m n after r is (subst (λ (k : Option MarksState). IfSome k (λ m. AreItsMarks d i m)) is its) goes)

pub unchecked : (d : List ℕ → List ℕ) (offset : ℕ) (s : PagedSegmentState) → s.marks ≡ None → CheckGoes d offset s s (Ok true)
unchecked d offset s none = record { rest = refl; content = content_same s.content; marks = marks_same s.marks; answers = inr none }

-- ---- a read that isn't refused by the marks

-- a read that failed is refused
pub refused_so : (d : List ℕ → List ℕ) (offset : ℕ) (s t : PagedSegmentState) (e : Error) → SegmentFails d offset s t e → SegmentRefuses d offset s t e
refused_so d offset s t e fails = inr fails

marked_answers : (d : List ℕ → List ℕ) (own : List ℕ → ℕ) (offset : ℕ) (s t : PagedSegmentState) (r : Result (Option Found) Error) → SegmentReadAnswers d own offset s t r → MarkedReadAnswers d own offset s t r
marked_answers d own offset s t (Ok found) is = is
marked_answers d own offset s t (Err e) is = inr is

pub marked_of : (d : List ℕ → List ℕ) (own : List ℕ → ℕ) (offset : ℕ) (s t : PagedSegmentState) (r : Result (Option Found) Error) → SegmentReadGoes d own offset s t r → FoundBegins d offset s t r → MarkedReadGoes d own offset s t r
marked_of d own offset s t r goes begins = record {
  same = goes.same;
  root = goes.marks.root;
  marks = marks_alike s.marks t.marks goes.marks.marks;
  stays = goes.stays;
  rebuilt = goes.rebuilt;
  answers = marked_answers d own offset s t r goes.answers;
  begins = begins;
}

-- a frame that is found begins before the content's end
not_behind : (d : List ℕ → List ℕ) (own : List ℕ → ℕ) (P : ℕ) (seal : Seal) (offset : ℕ) (f : Found) → ReadsPagedFrame d own P seal offset (Some f) → offset < seal.len
not_behind d own P seal offset f is = let forward = is.forward in let within = is.within in omega (arith, forward, within)

found_begins : (d : List ℕ → List ℕ) (own : List ℕ → ℕ) (offset : ℕ) (s t : PagedSegmentState) (r : Result (Option Found) Error) → (s.content.seal.len ≤ offset) ⊎ IsBeginBy d offset s → HasSameMarks s.marks t.marks
    → SegmentReadAnswers d own offset s t r → FoundBegins d offset s t r
found_begins d own offset s t (Ok (Some f)) (inl long) same is = let below = not_behind d own s.content.page_size s.content.seal offset f is in absurd (omega (arith, long, below))
found_begins d own offset s t (Ok (Some f)) (inr (inl begins)) same is = inl begins
found_begins d own offset s t (Ok (Some f)) (inr (inr none)) same is = inr (inl (none_on s.marks t.marks same none))
found_begins d own offset s t (Ok None) begins same is = tt
found_begins d own offset s t (Err e) begins same is = tt

-- a frame is read where one begins
pub begin_read : (d : List ℕ → List ℕ) (own : List ℕ → ℕ) (offset : ℕ) (s t : PagedSegmentState) (r : Result (Option Found) Error) → (s.content.seal.len ≤ offset) ⊎ IsBeginBy d offset s → SegmentReadGoes d own offset s t r
    → MarkedReadGoes d own offset s t r
begin_read d own offset s t r begins goes = marked_of d own offset s t r goes (found_begins d own offset s t r begins (marks_alike s.marks t.marks goes.marks.marks) goes.answers)

-- the same, and where it ended is kept
begins_ended : (d : List ℕ → List ℕ) (offset end : ℕ) (s t : PagedSegmentState) (r : Result (Option Found) Error) → FoundBegins d offset s t r → FoundBegins d offset s (record t { ended = end }) r
begins_ended d offset end s t (Ok (Some f)) (inl begins) = inl begins
begins_ended d offset end s t (Ok (Some f)) (inr (inl none)) = inr (inl none)
begins_ended d offset end s t (Ok (Some f)) (inr (inr (e, of, fails))) = inr (inr (
  e,
  of,
  record {
    before = fails.before;
    after = fails.after;
    old = fails.old;
    marks = fails.marks;
    same = fails.same;
    content = fails.content;
    fails = fails.fails;
  },
))
begins_ended d offset end s t (Ok None) is = tt
begins_ended d offset end s t (Err e) is = tt

answers_ended : (d : List ℕ → List ℕ) (own : List ℕ → ℕ) (offset end : ℕ) (s t : PagedSegmentState) (r : Result (Option Found) Error) → MarkedReadAnswers d own offset s t r → MarkedReadAnswers d own offset s (record t { ended = end }) r
answers_ended d own offset end s t (Ok found) is = is
answers_ended d own offset end s t (Err e) (inl midst) = inl midst
answers_ended d own offset end s t (Err e) (inr is) = inr (record { cause = is.cause; fails = is.fails; told = is.told; settled = is.settled })

pub read_ended : (d : List ℕ → List ℕ) (own : List ℕ → ℕ) (offset end : ℕ) (s t : PagedSegmentState) (r : Result (Option Found) Error) → MarkedReadGoes d own offset s t r → MarkedReadGoes d own offset s (record t { ended = end }) r
read_ended d own offset end s t r goes = record {
  same = record { number = goes.same.number; of = goes.same.of; page_size = goes.same.page_size };
  root = goes.root;
  marks = goes.marks;
  stays = goes.stays;
  rebuilt = goes.rebuilt;
  answers = answers_ended d own offset end s t r goes.answers;
  begins = begins_ended d offset end s t r goes.begins;
}

-- the next frame begins where a whole one ends
next_begins : (own : List ℕ → ℕ) (content : List ℕ) (offset : ℕ) (f : Found) → IsBegin content offset → IsFound own content offset f.bytes f.end → f.end < length content → IsBegin content f.end
next_begins own content offset f (n, begins) is before =
    let after = is.after in
    let within = is.within in
    let whole : offset + frame_len (drop_at offset) ≡ f.end = omega (arith, after, within, before) in
    (suc n, ap (λ at. at + frame_len (drop_at at)) begins ∙ whole)
  where
    drop_at : ℕ → List ℕ
    drop_at at = drop at content

-- where the frame ended that was read: there one begins, or the content ends
pub ended_there : (d : List ℕ → List ℕ) (own : List ℕ → ℕ) (offset : ℕ) (s : PagedSegmentState) (f : Found) → ReadsPagedFrame d own s.content.page_size s.content.seal offset (Some f)
    → IsOfSegment d s (λ content. IsBegin content offset) → (s.content.seal.len ≤ f.end) ⊎ IsOfSegment d s (λ content. IsBegin content f.end)
ended_there d own offset s f is begins = elim (cases_lt f.end s.content.seal.len) [
  | inr long ↦ inl long
  | inl before ↦ inr (λ root has content sealed marked. elim (begins root has content sealed marked) [
    | inr twin ↦ inr twin
    | inl begin ↦
        elim (is.reads content sealed) [
          | inr twin ↦ inr (inl twin)
          | inl found ↦ inl (next_begins own content offset f begin found (subst (λ n. f.end < n) marked.len before))
        ]
  ])
]

-- so its marks are its own still
pub its_ended : (d : List ℕ → List ℕ) (own : List ℕ → ℕ) (offset : ℕ) (s t : PagedSegmentState) (f : Found) → (s.content.seal.len ≤ offset) ⊎ IsBeginBy d offset s → SegmentReadGoes d own offset s t (Ok (Some f)) → IsPagedSegment d t
    → IsPagedSegment d (record t { ended = f.end })
its_ended d own offset s t f begins goes is = by_marks_of t.marks refl is
  where
    stays : SegmentStays s t
    stays = stays_read d own offset s t (Ok (Some f)) goes

    reads : ReadsPagedFrame d own t.content.page_size t.content.seal offset (Some f)
    reads = of_frame d own t.content.page_size s.content.page_size t.content.seal s.content.seal offset (Some f) (sym stays.page_size) (sym stays.seal) goes.answers

    ends : (m : MarksState) → t.marks ≡ Some m → (s.content.seal.len ≤ offset) ⊎ IsBeginBy d offset s → (t.content.seal.len ≤ f.end) ⊎ IsOfSegment d t (λ content. IsBegin content f.end)
    ends m has (inl long) = let below = not_behind d own s.content.page_size s.content.seal offset f goes.answers in absurd (omega (arith, long, below))
    ends m has (inr (inl begin)) = ended_there d own offset t f reads (segment_on d s t (λ content. IsBegin content offset) stays begin)
    ends m has (inr (inr none)) = cc (sym has ∙ none_on s.marks t.marks stays.marks none)

    by_marks_of : (k : Option MarksState) → t.marks ≡ k → IfSome k (λ m. AreItsMarks d t m) → IfSome k (λ m. AreItsMarks d (record t { ended = f.end }) m)
    by_marks_of None has its = tt
    by_marks_of (Some m) has its = record { len = its.len; page_size = its.page_size; root = its.root; ended = ends m has begins }

-- ---- a read after a check

since_begins : (d : List ℕ → List ℕ) (offset : ℕ) (s m t : PagedSegmentState) (r : Result (Option Found) Error) → SegmentStays s m → FoundBegins d offset m t r → FoundBegins d offset s t r
since_begins d offset s m t (Ok (Some f)) stays (inl begins) = inl (segment_back d s m (λ content. IsBegin content offset) stays begins)
since_begins d offset s m t (Ok (Some f)) stays (inr fails) = inr fails
since_begins d offset s m t (Ok None) stays is = tt
since_begins d offset s m t (Err e) stays is = tt

since_answers : (d : List ℕ → List ℕ) (own : List ℕ → ℕ) (offset : ℕ) (s m t : PagedSegmentState) (r : Result (Option Found) Error) → SegmentStays s m → IsSameContent s.content m.content → MarkedReadAnswers d own offset m t r
    → MarkedReadAnswers d own offset s t r
since_answers d own offset s m t (Ok found) stays same is = of_frame d own s.content.page_size m.content.page_size s.content.seal m.content.seal offset found stays.page_size stays.seal is
since_answers d own offset s m t (Err e) stays same (inl midst) = inl (subst (λ n. e ≡ errors.NoFrame n offset) stays.number midst.0, midst_back d offset s m stays midst.1)
since_answers d own offset s m t (Err e) stays same (inr fails) = inr (fails_since d (FrameFails d offset) s m t e stays.number same fails)

pub marked_since : (d : List ℕ → List ℕ) (own : List ℕ → ℕ) (offset : ℕ) (s m t : PagedSegmentState) (c : Result Bool pages.Error) (r : Result (Option Found) Error) → CheckGoes d offset s m c → MarkedReadGoes d own offset m t r
    → MarkedReadGoes d own offset s t r
marked_since d own offset s m t c r check goes =
    let stays : SegmentStays s m = stays_checked d offset s m c check in
    let settled : m.is_settled ≡ s.is_settled = ap (λ (p : PagedSegmentState). p.is_settled) check.rest in
    record {
      same = record { number = goes.same.number ∙ stays.number; of = goes.same.of ∙ stays.seal; page_size = goes.same.page_size ∙ stays.page_size };
      root = goes.root ∙ stays.root;
      marks = marks_after s.marks m.marks t.marks check.marks goes.marks;
      stays = λ is. goes.stays (settled ∙ is);
      rebuilt = λ is. elim (goes.rebuilt is) [
        | inl before ↦ inl (sym settled ∙ before)
        | inr anew ↦ inr (rebuilt_since d s.content m.content t.content check.content anew)
      ];
      answers = since_answers d own offset s m t r stays check.content goes.answers;
      begins = since_begins d offset s m t r stays goes.begins;
    }

-- one begins where the check says so
pub checked_begin : (d : List ℕ → List ℕ) (offset : ℕ) (s t : PagedSegmentState) → CheckGoes d offset s t (Ok true) → (t.content.seal.len ≤ offset) ⊎ IsBeginBy d offset t
checked_begin d offset s t goes = inr (begins_on d offset s t (stays_checked d offset s t (Ok true) goes) goes.answers)

-- and where the last one ended
pub begins_at_end : (d : List ℕ → List ℕ) (s : PagedSegmentState) (offset : ℕ) → offset ≡ s.ended → IsPagedSegment d s → (s.content.seal.len ≤ offset) ⊎ IsBeginBy d offset s
begins_at_end d s offset same is = subst (λ n. (s.content.seal.len ≤ n) ⊎ IsBeginBy d n s) (sym same) (by_marks_of s.marks refl is)
  where
    by_marks_of : (k : Option MarksState) → s.marks ≡ k → IfSome k (λ m. AreItsMarks d s m) → (s.content.seal.len ≤ s.ended) ⊎ IsBeginBy d s.ended s
    by_marks_of None has its = inr (inr has)
    by_marks_of (Some m) has its = elim (its.ended) [
      | inl long ↦ inl long
      | inr begins ↦ inr (inl begins)
    ]

-- a check that leaves the segment
check_leaves : (d : List ℕ → List ℕ) (own : List ℕ → ℕ) (offset : ℕ) (s t : PagedSegmentState) (c : Result Bool pages.Error) (r : Result (Option Found) Error) → CheckGoes d offset s t c → MarkedReadAnswers d own offset s t r
    → FoundBegins d offset s t r → MarkedReadGoes d own offset s t r
check_leaves d own offset s t c r check answers begins =
    let stays : SegmentStays s t = stays_checked d offset s t c check in
    let settled : t.is_settled ≡ s.is_settled = ap (λ (p : PagedSegmentState). p.is_settled) check.rest in
    record {
      same = record { number = stays.number; of = stays.seal; page_size = stays.page_size };
      root = stays.root;
      marks = check.marks;
      stays = λ is. settled ∙ is;
      rebuilt = λ is. inl (sym settled ∙ is);
      answers = answers;
      begins = begins;
    }

-- none begins there
pub no_frame_there : (d : List ℕ → List ℕ) (own : List ℕ → ℕ) (offset number : ℕ) (s t : PagedSegmentState) → CheckGoes d offset s t (Ok false) → number ≡ s.number → MarkedReadGoes d own offset s t (Err (errors.NoFrame number offset))
no_frame_there d own offset number s t check same =
    check_leaves d own offset s t (Ok false) (Err (errors.NoFrame number offset)) check (inl (ap (λ n. errors.NoFrame n offset) same, check.answers)) tt

no_memory : (d : List ℕ → List ℕ) (offset : ℕ) (s t : PagedSegmentState) → SegmentFails d offset s t (errors.Layer layer.OutOfMemory)
no_memory d offset s t = record { cause = causes.OutOfMemory; fails = inr (inr refl); told = refl; settled = λ damage. absurd damage }

-- memory was refused as it was looked for
pub no_memory_there : (d : List ℕ → List ℕ) (own : List ℕ → ℕ) (offset : ℕ) (s t : PagedSegmentState) (c : Result Bool pages.Error) → CheckGoes d offset s t c → MarkedReadGoes d own offset s t (Err (errors.Layer layer.OutOfMemory))
no_memory_there d own offset s t c check = check_leaves d own offset s t c (Err (errors.Layer layer.OutOfMemory)) check (inr (no_memory d offset s t)) tt

-- ---- a check after a read

after_answers : (d : List ℕ → List ℕ) (own : List ℕ → ℕ) (offset : ℕ) (s m t : PagedSegmentState) (found : Option Found) (c : Result Bool pages.Error) (r : Result (Option Found) Error) → SegmentReadGoes d own offset s m (Ok found)
    → CheckGoes d offset m t c → MarkedReadAnswers d own offset s t r → FoundBegins d offset s t r → MarkedReadGoes d own offset s t r
after_answers d own offset s m t found c r goes check answers begins =
    let first : SegmentStays s m = stays_read d own offset s m (Ok found) goes in
    let second : SegmentStays m t = stays_checked d offset m t c check in
    let settled : t.is_settled ≡ m.is_settled = ap (λ (p : PagedSegmentState). p.is_settled) check.rest in
    record {
      same = record { number = second.number ∙ first.number; of = second.seal ∙ first.seal; page_size = second.page_size ∙ first.page_size };
      root = second.root ∙ first.root;
      marks = marks_after s.marks m.marks t.marks first.marks second.marks;
      stays = λ is. settled ∙ goes.stays is;
      rebuilt = λ is. elim (goes.rebuilt (sym settled ∙ is)) [
        | inl before ↦ inl before
        | inr anew ↦ inr (rebuilt_on d s.content m.content t.content anew check.content.reads)
      ];
      answers = answers;
      begins = begins;
    }

-- one begins there
pub then_begins : (d : List ℕ → List ℕ) (own : List ℕ → ℕ) (offset : ℕ) (s m t : PagedSegmentState) (found : Option Found) → SegmentReadGoes d own offset s m (Ok found) → CheckGoes d offset m t (Ok true)
    → MarkedReadGoes d own offset s t (Ok found)
then_begins d own offset s m t found goes check = after_answers d own offset s m t found (Ok true) (Ok found) goes check goes.answers (by_found found)
  where
    by_check : IsBeginBy d offset m → IsOfSegment d s (λ content. IsBegin content offset) ⊎ MarksFail d offset t
    by_check (inl begins) = inl (segment_back d s m (λ content. IsBegin content offset) (stays_read d own offset s m (Ok found) goes) begins)
    by_check (inr none) = inr (inl (none_on m.marks t.marks check.marks none))

    by_found : (f : Option Found) → FoundBegins d offset s t (Ok f)
    by_found (Some f) = by_check check.answers
    by_found None = tt

-- the marks can't be used
pub then_fails : (d : List ℕ → List ℕ) (own : List ℕ → ℕ) (offset : ℕ) (s m t : PagedSegmentState) (found : Option Found) (e : pages.Error) → IsOfFile e → SegmentReadGoes d own offset s m (Ok found) → CheckGoes d offset m t (Err e)
    → MarkedReadGoes d own offset s t (Ok found)
then_fails d own offset s m t found e of goes check = after_answers d own offset s m t found (Err e) (Ok found) goes check goes.answers (by_found found)
  where
    by_found : (f : Option Found) → FoundBegins d offset s t (Ok f)
    by_found (Some f) = inr (inr (e, of, check.answers))
    by_found None = tt

-- none begins there
pub then_no_frame : (d : List ℕ → List ℕ) (own : List ℕ → ℕ) (offset number : ℕ) (s m t : PagedSegmentState) (found : Option Found) → number ≡ m.number → SegmentReadGoes d own offset s m (Ok found) → CheckGoes d offset m t (Ok false)
    → MarkedReadGoes d own offset s t (Err (errors.NoFrame number offset))
then_no_frame d own offset number s m t found same goes check =
    let stays : SegmentStays s m = stays_read d own offset s m (Ok found) goes in
    after_answers d own offset s m t found (Ok false) (Err (errors.NoFrame number offset)) goes check
    (inl (ap (λ n. errors.NoFrame n offset) (same ∙ stays.number), midst_back d offset s m stays check.answers)) tt

-- memory was refused
pub then_no_memory : (d : List ℕ → List ℕ) (own : List ℕ → ℕ) (offset : ℕ) (s m t : PagedSegmentState) (found : Option Found) (c : Result Bool pages.Error) → SegmentReadGoes d own offset s m (Ok found) → CheckGoes d offset m t c
    → MarkedReadGoes d own offset s t (Err (errors.Layer layer.OutOfMemory))
then_no_memory d own offset s m t found c goes check = after_answers d own offset s m t found c (Err (errors.Layer layer.OutOfMemory)) goes check (inr (no_memory d offset s t)) tt

-- ---- by the fields of a segment

-- where the frame ended that was read is kept
pub its_ended_by : (d : List ℕ → List ℕ) (own : List ℕ → ℕ) (offset : ℕ) (s i t : PagedSegmentState) (f : Found) → i ≡ t → (s.content.seal.len ≤ offset) ⊎ IsBeginBy d offset s → SegmentReadGoes d own offset s t (Ok (Some f))
    → IsPagedSegment d i → IsPagedSegment d (record i { ended = f.end })
its_ended_by d own offset s i t f view begins goes is =
    its_ended d own offset s i f begins (subst (λ (p : PagedSegmentState). SegmentReadGoes d own offset s p (Ok (Some f))) (sym view) goes) is

pub ended_by : (d : List ℕ → List ℕ) (own : List ℕ → ℕ) (offset : ℕ) (s i t : PagedSegmentState) (f : Found) → i ≡ t → (s.content.seal.len ≤ offset) ⊎ IsBeginBy d offset s → SegmentReadGoes d own offset s t (Ok (Some f))
    → MarkedReadGoes d own offset s (record i { ended = f.end }) (Ok (Some f))
ended_by d own offset s i t f view begins goes =
    read_ended d own offset f.end s i (Ok (Some f)) (begin_read d own offset s i (Ok (Some f)) begins (subst (λ (p : PagedSegmentState). SegmentReadGoes d own offset s p (Ok (Some f))) (sym view) goes))

-- marks that were opened are a segment's own
pub opened_its : (d : List ℕ → List ℕ) (i : PagedSegmentState) (P count : ℕ) (root : List ℕ) (k : Option MarksState) → count ≡ i.content.seal.len → P ≡ i.content.page_size
    → IfSome k (λ m. (m.len ≡ count) × (m.root ≡ root) × (m.bytes.page_size ≡ P)) → IsPagedSegment d (record i { marks_root = Some root; marks = k; ended = 0 })
opened_its d i P count root None long size is = tt
opened_its d i P count root (Some m) long size is = record {
  len = is.0 ∙ long;
  page_size = is.2 ∙ size;
  root = ap (λ (b : List ℕ). Some b) (sym is.1);
  ended = inr (λ r has content sealed its. inl (0, refl));
}

-- the check after a read, by its answer
pub then_answered : (d : List ℕ → List ℕ) (own : List ℕ → ℕ) (offset number : ℕ) (s m t : PagedSegmentState) (found : Option Found) (checked : Result Bool pages.Error) (r : Result (Option Found) Error) → number ≡ s.number
    → SegmentReadGoes d own offset s m (Ok found) → CheckGoes d offset m t checked → IsAnswerOf number offset checked found r → MarkedReadGoes d own offset s t r
then_answered d own offset number s m t found (Ok true) r same goes check is = subst (λ (x : Result (Option Found) Error). MarkedReadGoes d own offset s t x) (sym is) (then_begins d own offset s m t found goes check)
then_answered d own offset number s m t found (Ok false) r same goes check is =
    subst (λ (x : Result (Option Found) Error). MarkedReadGoes d own offset s t x) (sym is) (then_no_frame d own offset number s m t found (same ∙ sym goes.same.number) goes check)
then_answered d own offset number s m t found (Err causes.Damaged) r same goes check is =
    subst (λ (x : Result (Option Found) Error). MarkedReadGoes d own offset s t x) (sym is) (then_fails d own offset s m t found causes.Damaged tt goes check)
then_answered d own offset number s m t found (Err (causes.System e)) r same goes check is =
    subst (λ (x : Result (Option Found) Error). MarkedReadGoes d own offset s t x) (sym is) (then_fails d own offset s m t found (causes.System e) tt goes check)
then_answered d own offset number s m t found (Err causes.OutOfMemory) r same goes check is =
    subst (λ (x : Result (Option Found) Error). MarkedReadGoes d own offset s t x) (sym is) (then_no_memory d own offset s m t found (Err causes.OutOfMemory) goes check)
