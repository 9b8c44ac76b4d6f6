-- A segment whose content comes page by page.
use Rattle.std.proofs.Common.{◌≡◌, ◌<◌, ◌≤◌, ◌*◌, ◌+◌, ◌-◌, ◌∙◌, ℕ, suc, List, length, drop, ap, ap₂, sym, subst, arith, suc-mul}
use Rattle.std.specs.Prelude.{[], IfOk, Result, Ok, Err}
use Rattle.std.proofs.lemmas.List.{length-drop}
use Rattle.std.proofs.Math.Nat.{lt_of_mul-lt-mul_right}
use Rattle.page_digests.specs.Growing.{DigestingState, DigestsPage, FinishesList, IsDigested}
use Rattle.page_digests.specs.Pages.{content_page, list_of}
use Rattle.page_digests.specs.Seals.{AreLevelsOver, EachIsByte, TellsApart}
use Rattle.page_digests.specs.declared.levels.Levels.{Levels}
use Rattle.segments.specs.Marks.{marks_of}
use Rattle.segments.specs.Marking.{FinishesMarks, MarkingState, TakesMarkedPage}
use Rattle.segments.specs.SegmentLevels.{FinishesSegment, GoesOnWith, IsSegmentDigested, SegmentDigestingState}
use Rattle.segments.proofs.Digested.{levels_over}

-- no page is digested yet
pub none_digested : (d : List ℕ → List ℕ) (x : DigestingState) → ((P : ℕ) (content : List ℕ) → IsDigested d P content x) → x.pages ≡ 0
none_digested d x is = let few : x.pages * 1 ≤ 0 = (is 1 []).within in omega (arith, few)

-- ---- a page

-- it was marked before
pub goes_on : (d : List ℕ → List ℕ) (page : List ℕ) (s : SegmentDigestingState) → GoesOnWith d page s s
goes_on d page s P content is paged within = is

-- it is marked
pub page_marked : {E : Type 0} (d : List ℕ → List ℕ) (page : List ℕ) (x : DigestingState) (m n : MarkingState) (r : Result (Unit {0}) E) → m.pages ≤ x.pages → TakesMarkedPage page m n r
    → GoesOnWith d page (record { digested = x; marked = m }) (record { digested = x; marked = n })
page_marked d page x m n (Ok u) few takes = λ P content is paged within.
    let same : x.pages ≡ m.pages = omega (arith, few, is.ahead) in
    let next : page ≡ content_page m.page_size m.pages content =
    paged ∙ ap₂ (λ (p k : ℕ). content_page p k content) (sym is.page_size) same in
    record {
      page_size = takes.0 ∙ is.page_size;
      digested = is.digested;
      marked = takes.2 content is.marked next;
      ahead = omega (arith, takes.1, same);
    }
page_marked d page x m n (Err e) few takes = subst (λ (k : MarkingState). GoesOnWith d page (record { digested = x; marked = m }) (record { digested = x; marked = k })) (sym takes)
    (goes_on d page (record { digested = x; marked = m }))

-- so it is marked, if no more pages were
pub marked_more : {E : Type 0} (page : List ℕ) (n : ℕ) (s t : MarkingState) (r : Result (Unit {0}) E) → TakesMarkedPage page s t r → IfOk r (λ u. n ≤ s.pages → n + 1 ≤ t.pages)
marked_more page n s t (Ok u) takes = λ few. omega (arith, few, takes.1)
marked_more page n s t (Err e) takes = tt

-- it is digested too
pub page_digests : (d : List ℕ → List ℕ) (page : List ℕ) (s m : SegmentDigestingState) (y : DigestingState) → GoesOnWith d page s m → m.digested ≡ s.digested
    → (s.digested.pages ≤ s.marked.pages → s.digested.pages + 1 ≤ m.marked.pages) → y.pages ≡ m.digested.pages + 1 → DigestsPage d page m.digested y → GoesOnWith d page s (record { digested = y; marked = m.marked })
page_digests d page s m y marks same more count taken P content is paged within =
    let now = marks P content is paged within in
    let pages : m.digested.pages ≡ s.digested.pages = ap (λ (x : DigestingState). x.pages) same in
    record {
      page_size = now.page_size;
      digested = taken P content now.digested (paged ∙ ap (λ (k : ℕ). content_page P k content) (sym pages)) (subst (λ (k : ℕ). k * P + P ≤ length content) (sym pages) within);
      marked = now.marked;
      ahead = omega (arith, more is.ahead, count, pages);
    }

-- ---- the end

-- with less than a page behind those that are digested, no page more is marked
pub as_many : (d : List ℕ → List ℕ) (P : ℕ) (content rest : List ℕ) (s : SegmentDigestingState) → IsSegmentDigested d P content s → rest ≡ drop (s.digested.pages * P) content → length rest < P
    → s.marked.pages ≡ s.digested.pages
as_many d P content rest s is rests short =
    let len : length rest ≡ length content - s.digested.pages * P = ap length rests ∙ length-drop (s.digested.pages * P) content in
    let within : s.marked.pages * P ≤ length content = subst (λ (p : ℕ). s.marked.pages * p ≤ length content) is.page_size is.marked.within in
    let step : suc s.digested.pages * P ≡ s.digested.pages * P + P = suc-mul s.digested.pages P in
    let below : s.marked.pages * P < suc s.digested.pages * P = omega (arith, len, within, step, short) in
    let few : s.marked.pages < suc s.digested.pages = lt_of_mul-lt-mul_right P below in
    omega (arith, few, is.ahead)

pub levels_finished : (d : List ℕ → List ℕ) (Q : ℕ) (rest : List ℕ) (s : SegmentDigestingState) (list marks : List ℕ) (c m : Levels) → s.marked.page_size ≡ Q
    → FinishesList d rest s.digested list → FinishesMarks rest s.marked marks → AreLevelsOver d Q list c → AreLevelsOver d Q marks m
    → ((content : List ℕ) → EachIsByte content → list ≡ list_of d Q content → TellsApart d Q content c.root)
    → FinishesSegment d rest s (record { content = c; marks = m })
levels_finished d Q rest s list marks c m size lists marked over above apart P content is rests short =
    let same : Q ≡ P = sym size ∙ is.page_size in
    let all : list ≡ list_of d P content = lists P content is.digested rests short in
    let place : s.digested.pages * P ≡ s.marked.pages * s.marked.page_size =
    ap₂ (λ (n p : ℕ). n * p) (sym (as_many d P content rest s is rests short)) (sym is.page_size) in
    let its_marks : marks ≡ marks_of P content = marked content is.marked (rests ∙ ap (λ (k : ℕ). drop k content) place) ∙ ap (λ (p : ℕ). marks_of p content) is.page_size in (
      record {
        of = levels_over d P content list c all (subst (λ (p : ℕ). AreLevelsOver d p list c) same over);
        marks = subst (λ (l : List ℕ). AreLevelsOver d P l m) its_marks (subst (λ (p : ℕ). AreLevelsOver d p marks m) same above);
      },
      λ bytes. subst (λ (p : ℕ). TellsApart d p content c.root) same (apart content bytes (all ∙ ap (λ (p : ℕ). list_of d p content) (sym same))),
    )
