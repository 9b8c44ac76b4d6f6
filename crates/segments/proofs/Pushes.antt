-- A page is marked.
use Rattle.std.proofs.Common.{◌≡◌, ◌<◌, ◌≤◌, ◌*◌, ◌+◌, ◌++◌, ◌-◌, ◌∙◌, ℕ, suc, List, length, take, drop, get_or, Bool, true, false, ap, ap₂, sym, refl, subst, inl, inr, arith, min, length-take, length-drop}
use Rattle.std.specs.Prelude.{Result, Ok, Err, OnOk}
use Rattle.std.proofs.lemmas.Bool.{cases_lt}
use Rattle.std.proofs.lemmas.List.{take_all}
use Rattle.std.proofs.Math.Nat.{mul-le-mul_left, suc-mul}
use Rattle.journal.specs.Frame.{frame_len, record_len}
use Rattle.page_digests.specs.Pages.{content_page}
use Rattle.page_digests.proofs.Growth.{count_part, count_whole}
use Rattle.segments.specs.Marks.{begins_before, frame_begin, mark_at, mark_bytes, marks, marks_of}
use Rattle.segments.specs.Marking.{FinishesMarks, IsMarked, IsMarkedTo, MarkingState, FramesBegin, PassesPage, PushesPage, TakesMarkedPage, if_cut}
use Rattle.segments.proofs.Begins.{begun_before, byte_in_page, count_is, length_at, length_in_page}

-- how far a page is passed, frame by frame
pub record IsPassing (page : List ℕ) (first frames at : ℕ) : Type 0 where
  pub counted : frames * 7 + first ≤ at
  pub near : at ≤ 65542 + length page
  pub passed : PassesPage page first frames (λ content end. end + at - length page)

-- no frame is passed yet
pub pass_begins : (page : List ℕ) (first : ℕ) → first ≤ 65542 → IsPassing page first 0 first
pass_begins page first near = record {
  counted = omega arith;
  near = omega arith;
  passed = λ content offset k n is begins.
      let same : n + 0 ≡ n = omega arith in
      record { next = ap (frame_begin content) same ∙ begins ∙ (let e : offset + first ≡ offset + length page + first - length page = omega arith in e); begun = λ m least most. absurd (omega arith) };
}

-- the frame behind one
pub next_frame : (content : List ℕ) (n at : ℕ) → frame_begin content n ≡ at → frame_begin content (n + 1) ≡ at + record_len (drop at content) + 7
next_frame content n at is =
    let one : n + 1 ≡ suc n = omega arith in
    let step : frame_begin content (suc n) ≡ frame_begin content n + frame_len (drop (frame_begin content n) content) = refl in
    ap (frame_begin content) one ∙ step ∙ ap (λ (b : ℕ). b + frame_len (drop b content)) is ∙ (let e : at + (record_len (drop at content) + 7) ≡ at + record_len (drop at content) + 7 = omega arith in e)

-- one frame more begins in the page
pub begun_more : (content : List ℕ) (end n frames at : ℕ) → FramesBegin content end n frames at → at < end → (m : ℕ) → n ≤ m → m < n + (frames + 1) → frame_begin content m < end
begun_more content end n frames at passed within m least most = elim (cases_lt m (n + frames)) [
  | inl less ↦ passed.begun m least less
  | inr more ↦
      let same : m ≡ n + frames = omega arith in
      let here : frame_begin content m ≡ at = ap (frame_begin content) same ∙ passed.next in
      omega arith
]

-- where the next frame begins, by the page's begin
from_begin : (content page : List ℕ) (offset n frames at : ℕ) → FramesBegin content (offset + length page) n frames (offset + length page + at - length page)
    → FramesBegin content (offset + length page) n frames (offset + at)
from_begin content page offset n frames at passed =
    let e : offset + length page + at - length page ≡ offset + at = omega arith in
    subst (FramesBegin content (offset + length page) n frames) e passed

pub pass_more : (page : List ℕ) (first frames at len : ℕ) → at + 1 < length page → len ≡ record_len (drop at page) → len < 65536 → IsPassing page first frames at → IsPassing page first (frames + 1) (at + (2 + len + 5))
pass_more page first frames at len within says small is = record {
  counted = omega (arith, is.counted);
  near = omega arith;
  passed = λ content offset k n paged begins.
      let passed = from_begin content page offset n frames at (is.passed content offset k n paged begins) in
      let same : n + (frames + 1) ≡ n + frames + 1 = omega arith in
      let long : len ≡ record_len (drop (offset + at) content) = says ∙ length_in_page content page offset k at paged within in
      let next = next_frame content (n + frames) (offset + at) passed.next in
      record {
        next = ap (frame_begin content) same ∙ next ∙ (let e : offset + at + record_len (drop (offset + at) content) + 7 ≡ offset + length page + (at + (2 + len + 5)) - length page = omega arith in e);
        begun = begun_more content (offset + length page) n frames (offset + at) passed (omega arith);
      };
}

-- a page whose last frame has both bytes of its length in it
pub ends_whole : (page : List ℕ) (first frames at skip : ℕ) → length page ≤ at → skip ≡ at - length page → PassesPage page first frames (λ content end. end + at - length page)
    → PassesPage page first frames (λ content end. end + skip + if_cut false (get_or content end 0))
ends_whole page first frames at skip behind is passes content offset k n paged begins =
    let e : offset + length page + at - length page ≡ offset + length page + skip + 0 = omega arith in
    subst (FramesBegin content (offset + length page) n frames) e (passes content offset k n paged begins)

-- a page with the first byte of the length of its last frame
pub ends_cut : (page : List ℕ) (first frames at skip : ℕ) → at + 1 ≡ length page → skip ≡ 6 + get_or page at 0 * 256 → PassesPage page first frames (λ content end. end + at - length page)
    → PassesPage page first (frames + 1) (λ content end. end + skip + if_cut true (get_or content end 0))
ends_cut page first frames at skip last is passes content offset k n paged begins =
    let passed = from_begin content page offset n frames at (passes content offset k n paged begins) in
    let place : offset + at + 1 ≡ offset + length page = omega arith in
    let high : get_or page at 0 ≡ get_or content (offset + at) 0 = byte_in_page content page offset k at paged (omega arith) in
    let long : record_len (drop (offset + at) content) ≡ get_or content (offset + at) 0 * 256 + get_or content (offset + at + 1) 0 = length_at content (offset + at) in
    let second : get_or content (offset + at + 1) 0 ≡ get_or content (offset + length page) 0 = ap (λ (i : ℕ). get_or content i 0) place in
    let same : n + (frames + 1) ≡ n + frames + 1 = omega arith in
    record {
      next = ap (frame_begin content) same ∙ next_frame content (n + frames) (offset + at) passed.next
          ∙ (let e : offset + at + record_len (drop (offset + at) content) + 7 ≡ offset + length page + skip + get_or content (offset + length page) 0 = omega arith in e);
      begun = begun_more content (offset + length page) n frames (offset + at) passed (omega arith);
    }

-- ---- the state behind a page

-- the mark of the page
mark_is : (content : List ℕ) (P i before first : ℕ) → before ≡ begins_before content (i * P) → frame_begin content before ≡ i * P + first
    → mark_bytes (record { before = before; skip = min first P }) ≡ mark_bytes (mark_at P content i)
mark_is content P i before first count begins =
    let there : frame_begin content (begins_before content (i * P)) ≡ i * P + first = ap (frame_begin content) (sym count) ∙ begins in
    let skip : first ≡ frame_begin content (begins_before content (i * P)) - i * P = omega arith in
    ap₂ (λ (b f : ℕ). mark_bytes (record { before = b; skip = min f P })) count skip

-- where the first frame begins behind the page's begin
first_is : (content page : List ℕ) (offset k skip first : ℕ) (is_cut : Bool) → page ≡ take k (drop offset content) → 0 < length page → first ≡ skip + if_cut is_cut (get_or page 0 0)
    → offset + skip + if_cut is_cut (get_or content offset 0) ≡ offset + first
first_is content page offset k skip first is_cut paged some is =
    let place : offset + 0 ≡ offset = omega arith in
    let byte : get_or page 0 0 ≡ get_or content offset 0 = byte_in_page content page offset k 0 paged some ∙ ap (λ (i : ℕ). get_or content i 0) place in
    let same : if_cut is_cut (get_or page 0 0) ≡ if_cut is_cut (get_or content offset 0) = ap (if_cut is_cut) byte in
    omega arith

pub page_pushed : (content page : List ℕ) (s t : MarkingState) (first frames skip : ℕ) (is_cut : Bool) → first ≡ s.skip + if_cut s.is_cut (get_or page 0 0) → 0 < length page
    → PassesPage page first frames (λ content end. end + skip + if_cut is_cut (get_or content end 0))
    → t.page_size ≡ s.page_size → t.pages ≡ s.pages + 1 → t.marks ≡ s.marks ++ mark_bytes (record { before = s.before; skip = min first s.page_size })
    → t.before ≡ s.before + frames → t.skip ≡ skip → t.is_cut ≡ is_cut → IsMarked content s → page ≡ content_page s.page_size s.pages content
    → IsMarkedTo content (s.pages * s.page_size + length page) t
page_pushed content page s t first frames skip is_cut is some ends size count listed before skips cuts marked paged =
    let P = s.page_size in
    let offset = s.pages * P in
    let end = offset + length page in
    let begins : frame_begin content s.before ≡ offset + first = marked.marked.next ∙ first_is content page offset P s.skip first s.is_cut paged some is in
    let passes = ends content offset P s.before paged begins in
    let one : t.pages ≡ suc s.pages = omega arith in
    let next : frame_begin content t.before ≡ end + skip + if_cut is_cut (get_or content end 0) = ap (frame_begin content) before ∙ passes.next in
    let all : (m : ℕ) → m < s.before + frames → frame_begin content m < end = λ m most.
    elim (cases_lt m s.before) [
      | inl less ↦
          let began = begun_before content offset m (subst (λ (k : ℕ). m < k) marked.marked.before less) in
          omega arith
      | inr more ↦ passes.begun m more most
    ] in
    record {
      marks = listed ∙ ap₂ (λ (a b : List ℕ). a ++ b) marked.marked.marks (mark_is content P s.pages s.before first marked.marked.before begins)
          ∙ ap (λ (n : ℕ). marks P content n) (sym one) ∙ ap (λ (p : ℕ). marks p content t.pages) (sym size);
      before = before ∙ count_is content end (s.before + frames) (let here = passes.next in omega arith) all;
      next = next ∙ ap₂ (λ (a : ℕ) (b : Bool). end + a + if_cut b (get_or content end 0)) (sym skips) (sym cuts);
    }

-- a whole page is taken
pub page_taken : (content page : List ℕ) (s t : MarkingState) → length page ≡ s.page_size → t.page_size ≡ s.page_size → t.pages ≡ s.pages + 1 → page ≡ content_page s.page_size s.pages content
    → 0 < s.page_size → IsMarked content s → IsMarkedTo content (s.pages * s.page_size + length page) t → IsMarked content t
page_taken content page s t whole size count paged positive before marked =
    let P = s.page_size in
    let step : suc s.pages * P ≡ s.pages * P + P = suc-mul s.pages P in
    let one : t.pages ≡ suc s.pages = omega arith in
    let end : t.pages * t.page_size ≡ s.pages * P + length page = ap₂ (λ (n p : ℕ). n * p) one size ∙ step ∙ (let e : s.pages * P + P ≡ s.pages * P + length page = omega arith in e) in
    let long : length page ≡ min P (length content - s.pages * P) = ap length paged ∙ length-take P (drop (s.pages * P) content) ∙ ap (min P) (length-drop (s.pages * P) content) in
    record {
      within = let had = before.within in omega arith;
      marked = subst (λ (n : ℕ). IsMarkedTo content n t) (sym end) marked;
    }

-- all of a content is marked, which has no rest
pub marks_done : (content rest : List ℕ) (s : MarkingState) → length rest ≡ 0 → 0 < s.page_size → IsMarked content s → rest ≡ drop (s.pages * s.page_size) content → s.marks ≡ marks_of s.page_size content
marks_done content rest s none positive is rests =
    let len : length (drop (s.pages * s.page_size) content) ≡ length content - s.pages * s.page_size = length-drop (s.pages * s.page_size) content in
    let rest_len : length rest ≡ length (drop (s.pages * s.page_size) content) = ap length rests in
    let within : s.pages * s.page_size ≤ length content = is.within in
    let all : length content ≡ s.pages * s.page_size = omega arith in
    is.marked.marks ∙ ap (marks s.page_size content) (sym (count_whole s.page_size (length content) s.pages positive all))

-- or a rest, which is marked as a page
pub rest_marked : (content rest : List ℕ) (s t : MarkingState) → 0 < length rest → length rest < s.page_size → t.page_size ≡ s.page_size → t.pages ≡ s.pages + 1
    → (rest ≡ content_page s.page_size s.pages content → IsMarkedTo content (s.pages * s.page_size + length rest) t)
    → IsMarked content s → rest ≡ drop (s.pages * s.page_size) content → t.marks ≡ marks_of s.page_size content
rest_marked content rest s t some short size count pushes is rests =
    let P = s.page_size in
    let len : length (drop (s.pages * P) content) ≡ length content - s.pages * P = length-drop (s.pages * P) content in
    let rest_len : length rest ≡ length (drop (s.pages * P) content) = ap length rests in
    let fits : length (drop (s.pages * P) content) ≤ P = omega arith in
    let paged : rest ≡ content_page P s.pages content = rests ∙ sym (take_all P (drop (s.pages * P) content) fits) in
    let more : s.pages * P < length content = omega arith in
    let less : length content < s.pages * P + P = omega arith in
    let one : t.pages ≡ suc s.pages = omega arith in
    (pushes paged).marks ∙ ap₂ (λ (p n : ℕ). marks p content n) size (one ∙ sym (count_part P (length content) s.pages (omega arith) more less))

-- a whole page, by the answer
pub page_takes : {E : Type 0} (page : List ℕ) (s t : MarkingState) (result : Result (Unit {0}) E) → length page ≡ s.page_size → 0 < s.page_size → PushesPage page s t result → TakesMarkedPage page s t result
page_takes page s t (Ok u) whole positive pushes = (
  pushes.0,
  pushes.1,
  λ content marked paged. page_taken content page s t whole pushes.0 pushes.1 paged positive marked (pushes.2 content marked paged),
)
page_takes page s t (Err e) whole positive same = same

-- a rest, by the answer
pub rest_pushed : {E : Type 0} (rest : List ℕ) (s t : MarkingState) (result : Result (Unit {0}) E) → 0 < length rest → length rest < s.page_size → PushesPage rest s t result → OnOk result (FinishesMarks rest s t.marks)
rest_pushed rest s t (Ok u) some short pushes = λ content is rests. rest_marked content rest s t some short pushes.0 pushes.1 (λ paged. pushes.2 content is paged) is rests
rest_pushed rest s t (Err e) some short same = tt

-- the count fits six bytes
pub few_frames : (before pages page_size skip : ℕ) → before * 7 ≤ pages * page_size + skip → pages * page_size < 1125899906842624 → skip ≤ 65542 → before < 281474976710656
few_frames before pages page_size skip few fits near = omega arith

-- there are no more pages than bytes in them
pub few_pages : (pages page_size : ℕ) → 0 < page_size → pages ≤ pages * page_size
few_pages pages page_size positive =
    let some : 1 ≤ page_size = omega arith in
    let least : pages * 1 ≤ pages * page_size = mul-le-mul_left pages some in
    omega arith
