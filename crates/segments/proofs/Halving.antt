-- The page of a frame is searched by halves.
use Rattle.std.proofs.Common.{◌≡◌, ◌<◌, ◌≤◌, ◌*◌, ◌+◌, ◌-◌, ◌/◌, ◌^◌, ℕ, List, length, ap, sym, subst, inl, inr, arith}
use Rattle.std.specs.Prelude.{Ok, Err}
use Rattle.std.proofs.lemmas.Nat.{pow-add}
use Rattle.std.proofs.Math.Nat.{mul-le-mul_right}
use Rattle.page_digests.specs.declared.error.Error.{Error}
use Rattle.page_digests.specs.Pages.{pages_of_len}
use Rattle.page_digests.specs.Reads.{pages_touched}
use Rattle.page_digests.proofs.Paging.{page_within}
use Rattle.segments.specs.Marks.{begins_before, frame_begin, mark_at}
use Rattle.segments.specs.MarkReads.{AreSameMarks, HalvesRead, IsOfMarks, MarkGoes, MarksState, NthGoes, mark_reads}
use Rattle.segments.specs.declared.mark.Mark.{Mark}
use Rattle.segments.proofs.Begins.{begins_in_order, begun_before, next_begin}
use Rattle.segments.proofs.MarksRead.{mark_costs_few, mark_fails_since, marks_before, same_after}

-- ---- how many marks are read

-- so many pages are left but one, since a search began over these; a mark costs so many reads
pub record IsHalved (spare pages each old new : ℕ) : Type 0 where
  pub marks : ℕ
  pub left : spare * 2 ^ marks < pages
  pub few : 2 ^ marks ≤ 2 * pages
  pub reads : new ≤ old + marks * each

-- what a power of two is multiplied by
halves_left : (spare next pages power : ℕ) → 2 * next ≤ spare → spare * power < pages → next * (power * 2) < pages
halves_left spare next pages power half left =
    let less : 2 * next * power ≤ spare * power = mul-le-mul_right power half in
    omega arith

halves_few : (spare pages power : ℕ) → 1 ≤ spare → spare * power < pages → power * 2 ≤ 2 * pages
halves_few spare pages power some left =
    let less : 1 * power ≤ spare * power = mul-le-mul_right power some in
    omega arith

halves_more : (spare next pages each old new more : ℕ) → 1 ≤ spare → 2 * next ≤ spare → more ≤ new + each → IsHalved spare pages each old new → IsHalved next pages each old more
halves_more spare next pages each old new more some half reads is =
    let power : 2 ^ (is.marks + 1) ≡ 2 ^ is.marks * 2 = pow-add 2 is.marks 1 in
    record {
      marks = is.marks + 1;
      left = subst (λ (k : ℕ). next * k < pages) (sym power) (halves_left spare next pages (2 ^ is.marks) half is.left);
      few = subst (λ (k : ℕ). k ≤ 2 * pages) (sym power) (halves_few spare pages (2 ^ is.marks) some is.left);
      reads = let had = is.reads in let sum : (is.marks + 1) * each ≡ is.marks * each + each = omega arith in omega arith;
    }

-- ---- the search

-- so far is frame n looked for: it begins in these pages, or behind the content's last page
pub record IsHalving (d : List ℕ → List ℕ) (n : ℕ) (old now : MarksState) (low high : ℕ) : Type 0 where
  pub order : low < high
  pub within : high ≤ pages_of_len old.bytes.page_size old.len
  pub same : AreSameMarks old now
  pub least : IsOfMarks d old (λ P content. low * P ≤ frame_begin content n)
  pub most : IsOfMarks d old (λ P content. high * P < length content → frame_begin content n < high * P)
  pub halved : IsHalved (high - low - 1) (pages_of_len old.bytes.page_size old.len) (mark_reads old.bytes.page_size) (length old.bytes.reads) (length now.bytes.reads)

-- the next mark is one of the content's
pub halving_reads : (d : List ℕ → List ℕ) (n : ℕ) (s t : MarksState) (low high middle : ℕ) → 0 < s.bytes.page_size → middle < high → IsHalving d n s t low high → middle * t.bytes.page_size < t.len
halving_reads d n s t low high middle positive below is =
    let here : middle < pages_of_len s.bytes.page_size s.len = let w = is.within in omega arith in
    let within : middle * s.bytes.page_size < s.len = page_within s.bytes.page_size s.len middle positive here in
    subst (λ (P : ℕ). middle * P < t.len) (sym is.same.bytes.page_size) (subst (λ (k : ℕ). middle * s.bytes.page_size < k) (sym is.same.len) within)

-- a mark more is read
mark_costs : (d : List ℕ → List ℕ) (n i : ℕ) (s t u : MarksState) (low high spare : ℕ) → 0 < s.bytes.page_size → low + 1 < high → 2 * spare ≤ high - low - 1 → IsHalving d n s t low high
    → length u.bytes.reads ≤ length t.bytes.reads + pages_touched t.bytes.page_size (i * 8) 8
    → IsHalved spare (pages_of_len s.bytes.page_size s.len) (mark_reads s.bytes.page_size) (length s.bytes.reads) (length u.bytes.reads)
mark_costs d n i s t u low high spare positive more half is calls =
    halves_more (high - low - 1) spare (pages_of_len s.bytes.page_size s.len) (mark_reads s.bytes.page_size) (length s.bytes.reads) (length t.bytes.reads) (length u.bytes.reads)
    (omega arith) half (mark_costs_few i s t u positive is.same calls) is.halved

-- a page at which frame n begins, or before it
pub halves_up : (d : List ℕ → List ℕ) (n : ℕ) (s t u : MarksState) (low high middle : ℕ) (mark : Mark) → 0 < s.bytes.page_size → low + 1 < high → middle ≡ low + (high - low) / 2 → mark.before ≤ n
    → IsHalving d n s t low high → MarkGoes d middle t u (Ok mark) → IsHalving d n s u middle high
halves_up d n s t u low high middle mark positive more place few is goes = record {
  order = omega arith;
  within = is.within;
  same = same_after s t u is.same goes.same;
  least = λ content its. elim (marks_before d s t (λ P content. mark ≡ mark_at P content middle) is.same goes.answers.2 content its) [
    | inr twin ↦ inr twin
    | inl told ↦
        let P = s.bytes.page_size in
        let before : mark.before ≡ begins_before content (middle * P) = ap (λ (m : Mark). m.before) told in
        let next = next_begin content (middle * P) in
        let order = begins_in_order content (begins_before content (middle * P)) n (omega arith) in
        inl (omega arith)
  ];
  most = is.most;
  halved = mark_costs d n middle s t u low high (high - middle - 1) positive more (omega arith) is goes.calls;
}

-- a page behind which frame n doesn't begin
pub halves_down : (d : List ℕ → List ℕ) (n : ℕ) (s t u : MarksState) (low high middle : ℕ) (mark : Mark) → 0 < s.bytes.page_size → low + 1 < high → middle ≡ low + (high - low) / 2 → n < mark.before
    → IsHalving d n s t low high → MarkGoes d middle t u (Ok mark) → IsHalving d n s u low middle
halves_down d n s t u low high middle mark positive more place few is goes = record {
  order = omega arith;
  within = let w = is.within in omega arith;
  same = same_after s t u is.same goes.same;
  least = is.least;
  most = λ content its. elim (marks_before d s t (λ P content. mark ≡ mark_at P content middle) is.same goes.answers.2 content its) [
    | inr twin ↦ inr twin
    | inl told ↦
        let P = s.bytes.page_size in
        let before : mark.before ≡ begins_before content (middle * P) = ap (λ (m : Mark). m.before) told in
        inl (λ _. begun_before content (middle * P) n (omega arith))
  ];
  halved = mark_costs d n middle s t u low high (middle - low - 1) positive more (omega arith) is goes.calls;
}

halves_told : (spare : ℕ) (s t : MarksState) → IsHalved spare (pages_of_len s.bytes.page_size s.len) (mark_reads s.bytes.page_size) (length s.bytes.reads) (length t.bytes.reads) → HalvesRead s t
halves_told spare s t is = record { marks = is.marks; few = is.few; reads = is.reads }

-- a mark can't be read
pub halving_fails : (d : List ℕ → List ℕ) (n : ℕ) (s t u : MarksState) (low high middle : ℕ) (e : Error) → 0 < s.bytes.page_size → low + 1 < high → IsHalving d n s t low high
    → MarkGoes d middle t u (Err e) → NthGoes d n s u (Err e)
halving_fails d n s t u low high middle e positive more is goes = record {
  same = same_after s t u is.same goes.same;
  calls = halves_told 0 s u (mark_costs d n middle s t u low high 0 positive more (omega arith) is goes.calls);
  answers = (middle, mark_fails_since d middle s t u e is.same goes.answers);
}

-- the page is found
pub halving_ends : (d : List ℕ → List ℕ) (n : ℕ) (s t : MarksState) (low high : ℕ) → 0 < s.bytes.page_size → high ≤ low + 1 → IsHalving d n s t low high → NthGoes d n s t (Ok low)
halving_ends d n s t low high positive done is = record {
  same = is.same;
  calls = halves_told (high - low - 1) s t is.halved;
  answers = (
    page_within s.bytes.page_size s.len low positive (let o = is.order in let w = is.within in omega arith),
    λ content its. elim (is.least content its) [
      | inr twin ↦ inr twin
      | inl least ↦
          elim (is.most content its) [
            | inr twin ↦ inr twin
            | inl most ↦
                let next : high ≡ low + 1 = let o = is.order in omega arith in
                inl (record { least = least; most = subst (λ (k : ℕ). k * s.bytes.page_size < length content → frame_begin content n < k * s.bytes.page_size) next most })
          ]
    ],
  );
}
