use Rattle.std.proofs.Common.{rules, ◌≡◌, ◌≢◌, ◌+◌, ◌-◌, ◌/◌, ◌<◌, ◌≤◌, ◌^◌, ℕ, List, length, sym, ◌∙◌, ap, subst, arith, Result, Ok, Err}
use Rattle.std.proofs.lemmas.Result.{err_from_is_err_and}
use Rattle.std.specs.Int.NonZero.{non_zero_u16_get}
use Rattle.std.specs.List.{concat}
use Rattle.disk.specs.declared.error.Error.{Error}
use Rattle.disk.specs.declared.error.Error.TheVariants.{OffsetOverflow}
use Rattle.crash.specs.Looks.{Looked, looked_start, looked_joins}
use Rattle.paged_read.specs.Failures.{NoneFailed, none_failed_start, none_failed_joins}
use Rattle.paged_read.specs.RawReads.{part_of, parts_told, range_end, range_told, ReadsEachPage, ReadsRising, ReadsTold, value_told}
use Rattle.paged_read.proofs.Outliving.{look_leaves_writers}
use Rattle.paged_read.proofs.RawCosts.{pages_join, pages_none, pages_rise, range_read, rising_joins, rising_none}
use Rattle.paged_read.proofs.RawReading.{found_all, found_fault, found_first, found_next, range_empty, range_fault, range_found, range_passes, range_short, same_pages, told_before, told_fault, told_looks, told_memory, IsFound}
use Rattle.paged_read.proofs.raw.read_range.Given.{Over}
use Rattle.paged_read.proofs.raw.read_range.Goals as goal
use Rattle.paged_read.proofs.raw.read_range.Goals.{In_ok-end, After-from-size, After-read_part, After-loop-page}

-- where the range ends
ends : (g : Over) (c : In_ok-end g) → c.in_ok-end.end ≡ c.args.offset + c.args.len
ends g c = search rules

fits : (g : Over) (c : In_ok-end g) → c.args.offset + c.args.len < 2 ^ 64
fits g c = search rules

-- the pages that it meets, with the numbers of the program
met : (g : Over) (c : After-from-size g) → let P = non_zero_u16_get c.args.page_size in let size = c.from-size.result in let end = c.in_ok-end.end in let offset = c.args.offset in
    let readable = (g.B.Blob.life c.args.blob.now).present.readable in
    parts_told g.H.Sum.sum_of P offset (offset + c.args.len) (range_end P offset c.args.len - offset / P) (offset / P) readable ≡ parts_told g.H.Sum.sum_of P offset end ((end - 1) / size + 1 - offset / size) (offset / size) readable
met g c =
    same_pages g.H.Sum.sum_of (non_zero_u16_get c.args.page_size) c.args.offset c.args.len c.from-size.result c.in_ok-end.end (g.B.Blob.life c.args.blob.now).present.readable
    (c.from-size.ensures ∙ c.get.ensures.value) (search rules)

pub returns-in_err-end-clause-told : goal.returns-in_err-end-clause-told
returns-in_err-end-clause-told g c =
    let P = non_zero_u16_get c.args.page_size in
    let old = g.B.Blob.life c.args.blob.now in
    let over : 2 ^ 64 ≤ c.args.offset + c.args.len = search rules in
    let is : c.from_residual.result ≡ Err OffsetOverflow = search rules in
    subst (λ (r : Result (List (List ℕ)) Error). ReadsTold concat (range_told g.H.Sum.sum_of P c.args.offset c.args.len old.present.readable) old old r) (sym is)
    (range_passes g.H.Sum.sum_of P c.args.offset c.args.len old.present.readable over, looked_start old, none_failed_start old.present)

pub returns-in_err-end-clause-looked : goal.returns-in_err-end-clause-looked
returns-in_err-end-clause-looked g c = looked_start (g.B.Blob.life c.args.blob.now)

pub returns-in_err-end-clause-writers : goal.returns-in_err-end-clause-writers
returns-in_err-end-clause-writers g c = look_leaves_writers g.H.Sum.sum_of (g.B.Blob.life c.args.blob.now) (g.B.Blob.life c.args.blob.now) (looked_start (g.B.Blob.life c.args.blob.now))

pub returns-then-len-eq0-clause-told : goal.returns-then-len-eq0-clause-told
returns-then-len-eq0-clause-told g c =
    let old = g.B.Blob.life c.args.blob.now in (
      range_empty g.H.Sum.sum_of (non_zero_u16_get c.args.page_size) c.args.offset c.args.len old.present.readable (fits g (goal.at.returns-then-len-eq0-clause-told g c).In_ok-end) (omega (arith, c.if-len-eq0.true))
          ∙ ap (λ (bufs : List (List ℕ)). Ok (concat bufs)) (sym c.new-bytes.ensures),
      looked_start old,
      none_failed_start old.present,
    )

pub returns-then-len-eq0-clause-looked : goal.returns-then-len-eq0-clause-looked
returns-then-len-eq0-clause-looked g c = looked_start (g.B.Blob.life c.args.blob.now)

pub returns-then-len-eq0-clause-writers : goal.returns-then-len-eq0-clause-writers
returns-then-len-eq0-clause-writers g c = look_leaves_writers g.H.Sum.sum_of (g.B.Blob.life c.args.blob.now) (g.B.Blob.life c.args.blob.now) (looked_start (g.B.Blob.life c.args.blob.now))

pub loop-page-init : goal.loop-page-init
loop-page-init g c =
    let old = g.B.Blob.life c.args.blob.now in
    let size = c.from-size.result in
    let first : IsFound g.H.Sum.sum_of (non_zero_u16_get c.args.page_size) c.args.offset c.in_ok-end.end (c.args.offset / size) ((c.in_ok-end.end - 1) / size + 1) old.present.readable (c.args.offset / size) (concat c.new-bytes.result) =
    subst (λ (bufs : List (List ℕ)). IsFound g.H.Sum.sum_of (non_zero_u16_get c.args.page_size) c.args.offset c.in_ok-end.end (c.args.offset / size) ((c.in_ok-end.end - 1) / size + 1) old.present.readable (c.args.offset / size) (concat bufs)) (sym c.new-bytes.ensures)
    (found_first g.H.Sum.sum_of (non_zero_u16_get c.args.page_size) c.args.offset c.in_ok-end.end (c.args.offset / size) ((c.in_ok-end.end - 1) / size + 1) old.present.readable) in
    record { found = first; looked = looked_start old; answered = none_failed_start old.present; from = omega arith; within = omega arith; reads = subst (λ (n : ℕ). ReadsEachPage (non_zero_u16_get c.args.page_size) (c.args.offset / size) n old old) (let e : 0 ≡ c.args.offset / size - c.args.offset / size = omega arith in e) (pages_none (non_zero_u16_get c.args.page_size) (c.args.offset / size) old) }

-- a part that was read, by the blob as it was at the start
part_read : (g : Over) (c : After-read_part g) → let old = g.B.Blob.life c.args.blob.now in let P = non_zero_u16_get c.args.page_size in
    ReadsTold (λ (b : List ℕ). b) (part_of P c.args.offset c.in_ok-end.end c.loop-page.page (value_told g.H.Sum.sum_of P c.loop-page.page old.present.readable)) (g.B.Blob.life c.loop-page.blob) (g.B.Blob.life c.read_part.new.blob) c.read_part.result
part_read g c =
    told_before g.H.Sum.sum_of (non_zero_u16_get c.args.page_size) c.args.offset c.in_ok-end.end c.loop-page.page (g.B.Blob.life c.args.blob.now) (g.B.Blob.life c.loop-page.blob) (g.B.Blob.life c.read_part.new.blob) c.read_part.result
    c.loop-page.invariant.looked c.read_part.ensures.told

-- the read of a part only looked
part_looked : (g : Over) (c : After-read_part g) → Looked (g.B.Blob.life c.args.blob.now) (g.B.Blob.life c.read_part.new.blob)
part_looked g c =
    let P = non_zero_u16_get c.args.page_size in
    let old = g.B.Blob.life c.args.blob.now in
    looked_joins old (g.B.Blob.life c.loop-page.blob) (g.B.Blob.life c.read_part.new.blob) c.loop-page.invariant.looked
    (told_looks (λ (b : List ℕ). b) (part_of P c.args.offset c.in_ok-end.end c.loop-page.page (value_told g.H.Sum.sum_of P c.loop-page.page old.present.readable)) (g.B.Blob.life c.loop-page.blob) (g.B.Blob.life c.read_part.new.blob) c.read_part.result (part_read g c))

-- and no device call of it failed
part_answered : (g : Over) (c : After-read_part g) → NoneFailed (g.B.Blob.life c.loop-page.blob).present (g.B.Blob.life c.read_part.new.blob).present → NoneFailed (g.B.Blob.life c.args.blob.now).present (g.B.Blob.life c.read_part.new.blob).present
part_answered g c here =
    none_failed_joins (g.B.Blob.life c.args.blob.now).present (g.B.Blob.life c.loop-page.blob).present (g.B.Blob.life c.read_part.new.blob).present c.loop-page.invariant.answered here

pub returns-in_err-part-clause-told : goal.returns-in_err-part-clause-told
returns-in_err-part-clause-told g c =
    let at = goal.at.returns-in_err-part-clause-told g c in
    let sum = g.H.Sum.sum_of in
    let P = non_zero_u16_get c.args.page_size in
    let old = g.B.Blob.life c.args.blob.now in
    let mid = g.B.Blob.life c.loop-page.blob in
    let new = g.B.Blob.life c.read_part.new.blob in
    let readable = old.present.readable in
    let offset = c.args.offset in
    let end = c.in_ok-end.end in
    let size = c.from-size.result in
    let page = c.loop-page.page in
    let e = c.in_err-part.field-0.0 in
    let part = part_of P offset end page (value_told sum P page readable) in
    let some : c.args.len ≢ 0 = λ none. omega (arith, none, c.if-len-eq0.false) in
    let reads : ReadsTold (λ (b : List ℕ). b) part mid new (Err e) = told_before sum P offset end page old mid new (Err e) c.loop-page.invariant.looked c.in_err-part.ensures.told in
    let p = err_from_is_err_and c.from_residual-in_err-part.result c.from_residual-in_err-part.ensures.1 in
    rw (p.1, p.2) (told_fault (λ (b : List ℕ). b) concat part (range_told sum P offset c.args.len readable) old mid new e c.loop-page.invariant.looked c.loop-page.invariant.answered
    (λ f is. range_fault sum P offset c.args.len readable f (fits g at.In_ok-end) some
    (met g at.After-from-size ∙ found_fault sum P offset end (offset / size) ((end - 1) / size + 1) readable page (concat c.loop-page.bytes) f (omega (arith, c.loop-page-test.true)) c.loop-page.invariant.found is)) reads)

pub returns-in_err-part-clause-looked : goal.returns-in_err-part-clause-looked
returns-in_err-part-clause-looked g c = part_looked g (goal.at.returns-in_err-part-clause-looked g c).After-read_part

pub returns-in_err-part-clause-writers : goal.returns-in_err-part-clause-writers
returns-in_err-part-clause-writers g c = look_leaves_writers g.H.Sum.sum_of (g.B.Blob.life c.args.blob.now) (g.B.Blob.life c.read_part.new.blob) (part_looked g (goal.at.returns-in_err-part-clause-writers g c).After-read_part)

pub returns-in_err-append-clause-told : goal.returns-in_err-append-clause-told
returns-in_err-append-clause-told g c =
    let P = non_zero_u16_get c.args.page_size in
    let old = g.B.Blob.life c.args.blob.now in
    let looked = part_looked g (goal.at.returns-in_err-append-clause-told g c).After-read_part in
    let p = err_from_is_err_and c.from_residual-in_err-append.result c.from_residual-in_err-append.ensures.1 in
    rw (p.1, p.2) (told_memory concat (range_told g.H.Sum.sum_of P c.args.offset c.args.len old.present.readable) old (g.B.Blob.life c.read_part.new.blob) c.in_err-append.field-0.0 looked (part_answered g (goal.at.returns-in_err-append-clause-told g c).After-read_part c.in_ok-part.ensures.told.2) c.in_err-append.ensures.err)

pub returns-in_err-append-clause-looked : goal.returns-in_err-append-clause-looked
returns-in_err-append-clause-looked g c = part_looked g (goal.at.returns-in_err-append-clause-looked g c).After-read_part

pub returns-in_err-append-clause-writers : goal.returns-in_err-append-clause-writers
returns-in_err-append-clause-writers g c = look_leaves_writers g.H.Sum.sum_of (g.B.Blob.life c.args.blob.now) (g.B.Blob.life c.read_part.new.blob) (part_looked g (goal.at.returns-in_err-append-clause-writers g c).After-read_part)

pub loop-page-preserved : goal.loop-page-preserved
loop-page-preserved g c =
    let at = goal.at.loop-page-preserved g c in
    let sum = g.H.Sum.sum_of in
    let P = non_zero_u16_get c.args.page_size in
    let old = g.B.Blob.life c.args.blob.now in
    let mid = g.B.Blob.life c.loop-page.blob in
    let new = g.B.Blob.life c.read_part.new.blob in
    let readable = old.present.readable in
    let offset = c.args.offset in
    let end = c.in_ok-end.end in
    let size = c.from-size.result in
    let page = c.loop-page.page in
    let part = c.in_ok-part.part in
    let reads = told_before sum P offset end page old mid new (Ok part) c.loop-page.invariant.looked c.in_ok-part.ensures.told in
    let next = found_next sum P offset end (offset / size) ((end - 1) / size + 1) readable page (concat c.loop-page.bytes) part (omega (arith, c.loop-page-test.true)) c.loop-page.invariant.found reads.0 in
    record {
      found = subst (λ (l : List ℕ). IsFound sum P offset end (offset / size) ((end - 1) / size + 1) readable (page + 1) l) (sym c.in_ok-append.ensures.bytes) next;
      looked = part_looked g at.After-read_part;
      answered = part_answered g at.After-read_part c.in_ok-part.ensures.told.2;
      from = omega (arith, c.loop-page.invariant.from);
      within = omega (arith, c.loop-page-test.true);
      reads =
          let first = c.loop-page.invariant.from in
          subst (λ (n : ℕ). ReadsEachPage P (offset / size) n old new) (let e : page - offset / size + 1 ≡ page + 1 - offset / size = omega (arith, first) in e)
          (pages_join P (offset / size) (page - offset / size) 1 old mid new c.loop-page.invariant.reads (subst (λ (n : ℕ). ReadsEachPage P n 1 mid new) (let e : page ≡ offset / size + (page - offset / size) = omega (arith, first) in e) c.in_ok-part.ensures.reads));
    }

-- what was found after the last page
all_found : (g : Over) (c : After-loop-page g) → (c.in_ok-end.end - 1) / c.from-size.result + 1 ≤ c.loop-page.page → let P = non_zero_u16_get c.args.page_size in
    parts_told g.H.Sum.sum_of P c.args.offset c.in_ok-end.end ((c.in_ok-end.end - 1) / c.from-size.result + 1 - c.args.offset / c.from-size.result) (c.args.offset / c.from-size.result) (g.B.Blob.life c.args.blob.now).present.readable ≡ Ok (concat c.loop-page.bytes)
all_found g c last =
    found_all g.H.Sum.sum_of (non_zero_u16_get c.args.page_size) c.args.offset c.in_ok-end.end (c.args.offset / c.from-size.result) ((c.in_ok-end.end - 1) / c.from-size.result + 1) (g.B.Blob.life c.args.blob.now).present.readable
    c.loop-page.page (concat c.loop-page.bytes) last c.loop-page.invariant.found

pub returns-then-len-clause-told : goal.returns-then-len-clause-told
returns-then-len-clause-told g c =
    let at = goal.at.returns-then-len-clause-told g c in
    let some : c.args.len ≢ 0 = λ none. omega (arith, none, c.if-len-eq0.false) in
    let few : length (concat c.loop-page.bytes) ≢ c.args.len = λ same. c.if-len.true (c.len.ensures ∙ same) in (
      range_short g.H.Sum.sum_of (non_zero_u16_get c.args.page_size) c.args.offset c.args.len (g.B.Blob.life c.args.blob.now).present.readable (concat c.loop-page.bytes) (fits g at.In_ok-end) some
          (met g at.After-from-size ∙ all_found g at.After-loop-page c.loop-page-test.false) few,
      c.loop-page.invariant.looked,
      c.loop-page.invariant.answered,
    )

pub returns-clause-told : goal.returns-clause-told
returns-clause-told g c =
    let at = goal.at.returns-clause-told g c in
    let some : c.args.len ≢ 0 = λ none. omega (arith, none, c.if-len-eq0.false) in (
      range_found g.H.Sum.sum_of (non_zero_u16_get c.args.page_size) c.args.offset c.args.len (g.B.Blob.life c.args.blob.now).present.readable (concat c.loop-page.bytes) (fits g at.In_ok-end) some
          (met g at.After-from-size ∙ all_found g at.After-loop-page c.loop-page-test.false) (sym c.len.ensures ∙ c.if-len.false),
      c.loop-page.invariant.looked,
      c.loop-page.invariant.answered,
    )

pub returns-then-len-clause-looked : goal.returns-then-len-clause-looked
returns-then-len-clause-looked g c = c.loop-page.invariant.looked

pub returns-clause-looked : goal.returns-clause-looked
returns-clause-looked g c = c.loop-page.invariant.looked

pub returns-then-len-clause-writers : goal.returns-then-len-clause-writers
returns-then-len-clause-writers g c = look_leaves_writers g.H.Sum.sum_of (g.B.Blob.life c.args.blob.now) (g.B.Blob.life c.loop-page.blob) c.loop-page.invariant.looked

pub returns-clause-writers : goal.returns-clause-writers
returns-clause-writers g c = look_leaves_writers g.H.Sum.sum_of (g.B.Blob.life c.args.blob.now) (g.B.Blob.life c.loop-page.blob) c.loop-page.invariant.looked

pub returns-in_err-end-clause-costs : goal.returns-in_err-end-clause-costs
returns-in_err-end-clause-costs g c =
    let P = non_zero_u16_get c.args.page_size in
    rising_none P (c.args.offset / P) (range_end P c.args.offset c.args.len - c.args.offset / P) (g.B.Blob.life c.args.blob.now)

pub returns-then-len-eq0-clause-costs : goal.returns-then-len-eq0-clause-costs
returns-then-len-eq0-clause-costs g c =
    let P = non_zero_u16_get c.args.page_size in
    rising_none P (c.args.offset / P) (range_end P c.args.offset c.args.len - c.args.offset / P) (g.B.Blob.life c.args.blob.now)

-- one page more
one_more : (g : Over) (c : After-read_part g) → let P = non_zero_u16_get c.args.page_size in let first = c.args.offset / c.from-size.result in
    ReadsRising P c.loop-page.page 1 (g.B.Blob.life c.loop-page.blob) (g.B.Blob.life c.read_part.new.blob) → ReadsRising P first (c.loop-page.page - first + 1) (g.B.Blob.life c.args.blob.now) (g.B.Blob.life c.read_part.new.blob)
one_more g c here =
    let P = non_zero_u16_get c.args.page_size in
    let first = c.args.offset / c.from-size.result in
    let mid = g.B.Blob.life c.loop-page.blob in
    let new = g.B.Blob.life c.read_part.new.blob in
    let from = c.loop-page.invariant.from in
    rising_joins P first (c.loop-page.page - first) 1 (g.B.Blob.life c.args.blob.now) mid new c.loop-page.invariant.reads
    (subst (λ (n : ℕ). ReadsRising P n 1 mid new) (let e : c.loop-page.page ≡ first + (c.loop-page.page - first) = omega (arith, from) in e) here)

pub returns-in_err-part-clause-costs : goal.returns-in_err-part-clause-costs
returns-in_err-part-clause-costs g c =
    let at = goal.at.returns-in_err-part-clause-costs g c in
    range_read (non_zero_u16_get c.args.page_size) c.from-size.result c.args.offset c.args.len c.in_ok-end.end (c.loop-page.page - c.args.offset / c.from-size.result + 1) (g.B.Blob.life c.args.blob.now) (g.B.Blob.life c.read_part.new.blob)
    (c.from-size.ensures ∙ c.get.ensures.value) (ends g at.In_ok-end) (omega (arith, c.loop-page-test.true, c.loop-page.invariant.from)) (one_more g at.After-read_part c.in_err-part.ensures.reads)

pub returns-in_err-append-clause-costs : goal.returns-in_err-append-clause-costs
returns-in_err-append-clause-costs g c =
    let at = goal.at.returns-in_err-append-clause-costs g c in
    range_read (non_zero_u16_get c.args.page_size) c.from-size.result c.args.offset c.args.len c.in_ok-end.end (c.loop-page.page - c.args.offset / c.from-size.result + 1) (g.B.Blob.life c.args.blob.now) (g.B.Blob.life c.read_part.new.blob)
    (c.from-size.ensures ∙ c.get.ensures.value) (ends g at.In_ok-end) (omega (arith, c.loop-page-test.true, c.loop-page.invariant.from))
    (one_more g at.After-read_part (pages_rise (non_zero_u16_get c.args.page_size) c.loop-page.page 1 1 (g.B.Blob.life c.loop-page.blob) (g.B.Blob.life c.read_part.new.blob) (omega arith) c.in_ok-part.ensures.reads))

pub returns-then-len-clause-costs : goal.returns-then-len-clause-costs
returns-then-len-clause-costs g c =
    let at = goal.at.returns-then-len-clause-costs g c in
    let P = non_zero_u16_get c.args.page_size in
    let count = c.loop-page.page - c.args.offset / c.from-size.result in
    let old = g.B.Blob.life c.args.blob.now in
    let now = g.B.Blob.life c.loop-page.blob in
    range_read P c.from-size.result c.args.offset c.args.len c.in_ok-end.end count old now (c.from-size.ensures ∙ c.get.ensures.value) (ends g at.In_ok-end) (omega (arith, c.loop-page.invariant.within))
    (pages_rise P (c.args.offset / c.from-size.result) count count old now (omega arith) c.loop-page.invariant.reads)

pub returns-clause-costs : goal.returns-clause-costs
returns-clause-costs g c =
    let at = goal.at.returns-clause-costs g c in
    let P = non_zero_u16_get c.args.page_size in
    let count = c.loop-page.page - c.args.offset / c.from-size.result in
    let old = g.B.Blob.life c.args.blob.now in
    let now = g.B.Blob.life c.loop-page.blob in
    range_read P c.from-size.result c.args.offset c.args.len c.in_ok-end.end count old now (c.from-size.ensures ∙ c.get.ensures.value) (ends g at.In_ok-end) (omega (arith, c.loop-page.invariant.within))
    (pages_rise P (c.args.offset / c.from-size.result) count count old now (omega arith) c.loop-page.invariant.reads)
