use Rattle.std.proofs.Common.{◌≡◌, ◌+◌, ◌-◌, ◌*◌, ◌/◌, ◌++◌, ℕ, List, sym, ◌∙◌, ap, subst, arith, Ok, Err, refl}
use Rattle.std.proofs.lemmas.Result.{err_from_is_err_and}
use Rattle.std.specs.Prelude.{slice_range}
use Rattle.std.specs.Int.NonZero.{non_zero_u16_get}
use Rattle.std.specs.List.{concat}
use Rattle.crash.specs.Looks.{Looked, looked_joins}
use Rattle.paged_read.specs.Failures.{NoneFailed, none_failed_joins}
use Rattle.page.specs.Page.{value_len}
use Rattle.paged_read.specs.Ranges.{page_at}
use Rattle.paged_read.specs.RawReads.{after_told, range_told, ReadsBefore, ReadsEachPage, ReadsRising, ReadsTold, value_told}
use Rattle.paged_read.proofs.RawCosts.{before_read, pages_rise, rising_none}
use Rattle.paged_read.proofs.RawReading.{after_given, after_refused, range_before, told_fault, told_memory}
use Rattle.paged_read.proofs.raw.read_after.Given.{Over}
use Rattle.paged_read.proofs.raw.read_after.Goals as goal
use Rattle.paged_read.proofs.raw.read_after.Goals.{After-read_range}

-- where the last page's payload begins
start_is : (g : Over) (c : After-read_range g) → c.args.last * c.from.result ≡ c.args.last * non_zero_u16_get c.args.page_size
start_is g c = ap (λ (n : ℕ). c.args.last * n) (c.from.ensures ∙ c.get.ensures.value)

-- both reads only looked
looks : (g : Over) (c : After-read_range g) → Looked (g.B.Blob.life c.args.blob.now) (g.B.Blob.life c.read_value.new.blob) → Looked (g.B.Blob.life c.args.blob.now) (g.B.Blob.life c.read_range.new.blob)
looks g c first = looked_joins (g.B.Blob.life c.args.blob.now) (g.B.Blob.life c.read_value.new.blob) (g.B.Blob.life c.read_range.new.blob) first c.read_range.ensures.looked

-- and no device call of them failed
answered : (g : Over) (c : After-read_range g) → NoneFailed (g.B.Blob.life c.args.blob.now).present (g.B.Blob.life c.read_value.new.blob).present → NoneFailed (g.B.Blob.life c.read_value.new.blob).present (g.B.Blob.life c.read_range.new.blob).present
    → NoneFailed (g.B.Blob.life c.args.blob.now).present (g.B.Blob.life c.read_range.new.blob).present
answered g c first second = none_failed_joins (g.B.Blob.life c.args.blob.now).present (g.B.Blob.life c.read_value.new.blob).present (g.B.Blob.life c.read_range.new.blob).present first second

-- which pages they read: the last one, and those before it
reads : (g : Over) (c : After-read_range g) → let P = non_zero_u16_get c.args.page_size in let old = g.B.Blob.life c.args.blob.now in let value = value_len g.H.Sum.sum_of P (page_at P c.args.last old.present.readable) in
    ReadsEachPage P c.args.last 1 old (g.B.Blob.life c.read_value.new.blob) → c.from-2.result ≡ value → ReadsBefore P c.args.last (c.args.last * P + value - c.args.len) old (g.B.Blob.life c.read_range.new.blob)
reads g c first many =
    let P = non_zero_u16_get c.args.page_size in
    let old = g.B.Blob.life c.args.blob.now in
    let mid = g.B.Blob.life c.read_value.new.blob in
    let new = g.B.Blob.life c.read_range.new.blob in
    let start = c.args.last * c.from.result in
    let offset = start + c.from-2.result - c.args.len in
    let from : offset ≡ c.args.last * P + value_len g.H.Sum.sum_of P (page_at P c.args.last old.present.readable) - c.args.len = omega (arith, start_is g c, many) in (
      mid,
      pages_rise P c.args.last 1 1 old mid (omega arith) first,
      subst (λ (n : ℕ). ReadsRising P (n / P) (c.args.last - n / P) mid new) from
          (before_read P c.args.last start offset c.saturating_sub-before.result mid new c.args.page_size.ok (start_is g c) c.saturating_sub-before.ensures (λ none. (c.read_range.ensures.empty none).1) c.read_range.ensures.costs),
    )

pub returns-in_err-bytes-clause-told : goal.returns-in_err-bytes-clause-told
returns-in_err-bytes-clause-told g c =
    let at = (goal.at.returns-in_err-bytes-clause-told g c).After-read_range in
    let sum = g.H.Sum.sum_of in
    let P = non_zero_u16_get c.args.page_size in
    let old = g.B.Blob.life c.args.blob.now in
    let mid = g.B.Blob.life c.read_value.new.blob in
    let new = g.B.Blob.life c.read_range.new.blob in
    let readable = old.present.readable in
    let start = c.args.last * c.from.result in
    let end = start + c.from-2.result in
    let offset = end - c.args.len in
    let before = c.saturating_sub-before.result in
    let e = c.in_err-bytes.field-0.0 in
    let first = c.in_ok-tail.ensures.told.1 in
    let told = range_told sum P offset before readable in
    let reads : ReadsTold concat told mid new (Err e) = range_before sum P offset before old mid new (Err e) first c.in_err-bytes.ensures.told in
    let p = err_from_is_err_and c.from_residual-in_err-bytes.result c.from_residual-in_err-bytes.ensures.1 in
    rw (p.1, p.2) (told_fault {C = ℕ × List (List ℕ)} concat (λ r. (r.0, concat r.1)) told (after_told sum P c.args.last c.args.len readable (value_told sum P c.args.last readable)) old mid new e first c.in_ok-tail.ensures.told.2
    (after_refused sum P c.args.last c.args.len start end offset before c.in_ok-tail.tail_len readable c.in_ok-tail.tail (start_is g at) c.in_ok-tail.ensures.within (ap (λ (n : ℕ). start + n) c.from-2.ensures) (omega (arith, c.if-end-len.false))
    refl c.saturating_sub-before.ensures c.in_ok-tail.ensures.told.0) reads)

pub returns-in_err-slice-clause-told : goal.returns-in_err-slice-clause-told
returns-in_err-slice-clause-told g c =
    let at = (goal.at.returns-in_err-slice-clause-told g c).After-read_range in
    let sum = g.H.Sum.sum_of in
    let P = non_zero_u16_get c.args.page_size in
    let old = g.B.Blob.life c.args.blob.now in
    let readable = old.present.readable in
    let p = err_from_is_err_and c.from_residual-in_err-slice.result c.from_residual-in_err-slice.ensures.1 in
    rw (p.1, p.2) (told_memory {A = ℕ × List (List ℕ)} (λ r. (r.0, concat r.1)) (after_told sum P c.args.last c.args.len readable (value_told sum P c.args.last readable)) old (g.B.Blob.life c.read_range.new.blob)
    c.in_err-slice.field-0.0 (looks g at c.in_ok-tail.ensures.told.1) (answered g at c.in_ok-tail.ensures.told.2 c.in_ok-bytes.ensures.told.2) c.in_err-slice.ensures.err)

pub returns-in_err-append-clause-told : goal.returns-in_err-append-clause-told
returns-in_err-append-clause-told g c =
    let at = (goal.at.returns-in_err-append-clause-told g c).After-read_range in
    let sum = g.H.Sum.sum_of in
    let P = non_zero_u16_get c.args.page_size in
    let old = g.B.Blob.life c.args.blob.now in
    let readable = old.present.readable in
    let p = err_from_is_err_and c.from_residual-in_err-append.result c.from_residual-in_err-append.ensures.1 in
    rw (p.1, p.2) (told_memory {A = ℕ × List (List ℕ)} (λ r. (r.0, concat r.1)) (after_told sum P c.args.last c.args.len readable (value_told sum P c.args.last readable)) old (g.B.Blob.life c.read_range.new.blob)
    c.in_err-append.field-0.0 (looks g at c.in_ok-tail.ensures.told.1) (answered g at c.in_ok-tail.ensures.told.2 c.in_ok-bytes.ensures.told.2) c.in_err-append.ensures.err)

pub returns-clause-told : goal.returns-clause-told
returns-clause-told g c =
    let at = (goal.at.returns-clause-told g c).After-read_range in
    let sum = g.H.Sum.sum_of in
    let P = non_zero_u16_get c.args.page_size in
    let old = g.B.Blob.life c.args.blob.now in
    let mid = g.B.Blob.life c.read_value.new.blob in
    let new = g.B.Blob.life c.read_range.new.blob in
    let readable = old.present.readable in
    let start = c.args.last * c.from.result in
    let end = start + c.from-2.result in
    let offset = end - c.args.len in
    let before = c.saturating_sub-before.result in
    let skip = c.saturating_sub-skip.result in
    let tail = c.in_ok-tail.tail in
    let first = c.in_ok-tail.ensures.told.1 in
    let reads : ReadsTold concat (range_told sum P offset before readable) mid new (Ok c.in_ok-bytes.bytes) = range_before sum P offset before old mid new (Ok c.in_ok-bytes.bytes) first c.in_ok-bytes.ensures.told in
    let given = after_given sum P c.args.last c.args.len start end offset before c.in_ok-tail.tail_len readable tail (start_is g at) c.in_ok-tail.ensures.within (ap (λ (n : ℕ). start + n) c.from-2.ensures) (omega (arith, c.if-end-len.false))
    refl c.saturating_sub-before.ensures c.in_ok-tail.ensures.told.0 skip (concat c.in_ok-bytes.bytes) c.saturating_sub-skip.ensures reads.0 in
    let cut : slice_range tail skip c.in_ok-tail.tail_len ≡ c.in_ok-slice.field-0 = ap (λ (n : ℕ). slice_range tail skip n) (sym c.from-3.ensures) ∙ sym c.in_ok-slice.ensures.ok in (
      given ∙ ap (λ (l : List ℕ). Ok (end, concat c.in_ok-bytes.bytes ++ l)) cut ∙ ap (λ (l : List ℕ). Ok (end, l)) (sym c.in_ok-append.ensures.bytes),
      looks g at first,
      answered g at c.in_ok-tail.ensures.told.2 reads.2,
    )

pub returns-in_err-bytes-clause-reads : goal.returns-in_err-bytes-clause-reads
returns-in_err-bytes-clause-reads g c = reads g (goal.at.returns-in_err-bytes-clause-reads g c).After-read_range c.in_ok-tail.ensures.reads (c.from-2.ensures ∙ c.in_ok-tail.ensures.len)

pub returns-in_err-slice-clause-reads : goal.returns-in_err-slice-clause-reads
returns-in_err-slice-clause-reads g c = reads g (goal.at.returns-in_err-slice-clause-reads g c).After-read_range c.in_ok-tail.ensures.reads (c.from-2.ensures ∙ c.in_ok-tail.ensures.len)

pub returns-in_err-append-clause-reads : goal.returns-in_err-append-clause-reads
returns-in_err-append-clause-reads g c = reads g (goal.at.returns-in_err-append-clause-reads g c).After-read_range c.in_ok-tail.ensures.reads (c.from-2.ensures ∙ c.in_ok-tail.ensures.len)

pub returns-clause-reads : goal.returns-clause-reads
returns-clause-reads g c = reads g (goal.at.returns-clause-reads g c).After-read_range c.in_ok-tail.ensures.reads (c.from-2.ensures ∙ c.in_ok-tail.ensures.len)

pub returns-in_err-tail-clause-reads : goal.returns-in_err-tail-clause-reads
returns-in_err-tail-clause-reads g c =
    let P = non_zero_u16_get c.args.page_size in
    let old = g.B.Blob.life c.args.blob.now in
    let new = g.B.Blob.life c.read_value.new.blob in
    let from = c.args.last * P + value_len g.H.Sum.sum_of P (page_at P c.args.last old.present.readable) - c.args.len in
    (new, c.in_err-tail.ensures.reads, rising_none P (from / P) (c.args.last - from / P) new)

pub returns-then-end-len-clause-reads : goal.returns-then-end-len-clause-reads
returns-then-end-len-clause-reads g c =
    let P = non_zero_u16_get c.args.page_size in
    let old = g.B.Blob.life c.args.blob.now in
    let new = g.B.Blob.life c.read_value.new.blob in
    let from = c.args.last * P + value_len g.H.Sum.sum_of P (page_at P c.args.last old.present.readable) - c.args.len in
    (new, pages_rise P c.args.last 1 1 old new (omega arith) c.in_ok-tail.ensures.reads, rising_none P (from / P) (c.args.last - from / P) new)
