use Rattle.std.proofs.Common.{◌≡◌, ◌≤◌, ◌-◌, ◌+◌, ◌*◌, ◌<◌, ℕ, List, length, ◌∙◌, ap, arith, refl, sym}
use Rattle.std.proofs.Math.Nat.{mul-le-mul_right}
use Rattle.std.proofs.lemmas.Result.{err_from_is_err_and}
use Rattle.std.specs.Int.NonZero.{non_zero_u16_get}
use Rattle.paged_read.specs.Ranges.{page_at}
use Rattle.paged_read.specs.Prefix.{bad_in, last_prefix, prefix_pages}
use Rattle.paged_read.specs.declared.prefix.Prefix.{Prefix}
use Rattle.paged_read.proofs.Prefixes.{bad_part, bad_read, told_read, value_read, told_full, told_part, found_some, found_none, last_is, last_none, last_full, last_part, last_fits, has_bytes_read}
use Rattle.crash.specs.Looks.{looked_start}
use Rattle.crash.proofs.LookLaws.{read_gives}
use Rattle.paged_read.specs.Failures.{none_failed_start}
use Rattle.paged_read.proofs.Looking.{looked_on, none_failed_on, finds_fault, finds_memory}
use Rattle.paged_read.proofs.Backward.{down_start, down_page, down_lower}
use Rattle.paged_read.specs.Backward.{ReadsDownTo}
use Rattle.paged_read.proofs.search.last_pages.Given.{Over}
use Rattle.paged_read.proofs.search.last_pages.Goals as goal
use Rattle.paged_read.proofs.search.last_pages.Goals.{After-read_at}

pub returns-in_err-bytes-clause-finds_last : goal.returns-in_err-bytes-clause-finds_last
returns-in_err-bytes-clause-finds_last g c =
    let life = g.B.Blob.life in
    let old = life c.args.blob.now in
    let size = c.physical_page_size-size.result in
    let n = c.loop-pages.pages in
    let P = non_zero_u16_get c.args.page_size in
    let fits = last_fits P size n c.args.pages (length old.present.readable) c.physical_page_size-size.ensures c.loop-pages-test.true c.loop-pages.invariant.fewer c.requires.there in
    let p = err_from_is_err_and c.from_residual.result c.from_residual.ensures.1 in
    rw (p.1, p.2) (finds_fault ((n - 1) * size) size (last_prefix g.H.Sum.sum_of P c.args.pages old.present.readable) old (life c.loop-pages.blob) (life c.read_at.new.self) c.in_err-bytes.field-0.0 c.loop-pages.invariant.looked c.loop-pages.invariant.answered fits c.in_err-bytes.ensures.goes)

pub returns-then-is_full-clause-finds_last : goal.returns-then-is_full-clause-finds_last
returns-then-is_full-clause-finds_last g c =
    let life = g.B.Blob.life in
    let sum = g.H.Sum.sum_of in
    let old = life c.args.blob.now in
    let new = life c.read_at.new.self in
    let readable = old.present.readable in
    let size = c.physical_page_size-size.result in
    let n = c.loop-pages.pages in
    let P = non_zero_u16_get c.args.page_size in
    let positive : 0 < P = omega arith in
    let read = read_gives ((n - 1) * size) size old (life c.loop-pages.blob) new c.in_ok-bytes.bytes c.loop-pages.invariant.looked c.in_ok-bytes.ensures.goes in
    let told = told_read sum P size (n - 1) c.as_ref.result.now c.in_ok-bytes.bytes readable c.slot_at-slot.result c.physical_page_size-size.ensures c.as_ref.ensures read c.slot_at-slot.ensures.slot in
    let full = told_full sum P (page_at P (n - 1) readable) c.slot_at-slot.result c.is_full.result told c.is_full.ensures c.if-is_full.true in
    let found = last_full sum P n c.args.pages readable positive c.loop-pages.invariant.same c.loop-pages-test.true full in (
      found,
      looked_on ((n - 1) * size) size old (life c.loop-pages.blob) new c.in_ok-bytes.bytes c.loop-pages.invariant.looked c.in_ok-bytes.ensures.goes,
      ap (bad_in sum P readable) found,
      none_failed_on ((n - 1) * size) size old (life c.loop-pages.blob) new c.in_ok-bytes.bytes c.loop-pages.invariant.answered c.in_ok-bytes.ensures.goes,
    )

pub returns-in_err-partial-clause-finds_last : goal.returns-in_err-partial-clause-finds_last
returns-in_err-partial-clause-finds_last g c =
    let life = g.B.Blob.life in
    let old = life c.args.blob.now in
    let size = c.physical_page_size-size.result in
    let n = c.loop-pages.pages in
    let P = non_zero_u16_get c.args.page_size in
    let looked = looked_on ((n - 1) * size) size old (life c.loop-pages.blob) (life c.read_at.new.self) c.in_ok-bytes.bytes c.loop-pages.invariant.looked c.in_ok-bytes.ensures.goes in
    let none = none_failed_on ((n - 1) * size) size old (life c.loop-pages.blob) (life c.read_at.new.self) c.in_ok-bytes.bytes c.loop-pages.invariant.answered c.in_ok-bytes.ensures.goes in
    let p = err_from_is_err_and c.from_residual-in_err-partial.result c.from_residual-in_err-partial.ensures.1 in
    rw (p.1, p.2) (finds_memory (last_prefix g.H.Sum.sum_of P c.args.pages old.present.readable) old (life c.read_at.new.self) c.in_err-partial.field-0.0 looked none c.in_err-partial.ensures.err)

pub returns-then-is_some-clause-finds_last : goal.returns-then-is_some-clause-finds_last
returns-then-is_some-clause-finds_last g c =
    let life = g.B.Blob.life in
    let sum = g.H.Sum.sum_of in
    let old = life c.args.blob.now in
    let new = life c.read_at.new.self in
    let readable = old.present.readable in
    let size = c.physical_page_size-size.result in
    let n = c.loop-pages.pages in
    let P = non_zero_u16_get c.args.page_size in
    let page = page_at P (n - 1) readable in
    let read = read_gives ((n - 1) * size) size old (life c.loop-pages.blob) new c.in_ok-bytes.bytes c.loop-pages.invariant.looked c.in_ok-bytes.ensures.goes in
    let told = told_read sum P size (n - 1) c.as_ref.result.now c.in_ok-bytes.bytes readable c.slot_at-slot.result c.physical_page_size-size.ensures c.as_ref.ensures read c.slot_at-slot.ensures.slot in
    let part = told_part sum P page c.slot_at-slot.result c.is_full.result told c.is_full.ensures c.if-is_full.false in
    let value = value_read sum P size (n - 1) c.in_ok-bytes.bytes readable c.slot_at-slot.result c.in_ok-partial.partial c.physical_page_size-size.ensures read told c.in_ok-partial.ensures.ok in
    let some = found_some sum P page c.in_ok-partial.partial value (sym c.is_some.ensures ∙ c.if-is_some.true) in
    let found = last_part sum P n c.args.pages readable c.in_ok-partial.partial c.loop-pages.invariant.same c.loop-pages-test.true value some part in
    let fits = last_fits P size n c.args.pages (length readable) c.physical_page_size-size.ensures c.loop-pages-test.true c.loop-pages.invariant.fewer c.requires.there in
    let bad = bad_read sum P size (n - 1) c.as_ref-then-is_some.result.now c.in_ok-bytes.bytes readable c.bad_slot-bad.result c.physical_page_size-size.ensures c.as_ref-then-is_some.ensures read fits c.bad_slot-bad.ensures in (
      found,
      looked_on ((n - 1) * size) size old (life c.loop-pages.blob) new c.in_ok-bytes.bytes c.loop-pages.invariant.looked c.in_ok-bytes.ensures.goes,
      bad ∙ bad_part sum P (n - 1) readable c.in_ok-partial.partial (sym c.is_some.ensures ∙ c.if-is_some.true) ∙ ap (bad_in sum P readable) found,
      none_failed_on ((n - 1) * size) size old (life c.loop-pages.blob) new c.in_ok-bytes.bytes c.loop-pages.invariant.answered c.in_ok-bytes.ensures.goes,
    )

pub returns-then-is_some-clause-bytes : goal.returns-then-is_some-clause-bytes
returns-then-is_some-clause-bytes g c =
    let life = g.B.Blob.life in
    let old = life c.args.blob.now in
    let size = c.physical_page_size-size.result in
    let n = c.loop-pages.pages in
    let read = read_gives ((n - 1) * size) size old (life c.loop-pages.blob) (life c.read_at.new.self) c.in_ok-bytes.bytes c.loop-pages.invariant.looked c.in_ok-bytes.ensures.goes in
    has_bytes_read (non_zero_u16_get c.args.page_size) size (n - 1) c.as_ref.result.now c.in_ok-bytes.bytes old.present.readable c.in_ok-partial.partial c.physical_page_size-size.ensures c.as_ref.ensures read c.slot_at-slot.ensures.bytes

pub loop-pages-preserved : goal.loop-pages-preserved
loop-pages-preserved g c =
    let life = g.B.Blob.life in
    let sum = g.H.Sum.sum_of in
    let old = life c.args.blob.now in
    let new = life c.read_at.new.self in
    let readable = old.present.readable in
    let size = c.physical_page_size-size.result in
    let n = c.loop-pages.pages in
    let P = non_zero_u16_get c.args.page_size in
    let page = page_at P (n - 1) readable in
    let read = read_gives ((n - 1) * size) size old (life c.loop-pages.blob) new c.in_ok-bytes.bytes c.loop-pages.invariant.looked c.in_ok-bytes.ensures.goes in
    let told = told_read sum P size (n - 1) c.as_ref.result.now c.in_ok-bytes.bytes readable c.slot_at-slot.result c.physical_page_size-size.ensures c.as_ref.ensures read c.slot_at-slot.ensures.slot in
    let value = value_read sum P size (n - 1) c.in_ok-bytes.bytes readable c.slot_at-slot.result c.in_ok-partial.partial c.physical_page_size-size.ensures read told c.in_ok-partial.ensures.ok in
    let none = found_none sum P page c.in_ok-partial.partial value (sym c.is_some.ensures ∙ c.if-is_some.false) in
    record {
      fewer = omega arith;
      same = last_none sum P n c.args.pages readable c.loop-pages.invariant.same c.loop-pages-test.true none;
      looked = looked_on ((n - 1) * size) size old (life c.loop-pages.blob) new c.in_ok-bytes.bytes c.loop-pages.invariant.looked c.in_ok-bytes.ensures.goes;
      answered = none_failed_on ((n - 1) * size) size old (life c.loop-pages.blob) new c.in_ok-bytes.bytes c.loop-pages.invariant.answered c.in_ok-bytes.ensures.goes;
      reads = down_page P size n old (life c.loop-pages.blob) new c.read_at.result c.physical_page_size-size.ensures c.loop-pages-test.true c.loop-pages.invariant.reads c.read_at.ensures.goes;
    }

pub loop-pages-preserved-else-is_some : goal.loop-pages-preserved-else-is_some
loop-pages-preserved-else-is_some g c =
    let life = g.B.Blob.life in
    let sum = g.H.Sum.sum_of in
    let old = life c.args.blob.now in
    let new = life c.read_at.new.self in
    let readable = old.present.readable in
    let size = c.physical_page_size-size.result in
    let n = c.loop-pages.pages in
    let P = non_zero_u16_get c.args.page_size in
    let page = page_at P (n - 1) readable in
    let read = read_gives ((n - 1) * size) size old (life c.loop-pages.blob) new c.in_ok-bytes.bytes c.loop-pages.invariant.looked c.in_ok-bytes.ensures.goes in
    let told = told_read sum P size (n - 1) c.as_ref.result.now c.in_ok-bytes.bytes readable c.slot_at-slot.result c.physical_page_size-size.ensures c.as_ref.ensures read c.slot_at-slot.ensures.slot in
    let value = value_read sum P size (n - 1) c.in_ok-bytes.bytes readable c.slot_at-slot.result c.in_ok-partial.partial c.physical_page_size-size.ensures read told c.in_ok-partial.ensures.ok in
    let none = found_none sum P page c.in_ok-partial.partial value (sym c.is_some.ensures ∙ c.if-is_some.false) in
    record {
      fewer = omega arith;
      same = last_none sum P n c.args.pages readable c.loop-pages.invariant.same c.loop-pages-test.true none;
      looked = looked_on ((n - 1) * size) size old (life c.loop-pages.blob) new c.in_ok-bytes.bytes c.loop-pages.invariant.looked c.in_ok-bytes.ensures.goes;
      answered = none_failed_on ((n - 1) * size) size old (life c.loop-pages.blob) new c.in_ok-bytes.bytes c.loop-pages.invariant.answered c.in_ok-bytes.ensures.goes;
      reads = down_page P size n old (life c.loop-pages.blob) new c.read_at.result c.physical_page_size-size.ensures c.loop-pages-test.true c.loop-pages.invariant.reads c.read_at.ensures.goes;
    }

-- it is none of those that are left
few_left : (sum : List ℕ → ℕ) (P n m : ℕ) (readable : List ℕ) → last_prefix sum P n readable ≡ last_prefix sum P m readable → (prefix_pages (last_prefix sum P m readable) - 1) * (P + 12) ≤ (n - 1) * (P + 12)
few_left sum P n m readable same =
    let within = (last_is sum P n readable).within in
    mul-le-mul_right (P + 12) (omega (arith, within, ap (λ (p : Prefix). prefix_pages p) same))

-- a page was read, whatever the answer
reads : (g : Over) (c : After-read_at g) → let P = non_zero_u16_get c.args.page_size in
    ReadsDownTo (P + 12) ((prefix_pages (last_prefix g.H.Sum.sum_of P c.args.pages (g.B.Blob.life c.args.blob.now).present.readable) - 1) * (P + 12)) (g.B.Blob.life c.args.blob.now) (g.B.Blob.life c.read_at.new.self)
reads g c =
    let life = g.B.Blob.life in
    let P = non_zero_u16_get c.args.page_size in
    let n = c.loop-pages.pages in
    let old = life c.args.blob.now in
    let new = life c.read_at.new.self in
    let whole = last_prefix g.H.Sum.sum_of P c.args.pages old.present.readable in
    down_lower (P + 12) ((n - 1) * (P + 12)) ((prefix_pages whole - 1) * (P + 12)) old new (few_left g.H.Sum.sum_of P n c.args.pages old.present.readable c.loop-pages.invariant.same)
    (down_page P c.physical_page_size-size.result n old (life c.loop-pages.blob) new c.read_at.result c.physical_page_size-size.ensures c.loop-pages-test.true c.loop-pages.invariant.reads c.read_at.ensures.goes)

pub returns-in_err-bytes-clause-costs : goal.returns-in_err-bytes-clause-costs
returns-in_err-bytes-clause-costs g c = reads g (goal.at.returns-in_err-bytes-clause-costs g c).After-read_at

pub returns-then-is_full-clause-costs : goal.returns-then-is_full-clause-costs
returns-then-is_full-clause-costs g c = reads g (goal.at.returns-then-is_full-clause-costs g c).After-read_at

pub returns-in_err-partial-clause-costs : goal.returns-in_err-partial-clause-costs
returns-in_err-partial-clause-costs g c = reads g (goal.at.returns-in_err-partial-clause-costs g c).After-read_at

pub returns-then-is_some-clause-costs : goal.returns-then-is_some-clause-costs
returns-then-is_some-clause-costs g c = reads g (goal.at.returns-then-is_some-clause-costs g c).After-read_at

pub returns-clause-costs : goal.returns-clause-costs
returns-clause-costs g c =
    let P = non_zero_u16_get c.args.page_size in
    let n = c.loop-pages.pages in
    let old = g.B.Blob.life c.args.blob.now in
    let whole = last_prefix g.H.Sum.sum_of P c.args.pages old.present.readable in
    let few = few_left g.H.Sum.sum_of P n c.args.pages old.present.readable c.loop-pages.invariant.same in
    let less : (n - 1) * (P + 12) ≤ n * (P + 12) = mul-le-mul_right (P + 12) (omega arith) in
    down_lower (P + 12) (n * (P + 12)) ((prefix_pages whole - 1) * (P + 12)) old (g.B.Blob.life c.loop-pages.blob) (omega (arith, few, less)) c.loop-pages.invariant.reads

pub loop-pages-init : goal.loop-pages-init
loop-pages-init g c =
    let old = g.B.Blob.life c.args.blob.now in
    let P = non_zero_u16_get c.args.page_size in
    record { fewer = omega arith; same = refl; looked = looked_start old; answered = none_failed_start old.present; reads = down_start (P + 12) (c.args.pages * (P + 12)) old c.requires.there }
