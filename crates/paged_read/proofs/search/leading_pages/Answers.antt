use Rattle.std.proofs.Common.{◌+◌, ◌*◌, ◌/◌, ◌≤◌, length, ◌∙◌, ap, arith, sym}
use Rattle.std.proofs.Math.Nat.{div-mul-le_self, mul-le-mul_left}
use Rattle.std.specs.Int.NonZero.{non_zero_u16_get}
use Rattle.page.specs.Page.{pages}
use Rattle.paged_read.specs.Ranges.{page_at}
use Rattle.paged_read.specs.Prefix.{prefix_of}
use Rattle.paged_read.proofs.Prefixes.{told_at, told_full, told_part, value_told, value_within, has_bytes, stands_next, stands_part}
use Rattle.paged_read.proofs.search.leading_pages.Goals as goal

pub value_at-requires-clause-within : goal.value_at-requires-clause-within
value_at-requires-clause-within g c =
    let P = non_zero_u16_get c.args.page_size in
    let bytes = c.args.bytes.now in
    let told = told_at g.H.Sum.sum_of P c.physical_page_size-size.result c.loop-page.page c.as_ref.result.now bytes c.slot_at-slot.result c.physical_page_size-size.ensures c.as_ref.ensures c.slot_at-slot.ensures.slot in
    let size = c.physical_page_size-size.result in
    let reach : size * (c.loop-page.page + 1) ≤ size * (c.len.result / size) = mul-le-mul_left size (let le : c.loop-page.page + 1 ≤ c.len.result / size = omega arith in le) in
    value_within g.H.Sum.sum_of P (page_at P c.loop-page.page bytes) c.slot_at-slot.result _ (length bytes) told (omega (arith, reach, div-mul-le_self c.len.result size))

pub returns-then-not-is_full-clause-ok : goal.returns-then-not-is_full-clause-ok
returns-then-not-is_full-clause-ok g c =
    let P = non_zero_u16_get c.args.page_size in
    let sum = g.H.Sum.sum_of in
    let bytes = c.args.bytes.now in
    let k = c.loop-page.page in
    let size = c.physical_page_size-size.result in
    let told = told_at sum P size k c.as_ref.result.now bytes c.slot_at-slot.result c.physical_page_size-size.ensures c.as_ref.ensures c.slot_at-slot.ensures.slot in
    let part = told_part sum P (page_at P k bytes) c.slot_at-slot.result c.is_full.result told c.is_full.ensures c.if-not-is_full.true in
    let value = value_told sum P size k bytes c.slot_at-slot.result c.in_ok-value_at.field-0 c.physical_page_size-size.ensures told c.in_ok-value_at.ensures.ok in
    ap (λ v. record { full_pages = k; partial = v }) value ∙ sym (stands_part sum P (prefix_of sum P (pages P bytes)) (c.len.result / size) k bytes (omega arith) c.loop-page.invariant part)

pub returns-then-not-is_full-clause-bytes : goal.returns-then-not-is_full-clause-bytes
returns-then-not-is_full-clause-bytes g c =
    has_bytes (non_zero_u16_get c.args.page_size) c.physical_page_size-size.result c.loop-page.page c.as_ref.result.now c.args.bytes.now c.in_ok-value_at.field-0 c.physical_page_size-size.ensures c.as_ref.ensures c.slot_at-slot.ensures.bytes

pub loop-page-preserved : goal.loop-page-preserved
loop-page-preserved g c =
    let P = non_zero_u16_get c.args.page_size in
    let sum = g.H.Sum.sum_of in
    let bytes = c.args.bytes.now in
    let k = c.loop-page.page in
    let size = c.physical_page_size-size.result in
    let told = told_at sum P size k c.as_ref.result.now bytes c.slot_at-slot.result c.physical_page_size-size.ensures c.as_ref.ensures c.slot_at-slot.ensures.slot in
    let full = told_full sum P (page_at P k bytes) c.slot_at-slot.result c.is_full.result told c.is_full.ensures c.if-not-is_full.false in
    stands_next sum P (prefix_of sum P (pages P bytes)) (c.len.result / size) k bytes (omega arith) c.loop-page.invariant full
