use Rattle.std.proofs.Common.{◌≡◌, ◌+◌, ◌*◌, ◌/◌, ◌≤◌, ℕ, length, ◌∙◌, ap, arith}
use Rattle.std.proofs.Math.Nat.{div-mul-le_self, mul-le-mul_left}
use Rattle.std.specs.Int.NonZero.{non_zero_u16_get}
use Rattle.page.specs.Page.{pieces}
use Rattle.paged.specs.Outlook.{values_of}
use Rattle.paged.proofs.Surveying.{one_more_has, one_more_lacks, values_few}
use Rattle.paged.proofs.outlook.values_in.Goals as goal
use Rattle.paged.proofs.outlook.values_in.Goals.{then-has_value, else-has_value}

pub has_value-requires : goal.has_value-requires
has_value-requires g c =
    let size = c.physical_page_size-size.result in
    let reach : size * (c.loop-page.page + 1) ≤ size * (length c.args.bytes.now / size) = mul-le-mul_left size (let le : c.loop-page.page + 1 ≤ length c.args.bytes.now / size = omega arith in le) in
    omega (arith, reach, div-mul-le_self (length c.args.bytes.now) size)

pub overflow_add-found : goal.overflow_add-found
overflow_add-found g c =
    let P = non_zero_u16_get c.args.page_size in
    omega (arith, c.loop-page.invariant, values_few g.H.Sum.sum_of P c.loop-page.page (P + 12) c.args.bytes.now)

pub loop-page-preserved : goal.loop-page-preserved
loop-page-preserved g c =
    let sum = g.H.Sum.sum_of in
    let P = non_zero_u16_get c.args.page_size in
    let size = c.physical_page_size-size.result in
    let k = c.loop-page.page in
    let is = c.physical_page_size-size.ensures in
    elim c.if-has_value.branch [
      | then-has_value w ↦ w.found-is ∙ one_more_has sum P size k c.loop-page.found c.args.bytes.now c.has_value.result is c.has_value.ensures c.loop-page.invariant w.if-has_value.true
      | else-has_value w ↦ w.found-is ∙ one_more_lacks sum P size k c.loop-page.found c.args.bytes.now c.has_value.result is c.has_value.ensures c.loop-page.invariant w.if-has_value.false
    ]

pub returns : goal.returns
returns g c =
    let P = non_zero_u16_get c.args.page_size in
    let bytes = c.args.bytes.now in
    let size = c.physical_page_size-size.result in
    let all : c.loop-page.page ≡ length bytes / (P + 12) = omega (arith, ap (λ (n : ℕ). length bytes / n) c.physical_page_size-size.ensures) in
    let told = values_of g.H.Sum.sum_of P (pieces c.loop-page.page (P + 12) bytes) in
    ◌∙◌ {b = told} c.loop-page.invariant (ap (λ (n : ℕ). values_of g.H.Sum.sum_of P (pieces n (P + 12) bytes)) all)
