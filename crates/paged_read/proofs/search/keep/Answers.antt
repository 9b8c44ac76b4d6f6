use Rattle.std.proofs.Common.{◌≡◌, ◌+◌, ◌*◌, Some, length, arith, ap, subst}
use Rattle.std.specs.Prelude.{Option}
use Rattle.std.proofs.lemmas.Result.{on_ok_weaker}
use Rattle.std.specs.Int.NonZero.{non_zero_u16_get}
use Rattle.paged_read.specs.Hand.{HandHasRoom, HandState}
use Rattle.paged_read.proofs.Keeping.{end_within, value_end, values_added}
use Rattle.paged_read.proofs.search.keep.Given.{Over}
use Rattle.paged_read.proofs.search.keep.Goals as goal
use Rattle.paged_read.proofs.search.keep.Goals.{After-physical_page_size, After-value_len}

-- there is room for all
room : (g : Over) (c : After-physical_page_size g) → HandHasRoom (non_zero_u16_get c.args.page_size) (length c.args.bytes.now) (Some c.in-Some.hand)
room g c = subst (λ (k : Option HandState). HandHasRoom (non_zero_u16_get c.args.page_size) (length c.args.bytes.now) k) c.in-Some.is c.requires.room

-- where the values end
ends : (g : Over) (c : After-value_len g) → c.args.prefix.now.full_pages * c.physical_page_size.result + c.value_len.result ≡ value_end g.H.Sum.sum_of (non_zero_u16_get c.args.page_size) c.args.prefix.now
ends g c = omega (arith, ap (λ n. c.args.prefix.now.full_pages * n) c.physical_page_size.ensures, c.value_len.ensures)

pub overflow_mul-full : goal.overflow_mul-full
overflow_mul-full g c =
    let P = non_zero_u16_get c.args.page_size in
    omega (arith, ap (λ n. c.args.prefix.now.full_pages * n) c.physical_page_size.ensures, end_within g.H.Sum.sum_of P c.args.bytes.now c.args.prefix.now c.requires.prefix, (room g c).1)

pub overflow_add-full : goal.overflow_add-full
overflow_add-full g c =
    let P = non_zero_u16_get c.args.page_size in
    omega (arith, ends g c, end_within g.H.Sum.sum_of P c.args.bytes.now c.args.prefix.now c.requires.prefix, (room g (goal.at.overflow_add-full g c).After-physical_page_size).1)

pub slice-requires-clause-bound : goal.slice-requires-clause-bound
slice-requires-clause-bound g c = omega (arith, ends g c, end_within g.H.Sum.sum_of (non_zero_u16_get c.args.page_size) c.args.bytes.now c.args.prefix.now c.requires.prefix)

pub returns-clause-kept : goal.returns-clause-kept
returns-clause-kept g c =
    let sum = g.H.Sum.sum_of in
    let P = non_zero_u16_get c.args.page_size in
    let bytes = c.args.bytes.now in
    let full = c.args.prefix.now.full_pages * c.physical_page_size.result in
    let hand = c.in-Some.hand in
    let next = c.push.new.self in
    rw c.in-Some.is (on_ok_weaker c.push.result (λ added. values_added sum P bytes c.args.prefix.now c.requires.prefix hand next c.in_ok-slice.field-0 full c.value_len.result
    (room g (goal.at.returns-clause-kept g c).After-physical_page_size).0 (ends g (goal.at.returns-clause-kept g c).After-value_len) c.in_ok-slice.ensures.ok c.push.ensures.page_size added) c.push.ensures.bytes)
