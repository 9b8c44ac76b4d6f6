use Rattle.std.proofs.Common.{◌≡◌, ◌∙◌, ap, sym, arith, true≢false}
use Rattle.std.specs.Int.NonZero.{non_zero_u16_get}
use Rattle.page.specs.Page.{value_len}
use Rattle.paged_read.specs.Ranges.{page_at}
use Rattle.paged_read.proofs.ReadAheads.{slice_is_page, full_more}
use Rattle.paged_read.proofs.ahead.are_full.Goals as goal

pub loop-page-preserved : goal.loop-page-preserved
loop-page-preserved g c =
    let P = non_zero_u16_get c.args.page_size in
    let page = c.loop-page.page in
    let bytes = c.args.bytes.now in
    let is = slice_is_page P c.physical_page_size-size.result page bytes c.physical_page_size-size.ensures in
    full_more g.H.Sum.sum_of P page bytes c.loop-page.invariant
    (ap (λ l. value_len g.H.Sum.sum_of P l) (sym is) ∙ c.is_full.ensures.0 c.if-not-is_full.false)

pub returns-then-not-is_full : goal.returns-then-not-is_full
returns-then-not-is_full g c =
    let P = non_zero_u16_get c.args.page_size in
    let page = c.loop-page.page in
    let bytes = c.args.bytes.now in
    let is = slice_is_page P c.physical_page_size-size.result page bytes c.physical_page_size-size.ensures in (
      λ no. absurd (true≢false (sym no)),
      λ all.
          let full : value_len g.H.Sum.sum_of P (page_at P page bytes) ≡ P =
          all page (omega arith) c.loop-page-test.true in
          let yes = c.is_full.ensures.1 (ap (λ l. value_len g.H.Sum.sum_of P l) is ∙ full) in
          sym c.if-not-is_full.true ∙ yes,
    )
