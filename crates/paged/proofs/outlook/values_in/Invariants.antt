use Rattle.std.proofs.Common.{◌≡◌, ◌+◌}
use Rattle.std.specs.Int.NonZero.{non_zero_u16_get}
use Rattle.page.specs.Page.{pieces}
use Rattle.paged.specs.Outlook.{values_of}
use Rattle.paged.proofs.outlook.values_in.Given as goal

abbrev pub invariant-loop-page : goal.invariant-loop-page
invariant-loop-page g l =
    let P = non_zero_u16_get l.fn.page_size in
    l.found ≡ values_of g.H.Sum.sum_of P (pieces l.page (P + 12) l.bytes)
