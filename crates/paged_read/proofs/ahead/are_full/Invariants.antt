use Rattle.std.specs.Int.NonZero.{non_zero_u16_get}
use Rattle.paged_read.specs.ReadAhead.{AreFullPages}
use Rattle.paged_read.proofs.ahead.are_full.Given as goal

abbrev pub invariant-loop-page : goal.invariant-loop-page
invariant-loop-page g l =
    AreFullPages g.H.Sum.sum_of (non_zero_u16_get l.page_size) 0 l.page l.bytes
