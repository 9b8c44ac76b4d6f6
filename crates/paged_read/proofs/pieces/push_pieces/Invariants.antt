use Rattle.std.proofs.Common.{◌≡◌, ◌-◌, ◌++◌, map}
use Rattle.std.specs.List.{range_with_len}
use Rattle.std.specs.Int.NonZero.{non_zero_u16_get}
use Rattle.paged_read.specs.Pieces.{piece_of}
use Rattle.paged_read.proofs.pieces.push_pieces.Given as goal

abbrev pub invariant-loop-page : goal.invariant-loop-page
invariant-loop-page l =
    l.pieces.items ≡ l.initial.pieces.items ++ map (piece_of (non_zero_u16_get l.page_size) (l.offset, l.len) l.buf_offset) (range_with_len l.first (l.page - l.first))
