use Rattle.std.proofs.Common.{◌≡◌, length, take}
use Rattle.cache.specs.CacheState.{pieces_left, with_pieces}
use Rattle.cache.proofs.cache.CacheRef.read_cached_many.Given as goal

abbrev pub invariant-loop-piece : goal.invariant-loop-piece
invariant-loop-piece l =
    (length l.buf ≡ length l.initial.buf)
    × (l.left.items ≡ pieces_left l.self l.id (take l.piece-index l.pieces))
    × (l.buf ≡ with_pieces l.self l.id (take l.piece-index l.pieces) l.initial.buf)
