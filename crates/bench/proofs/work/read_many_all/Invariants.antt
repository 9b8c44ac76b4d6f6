use Rattle.std.proofs.Common.{◌≡◌, ◌*◌, length}
use Rattle.std.specs.Int.NonZero.{non_zero_usize_get}
use Rattle.paged.specs.Ready.{IsReady}
use Rattle.bench.proofs.work.read_many_all.Given as goal

abbrev pub invariant-loop : goal.invariant-loop
invariant-loop g l =
    IsReady g.H.Sum.sum_of l.writer l.cache (g.B.Blob.life l.blob)
    × (length l.buf ≡ length l.offsets * non_zero_usize_get l.len)
