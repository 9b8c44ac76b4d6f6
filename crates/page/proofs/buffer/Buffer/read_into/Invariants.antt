use Rattle.std.proofs.Common.{◌≡◌, ◌++◌, length, take, slice_range}
use Rattle.std.specs.List.{concat}
use Rattle.page.proofs.buffer.Buffer.read_into.Given as goal

abbrev pub invariant-loop-chunk : goal.invariant-loop-chunk
invariant-loop-chunk l = record {
  at : l.at ≡ length (concat (take l.chunk-index l.chunk-items));
  bytes : concat l.bufs ≡ concat l.initial.bufs ++ slice_range (concat (take l.chunk-index l.chunk-items)) l.start l.end;
}
