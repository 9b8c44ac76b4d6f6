use Rattle.std.proofs.Common.{◌≡◌, ◌≤◌, length, take, slice_range}
use Rattle.std.specs.List.{concat}
use Rattle.page.proofs.buffer.Buffer.copy_to.Given as goal

abbrev pub invariant-loop-chunk : goal.invariant-loop-chunk
invariant-loop-chunk l = record {
  at : l.at ≡ length (concat (take l.chunk-index l.chunks));
  size : length l.buf ≡ length l.initial.buf;
  within : l.done ≤ length l.buf;
  bytes : take l.done l.buf ≡ slice_range (concat (take l.chunk-index l.chunks)) l.offset l.end;
}
