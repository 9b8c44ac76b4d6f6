use Rattle.std.proofs.Common.{◌≡◌, ◌≤◌, ◌+◌, ◌++◌, length, take, drop}
use Rattle.std.specs.Prelude.{vec_capacity}
use Rattle.std.specs.List.{concat}
use Rattle.disk.proofs.vec_blob.put_all.Given as goal

-- the buffers so far stand at the offset, and the room is no less
abbrev pub invariant-loop-buf : goal.invariant-loop-buf
invariant-loop-buf l =
    let so_far = concat (take l.buf-index l.buf-items) in
    record {
      at : l.at ≡ l.offset + length so_far;
      bytes : l.bytes.items ≡ take l.offset l.fn.bytes.items ++ so_far ++ drop l.at l.fn.bytes.items;
      room : vec_capacity l.fn.bytes ≤ vec_capacity l.bytes;
    }
