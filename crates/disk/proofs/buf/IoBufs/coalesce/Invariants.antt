use Rattle.std.proofs.Common.{◌≡◌, take}
use Rattle.std.specs.List.{concat}
use Rattle.disk.proofs.buf.IoBufs.coalesce.Given as goal

abbrev pub invariant-loop-buf : goal.invariant-loop-buf
invariant-loop-buf l = l.all.items ≡ concat (take l.buf-index l.buf-items)
