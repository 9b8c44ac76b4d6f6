use Rattle.std.proofs.Common.{◌≡◌, ◌+◌, drop}
use Rattle.disk.specs.Torn.{torn_write}
use Rattle.disk.proofs.action.tear_write.Given as goal

-- the flags that are left, on what the others have done, are all the flags
abbrev pub invariant-loop-index : goal.invariant-loop-index
invariant-loop-index l =
    torn_write (drop l.index l.keep) (l.offset + l.index) (drop l.index l.bytes) l.image.items ≡ torn_write l.keep l.offset l.bytes l.fn.image.items
